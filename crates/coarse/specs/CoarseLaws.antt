-- The words in which the theorems of proofs/CoarseLaws.antt are said.
-- Assumes nothing.
use Rattle.std.specs.Prelude.{Bool, ℕ}
use Rattle.std.proofs.Math.Bool.{not, cond}

-- the codes of a step in their order: is its group above 255, is its job open, does it close a circle?
abbrev pub code_by : Bool → Bool → Bool → ℕ
code_by beyond is_open closes = cond beyond 2 (cond (not is_open) 3 (cond closes 7 0))
