-- The words in which the theorems of proofs/RunLaws.antt are said.
-- Assumes nothing.
use Rattle.std.proofs.Math.Path.{◌≡◌}
use Rattle.std.specs.Prelude.{◌⊎◌, ℕ, ◌%◌, ◌<◌}

-- a length that is no multiple, or above the most
abbrev pub Off : ℕ → ℕ → ℕ → Type 0
Off size most l = (l % size ≡ 0 → ⊥) ⊎ (most < l)
