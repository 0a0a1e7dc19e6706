-- The code and the place of what comes as a count or as a refusal.
-- Assumes nothing.
use Rattle.std.specs.Prelude.{ℕ}
use Rattle.std.specs.declared.result.Result.{Result}
use Rattle.std.specs.declared.result.Result.TheVariants.{Ok, Err}

-- 0 for a count, and the refusal's code
abbrev pub code_in : {E : Type 0} → (E → ℕ) → Result ℕ E → ℕ
code_in number (Ok n) = 0
code_in number (Err e) = number e

-- the count, or the refusal's place
abbrev pub place_in : {E : Type 0} → (E → ℕ) → Result ℕ E → ℕ
place_in place_of (Ok n) = n
place_in place_of (Err e) = place_of e
