-- A small code and a small place fit in one number: code times 2^32 plus place is below 2^64.
-- Assumes nothing.
use mathlib.Core.Path.{◌≡◌}
use Prim.Native.Nat.{ℕ, ◌+◌, ◌*◌, ◌%◌, ◌^◌, ◌<◌}
use native.Mathlib.Omega.{arith}
use Rattle.verdicts_laws.specs.SizeLaws.{Small}

-- what is told as `code` and `place` is the code and the place that the definition gives
pub fits_in_one : {most code place code' place' : ℕ} → most < 256 → Small most code place → code' ≡ code → place' ≡ place
    → (code' * 4294967296 + place') % 2 ^ 64 ≡ code * 4294967296 + place
fits_in_one few s e f = let c = s.code_small in let p = s.place_small in omega arith
