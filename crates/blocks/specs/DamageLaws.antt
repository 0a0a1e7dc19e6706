-- The words in which the theorems of proofs/DamageLaws.antt are said.
-- Assumes nothing.
use Rattle.std.specs.Prelude.{List, [], ◌∷◌, ℕ, ◌<◌}

-- four bytes
pub data Word : List ℕ → Type 0 where
  word : {a b c d : ℕ} → a < 256 → b < 256 → c < 256 → d < 256 → Word (a ∷ b ∷ c ∷ d ∷ [])
