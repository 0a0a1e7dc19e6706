-- What the contracts say: bytes put into a lent list at a place, where there is room for them.
-- Assumes nothing.
use Rattle.std.specs.Prelude.{◌≡◌, Bool, cond, List, ◌++◌, ℕ, ◌+◌, leb, length, take, drop}

-- whether there is room for the bytes from the place on
abbrev pub room : ℕ → List ℕ → List ℕ → Bool
room at bytes out = leb (at + length bytes) (length out)

-- where there is room, the bytes stand at the place, the rest is as it was, and r is the place past them; where there is none, nothing moves and r is the place
pub record Lays (at : ℕ) (bytes out out' : List ℕ) (r : ℕ) : Type 0 where
  pub past : r ≡ cond (room at bytes out) (at + length bytes) at
  pub content : out' ≡ cond (room at bytes out) (take at out ++ bytes ++ drop (at + length bytes) out) out
