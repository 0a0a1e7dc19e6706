-- What the contracts say: a place in a lent list stays within the list.
-- Assumes nothing.
use Rattle.std.specs.Prelude.{List, ℕ, ◌≤◌, length}

-- a place within the list as it was leads to a place within the list as it is
abbrev pub Stays : ℕ → List ℕ → List ℕ → ℕ → Type 0
Stays at out out' r = at ≤ length out → r ≤ length out'
