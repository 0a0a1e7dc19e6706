-- The kept jobs of a table by how its jobs stand: how many there are, and whether one of them has no place.
-- Assumes nothing.
use Rattle.std.specs.Prelude.{Bool, false, not, ◌&&◌, ◌||◌, cond, List, ℕ, zero, suc, ◌+◌, eqb, get_or}

-- how many of the first so many jobs are not abandoned
abbrev pub kept_below : List ℕ → ℕ → ℕ
kept_below states zero = 0
kept_below states (suc n) = kept_below states n + cond (eqb (get_or states n 0) 4) 0 1

-- has one of those no place?
abbrev pub unplaced : List ℕ → List ℕ → ℕ → Bool
unplaced states placed zero = false
unplaced states placed (suc n) = unplaced states placed n || (not (eqb (get_or states n 0) 4) && eqb (get_or placed n 0) 0)
