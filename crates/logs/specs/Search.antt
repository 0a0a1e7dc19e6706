-- How a job is looked for among the numbers of a table.
-- Assumes nothing.
use Rattle.std.specs.Prelude.{◌≡◌, cond, List, ℕ, zero, suc, ◌+◌, ◌-◌, ◌/◌, ◌<◌, leb, ltb, eqb, get_or, Option, Some, None}
use Rattle.tallies.specs.Jobs.{Rises}

-- a place among the first so many where the job stands; that there is none is told of numbers that rise
abbrev pub Found : List ℕ → ℕ → ℕ → Option ℕ → Type 0
Found l count j (Some i) = (i < count) × (get_or l i 0 ≡ j)
Found l count j None = Rises count l → (i : ℕ) → i < count → get_or l i 0 ≡ j → ⊥

-- These say which answer is given where the numbers do not rise, so that there is one.

-- by halves, among so many numbers from the place low on, in at most n turns: up where the number in the middle is at most the job's
abbrev pub halved : ℕ → List ℕ → ℕ → ℕ → ℕ → ℕ
halved zero l j low size = low
halved (suc n) l j low size = halved n l j (low + cond (leb (get_or l (low + size / 2) 0) j) (size / 2) 0) (size - size / 2)

-- a place among the first so many where the job stands there, and else another answer
abbrev pub there : List ℕ → ℕ → ℕ → ℕ → Option ℕ → Option ℕ
there l count j at other = cond (ltb at count) (cond (eqb (get_or l at 0) j) (Some at) other) other

-- the difference to the first number, and else by halves
abbrev pub searched : List ℕ → ℕ → ℕ → Option ℕ
searched l count j =
    let halves = there l count j (halved count l j 0 count) None in
    cond (leb (get_or l 0 0) j) (there l count j (j - get_or l 0 0) halves) halves
