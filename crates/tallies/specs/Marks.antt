-- Marks of jobs: sets of places of the table of jobs, 512 marks in eight words, and tables of such sets, row after row.
--
-- Mark i of row r stands at r * 512 + i. The rows of `Preceded` are the predecessors of each job; those of `waiting` in `Sorted` are, for each job that is left, jobs that wait
-- for it.
-- Assumes nothing.
use Rattle.std.specs.Prelude.{◌≡◌, ◌⊎◌, Bool, true, false, not, ◌&&◌, ◌||◌, List, ℕ, ◌+◌, ◌*◌, ◌<◌, ltb, eqb, get_or}
use Rattle.marks.specs.Marks.{bit}
use Rattle.marks.specs.Words.{marked}
use Rattle.history.specs.Events.{History, opened, kept_steps, precedes, abandoned, has}
use Rattle.tallies.specs.Jobs.{looked}

-- mark i of a set of jobs
abbrev pub mark : List ℕ → ℕ → Bool
mark words i = marked 64 words i

-- mark i of row r
abbrev pub in_row : List ℕ → ℕ → ℕ → Bool
in_row words r i = marked 64 words (r * 512 + i)

-- the mark x is put, is struck; the others stay
abbrev pub Put : ℕ → List ℕ → List ℕ → Type 0
Put x words words' = (y : ℕ) → mark words' y ≡ (mark words y || eqb y x)

abbrev pub Struck : ℕ → List ℕ → List ℕ → Type 0
Struck x words words' = (y : ℕ) → mark words' y ≡ (mark words y && not (eqb y x))

-- row r gains what row q of another table has; the other rows stay
abbrev pub Joined : ℕ → ℕ → List ℕ → List ℕ → List ℕ → Type 0
Joined r q others words words' = (j i : ℕ) → i < 512 → in_row words' j i ≡ (in_row words j i || (eqb j r && in_row others q i))

-- row r gains what the rows have that a step at row q looks at; the other rows stay
abbrev pub Gained : ℕ → ℕ → List ℕ → List ℕ → List ℕ → Type 0
Gained r q others words words' = (j i : ℕ) → i < 512 → in_row words' j i ≡ (in_row words j i || (eqb j r && looked (λ x. in_row others x i) q))

-- the lowest mark, or 512 where there is none
abbrev pub LowestMark : List ℕ → ℕ → Type 0
LowestMark words r = ((r < 512) × (mark words r ≡ true) × ((i : ℕ) → i < r → mark words i ≡ false)) ⊎ ((r ≡ 512) × ((i : ℕ) → i < 512 → mark words i ≡ false))

-- a mark that the row and the set have both, or 512 where there is none
abbrev pub Common : List ℕ → ℕ → List ℕ → ℕ → Type 0
Common rows j words r = ((r < 512) × (mark words r ≡ true) × (in_row rows j r ≡ true)) ⊎ ((r ≡ 512) × ((i : ℕ) → i < 512 → mark words i ≡ true → in_row rows j i ≡ false))

-- ---- the sets of the lister

-- row j has the marks of the jobs that precede job j, by their places in the table
abbrev pub Preceded : History → ℕ → List ℕ → Type 0
Preceded h count preds = (j i : ℕ) → j < count → i < 512 → in_row preds j i ≡ (ltb i count && precedes (kept_steps h) (get_or (opened h) i 0) (get_or (opened h) j 0))

-- the set has the kept jobs
abbrev pub KeptMarks : History → ℕ → List ℕ → Type 0
KeptMarks h count left = (i : ℕ) → i < 512 → mark left i ≡ (ltb i count && not (has (abandoned h) (get_or (opened h) i 0)))

-- no predecessor of job i is left
abbrev pub Free : List ℕ → List ℕ → ℕ → Type 0
Free preds left i = (p : ℕ) → p < 512 → mark left p ≡ true → in_row preds i p ≡ false

-- job i waits for a predecessor that is left
abbrev pub Waits : List ℕ → List ℕ → List ℕ → ℕ → Type 0
Waits preds left waiting i = (b : ℕ) × (b < 512) × (mark left b ≡ true) × (in_row preds i b ≡ true) × (in_row waiting b i ≡ true)

-- of the jobs left: the ready ones have no predecessor left, each other one waits, and only jobs that are left wait for one that is left, which precedes them
pub record Sorted (preds left ready waiting : List ℕ) : Type 0 where
  pub ready_left : (i : ℕ) → i < 512 → mark ready i ≡ true → mark left i ≡ true
  pub ready_free : (i : ℕ) → i < 512 → mark ready i ≡ true → Free preds left i
  pub others_wait : (i : ℕ) → i < 512 → mark left i ≡ true → mark ready i ≡ false → Waits preds left waiting i
  pub who_waits : (b i : ℕ) → b < 512 → i < 512 → mark left b ≡ true → in_row waiting b i ≡ true → (mark left i ≡ true) × (in_row preds i b ≡ true)

-- each job of W is ready, where no predecessor of it is left, or waits; nothing else changes
pub record Settled (W : ℕ → Type 0) (preds left ready waiting ready' waiting' : List ℕ) : Type 0 where
  pub stays_ready : (i : ℕ) → i < 512 → mark ready i ≡ true → mark ready' i ≡ true
  pub new_ready : (i : ℕ) → i < 512 → mark ready' i ≡ true → (mark ready i ≡ true) ⊎ (W i × Free preds left i)
  pub stays_waiting : (b i : ℕ) → b < 512 → i < 512 → in_row waiting b i ≡ true → in_row waiting' b i ≡ true
  pub new_waiting : (b i : ℕ) → b < 512 → i < 512 → in_row waiting' b i ≡ true → (in_row waiting b i ≡ true) ⊎ (W i × (mark left b ≡ true) × (in_row preds i b ≡ true))
  pub each_settled : (i : ℕ) → i < 512 → W i → mark ready' i ≡ false → Waits preds left waiting' i

-- one job; the jobs of a word of marks, the first of which is job `base`
abbrev pub Only : ℕ → ℕ → Type 0
Only j i = i ≡ j

abbrev pub In_word : ℕ → ℕ → ℕ → Type 0
In_word base word i = (k : ℕ) × (k < 64) × (i ≡ base + k) × (bit word k ≡ true)
