-- What the contracts on sets of jobs say, beside `Gained` of tallies.
-- Assumes nothing.
use Rattle.std.specs.Prelude.{◌≡◌, true, false, List, Option, None, Some, ℕ, ◌^◌, ◌≤◌, ◌<◌, length, get_or}
use Rattle.tallies.specs.Marks.{mark, Gained}

-- the lowest mark of the 512, and none only where no mark is put
abbrev pub LowestOf : List ℕ → Option ℕ → Type 0
LowestOf words None = (i : ℕ) → i < 512 → mark words i ≡ false
LowestOf words (Some r) = (r < 512) × (mark words r ≡ true) × ((i : ℕ) → i < r → mark words i ≡ false)

-- so many words, each of 64 marks
pub record Table (n : ℕ) (words : List ℕ) : Type 0 where
  pub long : length words ≡ n
  pub fit : (k : ℕ) → get_or words k 0 < 2 ^ 64

-- there is such a job, and a step at this row looks at what was done before: an end, at row 769, looks at nothing, and rows past it there are none
abbrev pub LooksBack : ℕ → ℕ → Type 0
LooksBack job row = (job < 512) × (row ≤ 768)

-- then the job's row gains what stands in the rows looked at; else all stays
pub record Gains (job row : ℕ) (seen preds preds' : List ℕ) : Type 0 where
  pub gained : LooksBack job row → Table 4096 preds' × Gained job row seen preds preds'
  pub stays : (LooksBack job row → ⊥) → preds' ≡ preds
