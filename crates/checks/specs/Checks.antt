-- What the contracts of the checker say: the code and place of each answer, and what is told of a table of jobs.
-- Assumes nothing.
use Rattle.std.specs.Prelude.{◌≡◌, true, false, cond, List, ℕ, min, length, Option, None, Some, Result}
use Rattle.history.specs.Events.{History, kept}
use Rattle.verdicts.specs.Verdicts.{Verdict, verdict, missing}
use Rattle.tallies.specs.Counts.{kept_below, unplaced}
use Rattle.codes.specs.Codes.{code_in, place_in}
use Rattle.logs.specs.Faults.{code_of, place_of}
use Rattle.checks.specs.declared.Refusal.{Refusal}
use Rattle.checks.specs.declared.Refusal.TheVariants.{Log, Entry, Backward}

-- document 01's code and place of each refusal
abbrev pub refusal_code : Refusal → ℕ
refusal_code (Log f) = code_of f
refusal_code (Entry p) = 15
refusal_code (Backward p) = 16

abbrev pub refusal_place : Refusal → ℕ
refusal_place (Log f) = place_of f
refusal_place (Entry p) = p
refusal_place (Backward p) = p

-- and of each answer: of an accepted order code 0 and the count of kept jobs
abbrev pub numbered : Result ℕ Refusal → Verdict
numbered r = verdict (code_in refusal_code r) (place_in refusal_place r)

-- of the first so many jobs of a table, which has 512: how many are kept, or none where a kept one has no place
abbrev pub kept_as : List ℕ → List ℕ → ℕ → Option ℕ
kept_as states placed count = let n = min count 512 in cond (unplaced states placed n) None (Some (kept_below states n))

-- a kept job is missing from the order; or none is, and so many are kept
abbrev pub Keeps : History → List ℕ → Option ℕ → Type 0
Keeps h order None = missing (kept h) order ≡ true
Keeps h order (Some n) = (missing (kept h) order ≡ false) × (n ≡ length (kept h))
