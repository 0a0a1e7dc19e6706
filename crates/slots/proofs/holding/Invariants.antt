-- `slots::holding` meets its contract. The loop's invariant: the marks found are those of the slots passed that hold the number, free or not.
-- Assumes nothing.
use Prim.Native.Nat.{ℕ}
use mathlib.Core.Path.{◌≡◌}
use mathlib.Core.Bool.{Bool}
use mathlib.Core.List.{List}
use lib.Dec.{eqb}
use lib.ListN.{get_or}
use Rattle.marks.specs.Marks.{mask_of}
use Rattle.slots.proofs.holding.Given as goal

-- the slot holds the number
abbrev pub holds : List ℕ → ℕ → ℕ → Bool
holds numbers job k = eqb (get_or numbers k 0) job

abbrev pub invariant-loop-i : goal.invariant-loop-i
invariant-loop-i l = l.found ≡ mask_of l.i (holds l.numbers l.job.0)
