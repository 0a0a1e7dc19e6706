-- `rows::leading` meets its contract. The loop's invariant: the marks found are those of the rows passed that lead to the slot, free or not. Assumes nothing.
use Prim.Native.Nat.{ℕ}
use mathlib.Core.Path.{◌≡◌}
use mathlib.Core.Bool.{Bool}
use mathlib.Core.List.{List}
use lib.ListN.{get_or}
use Rattle.marks.specs.Marks.{bit, mask_of}
use Rattle.rows.proofs.leading.Given as goal

-- the row leads to the slot
abbrev pub leads_to : List ℕ → ℕ → ℕ → Bool
leads_to leads s k = bit (get_or leads k 0) s

abbrev pub invariant-loop-i : goal.invariant-loop-i
invariant-loop-i l = l.found ≡ mask_of l.i (leads_to l.leads l.own.at)
