-- `lists::mark_where` meets its contract. The loop's invariant: of the jobs passed, those that stand as asked for are as many as counted, and they are marked (`Marking`). Assumes nothing.
use mathlib.Core.Path.{◌≡◌}
use mathlib.Core.Bool.{Bool}
use Prim.Native.Nat.{ℕ, ◌≤◌}
use lib.ListN.{length, get_or, take}
use Rattle.graph.specs.Lists.{only}
use Rattle.tallies.specs.Jobs.{Blank}
use Rattle.tallies.specs.MarkLaws.{Marking}
use Rattle.lists.specs.Sheets.{Asks}
use Rattle.lists.proofs.mark_where.Given as goal

abbrev pub invariant-loop-i : goal.invariant-loop-i
invariant-loop-i g l =
    (l.many ≤ l.i)
    × ((p : ℕ → Bool) → Asks (goal.F-post g) l.asked p → Blank l.initial.marks → (l.many ≡ length (only p (take l.i l.table.states))) × Marking (λ k. p (get_or l.table.states k 0)) l.i l.marks)
