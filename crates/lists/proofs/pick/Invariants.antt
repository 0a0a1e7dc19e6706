-- `lists::pick` meets its contract. The loop's invariant: of the entries passed, those whose jobs are not in the set stand in the sheet (`Picking`). Assumes nothing.
use mathlib.Core.Path.{◌≡◌}
use mathlib.Core.Bool.{Bool, not}
use Prim.Native.Nat.{ℕ, ◌≤◌, ◌<◌}
use lib.ListN.{length, get_or}
use Rattle.tallies.specs.Jobs.{Rises}
use Rattle.tallies.specs.Marks.{mark}
use Rattle.lists.specs.Sheets.{Numbered}
use Rattle.lists.proofs.PickLaws.{Picking}
use Rattle.lists.proofs.pick.Given as goal

abbrev pub invariant-loop-entry : goal.invariant-loop-entry
invariant-loop-entry l =
    (l.n ≤ l.entry-index) × (length l.picked ≡ 512)
    × ((p : ℕ → Bool) → Rises l.table.count l.table.numbers → ((k : ℕ) → k < l.kept → Numbered l.table.numbers l.table.count (get_or l.order k 0))
    → ((k m : ℕ) → k < l.kept → m < l.table.count → get_or l.table.numbers m 0 ≡ get_or l.order k 0 → p (get_or l.order k 0) ≡ not (mark l.moving m)) → Picking p l.order l.entry-index l.picked l.n)
