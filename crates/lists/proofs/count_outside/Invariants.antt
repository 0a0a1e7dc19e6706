-- `lists::count_outside` meets its contract. The loop's invariant: of the jobs passed, so many pass the test. Assumes nothing.
use mathlib.Core.Path.{◌≡◌}
use mathlib.Core.Bool.{Bool}
use mathlib.Core.List.{List}
use Prim.Native.Nat.{ℕ, ◌≤◌}
use lib.ListN.{length, take}
use Rattle.graph.specs.Lists.{only}
use Rattle.lists.specs.Sheets.{Outside}
use Rattle.lists.proofs.count_outside.Given as goal

abbrev pub invariant-loop-i : goal.invariant-loop-i
invariant-loop-i l = (l.others ≤ l.i) × ((p : ℕ → Bool) (x : List ℕ) → length x ≡ l.table.count → Outside p x l.table.count l.table.states l.moving → l.others ≡ length (only p (take l.i x)))
