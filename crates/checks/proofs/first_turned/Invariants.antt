-- `checks::first_turned` meets its contract. The loop's invariant: so many records are passed (`Passed`), for every history and order that the lists tell of. A law of PassLaws
-- or TurnedLaws for each way through the loop, and for each way out. Assumes nothing.
use mathlib.Core.Path.{◌≡◌}
use mathlib.Core.List.{List}
use Prim.Native.Nat.{ℕ}
use lib.ListN.{length}
use Rattle.history.specs.Events.{History}
use Rattle.tallies.specs.TurnedLaws.{Given, Passed}
use Rattle.logs.specs.declared.table.Table.{Table}
use Rattle.checks.proofs.first_turned.Given as goal

-- after i records
abbrev pub Turning : Table → ℕ → List ℕ → List ℕ → ℕ → Type 0
Turning t n placed seen i =
    (length seen ≡ 770) × ((h : History) (order : List ℕ) → Given h n t.numbers t.states t.told placed order t.count → Passed h n t.told order i seen)

abbrev pub invariant-loop-i : goal.invariant-loop-i
invariant-loop-i l = Turning l.table l.n l.placed l.seen l.i
