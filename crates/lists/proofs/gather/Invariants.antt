-- `lists::gather` meets its contract. The loop's invariant: so many records are gathered (`Gathered`), for every history that the table tells of. A law of PassLaws or GatherLaws for each
-- way through the loop, and for its end. Assumes nothing.
use mathlib.Core.Path.{◌≡◌}
use mathlib.Core.List.{List}
use Prim.Native.Nat.{ℕ}
use lib.ListN.{length}
use Rattle.history.specs.Events.{History}
use Rattle.tallies.specs.Jobs.{Blank}
use Rattle.tallies.specs.GatherLaws.{Gathered}
use Rattle.logs.specs.Logs.{Holds}
use Rattle.logs.specs.declared.table.Table.{Table}
use Rattle.lists.proofs.gather.Given as goal

-- after i records
abbrev pub Gathering : Table → ℕ → List ℕ → List ℕ → List ℕ → ℕ → Type 0
Gathering table n preds₀ preds seen i = (length seen ≡ 6160) × ((h : History) → Holds h n table → Blank preds₀ → Gathered h n table.told i preds seen)

abbrev pub invariant-loop-step : goal.invariant-loop-step
invariant-loop-step l = Gathering l.table l.n l.initial.preds l.preds l.seen l.step-index
