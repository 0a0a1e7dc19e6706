-- `exporter::put_all` meets its contract. The loop's invariant: what is put down is the text of the records passed (`Saying`), for every history without adds that the lists tell of, and it has
-- at most 17 bytes for each. Assumes nothing.
use Prim.Native.Nat.{◌*◌, ◌≤◌}
use Rattle.history.specs.Events.{History}
use Rattle.logs.specs.Logs.{Holds}
use Rattle.notation.specs.Notation.{NoAdd}
use Rattle.exporter.proofs.TextLaws.{Saying}
use Rattle.exporter.proofs.put_all.Given as goal

abbrev pub invariant-loop-step : goal.invariant-loop-step
invariant-loop-step l =
    (l.at ≤ l.step-index * 17) × ((h : History) → Holds h l.n l.table → NoAdd h → Saying h l.n l.table.told l.step-index l.initial.out l.out l.at)
