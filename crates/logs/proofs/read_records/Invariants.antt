-- `logs::read_records` meets its contract. The loop's invariant: the reader stands at the next record, and those passed are read (`Along`), once the parts were blank at first.
-- Assumes nothing.
use Prim.Native.Nat.{◌≤◌}
use Rattle.std.specs.Iterator.Adapters.{enumerate_count}
use Rattle.logs.specs.Logs.{BlankIn}
use Rattle.logs.proofs.ReadLaws.{Along, Standing}
use Rattle.logs.proofs.read_records.Given as goal

abbrev pub invariant-loop-place : goal.invariant-loop-place
invariant-loop-place l =
    let at = l.initial in
    (l.jobs ≤ 512) × Standing l.log l.place-iterator × (BlankIn at.numbers at.states at.told at.jobs → Along l.log (enumerate_count l.place-iterator) l.numbers l.states l.told l.jobs)
