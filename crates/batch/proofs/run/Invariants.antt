-- `batch::run` meets its contract. The loop's invariant: so many items are granted (`Running`), whatever the ports are. Assumes nothing.
use mathlib.Core.List.{List}
use Prim.Native.Nat.{ℕ}
use Rattle.slots.specs.Lent.{lent}
use Rattle.batch.proofs.RunLaws.{Running}
use Rattle.batch.proofs.run.Given as goal

abbrev pub invariant-loop-i : goal.invariant-loop-i
invariant-loop-i l =
    (ports : List ℕ) → Running (lent l.next l.free l.initial.numbers l.initial.leads l.initial.sets ports) l.requests l.i (lent l.next l.free l.numbers l.leads l.sets ports)
