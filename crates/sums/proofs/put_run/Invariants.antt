-- `sums::put_run` meets its contract. The loop's invariant: the bytes passed are put. Assumes nothing.
use Rattle.std.proofs.Common.{◌≡◌, length}
use Rattle.std.proofs.Math.Seq.{paste}
use Rattle.sums.proofs.put_run.Given as goal

abbrev pub invariant-loop-i : goal.invariant-loop-i
invariant-loop-i l = (length l.bytes ≡ length l.initial.bytes) × (l.bytes ≡ paste l.initial.bytes l.at l.run l.i)
