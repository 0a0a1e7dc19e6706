-- `text::put_number` meets its contract. The loop's invariant: the digits that are still to write, with what stands from the place on, are those of the number.
-- Assumes nothing.
use Rattle.std.proofs.Common.{◌++◌, ◌≤◌, drop}
use Rattle.text.specs.Decimal.{decimal}
use Rattle.text.proofs.PutLaws.{Spelled}
use Rattle.text.proofs.put_number.Given as goal

abbrev pub invariant-loop-i : goal.invariant-loop-i
invariant-loop-i l = (Spelled (decimal l.n ++ drop l.end l.initial.out) l.at l.initial.out l.out l.i l.rest) × (l.at ≤ l.i)
