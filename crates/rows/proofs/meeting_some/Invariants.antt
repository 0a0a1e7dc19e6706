-- `rows::meeting_some` meets its contract. The loop's invariant: the marks found are those of the slots passed that some cell touches. Assumes nothing.
use Prim.Native.Nat.{◌-◌, ◌^◌}
use Rattle.rows.specs.Rows.{meets_some}
use Rattle.rows.proofs.PastLaws.{Gathering}
use Rattle.rows.proofs.meeting_some.Given as goal

abbrev pub invariant-loop-row : goal.invariant-loop-row
invariant-loop-row l = Gathering 32 (2 ^ 32 - 1 - l.free) (meets_some l.sets l.slot.at l.cells.words) l.row-iterator.todo l.found
