-- `rows::having_past` meets its contract. The loop's invariant: the marks found are those of the slots passed that have a past. Assumes nothing.
use Rattle.held.specs.Held.{has_past}
use Rattle.rows.specs.Rows.{sets_only}
use Rattle.rows.proofs.PastLaws.{Gathering}
use Rattle.rows.proofs.having_past.Given as goal

abbrev pub invariant-loop-row : goal.invariant-loop-row
invariant-loop-row l = Gathering 32 l.slots (has_past (sets_only l.sets)) l.row-iterator.todo l.found
