-- `rows::fold_sets` meets its contract. The loop's invariant: the rows of `from` that are passed have taken over, and no other word has changed. Assumes nothing.
use Rattle.rows.proofs.SetLaws.{Folding}
use Rattle.rows.proofs.fold_sets.Given as goal

abbrev pub invariant-loop-row : goal.invariant-loop-row
invariant-loop-row l = Folding 512 l.from l.slot.at l.initial.sets l.row-iterator.todo l.sets
