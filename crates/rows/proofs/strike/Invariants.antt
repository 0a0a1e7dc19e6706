-- `rows::strike` meets its contract. The loop's invariant: each row passed is without the slot's mark, and the others are as they were. Assumes nothing.
use lib.Dec.{ltb}
use Rattle.marks.specs.Marks.{without}
use Rattle.marks.specs.MaskLaws.{Rewritten}
use Rattle.rows.proofs.strike.Given as goal

abbrev pub invariant-loop-row : goal.invariant-loop-row
invariant-loop-row l = Rewritten 32 (λ k. ltb k l.row-index) (λ x. without x l.slot.at) l.initial.leads l.leads
