-- `rows::gain_leads` meets its contract. The loop's invariant: the rows of the marks visited have the marks gained, and the others are as they were. Assumes nothing.
use lib.Bits.{bit_or}
use Rattle.marks.specs.MaskLaws.{Rewriting}
use Rattle.rows.proofs.gain_leads.Given as goal

abbrev pub invariant-loop-row : goal.invariant-loop-row
invariant-loop-row l = Rewriting 32 l.from (λ x. bit_or x l.marks) l.initial.leads l.row-iterator.todo l.leads
