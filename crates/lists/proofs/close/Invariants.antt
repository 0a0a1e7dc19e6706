-- `lists::close` meets its contract. The loop's invariant: the set has grown by no more than the jobs that are led to (`Leading`). The measure is the marks that the set
-- can still gain. Assumes nothing.
use mathlib.Core.Bool.{true}
use Rattle.lists.specs.Sheets.{Leading}
use Rattle.lists.proofs.LeadLaws.{to_gain}
use Rattle.lists.proofs.close.Given as goal

abbrev pub invariant-loop : goal.invariant-loop
invariant-loop l = Leading l.preds l.count l.count l.initial.moving l.moving true

abbrev pub decreases-loop : goal.decreases-loop
decreases-loop l = to_gain l.moving true
