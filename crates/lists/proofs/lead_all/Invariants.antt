-- `lists::lead_all` meets its contract. The loop's invariant: the set has grown by what leads to the jobs passed (`Leading`). Assumes nothing.
use Rattle.lists.specs.Sheets.{Leading, Grown}
use Rattle.lists.proofs.lead_all.Given as goal

abbrev pub invariant-loop-i : goal.invariant-loop-i
invariant-loop-i l = Leading l.preds l.count l.i l.initial.moving l.moving l.grown × Grown l.initial.moving l.moving l.grown
