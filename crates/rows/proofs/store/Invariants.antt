-- `rows::store` meets its contract. The loop's invariant: so many words of the set are stored. Assumes nothing.
use mathlib.Core.Path.{◌≡◌}
use Rattle.rows.proofs.SetLaws.{written}
use Rattle.rows.proofs.store.Given as goal

abbrev pub invariant-loop-i : goal.invariant-loop-i
invariant-loop-i l = l.all ≡ written l.initial.all l.at l.fn.set.words l.i
