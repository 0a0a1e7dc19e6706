-- `logs::halve` meets its contract. The loop's invariant is `Halving` and `Turned`, and a turn leaves the upper or the lower half of the numbers.
-- The measure is how many are left. Assumes nothing.
use Rattle.tallies.specs.FindLaws.{Halving}
use Rattle.logs.proofs.SearchLaws.{Turned}
use Rattle.logs.proofs.halve.Given as goal

abbrev pub invariant-loop-size : goal.invariant-loop-size
invariant-loop-size l = Halving l.count l.job l.all l.low l.size × Turned l.all l.job l.count l.low l.size

abbrev pub decreases-loop-size : goal.decreases-loop-size
decreases-loop-size l = l.size
