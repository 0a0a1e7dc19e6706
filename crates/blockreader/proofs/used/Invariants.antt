-- `blockreader::used` meets its contract. The loop's invariant: the bytes passed are zeros, so that what is asked is asked of the rest. Assumes nothing.
use Rattle.std.proofs.Common.{◌≡◌, ◌-◌, ◌%◌, eqb, drop}
use Rattle.graph.specs.Decide.{every_of}
use Rattle.blockreader.proofs.used.Given as goal

abbrev pub invariant-loop-i : goal.invariant-loop-i
invariant-loop-i l = (l.i % 4 ≡ 0) × (every_of (eqb 0) (drop l.from l.front) ≡ every_of (eqb 0) (drop l.i l.front))

abbrev pub decreases-loop-i : goal.decreases-loop-i
decreases-loop-i l = 504 - l.i
