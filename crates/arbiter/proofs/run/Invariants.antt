-- `arbiter::run` meets its contract. The loop's invariant: so many records are answered (`Replaying`). Assumes nothing.
use Rattle.arbiter.specs.Replay.{held_of}
use Rattle.arbiter.proofs.ReplayLaws.{Replaying}
use Rattle.arbiter.proofs.run.Given as goal

abbrev pub invariant-loop-i : goal.invariant-loop-i
invariant-loop-i g l = Replaying l.fn.first.0 l.requests l.initial.answers l.i (held_of l.state) l.answers
