-- `lines::lines_by` meets its contract. The loop's invariant: the lines written, with those of the records that are left from the state as it is, are those of the input (`Run`). Assumes nothing.
use Rattle.arbiter.specs.Replay.{held_of}
use Rattle.lines.proofs.RunLaws.{Run}
use Rattle.lines.proofs.lines_by.Given as goal

abbrev pub invariant-loop-i : goal.invariant-loop-i
invariant-loop-i g l =
    Run g.P.Profile.answer_by g.P.Profile.next_by g.P.Profile.counted l.place (held_of l.initial.state) l.requests l.initial.out (held_of l.state) l.out l.i l.at l.counted
