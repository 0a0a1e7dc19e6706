use mathlib.Core.Path.{sym, ◌∙◌}
use lib.Pow.{ones_sub-lt}
use Rattle.rows.proofs.PastLaws.{gather_start, gather_in, gather_out, gather_end}
use Rattle.rows.proofs.SetLaws.{mark_is}
use Rattle.rows.proofs.meeting_some.Goals as goal

pub loop-row-init : goal.loop-row-init
loop-row-init c = rw c.into_iter-row-iterator.ensures.into_iter_gives (gather_start (ones_sub-lt 32 c.args.free))

pub loop-row-preserved-then-meets_some : goal.loop-row-preserved-then-meets_some
loop-row-preserved-then-meets_some c =
    let s = c.in-Some.ensures.steps in
    rw (s.2, mark_is c.mark-found.ensures c.in-Some.row.inside, s.1) (gather_in c.loop-row.invariant s.0 (rw s.1 at (sym c.meets_some.ensures ∙ c.if-meets_some.true)))

pub loop-row-preserved : goal.loop-row-preserved
loop-row-preserved c =
    let s = c.in-Some.ensures.steps in
    rw s.2 (gather_out c.loop-row.invariant s.0 (rw s.1 at (sym c.meets_some.ensures ∙ c.if-meets_some.false)))

pub returns : goal.returns
returns c = gather_end c.loop-row.invariant c.in-None.ensures.steps
