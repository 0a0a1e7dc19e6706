use mathlib.Core.Path.{sym, ◌∙◌}
use Rattle.rows.proofs.PastLaws.{gather_start, gather_in, gather_out, gather_end}
use Rattle.rows.proofs.SetLaws.{mark_is}
use Rattle.rows.proofs.having_past.Goals as goal

pub loop-row-init : goal.loop-row-init
loop-row-init c = rw c.into_iter-row-iterator.ensures.into_iter_gives (gather_start c.ranges.slots.fits)

pub loop-row-preserved-then-has_past : goal.loop-row-preserved-then-has_past
loop-row-preserved-then-has_past c =
    let s = c.in-Some.ensures.steps in
    rw (s.2, mark_is c.mark-found.ensures c.in-Some.row.inside, s.1) (gather_in c.loop-row.invariant s.0 (rw s.1 at (sym c.has_past.ensures ∙ c.if-has_past.true)))

pub loop-row-preserved : goal.loop-row-preserved
loop-row-preserved c =
    let s = c.in-Some.ensures.steps in
    rw s.2 (gather_out c.loop-row.invariant s.0 (rw s.1 at (sym c.has_past.ensures ∙ c.if-has_past.false)))

pub returns : goal.returns
returns c = gather_end c.loop-row.invariant c.in-None.ensures.steps
