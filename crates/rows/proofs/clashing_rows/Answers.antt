use native.Mathlib.Omega.{arith}
use mathlib.Core.Path.{sym, ◌∙◌}
use Rattle.marks.specs.MaskLaws.{mask_in, mask_out}
use Rattle.rows.specs.Rows.{kind_of, met}
use Rattle.rows.proofs.SetLaws.{mark_is}
use Rattle.rows.proofs.clashing_rows.Goals as goal
use Rattle.rows.proofs.clashing_rows.Goals.{then-meets, else-meets}

pub loop-at-preserved : goal.loop-at-preserved
loop-at-preserved c =
    let f = met c.args.sets.now (kind_of c.args.step.deed) c.args.step.cell.0 in
    elim c.if-meets.branch [
      | then-meets w ↦ w.found-is ∙ rw (mark_is w.mark-found.ensures (omega arith)) (mask_in 32 c.loop-at.at f c.loop-at.invariant (sym c.meets.ensures ∙ w.if-meets.true) (omega arith))
      | else-meets w ↦ w.found-is ∙ mask_out c.loop-at.at f c.loop-at.invariant (sym c.meets.ensures ∙ w.if-meets.false)
    ]
