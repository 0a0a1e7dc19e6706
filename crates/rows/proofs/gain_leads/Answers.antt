use mathlib.Core.Path.{refl}
use Rattle.marks.specs.MaskLaws.{rewriting_turn, rewriting_end}
use Rattle.rows.proofs.gain_leads.Goals as goal

pub loop-row-preserved : goal.loop-row-preserved
loop-row-preserved c =
    rw (c.in-Some.ensures.steps.2, c.index.ensures, c.in-Some.ensures.steps.1)
    (rewriting_turn c.loop-row.invariant c.in-Some.ensures.steps.0 refl)

pub returns : goal.returns
returns c = rewriting_end c.loop-row.invariant c.in-None.ensures.steps
