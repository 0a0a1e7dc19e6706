use mathlib.Core.Path.{subst}
use mathlib.Core.Bool.{Bool, true}
use Prim.Native.Nat.{◌<◌}
use Rattle.lists.specs.Sheets.{Leading}
use Rattle.lists.proofs.LeadLaws.{leading_on, to_gain, gains_less}
use Rattle.lists.proofs.close.Goals as goal

pub loop-smaller : goal.loop-smaller
loop-smaller c =
    subst (λ (b : Bool). to_gain c.lead_all.new.moving b < to_gain c.loop.moving true) c.loop-test.true
    (gains_less c.lead_all.result c.lead_all.ensures.0 c.lead_all.ensures.1)

pub loop-preserved : goal.loop-preserved
loop-preserved c =
    subst (Leading c.args.preds.now c.args.count c.args.count c.args.moving.now c.lead_all.new.moving) c.loop-test.true (leading_on c.loop.invariant c.lead_all.ensures.0)

pub returns : goal.returns
returns c =
    subst (Leading c.args.preds.now c.args.count c.args.count c.args.moving.now c.lead_all.new.moving) c.loop-test.false (leading_on c.loop.invariant c.lead_all.ensures.0)
