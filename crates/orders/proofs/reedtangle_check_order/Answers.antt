-- `orders::reedtangle_check_order` meets its contract: the code is at most 16 and the place at most 4,095, so that both fit in one number. Assumes nothing.
use mathlib.Core.Path.{ap, ◌∙◌}
use native.Mathlib.Omega.{arith}
use Rattle.verdicts.specs.Verdicts.{Verdict}
use Rattle.verdicts_laws.specs.SizeLaws.{check_small}
use Rattle.orders.proofs.InOne.{fits_in_one}
use Rattle.orders.proofs.reedtangle_check_order.Goals as goal

pub returns : goal.returns
returns c =
    let e = c.check_order.ensures in
    c.in_one.ensures ∙ fits_in_one (omega arith) (check_small c.args.log.now c.args.order.now) (ap (λ (v : Verdict). v.code) e) (ap (λ (v : Verdict). v.place) e)
