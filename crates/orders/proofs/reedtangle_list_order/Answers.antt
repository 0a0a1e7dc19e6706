-- `orders::reedtangle_list_order` meets its contract: the code is at most 18 and the place at most 4,095, so that both fit in one number. Assumes nothing.
use mathlib.Core.Path.{ap, ◌∙◌}
use native.Mathlib.Omega.{arith}
use Rattle.verdicts.specs.Verdicts.{Listed}
use Rattle.verdicts_laws.specs.SizeLaws.{list_small}
use Rattle.lists.proofs.ListedLaws.{same_code, same_place, same_list}
use Rattle.orders.proofs.InOne.{fits_in_one}
use Rattle.orders.proofs.reedtangle_list_order.Goals as goal

pub returns : goal.returns
returns c =
    let a = c.list_order.result in
    let out = c.list_order.new.out in
    let e = c.list_order.ensures in (
      c.in_one.ensures ∙ fits_in_one (omega arith) (list_small c.args.log.now c.args.out.now) (same_code a out ∙ ap (λ (l : Listed). l.code) e) (same_place a out ∙ ap (λ (l : Listed). l.place) e),
      same_list a out ∙ ap (λ (l : Listed). l.list) e,
    )
