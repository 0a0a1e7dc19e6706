use mathlib.Core.Path.{◌≡◌, sym, ap, subst, subst₂, ◌∙◌}
use mathlib.Core.Bool.{not}
use Prim.Native.Nat.{ℕ, ◌+◌, ◌<◌}
use native.Mathlib.Omega.{arith}
use lib.ListN.{length, get_or, take, set, length-set}
use lib.Seq.{get_or-take}
use Rattle.tallies.specs.Marks.{mark}
use Rattle.lists.specs.Sheets.{Numbered}
use Rattle.lists.proofs.PickLaws.{Picking, picking_one, picking_none}
use Rattle.lists.proofs.pick.Goals as goal
use Rattle.lists.proofs.pick.Goals.{then-rests, else-rests}

pub loop-entry-preserved : goal.loop-entry-preserved
loop-entry-preserved c =
    let i = c.loop-entry.entry-index in
    let q : c.loop-entry.entry-index < c.args.kept = omega arith in
    let wide : length c.args.order.now ≡ 512 = c.told-order in
    let same = get_or-take c.args.kept c.args.order.now i 0 q in (
      elim c.if-rests.branch [ then-rests w ↦ omega arith | else-rests w ↦ omega arith ],
      elim c.if-rests.branch [ then-rests w ↦ ap length w.picked-is ∙ length-set c.loop-entry.picked c.loop-entry.n _ ∙ c.loop-entry.invariant.1 | else-rests w ↦ ap length w.picked-is ∙ c.loop-entry.invariant.1 ],
      λ p rise numbered tells.
          let k = c.loop-entry.invariant.2 p rise numbered tells in
          let f : (m : ℕ) × (m < c.args.table.now.count) × (get_or c.args.table.now.numbers m 0 ≡ get_or (take c.args.kept c.args.order.now) i 0) × (c.rests.result ≡ not (mark c.args.moving.now m)) =
          c.rests.ensures rise (subst (Numbered c.args.table.now.numbers c.args.table.now.count) (sym same) (numbered i q)) in
          let e = tells i f.0 q f.1 (f.2 ∙ same) ∙ sym f.3 in
          elim c.if-rests.branch [
            | then-rests w ↦
                subst₂ (Picking p c.args.order.now (i + 1)) (sym (w.picked-is ∙ ap (set c.loop-entry.picked c.loop-entry.n) same)) (sym w.n-is)
                (picking_one k (omega arith) (omega arith) (e ∙ w.if-rests.true))
            | else-rests w ↦ subst₂ (Picking p c.args.order.now (i + 1)) (sym w.picked-is) (sym w.n-is) (picking_none k (omega arith) (e ∙ w.if-rests.false))
          ],
    )
