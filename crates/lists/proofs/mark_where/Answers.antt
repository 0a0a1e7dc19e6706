use mathlib.Core.Path.{◌≡◌, refl, sym, ap, subst, ◌∙◌}
use Prim.Native.Nat.{ℕ, ◌+◌, ◌<◌}
use native.Mathlib.Omega.{arith}
use borrow.Author.Rules.{rules}
use mir.Syntax.{w8}
use mir.Val.{Fits}
use lib.ListN.{length, get_or, take}
use lib.Seq.{get_or-take}
use Rattle.graph.specs.Lists.{only}
use Rattle.tallies.specs.Marks.{Put}
use Rattle.tallies.specs.MarkLaws.{Marking, marking_start, marking_put, marking_pass, count_one, count_none}
use Rattle.lists.proofs.mark_where.Goals as goal
use Rattle.lists.proofs.mark_where.Goals.{then-asked, else-asked}

pub loop-i-init : goal.loop-i-init
loop-i-init g c = (omega arith, λ p asks blank. (refl, marking_start (λ k. p (get_or c.args.table.now.states k 0)) c.args.marks.now blank))

pub loop-i-preserved : goal.loop-i-preserved
loop-i-preserved g c =
    let i = c.loop-i.i in
    let states = c.args.table.now.states in
    let q : c.loop-i.i < c.args.table.now.count = omega arith in
    let same = get_or-take c.args.table.now.count c.args.table.now.states c.loop-i.i 0 q in
    let small : Fits w8 (get_or (take c.args.table.now.count c.args.table.now.states) c.loop-i.i 0) = search rules in (
      elim c.if-asked.branch [ then-asked w ↦ omega arith | else-asked w ↦ omega arith ],
      λ p asks blank.
          let k = c.loop-i.invariant.1 p asks blank in
          let e : p (get_or states i 0) ≡ c.asked.result = ap p (sym same) ∙ sym (asks (get_or (take c.args.table.now.count states) i 0) c.asked.result small.fits c.asked.ensures) in
          elim c.if-asked.branch [
            | then-asked w ↦ (
              w.many-is ∙ ap (λ (m : ℕ). m + 1) k.0 ∙ sym (count_one p states i (omega arith) (e ∙ w.if-asked.true)),
              marking_put k.1 c.if-asked.marks (e ∙ w.if-asked.true) (subst (Put i c.loop-i.marks) (sym w.marks-is) w.put_mark.ensures.1),
            )
            | else-asked w ↦ (
              w.many-is ∙ k.0 ∙ sym (count_none p states i (omega arith) (e ∙ w.if-asked.false)),
              subst (Marking (λ k. p (get_or states k 0)) (i + 1)) (sym w.marks-is) (marking_pass k.1 (e ∙ w.if-asked.false)),
            )
          ],
    )

pub returns : goal.returns
returns g c = (
  omega arith,
  λ p asks blank.
      let k = c.loop-i.invariant.1 p asks blank in
      subst (λ (n : ℕ). (c.loop-i.many ≡ length (only p (take n c.args.table.now.states))) × Marking (λ i. p (get_or c.args.table.now.states i 0)) n c.loop-i.marks) (omega arith) k,
)
