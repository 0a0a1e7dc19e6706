use mathlib.Core.Path.{sym, ap, subst, ◌∙◌}
use mathlib.Core.List.{List}
use Prim.Native.Nat.{ℕ, ◌+◌, ◌*◌, ◌<◌}
use native.Mathlib.Omega.{arith}
use lib.ListN.{get_or}
use Rattle.tallies.specs.Marks.{mark, in_row, Struck, Sorted, Settled}
use Rattle.tallies.specs.MarkLaws.{row_word}
use Rattle.tallies.specs.SortLaws.{Passed, passed_turn, row_stays, struck_gone, next_sorted}
use Rattle.lists.proofs.Queue.place.Goals as goal

pub loop-w-preserved : goal.loop-w-preserved
loop-w-preserved c =
    let s = c.loop-w.invariant.1 in
    let old = c.args.self.now in
    let now = c.loop-w.self in
    let new = c.settle_word.new.self in
    let e = c.settle_word.ensures.0 in
    let job = c.args.job in
    let q : c.loop-w.w < 8 = omega arith in
    let gone = ap (λ (left : List ℕ). mark left job) c.loop-w.invariant.0 ∙ struck_gone job old.left c.strike_mark.new.words c.strike_mark.ensures.1 in (
      e ∙ c.loop-w.invariant.0,
      subst (λ (left : List ℕ). Settled (Passed (in_row old.waiting job) (c.loop-w.w + 1)) c.args.preds.now left c.strike_mark-2.new.words old.waiting new.ready new.waiting) (sym e)
          (passed_turn (in_row old.waiting job) c.loop-w.w (get_or now.waiting (job * 8 + c.loop-w.w) 0) s c.settle_word.ensures.1
          (λ i r. row_stays s job (c.loop-w.w * 64 + i) c.requires (omega arith) gone ∙ row_word now.waiting job c.loop-w.w i r)),
    )

pub returns : goal.returns
returns c =
    λ sorted is_ready.
    let old = c.args.self.now in
    let now = c.loop-w.self in
    let e = c.loop-w.invariant.0 in
    let struck = subst (λ (left : List ℕ). Settled (Passed (in_row old.waiting c.args.job) c.loop-w.w) c.args.preds.now left c.strike_mark-2.new.words old.waiting now.ready now.waiting) e c.loop-w.invariant.1 in
    subst (λ (left : List ℕ). Struck c.args.job old.left left × Sorted c.args.preds.now left now.ready now.waiting) (sym e)
    (c.strike_mark.ensures.1, next_sorted c.requires c.loop-w-test.false sorted is_ready c.strike_mark.ensures.1 c.strike_mark-2.ensures.1 struck)
