use mathlib.Core.Path.{sym, subst, ◌∙◌}
use mathlib.Core.List.{List}
use Prim.Native.Nat.{ℕ, ◌+◌}
use lib.ListN.{get_or}
use Rattle.tallies.specs.Marks.{mark, Settled}
use Rattle.tallies.specs.MarkLaws.{word_mark}
use Rattle.tallies.specs.SortLaws.{Passed, passed_turn, first_sorted}
use Rattle.lists.proofs.Queue.sort.Goals as goal

pub loop-w-preserved : goal.loop-w-preserved
loop-w-preserved c =
    let old = c.args.self.now in
    let now = c.loop-w.self in
    let new = c.settle_word.new.self in
    let e = c.settle_word.ensures.0 in (
      e ∙ c.loop-w.invariant.0,
      subst (λ (left : List ℕ). Settled (Passed (mark left) (c.loop-w.w + 1)) c.args.preds.now left old.ready old.waiting new.ready new.waiting) (sym e)
          (passed_turn (mark now.left) c.loop-w.w (get_or now.left c.loop-w.w 0) c.loop-w.invariant.1 c.settle_word.ensures.1 (word_mark now.left c.loop-w.w)),
    )

pub returns : goal.returns
returns c = (c.loop-w.invariant.0, λ zr zw. first_sorted c.loop-w.w c.loop-w-test.false c.loop-w.invariant.1 zr zw)
