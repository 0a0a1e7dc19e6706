use mathlib.Core.Path.{sym, subst, ◌∙◌}
use mathlib.Core.List.{List}
use Prim.Native.Nat.{ℕ, ◌-◌, ◌<◌}
use native.Mathlib.Omega.{arith}
use lib.Bits.{bit_and}
use lib.Count.{count_trailing_zeros}
use Rattle.tallies.specs.Marks.{Settled, In_word}
use Rattle.tallies.specs.SortLaws.{Settling, settling_inside, settling_turn, settling_end}
use Rattle.lists.proofs.Queue.settle_word.Goals as goal

pub overflow_add-job : goal.overflow_add-job
overflow_add-job c =
    let low : count_trailing_zeros 64 c.loop-todo.todo < 64 = settling_inside c.loop-todo.invariant.1 c.loop-todo-test.true in
    record { fits = omega (arith, low) }

pub settle-requires : goal.settle-requires
settle-requires c =
    let low : count_trailing_zeros 64 c.loop-todo.todo < 64 = settling_inside c.loop-todo.invariant.1 c.loop-todo-test.true in
    omega (arith, low)

pub loop-todo-preserved : goal.loop-todo-preserved
loop-todo-preserved c =
    let old = c.args.self.now in
    let new = c.settle.new.self in
    let e = c.settle.ensures.0 in (
      e ∙ c.loop-todo.invariant.0,
      subst (λ (left : List ℕ). Settling c.args.base c.args.word (bit_and c.loop-todo.todo (c.loop-todo.todo - 1)) c.args.preds.now left old.ready old.waiting new.ready new.waiting) (sym e)
          (settling_turn c.loop-todo.invariant.1 c.loop-todo-test.true c.settle.ensures.1),
    )

pub returns : goal.returns
returns c =
    let old = c.args.self.now in
    let now = c.loop-todo.self in
    let e = c.loop-todo.invariant.0 in
    (e, subst (λ (left : List ℕ). Settled (In_word c.args.base c.args.word) c.args.preds.now left old.ready old.waiting now.ready now.waiting) e (settling_end c.loop-todo.invariant.1 c.loop-todo-test.false))
