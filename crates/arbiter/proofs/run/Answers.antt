-- `arbiter::run` meets its contract, by the laws of ReplayLaws. Assumes nothing.
use mathlib.Core.Path.{refl}
use Prim.Native.Nat.{◌+◌, ◌*◌, ◌≤◌}
use native.Mathlib.Omega.{arith}
use lib.ListN.{length}
use Rattle.arbiter.proofs.ReplayLaws.{replay_start, replay_fits, replay_turn, replay_end, replay_short}
use Rattle.arbiter.proofs.run.Goals as goal

pub returns-then-answers-count : goal.returns-then-answers-count
returns-then-answers-count g c = replay_short c.args.first.0 c.args.requests.now c.args.answers.now refl c.if-answers-count.true

pub loop-i-init : goal.loop-i-init
loop-i-init g c = replay_start c.fresh-state.ensures

pub put_number-requires : goal.put_number-requires
put_number-requires g c =
    let fits : c.loop-i.i * 8 + 8 ≤ length c.loop-i.answers = replay_fits c.loop-i.invariant c.if-answers-count.false c.loop-i-test.true in
    omega (arith, fits)

pub put_number-requires-in-loop-i : goal.put_number-requires-in-loop-i
put_number-requires-in-loop-i g c =
    let fits : c.loop-i.i * 8 + 8 ≤ length c.loop-i.answers = replay_fits c.loop-i.invariant c.if-answers-count.false c.loop-i-test.true in
    omega (arith, fits)

pub loop-i-preserved : goal.loop-i-preserved
loop-i-preserved g c =
    replay_turn c.loop-i.invariant c.ask-answer.result c.if-answers-count.false c.loop-i-test.true c.request_at-request.ensures c.ask-answer.ensures.answered c.ask-answer.ensures.left
    c.code.ensures c.job.ensures c.put_number.ensures c.put_number-in-loop-i.ensures

pub returns : goal.returns
returns g c = replay_end c.loop-i.invariant refl c.loop-i-test.false c.if-answers-count.false
