-- `batch::run` meets its contract: an item that is granted takes the run on, and one that is refused ends it. Assumes nothing.
use mathlib.Core.Path.{refl}
use native.Mathlib.Omega.{arith}
use Rattle.batch.proofs.RunLaws.{item_at, run_turn, run_stop, run_end}
use Rattle.batch.proofs.run.Goals as goal

pub returns-in-Err : goal.returns-in-Err
returns-in-Err c =
    let e = c.as_chunks.ensures in
    λ ports. run_stop (c.loop-i.invariant ports) (omega (arith, e.front_len)) (item_at c.args.requests.now c.loop-i.i e.front refl (omega (arith, e.front_len))) (c.step_item.ensures ports) c.in-Err.is

pub loop-i-preserved : goal.loop-i-preserved
loop-i-preserved c =
    let e = c.as_chunks.ensures in
    λ ports. run_turn (c.loop-i.invariant ports) (omega (arith, e.front_len)) (item_at c.args.requests.now c.loop-i.i e.front refl (omega (arith, e.front_len))) (c.step_item.ensures ports) c.in_default.is

pub returns : goal.returns
returns c = λ ports. run_end (c.loop-i.invariant ports) c.as_chunks.ensures.front_len c.loop-i-test.false
