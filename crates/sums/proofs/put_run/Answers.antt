use Rattle.std.proofs.Common.{arith}
use lib.ListN.{length-set}
use Rattle.sums.specs.ByteLaws.{copy_turn}
use Rattle.sums.proofs.put_run.Goals as goal

pub loop-i-preserved : goal.loop-i-preserved
loop-i-preserved c = (simp length-set c.loop-i.invariant.0, copy_turn c.args.bytes.now c.args.at c.args.run.now c.loop-i.i (omega arith) (omega arith) c.loop-i.invariant.1)
