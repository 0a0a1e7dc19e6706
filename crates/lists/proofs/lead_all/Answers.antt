use Prim.Native.Nat.{◌<◌}
use native.Mathlib.Omega.{arith}
use Rattle.lists.proofs.LeadLaws.{leading_turn, grown_turn}
use Rattle.lists.proofs.lead_all.Goals as goal

pub loop-i-preserved : goal.loop-i-preserved
loop-i-preserved c =
    let q : c.loop-i.i < c.args.count = omega arith in
    (leading_turn c.loop-i.invariant.0 q c.lead_on-grown.ensures, grown_turn c.loop-i.invariant.0 (omega arith) c.loop-i.invariant.1 c.lead_on-grown.ensures)
