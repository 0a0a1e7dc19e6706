-- `network::Network::leave_all` meets its contract: each station is left in its turn. Assumes nothing.
use Prim.Native.Nat.{◌%◌}
use native.Mathlib.Omega.{arith}
use borrow.Author.Rules.{rules}
use Rattle.network.proofs.NetLaws.{leaving_start, leaving_turn, left_all}
use Rattle.network.proofs.Network.leave_all.Goals as goal

pub loop-station-init : goal.loop-station-init
loop-station-init c = leaving_start (search rules)

pub loop-station-preserved : goal.loop-station-preserved
loop-station-preserved c = leaving_turn c.loop-station.invariant (omega (arith, c.loop-station.invariant.long)) c.hand_on.ensures

pub returns : goal.returns
returns c =
    left_all c.args.self.now.next c.args.self.now.free c.args.self.now.numbers c.args.self.now.ports c.args.self.now.stations c.args.from (c.args.slot.0 % 32) c.loop-station.invariant
    (omega (arith, c.loop-station.invariant.long)) c.vacate-self.ensures
