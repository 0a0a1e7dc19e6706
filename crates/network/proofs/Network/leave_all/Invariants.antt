-- `network::Network::leave_all` meets its contract. The loop's invariant: the stations passed are left (`Leaving`). Assumes nothing.
use Prim.Native.Nat.{◌%◌}
use Rattle.marks.specs.Marks.{bit}
use Rattle.network.proofs.NetLaws.{Leaving}
use Rattle.network.proofs.Network.leave_all.Given as goal

abbrev pub invariant-loop-station : goal.invariant-loop-station
invariant-loop-station l = Leaving l.free (bit l.from) (l.slot.0 % 32) l.initial.station-items l.station-index l.station-items
