-- `slots::put_under` meets its contract. The loop's invariant: the slot's mark is taken out of the masks passed. Assumes nothing.
use Rattle.slots.proofs.PortLaws.{Struck}
use Rattle.slots.proofs.put_under.Given as goal

abbrev pub invariant-loop-mask : goal.invariant-loop-mask
invariant-loop-mask l = Struck l.initial.ports l.fn.slot.0 l.mask-index l.ports
