-- `slots::crowd` meets its contract, by `crowd_count`. Assumes nothing.
use Rattle.slots.proofs.PortLaws.{crowd_count}
use Rattle.slots.proofs.crowd.Goals as goal

pub returns : goal.returns
returns c = crowd_count c.args.free c.args.ports.now c.args.port c.ranges.free.fits
