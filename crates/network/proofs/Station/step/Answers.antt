-- `network::Station::step` meets its contract: what closes a circle, and what is done where nothing does. Assumes nothing.
use Rattle.rows.specs.Rows.{kind_of}
use Rattle.network.proofs.NetLaws.{at_circle, at_done}
use Rattle.network.proofs.Station.step.Goals as goal

pub returns-then-closes : goal.returns-then-closes
returns-then-closes c =
    at_circle c.args.free c.args.joined.now c.args.self.now.sets (kind_of c.args.deed) c.args.slot.0 c.args.cell.0 c.requires.0 c.requires.1 c.touching-touched.ensures c.closes.ensures c.if-closes.true

pub returns : goal.returns
returns c =
    at_done c.args.free c.args.joined.now c.args.self.now.sets (kind_of c.args.deed) c.args.slot.0 c.args.cell.0 c.requires.0 c.requires.1 c.touching-touched.ensures c.closes.ensures c.if-closes.false c.step_slot.ensures
