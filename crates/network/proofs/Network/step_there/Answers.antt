-- `network::Network::step_there` meets its contract, by that of the station's step. Assumes nothing.
use borrow.Author.Rules.{rules}
use Rattle.rows.specs.Rows.{kind_of}
use Rattle.network.proofs.NetLaws.{there}
use Rattle.network.proofs.Network.step_there.Goals as goal

pub returns : goal.returns
returns c = there c.args.self.now (kind_of c.args.deed) c.args.slot.0 c.args.cell.0 (search rules) c.station_of.ensures c.join_leads-joined.ensures c.step.ensures
