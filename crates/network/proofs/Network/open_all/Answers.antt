-- `network::Network::open_all` meets its contract: by what the master and station 0 did, and then the two others. Assumes nothing.
use borrow.Author.Rules.{rules}
use Rattle.slots.proofs.Exits.{handed}
use Rattle.network.proofs.NetRequests.{does_open_refused, does_open}
use Rattle.network.proofs.Network.open_all.Goals as goal

pub returns-in_err-job : goal.returns-in_err-job
returns-in_err-job c = rw (handed c.from_residual.result c.from_residual.ensures.1) (does_open_refused c.args.self.now (search rules) c.open_job.ensures c.in_err-job.was)

pub returns : goal.returns
returns c = does_open c.args.self.now (search rules) c.open_job.ensures c.in_ok-job.was (search rules) c.open_slot.ensures c.open_slot-2.ensures
