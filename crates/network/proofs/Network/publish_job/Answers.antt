-- `network::Network::publish_job` meets its contract: by what the write and the end ensure. Assumes nothing.
use Rattle.slots.proofs.Exits.{handed}
use Rattle.network.specs.Nets.{net_of}
use Rattle.network.proofs.NetLaws.{does_publish_refused, does_publish}
use Rattle.network.proofs.Network.publish_job.Goals as goal

pub returns-in_err-written : goal.returns-in_err-written
returns-in_err-written c =
    rw (handed c.from_residual.result c.from_residual.ensures.1) (does_publish_refused {n = net_of c.args.self.now} c.step_job.ensures c.in_err-written.was)

pub returns : goal.returns
returns c = does_publish {n = net_of c.args.self.now} c.step_job.ensures c.in_ok-written.was c.end_job.ensures
