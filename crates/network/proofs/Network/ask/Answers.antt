-- `network::Network::ask` meets its contract: a law of NetRequests for each kind, from what the function called there ensures. Assumes nothing.
use Rattle.rows.specs.declared.Deed.TheVariants.{Read, Write, Add}
use Rattle.slots.proofs.Exits.{handed}
use Rattle.network.specs.Nets.{net_of}
use Rattle.network.proofs.NetRequests.{steps_malformed, steps_open, steps_step, steps_end, steps_abandon, steps_publish}
use Rattle.network.proofs.Network.ask.Goals as goal

pub returns-in_err-asked : goal.returns-in_err-asked
returns-in_err-asked c =
    let e = handed c.from_residual.result c.from_residual.ensures.1 in
    rw (e, c.in_err-asked.ensures.0) (steps_malformed {n = net_of c.args.self.now} c.in_err-asked.ensures.1)

pub returns-in-Open : goal.returns-in-Open
returns-in-Open c = steps_open {n = net_of c.args.self.now} c.in_ok-asked.asked c.in_ok-asked.ensures c.in-Open.is c.open_all.ensures

pub returns-in-Read : goal.returns-in-Read
returns-in-Read c = steps_step {n = net_of c.args.self.now} c.in_ok-asked.asked c.in_ok-asked.ensures Read c.in-Read.is c.step_job.ensures

pub returns-in-Write : goal.returns-in-Write
returns-in-Write c = steps_step {n = net_of c.args.self.now} c.in_ok-asked.asked c.in_ok-asked.ensures Write c.in-Write.is c.step_job-in-Write.ensures

pub returns-in-End : goal.returns-in-End
returns-in-End c = steps_end {n = net_of c.args.self.now} c.in_ok-asked.asked c.in_ok-asked.ensures c.in-End.is c.end_job.ensures

pub returns-in-Abandon : goal.returns-in-Abandon
returns-in-Abandon c = steps_abandon {n = net_of c.args.self.now} c.in_ok-asked.asked c.in_ok-asked.ensures c.in-Abandon.is c.abandon_job.ensures

pub returns-in-Publish : goal.returns-in-Publish
returns-in-Publish c = steps_publish {n = net_of c.args.self.now} c.in_ok-asked.asked c.in_ok-asked.ensures c.in-Publish.is c.publish_job.ensures

pub returns-in-Add : goal.returns-in-Add
returns-in-Add c = steps_step {n = net_of c.args.self.now} c.in_ok-asked.asked c.in_ok-asked.ensures Add c.in-Add.is c.step_job-in-Add.ensures
