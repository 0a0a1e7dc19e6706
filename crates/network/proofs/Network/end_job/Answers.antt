-- `network::Network::end_job` meets its contract: a law of NetLaws for each way out. Assumes nothing.
use mathlib.Core.Path.{sym, ◌∙◌}
use Rattle.slots.proofs.Exits.{no_slot}
use Rattle.slots.proofs.LowestLaws.{slot_found}
use Rattle.stations.specs.Stations.{master}
use Rattle.network.specs.Nets.{net_of}
use Rattle.network.proofs.NetLaws.{does_end_not_open, does_end}
use Rattle.network.proofs.Network.end_job.Goals as goal

pub returns-in_err-slot : goal.returns-in_err-slot
returns-in_err-slot c =
    let p = no_slot _ c.from_residual.result c.in_err-slot.ensures.value c.from_residual.ensures.1 in
    rw p.1 (does_end_not_open {n = net_of c.args.self.now} (sym c.slot_for.ensures ∙ p.0))

pub returns : goal.returns
returns c =
    let f = slot_found (master (net_of c.args.self.now)) c.args.job.0 (sym c.slot_for.ensures ∙ c.in_ok-slot.ensures.ok_part) in
    does_end (net_of c.args.self.now) c.leading-from.result c.args.job f c.leave_all.ensures c.join_leads-joined.ensures c.leading-from.ensures
