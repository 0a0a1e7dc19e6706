-- `network::Network::abandon_job` meets its contract: a law of NetLaws for each way out. Assumes nothing.
use mathlib.Core.Path.{sym, ◌∙◌}
use Rattle.slots.proofs.Exits.{no_slot}
use Rattle.slots.proofs.LowestLaws.{slot_found}
use Rattle.stations.specs.Stations.{master}
use Rattle.network.specs.Nets.{net_of}
use Rattle.network.proofs.NetLaws.{does_abandon_not_open, does_altered, does_abandon}
use Rattle.network.proofs.Network.abandon_job.Goals as goal

pub returns-in_err-slot : goal.returns-in_err-slot
returns-in_err-slot c =
    let p = no_slot _ c.from_residual.result c.in_err-slot.ensures.value c.from_residual.ensures.1 in
    rw p.1 (does_abandon_not_open {n = net_of c.args.self.now} (sym c.slot_for.ensures ∙ p.0))

pub returns-then-some_altered : goal.returns-then-some_altered
returns-then-some_altered c =
    let f = slot_found (master (net_of c.args.self.now)) c.args.job.0 (sym c.slot_for.ensures ∙ c.in_ok-slot.ensures.ok_part) in
    does_altered (net_of c.args.self.now) 0 c.args.job f c.some_altered.ensures c.if-some_altered.true

pub returns : goal.returns
returns c =
    let f = slot_found (master (net_of c.args.self.now)) c.args.job.0 (sym c.slot_for.ensures ∙ c.in_ok-slot.ensures.ok_part) in
    does_abandon (net_of c.args.self.now) 0 c.args.job f c.some_altered.ensures c.if-some_altered.false c.leave_all.ensures
