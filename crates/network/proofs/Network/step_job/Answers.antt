-- `network::Network::step_job` meets its contract: a law of NetLaws for each way out. Assumes nothing.
use mathlib.Core.Path.{◌≡◌, sym, ap, ◌∙◌}
use Prim.Native.Nat.{◌<◌}
use Rattle.cells.specs.declared.Cell.{Cell}
use Rattle.slots.proofs.Exits.{handed, no_slot}
use Rattle.slots.proofs.LowestLaws.{slot_found}
use Rattle.stations.specs.Stations.{master}
use Rattle.network.specs.Nets.{net_of}
use Rattle.network.proofs.NetLaws.{does_no_cell, does_step_not_open, does_circle, does_step}
use Rattle.network.proofs.Network.step_job.Goals as goal

pub returns-in_err-cell : goal.returns-in_err-cell
returns-in_err-cell c =
    let p = handed c.from_residual.result c.from_residual.ensures.1 in
    rw p (does_no_cell {n = net_of c.args.self.now} c.in_err-cell.ensures)

pub returns-in_err-slot : goal.returns-in_err-slot
returns-in_err-slot c =
    let p = no_slot _ c.from_residual-in_err-slot.result c.in_err-slot.ensures.value c.from_residual-in_err-slot.ensures.1 in
    let h : (c.args.cell < 256) × (c.in_ok-cell.cell ≡ record { 0 = c.args.cell }) = c.in_ok-cell.ensures in
    rw p.1 (does_step_not_open {n = net_of c.args.self.now} (sym c.slot_for.ensures ∙ p.0) h.0)

pub step_there-requires : goal.step_there-requires
step_there-requires c =
    let f = slot_found (master (net_of c.args.self.now)) c.args.job.0 (sym c.slot_for.ensures ∙ c.in_ok-slot.ensures.ok_part) in
    (f.inside, f.was_open)

pub returns-then-step_there : goal.returns-then-step_there
returns-then-step_there c =
    let f = slot_found (master (net_of c.args.self.now)) c.args.job.0 (sym c.slot_for.ensures ∙ c.in_ok-slot.ensures.ok_part) in
    let h : (c.args.cell < 256) × (c.in_ok-cell.cell ≡ record { 0 = c.args.cell }) = c.in_ok-cell.ensures in
    does_circle {n = net_of c.args.self.now} c.args.job f h.0 (ap (λ (x : Cell). x.0) h.1) c.step_there.ensures c.if-step_there.true

pub returns : goal.returns
returns c =
    let f = slot_found (master (net_of c.args.self.now)) c.args.job.0 (sym c.slot_for.ensures ∙ c.in_ok-slot.ensures.ok_part) in
    let h : (c.args.cell < 256) × (c.in_ok-cell.cell ≡ record { 0 = c.args.cell }) = c.in_ok-cell.ensures in
    does_step {n = net_of c.args.self.now} c.args.job f h.0 (ap (λ (x : Cell). x.0) h.1) c.step_there.ensures c.if-step_there.false
