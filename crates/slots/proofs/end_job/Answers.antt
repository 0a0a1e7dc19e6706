-- `slots::end_job` meets its contract: a law of RequestLaws for each way out. Assumes nothing.
use mathlib.Core.Path.{sym, ◌∙◌}
use mathlib.Core.List.{List}
use Prim.Native.Nat.{ℕ}
use Rattle.held.specs.Held.{Held}
use Rattle.slots.specs.Lent.{lent}
use Rattle.slots.proofs.Exits.{no_slot}
use Rattle.slots.proofs.LowestLaws.{slot_found}
use Rattle.slots.proofs.RequestLaws.{does_end_not_open, does_end_granted}
use Rattle.slots.proofs.end_job.Goals as goal

pub returns-in_err-slot : goal.returns-in_err-slot
returns-in_err-slot c =
    let p = no_slot _ c.from_residual.result c.in_err-slot.ensures.value c.from_residual.ensures.1 in
    λ next ports. rw p.1 (does_end_not_open (sym c.slot_for.ensures ∙ p.0))

pub returns : goal.returns
returns c =
    let state : ℕ → List ℕ → Held = λ next ports. lent next c.args.free.now c.args.numbers.now c.args.leads.now c.args.sets.now ports in
    λ next ports. does_end_granted {h = state next ports} (slot_found (state next ports) c.args.job.0 (sym c.slot_for.ensures ∙ c.in_ok-slot.ensures.ok_part)) {left = c.end_slot.result} {numbers = c.end_slot.new.numbers}
    {leads = c.end_slot.new.leads} {sets = c.end_slot.new.sets} c.end_slot.ensures
