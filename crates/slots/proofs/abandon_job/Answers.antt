-- `slots::abandon_job` meets its contract: a law of RequestLaws for each way out. Assumes nothing.
use mathlib.Core.Path.{sym, ◌∙◌}
use mathlib.Core.List.{List}
use Prim.Native.Nat.{ℕ}
use Rattle.held.specs.Held.{Held}
use Rattle.slots.specs.Lent.{lent}
use Rattle.slots.proofs.Exits.{no_slot}
use Rattle.slots.proofs.LowestLaws.{slot_found}
use Rattle.slots.proofs.RequestLaws.{does_abandon_not_open, does_abandon_written, does_abandon_granted}
use Rattle.slots.proofs.abandon_job.Goals as goal

pub returns-in_err-slot : goal.returns-in_err-slot
returns-in_err-slot c =
    let p = no_slot _ c.from_residual.result c.in_err-slot.ensures.value c.from_residual.ensures.1 in
    λ next ports. rw p.1 (does_abandon_not_open (sym c.slot_for.ensures ∙ p.0))

pub returns-then-has_altered : goal.returns-then-has_altered
returns-then-has_altered c =
    let state : ℕ → List ℕ → Held = λ next ports. lent next c.args.free.now c.args.numbers.now c.args.leads.now c.args.sets.now ports in
    λ next ports. does_abandon_written (slot_found (state next ports) c.args.job.0 (sym c.slot_for.ensures ∙ c.in_ok-slot.ensures.ok_part)) c.has_altered.ensures c.if-has_altered.true

pub returns : goal.returns
returns c =
    let state : ℕ → List ℕ → Held = λ next ports. lent next c.args.free.now c.args.numbers.now c.args.leads.now c.args.sets.now ports in
    λ next ports. does_abandon_granted {h = state next ports} (slot_found (state next ports) c.args.job.0 (sym c.slot_for.ensures ∙ c.in_ok-slot.ensures.ok_part)) c.has_altered.ensures {left = c.leave_slot.result}
    {numbers = c.leave_slot.new.numbers} {leads = c.leave_slot.new.leads} {sets = c.leave_slot.new.sets} c.if-has_altered.false c.leave_slot.ensures
