-- `slots::publish_in_place` meets its contract: a law of LateRequests for each way out. Assumes nothing.
use mathlib.Core.Path.{refl, sym, ◌∙◌}
use mathlib.Core.List.{List}
use Prim.Native.Nat.{ℕ}
use Rattle.held.specs.Held.{Held}
use Rattle.slots.specs.Lent.{lent}
use Rattle.slots.proofs.Exits.{no_slot}
use Rattle.slots.proofs.LowestLaws.{slot_found}
use Rattle.slots.proofs.LateRequests.{lates_publish_not_open, lates_publish_circle, lates_publish_granted}
use Rattle.slots.proofs.publish_in_place.Goals as goal

pub returns-in_err-slot : goal.returns-in_err-slot
returns-in_err-slot c =
    let p = no_slot _ c.from_residual.result c.in_err-slot.ensures.value c.from_residual.ensures.1 in
    λ next ports. rw p.1 (lates_publish_not_open (sym c.slot_for.ensures ∙ p.0))

pub returns-then-write_set : goal.returns-then-write_set
returns-then-write_set c =
    let state : ℕ → List ℕ → Held = λ next ports. lent next c.args.free.now c.args.numbers.now c.args.leads.now c.args.sets.now ports in
    λ next ports. lates_publish_circle {h = state next ports} {leads₁ = c.write_set.new.leads} {sets₁ = c.write_set.new.sets} c.args.cells.words
    (slot_found (state next ports) c.args.job.0 (sym c.slot_for.ensures ∙ c.in_ok-slot.ensures.ok_part)) c.write_set.ensures c.if-write_set.true

pub returns : goal.returns
returns c =
    let state : ℕ → List ℕ → Held = λ next ports. lent next c.args.free.now c.args.numbers.now c.args.leads.now c.args.sets.now ports in
    λ next ports. lates_publish_granted {h = state next ports} {leads₁ = c.write_set.new.leads} {sets₁ = c.write_set.new.sets} c.args.cells.words
    (slot_found (state next ports) c.args.job.0 (sym c.slot_for.ensures ∙ c.in_ok-slot.ensures.ok_part)) c.write_set.ensures {left = c.end_slot.result}
    {numbers = c.end_slot.new.numbers} {leads = c.end_slot.new.leads} {sets = c.end_slot.new.sets} c.if-write_set.false c.end_slot.ensures refl
