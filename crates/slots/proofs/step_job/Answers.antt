-- `slots::step_job` meets its contract: a law of RequestLaws for each way out. Assumes nothing.
use mathlib.Core.Path.{◌≡◌, refl, sym, ap, ap₂, ◌∙◌}
use mathlib.Core.Bool.{Bool, false, ◌&&◌}
use mathlib.Core.List.{List}
use Prim.Native.Nat.{ℕ, ◌<◌, ◌%◌}
use Rattle.held.specs.Held.{Held}
use Rattle.slots.specs.Lent.{lent}
use Rattle.cells.specs.declared.Cell.{Cell}
use Rattle.rows.specs.Rows.{kind_of}
use Rattle.slots.specs.Finds.{circled}
use Rattle.slots.proofs.Exits.{handed, no_slot}
use Rattle.slots.proofs.LowestLaws.{slot_found}
use Rattle.slots.proofs.RequestLaws.{Looked, asks_no_cell, asks_not_open, asks_circle, asks_granted}
use Rattle.slots.proofs.step_job.Goals as goal
use Rattle.slots.proofs.step_job.Goals.{else-asked-via-then-asked+else-closes, else-asked-via-else-asked}

pub returns-in_err-cell : goal.returns-in_err-cell
returns-in_err-cell c =
    let p = handed c.from_residual.result c.from_residual.ensures.1 in
    λ next ports. rw p (asks_no_cell c.args.asked c.in_err-cell.ensures)

pub returns-in_err-slot : goal.returns-in_err-slot
returns-in_err-slot c =
    let p = no_slot _ c.from_residual-in_err-slot.result c.in_err-slot.ensures.value c.from_residual-in_err-slot.ensures.1 in
    λ next ports. rw p.1 (let h : (c.args.cell < 256) × (c.in_ok-cell.cell ≡ record { 0 = c.args.cell }) = c.in_ok-cell.ensures in asks_not_open (sym c.slot_for.ensures ∙ p.0) c.args.asked h.0)

pub returns-then-closes : goal.returns-then-closes
returns-then-closes c =
    let state : ℕ → List ℕ → Held = λ next ports. lent next c.args.free c.args.numbers.now c.args.leads.now c.args.sets.now ports in
    let h : (c.args.cell < 256) × (c.in_ok-cell.cell ≡ record { 0 = c.args.cell }) = c.in_ok-cell.ensures in
    let looked : (next : ℕ) (ports : List ℕ) → Looked (state next ports) (kind_of c.args.deed) c.args.job.0 c.args.cell c.in_ok-cell.cell.0 c.in_ok-slot.slot.0 c.touching-touched.result = λ next ports. record {
      cell_lt = h.0;
      cell_is = ap (λ (x : Cell). x.0) h.1;
      found = slot_found (state next ports) c.args.job.0 (sym c.slot_for.ensures ∙ c.in_ok-slot.ensures.ok_part);
      touching = c.touching-touched.ensures;
    } in
    λ next ports. asks_circle (looked next ports) c.args.asked (ap₂ ◌&&◌ c.if-asked.true (sym c.closes.ensures ∙ c.if-closes.true))

pub returns : goal.returns
returns c =
    let state : ℕ → List ℕ → Held = λ next ports. lent next c.args.free c.args.numbers.now c.args.leads.now c.args.sets.now ports in
    let h : (c.args.cell < 256) × (c.in_ok-cell.cell ≡ record { 0 = c.args.cell }) = c.in_ok-cell.ensures in
    let looked : (next : ℕ) (ports : List ℕ) → Looked (state next ports) (kind_of c.args.deed) c.args.job.0 c.args.cell c.in_ok-cell.cell.0 c.in_ok-slot.slot.0 c.touching-touched.result = λ next ports. record {
      cell_lt = h.0;
      cell_is = ap (λ (x : Cell). x.0) h.1;
      found = slot_found (state next ports) c.args.job.0 (sym c.slot_for.ensures ∙ c.in_ok-slot.ensures.ok_part);
      touching = c.touching-touched.ensures;
    } in
    let clear : c.args.asked && circled c.args.free c.args.leads.now (c.in_ok-slot.slot.0 % 32) c.touching-touched.result ≡ false = elim c.else-asked.branch [ else-asked-via-then-asked+else-closes w ↦ ap₂ ◌&&◌ w.if-asked.true (sym w.closes.ensures ∙ w.if-closes.false) | else-asked-via-else-asked w ↦ ap (λ (b : Bool). b && circled c.args.free c.args.leads.now (c.in_ok-slot.slot.0 % 32) c.touching-touched.result) w.if-asked.false ] in
    λ next ports. asks_granted (looked next ports) c.args.asked clear c.step_slot.ensures refl
