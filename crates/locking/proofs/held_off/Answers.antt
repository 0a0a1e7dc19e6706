-- `locking::held_off` meets its contract: a law of LockRequests for each way out. Assumes nothing.
use mathlib.Core.Path.{◌≡◌, sym, ap, ◌∙◌}
use mathlib.Core.List.{[]}
use Prim.Native.Nat.{◌<◌}
use Rattle.cells.specs.declared.Cell.{Cell}
use Rattle.held.specs.Held.{Held}
use Rattle.rows.specs.Rows.{rows_of}
use Rattle.slots.proofs.LowestLaws.{slot_none, slot_found}
use Rattle.locking.specs.Locking.{barred_by}
use Rattle.locking.proofs.LockRequests.{off_not_open, off_barred}
use Rattle.locking.proofs.held_off.Goals as goal

pub returns-in_default-slot_for : goal.returns-in_default-slot_for
returns-in_default-slot_for c =
    let state : Held = rows_of c.args.free c.args.numbers.now [] c.args.sets.now in
    off_not_open state c.args.alters c.args.job.0 c.args.cell (slot_none state c.args.job.0 (sym c.slot_for.ensures ∙ c.in_default-slot_for.is))

pub returns : goal.returns
returns c =
    let state : Held = rows_of c.args.free c.args.numbers.now [] c.args.sets.now in
    let h : (c.args.cell < 256) × (c.in-Ok.cell ≡ record { 0 = c.args.cell }) = c.in-Ok.ensures in
    off_barred state c.args.alters c.args.job.0 c.args.cell h.0 (slot_found state c.args.job.0 (sym c.slot_for.ensures ∙ c.in-Some.is))
    (c.barred.ensures ∙ ap (λ (x : Cell). barred_by (rows_of c.args.free [] [] c.args.sets.now) c.args.alters c.in-Some.slot.0 x.0) h.1)
