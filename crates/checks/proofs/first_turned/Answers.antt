use mathlib.Core.Path.{◌≡◌, refl, sym, ap, ◌∙◌, subst}
use mathlib.Core.List.{List}
use Prim.Native.Nat.{ℕ, ◌+◌, ◌<◌, ◌≤◌}
use lib.ListN.{length, get_or, take, set, length-set}
use lib.Seq.{length-take-le}
use native.Mathlib.Omega.{arith}
use Rattle.std.proofs.lemmas.List.{get_or-take}
use Rattle.tallies.specs.PassLaws.{pass_none, pass_gone, meets}
use Rattle.tallies.specs.TurnedLaws.{Given, passed_start, passed_all, turned_here, passed_on}
use Rattle.checks.proofs.CheckLaws.{found_some, found_none}
use Rattle.checks.proofs.first_turned.Goals as goal
use Rattle.checks.proofs.first_turned.Goals.{then-step-ne0+then-table-job-ne-ABANDONED+else-stands_low, then-step-ne0+else-table-job-ne-ABANDONED, else-step-ne0}
use Rattle.checks.proofs.first_turned.Invariants.{Turning}

-- an entry of the first n is that of the list
entry : (n : ℕ) (l : List ℕ) {i : ℕ} → n ≤ length l → i < length (take n l) → (i < n) × (get_or (take n l) i 0 ≡ get_or l i 0)
entry n l {i} p q = let y : i < n = omega (arith, length-take-le n l p) in (y, get_or-take n l i 0 y)

pub loop-i-init : goal.loop-i-init
loop-i-init c = (refl, λ h order s. passed_start s)

pub returns-then-stands_low : goal.returns-then-stands_low
returns-then-stands_low c =
    let t = c.args.table.now in
    λ h order k p g m.
    let s : Given h c.args.n t.numbers t.states t.told c.args.placed.now order t.count = record { taken = k; places = p; good = g; whole = m } in
    let e = entry c.args.n t.told (omega arith) c.loop-i-test.true in
    let at : get_or (take c.args.n t.told) c.loop-i.i 0 ≡ get_or t.told c.loop-i.i 0 = e.1 in
    turned_here s (meets s.taken (c.loop-i.invariant.1 h order s) e.0 (rw at at c.if-step-ne0.true) (rw at at c.if-table-job-ne-ABANDONED.true))
    (rw at at (sym c.stands_low.ensures ∙ c.if-stands_low.true)) ∙ found_some e.0

pub loop-i-preserved : goal.loop-i-preserved
loop-i-preserved c =
    let t = c.args.table.now in
    let Next : List ℕ → Type 0 = λ x. Turning t c.args.n c.args.placed.now x (c.loop-i.i + 1) in
    let e = entry c.args.n t.told (omega arith) c.loop-i-test.true in
    let at : get_or (take c.args.n t.told) c.loop-i.i 0 ≡ get_or t.told c.loop-i.i 0 = e.1 in
    elim c.if-step-ne0.branch [
      | then-step-ne0+then-table-job-ne-ABANDONED+else-stands_low w ↦
          subst Next (sym (rw at at (w.seen-is ∙ ap (λ (x : ℕ). set c.loop-i.seen _ x) w.max.ensures))) (
            length-set c.loop-i.seen _ _ ∙ c.loop-i.invariant.0,
            λ h order s.
                passed_on s (meets s.taken (c.loop-i.invariant.1 h order s) e.0 (rw at at w.if-step-ne0.true) (rw at at w.if-table-job-ne-ABANDONED.true)) (rw at at (sym w.stands_low.ensures ∙ w.if-stands_low.false)) c.loop-i.invariant.0,
          )
      | then-step-ne0+else-table-job-ne-ABANDONED w ↦
          subst Next (sym w.seen-is) (
            c.loop-i.invariant.0,
            λ h order s. pass_gone s.taken (c.loop-i.invariant.1 h order s) e.0 (rw at at w.if-step-ne0.true) (rw at at w.if-table-job-ne-ABANDONED.false),
          )
      | else-step-ne0 w ↦
          subst Next (sym w.seen-is) (
            c.loop-i.invariant.0,
            λ h order s. pass_none s.taken (c.loop-i.invariant.1 h order s) e.0 (rw at at w.if-step-ne0.false),
          )
    ]

pub returns : goal.returns
returns c =
    let t = c.args.table.now in
    λ h order k p g m.
    let s : Given h c.args.n t.numbers t.states t.told c.args.placed.now order t.count = record { taken = k; places = p; good = g; whole = m } in
    let e = length-take-le c.args.n t.told (omega arith) in
    passed_all s (c.loop-i.invariant.1 h order s) (omega arith) ∙ found_none (omega arith)
