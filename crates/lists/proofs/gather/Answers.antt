use mathlib.Core.Path.{◌≡◌, refl, sym, ◌∙◌, subst₂}
use mathlib.Core.List.{List}
use Prim.Native.Nat.{ℕ, ◌+◌, ◌<◌, ◌≤◌}
use lib.ListN.{length, get_or, take}
use lib.Seq.{length-take-le}
use Rattle.std.proofs.lemmas.List.{get_or-take}
use native.Mathlib.Omega.{arith}
use Rattle.tallies.specs.PassLaws.{pass_none, pass_gone, meets}
use Rattle.tallies.specs.GatherLaws.{gathered_start, gathered_all, gathered_on}
use Rattle.jobsets.specs.GainLaws.{gains_gained}
use Rattle.lists.proofs.gather.Goals as goal
use Rattle.lists.proofs.gather.Goals.{then-step-ne0+then-table-job-ne-ABANDONED, then-step-ne0+else-table-job-ne-ABANDONED, else-step-ne0}
use Rattle.lists.proofs.gather.Invariants.{Gathering}

-- an entry of the first n is that of the list
entry : (n : ℕ) (l : List ℕ) {i : ℕ} → n ≤ length l → i < length (take n l) → (i < n) × (get_or (take n l) i 0 ≡ get_or l i 0)
entry n l {i} p q = let y : i < n = omega (arith, length-take-le n l p) in (y, get_or-take n l i 0 y)

pub loop-step-init : goal.loop-step-init
loop-step-init c = (refl, λ h t z. gathered_start t z)

pub loop-step-preserved : goal.loop-step-preserved
loop-step-preserved c =
    let Next : List ℕ → List ℕ → Type 0 = λ p x. Gathering c.args.table.now c.args.n c.args.preds.now p x (c.loop-step.step-index + 1) in
    let e = entry c.args.n c.args.table.now.told (omega arith) c.loop-step-test.true in
    let q = e.0 in
    let at : get_or (take c.args.n c.args.table.now.told) c.loop-step.step-index 0 ≡ get_or c.args.table.now.told c.loop-step.step-index 0 = e.1 in
    elim c.if-step-ne0.branch [
      | then-step-ne0+then-table-job-ne-ABANDONED w ↦
          subst₂ Next (sym w.preds-is) (sym w.seen-is) (
            w.put_mark.ensures.0 ∙ c.loop-step.invariant.0,
            λ h t z. gathered_on t (meets t (c.loop-step.invariant.1 h t z) q (rw at at w.if-step-ne0.true) (rw at at w.if-table-job-ne-ABANDONED.true)) (record {
              gaining = w.join_before.new.preds;
              gained = rw at at (gains_gained (omega arith) w.join_before.ensures);
              put = rw at at w.put_mark.ensures.1;
              struck = rw at at w.strike_mark.ensures.1;
            }),
          )
      | then-step-ne0+else-table-job-ne-ABANDONED w ↦
          subst₂ Next (sym w.preds-is) (sym w.seen-is)
          (c.loop-step.invariant.0, λ h t z. pass_gone t (c.loop-step.invariant.1 h t z) q (rw at at w.if-step-ne0.true) (rw at at w.if-table-job-ne-ABANDONED.false))
      | else-step-ne0 w ↦
          subst₂ Next (sym w.preds-is) (sym w.seen-is)
          (c.loop-step.invariant.0, λ h t z. pass_none t (c.loop-step.invariant.1 h t z) q (rw at at w.if-step-ne0.false))
    ]

pub returns : goal.returns
returns c = let e = length-take-le c.args.n c.args.table.now.told (omega arith) in λ h t z. gathered_all t (c.loop-step.invariant.1 h t z) (omega arith)
