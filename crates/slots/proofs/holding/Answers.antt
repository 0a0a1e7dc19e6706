use Prim.Native.Nat.{ℕ}
use mathlib.Core.Path.{◌≡◌, refl, ap, ◌∙◌}
use native.Mathlib.Omega.{arith}
use borrow.Author.Tests.{eq-eqb, ne_eqb}
use Rattle.marks.specs.Marks.{bit, mask_of}
use Rattle.marks.specs.MaskLaws.{mask_in, mask_out, mask_others}
use Rattle.slots.proofs.holding.Goals as goal
use Rattle.slots.proofs.holding.Goals.{then-number-job, else-number-job}
use Rattle.slots.proofs.holding.Invariants.{holds}

pub loop-i-preserved : goal.loop-i-preserved
loop-i-preserved c =
    let f = holds c.args.numbers.now c.args.job.0 in
    elim c.if-number-job.branch [ then-number-job w ↦ w.found-is ∙ mask_in 32 c.loop-i.i f c.loop-i.invariant (eq-eqb _ _ w.if-number-job.true) (omega arith) | else-number-job w ↦ w.found-is ∙ mask_out c.loop-i.i f c.loop-i.invariant (ne_eqb _ _ w.if-number-job.false) ]

pub returns : goal.returns
returns c =
    let f = holds c.args.numbers.now c.args.job.0 in
    let e : c.loop-i.i ≡ 32 = omega arith in
    mask_others 32 f (bit c.args.free) c.args.free (c.loop-i.invariant ∙ ap (λ (k : ℕ). mask_of k f) e) c.ranges.free.fits (λ k q. refl)
