use Prim.Native.Nat.{◌<◌}
use native.Mathlib.Omega.{arith}
use lib.Seq.{length-take-le}
use Rattle.std.proofs.lemmas.List.{get_or-take}
use Rattle.exporter.proofs.TextLaws.{said_start, said_next, said_all}
use Rattle.exporter.proofs.put_all.Goals as goal

pub loop-step-init : goal.loop-step-init
loop-step-init c = (omega arith, λ h t f. said_start t f)

pub loop-step-preserved : goal.loop-step-preserved
loop-step-preserved c =
    let n = c.args.n in
    let told = c.args.table.now.told in
    let i = c.loop-step.step-index in
    let inside : i < n = omega (arith, length-take-le n told (omega arith), c.loop-step-test.true) in (
      omega arith,
      λ h t f. said_next t f (c.loop-step.invariant.1 h t f) inside (rw (get_or-take n told i 0 inside) at c.put_told-at.ensures.put),
    )

pub returns : goal.returns
returns c =
    let e = length-take-le c.args.n c.args.table.now.told (omega arith) in
    (omega arith, λ h t f. said_all t f (c.loop-step.invariant.1 h t f) (omega arith))
