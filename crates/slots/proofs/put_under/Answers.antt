-- `slots::put_under` meets its contract, by the laws of PortLaws. Assumes nothing.
use native.Mathlib.Omega.{arith}
use borrow.Author.Rules.{rules}
use Prim.Native.Nat.{ℕ}
use mathlib.Core.Path.{◌≡◌, subst}
use Rattle.slots.proofs.PortLaws.{Struck, strike_turn, put_under}
use Rattle.slots.proofs.put_under.Goals as goal

pub loop-mask-preserved : goal.loop-mask-preserved
loop-mask-preserved c = let long = c.told-ports in strike_turn c.requires.1 c.loop-mask.invariant (omega arith) (search rules)

pub returns : goal.returns
returns c =
    let long = c.told-ports in
    let so_far : Struck c.args.ports.now c.args.slot.0 c.loop-mask.mask-index c.loop-mask.ports = c.loop-mask.invariant in
    let e : c.loop-mask.mask-index ≡ 3 = omega arith in
    put_under c.requires.1 c.requires.0 (subst (λ (i : ℕ). Struck c.args.ports.now c.args.slot.0 i c.loop-mask.ports) e so_far)
