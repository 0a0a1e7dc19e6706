use Prim.Native.Nat.{ℕ, ◌*◌, ◌%◌, ◌^◌}
use mathlib.Core.Path.{◌≡◌, refl, ap, ◌∙◌}
use mathlib.Core.Bool.{not, ◌&&◌}
use native.Mathlib.Nat.{mod-lt}
use native.Mathlib.Omega.{arith}
use lib.Dec.{lit<, eqb}
use lib.ListN.{get_or}
use Rattle.marks.specs.Marks.{bit, mask_of}
use Rattle.marks.specs.MarkLaws.{bit_pow, shl_one}
use Rattle.marks.specs.MaskLaws.{mask_bit, mask_others}
use Rattle.rows.proofs.SetLaws.{mark_is}
use Rattle.rows.proofs.leading.Goals as goal
use Rattle.rows.proofs.leading.Invariants.{leads_to}

pub loop-i-preserved : goal.loop-i-preserved
loop-i-preserved c =
    mask_bit 32 c.loop-i.i (get_or c.args.leads.now c.loop-i.i 0) c.from-own.result.at (leads_to c.args.leads.now c.from-own.result.at) c.loop-i.invariant refl (omega arith)

pub returns : goal.returns
returns c =
    let s = c.from-own.result.at in
    let f = leads_to c.args.leads.now s in
    let e : c.loop-i.i ≡ 32 = omega arith in
    let own : (k : ℕ) → bit (1 * 2 ^ s % 2 ^ 32) k ≡ eqb k s = λ k. ap (λ (x : ℕ). bit x k) (shl_one 32 c.from-own.result.inside) ∙ bit_pow s k in
    rw (← c.from-own.ensures, mark_is c.mark.ensures c.from-own.result.inside)
    (mask_others 32 (λ k. not (eqb k s) && f k) (bit c.args.free) c.args.free
    (mask_others 32 f (λ k. eqb k s) (1 * 2 ^ s % 2 ^ 32) (c.loop-i.invariant ∙ ap (λ (k : ℕ). mask_of k f) e) (mod-lt _ (lit< tt)) (λ k q. own k))
    c.ranges.free.fits (λ k q. refl))
