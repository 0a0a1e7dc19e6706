-- `slots::slot_for` meets its contract: a law of LowestLaws for each way out. Assumes nothing.
use mathlib.Core.Path.{sym, ap, ◌∙◌}
use lib.Bits.{bit_and}
use lib.Dec.{eqb}
use Prim.Native.Nat.{ℕ, ◌<◌}
use borrow.Author.Tests.{eq-eqb}
use native.Mathlib.Omega.{arith}
use Rattle.std.proofs.lemmas.List.Quantifiers.{position-Some}
use Rattle.slots.proofs.LowestLaws.{position_none}
use Rattle.marks.specs.MarkLaws.{and_mark, shl_one}
use Rattle.slots.proofs.LowestLaws.{slot_nowhere, slot_at, slot_no_mask, slot_of_mask}
use Rattle.slots.proofs.slot_for.Goals as goal

pub returns-in_err-first : goal.returns-in_err-first
returns-in_err-first c =
    c.from_residual.ensures ∙ sym (slot_nowhere c.args.free c.args.numbers.now c.args.job.0 (λ i q. let long = c.told-numbers in position_none (λ (n : ℕ). eqb n c.args.job.0) c.args.numbers.now 0 (sym c.in_err-first.ensures) i (omega arith)))

pub returns-then-free-first-eq0 : goal.returns-then-free-first-eq0
returns-then-free-first-eq0 c =
    let p = position-Some (λ (n : ℕ). eqb n c.args.job.0) c.args.numbers.now c.in_ok-first.first 0 (sym c.in_ok-first.ensures) in
    let q : c.in_ok-first.first < 32 = omega arith in
    sym (slot_at c.args.free c.args.numbers.now c.args.job.0 c.in_ok-first.first q p.1 p.2
    (sym (and_mark c.args.free c.in_ok-first.first) ∙ ap (λ (x : ℕ). eqb (bit_and c.args.free x) 0) (sym (shl_one 32 q)) ∙ eq-eqb _ _ c.if-free-first-eq0.true))

pub returns-then-found-eq0 : goal.returns-then-found-eq0
returns-then-found-eq0 c = sym (slot_no_mask c.args.free c.args.numbers.now c.args.job.0 c.holding-found.ensures c.if-found-eq0.true)

pub returns : goal.returns
returns c = sym (slot_of_mask c.args.free c.args.numbers.now c.args.job.0 c.holding-found.ensures c.if-found-eq0.false)
