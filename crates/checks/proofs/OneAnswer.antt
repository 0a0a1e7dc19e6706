-- Each contract of the crate's public functions leaves one result: two results that meet it are equal. A theorem for each function, named after it, of the
-- contract itself: `Post` is what Rattle reads of the function's `ensures`. The contract of the checker gives the verdict that its answer is numbered, and
-- that can be undone (`answer_back`).
-- Assumes nothing.
use mathlib.Core.Path.{◌≡◌, refl, sym, ap, ◌∙◌}
use mathlib.Core.Bool.{cond}
use Prim.Native.Nat.{ℕ}
use lib.Dec.{eqb}
use Rattle.std.specs.Prelude.{Result, Ok, Err}
use Rattle.reader.proofs.OneAnswer.{One}
use Rattle.verdicts.specs.Verdicts.{Verdict}
use Rattle.logs.specs.declared.Fault.TheVariants.{Length, Form, Turn, TooMany}
use Rattle.checks.specs.Checks.{numbered}
use Rattle.checks.specs.declared.Refusal.{Refusal}
use Rattle.checks.specs.declared.Refusal.TheVariants.{Log, Entry, Backward}
use Rattle.checks.proofs.RefusalFromFault.from.Kinds as from_kinds
use Rattle.checks.proofs.RefusalFromFault.from.Reads as from_reads
use Rattle.checks.proofs.RefusalTold.code.Kinds as code_kinds
use Rattle.checks.proofs.RefusalTold.code.Reads as code_reads
use Rattle.checks.proofs.RefusalTold.place.Kinds as place_kinds
use Rattle.checks.proofs.RefusalTold.place.Reads as place_reads
use Rattle.checks.proofs.check_order.Kinds as check_kinds
use Rattle.checks.proofs.check_order.Reads as check_reads
use Rattle.checks.proofs.all_placed.Kinds as placed_kinds
use Rattle.checks.proofs.all_placed.Reads as placed_reads

-- the answer of a verdict
answer_of : Verdict → Result ℕ Refusal
answer_of v =
    let c = v.code in
    let p = v.place in
    cond (eqb c 0) (Ok p)
    (cond (eqb c 11) (Err (Log Length))
    (cond (eqb c 12) (Err (Log (Form p))) (cond (eqb c 13) (Err (Log (Turn p))) (cond (eqb c 14) (Err (Log (TooMany p))) (cond (eqb c 15) (Err (Entry p)) (Err (Backward p)))))))

answer_back : (a : Result ℕ Refusal) → answer_of (numbered a) ≡ a
unfolding answer_of
answer_back (Ok n) = refl
answer_back (Err (Log Length)) = refl
answer_back (Err (Log (Form p))) = refl
answer_back (Err (Log (Turn p))) = refl
answer_back (Err (Log (TooMany p))) = refl
answer_back (Err (Entry p)) = refl
answer_back (Err (Backward p)) = refl

-- no two answers have the same number
pub one_answer : {v : Verdict} (a b : Result ℕ Refusal) → numbered a ≡ v → numbered b ≡ v → a ≡ b
one_answer a b p q = sym (answer_back a) ∙ ap answer_of (p ∙ sym q) ∙ answer_back b

pub one_from : One 0 from_kinds.ps from_kinds.r from_reads.Post
one_from κs a x y s t p q = p ∙ sym q

pub one_code : One 0 code_kinds.ps code_kinds.r code_reads.Post
one_code κs a x y s t p q = p ∙ sym q

pub one_place : One 0 place_kinds.ps place_kinds.r place_reads.Post
one_place κs a x y s t p q = p ∙ sym q

pub one_check_order : One 2 check_kinds.ps check_kinds.r check_reads.Post
one_check_order κs a x y s t p q = one_answer x y p q

pub one_all_placed : One 2 placed_kinds.ps placed_kinds.r placed_reads.Post
one_all_placed κs a x y s t p q = p ∙ sym q
