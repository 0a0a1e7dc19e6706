-- Each contract of the crate's public functions leaves one result: two results that meet it are equal. A theorem for each function, named after it, of the
-- contract itself: `Post` is what Rattle reads of the function's `ensures`. For the batch the three arrays at exit are equal too, and for the export every lent number.
-- Assumes nothing.
use mathlib.Core.Path.{◌≡◌, refl, sym, ap, ◌∙◌}
use mathlib.Core.Bool.{cond}
use mathlib.Core.List.{[]}
use Prim.Native.Nat.{ℕ}
use lib.Dec.{eqb}
use contract.Lifetimes.{Lfts}
use borrow.Fn.Kinds.{Dens, res_t, ended_of}
use denote.Triple.Clauses.{AtExit}
use Rattle.std.specs.Prelude.{Result, Ok, Err}
use Rattle.cells.proofs.OneAnswer.{One}
use Rattle.slots.specs.declared.Refusal.TheVariants.{Malformed, NoCell, NotOpen, HasWritten, Full, Spent, Circle, NoPort, PortFull}
use Rattle.slots.proofs.OneAnswer.{refusal_of}
use Rattle.batch.specs.Batch.{Verdict}
use Rattle.batch.specs.Leaves.{numbered}
use Rattle.batch.specs.declared.BatchRefusal.{BatchRefusal}
use Rattle.batch.specs.declared.BatchRefusal.TheVariants.{Length, Item}
use Rattle.batch.proofs.BatchRefusalTold.code.Kinds as code_kinds
use Rattle.batch.proofs.BatchRefusalTold.code.Reads as code_Reads
use Rattle.batch.proofs.BatchRefusalTold.place.Kinds as place_kinds
use Rattle.batch.proofs.BatchRefusalTold.place.Reads as place_reads
use Rattle.batch.proofs.batch_in_place.Kinds as in_place_kinds
use Rattle.batch.proofs.batch_in_place.Reads as in_place_reads
use Rattle.batch.proofs.reedtangle_batch.Kinds as export_kinds
use Rattle.batch.proofs.reedtangle_batch.Reads as export_reads

pub one_code : One 0 code_kinds.ps code_kinds.r code_Reads.Post
one_code κs a x y s t p q = p ∙ sym q

pub one_place : One 0 place_kinds.ps place_kinds.r place_reads.Post
one_place κs a x y s t p q = p ∙ sym q

-- the answer of a verdict: of 25 the length is wrong, and any other code but 0 is that of an item
answer_of : Verdict → Result ℕ BatchRefusal
answer_of v = cond (eqb v.code 0) (Ok v.place) (cond (eqb v.code 25) (Err Length) (Err (Item (refusal_of v.code) v.place)))

answer_back : (r : Result ℕ BatchRefusal) → answer_of (numbered r) ≡ r
unfolding answer_of refusal_of
answer_back (Ok n) = refl
answer_back (Err Length) = refl
answer_back (Err (Item Malformed p)) = refl
answer_back (Err (Item NoCell p)) = refl
answer_back (Err (Item NotOpen p)) = refl
answer_back (Err (Item HasWritten p)) = refl
answer_back (Err (Item Full p)) = refl
answer_back (Err (Item Spent p)) = refl
answer_back (Err (Item Circle p)) = refl
answer_back (Err (Item NoPort p)) = refl
answer_back (Err (Item PortFull p)) = refl

-- no two answers have the same code and place
one_answer : (r s : Result ℕ BatchRefusal) → numbered r ≡ numbered s → r ≡ s
one_answer r s e = sym (answer_back r) ∙ ap answer_of e ∙ answer_back s

-- the batch in place: what it returns, and the three arrays at exit, which are its third, fourth and fifth parameter
pub one_batch_in_place : (κs : Lfts 4) (a : Dens κs in_place_kinds.ps) (x y : (res_t in_place_kinds.r κs).Denot)
    (s t : AtExit (ended_of 4 in_place_kinds.ps in_place_kinds.r) κs)
    → in_place_reads.Post κs a x s
    → in_place_reads.Post κs a y t
    → (x ≡ y) × (s.1.1.0.now ≡ t.1.1.0.now) × (s.1.1.1.0.now ≡ t.1.1.1.0.now) × (s.1.1.1.1.0.now ≡ t.1.1.1.1.0.now)
one_batch_in_place κs a x y s t p q =
    let left = (p []).left ∙ sym (q []).left in
    (one_answer x y ((p []).answered ∙ sym (q []).answered), λ i. (left i).numbers, λ i. (left i).leads, λ i. (left i).sets)

pub one_export_batch : (κs : Lfts 6) (a : Dens κs export_kinds.ps) (x y : (res_t export_kinds.r κs).Denot) (s t : AtExit (ended_of 6 export_kinds.ps export_kinds.r) κs)
    → export_reads.Post κs a x s
    → export_reads.Post κs a y t
    → (x ≡ y) × (s.0.now ≡ t.0.now) × (s.1.0.now ≡ t.1.0.now) × (s.1.1.0.now ≡ t.1.1.0.now) × (s.1.1.1.0.now ≡ t.1.1.1.0.now) × (s.1.1.1.1.0.now ≡ t.1.1.1.1.0.now)
one_export_batch κs a x y s t p q =
    let left = (p []).1 ∙ sym (q []).1 in
    ((p []).0 ∙ sym (q []).0, λ i. (left i).next, λ i. (left i).free, λ i. (left i).numbers, λ i. (left i).leads, λ i. (left i).sets)
