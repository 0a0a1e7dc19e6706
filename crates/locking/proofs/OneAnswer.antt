-- Each contract of the crate's public functions leaves one result: two results that meet it are equal, and so is all that is lent at exit. A theorem for each
-- function, named after it, of the contract itself: `Post` is what Rattle reads of the function's `ensures`.
-- Assumes nothing.
use mathlib.Core.Path.{◌≡◌, refl, sym, ◌∙◌}
use mathlib.Core.Bool.{cond}
use Prim.Native.Nat.{ℕ}
use lib.Dec.{eqb}
use contract.Lifetimes.{Lfts}
use borrow.Fn.Kinds.{Dens, res_t, ended_of}
use denote.Triple.Clauses.{AtExit}
use Rattle.std.specs.Prelude.{Result, Ok, Err}
use Rattle.cells.proofs.OneAnswer.{One}
use Rattle.history.specs.Replies.{Reply}
use Rattle.slots.specs.declared.JobNumber.{JobNumber}
use Rattle.slots.specs.declared.Refusal.TheVariants.{Malformed, NoCell, NotOpen, HasWritten, Full, Spent, Circle, NoPort, PortFull}
use Rattle.slots.proofs.OneAnswer.{one_part, refusal_of}
use Rattle.locking.specs.Locking.{lock_numbered}
use Rattle.locking.specs.declared.LockRefusal.{LockRefusal}
use Rattle.locking.specs.declared.LockRefusal.TheVariants.{PutOff, First}
use Rattle.locking.proofs.LockRefusalFromRefusal.from.Kinds as from_kinds
use Rattle.locking.proofs.LockRefusalFromRefusal.from.Reads as from_reads
use Rattle.locking.proofs.LockRefusalRefuses.code.Kinds as code_kinds
use Rattle.locking.proofs.LockRefusalRefuses.code.Reads as code_Reads
use Rattle.locking.proofs.lock_in_place.Kinds as in_place_kinds
use Rattle.locking.proofs.lock_in_place.Reads as in_place_reads
use Rattle.locking.proofs.reedtangle_lock_step.Kinds as export_kinds
use Rattle.locking.proofs.reedtangle_lock_step.Reads as export_reads

-- ---- answers

-- the refusal of a code, of which 10 is put off, and the answer of a reply
lock_refusal_of : ℕ → LockRefusal
lock_refusal_of n = cond (eqb n 10) PutOff (First (refusal_of n))

lock_answer_of : Reply → Result JobNumber LockRefusal
lock_answer_of r = cond (eqb r.code 0) (Ok (record { 0 = r.job })) (Err (lock_refusal_of r.code))

lock_answer_back : (a : Result JobNumber LockRefusal) → lock_answer_of (lock_numbered a) ≡ a
unfolding lock_answer_of lock_refusal_of refusal_of
lock_answer_back (Ok j) = refl
lock_answer_back (Err PutOff) = refl
lock_answer_back (Err (First Malformed)) = refl
lock_answer_back (Err (First NoCell)) = refl
lock_answer_back (Err (First NotOpen)) = refl
lock_answer_back (Err (First HasWritten)) = refl
lock_answer_back (Err (First Full)) = refl
lock_answer_back (Err (First Spent)) = refl
lock_answer_back (Err (First Circle)) = refl
lock_answer_back (Err (First NoPort)) = refl
lock_answer_back (Err (First PortFull)) = refl

pub one_lock_answer : {v : Reply} (a b : Result JobNumber LockRefusal) → lock_numbered a ≡ v → lock_numbered b ≡ v → a ≡ b
one_lock_answer = one_part lock_numbered lock_answer_of lock_answer_back

pub one_from : One 0 from_kinds.ps from_kinds.r from_reads.Post
one_from κs a x y s t p q = p ∙ sym q

pub one_code : One 0 code_kinds.ps code_kinds.r code_Reads.Post
one_code κs a x y s t p q = p ∙ sym q

-- ---- one request

-- what it answers, and what is lent at exit: the next number, the free slots and the four arrays, its first six parameters
pub one_lock_in_place : (κs : Lfts 6) (a : Dens κs in_place_kinds.ps) (x y : (res_t in_place_kinds.r κs).Denot)
    (s t : AtExit (ended_of 6 in_place_kinds.ps in_place_kinds.r) κs)
    → in_place_reads.Post κs a x s
    → in_place_reads.Post κs a y t
    → (x ≡ y) × (s.0.now ≡ t.0.now) × (s.1.0.now ≡ t.1.0.now) × (s.1.1.0.now ≡ t.1.1.0.now) × (s.1.1.1.0.now ≡ t.1.1.1.0.now) × (s.1.1.1.1.0.now ≡ t.1.1.1.1.0.now) × (s.1.1.1.1.1.0.now ≡ t.1.1.1.1.1.0.now)
one_lock_in_place κs a x y s t p q =
    let left = p.left ∙ sym q.left in
    (one_lock_answer x y p.answered q.answered, λ i. (left i).next, λ i. (left i).free, λ i. (left i).numbers, λ i. (left i).leads, λ i. (left i).sets, λ i. (left i).ports)

-- the number it returns, and all that the host keeps, its first six parameters
pub one_lock_step : (κs : Lfts 7) (a : Dens κs export_kinds.ps) (x y : (res_t export_kinds.r κs).Denot) (s t : AtExit (ended_of 7 export_kinds.ps export_kinds.r) κs)
    → export_reads.Post κs a x s
    → export_reads.Post κs a y t
    → (x ≡ y) × (s.0.now ≡ t.0.now) × (s.1.0.now ≡ t.1.0.now) × (s.1.1.0.now ≡ t.1.1.0.now) × (s.1.1.1.0.now ≡ t.1.1.1.0.now) × (s.1.1.1.1.0.now ≡ t.1.1.1.1.0.now)
    × (s.1.1.1.1.1.0.now ≡ t.1.1.1.1.1.0.now)
one_lock_step κs a x y s t p q =
    let left = p.1 ∙ sym q.1 in
    (p.0 ∙ sym q.0, λ i. (left i).next, λ i. (left i).free, λ i. (left i).numbers, λ i. (left i).leads, λ i. (left i).sets, λ i. (left i).ports)
