-- Each contract of the crate's public functions leaves one result: two results that meet it are equal. A theorem for each function, named after it, of the
-- contract itself: `Post` is what Rattle reads of the function's `ensures`. For what is done in place all that is lent is equal at exit too.
--
-- A contract gives a part of the result, as the reply that an answer is numbered and the fields that a request has, from which the whole can be made
-- again (`one_part`). For an answer that is so since `numbered` can be undone (`answer_back`), for a kind since its number can (`kind_back`).
-- Assumes nothing.
use mathlib.Core.Path.{◌≡◌, refl, sym, ap, ◌∙◌}
use mathlib.Core.Bool.{cond}
use mathlib.Core.List.{[]}
use Prim.Native.Nat.{ℕ}
use lib.Dec.{eqb}
use contract.Lifetimes.{Lfts}
use borrow.Fn.Kinds.{Dens, res_t, ended_of}
use denote.RattleType.{RattleType}
use denote.Param.Laws.{Laws, IsCopy}
use denote.Triple.Clauses.{AtExit}
use mir.Syntax.{Dict}
use Rattle.std.specs.declared.clone.Clone
use Rattle.std.specs.Prelude.{Result, Ok, Err}
use Rattle.cells.proofs.OneAnswer.{One}
use Rattle.history.specs.Replies as History
use Rattle.slots.specs.Lent.{numbered}
use Rattle.slots.specs.Requests.{kind_number, NamesKind, fields_of, Reads}
use Rattle.slots.specs.declared.JobNumber.{JobNumber}
use Rattle.slots.specs.declared.Kind.{Kind}
use Rattle.slots.specs.declared.Kind.TheVariants.{Open, Read, Write, End, Abandon, Publish, Add}
use Rattle.slots.specs.declared.Refusal.{Refusal}
use Rattle.slots.specs.declared.Refusal.TheVariants.{Malformed, NoCell, NotOpen, HasWritten, Full, Spent, Circle, NoPort, PortFull}
use Rattle.slots.specs.declared.Refuses
use Rattle.slots.specs.declared.Replied
use Rattle.slots.specs.declared.Request.{Request}
use Rattle.slots.proofs.RefusalRefuses.code.Kinds as refusal_kinds
use Rattle.slots.proofs.RefusalRefuses.code.Reads as refusal_reads
use Rattle.slots.proofs.RefusalFromNoSuchCell.from.Kinds as from_kinds
use Rattle.slots.proofs.RefusalFromNoSuchCell.from.Reads as from_reads
use Rattle.slots.proofs.ResultJobNumberReplied.code.Kinds as code_kinds
use Rattle.slots.proofs.ResultJobNumberReplied.code.Reads as code_reads
use Rattle.slots.proofs.ResultJobNumberReplied.job.Kinds as job_kinds
use Rattle.slots.proofs.ResultJobNumberReplied.job.Reads as job_reads
use Rattle.slots.proofs.in_one.Kinds as in_one_kinds
use Rattle.slots.proofs.in_one.Reads as in_one_reads
use Rattle.slots.proofs.cell_in.Kinds as cell_kinds
use Rattle.slots.proofs.cell_in.Reads as cell_reads
use Rattle.slots.proofs.job_in.Kinds as field_kinds
use Rattle.slots.proofs.job_in.Reads as field_reads
use Rattle.slots.proofs.KindTryFromU8.try_from.Kinds as kind_kinds
use Rattle.slots.proofs.KindTryFromU8.try_from.Reads as kind_reads
use Rattle.slots.proofs.RequestTryFromArrayU88.try_from.Kinds as request_kinds
use Rattle.slots.proofs.RequestTryFromArrayU88.try_from.Reads as request_reads
use Rattle.slots.proofs.slot_for.Kinds as slot_kinds
use Rattle.slots.proofs.slot_for.Reads as slot_reads
use Rattle.slots.proofs.closes.Kinds as closes_kinds
use Rattle.slots.proofs.closes.Reads as closes_reads
use Rattle.slots.proofs.open_job.Kinds as open_kinds
use Rattle.slots.proofs.open_job.Reads as open_reads
use Rattle.slots.proofs.step_in_place.Kinds as in_place_kinds
use Rattle.slots.proofs.step_in_place.Reads as in_place_reads
use Rattle.slots.proofs.late_in_place.Kinds as late_kinds
use Rattle.slots.proofs.late_in_place.Reads as late_reads
use Rattle.slots.proofs.publish_in_place.Kinds as publish_kinds
use Rattle.slots.proofs.publish_in_place.Reads as publish_reads

pub one_part : {R X : Type 0} (part : R → X) (whole : X → R) → ((r : R) → whole (part r) ≡ r) → {v : X} (r s : R) → part r ≡ v → part s ≡ v → r ≡ s
one_part part whole back r s p q = sym (back r) ∙ ap whole (p ∙ sym q) ∙ back s

-- ---- answers

-- the refusal of a code, and the answer of a reply
unfoldable pub refusal_of : ℕ → Refusal
refusal_of n = cond (eqb n 1) Malformed (cond (eqb n 2) NoCell (cond (eqb n 3) NotOpen (cond (eqb n 4) HasWritten (cond (eqb n 5) Full (cond (eqb n 6) Spent (cond (eqb n 7) Circle (cond (eqb n 8) NoPort PortFull)))))))

pub answer_of : History.Reply → Result JobNumber Refusal
answer_of r = cond (eqb r.code 0) (Ok (record { 0 = r.job })) (Err (refusal_of r.code))

pub answer_back : (a : Result JobNumber Refusal) → answer_of (numbered a) ≡ a
unfolding answer_of refusal_of
answer_back (Ok j) = refl
answer_back (Err Malformed) = refl
answer_back (Err NoCell) = refl
answer_back (Err NotOpen) = refl
answer_back (Err HasWritten) = refl
answer_back (Err Full) = refl
answer_back (Err Spent) = refl
answer_back (Err Circle) = refl
answer_back (Err NoPort) = refl
answer_back (Err PortFull) = refl

-- no two answers have the same number
pub one_answer : {v : History.Reply} (a b : Result JobNumber Refusal) → numbered a ≡ v → numbered b ≡ v → a ≡ b
one_answer = one_part numbered answer_of answer_back

pub one_refusal_code : One 0 refusal_kinds.ps refusal_kinds.r refusal_reads.Post
one_refusal_code κs a x y s t p q = p ∙ sym q

pub one_from : One 0 from_kinds.ps from_kinds.r from_reads.Post
one_from κs a x y s t p q = p ∙ sym q

-- of any refusal that `Refuses`
pub one_code : (T : RattleType) (L : Laws T) (C : IsCopy T) (g : Refuses.Ghosts T.Denot) (d : Dict) (h : Clone.Ghosts T.Denot) (e : Dict)
    → One 1 (code_kinds.ps T L C) (code_kinds.r T L C) (code_reads.Post T L C g d h e)
one_code T L C g d h e κs a x y s t p q = p ∙ sym q

pub one_job : (T : RattleType) (L : Laws T) (C : IsCopy T) (g : Refuses.Ghosts T.Denot) (d : Dict) (h : Clone.Ghosts T.Denot) (e : Dict)
    → One 1 (job_kinds.ps T L C) (job_kinds.r T L C) (job_reads.Post T L C g d h e)
one_job T L C g d h e κs a x y s t p q = one_part (λ (r : JobNumber). r.0) (λ n. record { 0 = n }) (λ r. refl) x y p q

-- of any type that is `Replied`
pub one_in_one : (T : RattleType) (L : Laws T) (C : IsCopy T) (g : Replied.Ghosts T.Denot) (d : Dict) (h : Clone.Ghosts T.Denot) (e : Dict)
    → One 1 (in_one_kinds.ps T L C) (in_one_kinds.r T L C) (in_one_reads.Post T L C g d h e)
one_in_one T L C g d h e κs a x y s t p q = p ∙ sym q

-- ---- requests

pub one_cell_in : One 0 cell_kinds.ps cell_kinds.r cell_reads.Post
one_cell_in κs a x y s t p q = p ∙ sym q

pub one_job_in : One 0 field_kinds.ps field_kinds.r field_reads.Post
one_job_in κs a x y s t p q = one_part (λ (r : JobNumber). r.0) (λ n. record { 0 = n }) (λ r. refl) x y p q

kind_of_number : ℕ → Kind
kind_of_number n = cond (eqb n 1) Open (cond (eqb n 2) Read (cond (eqb n 3) Write (cond (eqb n 4) End (cond (eqb n 5) Abandon (cond (eqb n 6) Publish Add)))))

kind_back : (k : Kind) → kind_of_number (kind_number k) ≡ k
unfolding kind_of_number
kind_back Open = refl
kind_back Read = refl
kind_back Write = refl
kind_back End = refl
kind_back Abandon = refl
kind_back Publish = refl
kind_back Add = refl

kind_outcome : (n : ℕ) (r s : Result Kind Refusal) → NamesKind n r → NamesKind n s → r ≡ s
kind_outcome n (Ok k) (Ok l) p q = ap Ok (one_part kind_number kind_of_number kind_back k l p q)
kind_outcome n (Ok k) (Err f) p q = absurd (q.1 k p)
kind_outcome n (Err e) (Ok l) p q = absurd (p.1 l q)
kind_outcome n (Err e) (Err f) p q = ap Err (p.0 ∙ sym q.0)

pub one_kind : One 0 kind_kinds.ps kind_kinds.r kind_reads.Post
one_kind κs a x y s t p q = kind_outcome _ x y p q

request_of_fields : History.Request → Request
request_of_fields q = record { kind = kind_of_number q.kind; cell = q.cell; job = record { 0 = q.job } }

request_back : (r : Request) → request_of_fields (fields_of r) ≡ r
unfolding request_of_fields
request_back r = ap (λ (k : Kind). record { kind = k; cell = r.cell; job = r.job }) (kind_back r.kind)

request_outcome : (q : History.Request) (r s : Result Request Refusal) → Reads q r → Reads q s → r ≡ s
request_outcome q (Ok x) (Ok y) p w = ap Ok (one_part fields_of request_of_fields request_back x y p w)
request_outcome q (Ok x) (Err f) p w = absurd (w.1 x p)
request_outcome q (Err e) (Ok y) p w = absurd (p.1 y w)
request_outcome q (Err e) (Err f) p w = ap Err (p.0 ∙ sym w.0)

pub one_request : One 0 request_kinds.ps request_kinds.r request_reads.Post
one_request κs a x y s t p q = request_outcome _ x y p q

-- ---- what is looked for

pub one_slot_for : One 1 slot_kinds.ps slot_kinds.r slot_reads.Post
one_slot_for κs a x y s t p q = p ∙ sym q

pub one_closes : One 1 closes_kinds.ps closes_kinds.r closes_reads.Post
one_closes κs a x y s t p q = p ∙ sym q

-- ---- the step in place

-- what it answers, and what is lent at exit: the next number, the free slots and the four arrays, its first six parameters
pub one_step_in_place : (κs : Lfts 6) (a : Dens κs in_place_kinds.ps) (x y : (res_t in_place_kinds.r κs).Denot)
    (s t : AtExit (ended_of 6 in_place_kinds.ps in_place_kinds.r) κs)
    → in_place_reads.Post κs a x s
    → in_place_reads.Post κs a y t
    → (x ≡ y) × (s.0.now ≡ t.0.now) × (s.1.0.now ≡ t.1.0.now) × (s.1.1.0.now ≡ t.1.1.0.now) × (s.1.1.1.0.now ≡ t.1.1.1.0.now) × (s.1.1.1.1.0.now ≡ t.1.1.1.1.0.now) × (s.1.1.1.1.1.0.now ≡ t.1.1.1.1.1.0.now)
one_step_in_place κs a x y s t p q =
    let left = p.left ∙ sym q.left in
    (one_answer x y p.answered q.answered, λ i. (left i).next, λ i. (left i).free, λ i. (left i).numbers, λ i. (left i).leads, λ i. (left i).sets, λ i. (left i).ports)

-- the same of an open
pub one_open_job : (κs : Lfts 6) (a : Dens κs open_kinds.ps) (x y : (res_t open_kinds.r κs).Denot)
    (s t : AtExit (ended_of 6 open_kinds.ps open_kinds.r) κs)
    → open_reads.Post κs a x s
    → open_reads.Post κs a y t
    → (x ≡ y) × (s.0.now ≡ t.0.now) × (s.1.0.now ≡ t.1.0.now) × (s.1.1.0.now ≡ t.1.1.0.now) × (s.1.1.1.0.now ≡ t.1.1.1.0.now) × (s.1.1.1.1.0.now ≡ t.1.1.1.1.0.now) × (s.1.1.1.1.1.0.now ≡ t.1.1.1.1.1.0.now)
one_open_job κs a x y s t p q =
    let left = p.left ∙ sym q.left in
    (one_answer x y p.answered q.answered, λ i. (left i).next, λ i. (left i).free, λ i. (left i).numbers, λ i. (left i).leads, λ i. (left i).sets, λ i. (left i).ports)

-- the same of the second profile: a request, and a publish, which is lent no next number and no ports
pub one_late_in_place : (κs : Lfts 6) (a : Dens κs late_kinds.ps) (x y : (res_t late_kinds.r κs).Denot)
    (s t : AtExit (ended_of 6 late_kinds.ps late_kinds.r) κs)
    → late_reads.Post κs a x s
    → late_reads.Post κs a y t
    → (x ≡ y) × (s.0.now ≡ t.0.now) × (s.1.0.now ≡ t.1.0.now) × (s.1.1.0.now ≡ t.1.1.0.now) × (s.1.1.1.0.now ≡ t.1.1.1.0.now) × (s.1.1.1.1.0.now ≡ t.1.1.1.1.0.now) × (s.1.1.1.1.1.0.now ≡ t.1.1.1.1.1.0.now)
one_late_in_place κs a x y s t p q =
    let left = p.left ∙ sym q.left in
    (one_answer x y p.answered q.answered, λ i. (left i).next, λ i. (left i).free, λ i. (left i).numbers, λ i. (left i).leads, λ i. (left i).sets, λ i. (left i).ports)

pub one_publish_in_place : (κs : Lfts 4) (a : Dens κs publish_kinds.ps) (x y : (res_t publish_kinds.r κs).Denot)
    (s t : AtExit (ended_of 4 publish_kinds.ps publish_kinds.r) κs)
    → publish_reads.Post κs a x s
    → publish_reads.Post κs a y t
    → (x ≡ y) × (s.0.now ≡ t.0.now) × (s.1.0.now ≡ t.1.0.now) × (s.1.1.0.now ≡ t.1.1.0.now) × (s.1.1.1.0.now ≡ t.1.1.1.0.now)
one_publish_in_place κs a x y s t p q =
    let left = (p 0 []).left ∙ sym (q 0 []).left in
    (one_answer x y (p 0 []).answered (q 0 []).answered, λ i. (left i).free, λ i. (left i).numbers, λ i. (left i).leads, λ i. (left i).sets)
