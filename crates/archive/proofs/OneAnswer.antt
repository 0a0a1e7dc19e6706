-- Each contract of the crate's public functions leaves one result: two results that meet it are equal, and so are the lent numbers and arrays at exit. A theorem for each
-- function, named after it, of the contract itself: `Post` is what Rattle reads of the function's `ensures`.
-- Assumes nothing.
use mathlib.Core.Path.{◌≡◌, sym, ap, ◌∙◌}
use contract.Lifetimes.{Lfts}
use borrow.Fn.Kinds.{Dens, res_t, ended_of}
use denote.Triple.Clauses.{AtExit}
use Rattle.cells.proofs.OneAnswer.{One}
use Rattle.slots.proofs.OneAnswer.{one_answer}
use Rattle.arbiter.specs.Replay.{held_of}
use Rattle.arbiter.specs.declared.State.{State}
use Rattle.arbiter.proofs.OneAnswer.{one_state}
use Rattle.held.specs.Held.{Held}
use Rattle.archive.specs.declared.Catalogue.{Catalogue}
use Rattle.archive.proofs.Catalogue.fresh.Kinds as fresh_kinds
use Rattle.archive.proofs.Catalogue.fresh.Reads as fresh_reads
use Rattle.archive.proofs.Catalogue.ask.Kinds as ask_kinds
use Rattle.archive.proofs.Catalogue.ask.Reads as ask_reads
use Rattle.archive.proofs.Catalogue.step.Kinds as step_kinds
use Rattle.archive.proofs.Catalogue.step.Reads as step_reads
use Rattle.archive.proofs.coarse_in_place.Kinds as in_place_kinds
use Rattle.archive.proofs.coarse_in_place.Reads as in_place_reads
use Rattle.archive.proofs.reedtangle_coarse_step.Kinds as export_kinds
use Rattle.archive.proofs.reedtangle_coarse_step.Reads as export_reads

-- what it answers, and what is lent at exit: the next number, the free slots and the four arrays, its first six parameters
pub one_coarse_in_place : (κs : Lfts 6) (a : Dens κs in_place_kinds.ps) (x y : (res_t in_place_kinds.r κs).Denot)
    (s t : AtExit (ended_of 6 in_place_kinds.ps in_place_kinds.r) κs)
    → in_place_reads.Post κs a x s
    → in_place_reads.Post κs a y t
    → (x ≡ y) × (s.0.now ≡ t.0.now) × (s.1.0.now ≡ t.1.0.now) × (s.1.1.0.now ≡ t.1.1.0.now) × (s.1.1.1.0.now ≡ t.1.1.1.0.now) × (s.1.1.1.1.0.now ≡ t.1.1.1.1.0.now) × (s.1.1.1.1.1.0.now ≡ t.1.1.1.1.1.0.now)
one_coarse_in_place κs a x y s t p q =
    let left = p.1 ∙ sym q.1 in
    (one_answer x y p.0 q.0, λ i. (left i).next, λ i. (left i).free, λ i. (left i).numbers, λ i. (left i).leads, λ i. (left i).sets, λ i. (left i).ports)

-- a state of the mode is what it holds
one_catalogue : {h : Held} (r s : Catalogue) → held_of r.0 ≡ h → held_of s.0 ≡ h → r ≡ s
one_catalogue r s p q = ap (λ (x : State). record { 0 = x }) (one_state r.0 s.0 p q)

pub one_fresh : One 0 fresh_kinds.ps fresh_kinds.r fresh_reads.Post
one_fresh κs a x y s t p q = one_catalogue x y p q

-- its answer, and the state at exit
pub one_ask : (κs : Lfts 1) (a : Dens κs ask_kinds.ps) (x y : (res_t ask_kinds.r κs).Denot) (s t : AtExit (ended_of 1 ask_kinds.ps ask_kinds.r) κs)
    → ask_reads.Post κs a x s
    → ask_reads.Post κs a y t
    → (x ≡ y) × (s.0.now ≡ t.0.now)
one_ask κs a x y s t p q = (one_answer x y p.0 q.0, one_catalogue s.0.now t.0.now p.1 q.1)

pub one_step : One 0 step_kinds.ps step_kinds.r step_reads.Post
one_step κs a x y s t p q =
    let answer = one_answer x.1 y.1 p.0 q.0 in
    let state = one_catalogue x.0 y.0 p.1 q.1 in
    λ i. record { 0 = state i; 1 = answer i }

-- the answer in one number, and the two numbers and four arrays at exit, its first six parameters
pub one_coarse_step : (κs : Lfts 7) (a : Dens κs export_kinds.ps) (x y : (res_t export_kinds.r κs).Denot)
    (s t : AtExit (ended_of 7 export_kinds.ps export_kinds.r) κs)
    → export_reads.Post κs a x s
    → export_reads.Post κs a y t
    → (x ≡ y) × (s.0.now ≡ t.0.now) × (s.1.0.now ≡ t.1.0.now) × (s.1.1.0.now ≡ t.1.1.0.now) × (s.1.1.1.0.now ≡ t.1.1.1.0.now) × (s.1.1.1.1.0.now ≡ t.1.1.1.1.0.now) × (s.1.1.1.1.1.0.now ≡ t.1.1.1.1.1.0.now)
one_coarse_step κs a x y s t p q =
    let left = p.1 ∙ sym q.1 in
    (p.0 ∙ sym q.0, λ i. (left i).next, λ i. (left i).free, λ i. (left i).numbers, λ i. (left i).leads, λ i. (left i).sets, λ i. (left i).ports)
