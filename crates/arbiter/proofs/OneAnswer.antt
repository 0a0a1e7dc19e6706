-- Each contract of the crate's public functions leaves one result: two results that meet it are equal. A theorem for each function, named after it, of the
-- contract itself: `Post` is what Rattle reads of the function's `ensures`.
--
-- A contract gives a part of the result, as the reply that an answer is numbered and the state that the arrays make, from which the whole can be made
-- again (`one_part` of `slots`, which has the answers too).
-- Assumes nothing.
use mathlib.Core.Path.{◌≡◌, refl, sym, ap, ◌∙◌}
use mathlib.Core.Bool.{cond}
use mathlib.Core.List.{List, []}
use lib.Dec.{eqb}
use contract.Lifetimes.{Lfts}
use borrow.Fn.Kinds.{Dens, res_t, ended_of}
use denote.Triple.Clauses.{AtExit}
use Rattle.cells.proofs.OneAnswer.{One}
use Rattle.slots.proofs.OneAnswer.{one_part, one_answer}
use Rattle.held.specs.Held.{Held}
use Prim.Native.Nat.{ℕ}
use Rattle.std.specs.Prelude.{Result, Ok, Err}
use Rattle.arbiter.specs.Replay.{held_of, Written, told}
use Rattle.arbiter.specs.declared.NoRoom.{NoRoom}
use Rattle.arbiter.specs.declared.State.{State}
use Rattle.arbiter.proofs.NoRoomTold.code.Kinds as no_room_code_kinds
use Rattle.arbiter.proofs.NoRoomTold.code.Reads as no_room_code_reads
use Rattle.arbiter.proofs.NoRoomTold.place.Kinds as no_room_place_kinds
use Rattle.arbiter.proofs.NoRoomTold.place.Reads as no_room_place_reads
use Rattle.arbiter.proofs.State.fresh.Kinds as fresh_kinds
use Rattle.arbiter.proofs.State.fresh.Reads as fresh_reads
use Rattle.arbiter.proofs.State.step.Kinds as step_kinds
use Rattle.arbiter.proofs.State.step.Reads as step_reads
use Rattle.arbiter.proofs.State.late_step.Kinds as late_step_kinds
use Rattle.arbiter.proofs.State.late_step.Reads as late_step_reads
use Rattle.arbiter.proofs.State.publish.Kinds as publish_kinds
use Rattle.arbiter.proofs.State.publish.Reads as publish_reads
use Rattle.arbiter.proofs.State.ask.Kinds as ask_kinds
use Rattle.arbiter.proofs.State.ask.Reads as ask_reads
use Rattle.arbiter.proofs.State.late_ask.Kinds as late_ask_kinds
use Rattle.arbiter.proofs.State.late_ask.Reads as late_ask_reads
use Rattle.arbiter.proofs.State.late_publish.Kinds as late_publish_kinds
use Rattle.arbiter.proofs.State.late_publish.Reads as late_publish_reads
use Rattle.arbiter.proofs.replay.Kinds as replay_kinds
use Rattle.arbiter.proofs.replay.Reads as replay_reads
use Rattle.arbiter.proofs.reedtangle_replay.Kinds as export_replay_kinds
use Rattle.arbiter.proofs.reedtangle_replay_by_value.Kinds as export_by_value_kinds
use Rattle.arbiter.proofs.reedtangle_replay.Reads as export_replay_reads
use Rattle.arbiter.proofs.reedtangle_replay_by_value.Reads as export_by_value_reads
use Rattle.arbiter.proofs.reedtangle_step.Kinds as export_step_kinds
use Rattle.arbiter.proofs.reedtangle_step.Reads as export_step_reads
use Rattle.arbiter.proofs.reedtangle_late_step.Kinds as export_late_kinds
use Rattle.arbiter.proofs.reedtangle_late_step.Reads as export_late_reads
use Rattle.arbiter.proofs.reedtangle_publish.Kinds as export_publish_kinds
use Rattle.arbiter.proofs.reedtangle_publish.Reads as export_publish_reads
use Rattle.arbiter.proofs.reedtangle_fresh.Kinds as export_fresh_kinds
use Rattle.arbiter.proofs.reedtangle_fresh.Reads as export_fresh_reads

-- ---- states

-- a state by value is the state that its arrays make
pub one_state : {h : Held} (r s : State) → held_of r ≡ h → held_of s ≡ h → r ≡ s
one_state = one_part held_of (λ h. record { next = h.next; free = h.free; numbers = h.numbers; leads = h.leads; sets = h.sets; ports = h.ports }) (λ r. refl)

pub one_fresh : One 0 fresh_kinds.ps fresh_kinds.r fresh_reads.Post
one_fresh κs a x y s t p q = one_state x y p q

-- in place: the answer, and the state at exit
pub one_ask : (κs : Lfts 1) (a : Dens κs ask_kinds.ps) (x y : (res_t ask_kinds.r κs).Denot) (s t : AtExit (ended_of 1 ask_kinds.ps ask_kinds.r) κs)
    → ask_reads.Post κs a x s
    → ask_reads.Post κs a y t
    → (x ≡ y) × (s.0.now ≡ t.0.now)
one_ask κs a x y s t p q = (one_answer x y p.0 q.0, one_state s.0.now t.0.now p.1 q.1)

pub one_late_ask : (κs : Lfts 1) (a : Dens κs late_ask_kinds.ps) (x y : (res_t late_ask_kinds.r κs).Denot) (s t : AtExit (ended_of 1 late_ask_kinds.ps late_ask_kinds.r) κs)
    → late_ask_reads.Post κs a x s
    → late_ask_reads.Post κs a y t
    → (x ≡ y) × (s.0.now ≡ t.0.now)
one_late_ask κs a x y s t p q = (one_answer x y p.0 q.0, one_state s.0.now t.0.now p.1 q.1)

pub one_late_publish : (κs : Lfts 1) (a : Dens κs late_publish_kinds.ps) (x y : (res_t late_publish_kinds.r κs).Denot) (s t : AtExit (ended_of 1 late_publish_kinds.ps late_publish_kinds.r) κs)
    → late_publish_reads.Post κs a x s
    → late_publish_reads.Post κs a y t
    → (x ≡ y) × (s.0.now ≡ t.0.now)
one_late_publish κs a x y s t p q = (one_answer x y p.0 q.0, one_state s.0.now t.0.now p.1 q.1)

-- the step by value: the state and the answer
pub one_step : One 0 step_kinds.ps step_kinds.r step_reads.Post
one_step κs a x y s t p q =
    let answer = one_answer x.1 y.1 p.0 q.0 in
    let state = one_state x.0 y.0 p.1 q.1 in
    λ i. record { 0 = state i; 1 = answer i }

pub one_late_step : One 0 late_step_kinds.ps late_step_kinds.r late_step_reads.Post
one_late_step κs a x y s t p q =
    let answer = one_answer x.1 y.1 p.0 q.0 in
    let state = one_state x.0 y.0 p.1 q.1 in
    λ i. record { 0 = state i; 1 = answer i }

pub one_publish : One 0 publish_kinds.ps publish_kinds.r publish_reads.Post
one_publish κs a x y s t p q =
    let answer = one_answer x.1 y.1 p.0 q.0 in
    let state = one_state x.0 y.0 p.1 q.1 in
    λ i. record { 0 = state i; 1 = answer i }

-- ---- runs of requests

-- the outcome of a run, from its code and place
run_of : Written → Result ℕ NoRoom
run_of w = cond (eqb w.code 0) (Ok w.place) (Err (record {}))

run_back : (r : Result ℕ NoRoom) (l : List ℕ) → run_of (told r l) ≡ r
unfolding run_of
run_back (Ok n) l = refl
run_back (Err e) l = refl

told_bytes : (r : Result ℕ NoRoom) (l : List ℕ) → (told r l).bytes ≡ l
told_bytes (Ok n) l = refl
told_bytes (Err e) l = refl

-- the code and the place of a run that had no room
pub one_replayed_code : One 0 no_room_code_kinds.ps no_room_code_kinds.r no_room_code_reads.Post
one_replayed_code κs a x y s t p q = p ∙ sym q

pub one_replayed_place : One 0 no_room_place_kinds.ps no_room_place_kinds.r no_room_place_reads.Post
one_replayed_place κs a x y s t p q = p ∙ sym q

-- a run: what it returns, and the answers at exit, its third parameter
pub one_replay : (κs : Lfts 2) (a : Dens κs replay_kinds.ps) (x y : (res_t replay_kinds.r κs).Denot) (s t : AtExit (ended_of 2 replay_kinds.ps replay_kinds.r) κs)
    → replay_reads.Post κs a x s
    → replay_reads.Post κs a y t
    → (x ≡ y) × (s.1.1.0.now ≡ t.1.1.0.now)
one_replay κs a x y s t p q =
    let same = p ∙ sym q in (
      sym (run_back x s.1.1.0.now) ∙ ap run_of same ∙ run_back y t.1.1.0.now,
      sym (told_bytes x s.1.1.0.now) ∙ ap (λ (w : Written). w.bytes) same ∙ told_bytes y t.1.1.0.now,
    )

-- ---- what C and Rust link: the result, and every lent number and array at exit

pub one_export_replay : (κs : Lfts 3) (a : Dens κs export_replay_kinds.ps) (x y : (res_t export_replay_kinds.r κs).Denot)
    (s t : AtExit (ended_of 3 export_replay_kinds.ps export_replay_kinds.r) κs)
    → export_replay_reads.Post κs a x s
    → export_replay_reads.Post κs a y t
    → (x ≡ y) × (s.1.1.0.now ≡ t.1.1.0.now) × (s.1.1.1.0.now ≡ t.1.1.1.0.now)
one_export_replay κs a x y s t p q = let same = p ∙ sym q in (λ i. (same i).code, λ i. (same i).bytes, λ i. (same i).place)

pub one_export_replay_by_value : (κs : Lfts 3) (a : Dens κs export_by_value_kinds.ps) (x y : (res_t export_by_value_kinds.r κs).Denot)
    (s t : AtExit (ended_of 3 export_by_value_kinds.ps export_by_value_kinds.r) κs)
    → export_by_value_reads.Post κs a x s
    → export_by_value_reads.Post κs a y t
    → (x ≡ y) × (s.1.1.0.now ≡ t.1.1.0.now) × (s.1.1.1.0.now ≡ t.1.1.1.0.now)
one_export_replay_by_value κs a x y s t p q = let same = p ∙ sym q in (λ i. (same i).code, λ i. (same i).bytes, λ i. (same i).place)

pub one_export_step : (κs : Lfts 7) (a : Dens κs export_step_kinds.ps) (x y : (res_t export_step_kinds.r κs).Denot)
    (s t : AtExit (ended_of 7 export_step_kinds.ps export_step_kinds.r) κs)
    → export_step_reads.Post κs a x s
    → export_step_reads.Post κs a y t
    → (x ≡ y) × (s.0.now ≡ t.0.now) × (s.1.0.now ≡ t.1.0.now) × (s.1.1.0.now ≡ t.1.1.0.now) × (s.1.1.1.0.now ≡ t.1.1.1.0.now) × (s.1.1.1.1.0.now ≡ t.1.1.1.1.0.now) × (s.1.1.1.1.1.0.now ≡ t.1.1.1.1.1.0.now)
one_export_step κs a x y s t p q =
    let left = p.1 ∙ sym q.1 in
    (p.0 ∙ sym q.0, λ i. (left i).next, λ i. (left i).free, λ i. (left i).numbers, λ i. (left i).leads, λ i. (left i).sets, λ i. (left i).ports)

pub one_export_late_step : (κs : Lfts 7) (a : Dens κs export_late_kinds.ps) (x y : (res_t export_late_kinds.r κs).Denot)
    (s t : AtExit (ended_of 7 export_late_kinds.ps export_late_kinds.r) κs)
    → export_late_reads.Post κs a x s
    → export_late_reads.Post κs a y t
    → (x ≡ y) × (s.0.now ≡ t.0.now) × (s.1.0.now ≡ t.1.0.now) × (s.1.1.0.now ≡ t.1.1.0.now) × (s.1.1.1.0.now ≡ t.1.1.1.0.now) × (s.1.1.1.1.0.now ≡ t.1.1.1.1.0.now) × (s.1.1.1.1.1.0.now ≡ t.1.1.1.1.1.0.now)
one_export_late_step κs a x y s t p q =
    let left = p.1 ∙ sym q.1 in
    (p.0 ∙ sym q.0, λ i. (left i).next, λ i. (left i).free, λ i. (left i).numbers, λ i. (left i).leads, λ i. (left i).sets, λ i. (left i).ports)

pub one_export_publish : (κs : Lfts 6) (a : Dens κs export_publish_kinds.ps) (x y : (res_t export_publish_kinds.r κs).Denot)
    (s t : AtExit (ended_of 6 export_publish_kinds.ps export_publish_kinds.r) κs)
    → export_publish_reads.Post κs a x s
    → export_publish_reads.Post κs a y t
    → (x ≡ y) × (s.0.now ≡ t.0.now) × (s.1.0.now ≡ t.1.0.now) × (s.1.1.0.now ≡ t.1.1.0.now) × (s.1.1.1.0.now ≡ t.1.1.1.0.now) × (s.1.1.1.1.0.now ≡ t.1.1.1.1.0.now)
one_export_publish κs a x y s t p q =
    let left = (p []).1 ∙ sym (q []).1 in
    ((p []).0 ∙ sym (q []).0, λ i. (left i).next, λ i. (left i).free, λ i. (left i).numbers, λ i. (left i).leads, λ i. (left i).sets)

pub one_export_fresh : (κs : Lfts 6) (a : Dens κs export_fresh_kinds.ps) (x y : (res_t export_fresh_kinds.r κs).Denot)
    (s t : AtExit (ended_of 6 export_fresh_kinds.ps export_fresh_kinds.r) κs)
    → export_fresh_reads.Post κs a x s
    → export_fresh_reads.Post κs a y t
    → (s.1.0.now ≡ t.1.0.now) × (s.1.1.0.now ≡ t.1.1.0.now) × (s.1.1.1.0.now ≡ t.1.1.1.0.now) × (s.1.1.1.1.0.now ≡ t.1.1.1.1.0.now) × (s.1.1.1.1.1.0.now ≡ t.1.1.1.1.1.0.now) × (s.1.1.1.1.1.1.0.now ≡ t.1.1.1.1.1.1.0.now)
one_export_fresh κs a x y s t p q =
    let left = p ∙ sym q in (λ i. (left i).next, λ i. (left i).free, λ i. (left i).numbers, λ i. (left i).leads, λ i. (left i).sets, λ i. (left i).ports)
