-- Each contract of the crate's public functions leaves one result: two results that meet it are equal. A theorem for each function, named after it, of the
-- contract itself: `Post` is what Rattle reads of the function's `ensures`. For what is done in place the arrays at exit are equal too.
-- Assumes nothing.
use mathlib.Core.Path.{◌≡◌, sym, ap, ◌∙◌}
use mathlib.Core.Bool.{Bool, cond}
use mathlib.Core.List.{List}
use Prim.Native.Nat.{ℕ}
use contract.Lifetimes.{Lfts}
use borrow.Fn.Kinds.{Dens, res_t, ended_of}
use denote.Triple.Clauses.{AtExit}
use Rattle.cells.proofs.OneAnswer.{One}
use Rattle.held.specs.Held.{Held}
use Rattle.late.specs.LateHeld.{put_down}
use Rattle.rows.specs.Rows.{Writes}
use Rattle.rows.proofs.touching.Kinds as touching_kinds
use Rattle.rows.proofs.touching.Reads as touching_reads
use Rattle.rows.proofs.has_altered.Kinds as altered_kinds
use Rattle.rows.proofs.has_altered.Reads as altered_reads
use Rattle.rows.proofs.open_slot.Kinds as open_kinds
use Rattle.rows.proofs.open_slot.Reads as open_reads
use Rattle.rows.proofs.step_slot.Kinds as step_kinds
use Rattle.rows.proofs.step_slot.Reads as step_reads
use Rattle.rows.proofs.write_set.Kinds as write_kinds
use Rattle.rows.proofs.write_set.Reads as write_reads
use Rattle.rows.proofs.leading.Kinds as leading_kinds
use Rattle.rows.proofs.leading.Reads as leading_reads
use Rattle.rows.proofs.hand_on.Kinds as hand_kinds
use Rattle.rows.proofs.hand_on.Reads as hand_reads
use Rattle.rows.proofs.vacate.Kinds as vacate_kinds
use Rattle.rows.proofs.vacate.Reads as vacate_reads
use Rattle.rows.proofs.leave_slot.Kinds as leave_kinds
use Rattle.rows.proofs.leave_slot.Reads as leave_reads
use Rattle.rows.proofs.end_slot.Kinds as end_kinds
use Rattle.rows.proofs.end_slot.Reads as end_reads

-- ---- what is looked up

pub one_touching : One 1 touching_kinds.ps touching_kinds.r touching_reads.Post
one_touching κs a x y s t p q = p ∙ sym q

pub one_has_altered : One 1 altered_kinds.ps altered_kinds.r altered_reads.Post
one_has_altered κs a x y s t p q = p ∙ sym q

pub one_leading : One 1 leading_kinds.ps leading_kinds.r leading_reads.Post
one_leading κs a x y s t p q = p ∙ sym q

-- ---- the leads and the sets changed, which are the first two parameters of a step and the second and third of the others

pub one_step_slot : (κs : Lfts 2) (a : Dens κs step_kinds.ps) (x y : (res_t step_kinds.r κs).Denot)
    (s t : AtExit (ended_of 2 step_kinds.ps step_kinds.r) κs)
    → step_reads.Post κs a x s
    → step_reads.Post κs a y t
    → (s.0.now ≡ t.0.now) × (s.1.0.now ≡ t.1.0.now)
one_step_slot κs a x y s t p q = (p.0 ∙ sym q.0, p.1 ∙ sym q.1)

-- by equal answers one of two states is chosen
one_write : {h : Held} {x y : Bool} {s : ℕ} {cs leads leads' sets sets' : List ℕ} → Writes h s cs x leads sets → Writes h s cs y leads' sets'
    → (x ≡ y) × (leads ≡ leads') × (sets ≡ sets')
one_write {h} {s = s} {cs = cs} p q =
    let e = p.told ∙ sym q.told in
    let left = p.left ∙ ap (λ (b : Bool). cond b h (put_down h s cs)) e ∙ sym q.left in
    (e, λ i. (left i).leads, λ i. (left i).sets)

pub one_open_slot : (κs : Lfts 2) (a : Dens κs open_kinds.ps) (x y : (res_t open_kinds.r κs).Denot)
    (s t : AtExit (ended_of 2 open_kinds.ps open_kinds.r) κs)
    → open_reads.Post κs a x s
    → open_reads.Post κs a y t
    → (x ≡ y) × (s.1.0.now ≡ t.1.0.now) × (s.1.1.0.now ≡ t.1.1.0.now)
one_open_slot κs a x y s t p q = (p.left_free ∙ sym q.left_free, p.left_leads ∙ sym q.left_leads, p.left_sets ∙ sym q.left_sets)

pub one_write_set : (κs : Lfts 2) (a : Dens κs write_kinds.ps) (x y : (res_t write_kinds.r κs).Denot)
    (s t : AtExit (ended_of 2 write_kinds.ps write_kinds.r) κs)
    → write_reads.Post κs a x s
    → write_reads.Post κs a y t
    → (x ≡ y) × (s.1.0.now ≡ t.1.0.now) × (s.1.1.0.now ≡ t.1.1.0.now)
one_write_set κs a x y s t p q = one_write p q

pub one_hand_on : (κs : Lfts 2) (a : Dens κs hand_kinds.ps) (x y : (res_t hand_kinds.r κs).Denot)
    (s t : AtExit (ended_of 2 hand_kinds.ps hand_kinds.r) κs)
    → hand_reads.Post κs a x s
    → hand_reads.Post κs a y t
    → (s.1.0.now ≡ t.1.0.now) × (s.1.1.0.now ≡ t.1.1.0.now)
one_hand_on κs a x y s t p q = (p.left_leads ∙ sym q.left_leads, p.left_sets ∙ sym q.left_sets)

-- the numbers alone
pub one_vacate : (κs : Lfts 1) (a : Dens κs vacate_kinds.ps) (x y : (res_t vacate_kinds.r κs).Denot)
    (s t : AtExit (ended_of 1 vacate_kinds.ps vacate_kinds.r) κs)
    → vacate_reads.Post κs a x s
    → vacate_reads.Post κs a y t
    → (x ≡ y) × (s.1.0.now ≡ t.1.0.now)
one_vacate κs a x y s t p q = (p.0 ∙ sym q.0, p.1 ∙ sym q.1)

-- ---- the numbers too, which are the second parameter

pub one_leave_slot : (κs : Lfts 3) (a : Dens κs leave_kinds.ps) (x y : (res_t leave_kinds.r κs).Denot)
    (s t : AtExit (ended_of 3 leave_kinds.ps leave_kinds.r) κs)
    → leave_reads.Post κs a x s
    → leave_reads.Post κs a y t
    → (x ≡ y) × (s.1.0.now ≡ t.1.0.now) × (s.1.1.0.now ≡ t.1.1.0.now) × (s.1.1.1.0.now ≡ t.1.1.1.0.now)
one_leave_slot κs a x y s t p q = let left = p ∙ sym q in (λ i. (left i).free, λ i. (left i).numbers, λ i. (left i).leads, λ i. (left i).sets)

pub one_end_slot : (κs : Lfts 3) (a : Dens κs end_kinds.ps) (x y : (res_t end_kinds.r κs).Denot)
    (s t : AtExit (ended_of 3 end_kinds.ps end_kinds.r) κs)
    → end_reads.Post κs a x s
    → end_reads.Post κs a y t
    → (x ≡ y) × (s.1.0.now ≡ t.1.0.now) × (s.1.1.0.now ≡ t.1.1.0.now) × (s.1.1.1.0.now ≡ t.1.1.1.0.now)
one_end_slot κs a x y s t p q = let left = p ∙ sym q in (λ i. (left i).free, λ i. (left i).numbers, λ i. (left i).leads, λ i. (left i).sets)
