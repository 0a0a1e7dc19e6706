-- Each contract of the crate's public functions leaves one result: two results that meet it are equal. A theorem for each function, named after it, of the
-- contract itself: `Post` is what Rattle reads of the function's `ensures`. For the reading of a log the table at exit is one too: the events are those of
-- the log, and the table that tells of them is one.
-- Assumes nothing.
use mathlib.Core.Path.{◌≡◌, refl, sym, ap, ◌∙◌, subst}
use mathlib.Core.HLevel.{is_prop→PathP}
use mathlib.Core.List.{List, []}
use Prim.Native.Nat.{ℕ, suc, ◌≤◌}
use native.Mathlib.Bridge.{le_prop}
use native.Mathlib.Omega.{arith}
use lib.ListN.{length}
use contract.Lifetimes.{Lfts}
use borrow.Fn.Kinds.{Dens, res_t, ended_of}
use denote.Triple.Clauses.{AtExit}
use Rattle.std.specs.Prelude.{Result, Ok, Err}
use Rattle.reader.proofs.OneAnswer.{One}
use Rattle.history.specs.Events.{History}
use Rattle.verdicts.specs.Logs.{Reading, faulty, events}
use Rattle.tallies.specs.OneTable.{one_count, one_numbers, one_states, one_told}
use Rattle.logs.specs.Faults.{code_of, place_of}
use Rattle.logs.specs.Logs.{Holds, Reads, Cleared, Judged}
use Rattle.logs.specs.declared.Fault.{Fault}
use Rattle.logs.specs.declared.Fault.TheVariants.{Length, Form, Turn, TooMany}
use Rattle.logs.specs.declared.table.Table.{Table}
use Rattle.logs.proofs.FaultTold.code.Kinds as code_kinds
use Rattle.logs.proofs.FaultTold.code.Reads as code_reads
use Rattle.logs.proofs.FaultTold.place.Kinds as place_kinds
use Rattle.logs.proofs.FaultTold.place.Reads as place_reads
use Rattle.logs.proofs.find_job.Kinds as find_job_kinds
use Rattle.logs.proofs.find_job.Reads as find_job_reads
use Rattle.logs.proofs.table.Table.blank.Kinds as blank_kinds
use Rattle.logs.proofs.table.Table.blank.Reads as blank_reads
use Rattle.logs.proofs.table.Table.find.Kinds as find_kinds
use Rattle.logs.proofs.table.Table.find.Reads as find_reads
use Rattle.logs.proofs.judge.Kinds as judge_kinds
use Rattle.logs.proofs.judge.Reads as judge_reads
use Rattle.logs.proofs.read_jobs.Kinds as read_kinds
use Rattle.logs.proofs.read_jobs.Reads as read_reads

pub one_code : One 0 code_kinds.ps code_kinds.r code_reads.Post
one_code κs a x y s t p q = p ∙ sym q

pub one_place : One 0 place_kinds.ps place_kinds.r place_reads.Post
one_place κs a x y s t p q = p ∙ sym q

pub one_find_job : One 1 find_job_kinds.ps find_job_kinds.r find_job_reads.Post
one_find_job κs a x y s t p q = p.1 ∙ sym q.1

pub one_find : One 1 find_kinds.ps find_kinds.r find_reads.Post
one_find κs a x y s t p q = p.1 ∙ sym q.1

-- ---- tables

same_table : (t u : Table) → t.numbers ≡ u.numbers → t.states ≡ u.states → t.told ≡ u.told → t.count ≡ u.count → t ≡ u
same_table t u n s o c =
    λ i. record { numbers = n i; states = s i; told = o i; count = c i; few = is_prop→PathP (λ j. c j ≤ 512) (λ j. le_prop) t.few u.few i }

pub one_blank : One 0 blank_kinds.ps blank_kinds.r blank_reads.Post
one_blank κs a x y s t p q = same_table x y (p.0 ∙ sym q.0) (p.1 ∙ sym q.1) (p.2 ∙ sym q.2) (p.3 ∙ sym q.3)

-- ---- the reading of a log

-- the fault of a reading, and its events
fault_code : Reading → ℕ
fault_code (faulty c p) = suc c
fault_code (events h) = 0

fault_place : Reading → ℕ
fault_place (faulty c p) = p
fault_place (events h) = 0

events_in : Reading → History
events_in (faulty c p) = []
events_in (events h) = h

-- a fault is told by its code and its place
same_fault : (e f : Fault) → code_of e ≡ code_of f → place_of e ≡ place_of f → e ≡ f
same_fault Length Length c p = refl
same_fault Length (Form n) c p = absurd (omega arith)
same_fault Length (Turn n) c p = absurd (omega arith)
same_fault Length (TooMany n) c p = absurd (omega arith)
same_fault (Form m) Length c p = absurd (omega arith)
same_fault (Form m) (Form n) c p = ap Form p
same_fault (Form m) (Turn n) c p = absurd (omega arith)
same_fault (Form m) (TooMany n) c p = absurd (omega arith)
same_fault (Turn m) Length c p = absurd (omega arith)
same_fault (Turn m) (Form n) c p = absurd (omega arith)
same_fault (Turn m) (Turn n) c p = ap Turn p
same_fault (Turn m) (TooMany n) c p = absurd (omega arith)
same_fault (TooMany m) Length c p = absurd (omega arith)
same_fault (TooMany m) (Form n) c p = absurd (omega arith)
same_fault (TooMany m) (Turn n) c p = absurd (omega arith)
same_fault (TooMany m) (TooMany n) c p = ap TooMany p

one_judging : (bytes : List ℕ) (x y : Result (Unit {0}) Fault) → Judged bytes x → Judged bytes y → x ≡ y
unfolding fault_code fault_place
one_judging bytes (Err e) (Err f) r s =
    let k = sym r ∙ s in
    let c : suc (code_of e) ≡ suc (code_of f) = ap fault_code k in
    ap Err (same_fault e f (omega arith) (ap fault_place k))
one_judging bytes (Err e) (Ok n) r s = absurd (let k : suc (code_of e) ≡ 0 = ap fault_code (sym r ∙ s.1) in omega arith)
one_judging bytes (Ok m) (Err f) r s = absurd (let k : suc (code_of f) ≡ 0 = ap fault_code (sym s ∙ r.1) in omega arith)
one_judging bytes (Ok m) (Ok n) r s = refl

pub one_judge : One 1 judge_kinds.ps judge_kinds.r judge_reads.Post
one_judge κs a x y s t p q = one_judging a.0.now x y p q

one_reading : (bytes : List ℕ) (t u : Table) (x y : Result (Unit {0}) Fault) → Reads bytes x t → Cleared x t → Reads bytes y u → Cleared y u → (x ≡ y) × (t ≡ u)
unfolding fault_code fault_place events_in
one_reading bytes t u (Err e) (Err f) r a s b =
    let k = sym r ∙ s in
    let c : suc (code_of e) ≡ suc (code_of f) = ap fault_code k in
    (ap Err (same_fault e f (omega arith) (ap fault_place k)), same_table t u (a.0 ∙ sym b.0) (a.1 ∙ sym b.1) (a.2 ∙ sym b.2) (a.3 ∙ sym b.3))
one_reading bytes t u (Err e) (Ok n) r a s b = absurd (let k : suc (code_of e) ≡ 0 = ap fault_code (sym r ∙ s.1) in omega arith)
one_reading bytes t u (Ok m) (Err f) r a s b = absurd (let k : suc (code_of f) ≡ 0 = ap fault_code (sym s ∙ r.1) in omega arith)
one_reading bytes t u (Ok m) (Ok n) r a s b =
    let k : s.0 ≡ r.0 = ap events_in (sym s.1 ∙ r.1) in
    let h = subst (λ (h : History). Holds h (length h) u) k s.2 in
    (refl, same_table t u (one_numbers r.2 h) (one_states r.2 h) (one_told r.2 h) (one_count r.2 h))

-- what it returns, and the table at exit, its second parameter
pub one_read_jobs : (κs : Lfts 2) (a : Dens κs read_kinds.ps) (x y : (res_t read_kinds.r κs).Denot) (s t : AtExit (ended_of 2 read_kinds.ps read_kinds.r) κs)
    → read_reads.Post κs a x s
    → read_reads.Post κs a y t
    → (x ≡ y) × (s.1.0.now ≡ t.1.0.now)
one_read_jobs κs a x y s t p q = one_reading a.0.now s.1.0.now t.1.0.now x y p.0 p.1 q.0 q.1
