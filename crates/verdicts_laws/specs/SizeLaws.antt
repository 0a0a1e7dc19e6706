-- Codes and places are small. A log that is read has at most 32,768 bytes, an event for each eight of them, and opens at most 512 jobs (`log_size`); the fault of one that is
-- not has one of four codes and its place (`fault_known`). So the code of a verdict is at most 16, that of a lister's answer at most 18, and the place of each at most 4,095
-- (`check_small`, `list_small`), and from the code times 2 ^ 32 plus the place both can be told (`check_apart`, `list_apart`).
-- Assumes nothing.
use Rattle.std.specs.Prelude.{◌≡◌, refl, ◌⊎◌, Bool, true, false, not, ◌||◌, cond, List, [], ◌∷◌, ◌++◌, ℕ, zero, suc, ◌+◌, ◌*◌, ◌/◌, ◌%◌, ◌≤◌, ◌<◌, T, ltb, eqb}
use Rattle.std.proofs.Common.{sym, ap, ap₂, ◌∙◌, inr, le_trans, length-append}
use Rattle.std.proofs.Math.Logic.{⊎_elim}
use native.Mathlib.Omega.{arith}
use Rattle.std.proofs.Math.ListN.{length}
use Rattle.graph.specs.Decide.{Decides, or_test, not_test, eq_test, lt_test, answer, true_is}
use Rattle.graph.specs.Lists.{only_length, before_right, once_le}
use Rattle.history.specs.Events.{History, has, opened, abandoned, kept}
use Rattle.history.specs.Formats.{records}
use Rattle.history_laws.specs.Granted.{below_bound, passed}
use Rattle.history_laws.specs.RecordLaws.{records_length}
use Rattle.history.specs.Replies.{Request, Want, an_open, a_step, an_end, an_abandon, a_publish, nothing, want, event_of}
use Rattle.history_laws.specs.TurnLaws.{kept_steps_from, orderly}
use Rattle.history.specs.Turns.{Turns}
use Rattle.verdicts.specs.Logs.{record_bytes, most_bytes, most_jobs, ill_formed, out_of_turn, too_many, fault_of, faulty, events, read_from, read_log}
use Rattle.verdicts_laws.specs.LogLaws.{in_turn, Fault, of_length, of_record, faults, opened_length}
use Rattle.verdicts.specs.Verdicts.{Verdict, verdict, check, Listed, list_order}
use Rattle.verdicts_laws.specs.VerdictLaws.{Judged, bad_entry, job_missing, pair_turned, accepted, Checked, log_faulty, log_read, check_right, ListedAs, no_room, no_order, an_order, Answered, list_right}

-- ---- the size of a log that is read

-- what a record without a fault brings: one event, and an open only where there is room for one more
record Brings (h new : History) : Type 0 where
  one : length new ≡ 1
  room : length (opened h) + length (opened new) ≤ most_jobs

brings : (h : History) (r : Request) → length (opened h) ≤ most_jobs → fault_of h r ≡ 0 → Brings h (event_of r.job (want r.kind) r.job r.cell)
unfolding fault_of
brings h r few z =
    let p = passed (ill_formed (want r.kind) r) 11 _ z in
    let q = passed (out_of_turn h (want r.kind) r.job) 12 _ p.1 in
    record { one = ap length (in_turn h r z).1; room = go (want r.kind) (passed (too_many h (want r.kind)) 13 _ q.1).0 }
  where
    go : (w : Want) → (T (too_many h w) → ⊥) → length (opened h) + length (opened (event_of r.job w r.job r.cell)) ≤ most_jobs
    go = unfold too_many event_of opened in elim [
      | an_open ↦ λ f. let l = below_bound most_jobs (length (opened h)) f in omega arith
      | a_step k ↦ λ f. omega arith
      | an_end ↦ λ f. omega arith
      | an_abandon ↦ λ f. omega arith
      | a_publish ↦ λ f. omega arith
      | nothing ↦ λ f. omega arith
    ]

-- what records leave that are read after the events h: an event for each, and few opens
record After (h : History) (rs : List Request) (k : History) : Type 0 where
  whole : length k ≡ length h + length rs
  few_jobs : length (opened k) ≤ most_jobs

after : (h : History) (n : ℕ) (rs : List Request) (k : History) → length (opened h) ≤ most_jobs → read_from h n rs ≡ events k → After h rs k
after h n [] k few e =
    let q : h ≡ k = cc in
    let a : length h ≡ length k = ap length q in
    let b : length (opened h) ≡ length (opened k) = ap (λ (l : History). length (opened l)) q in
    record { whole = omega arith; few_jobs = omega arith }
after h n (r ∷ rs) k few e = go (eqb (fault_of h r) 0) refl e (after (h ++ new) (suc n) rs k)
  where
    new : History
    new = event_of r.job (want r.kind) r.job r.cell

    go : (b : Bool) → eqb (fault_of h r) 0 ≡ b → cond b (read_from (h ++ new) (suc n) rs) (faulty (fault_of h r) n) ≡ events k
        → (length (opened (h ++ new)) ≤ most_jobs → read_from (h ++ new) (suc n) rs ≡ events k → After (h ++ new) rs k) → After h (r ∷ rs) k
    go true q s f =
        let b = brings h r few ((eq_test (fault_of h r) 0).holds (true_is q)) in
        let one = b.one in
        let room = b.room in
        let a = length-append h new in
        let o = opened_length h new in
        let w = f (omega arith) s in
        let x = w.whole in
        record { whole = omega arith; few_jobs = w.few_jobs }
    go false q s f = absurd (let z : ◌≡◌ {A = ℕ} 0 1 = cc in omega arith)

-- a log that is read has 32,768 bytes at most, an event for each eight of them, and opens 512 jobs at most
pub record LogSize (bytes : List ℕ) (h : History) : Type 0 where
  pub short : length bytes ≤ most_bytes
  pub whole : length h ≡ length bytes / 8
  pub few_jobs : length (opened h) ≤ most_jobs

pub log_size : (bytes : List ℕ) (h : History) → read_log bytes ≡ events h → LogSize bytes h
unfolding read_log
log_size bytes h e =
    go (not (eqb (length bytes % record_bytes) 0) || ltb most_bytes (length bytes)) (or_test (not_test (eq_test (length bytes % record_bytes) 0)) (lt_test most_bytes (length bytes))) e
  where
    go : (b : Bool) → Decides b ((length bytes % record_bytes ≡ 0 → ⊥) ⊎ (most_bytes < length bytes)) → cond b (faulty 11 0) (read_from [] zero (records bytes)) ≡ events h → LogSize bytes h
    go true d x = absurd (let z : ◌≡◌ {A = ℕ} 0 1 = cc in omega arith)
    go false d x =
        let w = after [] zero (records bytes) h (unfold opened in omega arith) x in
        let a = w.whole in
        let c = records_length bytes in
        record {
          short = ⊎_elim (λ l. absurd (d.shows (inr l))) (λ f. let g : (most_bytes < length bytes) → ⊥ = f in omega arith) (answer (lt_test most_bytes (length bytes)));
          whole = omega arith;
          few_jobs = w.few_jobs;
        }

-- ---- the fault of a log

-- its code is one of four, and its place, 0 for the length, is below 4,096
pub record FaultKnown (bytes : List ℕ) (c p : ℕ) : Type 0 where
  pub from : 11 ≤ c
  pub upto : c ≤ 14
  pub of_the_length : c ≡ 11 → p ≡ 0
  pub place : p ≤ 4095

pub record Code (c : ℕ) : Type 0 where
  pub from : (c ≡ 0 → ⊥) → 12 ≤ c
  pub upto : c ≤ 14

pub fault_code : (h : History) (r : Request) → Code (fault_of h r)
unfolding fault_of
fault_code h r = go (ill_formed (want r.kind) r) (out_of_turn h (want r.kind) r.job) (too_many h (want r.kind))
  where
    go : (x y z : Bool) → Code (cond x 12 (cond y 13 (cond z 14 0)))
    go true y z = record { from = λ f. omega arith; upto = omega arith }
    go false true z = record { from = λ f. omega arith; upto = omega arith }
    go false false true = record { from = λ f. omega arith; upto = omega arith }
    go false false false = record { from = λ f. absurd (f refl); upto = omega arith }

pub fault_known : (bytes : List ℕ) {c p : ℕ} → read_log bytes ≡ faulty c p → FaultKnown bytes c p
fault_known bytes {c} {p} e = go (faults bytes c p e)
  where
    go : {c p : ℕ} → Fault bytes c p → FaultKnown bytes c p
    go (of_length l) = record { from = omega arith; upto = omega arith; of_the_length = λ q. refl; place = omega arith }
    go (of_record w s f) =
        let k = fault_code f.before f.at in
        let a = k.from (λ z. f.is_fault (sym f.fault ∙ z)) in
        let b = k.upto in
        let e = f.fault in
        let l = ap length f.split ∙ length-append f.front (f.at ∷ f.back) in
        let m = records_length bytes in
        let n = f.place in
        record { from = omega arith; upto = omega arith; of_the_length = λ q. absurd (omega arith); place = omega arith }

-- a code that is none of the others is 14
pub last_code : {bytes : List ℕ} {c p : ℕ} → FaultKnown bytes c p → (c ≡ 11 → ⊥) → (c ≡ 12 → ⊥) → (c ≡ 13 → ⊥) → c ≡ 14
last_code k x y z = let a = k.from in let b = k.upto in omega arith

-- ---- codes and places

-- the kept jobs are opened jobs
kept_few : (bytes : List ℕ) (h : History) → LogSize bytes h → length (kept h) ≤ most_jobs
unfolding kept
kept_few bytes h w = le_trans (only_length (λ j. not (has (abandoned h) j)) (opened h)) w.few_jobs

-- a code up to `most`, and a place below 4,096
pub record Small (most code place : ℕ) : Type 0 where
  pub code_small : code ≤ most
  pub place_small : place ≤ 4095

-- good entries are kept jobs, each once, and so no more than those
judged_small : {bytes : List ℕ} {h : History} {order : List ℕ} → Turns h → LogSize bytes h → {v : Verdict} → Judged h order v → Small 16 v.code v.place
judged_small {bytes} {h} t w (bad_entry f) =
    let k = kept_few bytes h w in
    let l = once_le f.good.once f.good.kept in
    let p = f.place in
    record { code_small = omega arith; place_small = omega arith }
judged_small {bytes} {h} t w (job_missing g m) = let k = kept_few bytes h w in let l = once_le g.once g.kept in record { code_small = omega arith; place_small = omega arith }
judged_small {bytes} {h} t w (pair_turned n l) =
    let q = (orderly h t).places l.later (kept_steps_from h (before_right l.in_order)).0 in
    let p = l.place in
    let k = w.whole in
    let s = w.short in
    record { code_small = omega arith; place_small = omega arith }
judged_small {bytes} {h} t w (accepted a) = let k = kept_few bytes h w in record { code_small = omega arith; place_small = omega arith }

pub check_small : (bytes order : List ℕ) → Small 16 (check bytes order).code (check bytes order).place
check_small bytes order = go (check_right bytes order)
  where
    go : {v : Verdict} → Checked bytes order v → Small 16 v.code v.place
    go (log_faulty e) = let k = fault_known bytes e in let a = k.upto in record { code_small = omega arith; place_small = k.place }
    go (log_read {h = h} e t j) = judged_small t (log_size bytes h e) j

pub list_small : (bytes lent : List ℕ) → Small 18 (list_order bytes lent).code (list_order bytes lent).place
list_small bytes lent = go (list_right bytes lent)
  where
    by_answer : {h : History} {a : Listed} → LogSize bytes h → ListedAs h lent a → Small 18 a.code a.place
    by_answer {h} w (no_room q) = let k = kept_few bytes h w in record { code_small = omega arith; place_small = omega arith }
    by_answer w (no_order q c) = record { code_small = omega arith; place_small = omega arith }
    by_answer {h} w (an_order q f a l) = let k = kept_few bytes h w in record { code_small = omega arith; place_small = omega arith }

    go : {a : Listed} → Answered bytes lent a → Small 18 a.code a.place
    go (Answered.log_faulty e) = let k = fault_known bytes e in let a = k.upto in record { code_small = omega arith; place_small = k.place }
    go (Answered.log_read {h = h} e t j) = by_answer (log_size bytes h e) j

-- ---- code and place in one number

apart : (c p d q : ℕ) → p ≤ 4095 → q ≤ 4095 → c * 4294967296 + p ≡ d * 4294967296 + q → (c ≡ d) × (p ≡ q)
apart c p d q a b e = (omega arith, omega arith)

abbrev pub packed : Verdict → ℕ
packed v = v.code * 4294967296 + v.place

pub check_apart : (bytes order bytes' order' : List ℕ) → packed (check bytes order) ≡ packed (check bytes' order') → check bytes order ≡ check bytes' order'
check_apart bytes order bytes' order' e =
    let v = check bytes order in
    let w = check bytes' order' in
    let r = apart v.code v.place w.code w.place (check_small bytes order).place_small (check_small bytes' order').place_small e in
    ap₂ verdict r.0 r.1

abbrev pub packed_list : Listed → ℕ
packed_list a = a.code * 4294967296 + a.place

pub list_apart : (bytes lent bytes' lent' : List ℕ) → packed_list (list_order bytes lent) ≡ packed_list (list_order bytes' lent')
    → ((list_order bytes lent).code ≡ (list_order bytes' lent').code) × ((list_order bytes lent).place ≡ (list_order bytes' lent').place)
list_apart bytes lent bytes' lent' e =
    let a = list_order bytes lent in
    let b = list_order bytes' lent' in
    apart a.code a.place b.code b.place (list_small bytes lent).place_small (list_small bytes' lent').place_small e
