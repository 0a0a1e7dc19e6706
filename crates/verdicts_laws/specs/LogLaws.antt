-- A log that is read without a fault is in turn (`read_turns`); one that is refused has its lowest faulty record at the place reported (`faults`); the log of a history in turn, within the sizes, is read back as that history
-- (`read_back`); so is the log of what was granted (`granted_read`).
-- Assumes nothing.
use Rattle.std.specs.Prelude.{◌≡◌, ◌⊎◌, Bool, true, false, not, ◌||◌, cond, ℕ, zero, suc, ◌+◌, ◌*◌, ◌/◌, ◌%◌, ◌≤◌, ◌<◌, T, eqb, length}
use Rattle.std.proofs.Math.Path.{refl, subst}
use Rattle.std.proofs.Common.{sym, ap, ap₂, ◌∙◌, subst₂, inl, inr, arith, length-append}
use Rattle.std.proofs.Math.Logic.{⊎_elim}
use mathlib.Core.List.Memᴰ
use mathlib.Core.List.{List, [], ◌∷◌, ◌++◌, append-nil, append_assoc}
use Rattle.std.proofs.Math.Dec.{ltb}
use Rattle.graph.specs.Decide.{or_test, not_test, eq_test, le_test, lt_test, own_test, every_of, every_test, answer, test_true, test_false, is_false, Decides, false_is}
use Rattle.graph.specs.Lists.{◌∈◌, here}
use Rattle.history.specs.Events.{read, write, add, Event, opens, steps, ends, abandons, History, gather, opened_by, has, opened, open_now, wrote}
use Rattle.history.specs.Replies.{cells, numbers, Request, Want, an_open, a_step, an_end, an_abandon, a_publish, nothing, want, event_of, history_of}
use Rattle.history.specs.Turns.{InTurn, InTurnAfter, Turns}
use Rattle.history_laws.specs.Granted.{passed, undenied, granted_sound}
use Rattle.history_laws.specs.TurnLaws.{gather_append, has_test, open_opened, turns_next}
use Rattle.history.specs.Formats.{records}
use Rattle.verdicts.specs.Logs.{record_bytes, most_bytes, most_jobs, ill_formed, out_of_turn, too_many, fault_of, Reading, faulty, events, read_from, read_log, kind_number, fields, record_of, log_of}

-- ---- a record without a fault

-- it is one event, in turn
pub in_turn : (h : History) (r : Request) → fault_of h r ≡ 0 → (e : Event) × (event_of r.job (want r.kind) r.job r.cell ≡ e ∷ []) × InTurn h e
unfolding fault_of
in_turn h r z =
    let p = passed (ill_formed (want r.kind) r) 11 _ z in
    let q = passed (out_of_turn h (want r.kind) r.job) 12 _ p.1 in
    go (want r.kind) p.0 q.0
  where
    is_open : (T (not (has (open_now h) r.job)) → ⊥) → r.job ∈ open_now h
    is_open k = (has_test (open_now h) r.job).holds (undenied (has (open_now h) r.job) k)

    go : (w : Want) → (T (ill_formed w r) → ⊥) → (T (out_of_turn h w r.job) → ⊥) → (e : Event) × (event_of r.job w r.job r.cell ≡ e ∷ []) × InTurn h e
    go = unfold ill_formed out_of_turn event_of in elim [
      | an_open ↦ λ i t. (opens r.job, refl, λ n m. (every_test (λ x. lt_test x r.job) (opened h)).holds (undenied (every_of (λ x. ltb x r.job) (opened h)) t) n m)
      | a_step k ↦ λ i t. (steps k r.job r.cell, refl, (is_open t, ⊎_elim (λ le. absurd (i ((or_test (not_test (eq_test r.byte1 0)) (le_test cells r.cell)).shows (inr le)))) (λ f. let g : (cells ≤ r.cell) → ⊥ = f in omega arith) (answer (le_test cells r.cell))))
      | an_end ↦ λ i t. (ends r.job, refl, is_open t)
      | an_abandon ↦ λ i t. (abandons r.job, refl, (is_open (λ f. t ((or_test (own_test (not (has (open_now h) r.job))) (own_test (wrote h r.job))).shows (inl f))), λ w'. t ((or_test (own_test (not (has (open_now h) r.job))) (own_test (wrote h r.job))).shows (inr w'))))
      | a_publish ↦ λ i t. absurd (i tt)
      | nothing ↦ λ i t. absurd (i tt)
    ]

-- ---- a log without a fault is in turn

read_turns_from : (h : History) (n : ℕ) (rs : List Request) (k : History) → Turns h → read_from h n rs ≡ events k → Turns k
read_turns_from h n [] k t e = subst Turns (let q : h ≡ k = cc in q) t
read_turns_from h n (r ∷ rs) k t e = go (eqb (fault_of h r) 0) refl e (λ x s. read_turns_from (h ++ event_of r.job (want r.kind) r.job r.cell) (suc n) rs k x s)
  where
    rest : Reading
    rest = read_from (h ++ event_of r.job (want r.kind) r.job r.cell) (suc n) rs

    go : (b : Bool) → eqb (fault_of h r) 0 ≡ b → cond b rest (faulty (fault_of h r) n) ≡ events k
        → (Turns (h ++ event_of r.job (want r.kind) r.job r.cell) → rest ≡ events k → Turns k) → Turns k
    go true q s f =
        let p = in_turn h r ((eq_test (fault_of h r) 0).holds (subst T (sym q) tt)) in
        f (subst (λ (l : List Event). Turns (h ++ l)) (sym p.1) (turns_next [] h p.0 t p.2)) s
    go false q s f = absurd (let z : ◌≡◌ {A = ℕ} 0 1 = cc in omega arith)

pub read_turns : (bytes : List ℕ) (h : History) → read_log bytes ≡ events h → Turns h
unfolding read_log
read_turns bytes h e = go (not (eqb (length bytes % record_bytes) 0) || ltb most_bytes (length bytes)) e
  where
    go : (b : Bool) → cond b (faulty 11 0) (read_from [] zero (records bytes)) ≡ events h → Turns h
    go true q = absurd (let z : ◌≡◌ {A = ℕ} 0 1 = cc in omega arith)
    go false q = read_turns_from [] zero (records bytes) h tt q

-- ---- where the fault is

-- the lowest faulty record: those before it are read as the events k without a fault, and after them it has the fault c, at its place
pub record FaultAt (h : History) (n : ℕ) (rs : List Request) (c p : ℕ) : Type 0 where
  pub front : List Request
  pub at : Request
  pub back : List Request
  pub before : History
  pub split : rs ≡ front ++ at ∷ back
  pub place : p ≡ n + length front
  pub good : read_from h n front ≡ events before
  pub fault : fault_of before at ≡ c
  pub is_fault : c ≡ 0 → ⊥

fault_from : (h : History) (n : ℕ) (rs : List Request) (c p : ℕ) → read_from h n rs ≡ faulty c p → FaultAt h n rs c p
fault_from h n [] c p e = absurd (let z : ◌≡◌ {A = ℕ} 0 1 = cc in omega arith)
fault_from h n (r ∷ rs) c p e = go (eqb (fault_of h r) 0) refl e (fault_from next (suc n) rs c p)
  where
    next : History
    next = h ++ event_of r.job (want r.kind) r.job r.cell

    go : (b : Bool) → eqb (fault_of h r) 0 ≡ b → cond b (read_from next (suc n) rs) (faulty (fault_of h r) n) ≡ faulty c p
        → (read_from next (suc n) rs ≡ faulty c p → FaultAt next (suc n) rs c p) → FaultAt h n (r ∷ rs) c p
    go true q x f =
        let a = f x in
        record {
          front = r ∷ a.front;
          at = a.at;
          back = a.back;
          before = a.before;
          split = ap (λ (l : List Request). r ∷ l) a.split;
          place = let y = a.place in omega arith;
          good = ap (λ (b : Bool). cond b (read_from next (suc n) a.front) (faulty (fault_of h r) n)) q ∙ a.good;
          fault = a.fault;
          is_fault = a.is_fault;
        }
    go false q x f =
        let y : fault_of h r ≡ c = cc in
        record {
          front = [];
          at = r;
          back = rs;
          before = h;
          split = refl;
          place = let w : n ≡ p = cc in omega arith;
          good = refl;
          fault = y;
          is_fault = λ z. false_is q ((eq_test (fault_of h r) 0).shows (y ∙ z));
        }

-- a log that is refused has the wrong length, code 11 at place 0, or has the right length and a lowest faulty record
pub data Fault (bytes : List ℕ) : ℕ → ℕ → Type 0 where
  of_length : ((length bytes % record_bytes ≡ 0 → ⊥) ⊎ (most_bytes < length bytes)) → Fault bytes 11 0
  of_record : {c p : ℕ} → length bytes % record_bytes ≡ 0 → length bytes ≤ most_bytes → FaultAt [] zero (records bytes) c p → Fault bytes c p

pub faults : (bytes : List ℕ) (c p : ℕ) → read_log bytes ≡ faulty c p → Fault bytes c p
unfolding read_log
faults bytes c p e = go (not (eqb (length bytes % record_bytes) 0) || ltb most_bytes (length bytes)) (or_test (not_test (eq_test (length bytes % record_bytes) 0)) (lt_test most_bytes (length bytes))) e
  where
    go : (b : Bool) → Decides b ((length bytes % record_bytes ≡ 0 → ⊥) ⊎ (most_bytes < length bytes)) → cond b (faulty 11 0) (read_from [] zero (records bytes)) ≡ faulty c p → Fault bytes c p
    go true d x = subst₂ (Fault bytes) (let y : 11 ≡ c = cc in y) (let y : 0 ≡ p = cc in y) (of_length (d.holds tt))
    go false d x =
        of_record (⊎_elim (λ y. y) (λ f. absurd (d.shows (inl f))) (answer (eq_test (length bytes % record_bytes) 0)))
        (⊎_elim (λ l. absurd (d.shows (inr l))) (λ f. let g : (most_bytes < length bytes) → ⊥ = f in omega arith) (answer (lt_test most_bytes (length bytes)))) (fault_from [] zero (records bytes) c p x)

-- ---- the log of a history is read back

-- the record of an event, as fields
abbrev pub request_for : Event → Request
request_for (opens j) = record { kind = 1; byte1 = 0; cell = 0; job = j }
request_for (steps k j c) = record { kind = kind_number k; byte1 = 0; cell = c; job = j }
request_for (ends j) = record { kind = 4; byte1 = 0; cell = 0; job = j }
request_for (abandons j) = record { kind = 5; byte1 = 0; cell = 0; job = j }

-- two bytes and four bytes hold their numbers
two_bytes : (c : ℕ) → c < 65536 → c % 256 + c / 256 % 256 * 256 ≡ c
two_bytes c h = omega arith

four_bytes : (j : ℕ) → j < numbers → j % 256 + j / 256 % 256 * 256 + j / 256 / 256 % 256 * 65536 + j / 256 / 256 / 256 % 256 * 16777216 ≡ j
four_bytes j h = omega arith

pub read_fields : (k c j : ℕ) (rest : List ℕ) → c < 65536 → j < numbers → records (fields k c j ++ rest) ≡ record { kind = k; byte1 = 0; cell = c; job = j } ∷ records rest
read_fields k c j rest hc hj = ap₂ (λ (x y : ℕ). record { kind = k; byte1 = 0; cell = x; job = y } ∷ records rest) (two_bytes c hc) (four_bytes j hj)

-- the job that an event is of
abbrev pub job_of_event : Event → ℕ
job_of_event (opens j) = j
job_of_event (steps k j c) = j
job_of_event (ends j) = j
job_of_event (abandons j) = j

read_record : (h : History) (e : Event) (rest : List ℕ) → InTurn h e → job_of_event e < numbers → records (record_of e ++ rest) ≡ request_for e ∷ records rest
read_record h (opens j) rest t n = read_fields 1 0 j rest (omega arith) n
read_record h (steps k j c) rest t n = read_fields (kind_number k) c j rest (let q = t.1 in omega arith) n
read_record h (ends j) rest t n = read_fields 4 0 j rest (omega arith) n
read_record h (abandons j) rest t n = read_fields 5 0 j rest (omega arith) n

-- an event in turn, an open within the count of jobs, has no fault as a record
Roomy : History → Event → Type 0
Roomy h (opens j) = length (opened h) < most_jobs
Roomy h (steps k j c) = Unit {0}
Roomy h (ends j) = Unit {0}
Roomy h (abandons j) = Unit {0}

-- two and three tests that all fail
none_of_two : {a b : Bool} (n m x : ℕ) → a ≡ false → b ≡ false → cond a n (cond b m x) ≡ x
none_of_two n m x p q = ap₂ (λ (a b : Bool). cond a n (cond b m x)) p q

no_fault : (h : History) (e : Event) → InTurn h e → Roomy h e → fault_of h (request_for e) ≡ 0
unfolding fault_of want ill_formed out_of_turn too_many Roomy
no_fault h (opens j) t r =
    none_of_two 13 14 0 (ap not (test_true (every_test (λ i. lt_test i j) (opened h)) t)) (test_false (le_test most_jobs (length (opened h))) (λ q. omega arith))
no_fault h (steps read j c) t r = none_of_two 12 13 0 (test_false (le_test cells c) (λ q. let p = t.1 in omega arith)) (ap not (test_true (has_test (open_now h) j) t.0))
no_fault h (steps write j c) t r = none_of_two 12 13 0 (test_false (le_test cells c) (λ q. let p = t.1 in omega arith)) (ap not (test_true (has_test (open_now h) j) t.0))
no_fault h (steps add j c) t r = none_of_two 12 13 0 (test_false (le_test cells c) (λ q. let p = t.1 in omega arith)) (ap not (test_true (has_test (open_now h) j) t.0))
no_fault h (ends j) t r = ap (λ (b : Bool). cond (not b) 13 0) (test_true (has_test (open_now h) j) t)
no_fault h (abandons j) t r = ap₂ (λ (a b : Bool). cond (not a || b) 13 0) (test_true (has_test (open_now h) j) t.0) (is_false t.1)

pub event_for : (e : Event) → event_of (request_for e).job (want (request_for e).kind) (request_for e).job (request_for e).cell ≡ e ∷ []
unfolding want event_of
event_for (opens j) = refl
event_for (steps read j c) = refl
event_for (steps write j c) = refl
event_for (steps add j c) = refl
event_for (ends j) = refl
event_for (abandons j) = refl

-- the sizes that a log has
pub record Sized (h : History) : Type 0 where
  pub few : length h ≤ 4096
  pub few_jobs : length (opened h) ≤ most_jobs
  pub small : (j : ℕ) → j ∈ opened h → j < numbers

pub opened_length : (h k : History) → length (opened (h ++ k)) ≡ length (opened h) + length (opened k)
unfolding opened
opened_length h k = ap length (gather_append opened_by h k) ∙ length-append (gather opened_by h) (gather opened_by k)

opened_left : (h k : History) {j : ℕ} → j ∈ opened h → j ∈ opened (h ++ k)
unfolding opened
opened_left h k {j} m = subst (λ (l : List ℕ). j ∈ l) (sym (gather_append opened_by h k)) (Memᴰ.append_left (gather opened_by k) m)

-- the first of the events to come: its job's number is small, and it has room
module _ (h : History) (e : Event) (es : List Event) (t : InTurn h e) (s : Sized (h ++ e ∷ es)) where
  opens_here : (j : ℕ) → j ∈ opened_by e → j ∈ opened (h ++ e ∷ es)
  unfolding opened
  opens_here j m = subst (λ (l : List ℕ). j ∈ l) (sym (gather_append opened_by h (e ∷ es))) (Memᴰ.append_right (gather opened_by h) (Memᴰ.append_left (gather opened_by es) m))

pub small_first : (h : History) (e : Event) (es : List Event) → InTurn h e → Sized (h ++ e ∷ es) → job_of_event e < numbers
small_first h (opens j) es t s = s.small j (opens_here h (opens j) es t s j here)
small_first h (steps k j c) es t s = s.small j (opened_left h (steps k j c ∷ es) (open_opened h t.0))
small_first h (ends j) es t s = s.small j (opened_left h (ends j ∷ es) (open_opened h t))
small_first h (abandons j) es t s = s.small j (opened_left h (abandons j ∷ es) (open_opened h t.0))

roomy_first : (h : History) (e : Event) (es : List Event) → Sized (h ++ e ∷ es) → Roomy h e
unfolding Roomy opened
roomy_first h (opens j) es s = let q = opened_length h (opens j ∷ es) in let r = s.few_jobs in omega arith
roomy_first h (steps k j c) es s = tt
roomy_first h (ends j) es s = tt
roomy_first h (abandons j) es s = tt

read_events : (h : History) (n : ℕ) (es : List Event) → InTurnAfter h es → Sized (h ++ es) → read_from h n (records (log_of es)) ≡ events (h ++ es)
read_events h n [] t s = ap events (sym (append-nil h))
read_events h n (e ∷ es) t s =
    let s' : Sized ((h ++ e ∷ []) ++ es) = subst Sized (sym (append_assoc h (e ∷ []) es)) s in
    ap (read_from h n) (read_record h e (log_of es) t.0 (small_first h e es t.0 s))
    ∙ ap (λ (f : ℕ). cond (eqb f 0) (read_from (h ++ event_of (request_for e).job (want (request_for e).kind) (request_for e).job (request_for e).cell) (suc n) (records (log_of es))) (faulty f n)) (no_fault h e t.0 (roomy_first h e es s))
    ∙ ap (λ (l : List Event). read_from (h ++ l) (suc n) (records (log_of es))) (event_for e)
    ∙ read_events (h ++ e ∷ []) (suc n) es t.1 s'
    ∙ ap events (append_assoc h (e ∷ []) es)

pub log_append : (g h : History) → log_of (g ++ h) ≡ log_of g ++ log_of h
log_append [] h = refl
log_append (e ∷ g) h = ap (λ (l : List ℕ). record_of e ++ l) (log_append g h) ∙ sym (append_assoc (record_of e) (log_of g) (log_of h))

pub log_length : (h : History) → length (log_of h) ≡ 8 * length h
log_length [] = refl
log_length (opens j ∷ h) = let q = log_length h in omega arith
log_length (steps k j c ∷ h) = let q = log_length h in omega arith
log_length (ends j ∷ h) = let q = log_length h in omega arith
log_length (abandons j ∷ h) = let q = log_length h in omega arith

-- the log of a history in turn and within the sizes is read as that history
pub read_back : (h : History) → Turns h → Sized h → read_log (log_of h) ≡ events h
unfolding read_log
read_back h t s =
    let q = log_length h in
    let f = s.few in
    ap₂ (λ (a b : Bool). cond (not a || b) (faulty 11 0) (read_from [] zero (records (log_of h))))
    (test_true (eq_test (length (log_of h) % record_bytes) 0) (omega arith)) (test_false (lt_test most_bytes (length (log_of h))) (λ p. omega arith))
    ∙ read_events [] zero h t s

-- and so is the log of what was granted, while it is within the sizes
pub granted_read : (first : ℕ) (rs : List Request) → length (history_of first rs) ≤ 4096 → length (opened (history_of first rs)) ≤ most_jobs
    → read_log (log_of (history_of first rs)) ≡ events (history_of first rs)
granted_read first rs few few_jobs =
    let s = granted_sound first rs in
    read_back (history_of first rs) s.turns (record { few = few; few_jobs = few_jobs; small = s.in_range })
