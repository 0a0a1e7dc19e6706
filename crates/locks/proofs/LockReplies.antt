-- What gets 10, and what gets the first profile's reply. Where no circle was, a step that is not held up closes none: so after a history granted by locks a request is put off, or it gets
-- the first profile's reply and leaves what it leaves there (`reply_or_off`, `after_or_off`, `book_or_off`); and every history so granted is locked, and sound as the first profile's
-- are (`granted_locked`, `granted_sound`, `granted_ported`).
--
-- In order: what gets 10; a step, and what is none; what gets the first profile's reply; what was granted is locked; the histories so granted; no 7; parts of a list.
-- Assumes nothing.
use Rattle.std.specs.Prelude.{◌≡◌, ◌&&◌, T, leb, take}
use Rattle.std.proofs.Math.Path.{refl, sym, ap, ap₂}
use Rattle.std.proofs.Common.{◌∙◌, subst, ⊎_elim, arith}
use Rattle.std.proofs.Math.Bool.{Bool, true, false, not, cond, and-false}
use mathlib.Core.List.Memᴰ
use mathlib.Core.List.{List, [], ◌∷◌, ◌++◌, append-nil, append_assoc}
use Prim.Native.Nat.{ℕ, zero, suc, ◌+◌, ◌<◌}
use Rattle.std.proofs.Math.Dec.{eqb, T_not}
use Rattle.std.proofs.Math.ListN.{length}
use Rattle.graph.specs.Decide.{eq_test, le_test, by_test, chosen, true_is, false_is, test_true, test_false}
use Rattle.graph.specs.Lists.{◌∈◌}
use Rattle.history.specs.Events.{Kind, write, Event, steps, ends, History, has, opened, open_now, kept_steps, Circular}
use Rattle.history.specs.Replies.{cells, numbers, most_open, port_count, most_of_port, Request, Reply, Want, an_open, a_step, an_end, an_abandon, a_publish, nothing, want, Facts, first_of, step_tests, tests, code_of, event_of, job_of, reply_of, granted_of, entered, ports_after, Book, blank_book, full, reply, after, book_after}
use Rattle.history_laws.specs.ReplyLaws.{as_kind, publish_reply}
use Rattle.history.specs.Turns.{InTurn}
use Rattle.history_laws.specs.CircleLaws.{has_circle_test}
use Rattle.history_laws.specs.TurnLaws.{has_test, open_steps, orderly}
use Rattle.history_laws.specs.Granted.{below_bound, passed, undenied, proper_step, Sound, sound_start, sound_after}
use Rattle.history_laws.specs.PortLaws.{Ported, ported_start, ported_granted}
use Rattle.locks.specs.Locks.{HeldUp, held_up, of_step, locked, ten_for_seven, lock_reply, lock_granted, lock_after, lock_book_after, lock_replies_from, lock_history_from, lock_book_from, lock_history, lock_book}
use Rattle.locks.specs.LockLaws.{LockedAfter, Locked}
use Rattle.locks.proofs.LockLaws.{held_up_test, locked_append, locked_free}
use Rattle.locks.specs.LockReplies.{AsksStep, Published, Rest, Run, by_publish, by_step, held_up_by, to_abandon, to_end, to_open}

-- ---- what gets 10

-- 7 is given where the first three fail
seven_step : (x o u : Bool) → eqb (cond x 2 (cond (not o) 3 (cond u 7 0))) 7 ≡ not x && (o && u)
seven_step true o u = refl
seven_step false false u = refl
seven_step false true true = refl
seven_step false true false = refl

seven_byte : (z : Bool) (n : ℕ) → eqb (cond (not z) 1 n) 7 ≡ z && eqb n 7
seven_byte true n = refl
seven_byte false n = refl

-- ---- a step, and what is none

module _ (b : Book) (h : History) where
  seven_want : (w : Want) (j c : ℕ) → eqb (first_of (tests (locked b h) w j c)) 7 ≡ of_step (λ k. not (leb cells c) && (has (open_now h) j && held_up h k j c)) w
  unfolding tests locked full
  seven_want an_open j c = go (leb numbers (b.first + length (opened h))) (leb port_count j) (leb most_open (length (open_now h))) (leb most_of_port ((full b h).crowd j))
    where
      go : (x y z w : Bool) → eqb (cond x 6 (cond y 8 (cond z 5 (cond w 9 0)))) 7 ≡ false
      go true y z w = refl
      go false true z w = refl
      go false false true w = refl
      go false false false true = refl
      go false false false false = refl
  seven_want (a_step k) j c = seven_step (leb cells c) (has (open_now h) j) (held_up h k j c)
  seven_want an_end j c = go (has (open_now h) j)
    where
      go : (o : Bool) → eqb (cond (not o) 3 0) 7 ≡ false
      go true = refl
      go false = refl
  seven_want an_abandon j c = go (has (open_now h) j) ((full b h).has_written j)
    where
      go : (o w : Bool) → eqb (cond (not o) 3 (cond w 4 0)) 7 ≡ false
      go false w = refl
      go true true = refl
      go true false = refl
  seven_want a_publish j c = seven_step (leb cells c) (has (open_now h) j) (held_up h write j c)
  seven_want nothing j c = refl

  seven : (r : Request) → eqb (code_of (locked b h) r) 7 ≡ held_up_by h r
  unfolding code_of held_up_by
  seven r =
      seven_byte (eqb r.byte1 0) (first_of (tests (locked b h) (want r.kind) r.job r.cell))
      ∙ ap (λ (x : Bool). eqb r.byte1 0 && x) (seven_want (want r.kind) r.job r.cell)

as_step : (f : Facts) {w : Want} {k : Kind} → AsksStep w k → (j c : ℕ) → first_of (tests f w j c) ≡ first_of (step_tests f k j c)
unfolding tests
as_step f by_step j c = refl
as_step f by_publish j c = refl

-- the code of a well-formed step of an open job on a real cell
pub step_code : (b : Book) (h : History) (r : Request) (k : Kind) → AsksStep (want r.kind) k → r.byte1 ≡ 0 → r.job ∈ open_now h → r.cell < cells
    → (lock_reply b h r).code ≡ cond (held_up h k r.job r.cell) 10 0
unfolding lock_reply reply_of code_of locked full
step_code b h r k asks zero_byte is_open real =
    ap (λ (x : Bool). ten_for_seven (cond (not x) 1 (first_of (tests (locked b h) (want r.kind) r.job r.cell)))) (test_true (eq_test r.byte1 0) zero_byte)
    ∙ ap ten_for_seven (as_step (locked b h) asks r.job r.cell)
    ∙ ap (λ (x : Bool). at x (has (open_now h) r.job) held_now) (test_false (le_test cells r.cell) (λ q. omega arith))
    ∙ ap (λ (x : Bool). at false x held_now) (test_true (has_test (open_now h) r.job) is_open)
    ∙ go held_now
  where
    held_now : Bool
    held_now = held_up h k r.job r.cell

    at : Bool → Bool → Bool → ℕ
    at x o u = ten_for_seven (cond x 2 (cond (not o) 3 (cond u 7 0)))

    go : (u : Bool) → at false true u ≡ cond u 10 0
    go true = refl
    go false = refl

-- what is answered 0 had code 0
ten_zero : (n : ℕ) → ten_for_seven n ≡ 0 → n ≡ 0
ten_zero n = by_test (λ q. cond q 10 n ≡ 0 → n ≡ 0) (eq_test n 7) (λ e z. absurd (let y : ◌≡◌ {A = ℕ} 10 0 = z in omega arith)) (λ ne z. z)

rest_want : (b : Book) (h : History) {w : Want} → Rest w → (j c : ℕ) → first_of (tests (locked b h) w j c) ≡ first_of (tests (full b h) w j c)
unfolding tests locked
rest_want b h to_open j c = refl
rest_want b h to_end j c = refl
rest_want b h to_abandon j c = refl

rest_off : (f : Kind → Bool) {w : Want} → Rest w → of_step f w ≡ false
rest_off f to_open = refl
rest_off f to_end = refl
rest_off f to_abandon = refl

module _ (b : Book) (h : History) (r : Request) (w : Rest (want r.kind)) where
  rest_code : code_of (locked b h) r ≡ code_of (full b h) r
  unfolding code_of
  rest_code = ap (λ (n : ℕ). cond (not (eqb r.byte1 0)) 1 n) (rest_want b h w r.job r.cell)

  not_off : held_up_by h r ≡ false
  unfolding held_up_by
  not_off = ap (λ (x : Bool). eqb r.byte1 0 && x) (rest_off _ w) ∙ and-false (eqb r.byte1 0)

  pub rest_reply : lock_reply b h r ≡ reply b h r
  unfolding lock_reply reply reply_of locked
  rest_reply = ap₂ (λ (q : Bool) (n : ℕ). record { code = cond q 10 n; job = cond (eqb n 0) (job_of (full b h).next (want r.kind) r.job) 0 }) (seven b h r ∙ not_off) rest_code

  pub rest_after : lock_after b h r ≡ after b h r
  unfolding lock_after lock_granted after granted_of locked
  rest_after = ap (λ (n : ℕ). h ++ cond (eqb n 0) (event_of (full b h).next (want r.kind) r.job r.cell) []) rest_code

  pub rest_book : lock_book_after b h r ≡ book_after b h r
  unfolding ports_after locked
  rest_book = ap (λ (n : ℕ). record { first = b.first; port = cond (eqb n 0) (entered (want r.kind) (full b h).next r.job b.port) b.port }) rest_code

-- ---- what gets the first profile's reply

pub published : (b : Book) (h : History) (r : Request) → Published b h r
published b h r =
    record {
      replied = unfold lock_reply in ap (λ (a : Reply). record { code = ten_for_seven a.code; job = a.job }) (publish_reply (locked b h) r);
      left = both;
    }
  where
    both : (lock_reply b h (as_kind 6 r)).code ≡ 0 → lock_after b h (as_kind 6 r) ≡ lock_after b h (as_kind 3 r) ++ ends r.job ∷ []
    both z =
        unfold lock_reply reply_of lock_after lock_granted granted_of event_of want code_of tests in
        let n = code_of (locked b h) (as_kind 6 r) in
        let e = test_true (eq_test n 0) (ten_zero n z) in
        ap (λ (q : Bool). h ++ cond q (steps write r.job r.cell ∷ ends r.job ∷ []) []) e
        ∙ sym (append_assoc h (steps write r.job r.cell ∷ []) (ends r.job ∷ []))
        ∙ ap (λ (q : Bool). (h ++ cond q (steps write r.job r.cell ∷ []) []) ++ ends r.job ∷ []) (sym e)

-- where the tests for 10 fail, those for 7 fail too, if what is not held up closes no circle
same_step : (x o u v : Bool) → (T (not x) → T o → u ≡ false → v ≡ false) → (not x && (o && u)) ≡ false
    → ◌≡◌ {A = ℕ} (cond x 2 (cond (not o) 3 (cond u 7 0))) (cond x 2 (cond (not o) 3 (cond v 7 0)))
same_step true o u v f e = refl
same_step false false u v f e = refl
same_step false true u v f e = ap (λ (z : Bool). given z) (e ∙ sym (f tt tt e))
  where
    given : Bool → ℕ
    given z = cond z 7 0

-- ---- what was granted is locked

module _ (b : Book) (h : History) (lock : Locked h) where
  -- a step that is not held up closes no circle
  pub unheld_free : (k : Kind) (j c : ℕ) → j ∈ open_now h → c < cells → (HeldUp h k j c → ⊥) → Circular (kept_steps (h ++ steps k j c ∷ [])) → ⊥
  unheld_free k j c n real u = locked_free (h ++ steps k j c ∷ []) (locked_append [] h (steps k j c ∷ []) lock (((n, real), u), tt))

  clear : (k : Kind) (j c : ℕ) → T (not (leb cells c)) → T (has (open_now h) j) → held_up h k j c ≡ false → (full b h).closes k j c ≡ false
  unfolding full
  clear k j c real n u =
      test_false (has_circle_test (kept_steps (h ++ steps k j c ∷ [])))
      (unheld_free k j c ((has_test (open_now h) j).holds n) (below_bound cells c (λ t. T_not (leb cells c) real t)) (λ x. false_is u ((held_up_test h k j c).shows x)))

  same_want : (w : Want) (j c : ℕ) → of_step (λ k. not (leb cells c) && (has (open_now h) j && held_up h k j c)) w ≡ false
      → first_of (tests (locked b h) w j c) ≡ first_of (tests (full b h) w j c)
  unfolding tests locked full
  same_want an_open j c e = refl
  same_want (a_step k) j c e = same_step (leb cells c) (has (open_now h) j) (held_up h k j c) ((full b h).closes k j c) (clear k j c) e
  same_want an_end j c e = refl
  same_want an_abandon j c e = refl
  same_want a_publish j c e = same_step (leb cells c) (has (open_now h) j) (held_up h write j c) ((full b h).closes write j c) (clear write j c) e
  same_want nothing j c e = refl

  same_code : (r : Request) → held_up_by h r ≡ false → code_of (locked b h) r ≡ code_of (full b h) r
  unfolding code_of held_up_by
  same_code r e = go (eqb r.byte1 0) e
    where
      test : Bool
      test = of_step (λ k. not (leb cells r.cell) && (has (open_now h) r.job && held_up h k r.job r.cell)) (want r.kind)

      go : (z : Bool) → (z && test) ≡ false
          → cond (not z) 1 (first_of (tests (locked b h) (want r.kind) r.job r.cell)) ≡ cond (not z) 1 (first_of (tests (full b h) (want r.kind) r.job r.cell))
      go true q = same_want (want r.kind) r.job r.cell q
      go false q = refl

  module _ (r : Request) where
    code_off : held_up_by h r ≡ true → code_of (locked b h) r ≡ 7
    code_off e = (eq_test (code_of (locked b h) r) 7).holds (true_is (seven b h r ∙ e))

    abbrev said : Bool → ℕ → Reply
    said q n = record { code = cond q 10 n; job = cond (eqb n 0) (job_of (full b h).next (want r.kind) r.job) 0 }

    -- put off, or answered as in the first profile
    pub reply_or_off : lock_reply b h r ≡ cond (held_up_by h r) (record { code = 10; job = 0 }) (reply b h r)
    unfolding lock_reply reply reply_of locked
    reply_or_off = ap (λ (q : Bool). said q (code_of (locked b h) r)) (seven b h r) ∙ go (held_up_by h r) refl
      where
        go : (q : Bool) → held_up_by h r ≡ q → said q (code_of (locked b h) r) ≡ cond q (record { code = 10; job = 0 }) (said false (code_of (full b h) r))
        go true e = ap (said true) (code_off e)
        go false e = ap (said false) (same_code r e)

    pub granted_or_off : lock_granted b h r ≡ cond (held_up_by h r) [] (granted_of (full b h) r)
    unfolding lock_granted granted_of locked
    granted_or_off = go (held_up_by h r) refl
      where
        given : ℕ → List Event
        given n = cond (eqb n 0) (event_of (full b h).next (want r.kind) r.job r.cell) []

        go : (q : Bool) → held_up_by h r ≡ q → given (code_of (locked b h) r) ≡ cond q [] (given (code_of (full b h) r))
        go true e = ap given (code_off e)
        go false e = ap given (same_code r e)

    pub after_or_off : lock_after b h r ≡ cond (held_up_by h r) h (after b h r)
    unfolding lock_after after
    after_or_off = ap (λ (l : List Event). h ++ l) granted_or_off ∙ go (held_up_by h r)
      where
        go : (q : Bool) → h ++ cond q [] (granted_of (full b h) r) ≡ cond q h (h ++ granted_of (full b h) r)
        go true = append-nil h
        go false = refl

    -- and the ports
    pub book_or_off : lock_book_after b h r ≡ cond (held_up_by h r) b (book_after b h r)
    unfolding ports_after locked
    book_or_off = go (held_up_by h r) refl
      where
        booked : ℕ → Book
        booked n = record { first = b.first; port = cond (eqb n 0) (entered (want r.kind) (full b h).next r.job b.port) b.port }

        go : (q : Bool) → held_up_by h r ≡ q → booked (code_of (locked b h) r) ≡ cond q b (booked (code_of (full b h) r))
        go true e = ap booked (code_off e)
        go false e = ap booked (same_code r e)

-- ---- the histories so granted

module _ (b : Book) (h : History) (sound : Sound b.first h) where
  is_open : (j : ℕ) → (T (not ((locked b h).is_open j)) → ⊥) → j ∈ open_now h
  unfolding locked full
  is_open j t = (has_test (open_now h) j).holds (undenied (has (open_now h) j) t)

  locked_step : (k : Kind) (j c : ℕ) → first_of (step_tests (locked b h) k j c) ≡ 0 → (InTurn h (steps k j c)) × (HeldUp h k j c → ⊥)
  unfolding locked full
  locked_step k j c z = let p = proper_step (locked b h) k j c z in (((has_test (open_now h) j).holds p.0, p.1), λ u. p.2 ((held_up_test h k j c).shows u))

  locked_want : (w : Want) (j c : ℕ) → first_of (tests (locked b h) w j c) ≡ 0 → LockedAfter h (event_of (locked b h).next w j c)
  unfolding tests event_of
  locked_want an_open j c z = unfold locked full in ((sound.issued, tt), tt)
  locked_want (a_step k) j c z = (locked_step k j c z, tt)
  locked_want an_end j c z = ((is_open j (passed (not ((locked b h).is_open j)) 2 0 z).0, tt), tt)
  locked_want an_abandon j c z =
      let p = passed (not ((locked b h).is_open j)) 2 _ z in
      (((is_open j p.0, unfold locked full in (passed ((locked b h).has_written j) 3 0 p.1).0), tt), tt)
  locked_want a_publish j c z =
      let p = locked_step write j c z in
      (p, ((subst (λ (l : List ℕ). j ∈ l) (sym (open_steps h j write c)) p.0.0, tt), tt))
  locked_want nothing j c z = absurd ((passed true 0 0 z).0 tt)

  locked_granted : (r : Request) → LockedAfter h (lock_granted b h r)
  unfolding lock_granted granted_of code_of
  locked_granted r =
      by_test (λ q. LockedAfter h (cond q (event_of (locked b h).next (want r.kind) r.job r.cell) [])) (eq_test (code_of (locked b h) r) 0)
      (λ z. locked_want (want r.kind) r.job r.cell (passed (not (eqb r.byte1 0)) 0 _ z).1) (λ z. tt)

pub run_start : (first : ℕ) → Run (blank_book first) []
run_start first = record { sound = sound_start first; lock = tt; ported = ported_start (λ j. 0) }

module _ {b : Book} {h : History} (s : Run b h) (r : Request) where
  locked_next : Locked (lock_after b h r)
  unfolding lock_after
  locked_next = locked_append [] h (lock_granted b h r) s.lock (locked_granted b h s.sound r)

  pub run_next : Run (lock_book_after b h r) (lock_after b h r)
  run_next =
      record {
        sound = subst (Sound b.first) (sym (after_or_off b h s.lock r)) (chosen (Sound b.first) (held_up_by h r) s.sound (sound_after b r s.sound));
        lock = locked_next;
        ported = ports;
      }
    where
      ports : Ported (lock_book_after b h r).port (open_now (lock_after b h r))
      ports =
          unfold lock_after lock_granted locked full in
          ported_granted (locked b h) b.port h (orderly h s.sound.turns) (λ m. let q = s.sound.issued (b.first + length (opened h)) m in omega arith) (λ p q. refl) r s.ported

run_from : {b : Book} {h : History} → Run b h → (rs : List Request) → Run (lock_book_from b h rs) (lock_history_from b h rs)
run_from s [] = s
run_from {b} {h} s (r ∷ rs) = run_from {b = lock_book_after b h r} (run_next s r) rs

book_first : (b : Book) (h : History) (rs : List Request) → (lock_book_from b h rs).first ≡ b.first
book_first b h [] = refl
book_first b h (r ∷ rs) = book_first (lock_book_after b h r) (lock_after b h r) rs

-- from any first number, through any requests
pub granted_locked : (first : ℕ) (rs : List Request) → Locked (lock_history first rs)
granted_locked first rs = (run_from (run_start first) rs).lock

pub granted_sound : (first : ℕ) (rs : List Request) → Sound first (lock_history first rs)
granted_sound first rs = subst (λ (n : ℕ). Sound n (lock_history first rs)) (book_first (blank_book first) [] rs) (run_from (run_start first) rs).sound

pub granted_ported : (first : ℕ) (rs : List Request) → Ported (lock_book first rs).port (open_now (lock_history first rs))
granted_ported first rs = (run_from (run_start first) rs).ported

-- no reply is 7
ten_not_seven : (n : ℕ) → ten_for_seven n ≡ 7 → ⊥
ten_not_seven n = by_test (λ q. cond q 10 n ≡ 7 → ⊥) (eq_test n 7) (λ e q. let z : ◌≡◌ {A = ℕ} 10 7 = q in omega arith) (λ ne q. ne q)

pub not_seven : (b : Book) (h : History) (r : Request) → (lock_reply b h r).code ≡ 7 → ⊥
unfolding lock_reply
not_seven b h r = ten_not_seven (reply_of (locked b h) r).code

-- ---- parts of a list

pub none_seven : (b : Book) (h : History) (rs : List Request) (a : Reply) → a ∈ lock_replies_from b h rs → a.code ≡ 7 → ⊥
none_seven b h [] a m q = absurd (Memᴰ.not-nil m)
none_seven b h (r ∷ rs) a m q =
    ⊎_elim (λ e. not_seven b h r (ap (λ (x : Reply). x.code) (sym e) ∙ q)) (λ n. none_seven (lock_book_after b h r) (lock_after b h r) rs a n q) (Memᴰ.cases_cons m)

grows : (b : Book) (h : History) (rs : List Request) → (es : List Event) × (lock_history_from b h rs ≡ h ++ es)
grows b h [] = ([], sym (append-nil h))
grows b h (r ∷ rs) =
    let g = grows (lock_book_after b h r) (lock_after b h r) rs in
    (lock_granted b h r ++ g.0, g.1 ∙ regroup g.0)
  where
    regroup : (es : List Event) → lock_after b h r ++ es ≡ h ++ (lock_granted b h r ++ es)
    regroup es = unfold lock_after in append_assoc h (lock_granted b h r) es

pub part_list : (b : Book) (h : History) (n : ℕ) (rs : List Request) → (es : List Event) × (lock_history_from b h rs ≡ lock_history_from b h (take n rs) ++ es)
part_list b h zero rs = grows b h rs
part_list b h (suc n) [] = ([], sym (append-nil h))
part_list b h (suc n) (r ∷ rs) = part_list (lock_book_after b h r) (lock_after b h r) n rs
