-- The promises of the second profile, one page. To be believed for them: Late, LateHeld, `LateSound` of LateExact, of history Events,
-- Replies, Turns and Orders, and `Ranges` and `Blank` of HeldBlank.
--
-- In order: the rows answer as the full history does, an open and an abandon as in the first profile, and what the rows keep; what every history so granted
-- has, its ports too; the log with the jobs still open taken out; reads; publishes; refusals.
-- Assumes nothing.
use Rattle.std.specs.Prelude.{◌≡◌, ◌↔◌, Bool, not, eqb, length}
use Rattle.std.proofs.Common.{sym, ◌∙◌, subst, ⊎_elim, arith}
use Rattle.std.proofs.Math.Path.{ap}
use Rattle.std.proofs.Math.Bool.{cond}
use Rattle.std.proofs.Math.Option.{some}
use mathlib.Core.List.{List, [], ◌∷◌, ◌++◌, append-nil}
use Prim.Native.Nat.{ℕ, ◌≤◌, ◌<◌}
use Rattle.graph.specs.Decide.{answer, test_true, test_false, eq_test, le_test}
use Rattle.graph.specs.Lists.{◌∈◌, Before}
use Rattle.history.specs.Events.{read, Event, steps, History, has, opened, ended, kept, open_now, kept_steps, Circular}
use Rattle.history.specs.Replies.{cells, numbers, port_count, most_of_port, Request, Reply, Want, a_step, want, Facts, first_of, tests, code_of, event_of, job_of, reply_of, granted_of, of_port, Book, full, reply, after, book_after}
use Rattle.history.specs.Turns.{Turns}
use Rattle.history.specs.Orders.{Accepted, order_of}
use Rattle.history_laws.specs.CircleLaws.{has_circle_test}
use Rattle.history_laws.specs.TurnLaws.{has_test, orderly}
use Rattle.history_laws.specs.OrderLaws.{order_accepted, order_exists}
use Rattle.held.specs.Held.{Held, fresh_held, slot_of, facts, opened_at, stepped_at, left_at, ended_at, with_slot, moved, answer_to}
use Rattle.held_laws.specs.HeldBlank.{Ranges, ranges_moves, Blank, blank_moves, blank_fresh}
use Rattle.late.specs.Late.{Ask, asks, publishes, named, published, ended_steps, closes_circle, late_kind, in_profile, untested, publish_code, full_code, late_reply, late_granted, late_after, late_book, late_replies, late_history, late_book_of, closed}
use Rattle.late.specs.LateHeld.{put_down, held_code, late_answer, late_next, late_answers, late_state}
use Rattle.late_laws.specs.ClosedLaws.{closed_turns, closed_kept, closed_free}
use Rattle.late_laws.specs.LateExact.{LateSound, exact, granted_sound, granted_few, crowd_held}
use Rattle.late_laws.specs.LateKept.{Rest, rest_reply, rest_granted, rest_ports, rest_next, late_keeps, late_keeps_all}

-- ---- the rows

-- from the fresh state through any list of what is asked: the replies of the full history, one by one
pub late_exact : (first : ℕ) (l : List Ask) → late_answers (fresh_held first) l ≡ late_replies first l
late_exact = exact

-- an open and an abandon get the reply of the first profile and leave what they leave there, over the full history and over any state
pub record AsFirst (b : Book) (h : History) (st : Held) (r : Request) : Type 0 where
  pub replied : late_reply b h (asks r) ≡ reply b h r
  pub history : late_after b h (asks r) ≡ after b h r
  pub book : late_book b h (asks r) ≡ book_after b h r
  pub answered : late_answer st (asks r) ≡ answer_to st r
  pub state : late_next st (asks r) ≡ Rattle.held.specs.Held.after st r

pub late_rest : (b : Book) (h : History) (st : Held) (r : Request) → Rest r → AsFirst b h st r
unfolding late_reply late_after late_granted late_book reply after late_answer answer_to
late_rest b h st r e =
    record {
      replied = rest_reply (full b h) r e;
      history = ap (λ (l : List Event). h ++ l) (rest_granted (full b h) r e);
      book = ap (λ (p : ℕ → ℕ). record { first = b.first; port = p }) (rest_ports (full b h) r e b.port);
      answered = rest_reply (facts st) r e;
      state = rest_next st r e;
    }

-- whatever is asked, a state whose numbers are in range stays so; and from a fresh state, through any list of what is asked, every row that is not open is blank: what is held is
-- held of the open jobs
pub late_ranges : (h : Held) → Ranges h → (a : Ask) → Ranges (late_next h a)
late_ranges h g a = late_keeps Ranges (λ x f. ranges_moves f) h g a

pub late_next_kept : (h : Held) → h.next ≤ numbers → (a : Ask) → (late_next h a).next ≤ numbers
unfolding opened_at stepped_at left_at
late_next_kept h g a = late_keeps (λ x. x.next ≤ numbers) (λ x b. record { opens = λ p s q f small. small; steps = λ k s c q o real. b; leaves = λ t s q o only_open. b }) h g a

pub late_blank_rows : (first : ℕ) (l : List Ask) → Blank (late_state (fresh_held first) l)
late_blank_rows first l = late_keeps_all Blank (λ h b. blank_moves b) (fresh_held first) (blank_fresh first) l

-- ---- the histories so granted

-- each is in turn; its numbers were issued one after the other, each once and below 2^32; at most 32 jobs are open; the graph over the ended jobs has no circle
pub late_turns : (first : ℕ) (l : List Ask) → LateSound first (late_history first l)
late_turns = granted_sound

pub late_once : (first : ℕ) (l : List Ask) (i j : ℕ) → Before i j (opened (late_history first l)) → i < j
late_once first l = (orderly (late_history first l) (granted_sound first l).turns).rising

-- at most 16 open jobs have any one port by the book, and every open job has one of the three; the slots count the same
pub late_never_over_port : (first : ℕ) (l : List Ask) (p : ℕ) → length (of_port (late_book_of first l).port p (open_now (late_history first l))) ≤ most_of_port
late_never_over_port first l = (granted_few first l).few

pub late_real_port : (first : ℕ) (l : List Ask) (j : ℕ) → j ∈ open_now (late_history first l) → (late_book_of first l).port j < port_count
late_real_port first l = (granted_few first l).real

pub late_never_over_port_held : (first : ℕ) (l : List Ask) (p : ℕ) → p < port_count → (facts (late_state (fresh_held first) l)).crowd p ≤ most_of_port
late_never_over_port_held first l p q = subst (λ (n : ℕ). n ≤ most_of_port) (sym (crowd_held first l p q)) ((granted_few first l).few p)

-- ---- the log with the jobs still open taken out

-- it is in turn, its kept jobs are the ended ones, its graph has no circle
pub late_closed : (first : ℕ) (l : List Ask) → Turns (closed (late_history first l))
late_closed first l = closed_turns (late_history first l) (granted_sound first l).turns

pub late_kept : (first : ℕ) (l : List Ask) (j : ℕ) → (j ∈ kept (closed (late_history first l))) ↔ (j ∈ ended (late_history first l))
late_kept first l = closed_kept (late_history first l) (granted_sound first l).turns

pub late_no_circle : (first : ℕ) (l : List Ask) → Circular (kept_steps (closed (late_history first l))) → ⊥
late_no_circle first l = let s = granted_sound first l in closed_free (late_history first l) s.turns s.no_circle

-- so it has an accepted order, and the lister's is one
pub late_ordered : (first : ℕ) (l : List Ask) → (o : List ℕ) × (order_of (closed (late_history first l)) ≡ some o) × Accepted (closed (late_history first l)) o
late_ordered first l =
    let c = closed (late_history first l) in
    let r = order_exists c (late_closed first l) (late_no_circle first l) in
    (r.0, r.1, order_accepted c (late_closed first l) r.1)

-- ---- reads

-- a read of an open job on a real cell is granted, whatever the history
pub record ReadGranted (b : Book) (h : History) (r : Request) : Type 0 where
  pub answered : late_reply b h (asks r) ≡ record { code = 0; job = r.job }
  pub left : late_after b h (asks r) ≡ h ++ steps read r.job r.cell ∷ []

module _ (b : Book) (h : History) (r : Request) (asks_read : r.kind ≡ 2) (zero_byte : r.byte1 ≡ 0) (is_open : r.job ∈ open_now h) (real : r.cell < cells) where
  abbrev f : Facts
  f = untested (full b h)

  reads : want (in_profile r).kind ≡ a_step read
  unfolding want
  reads = ap (λ (n : ℕ). want (late_kind n)) asks_read

  read_code : code_of f (in_profile r) ≡ 0
  unfolding code_of tests full
  read_code =
      ap (λ (b : Bool). cond (not b) 1 (first_of (tests f (want (in_profile r).kind) r.job r.cell))) (test_true (eq_test r.byte1 0) zero_byte)
      ∙ ap (λ (w : Want). first_of (tests f w r.job r.cell)) reads
      ∙ ap (λ (b : Bool). cond b 2 (cond (not (has (open_now h) r.job)) 3 0)) (test_false (le_test cells r.cell) (λ q. omega arith))
      ∙ ap (λ (b : Bool). cond (not b) 3 0) (test_true (has_test (open_now h) r.job) is_open)

  pub late_reads_granted : ReadGranted b h r
  unfolding late_reply late_after late_granted reply_of granted_of job_of event_of
  late_reads_granted =
      let said : ℕ → Want → Reply = λ n w. record { code = n; job = cond (eqb n 0) (job_of f.next w r.job) 0 } in
      let events : ℕ → Want → List Event = λ n w. cond (eqb n 0) (event_of f.next w r.job r.cell) [] in
      record {
        answered = ap (λ (n : ℕ). said n (want (in_profile r).kind)) read_code ∙ ap (said 0) reads;
        left = ap (λ (n : ℕ). h ++ events n (want (in_profile r).kind)) read_code ∙ ap (λ (w : Want). h ++ events 0 w) reads;
      }

-- ---- publishes

-- a publish by an open job is granted exactly when the graph over all ended jobs and this one, with these writes, has no circle, and else gets 7
pub record PublishReply (b : Book) (h : History) (j : ℕ) (ws : List ℕ) : Type 0 where
  pub granted : (Circular (ended_steps (h ++ published j (named ws))) → ⊥) ↔ ((late_reply b h (publishes j ws)).code ≡ 0)
  pub refused : Circular (ended_steps (h ++ published j (named ws))) ↔ ((late_reply b h (publishes j ws)).code ≡ 7)

pub late_publish_exactly : (b : Book) (h : History) (j : ℕ) (ws : List ℕ) → j ∈ open_now h → PublishReply b h j ws
unfolding late_reply full_code publish_code closes_circle
late_publish_exactly b h j ws is_open =
    let d = has_circle_test (ended_steps (h ++ published j (named ws))) in
    let z = closes_circle h j (named ws) in
    let code : ◌≡◌ {A = ℕ} (cond (not (has (open_now h) j)) 3 (cond z 7 0)) (cond z 7 0) = ap (λ (b : Bool). cond (not b) 3 (cond z 7 0)) (test_true (has_test (open_now h) j) is_open) in
    record {
      granted = (λ free. code ∙ ap (λ (b : Bool). cond b 7 0) (test_false d free), λ e c. let q : ◌≡◌ {A = ℕ} 7 0 = sym (code ∙ ap (λ (b : Bool). cond b 7 0) (test_true d c)) ∙ e in omega arith);
      refused = (
        λ c. code ∙ ap (λ (b : Bool). cond b 7 0) (test_true d c),
        λ e. ⊎_elim (λ c. c) (λ free. absurd (let q : ◌≡◌ {A = ℕ} 0 7 = sym (code ∙ ap (λ (b : Bool). cond b 7 0) (test_false d free)) ∙ e in omega arith)) (answer d),
      );
    }

-- ---- refusals

-- a refusal changes nothing: the history stays, and so does the state, whatever it holds
pub late_refused : (b : Book) (h : History) (a : Ask) → ((late_reply b h a).code ≡ 0 → ⊥) → late_after b h a ≡ h
unfolding late_reply late_after late_granted reply_of granted_of
late_refused b h (asks r) n =
    let f = untested (full b h) in
    let q = in_profile r in
    ap (λ (b : Bool). h ++ cond b (event_of f.next (want q.kind) r.job r.cell) []) (test_false (eq_test (code_of f q) 0) n) ∙ append-nil h
late_refused b h (publishes j ws) n =
    ap (λ (b : Bool). h ++ cond b (published j (named ws)) []) (test_false (eq_test (full_code h j (named ws)) 0) n) ∙ append-nil h

pub late_refused_held : (h : Held) (a : Ask) → ((late_answer h a).code ≡ 0 → ⊥) → late_next h a ≡ h
unfolding late_answer late_next reply_of
late_refused_held h (asks r) n =
    let q = in_profile r in
    ap (λ (b : Bool). cond b (moved h (want q.kind) r.job r.cell) h) (test_false (eq_test (code_of (untested (facts h)) q) 0) n)
late_refused_held h (publishes j ws) n =
    ap (λ (b : Bool). cond b (with_slot (slot_of h j) (λ s. ended_at (put_down h s (named ws)) s) h) h) (test_false (eq_test (held_code h j (named ws)) 0) n)
