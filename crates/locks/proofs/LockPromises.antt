-- The promises of the run by locks, one page. To be believed for them: Locks, LocksHeld, `Locked` of LockLaws, `AsksStep`, `Rest` and `Published` of LockReplies; of history Events,
-- Replies, Turns and Orders, `Sound` of Granted and `Ported` of PortLaws; `Ranges` and `Blank` of HeldBlank; Logs and Verdicts.
--
-- In order: no circle, of the whole and of every part; what every history so granted has, its order and its log; what gets 10; open, end, abandon and publish; how the replies stand to the first
-- profile's; the rows answer as the full history does, and what they keep; refusals.
-- Assumes nothing.
use Rattle.std.specs.Prelude.{◌≡◌, refl, Bool, true, false, cond, List, [], ◌∷◌, ◌++◌, ℕ, ◌≤◌, ◌<◌, length, take}
use Rattle.std.proofs.Common.{sym, ap, ◌∙◌, subst, ⊎_elim, append-nil, arith}
use Rattle.std.proofs.Math.Option.{some}
use Rattle.graph.specs.Decide.{answer, test_true, test_false, eq_test, chosen}
use Rattle.graph.specs.Lists.{◌∈◌}
use Rattle.history.specs.Events.{Kind, Event, History, opened, kept, open_now, kept_steps, Circular}
use Rattle.history.specs.Replies.{cells, numbers, Request, Reply, want, code_of, event_of, reply_of, granted_of, entered, ports_after, Book, blank_book, reply, after, book_after}
use Rattle.history.specs.Orders.{Accepted, order_of}
use Rattle.history_laws.specs.OrderLaws.{order_accepted, order_exists}
use Rattle.history_laws.specs.Granted.{Sound}
use Rattle.history_laws.specs.PortLaws.{Ported}
use Rattle.held.specs.Held.{Held, fresh_held, answer_to}
use Rattle.held_laws.specs.HeldMoves.{Moves, kept_after}
use Rattle.held_laws.specs.HeldBlank.{Ranges, ranges_moves, Blank, blank_moves, blank_fresh, next_kept, refusal_held}
use Rattle.verdicts.specs.Logs.{events, most_jobs, read_log, log_of}
use Rattle.verdicts.specs.Verdicts.{list_order}
use Rattle.verdicts_laws.specs.LogLaws.{read_back}
use Rattle.verdicts_laws.specs.Promises.{gives_exactly}
use Rattle.locks.specs.Locks.{HeldUp, locked, ten_for_seven, lock_reply, lock_granted, lock_after, lock_book_after, lock_replies, lock_history, lock_book, put_off}
use Rattle.locks.specs.LocksHeld.{put_off_at, lock_answer, lock_next, lock_answers, lock_state}
use Rattle.locks.specs.LockLaws.{Locked}
use Rattle.locks.proofs.LockLaws.{held_up_test, locked_part, locked_turns, locked_free}
use Rattle.locks.specs.LockReplies.{held_up_by, AsksStep, Rest, Published}
use Rattle.locks.proofs.LockReplies.{step_code, rest_reply, rest_after, rest_book, published, reply_or_off, after_or_off, book_or_off, granted_locked, granted_sound, granted_ported, not_seven, none_seven, part_list}
use Rattle.locks.proofs.LockExact.{exact}
use Rattle.locks.specs.LockPromises.{AsFirst, OrFirst, Part, StepReply, as_first, is_off}

-- ---- no circle

-- whatever the requests, what is granted has no circle, real time counted
pub locks_no_circle : (first : ℕ) (rs : List Request) → Circular (kept_steps (lock_history first rs)) → ⊥
locks_no_circle first rs = locked_free (lock_history first rs) (granted_locked first rs)

-- a part of the list of requests grants a part of the history, the same events from the beginning on, and it has no circle
pub locks_part_list : (first n : ℕ) (rs : List Request) → (es : List Event) × (lock_history first rs ≡ lock_history first (take n rs) ++ es)
locks_part_list first n rs = part_list (blank_book first) [] n rs

pub locks_part_free : (first n : ℕ) (rs : List Request) → Circular (kept_steps (lock_history first (take n rs))) → ⊥
locks_part_free first n rs = locks_no_circle first (take n rs)

-- ---- the histories so granted

pub locks_part : (first : ℕ) (rs : List Request) (p q : History) → lock_history first rs ≡ p ++ q → Part p
locks_part first rs p q e =
    let l = locked_part [] p q (subst Locked e (granted_locked first rs)) in
    record { turns = locked_turns [] p l; no_circle = locked_free p l }

-- each is in turn; its numbers were issued one after the other, each once and below 2^32; at most 32 jobs are open; it has no circle
pub locks_turns : (first : ℕ) (rs : List Request) → Sound first (lock_history first rs)
locks_turns = granted_sound

-- and at most 16 open jobs have any one port, each of them one of the three
pub locks_ported : (first : ℕ) (rs : List Request) → Ported (lock_book first rs).port (open_now (lock_history first rs))
locks_ported = granted_ported

-- so it has an accepted order, and the lister's is one
pub locks_ordered : (first : ℕ) (rs : List Request) → (o : List ℕ) × (order_of (lock_history first rs) ≡ some o) × Accepted (lock_history first rs) o
locks_ordered first rs =
    let h = lock_history first rs in
    let s = locks_turns first rs in
    let r = order_exists h s.turns s.no_circle in
    (r.0, r.1, order_accepted h s.turns r.1)

-- ---- what gets 10

module _ (first : ℕ) (rs : List Request) (few : length (lock_history first rs) ≤ 4096) (few_jobs : length (opened (lock_history first rs)) ≤ most_jobs) where
  -- its log, within the sizes, reads back, and with room is never answered 17
  pub locks_read : read_log (log_of (lock_history first rs)) ≡ events (lock_history first rs)
  locks_read = let s = locks_turns first rs in read_back (lock_history first rs) s.turns (record { few = few; few_jobs = few_jobs; small = s.in_range })

  pub locks_listed : (lent : List ℕ) → length (kept (lock_history first rs)) ≤ length lent → (list_order (log_of (lock_history first rs)) lent).code ≡ 0
  locks_listed lent room =
      let h = lock_history first rs in
      let r = locks_ordered first rs in
      (gives_exactly (log_of h) lent h locks_read room).1 (r.0, r.2)

pub held_exactly : (b : Book) (h : History) (r : Request) (k : Kind) → AsksStep (want r.kind) k → r.byte1 ≡ 0 → r.job ∈ open_now h → r.cell < cells → StepReply b h r k
held_exactly b h r k asks zero_byte is_open real =
    let d = held_up_test h k r.job r.cell in
    let code = step_code b h r k asks zero_byte is_open real in
    let off : HeldUp h k r.job r.cell → (lock_reply b h r).code ≡ 10 = λ u. code ∙ ap (λ (q : Bool). cond q 10 0) (test_true d u) in
    let on : (HeldUp h k r.job r.cell → ⊥) → (lock_reply b h r).code ≡ 0 = λ n. code ∙ ap (λ (q : Bool). cond q 10 0) (test_false d n) in
    record {
      put_off = (off, λ e. ⊎_elim (λ u. u) (λ n. absurd (let q : ◌≡◌ {A = ℕ} 0 10 = sym (on n) ∙ e in omega arith)) (answer d));
      granted = (on, λ e u. let q : ◌≡◌ {A = ℕ} 10 0 = sym (off u) ∙ e in omega arith);
    }

-- no reply is 7, whatever the history; so from a fresh state on the slots never say it, though a step that they do not put off is answered by the first profile's rule
pub never_seven : (b : Book) (h : History) (r : Request) → (lock_reply b h r).code ≡ 7 → ⊥
never_seven = not_seven

-- ---- open, end, abandon and publish

pub never_seven_held : (first : ℕ) (rs : List Request) (a : Reply) → a ∈ lock_answers (fresh_held first) rs → a.code ≡ 7 → ⊥
never_seven_held first rs a m = none_seven (blank_book first) [] rs a (subst (λ (l : List Reply). a ∈ l) (exact first rs) m)

pub locks_rest : (b : Book) (h : History) (r : Request) → Rest (want r.kind) → AsFirst b h r
locks_rest b h r w = record { replied = rest_reply b h r w; left = rest_after b h r w; booked = rest_book b h r w }

-- ---- beside the first profile

-- a publish gets the reply of its write; granted, it is the write and the end
pub locks_publish : (b : Book) (h : History) (r : Request) → Published b h r
locks_publish = published

-- in a history granted by locks each event was in turn, and no step was held up
pub locks_locked : (first : ℕ) (rs : List Request) → Locked (lock_history first rs)
locks_locked = granted_locked

-- ---- the rows

pub locks_or_first : (b : Book) (h : History) → Locked h → (r : Request) → OrFirst b h r
locks_or_first b h l r = go (held_up_by h r) (reply_or_off b h l r) (after_or_off b h l r) (book_or_off b h l r)
  where
    go : (q : Bool) → lock_reply b h r ≡ cond q (record { code = 10; job = 0 }) (reply b h r) → lock_after b h r ≡ cond q h (after b h r)
        → lock_book_after b h r ≡ cond q b (book_after b h r) → OrFirst b h r
    go true d e f = is_off d e f
    go false d e f = as_first (record { replied = d; left = e; booked = f })

-- from the fresh state through any requests: the replies of the full history, one by one, and as many put off
pub locks_exact : (first : ℕ) (rs : List Request) → lock_answers (fresh_held first) rs ≡ lock_replies first rs
locks_exact = exact

pub locks_counted : (first : ℕ) (rs : List Request) → put_off (lock_answers (fresh_held first) rs) ≡ put_off (lock_replies first rs)
locks_counted first rs = ap put_off (exact first rs)

-- what every request of the first profile keeps of a state, every request keeps here: so the ranges of the numbers, and that every row that is not open is blank
pub locks_keeps : (P : Held → Type 0) → ((h : Held) → P h → Moves P h) → (h : Held) → P h → (r : Request) → P (lock_next h r)
unfolding lock_next
locks_keeps P m h p r = chosen P (put_off_at h r) p (kept_after P m h p r)

pub locks_ranges : (h : Held) → Ranges h → (r : Request) → Ranges (lock_next h r)
locks_ranges h g r = locks_keeps Ranges (λ x f. ranges_moves f) h g r

pub locks_next_kept : (h : Held) → h.next ≤ numbers → (r : Request) → (lock_next h r).next ≤ numbers
unfolding lock_next
locks_next_kept h g r = chosen (λ (x : Held). x.next ≤ numbers) (put_off_at h r) g (next_kept h g r)

-- ---- refusals

pub locks_blank_rows : (first : ℕ) (rs : List Request) → Blank (lock_state (fresh_held first) rs)
locks_blank_rows first rs = go (fresh_held first) (blank_fresh first) rs
  where
    go : (h : Held) → Blank h → (rs : List Request) → Blank (lock_state h rs)
    go h b [] = b
    go h b (r ∷ rs) = go (lock_next h r) (locks_keeps Blank (λ x f. blank_moves f) h b r) rs

-- a refusal changes nothing: the history stays, and so does the state, whatever it holds
pub locks_refused : (b : Book) (h : History) (r : Request) → ((lock_reply b h r).code ≡ 0 → ⊥) → (lock_after b h r ≡ h) × (lock_book_after b h r ≡ b)
unfolding lock_reply lock_after lock_granted reply_of granted_of ports_after
locks_refused b h r n =
    let f = locked b h in
    let no_grant = test_false (eq_test (code_of f r) 0) (λ z. n (ap ten_for_seven z)) in (
      ap (λ (q : Bool). h ++ cond q (event_of f.next (want r.kind) r.job r.cell) []) no_grant ∙ append-nil h,
      ap (λ (q : Bool). record { first = b.first; port = cond q (entered (want r.kind) f.next r.job b.port) b.port }) no_grant,
    )

pub locks_refused_held : (h : Held) (r : Request) → ((lock_answer h r).code ≡ 0 → ⊥) → lock_next h r ≡ h
unfolding lock_answer lock_next answer_to reply_of
locks_refused_held h r n = go (put_off_at h r) n
  where
    go : (q : Bool) → ((cond q (record { code = 10; job = 0 }) (answer_to h r)).code ≡ 0 → ⊥) → cond q h (Rattle.held.specs.Held.after h r) ≡ h
    go true n = refl
    go false n = refusal_held h r n
