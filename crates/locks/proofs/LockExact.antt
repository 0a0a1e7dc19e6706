-- The rows answer by locks as the full history does (`exact`). What they bar is what is held up; all else is answered as in the first profile, whose laws of the memory and of the rows are
-- all that is needed.
-- Assumes nothing.
use Rattle.std.specs.Prelude.{◌≡◌, refl, ◌⊎◌, Bool, not, ◌&&◌, ℕ, ◌<◌, T, leb}
use Rattle.std.proofs.Math.Path.{sym, ap, ap₂, subst, subst₂}
use Rattle.std.proofs.Common.{◌∙◌, T_not}
use Rattle.std.proofs.Math.Logic.{inl, inr, ⊎_elim}
use Rattle.std.proofs.Math.Bool.{true, false, cond}
use Rattle.std.proofs.Math.Option.{Option}
use mathlib.Core.List.Memᴰ
use mathlib.Core.List.{List, [], ◌∷◌}
use Rattle.std.proofs.Math.Dec.{eqb}
use Rattle.graph.specs.Decide.{Decides, and_test, or_test, not_test, eq_test, own_test, same_test, some_test, by_test, false_is}
use Rattle.graph.specs.Lists.{◌∈◌}
use Rattle.history.specs.Events.{Kind, read, write, add, kinds, alters, Deed, does, opening, ending, History, has, open_now, kept_steps}
use Rattle.history.specs.Replies.{cells, Request, Reply, Want, an_open, a_step, an_end, an_abandon, a_publish, nothing, want, Book, blank_book, reply, after, book_after}
use Rattle.history.specs.Memory.{Memory, fresh, right, held, held_after}
use Rattle.history.specs.Tables.{Own}
use Rattle.history_laws.specs.TurnLaws.{open_not_abandoned, kept_steps_from, kept_steps_if}
use Rattle.history_laws.specs.MemoryLaws.{every_kind}
use Rattle.history_laws.specs.Granted.{below_bound}
use Rattle.history_laws.specs.Exact.{agree_reply, Beside, beside_start, beside_after, agree}
use Rattle.held.specs.Held.{Held, fresh_held, number_at, open_slots, Aspect, as_used, as_altered, shows, own_at, is_some, at_slot, slot_of, facts, answer_to}
use Rattle.held_laws.specs.Seen.{Seen, slot_test, seen_agree, seen_start, seen_after}
use Rattle.locks.specs.Locks.{bars, HeldUp, held_up, of_step, lock_reply, lock_after, lock_book_after, lock_replies_from, lock_replies}
use Rattle.locks.specs.LocksHeld.{barred, put_off_at, lock_answer, lock_next, lock_answers}
use Rattle.locks.proofs.LockLaws.{held_up_test}
use Rattle.locks.specs.LockReplies.{held_up_by, Run}
use Rattle.locks.proofs.LockReplies.{reply_or_off, after_or_off, book_or_off, run_start, run_next}

-- ---- what the rows bar

-- what alters bars, and bars what alters; and nothing else does
bars_altered : (l k : Kind) → T (shows l as_altered) → T (bars (does l) k)
bars_altered read k t = absurd t
bars_altered write read t = tt
bars_altered write write t = tt
bars_altered write add t = tt
bars_altered add read t = tt
bars_altered add write t = tt
bars_altered add add t = tt

bars_altering : (l k : Kind) → T (alters k) → T (bars (does l) k)
bars_altering read read t = t
bars_altering read write t = tt
bars_altering read add t = tt
bars_altering write read t = tt
bars_altering write write t = tt
bars_altering write add t = tt
bars_altering add read t = tt
bars_altering add write t = tt
bars_altering add add t = tt

record Bars (d : Deed) (k : Kind) : Type 0 where
  kind : Kind
  its_deed : d ≡ does kind
  how : T (shows kind as_altered) ⊎ (T (alters k) × T (shows kind as_used))

bar_parts : (d : Deed) (k : Kind) → T (bars d k) → Bars d k
bar_parts (does l) k t = record { kind = l; its_deed = refl; how = go l k t }
  where
    go : (l k : Kind) → T (bars (does l) k) → T (shows l as_altered) ⊎ (T (alters k) × T (shows l as_used))
    go read read t = absurd t
    go read write t = inr (tt, tt)
    go read add t = inr (tt, tt)
    go write k t = inl tt
    go add k t = inl tt
bar_parts opening k t = absurd t
bar_parts ending k t = absurd t

module _ {b : Book} {h : History} {m : Memory} (beside : Beside b h m) {st : Held} (seen : Seen st m) where
  abbrev OwnStep : ℕ → Aspect → ℕ → Type 0
  OwnStep i a c = (l : Kind) × (l ∈ kinds) × (T (shows l a) × Own (kept_steps h) (open_now h) (number_at st i) (does l) c)

  -- what stands in a row is what its job has done
  own_told : (i : ℕ) → i ∈ open_slots st → (a : Aspect) (c : ℕ) → c < cells → Decides (own_at st i a c) (OwnStep i a c)
  own_told i o a c real =
      subst (λ (q : Bool). Decides q (OwnStep i a c)) (sym (seen.own i o a c real))
      (some_test (λ l. and_test (own_test (shows l a)) (beside.tells.own (number_at st i) (does l) c)) kinds)

  module _ (k : Kind) (s c : ℕ) (p : s ∈ open_slots st) (real : c < cells) where
    holding : (i : ℕ) → i ∈ open_slots st → (i ≡ s → ⊥) → (a : Aspect) (x : OwnStep i a c) → T (bars (does x.0) k) → HeldUp h k (number_at st s) c
    holding i o ne a x t =
        let w = x.2.1 in
        let u = w.touched in
        record {
          step = u.step;
          granted = (kept_steps_from h u.granted).0;
          still_open = Memᴰ.cast u.its_job w.is_open;
          another = λ e. ne (seen.apart i s o p (sym u.its_job ∙ e));
          same_cell = u.its_cell;
          unshared = subst (λ (d : Deed). T (bars d k)) (sym u.its_deed) t;
        }

    barred_same : barred st k s c ≡ held_up h k (number_at st s) c
    unfolding barred
    barred_same =
        same_test
        (some_test (λ i. and_test (not_test (eq_test i s)) (or_test (own_test (own_at st i as_altered c)) (and_test (own_test (alters k)) (own_test (own_at st i as_used c))))) (open_slots st))
        (held_up_test h k (number_at st s) c)
        (λ r. ⊎_elim
        (λ t. let x = (own_told r.0 r.1 as_altered c real).holds t in holding r.0 r.1 r.2.0 as_altered x (bars_altered x.0 k x.2.0))
        (λ t. let x = (own_told r.0 r.1 as_used c real).holds t.1 in holding r.0 r.1 r.2.0 as_used x (bars_altering x.0 k t.0))
        r.2.1)
        (λ u.
        let a = u.step in
        let d = seen.a_slot a.job (subst (λ (l : List ℕ). a.job ∈ l) (sym beside.tells.jobs) u.still_open) in
        let x = bar_parts a.deed k u.unshared in
        let own : Own (kept_steps h) (open_now h) (number_at st d.0) (does x.kind) c =
        record {
          is_open = Memᴰ.cast d.2 u.still_open;
          touched = record { step = a; granted = kept_steps_if h u.granted (open_not_abandoned h u.still_open); its_job = sym d.2; its_deed = x.its_deed; its_cell = u.same_cell };
        } in (
          d.0,
          d.1,
          (
            λ e. u.another (sym d.2 ∙ ap (number_at st) e),
            ⊎_elim
                (λ t. inl ((own_told d.0 d.1 as_altered c real).shows (x.kind, every_kind x.kind, (t, own))))
                (λ t. inr (t.0, (own_told d.0 d.1 as_used c real).shows (x.kind, every_kind x.kind, (t.1, own))))
                x.how,
          ),
        ))

  opens_alike : (j : ℕ) → is_some (slot_of st j) ≡ has (open_now h) j
  opens_alike j = unfold facts held in (seen_agree seen).is_open j ∙ ap (λ (l : List ℕ). has l j) beside.tells.jobs

  off_step : (k : Kind) (j c : ℕ) → not (leb cells c) && at_slot (slot_of st j) (λ s. barred st k s c) ≡ not (leb cells c) && (has (open_now h) j && held_up h k j c)
  off_step k j c =
      by_test (λ x. x && at_slot (slot_of st j) (λ s. barred st k s c) ≡ x && (has (open_now h) j && held_up h k j c)) (own_test (not (leb cells c)))
      (λ real.
      by_test (λ o. o ≡ is_some (slot_of st j) → at_slot (slot_of st j) (λ s. barred st k s c) ≡ o && held_up h k j c) (slot_test st j)
      (λ r e.
      ap (λ (a : Option ℕ). at_slot a (λ s. barred st k s c)) r.meant
      ∙ barred_same k r.slot c r.is_open (below_bound cells c (λ t. T_not (leb cells c) real t))
      ∙ ap (λ (n : ℕ). held_up h k n c) r.its_number)
      (λ n e. none (slot_of st j) (λ s. barred st k s c) (sym e)) refl
      ∙ ap (λ (o : Bool). o && held_up h k j c) (opens_alike j))
      (λ z. refl)
    where
      none : (a : Option ℕ) (f : ℕ → Bool) → is_some a ≡ false → at_slot a f ≡ false
      none Option.none f e = refl
      none (Option.some i) f e = absurd (false_is e tt)

  off_want : (w : Want) (j c : ℕ)
      → of_step (λ k. not (leb cells c) && at_slot (slot_of st j) (λ s. barred st k s c)) w ≡ of_step (λ k. not (leb cells c) && (has (open_now h) j && held_up h k j c)) w
  off_want an_open j c = refl
  off_want (a_step k) j c = off_step k j c
  off_want an_end j c = refl
  off_want an_abandon j c = refl
  off_want a_publish j c = off_step write j c
  off_want nothing j c = refl

  -- the rows put off what the full history does
  off_same : (r : Request) → put_off_at st r ≡ held_up_by h r
  unfolding put_off_at held_up_by
  off_same r = ap (λ (x : Bool). eqb r.byte1 0 && x) (off_want (want r.kind) r.job r.cell)

-- ---- a list of requests

-- the history, the memory and the rows side by side
record Standing (b : Book) (h : History) (st : Held) : Type 0 where
  memory : Memory
  beside : Beside b h memory
  seen : Seen st memory
  run : Run b h

module _ {b : Book} {h : History} {st : Held} (s : Standing b h st) where
  reply_same : (r : Request) → lock_answer st r ≡ lock_reply b h r
  unfolding lock_answer
  reply_same r =
      ap₂ (λ (q : Bool) (a : Reply). cond q (record { code = 10; job = 0 }) a) (off_same s.beside s.seen r) (first_same r)
      ∙ sym (reply_or_off b h s.run.lock r)
    where
      first_same : (r : Request) → answer_to st r ≡ reply b h r
      first_same r = unfold answer_to reply in agree_reply (seen_agree s.seen) r ∙ agree_reply (agree s.beside) r

  standing_next : (r : Request) → Standing (lock_book_after b h r) (lock_after b h r) (lock_next st r)
  unfolding lock_next
  standing_next r =
      subst (λ (q : Bool). Standing (lock_book_after b h r) (lock_after b h r) (cond q st (Rattle.held.specs.Held.after st r))) (sym (off_same s.beside s.seen r))
      (go (held_up_by h r) (book_or_off b h s.run.lock r) (after_or_off b h s.run.lock r))
    where
      go : (q : Bool) → lock_book_after b h r ≡ cond q b (book_after b h r) → lock_after b h r ≡ cond q h (after b h r)
          → Standing (lock_book_after b h r) (lock_after b h r) (cond q st (Rattle.held.specs.Held.after st r))
      go true d e = record { memory = s.memory; beside = subst₂ (λ (a : Book) (x : History). Beside a x s.memory) (sym d) (sym e) s.beside; seen = s.seen; run = run_next s.run r }
      go false d e =
          record {
            memory = held_after right s.memory r;
            beside = subst₂ (λ (a : Book) (x : History). Beside a x (held_after right s.memory r)) (sym d) (sym e) (beside_after r s.beside);
            seen = seen_after s.beside s.seen r;
            run = run_next s.run r;
          }

standing_start : (first : ℕ) → Standing (blank_book first) [] (fresh_held first)
standing_start first = record { memory = fresh first; beside = beside_start first; seen = seen_start first; run = run_start first }

exact_from : {b : Book} {h : History} {st : Held} → Standing b h st → (rs : List Request) → lock_answers st rs ≡ lock_replies_from b h rs
exact_from s [] = refl
exact_from {b} {h} s (r ∷ rs) = ap₂ (λ (x : Reply) (l : List Reply). x ∷ l) (reply_same s r) (exact_from {b = lock_book_after b h r} (standing_next s r) rs)

-- the answers of the rows are the replies of the full history
pub exact : (first : ℕ) (rs : List Request) → lock_answers (fresh_held first) rs ≡ lock_replies first rs
exact first rs = exact_from (standing_start first) rs
