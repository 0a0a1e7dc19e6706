-- In the second profile too the rows answer as the full history does (`late_exact`). The memory of the first profile, moved by the same rule, still tells what the
-- history says, circle or none; so only the tests are compared anew.
--
-- In order: what every history of this profile has (`LateSound`), and the memory beside it; an open, a read, an abandon; the writes of a publish, one after the other, and its end;
-- the rows see the same memory; the codes are the same; a list of what is asked.
-- Assumes nothing.
use Rattle.std.specs.Prelude.{◌≡◌, Bool, false, ◌&&◌, ◌||◌, leb}
use Rattle.std.proofs.Math.Path.{refl, sym, ap, ap₂, subst, subst₂}
use Rattle.std.proofs.Common.{◌∙◌, add-zero}
use Rattle.std.proofs.Math.Bool.{true, not, cond}
use Rattle.std.proofs.Math.Option.{Option}
use mathlib.Core.List.Memᴰ
use mathlib.Core.List.{List, [], ◌∷◌, ◌++◌, append-nil, append_assoc}
use Prim.Native.Nat.{ℕ, ◌+◌, ◌≤◌, ◌<◌}
use native.Mathlib.Omega.{arith}
use Rattle.std.proofs.Math.Dec.{T, eqb}
use Rattle.std.proofs.Math.ListN.{length}
use Rattle.graph.specs.Decide.{and_test, eq_test, own_test, same_test, some_test, by_test, test_false}
use Rattle.graph.specs.Lists.{◌∈◌, here, later, only_same, before_from_only, Once, once_if, strike, strike_from}
use Rattle.history.specs.Events.{Kind, read, write, kinds, alters, Deed, does, ending, alters_by, Event, opens, steps, ends, abandons, History, has, opened, ended, abandoned, kept, open_now, Step, all_steps, kept_steps, wrote, Circular, has_circle}
use Rattle.history.specs.Replies.{cells, most_open, numbers, port_count, Request, Reply, Want, an_open, a_step, an_abandon, nothing, want, Facts, first_of, tests, code_of, event_of, granted_of, entered, ports_after, of_port, Book, blank_book, full}
use Rattle.history.specs.Turns.{Turns}
use Rattle.history.specs.Memory.{Memory, fresh, right, open_in, step_in, blank, fold, move, move_all, below, held, with_port}
use Rattle.history.specs.Tables.{Tells}
use Rattle.history_laws.specs.EventLaws.{altering}
use Rattle.history_laws.specs.CircleLaws.{has_circle_test}
use Rattle.history_laws.specs.TurnLaws.{opened_grows, stays, has_test, open_opened, open_not_abandoned, kept_steps_from, kept_steps_if, open_steps, open_ends, orderly, turns_next}
use Rattle.history_laws.specs.MemoryLaws.{every_kind}
use Rattle.history_laws.specs.MemoryTells.{tells_next, fresh_tells}
use Rattle.history_laws.specs.TimeLaws.{opening_leads, past_ended}
use Rattle.history_laws.specs.Granted.{Proper, Issued, below_bound, passed, undenied, proper_step, proper_in_turn, issued_next, range_next, few_next, sound_start}
use Rattle.history_laws.specs.Exact.{Agree, same_refused, agree_tests, agree_code, agree_reply, below_has, next_next}
use Rattle.history_laws.specs.PortLaws.{ports_same, Ported, ported_ends, ported_granted, ported_start}
use Rattle.held.specs.Held.{Held, fresh_held, number_at, open_slots, is_some, at_slot, slot_of, facts, stepped_at, ended_at, with_slot, moved}
use Rattle.held_laws.specs.HeldLaws.{slots_stepped}
use Rattle.held_laws.specs.Seen.{Seen, slot_test, seen_agree, seen_start, seen_step, seen_end, Unused, OpenLeads, with_its_port, at_job, seen_moved}
use Rattle.late.specs.Late.{Ask, asks, publishes, named, written, published, ended_steps, closes_circle, late_kind, in_profile, untested, publish_code, publish_answer, full_code, late_reply, late_granted, late_after, late_book, late_replies_from, late_history_from, late_book_from, late_replies, late_history, late_book_of}
use Rattle.late.specs.LateHeld.{put_down, leads_back, held_code, late_answer, late_next, late_answers, late_state}
use Rattle.late_laws.specs.LateLaws.{Real, named_real}
use Rattle.late_laws.specs.ClosedLaws.{ended_opens, ended_step, ended_abandons, end_test}

-- ---- what every history of this profile has

pub record LateSound (first : ℕ) (h : History) : Type 0 where
  pub turns : Turns h
  pub issued : Issued first h
  pub in_range : (j : ℕ) → j ∈ opened h → j < numbers
  pub few : length (open_now h) ≤ most_open
  pub no_circle : Circular (ended_steps h) → ⊥

-- and the memory beside it, but for the ports, which no event moves
record Beside (b : Book) (h : History) (m : Memory) : Type 0 where
  sound : LateSound b.first h
  tells : Tells h m
  next : m.next ≡ b.first + length (opened h)

none_ended : kept_steps [] ≡ ended_steps []
unfolding ended_steps kept_steps all_steps
none_ended = refl

beside_start : (first : ℕ) → Beside (blank_book first) [] (fresh first)
beside_start first =
    let s = sound_start first in
    record {
      sound = record { turns = tt; issued = s.issued; in_range = s.in_range; few = s.few; no_circle = subst (λ (l : List Step). Circular l → ⊥) none_ended s.no_circle };
      tells = fresh_tells first;
      next = unfold opened in sym (add-zero first);
    }

module _ {b : Book} {h : History} {m : Memory} (t : Beside b h m) where
  -- an event other than a step: it was tested as in the first profile
  beside_event : (e : Event) → Proper (full b h) e → (Circular (ended_steps (h ++ e ∷ [])) → ⊥) → Beside b (h ++ e ∷ []) (move right m e)
  beside_event e p free =
      let s = t.sound in
      let turn = proper_in_turn b h s.issued e p in
      record {
        sound = record {
          turns = turns_next [] h e s.turns turn;
          issued = issued_next b h s.issued e p;
          in_range = range_next b h s.in_range e p;
          few = few_next b h s.turns s.issued s.few e p;
          no_circle = free;
        };
        tells = tells_next (orderly h s.turns) t.tells e turn;
        next = next_next b h m e p t.next;
      }

  -- a step, which is not tested for a circle
  beside_step : (k : Kind) (j c : ℕ) → j ∈ open_now h → c < cells → Beside b (h ++ steps k j c ∷ []) (move right m (steps k j c))
  unfolding move right step_in
  beside_step k j c n real =
      let s = t.sound in
      let e = steps k j c in
      let same = sym (stays (opened_grows h e)) in
      record {
        sound = record {
          turns = turns_next [] h e s.turns (n, real);
          issued = subst (λ (l : List ℕ). (i : ℕ) → i ∈ l → i < b.first + length l) same s.issued;
          in_range = subst (λ (l : List ℕ). (i : ℕ) → i ∈ l → i < numbers) same s.in_range;
          few = subst (λ (l : List ℕ). length l ≤ most_open) (sym (open_steps h j k c)) s.few;
          no_circle = subst (λ (l : List Step). Circular l → ⊥) (sym (ended_step h k j c n)) s.no_circle;
        };
        tells = tells_next (orderly h s.turns) t.tells e (n, real);
        next = t.next ∙ ap (λ (l : List ℕ). b.first + length l) same;
      }

  -- ---- the facts that the codes ask

  opens_same : (j : ℕ) → (held right m).is_open j ≡ has (open_now h) j
  unfolding held
  opens_same j = ap (λ (l : List ℕ). has l j) t.tells.jobs

  written_same : (j : ℕ) → j ∈ open_now h → (held right m).has_written j ≡ wrote h j
  unfolding held wrote
  written_same j open_job =
      same_test
      (some_test (λ k. and_test (own_test (alters k)) (some_test (λ c. t.tells.own j (does k) c) (below cells))) kinds)
      (some_test (λ (x : Step). and_test (eq_test x.job j) (own_test (alters_by x.deed))) (all_steps h))
      (λ r.
      let u = r.2.1.2.touched in
      (u.step, (kept_steps_from h u.granted).0, (u.its_job, subst (λ (d : Deed). T (alters_by d)) (sym u.its_deed) r.2.0)))
      (λ r.
      let a = r.0 in
      let w = altering a.deed r.2.1 in (
        w.0,
        every_kind w.0,
        (
          w.2,
          (
            a.cell,
            below_has a.cell cells ((orderly h t.sound.turns).real a r.1),
            record { is_open = open_job; touched = record { step = a; granted = kept_steps_if h r.1 (λ n. open_not_abandoned h open_job (Memᴰ.cast (sym r.2.0) n)); its_job = r.2.0; its_deed = w.1; its_cell = refl } },
          ),
        ),
      ))

  -- where the ports of the open jobs are the book's too
  agree : ((j : ℕ) → j ∈ open_now h → m.port j ≡ b.port j) → Agree (untested (held right m)) (untested (full b h))
  unfolding full
  agree ports =
      record {
        is_open = opens_same;
        has_written = λ j o. written_same j ((has_test (open_now h) j).holds o);
        count = unfold held in ap length t.tells.jobs;
        crowd = λ p q.
            unfold held in
            ap (λ (l : List ℕ). length (of_port m.port p l)) t.tells.jobs
            ∙ ap length (only_same (λ j. eqb (m.port j) p) (λ j. eqb (b.port j) p) (open_now h) (λ j o. ap (λ (n : ℕ). eqb n p) (ports j o)));
        next = unfold held in t.next;
        closes = λ k j c o real. refl;
      }

  -- ---- what the memory has of the next number

  unissued : m.next ∈ open_now h → ⊥
  unissued o = let q = t.sound.issued m.next (open_opened h o) in let e = t.next in omega arith

  next_unused : Unused m m.next
  next_unused =
      record {
        not_open = λ o. unissued (subst (λ (l : List ℕ). m.next ∈ l) t.tells.jobs o);
        no_own = λ k c. test_false (t.tells.own m.next (does k) c) (λ r. unissued r.is_open);
        no_past = λ k c. test_false (t.tells.past m.next (does k) c) (λ r. unissued r.is_open);
        no_leads = λ x. test_false (t.tells.leads m.next x) (λ r. unissued r.from_open);
        not_led = λ i. test_false (t.tells.leads i m.next) (λ r. unissued r.to_open);
      }

  next_led : OpenLeads m
  next_led i x =
      let o = orderly h t.sound.turns in
      opening_leads o t.tells m.next i x ∙ ap (λ (a : Bool). m.leads i x || (eqb x m.next && a)) (past_ended o t.tells i)

  jobs_once : Once m.jobs
  unfolding open_now kept
  jobs_once =
      subst Once (sym t.tells.jobs)
      (once_if (open_now h) (λ x r.
      let k = before_from_only (λ j. not (has (ended h) j)) (kept h) r in
      let q = (orderly h t.sound.turns).rising x x (before_from_only (λ j. not (has (abandoned h) j)) (opened h) k) in
      omega arith))

-- ---- an open, a read, an abandon

-- what a request of this profile can want
pub data LateWant : Want → Type 0 where
  to_open : LateWant an_open
  to_read : LateWant (a_step read)
  to_abandon : LateWant an_abandon
  to_nothing : LateWant nothing

pub late_want : (n : ℕ) → LateWant (want (late_kind n))
unfolding want
late_want n = go (eqb n 1) (eqb n 2) (eqb n 5)
  where
    go : (a b c : Bool) → LateWant (want (cond a 1 (cond b 2 (cond c 5 0))))
    go true b c = to_open
    go false true c = to_read
    go false false true = to_abandon
    go false false false = to_nothing

module _ {b : Book} {h : History} {m : Memory} (t : Beside b h m) where
  beside_want : {w : Want} → LateWant w → (j c : ℕ) → first_of (tests (untested (full b h)) w j c) ≡ 0
      → Beside b (h ++ event_of (full b h).next w j c) (move_all right m (event_of (full b h).next w j c))
  unfolding tests event_of
  beside_want to_open j c z =
      let f = full b h in
      let a = passed (leb numbers f.next) 5 _ z in
      let p : Proper f (opens f.next) = (refl, below_bound numbers f.next a.0, below_bound most_open f.count (passed (leb most_open f.count) 4 _ (passed (leb port_count j) 7 _ a.1).1).0) in
      let turn = proper_in_turn b h t.sound.issued (opens f.next) p in
      beside_event t (opens f.next) p (subst (λ (l : List Step). Circular l → ⊥) (sym (ended_opens h (orderly h t.sound.turns) f.next turn)) t.sound.no_circle)
  beside_want to_read j c z =
      let p = proper_step (untested (full b h)) read j c z in
      beside_step t read j c (unfold full in (has_test (open_now h) j).holds p.0) p.1
  beside_want to_abandon j c z =
      let f = full b h in
      let a = passed (not (f.is_open j)) 2 _ z in
      let p : Proper f (abandons j) = (undenied (f.is_open j) a.0, (passed (f.has_written j) 3 0 a.1).0) in
      beside_event t (abandons j) p
      (subst (λ (l : List Step). Circular l → ⊥) (sym (ended_abandons h j (unfold full in (has_test (open_now h) j).holds p.0))) t.sound.no_circle)
  beside_want to_nothing j c z = absurd ((passed true 0 0 z).0 tt)

  seen_want : {st : Held} → Seen st m → {w : Want} → LateWant w → (j c : ℕ) → first_of (tests (untested (held right m)) w j c) ≡ 0
      → Seen (moved st w j c) (with_port (move_all right m (event_of (held right m).next w j c)) (entered w (held right m).next j m.port))
  unfolding tests
  seen_want s to_open j c z = seen_moved s (next_unused t) (next_led t) (jobs_once t) an_open j c z
  seen_want {st} s to_read j c z =
      unfold moved event_of move right step_in in
      let p = passed (leb cells c) 1 _ z in
      with_its_port
      (at_job s (λ i. stepped_at st read i c) (λ n. step_in m (does read) n c) j (passed (not ((held right m).is_open j)) 2 _ p.1).0
      (λ i o. seen_step s read i c o (below_bound cells c p.0)))
  seen_want s to_abandon j c z = seen_moved s (next_unused t) (next_led t) (jobs_once t) an_abandon j c z
  seen_want s to_nothing j c z = absurd ((passed true 0 0 z).0 tt)

-- ---- the writes of a publish

-- they leave the open jobs as they were, and the end strikes one out
written_open : (h : History) (j : ℕ) (cs : List ℕ) → open_now (h ++ written j cs) ≡ open_now h
written_open h j [] = ap open_now (append-nil h)
written_open h j (c ∷ cs) =
    ap open_now (sym (append_assoc h (steps write j c ∷ []) (written j cs))) ∙ written_open (h ++ steps write j c ∷ []) j cs ∙ open_steps h j write c

open_written : (h : History) (j : ℕ) (cs : List ℕ) → j ∈ open_now h → j ∈ open_now (h ++ written j cs)
open_written h j cs n = subst (λ (l : List ℕ). j ∈ l) (sym (written_open h j cs)) n

published_open : (h : History) (j : ℕ) (cs : List ℕ) → open_now (h ++ published j cs) ≡ strike j (open_now h)
unfolding published
published_open h j cs = ap open_now (sym (append_assoc h (written j cs) (ends j ∷ []))) ∙ open_ends (h ++ written j cs) j ∙ ap (strike j) (written_open h j cs)

beside_written : {b : Book} {h : History} {m : Memory} → Beside b h m → (j : ℕ) (cs : List ℕ) → Real cs → j ∈ open_now h → Beside b (h ++ written j cs) (move_all right m (written j cs))
beside_written {b} {h} {m} t j [] real n = subst (λ (x : History). Beside b x m) (sym (append-nil h)) t
beside_written {b} {h} {m} t j (c ∷ cs) real n =
    let e = steps write j c in
    subst (λ (x : History). Beside b x (move_all right (move right m e) (written j cs))) (append_assoc h (e ∷ []) (written j cs))
    (beside_written {h = h ++ steps write j c ∷ []} (beside_step t write j c n (real c here)) j cs (λ x q. real x (later q)) (subst (λ (l : List ℕ). j ∈ l) (sym (open_steps h j write c)) n))

move_append : (m : Memory) (k l : List Event) → move_all right m (k ++ l) ≡ move_all right (move_all right m k) l
move_append m [] l = refl
move_append m (e ∷ k) l = move_append (move right m e) k l

written_jobs : (m : Memory) (j : ℕ) (cs : List ℕ) → (move_all right m (written j cs)).jobs ≡ m.jobs
unfolding move right step_in
written_jobs m j [] = refl
written_jobs m j (c ∷ cs) = written_jobs (step_in m (does write) j c) j cs

-- no event moves the ports
move_port : (m : Memory) (es : List Event) → (move_all right m es).port ≡ m.port
unfolding move right open_in step_in blank fold
move_port m [] = refl
move_port m (opens j ∷ es) = move_port (move right m (opens j)) es
move_port m (steps k j c ∷ es) = move_port (move right m (steps k j c)) es
move_port m (ends j ∷ es) = move_port (move right m (ends j)) es
move_port m (abandons j ∷ es) = move_port (move right m (abandons j)) es

-- ---- the rows after them

-- the writes leave the open slots and the numbers
put_slots : (h : Held) (s : ℕ) (cs : List ℕ) → open_slots (put_down h s cs) ≡ open_slots h
put_slots h s [] = refl
put_slots h s (c ∷ cs) = put_slots (stepped_at h write s c) s cs ∙ slots_stepped h write s c

put_number : (h : Held) (s : ℕ) (cs : List ℕ) (i : ℕ) → number_at (put_down h s cs) i ≡ number_at h i
unfolding number_at stepped_at
put_number h s [] i = refl
put_number h s (c ∷ cs) i = put_number (stepped_at h write s c) s cs i

seen_put : {st : Held} {m : Memory} → Seen st m → (s : ℕ) (cs : List ℕ) → Real cs → s ∈ open_slots st → Seen (put_down st s cs) (move_all right m (written (number_at st s) cs))
unfolding number_at stepped_at move right
seen_put s i [] real o = s
seen_put {st} s i (c ∷ cs) real o =
    seen_put {st = stepped_at st write i c} (seen_step s write i c o (real c here)) i cs (λ x q. real x (later q)) (subst (λ (l : List ℕ). i ∈ l) (sym (slots_stepped st write i c)) o)

module _ {b : Book} {h : History} {m : Memory} (t : Beside b h m) {st : Held} (seen : Seen st m) (cs : List ℕ) (real : Real cs) where
  -- a slot leads to itself then exactly when the publish closes a circle
  back_same : (s j : ℕ) → s ∈ open_slots st → number_at st s ≡ j → j ∈ open_now h → leads_back st s cs ≡ closes_circle h j cs
  unfolding leads_back closes_circle published
  back_same s j o e n =
      let st' = put_down st s cs in
      let h' = h ++ written j cs in
      let m' = move_all right m (written j cs) in
      let o' : s ∈ open_slots st' = subst (λ (l : List ℕ). s ∈ l) (sym (put_slots st s cs)) o in
      let seen' : Seen st' m' = subst (λ (x : ℕ). Seen st' (move_all right m (written x cs))) e (seen_put seen s cs real o) in
      let b' : Beside b h' m' = beside_written t j cs real n in
      let n' : j ∈ open_now h' = open_written h j cs n in
      let its : number_at st' s ≡ j = put_number st s cs s ∙ e in
      seen'.leads s s o' o'
      ∙ ap₂ m'.leads its its
      ∙ same_test (end_test h' j n' b'.tells b'.sound.no_circle) (has_circle_test (ended_steps (h' ++ ends j ∷ []))) (λ z. z) (λ z. z)
      ∙ ap (λ (x : History). has_circle (ended_steps x)) (append_assoc h (written j cs) (ends j ∷ []))

  opens_alike : (j : ℕ) → is_some (slot_of st j) ≡ has (open_now h) j
  opens_alike j = unfold facts in (seen_agree seen).is_open j ∙ opens_same t j

  -- so the codes are the same
  code_same : (j : ℕ) → held_code st j cs ≡ full_code h j cs
  unfolding held_code full_code publish_code
  code_same j =
      same_refused (is_some (slot_of st j)) (has (open_now h) j) 3 _ _ (opens_alike j) (λ t.
      let n = (has_test (open_now h) j).holds t in
      let r = (slot_test st j).holds (subst T (sym (opens_alike j)) t) in
      ap (λ (z : Bool). cond z 7 0)
      (ap (λ (a : Option ℕ). at_slot a (λ s. leads_back st s cs)) r.meant ∙ back_same r.slot j r.is_open r.its_number n))

  -- the rows after the writes and the end
  seen_ended : (s : ℕ) → s ∈ open_slots st → Seen (ended_at (put_down st s cs) s) (move_all right m (published (number_at st s) cs))
  unfolding published move right
  seen_ended s o =
      let n = number_at st s in
      let st' = put_down st s cs in
      let m' = move_all right m (written n cs) in
      let o' : s ∈ open_slots st' = subst (λ (l : List ℕ). s ∈ l) (sym (put_slots st s cs)) o in
      let once : Once m'.jobs = subst Once (sym (written_jobs m n cs)) (jobs_once t) in
      let left : Seen (ended_at st' s) (blank (fold (step_in m' ending n 0) n) n) =
      subst (λ (x : ℕ). Seen (ended_at st' s) (blank (fold (step_in m' ending x 0) x) x)) (put_number st s cs s) (seen_end (seen_put seen s cs real o) once s o') in
      subst (Seen (ended_at st' s)) (sym (move_append m (written n cs) (ends n ∷ []))) left

  module _ (j : ℕ) (z : full_code h j cs ≡ 0) where
    tested : (T (not (has (open_now h) j)) → ⊥) × (T (closes_circle h j cs) → ⊥)
    unfolding full_code publish_code
    tested = let a = passed (not (has (open_now h) j)) 2 _ z in (a.0, (passed (closes_circle h j cs) 6 0 a.1).0)

    is_open : j ∈ open_now h
    is_open = (has_test (open_now h) j).holds (undenied (has (open_now h) j) tested.0)

    beside_published : Beside b (h ++ published j cs) (move_all right m (published j cs))
    unfolding published closes_circle full
    beside_published =
        let h' = h ++ written j cs in
        let b' = beside_written t j cs real is_open in
        let p : Proper (full b h') (ends j) = (has_test (open_now h') j).shows (open_written h j cs is_open) in
        let same = append_assoc h (written j cs) (ends j ∷ []) in
        let free : Circular (ended_steps (h' ++ ends j ∷ [])) → ⊥ =
        λ c. tested.1 (subst (λ (x : History). T (has_circle (ended_steps x))) same ((has_circle_test (ended_steps (h' ++ ends j ∷ []))).shows c)) in
        subst₂ (Beside b) same (sym (move_append m (written j cs) (ends j ∷ []))) (beside_event b' (ends j) p free)

    seen_published : Seen (with_slot (slot_of st j) (λ s. ended_at (put_down st s cs) s) st) (move_all right m (published j cs))
    seen_published =
        at_job seen (λ s. ended_at (put_down st s cs) s) (λ n. move_all right m (published n cs)) j
        (λ n. tested.0 (subst (λ (x : Bool). T (not x)) (opens_same t j) n)) seen_ended

-- ---- a list of what is asked

-- the history, the memory and the rows side by side; the ports of the open jobs are the book's, at most 16 of each
record Standing (b : Book) (h : History) (st : Held) : Type 0 where
  memory : Memory
  beside : Beside b h memory
  port : (j : ℕ) → j ∈ open_now h → memory.port j ≡ b.port j
  few : Ported b.port (open_now h)
  seen : Seen st memory

-- the ports of book and memory have no part in it
with_ports : {b : Book} {h : History} {m : Memory} → Beside b h m → (p q : ℕ → ℕ) → Beside (record { first = b.first; port = p }) h (with_port m q)
with_ports t p q = record { sound = t.sound; tells = record { jobs = t.tells.jobs; own = t.tells.own; past = t.tells.past; leads = t.tells.leads }; next = t.next }

module _ {b : Book} {h : History} {st : Held} (s : Standing b h st) where
  abbrev same_facts : Agree (untested (facts st)) (untested (held right s.memory))
  same_facts =
      let a = seen_agree s.seen in
      record { is_open = a.is_open; has_written = a.has_written; count = a.count; crowd = a.crowd; next = a.next; closes = λ k j c o real. refl }

  abbrev full_facts : Agree (untested (held right s.memory)) (untested (full b h))
  full_facts = agree s.beside s.port

  reply_same : (a : Ask) → late_answer st a ≡ late_reply b h a
  unfolding late_answer late_reply
  reply_same (asks r) = agree_reply same_facts (in_profile r) ∙ agree_reply full_facts (in_profile r)
  reply_same (publishes j ws) = ap (λ (n : ℕ). publish_answer n j) (code_same s.beside s.seen (named ws) (named_real ws) j)

  -- a request, and a publish, keep them so
  standing_asks : (r : Request) → Standing (late_book b h (asks r)) (h ++ late_granted b h (asks r)) (late_next st (asks r))
  unfolding late_book late_next late_granted
  standing_asks r =
      record {
        memory = with_port (move_all right m (granted_of f q)) (ports_after f q m.port);
        beside = with_ports beside_next (ports_after f q b.port) (ports_after f q m.port);
        port = ports_same f h q m.port b.port s.port;
        few = ported_granted f b.port h (orderly h s.beside.sound.turns) unissued_next (λ p small. unfold full in refl) q s.few;
        seen = seen_next;
      }
    where
      q : Request
      q = in_profile r

      w : Want
      w = want q.kind

      f : Facts
      f = untested (full b h)

      m : Memory
      m = s.memory

      event : List Event
      event = event_of f.next w r.job r.cell

      unissued_next : f.next ∈ opened h → ⊥
      unissued_next o = unfold full in let z = s.beside.sound.issued f.next o in omega arith

      tested_want : code_of f q ≡ 0 → first_of (tests f w r.job r.cell) ≡ 0
      tested_want z = unfold code_of in (passed (not (eqb r.byte1 0)) 0 _ z).1

      beside_next : Beside b (h ++ granted_of f q) (move_all right m (granted_of f q))
      beside_next =
          unfold granted_of in
          by_test (λ g. Beside b (h ++ cond g event []) (move_all right m (cond g event []))) (eq_test (code_of f q) 0)
          (λ z. beside_want s.beside (late_want r.kind) r.job r.cell (tested_want z))
          (λ z. subst (λ (x : History). Beside b x m) (sym (append-nil h)) s.beside)

      next : Held
      next = moved st w r.job r.cell

      entry : ℕ → ℕ
      entry = entered w f.next r.job m.port

      seen_next : Seen (cond (eqb (code_of (untested (facts st)) q) 0) next st) (with_port (move_all right m (granted_of f q)) (ports_after f q m.port))
      seen_next =
          unfold granted_of ports_after in
          subst (λ (n : ℕ). Seen (cond (eqb n 0) next st) (with_port (move_all right m (cond (eqb (code_of f q) 0) event [])) (cond (eqb (code_of f q) 0) entry m.port)))
          (sym (agree_code same_facts q ∙ agree_code full_facts q))
          (by_test (λ g. Seen (cond g next st) (with_port (move_all right m (cond g event [])) (cond g entry m.port))) (eq_test (code_of f q) 0)
          (λ z. subst (λ (n : ℕ). Seen next (with_port (move_all right m (event_of n w r.job r.cell)) (entered w n r.job m.port))) full_facts.next
          (seen_want s.beside s.seen (late_want r.kind) r.job r.cell (agree_tests full_facts w r.job r.cell ∙ tested_want z)))
          (λ z. with_its_port s.seen))

  standing_publishes : (j : ℕ) (ws : List ℕ) → Standing b (h ++ late_granted b h (publishes j ws)) (late_next st (publishes j ws))
  unfolding late_next late_granted
  standing_publishes j ws =
      let cs = named ws in
      let next : Held = with_slot (slot_of st j) (λ i. ended_at (put_down st i cs) i) st in
      subst (λ (n : ℕ). Standing b (h ++ cond (eqb (full_code h j cs) 0) (published j cs) []) (cond (eqb n 0) next st)) (sym (code_same s.beside s.seen cs (named_real ws) j))
      (by_test (λ g. Standing b (h ++ cond g (published j cs) []) (cond g next st)) (eq_test (full_code h j cs) 0)
      (λ z. record {
        memory = move_all right s.memory (published j cs);
        beside = beside_published s.beside s.seen cs (named_real ws) j z;
        port = λ i o. ap (λ (f : ℕ → ℕ). f i) (move_port s.memory (published j cs)) ∙ s.port i (strike_from j (open_now h) (subst (λ (l : List ℕ). i ∈ l) (published_open h j cs) o)).0;
        few = few_left cs;
        seen = seen_published s.beside s.seen cs (named_real ws) j z;
      })
      (λ z. subst (λ (x : History). Standing b x st) (sym (append-nil h)) s))
    where
      few_left : (cs : List ℕ) → Ported b.port (open_now (h ++ published j cs))
      few_left cs =
          subst (Ported b.port) (open_ends h j ∙ sym (published_open h j cs)) (ported_ends h s.few j)

  standing_next : (a : Ask) → Standing (late_book b h a) (late_after b h a) (late_next st a)
  unfolding late_after late_book
  standing_next (asks r) = standing_asks r
  standing_next (publishes j ws) = standing_publishes j ws

standing_start : (first : ℕ) → Standing (blank_book first) [] (fresh_held first)
standing_start first = record { memory = fresh first; beside = beside_start first; port = λ j o. refl; few = ported_start (λ j. 0); seen = seen_start first }

exact_from : {b : Book} {h : History} {st : Held} → Standing b h st → (l : List Ask) → late_answers st l ≡ late_replies_from b h l
exact_from s [] = refl
exact_from {b} {h} s (a ∷ l) = ap₂ (λ (x : Reply) (r : List Reply). x ∷ r) (reply_same s a) (exact_from {b = late_book b h a} (standing_next s a) l)

standing_from : {b : Book} {h : History} {st : Held} → Standing b h st → (l : List Ask) → Standing (late_book_from b h l) (late_history_from b h l) (late_state st l)
standing_from s [] = s
standing_from {b} {h} s (a ∷ l) = standing_from {b = late_book b h a} (standing_next s a) l

-- the answers of the rows are the replies of the full history
pub exact : (first : ℕ) (l : List Ask) → late_answers (fresh_held first) l ≡ late_replies first l
exact first l = exact_from (standing_start first) l

-- no list of what is asked changes the first number
first_from : (b : Book) (h : History) (l : List Ask) → (late_book_from b h l).first ≡ b.first
unfolding late_book
first_from b h [] = refl
first_from b h (asks r ∷ l) = first_from (late_book b h (asks r)) (late_after b h (asks r)) l
first_from b h (publishes j ws ∷ l) = first_from b (late_after b h (publishes j ws)) l

-- and every history so granted is sound; at most 16 open jobs have a port and each has one of the three, and the rows count them
pub granted_sound : (first : ℕ) (l : List Ask) → LateSound first (late_history first l)
granted_sound first l = subst (λ (n : ℕ). LateSound n (late_history first l)) (first_from (blank_book first) [] l) (standing_from (standing_start first) l).beside.sound

pub granted_few : (first : ℕ) (l : List Ask) → Ported (late_book_of first l).port (open_now (late_history first l))
granted_few first l = (standing_from (standing_start first) l).few

pub crowd_held : (first : ℕ) (l : List Ask) (p : ℕ) → p < port_count → (facts (late_state (fresh_held first) l)).crowd p ≡ length (of_port (late_book_of first l).port p (open_now (late_history first l)))
unfolding full
crowd_held first l p q = let s = standing_from (standing_start first) l in (same_facts s).crowd p q ∙ (full_facts s).crowd p q
