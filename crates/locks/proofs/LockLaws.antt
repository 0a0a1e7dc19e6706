-- A history that was granted by locks has no circle (`locked_free`). In it each event was in turn and no step was held up (`Locked`); so where a job precedes another it
-- has ended before a deed of the other (`freed` of Released), and a circle of such jobs would have ends that rise without end.
--
-- In order: the test of being held up is right; what is said of each event; what follows and stays true (`Released`); no circle.
-- Assumes nothing.
use Rattle.std.specs.Prelude.{◌≡◌, refl, Bool, true, false, List, [], ◌∷◌, ◌++◌, ℕ, ◌+◌, ◌≤◌, ◌<◌, T, length}
use Rattle.std.proofs.Common.{sym, ap, ◌∙◌, ⊎_elim, append-nil, append_assoc, arith, length-append}
use Rattle.std.proofs.Math.Path.{subst}
use mathlib.Core.List.Memᴰ
use Rattle.graph.specs.Decide.{Decides, and_test, not_test, eq_test, own_test, some_test, read_as, answer}
use Rattle.graph.specs.Lists.{◌∈◌, here, Before, before_nil, before_left, before_right, before_from_only}
use Rattle.graph.specs.Walk.{Via, one, step, Any}
use Rattle.history.specs.Events.{Kind, read, write, add, kinds_clash, Deed, does, opening, ending, clash, Event, opens, steps, ends, abandons, History, ended_by, ended, abandoned, open_now, Step, step_at, step_by, all_steps, kept_steps, Conflict, Precedes, Circular}
use Rattle.history_laws.specs.EventLaws.{ending_calm}
use Rattle.history.specs.Turns.{InTurn, InTurnAfter}
use Rattle.history_laws.specs.TurnLaws.{ended_grows, abandoned_grows, all_steps_grows, old_in, new_in, which_in, which_before, has_test, kept_if, open_from, open_if, kept_steps_from, Orderly, step_single, orderly_start, orderly_next}
use Rattle.locks.specs.Locks.{bars, HeldUp, held_up}
use Rattle.locks.specs.LockLaws.{Locked, LockedAfter, Unheld}

-- ---- the test is right

pub held_up_test : (h : History) (k : Kind) (j c : ℕ) → Decides (held_up h k j c) (HeldUp h k j c)
unfolding held_up
held_up_test h k j c =
    read_as (some_test (λ (s : Step). and_test (has_test (open_now h) s.job) (and_test (not_test (eq_test s.job j)) (and_test (eq_test s.cell c) (own_test (bars s.deed k))))) (all_steps h))
    (λ r. record { step = r.0; granted = r.1; still_open = r.2.0; another = r.2.1.0; same_cell = r.2.1.1.0; unshared = r.2.1.1.1 })
    (λ u. (u.step, u.granted, (u.still_open, (u.another, (u.same_cell, u.unshared)))))

-- ---- what is said of each event

-- steps that clash cannot share their cell
pub clash_bars : (l k : Kind) → T (kinds_clash l k) → T (bars (does l) k)
clash_bars read read t = t
clash_bars read write t = tt
clash_bars read add t = tt
clash_bars write read t = tt
clash_bars write write t = tt
clash_bars write add t = tt
clash_bars add read t = tt
clash_bars add write t = tt
clash_bars add add t = tt

pub locked_append : (h : History) (es fs : List Event) → LockedAfter h es → LockedAfter (h ++ es) fs → LockedAfter h (es ++ fs)
locked_append h [] fs p q = subst (λ (x : History). LockedAfter x fs) (append-nil h) q
locked_append h (e ∷ es) fs p q =
    (p.0, locked_append (h ++ e ∷ []) es fs p.1 (subst (λ (x : History). LockedAfter x fs) (sym (append_assoc h (e ∷ []) es)) q))

-- of a part, from the beginning on
pub locked_part : (h : History) (es fs : List Event) → LockedAfter h (es ++ fs) → LockedAfter h es
locked_part h [] fs p = tt
locked_part h (e ∷ es) fs p = (p.0, locked_part (h ++ e ∷ []) es fs p.1)

-- ---- what follows, and stays true

pub locked_turns : (h : History) (es : List Event) → LockedAfter h es → InTurnAfter h es
locked_turns h [] p = tt
locked_turns h (e ∷ es) p = (p.0.0, locked_turns (h ++ e ∷ []) es p.1)

abbrev is_end : Deed → Bool
is_end (does k) = false
is_end opening = false
is_end ending = true

-- job j has ended before place n
record EndBefore (h : History) (j n : ℕ) : Type 0 where
  end : Step
  granted : end ∈ all_steps h
  its_job : end.job ≡ j
  ends_it : T (is_end end.deed)
  before : end.at < n

record Released (h : History) : Type 0 where
  in_order : Orderly h
  -- a kept job has ended before the deed of another that its own conflicts with
  freed : (a b : Step) → Before a b (all_steps h) → Conflict a b → (a.job ∈ abandoned h → ⊥) → EndBefore h a.job b.at
  ended_end : (j : ℕ) → j ∈ ended h → EndBefore h j (length h)
  end_ended : (e : Step) → e ∈ all_steps h → T (is_end e.deed) → e.job ∈ ended h
  -- a job does nothing after its end
  end_last : (e b : Step) → e ∈ all_steps h → b ∈ all_steps h → T (is_end e.deed) → b.job ≡ e.job → b.at ≤ e.at

released_start : Released []
unfolding all_steps ended
released_start =
    record {
      in_order = orderly_start;
      freed = λ a b r c na. absurd (before_nil r);
      ended_end = λ j m. absurd (Memᴰ.not-nil m);
      end_ended = λ e m t. absurd (Memᴰ.not-nil m);
      end_last = λ e b m n t q. absurd (Memᴰ.not-nil m);
    }

-- the place of what an event brings
place_new : (n : ℕ) (e : Event) {a : Step} → a ∈ step_by n e → a.at ≡ n
place_new n (opens j) m = ap (λ (x : Step). x.at) (Memᴰ.eq_of_singleton m)
place_new n (steps k j c) m = ap (λ (x : Step). x.at) (Memᴰ.eq_of_singleton m)
place_new n (ends j) m = ap (λ (x : Step). x.at) (Memᴰ.eq_of_singleton m)
place_new n (abandons j) m = absurd (Memᴰ.not-nil m)

-- only an end brings an end, and with it the ended job
end_new : (n : ℕ) (e : Event) {a : Step} → a ∈ step_by n e → T (is_end a.deed) → a.job ∈ ended_by e
end_new n (opens j) m t = absurd (subst (λ (x : Step). T (is_end x.deed)) (Memᴰ.eq_of_singleton m) t)
end_new n (steps k j c) m t = absurd (subst (λ (x : Step). T (is_end x.deed)) (Memᴰ.eq_of_singleton m) t)
end_new n (ends j) m t = Memᴰ.cast (ap (λ (x : Step). x.job) (Memᴰ.eq_of_singleton m)) here
end_new n (abandons j) m t = absurd (Memᴰ.not-nil m)

ended_new : (n : ℕ) (e : Event) {j : ℕ} → j ∈ ended_by e → (a : Step) × (a ∈ step_by n e) × (a.job ≡ j) × T (is_end a.deed) × (a.at ≡ n)
ended_new n (opens i) m = absurd (Memᴰ.not-nil m)
ended_new n (steps k i c) m = absurd (Memᴰ.not-nil m)
ended_new n (ends i) m = (step_at n ending i 0, here, sym (Memᴰ.eq_of_singleton m), tt, refl)
ended_new n (abandons i) m = absurd (Memᴰ.not-nil m)

-- whoever acts had not ended
acts_unended : (h : History) (e : Event) {b : Step} → Orderly h → InTurn h e → b ∈ step_by (length h) e → b.job ∈ ended h → ⊥
acts_unended h (opens j) o t m n =
    let q = o.ended_opened j (Memᴰ.cast (sym (ap (λ (x : Step). x.job) (Memᴰ.eq_of_singleton m))) n) in
    let z = t j q in
    omega arith
acts_unended h (steps k j c) o t m n = (open_from h t.0).1 (Memᴰ.cast (sym (ap (λ (x : Step). x.job) (Memᴰ.eq_of_singleton m))) n)
acts_unended h (ends j) o t m n = (open_from h t).1 (Memᴰ.cast (sym (ap (λ (x : Step). x.job) (Memᴰ.eq_of_singleton m))) n)
acts_unended h (abandons j) o t m n = Memᴰ.not-nil m

-- what an opening, and a step, can conflict with
ended_clash : (d : Deed) → T (clash d opening) → T (is_end d)
ended_clash (does k) t = t
ended_clash opening t = t
ended_clash ending t = tt

barring : (d : Deed) (k : Kind) → T (clash d (does k)) → T (bars d k)
barring (does l) k t = clash_bars l k t
barring opening k t = t
barring ending k t = t

grown : {h : History} (e : Event) {j n : ℕ} → EndBefore h j n → EndBefore (h ++ e ∷ []) j n
grown {h} e x = record { end = x.end; granted = old_in (all_steps_grows h e) x.granted; its_job = x.its_job; ends_it = x.ends_it; before = x.before }

module _ {h : History} (r : Released h) where
  sooner : {j m n : ℕ} → m ≤ n → EndBefore h j m → EndBefore h j n
  sooner {m = m} {n = n} q x = let z = x.before in record { end = x.end; granted = x.granted; its_job = x.its_job; ends_it = x.ends_it; before = omega arith }

  -- what the new event conflicts with is of a job that has ended
  freed_new : (e : Event) → InTurn h e → Unheld h e → {a b : Step} → a ∈ all_steps h → b ∈ step_by (length h) e → Conflict a b → (a.job ∈ abandoned h → ⊥)
      → EndBefore h a.job (length h)
  freed_new (opens j) t u {a} m n c na =
      let z = subst (λ (x : Step). Conflict a x) (Memᴰ.eq_of_singleton n) c in
      record { end = a; granted = m; its_job = refl; ends_it = ended_clash a.deed z.clashes; before = r.in_order.places a m }
  freed_new (steps k j c) t u {a} m n f na =
      let z = subst (λ (x : Step). Conflict a x) (Memᴰ.eq_of_singleton n) f in
      ⊎_elim (r.ended_end a.job)
      (λ ne. absurd (u (record {
        step = a;
        granted = m;
        still_open = open_if h (kept_if h (r.in_order.stepped a m) na) ne;
        another = z.others;
        same_cell = z.same_cell;
        unshared = barring a.deed k z.clashes;
      })))
      (answer (has_test (ended h) a.job))
  freed_new (ends j) t u {a} m n c na = let z = subst (λ (x : Step). Conflict a x) (Memᴰ.eq_of_singleton n) c in absurd (ending_calm a.deed z.clashes)
  freed_new (abandons j) t u m n c na = absurd (Memᴰ.not-nil n)

  released_next : (e : Event) → InTurn h e → Unheld h e → Released (h ++ e ∷ [])
  released_next e t u =
      let o = r.in_order in
      let ss = all_steps_grows h e in
      let se = ended_grows h e in
      let sa = abandoned_grows h e in
      let more : length (h ++ e ∷ []) ≡ length h + 1 = length-append h (e ∷ []) in
      record {
        in_order = orderly_next e o t;
        freed = λ a b q c na.
            let nb : a.job ∈ abandoned h → ⊥ = λ m. na (old_in sa m) in
            ⊎_elim (λ old. grown e (r.freed a b old c nb))
            (⊎_elim (λ x. subst (EndBefore (h ++ e ∷ []) a.job) (sym (place_new (length h) e x.1)) (grown e (freed_new e t u x.0 x.1 c nb))) (λ x. absurd (step_single (length h) e x)))
            (which_before ss q);
        ended_end = λ j m.
            ⊎_elim (λ old. grown e (sooner (omega arith) (r.ended_end j old)))
            (λ new. let x = ended_new (length h) e new in let p = x.4 in record { end = x.0; granted = new_in ss x.1; its_job = x.2; ends_it = x.3; before = omega arith })
            (which_in se m);
        end_ended = λ x m q. ⊎_elim (λ old. old_in se (r.end_ended x old q)) (λ new. new_in se (end_new (length h) e new q)) (which_in ss m);
        end_last = λ x b m n q w.
            ⊎_elim
            (λ xo. ⊎_elim (λ bo. r.end_last x b xo bo q w) (λ bn. absurd (acts_unended h e o t bn (Memᴰ.cast w (r.end_ended x xo q)))) (which_in ss n))
            (λ xn.
            let p = place_new (length h) e xn in
            ⊎_elim (λ bo. let z = o.places b bo in omega arith) (λ bn. let z = place_new (length h) e bn in omega arith) (which_in ss n))
            (which_in ss m);
      }

-- ---- no circle

released_after : {h : History} (es : List Event) → Released h → LockedAfter h es → Released (h ++ es)
released_after {h} [] r p = subst Released (sym (append-nil h)) r
released_after {h} (e ∷ es) r p = subst Released (append_assoc h (e ∷ []) es) (released_after es (released_next r e p.0.0 p.0.1) p.1)

module _ {h : History} (r : Released h) where
  -- who precedes has ended before a deed of the other, and so before the other's end
  freed_by : {i j : ℕ} → (p : Precedes (kept_steps h) i j) → EndBefore h i p.later.at
  unfolding kept_steps
  freed_by p =
      let m = kept_steps_from h (before_left p.in_order) in
      subst (λ (x : ℕ). EndBefore h x p.later.at) p.earlier_job
      (r.freed p.earlier p.later (before_from_only _ (all_steps h) p.in_order) p.conflicting m.1)

  back : {i j n : ℕ} → Precedes (kept_steps h) i j → (x : EndBefore h j n) → EndBefore h i x.end.at
  back p x =
      sooner r (r.end_last x.end p.later x.granted (kept_steps_from h (before_right p.in_order)).0 x.ends_it (p.later_job ∙ sym x.its_job)) (freed_by p)

  all_back : {i j n : ℕ} → Via (Precedes (kept_steps h)) Any i j → (x : EndBefore h j n) → EndBefore h i x.end.at
  all_back (one p) x = back p x
  all_back (step p q w) x = let y = all_back w x in let z = y.before in sooner r (omega arith) (back p y)

  has_ended : {i j : ℕ} → Via (Precedes (kept_steps h)) Any i j → (n : ℕ) × EndBefore h i n
  has_ended (one p) = (p.later.at, freed_by p)
  has_ended (step p q w) = (p.later.at, freed_by p)

  no_circle : Circular (kept_steps h) → ⊥
  no_circle z =
      let x = (has_ended z.1).1 in
      let y = all_back z.1 x in
      let a = y.before in
      let b = r.end_last y.end x.end y.granted x.granted y.ends_it (x.its_job ∙ sym y.its_job) in
      omega arith

pub locked_free : (h : History) → Locked h → Circular (kept_steps h) → ⊥
locked_free h p = no_circle (released_after h released_start p)
