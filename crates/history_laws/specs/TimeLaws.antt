-- What the openings and ends among the steps say of the history itself, and of the bounded memory.
--
-- In order: the steps of a history and its events; `Goes`: what makes a job precede another, said of the events alone, and that precedence is
-- exactly that (`precedes_goes`, `goes_precedes`); a job that ended before another was opened stands before it in an accepted order (`time_kept`).
-- Of the memory: what a read, write or add, an opening and an end meet (`meets_does`, `meets_opening`, `meets_ending`), and that an opening and an end put down
-- no read, write or add, an end no lead (`opening_own`, `ending_own`, `ending_leads`); an open job has no end among its own (`own_unended`), so that an opening
-- makes exactly those jobs lead to it whose past has an end (`opening_leads`); and a past has an end exactly when it has any read, write or add (`past_ended`).
-- Assumes nothing.
use Rattle.std.specs.Prelude.{◌≡◌, Bool, true, false, not, ◌&&◌, ◌||◌, List, [], ◌∷◌, ℕ, suc, ◌<◌, eqb}
use Rattle.std.proofs.Math.Path.{refl, sym, ap, ap₂, subst₂}
use Rattle.std.proofs.Common.{◌∙◌, subst, ⊎_elim, arith}
use mathlib.Core.List.Memᴰ
use Rattle.std.proofs.Math.Dec.{T}
use Rattle.graph.specs.Decide.{and_test, not_test, own_test, same_test, some_test, some_of, test_false}
use Rattle.graph.specs.Lists.{◌∈◌, here, later, Before, first, after, before_nil, before_left, before_right, before_in_right, before_across, before_append, before_only, before_from_only}
use Rattle.graph.specs.Walk.{one, step}
use Rattle.history.specs.Events.{Kind, kinds, Deed, does, opening, ending, kinds_clash, clash, Event, opens, steps, ends, abandons, History, gather, ended_by, has, ended, abandoned, kept, open_now, Step, step_at, step_by, steps_from, all_steps, kept_steps, Precedes}
use Rattle.history.specs.Replies.{cells}
use Rattle.history.specs.Turns.{Turns}
use Rattle.history.specs.Orders.{Accepted}
use Rattle.history.specs.Memory.{Footprint, Memory, meets, touches, same_deed, step_in, open_in, below}
use Rattle.history.specs.Tables.{Touched, Led, Past, Tells}
use Rattle.history_laws.specs.EventLaws.{Clashing, as_steps, in_time, clash_parts, ending_calm}
use Rattle.history_laws.specs.TurnLaws.{has_test, kept_from, kept_steps_from, kept_steps_if, open_from, step_single, Orderly, orderly}
use Rattle.history_laws.specs.LayoutLaws.{keeps_forward}
use Rattle.history_laws.specs.MemoryLaws.{every_kind, meets_test}
use Rattle.history_laws.specs.Exact.{below_has}

-- ---- steps and events

-- the event that a step is
abbrev pub event_by : Deed → ℕ → ℕ → Event
event_by (does k) j c = steps k j c
event_by opening j c = opens j
event_by ending j c = ends j

abbrev pub event_as : Step → Event
event_as a = event_by a.deed a.job a.cell

its_event : (n : ℕ) (e : Event) {a : Step} → a ∈ step_by n e → event_as a ≡ e
its_event n (opens j) m = ap event_as (Memᴰ.eq_of_singleton m)
its_event n (steps k j c) m = ap event_as (Memᴰ.eq_of_singleton m)
its_event n (ends j) m = ap event_as (Memᴰ.eq_of_singleton m)
its_event n (abandons j) m = absurd (Memᴰ.not-nil m)

-- each step is an event of the history, and two of them stand there as they stand among the steps
pub steps_in : (n : ℕ) (h : History) {a : Step} → a ∈ steps_from n h → event_as a ∈ h
steps_in n [] m = absurd (Memᴰ.not-nil m)
steps_in n (e ∷ h) m = ⊎_elim (λ k. Memᴰ.head (its_event n e k)) (λ k. later (steps_in (suc n) h k)) (Memᴰ.append_cases (step_by n e) m)

steps_before : (n : ℕ) (h : History) {a b : Step} → Before a b (steps_from n h) → Before (event_as a) (event_as b) h
steps_before n [] r = absurd (before_nil r)
steps_before n (e ∷ h) r =
    ⊎_elim
    (λ q. absurd (step_single n e q))
    (⊎_elim (λ q. first (its_event n e q.0) (steps_in (suc n) h q.1)) (λ q. after (steps_before (suc n) h q)))
    (before_append (step_by n e) r)

-- and the other way round
pub events_in : {e : Event} {h : History} (n : ℕ) → e ∈ h → (p : ℕ) × ((a : Step) → a ∈ step_by p e → a ∈ steps_from n h)
events_in n (Memᴰ.head {xs = h} q) = (n, λ a m. Memᴰ.append_left (steps_from (suc n) h) (subst (λ (x : Event). a ∈ step_by n x) q m))
events_in n (Memᴰ.tail {x = x} m) = let r = events_in (suc n) m in (r.0, λ a k. Memᴰ.append_right (step_by n x) (r.1 a k))

events_before : {e f : Event} {h : History} (n : ℕ) → Before e f h → (p : ℕ) × (q : ℕ) × ((a b : Step) → a ∈ step_by p e → b ∈ step_by q f → Before a b (steps_from n h))
events_before n (first q m) =
    let r = events_in (suc n) m in
    (n, r.0, λ a b k l. before_across (subst (λ (x : Event). a ∈ step_by n x) q k) (r.1 b l))
events_before n (after {x = x} r) = let q = events_before (suc n) r in (q.0, q.1, λ a b k l. before_in_right (step_by n x) (q.2 a b k l))

-- the ended jobs are those with an end
ended_event : (h : History) {j : ℕ} → j ∈ gather ended_by h → ends j ∈ h
ended_event [] m = absurd (Memᴰ.not-nil m)
ended_event (e ∷ h) {j} m = ⊎_elim (λ n. Memᴰ.head (is e n)) (λ n. later (ended_event h n)) (Memᴰ.append_cases (ended_by e) m)
  where
    is : (e : Event) → j ∈ ended_by e → ends j ≡ e
    is (opens i) n = absurd (Memᴰ.not-nil n)
    is (steps k i c) n = absurd (Memᴰ.not-nil n)
    is (ends i) n = ap ends (Memᴰ.eq_of_singleton n)
    is (abandons i) n = absurd (Memᴰ.not-nil n)

event_ended : {j : ℕ} {h : History} → ends j ∈ h → j ∈ gather ended_by h
event_ended {j = j} (Memᴰ.head {xs = h} q) = Memᴰ.append_left (gather ended_by h) (subst (λ (x : Event). j ∈ ended_by x) q here)
event_ended (Memᴰ.tail {x = e} m) = Memᴰ.append_right (ended_by e) (event_ended m)

module _ (h : History) where
  -- the job of an end has ended
  ends_ended : {a : Step} → a ∈ all_steps h → a.deed ≡ ending → a.job ∈ ended h
  unfolding all_steps ended
  ends_ended {a} m q = event_ended (subst (λ (x : Event). x ∈ h) (ap (λ (d : Deed). event_by d a.job a.cell) q) (steps_in 0 h m))

  -- and a job that has ended has an end, among the kept steps if it is not abandoned
  ended_touched : {j : ℕ} → j ∈ ended h → (j ∈ abandoned h → ⊥) → Touched (kept_steps h) j ending 0
  unfolding all_steps ended
  ended_touched {j} m na =
      let r = events_in 0 (ended_event h m) in
      record { step = step_at r.0 ending j 0; granted = kept_steps_if h (r.1 (step_at r.0 ending j 0) here) na; its_job = refl; its_deed = refl; its_cell = refl }

-- ---- precedence, said of the events

-- what makes i precede j: a read, write or add of i before one of j on the same cell, the two neither both reads nor both adds; or the end of i before the opening of j
pub data Goes (h : History) (i j : ℕ) : Type 0 where
  by_steps : {k l : Kind} {c : ℕ} → T (kinds_clash k l) → Before (steps k i c) (steps l j c) h → Goes h i j
  by_time : Before (ends i) (opens j) h → Goes h i j

-- for two jobs that are not abandoned
pub record GoesKept (h : History) (i j : ℕ) : Type 0 where
  pub others : i ≡ j → ⊥
  pub first_kept : i ∈ abandoned h → ⊥
  pub second_kept : j ∈ abandoned h → ⊥
  pub goes : Goes h i j

module _ (h : History) {i j : ℕ} where
  pub precedes_goes : Precedes (kept_steps h) i j → GoesKept h i j
  unfolding kept_steps all_steps
  precedes_goes p =
      record {
        others = λ e. p.conflicting.others (p.earlier_job ∙ e ∙ sym p.later_job);
        first_kept = λ n. (kept_steps_from h (before_left p.in_order)).1 (Memᴰ.cast p.earlier_job n);
        second_kept = λ n. (kept_steps_from h (before_right p.in_order)).1 (Memᴰ.cast p.later_job n);
        goes = subst₂ (Goes h) p.earlier_job p.later_job (by a.deed b.deed refl refl (clash_parts a.deed b.deed p.conflicting.clashes));
      }
    where
      a : Step
      a = p.earlier

      b : Step
      b = p.later

      in_history : Before (event_as a) (event_as b) h
      in_history = steps_before 0 h (before_from_only (λ x. not (has (abandoned h) x.job)) (all_steps h) p.in_order)

      by : (d e : Deed) → a.deed ≡ d → b.deed ≡ e → Clashing d e → Goes h a.job b.job
      by d e q r (as_steps {k = k} {l = l} t) =
          by_steps t (subst₂ (λ (x y : Event). Before x y h) (ap (λ (x : Deed). event_by x a.job a.cell) q)
          (ap (λ (x : Deed). event_by x b.job b.cell) r ∙ ap (steps l b.job) (sym p.conflicting.same_cell)) in_history)
      by d e q r in_time =
          by_time (subst₂ (λ (x y : Event). Before x y h) (ap (λ (x : Deed). event_by x a.job a.cell) q) (ap (λ (x : Deed). event_by x b.job b.cell) r) in_history)

  pub goes_precedes : GoesKept h i j → Precedes (kept_steps h) i j
  unfolding kept_steps all_steps
  goes_precedes g = by g.goes
    where
      kept_job : (x : ℕ) → (x ∈ abandoned h → ⊥) → T (not (has (abandoned h) x))
      kept_job x na = (not_test (has_test (abandoned h) x)).shows na

      pair : (d e : Deed) (c : ℕ) → T (clash d e)
          → (p : ℕ) × (q : ℕ) × ((a b : Step) → a ∈ step_at p d i c ∷ [] → b ∈ step_at q e j c ∷ [] → Before a b (all_steps h)) → Precedes (kept_steps h) i j
      pair d e c t r =
          let a = step_at r.0 d i c in
          let b = step_at r.1 e j c in
          record {
            earlier = a;
            later = b;
            in_order = before_only (λ x. not (has (abandoned h) x.job)) (kept_job i g.first_kept) (kept_job j g.second_kept) (r.2 a b here here);
            conflicting = record { others = g.others; same_cell = refl; clashes = t };
            earlier_job = refl;
            later_job = refl;
          }

      by : Goes h i j → Precedes (kept_steps h) i j
      by (by_steps {k = k} {l = l} {c = c} t r) = pair (does k) (does l) c t (events_before 0 r)
      by (by_time r) = pair ending opening 0 tt (events_before 0 r)

-- ---- real time

module _ (h : History) (turns : Turns h) {i j : ℕ} where
  -- whoever ends before another is opened has the lower number
  pub ended_lower : Before (ends i) (opens j) h → i < j
  unfolding all_steps
  ended_lower r =
      let q = events_before 0 r in
      (orderly h turns).opened_last (step_at q.0 ending i 0) (step_at q.1 opening j 0) (q.2 (step_at q.0 ending i 0) (step_at q.1 opening j 0) here here) refl

  -- and precedes it, if the other is kept
  pub ended_precedes : j ∈ kept h → Before (ends i) (opens j) h → Precedes (kept_steps h) i j
  unfolding ended
  ended_precedes m r =
      goes_precedes h (record {
        others = λ e. let q = ended_lower r in omega arith;
        first_kept = (orderly h turns).ended_kept i (event_ended (before_left r));
        second_kept = (kept_from h m).1;
        goes = by_time r;
      })

  -- so it stands before it in every accepted order
  pub time_kept : {o : List ℕ} → Accepted h o → j ∈ kept h → Before (ends i) (opens j) h → Before i j o
  time_kept a m r = keeps_forward a.keeps i j (ended_precedes m r)

-- ---- what a deed meets

module _ (f : Footprint) (c : ℕ) where
  -- a read, write or add meets reads, writes and adds
  pub meets_does : (k : Kind) → meets f (does k) c ≡ some_of (λ l. f (does l) c && kinds_clash l k) kinds
  meets_does k =
      same_test (meets_test (λ d n. own_test (f d n)) (does k) c) (some_test (λ l. and_test (own_test (f (does l) c)) (own_test (kinds_clash l k))) kinds)
      (λ r. by r.deed r.marked r.clashes) (λ r. record { deed = does r.0; marked = r.2.0; clashes = r.2.1 })
    where
      by : (d : Deed) → T (f d c) → T (clash d (does k)) → (l : Kind) × (l ∈ kinds) × (T (f (does l) c) × T (kinds_clash l k))
      by (does l) m t = (l, every_kind l, (m, t))
      by opening m t = absurd t
      by ending m t = absurd t

  -- an opening meets an end
  pub meets_opening : meets f opening c ≡ f ending c
  meets_opening =
      same_test (meets_test (λ d n. own_test (f d n)) opening c) (own_test (f ending c)) (λ r. by r.deed r.marked r.clashes) (λ m. record { deed = ending; marked = m; clashes = tt })
    where
      by : (d : Deed) → T (f d c) → T (clash d opening) → T (f ending c)
      by (does k) m t = absurd t
      by opening m t = absurd t
      by ending m t = m

  -- an end meets nothing
  pub meets_ending : meets f ending c ≡ false
  meets_ending = test_false (meets_test {F = λ d n. T (f d n)} (λ d n. own_test (f d n)) ending c) (λ r. ending_calm r.deed r.clashes)

-- what never holds adds nothing
or_none : (x b : Bool) → x || (b && false) ≡ x
or_none true b = refl
or_none false true = refl
or_none false false = refl

none_or : (b x : Bool) → (b && false) || x ≡ x
none_or true x = refl
none_or false x = refl

-- an opening and an end put down no read, write or add
module _ (m : Memory) (j i : ℕ) where
  pub opening_own : (k : Kind) (c : ℕ) → (step_in m opening j 0).own i (does k) c ≡ m.own i (does k) c
  unfolding step_in same_deed
  opening_own k c = or_none (m.own i (does k) c) (eqb i j)

  pub ending_own : (k : Kind) (c : ℕ) → (step_in m ending j 0).own i (does k) c ≡ m.own i (does k) c
  unfolding step_in same_deed
  ending_own k c = or_none (m.own i (does k) c) (eqb i j)

  -- and an end no lead
  pub ending_leads : (x : ℕ) → (step_in m ending j 0).leads i x ≡ m.leads i x
  unfolding step_in touches
  ending_leads x =
      ap₂ (λ (a b : Bool). m.leads i x || (eqb x j && ((not (eqb i j) && a) || b))) (meets_ending (m.own i) 0) (meets_ending (m.past i) 0)
      ∙ ap (λ (b : Bool). m.leads i x || (eqb x j && b)) (none_or (not (eqb i j)) false)
      ∙ or_none (m.leads i x) (eqb x j)

-- ---- ends in the tables

module _ {h : History} {m : Memory} (o : Orderly h) (t : Tells h m) where
  -- an open job has not ended
  pub own_unended : (i c : ℕ) → m.own i ending c ≡ false
  own_unended i c =
      test_false (t.own i ending c)
      (λ r. (open_from h r.is_open).1 (Memᴰ.cast (sym r.touched.its_job) (ends_ended h (kept_steps_from h r.touched.granted).0 r.touched.its_deed)))

  -- so an opening makes those lead to its job whose past has an end
  pub opening_leads : (j i x : ℕ) → (step_in (open_in m j) opening j 0).leads i x ≡ m.leads i x || (eqb x j && m.past i ending 0)
  unfolding step_in open_in touches
  opening_leads j i x =
      ap₂ (λ (a b : Bool). m.leads i x || (eqb x j && ((not (eqb i j) && a) || b))) (meets_opening (m.own i) 0 ∙ own_unended i 0) (meets_opening (m.past i) 0)
      ∙ ap (λ (b : Bool). m.leads i x || (eqb x j && b)) (none_or (not (eqb i j)) (m.past i ending 0))

  -- the first job of a walk by ended jobs to one of them
  first_of_walk : {i x : ℕ} → Led (kept_steps h) (ended h) i x → x ∈ ended h → (y : ℕ) × (y ∈ ended h) × Precedes (kept_steps h) i y
  first_of_walk (one {q = y} p) g = (y, g, p)
  first_of_walk (step {m = y} p n w) g = (y, n, p)

  -- and a past has an end exactly when it has a read, write or add: an open job leads to ended ones by these alone
  pub past_ended : (i : ℕ) → m.past i ending 0 ≡ some_of (λ k. some_of (λ c. m.past i (does k) c) (below cells)) kinds
  past_ended i =
      same_test (t.past i ending 0) (some_test (λ k. some_test (λ c. t.past i (does k) c) (below cells)) kinds)
      (λ r. let w = first_of_walk r.walk r.is_ended in stepped r.is_open w.1 w.2 w.2.earlier.deed w.2.later.deed refl refl (clash_parts w.2.earlier.deed w.2.later.deed w.2.conflicting.clashes))
      (λ r.
      let p = r.2.2 in
      record { is_open = p.is_open; job = p.job; is_ended = p.is_ended; walk = p.walk; touched = ended_touched h p.is_ended (o.ended_kept p.job p.is_ended) })
    where
      P : Kind → ℕ → Type 0
      P k c = Past (kept_steps h) (ended h) (open_now h) i (does k) c

      stepped : {y : ℕ} → i ∈ open_now h → y ∈ ended h → (p : Precedes (kept_steps h) i y) → (d e : Deed) → p.earlier.deed ≡ d → p.later.deed ≡ e → Clashing d e
          → (k : Kind) × (k ∈ kinds) × ((c : ℕ) × (c ∈ below cells) × P k c)
      stepped {y} n g p d e q r (as_steps {l = l} s) = (
        l,
        every_kind l,
        (
          p.later.cell,
          below_has p.later.cell cells (o.real p.later (kept_steps_from h (before_right p.in_order)).0),
          record {
            is_open = n;
            job = y;
            is_ended = g;
            walk = one p;
            touched = record { step = p.later; granted = before_right p.in_order; its_job = p.later_job; its_deed = r; its_cell = refl };
          },
        ),
      )
      stepped n g p d e q r in_time = absurd ((open_from h n).1 (Memᴰ.cast (sym p.earlier_job) (ends_ended h (kept_steps_from h (before_left p.in_order)).0 q)))
