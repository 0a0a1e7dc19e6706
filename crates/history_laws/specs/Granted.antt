-- What the full history grants. A grant was tested (`granted_proper`); so every history of granted requests is in turn and has no circle
-- (`granted_sound`), every number was issued once, and at most 32 jobs are open.
-- Assumes nothing.
use Rattle.std.specs.Prelude.{◌≡◌, Bool, false, not, cond, leb, eqb}
use Rattle.std.proofs.Math.Path.{refl, ap, subst}
use Rattle.std.proofs.Common.{sym, ◌∙◌, le_trans}
use Rattle.std.proofs.Math.Logic.{⊎_elim}
use Rattle.std.proofs.Math.Bool.{true}
use mathlib.Core.List.Memᴰ
use mathlib.Core.List.{List, [], ◌∷◌, ◌++◌, append-nil, append_assoc}
use Prim.Native.Nat.{ℕ, suc, ◌+◌, ◌≤◌, ◌<◌, zero-le}
use native.Mathlib.Omega.{arith}
use Rattle.std.proofs.Math.Dec.{T}
use Rattle.std.proofs.Math.ListN.{length, length-append}
use Rattle.graph.specs.Decide.{eq_test, le_test, answer, true_is}
use Rattle.graph.specs.Lists.{◌∈◌, only_length, Before, before_nil, before_from_only, strike}
use Rattle.graph.specs.Walk.{Via, one, step, Any, carry}
use Rattle.history.specs.Events.{Kind, write, opening, ending, Event, opens, steps, ends, abandons, History, has, opened_by, opened, kept, open_now, Step, step_at, all_steps, kept_steps, Precedes, Circular}
use Rattle.history.specs.Replies.{cells, most_open, numbers, port_count, Request, Want, an_open, a_step, an_end, an_abandon, a_publish, nothing, want, Facts, first_of, step_tests, tests, code_of, event_of, granted_of, Book, blank_book, full, after, book_after, history_from, history_of}
use Rattle.history.specs.Turns.{InTurn, Turns}
use Rattle.history_laws.specs.EventLaws.{ending_calm, precedes_in}
use Rattle.history_laws.specs.CircleLaws.{has_circle_test}
use Rattle.history_laws.specs.TurnLaws.{opened_grows, stays, which_in, has_test, open_not_abandoned, kept_steps_from, open_opens, open_steps, open_ends, open_abandons, kept_opens, kept_ends, kept_abandons, orderly, turns_next}
use Rattle.history_laws.specs.MemoryLaws.{calm_last, first_last}

-- a bound that was tested and not reached
pub below_bound : (n c : ℕ) → (T (leb n c) → ⊥) → c < n
below_bound n c h = ⊎_elim (λ le. absurd (h ((le_test n c).shows le))) (λ no. let q : (n ≤ c) → ⊥ = no in omega arith) (answer (le_test n c))

-- ---- what a grant has been tested for

abbrev pub Proper : Facts → Event → Type 0
Proper f (opens n) = (n ≡ f.next) × (f.next < numbers) × (f.count < most_open)
Proper f (steps k j c) = T (f.is_open j) × (c < cells) × (T (f.closes k j c) → ⊥)
Proper f (ends j) = T (f.is_open j)
Proper f (abandons j) = T (f.is_open j) × (T (f.has_written j) → ⊥)

-- a code that is 0 was tested and did not hold, and no later one did
pub passed : (b : Bool) (n x : ℕ) → cond b (suc n) x ≡ 0 → (T b → ⊥) × (x ≡ 0)
passed true n x e = absurd (let z : suc n ≡ 0 = e in omega arith)
passed false n x e = (λ t. t, e)

pub undenied : (b : Bool) → (T (not b) → ⊥) → T b
undenied true h = tt
undenied false h = h tt

-- of several events: each was tested, for what the history says after those before it
abbrev pub ProperAfter : Book → History → List Event → Type 0
ProperAfter b h [] = Unit {0}
ProperAfter b h (e ∷ es) = Proper (full b h) e × ProperAfter b (h ++ e ∷ []) es

pub proper_step : (f : Facts) (k : Kind) (j c : ℕ) → first_of (step_tests f k j c) ≡ 0 → Proper f (steps k j c)
proper_step f k j c z =
    let p = passed (leb cells c) 1 _ z in
    let q = passed (not (f.is_open j)) 2 _ p.1 in
    (undenied (f.is_open j) q.0, below_bound cells c p.0, (passed (f.closes k j c) 6 0 q.1).0)

module _ (b : Book) (h : History) where
  pub is_open_now : (j : ℕ) → T ((full b h).is_open j) → j ∈ open_now h
  unfolding full
  is_open_now j = (has_test (open_now h) j).holds

  -- a job that is open is open after its step too
  pub still_open : (k : Kind) (j c : ℕ) → T ((full b h).is_open j) → T ((full b (h ++ steps k j c ∷ [])).is_open j)
  unfolding full
  still_open k j c t = subst (λ (l : List ℕ). T (has l j)) (sym (open_steps h j k c)) t

  proper_of : (w : Want) (j c : ℕ) → first_of (tests (full b h) w j c) ≡ 0 → ProperAfter b h (event_of (full b h).next w j c)
  unfolding tests event_of
  proper_of an_open j c z =
      let f = full b h in
      let p = passed (leb numbers f.next) 5 _ z in
      let q = passed (leb port_count j) 7 _ p.1 in
      ((refl, below_bound numbers f.next p.0, below_bound most_open f.count (passed (leb most_open f.count) 4 _ q.1).0), tt)
  proper_of (a_step k) j c z = (proper_step (full b h) k j c z, tt)
  proper_of an_end j c z = let f = full b h in (undenied (f.is_open j) (passed (not (f.is_open j)) 2 0 z).0, tt)
  proper_of an_abandon j c z =
      let f = full b h in
      let q = passed (not (f.is_open j)) 2 _ z in
      ((undenied (f.is_open j) q.0, (passed (f.has_written j) 3 0 q.1).0), tt)
  proper_of a_publish j c z = let p = proper_step (full b h) write j c z in (p, (still_open write j c p.0, tt))
  proper_of nothing j c z = absurd ((passed true 0 0 z).0 tt)

  -- a request grants no event, one or two, each of them tested
  pub granted_proper : (r : Request) → ProperAfter b h (granted_of (full b h) r)
  unfolding granted_of code_of
  granted_proper r = go (eqb (code_of (full b h) r) 0) refl
    where
      event : List Event
      event = event_of (full b h).next (want r.kind) r.job r.cell

      go : (t : Bool) → eqb (code_of (full b h) r) 0 ≡ t → ProperAfter b h (cond t event [])
      go true q =
          let z : code_of (full b h) r ≡ 0 = (eq_test (code_of (full b h) r) 0).holds (true_is q) in
          proper_of (want r.kind) r.job r.cell (passed (not (eqb r.byte1 0)) 0 _ z).1
      go false q = tt

-- what the full history grants is in turn, and leaves no circle
abbrev pub Issued : ℕ → History → Type 0
Issued first h = (j : ℕ) → j ∈ opened h → j < first + length (opened h)

module _ (b : Book) (h : History) (issued : Issued b.first h) where
  pub proper_in_turn : (e : Event) → Proper (full b h) e → InTurn h e
  unfolding full
  proper_in_turn (opens n) p = λ i m. let q = issued i m in let r = p.0 in omega arith
  proper_in_turn (steps k j c) p = ((has_test (open_now h) j).holds p.0, p.1)
  proper_in_turn (ends j) p = (has_test (open_now h) j).holds p
  proper_in_turn (abandons j) p = ((has_test (open_now h) j).holds p.0, p.1)

  pub issued_next : (e : Event) → Proper (full b h) e → Issued b.first (h ++ e ∷ [])
  unfolding full
  issued_next (opens n) p j m =
      let more : length (opened (h ++ opens n ∷ [])) ≡ length (opened h) + 1 = ap length (opened_grows h (opens n)).joined ∙ length-append (opened h) (n ∷ []) in
      ⊎_elim (λ old. let q = issued j old in omega arith) (λ fresh. let q : j ≡ n = Memᴰ.eq_of_singleton fresh in let r = p.0 in omega arith) (which_in (opened_grows h (opens n)) m)
  issued_next (steps k i c) p j m = subst (λ (l : List ℕ). j ∈ l → j < b.first + length l) (sym (stays (opened_grows h (steps k i c)))) (issued j) m
  issued_next (ends i) p j m = subst (λ (l : List ℕ). j ∈ l → j < b.first + length l) (sym (stays (opened_grows h (ends i)))) (issued j) m
  issued_next (abandons i) p j m = subst (λ (l : List ℕ). j ∈ l → j < b.first + length l) (sym (stays (opened_grows h (abandons i)))) (issued j) m

-- a number that is issued is one of the job numbers
pub range_next : (b : Book) (h : History) → ((j : ℕ) → j ∈ opened h → j < numbers) → (e : Event) → Proper (full b h) e → (j : ℕ) → j ∈ opened (h ++ e ∷ []) → j < numbers
range_next b h small e p j m = ⊎_elim (small j) (fresh e p) (which_in (opened_grows h e) m)
  where
    fresh : (e : Event) → Proper (full b h) e → j ∈ opened_by e → j < numbers
    fresh (opens n) p m = let q : j ≡ n = Memᴰ.eq_of_singleton m in let r = p.0 in let b = p.1 in omega arith
    fresh (steps k i c) p m = absurd (Memᴰ.not-nil m)
    fresh (ends i) p m = absurd (Memᴰ.not-nil m)
    fresh (abandons i) p m = absurd (Memᴰ.not-nil m)

strike_length : (j : ℕ) (l : List ℕ) → length (strike j l) ≤ length l
unfolding strike
strike_length j l = only_length (λ i. not (eqb i j)) l

-- an open adds one job where fewer than 32 are open; no other event adds any
pub few_next : (b : Book) (h : History) → Turns h → Issued b.first h → length (open_now h) ≤ most_open → (e : Event) → Proper (full b h) e → length (open_now (h ++ e ∷ [])) ≤ most_open
unfolding full
few_next b h t issued few (opens n) p =
    let o = orderly h t in
    let fresh : n ∈ opened h → ⊥ = λ m. let q = issued n m in let r = p.0 in omega arith in
    let more : length (open_now (h ++ opens n ∷ [])) ≡ length (open_now h) + 1 = ap length (open_opens h n (λ m. fresh (o.abandoned_opened n m)) (λ m. fresh (o.ended_opened n m))) ∙ length-append (open_now h) (n ∷ []) in
    let room = p.2 in
    omega arith
few_next b h t issued few (steps k j c) p = subst (λ (l : List ℕ). length l ≤ most_open) (sym (open_steps h j k c)) few
few_next b h t issued few (ends j) p = subst (λ (l : List ℕ). length l ≤ most_open) (sym (open_ends h j)) (le_trans (strike_length j (open_now h)) few)
few_next b h t issued few (abandons j) p = subst (λ (l : List ℕ). length l ≤ most_open) (sym (open_abandons h j)) (le_trans (strike_length j (open_now h)) few)

-- a step was tested; an opening comes before all that its job does, and no step conflicts with an end after it; an abandon only takes steps out
no_circle_next : (b : Book) (h : History) → Turns h → Issued b.first h → (Circular (kept_steps h) → ⊥) → (e : Event) → Proper (full b h) e → Circular (kept_steps (h ++ e ∷ [])) → ⊥
unfolding full
no_circle_next b h t issued none (opens n) p z =
    let o = orderly h t in
    let fresh : n ∈ opened h → ⊥ = λ m. let q = issued n m in let r = p.0 in omega arith in
    none (first_last (kept_steps h) (step_at (length h) opening n 0) (λ x m e. fresh (Memᴰ.cast (sym e) (o.stepped x (kept_steps_from h m).0)))
    (subst Circular (kept_opens h n (λ m. fresh (o.abandoned_opened n m))) z))
no_circle_next b h t issued none (steps k j c) p z = p.2 ((has_circle_test (kept_steps (h ++ steps k j c ∷ []))).shows z)
no_circle_next b h t issued none (ends j) p z =
    none (calm_last (kept_steps h) (step_at (length h) ending j 0) (λ x m c. ending_calm x.deed c.clashes)
    (subst Circular (kept_ends h j (open_not_abandoned h ((has_test (open_now h) j).holds p))) z))
no_circle_next b h t issued none (abandons j) p z =
    let w = subst Circular (kept_abandons h j) z in
    none (w.0, carry (λ i x r. precedes_in r (before_from_only (λ a. not (eqb a.job j)) (kept_steps h) r.in_order)) (λ x n. n) w.1)

-- a history in turn whose numbers were issued one after the other, with at most 32 jobs open and no circle
pub record Sound (first : ℕ) (h : History) : Type 0 where
  pub turns : Turns h
  pub issued : Issued first h
  pub in_range : (j : ℕ) → j ∈ opened h → j < numbers
  pub few : length (open_now h) ≤ most_open
  pub no_circle : Circular (kept_steps h) → ⊥

pub sound_start : (first : ℕ) → Sound first []
unfolding opened
sound_start first = record { turns = tt; issued = λ j m. absurd (Memᴰ.not-nil m); in_range = λ j m. absurd (Memᴰ.not-nil m); few = none_open; no_circle = λ z. nothing_precedes z.1 }
  where
    none_open : length (open_now []) ≤ most_open
    none_open = unfold open_now kept opened in zero-le

    empty : kept_steps [] ≡ []
    empty = unfold kept_steps all_steps in refl

    idle : {i j : ℕ} → Precedes (kept_steps []) i j → ⊥
    idle p = before_nil (subst (λ (l : List Step). Before p.earlier p.later l) empty p.in_order)

    nothing_precedes : {i j : ℕ} → Via (Precedes (kept_steps [])) Any i j → ⊥
    nothing_precedes (one p) = idle p
    nothing_precedes (step p n w) = idle p

pub sound_next : (b : Book) {h : History} (e : Event) → Sound b.first h → Proper (full b h) e → Sound b.first (h ++ e ∷ [])
sound_next b {h} e s p =
    record {
      turns = turns_next [] h e s.turns (proper_in_turn b h s.issued e p);
      issued = issued_next b h s.issued e p;
      in_range = range_next b h s.in_range e p;
      few = few_next b h s.turns s.issued s.few e p;
      no_circle = no_circle_next b h s.turns s.issued s.no_circle e p;
    }

sound_all : (b : Book) {h : History} (es : List Event) → Sound b.first h → ProperAfter b h es → Sound b.first (h ++ es)
sound_all b {h} [] s p = subst (Sound b.first) (sym (append-nil h)) s
sound_all b {h} (e ∷ es) s p = subst (Sound b.first) (append_assoc h (e ∷ []) es) (sound_all b es (sound_next b e s p.0) p.1)

pub sound_after : (b : Book) {h : History} (r : Request) → Sound b.first h → Sound b.first (after b h r)
unfolding after
sound_after b {h} r s = sound_all b (granted_of (full b h) r) s (granted_proper b h r)

sound_from : (b : Book) {h : History} (rs : List Request) → Sound b.first h → Sound b.first (history_from b h rs)
sound_from b [] s = s
sound_from b {h} (r ∷ rs) s = sound_from (book_after b h r) rs (sound_after b r s)

-- every history of granted requests is in turn and has no circle
pub granted_sound : (first : ℕ) (rs : List Request) → Sound first (history_of first rs)
granted_sound first rs = sound_from (blank_book first) rs (sound_start first)
