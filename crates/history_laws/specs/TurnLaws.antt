-- What follows for a history whose events are in turn: one event more, list by list; the facts that stay true (`Orderly`); and the open
-- jobs after each kind of event.
-- Assumes nothing.
use Rattle.std.specs.Prelude.{◌≡◌, refl, ◌⊎◌, ◌&&◌, T, eqb, length}
use Rattle.std.proofs.Common.{sym, ◌∙◌, subst, inl, inr, ⊎_elim, arith, add-zero, zero-add, suc-add, add-suc, length-append}
use Rattle.std.proofs.Math.Path.{ap, ap₂}
use Rattle.std.proofs.Math.Bool.{Bool, not, and_comm}
use mathlib.Core.List.Memᴰ
use mathlib.Core.List.{List, [], ◌∷◌, ◌++◌, append-nil, append_assoc}
use Prim.Native.Nat.{ℕ, zero, suc, ◌+◌, ◌<◌}
use Rattle.graph.specs.Decide.{Decides, and_test, not_test, eq_test, own_test, same_test, some_test, test_true}
use Rattle.graph.specs.Lists.{◌∈◌, here, only, only_yes, only_append, only_keeps, only_from, only_same, only_only, Before, before_nil, before_cons, before_append, strike, mem_test}
use Rattle.history.specs.Events.{Kind, does, opening, ending, alters_by, Event, opens, steps, ends, abandons, History, gather, opened_by, ended_by, abandoned_by, has, opened, ended, abandoned, kept, open_now, Step, step_at, step_by, steps_from, all_steps, kept_steps, wrote}
use Rattle.history.specs.Replies.{cells}
use Rattle.history.specs.Turns.{InTurn, InTurnAfter, Turns}

-- ---- one event more

pub gather_append : {X : Type 0} (f : Event → List X) (h k : History) → gather f (h ++ k) ≡ gather f h ++ gather f k
gather_append f [] k = refl
gather_append f (e ∷ h) k = ap (λ (l : List _). f e ++ l) (gather_append f h k) ∙ sym (append_assoc (f e) (gather f h) (gather f k))

gather_snoc : {X : Type 0} (f : Event → List X) (h : History) (e : Event) → gather f (h ++ e ∷ []) ≡ gather f h ++ f e
gather_snoc f h e = gather_append f h (e ∷ []) ∙ ap (λ (l : List _). gather f h ++ l) (append-nil (f e))

steps_snoc : (n : ℕ) (h : History) (e : Event) → steps_from n (h ++ e ∷ []) ≡ steps_from n h ++ step_by (n + length h) e
steps_snoc n [] e = append-nil (step_by n e) ∙ ap (λ (k : ℕ). step_by k e) (sym (add-zero n))
steps_snoc n (x ∷ h) e =
    ap (λ (l : List Step). step_by n x ++ l) (steps_snoc (suc n) h e ∙ ap (λ (k : ℕ). steps_from (suc n) h ++ step_by k e) (suc-add n (length h) ∙ sym (add-suc n (length h))))
    ∙ sym (append_assoc (step_by n x) (steps_from (suc n) h) (step_by (n + suc (length h)) e))

-- n is l with k at its end
pub record Grows {X : Type 0} (l k n : List X) : Type 0 where
  pub joined : n ≡ l ++ k

module _ (h : History) (e : Event) where
  pub opened_grows : Grows (opened h) (opened_by e) (opened (h ++ e ∷ []))
  unfolding opened
  opened_grows = record { joined = gather_snoc opened_by h e }

  pub ended_grows : Grows (ended h) (ended_by e) (ended (h ++ e ∷ []))
  unfolding ended
  ended_grows = record { joined = gather_snoc ended_by h e }

  pub abandoned_grows : Grows (abandoned h) (abandoned_by e) (abandoned (h ++ e ∷ []))
  unfolding abandoned
  abandoned_grows = record { joined = gather_snoc abandoned_by h e }

  pub all_steps_grows : Grows (all_steps h) (step_by (length h) e) (all_steps (h ++ e ∷ []))
  unfolding all_steps
  all_steps_grows = record { joined = steps_snoc zero h e ∙ ap (λ (k : ℕ). steps_from zero h ++ step_by k e) (zero-add (length h)) }

module _ {X : Type 0} {l k n : List X} (g : Grows l k n) where
  pub old_in : {x : X} → x ∈ l → x ∈ n
  old_in {x} m = subst (λ (r : List X). x ∈ r) (sym g.joined) (Memᴰ.append_left k m)

  pub new_in : {x : X} → x ∈ k → x ∈ n
  new_in {x} m = subst (λ (r : List X). x ∈ r) (sym g.joined) (Memᴰ.append_right l m)

  pub which_in : {x : X} → x ∈ n → (x ∈ l) ⊎ (x ∈ k)
  which_in {x} m = Memᴰ.append_cases l (subst (λ (r : List X). x ∈ r) g.joined m)

  pub which_before : {a b : X} → Before a b n → Before a b l ⊎ (((a ∈ l) × (b ∈ k)) ⊎ Before a b k)
  which_before {a} {b} r = before_append l (subst (λ (q : List X). Before a b q) g.joined r)

-- a list that gains nothing stays
pub stays : {X : Type 0} {l n : List X} → Grows l [] n → n ≡ l
stays {l = l} g = g.joined ∙ append-nil l

-- ---- open jobs

pub has_test : (l : List ℕ) (j : ℕ) → Decides (has l j) (j ∈ l)
has_test l j = mem_test j l

pub kept_from : (h : History) {j : ℕ} → j ∈ kept h → (j ∈ opened h) × (j ∈ abandoned h → ⊥)
unfolding kept
kept_from h {j} m = let r = only_from (λ i. not (has (abandoned h) i)) (opened h) m in (r.0, (not_test (has_test (abandoned h) j)).holds r.1)

pub kept_if : (h : History) {j : ℕ} → j ∈ opened h → (j ∈ abandoned h → ⊥) → j ∈ kept h
unfolding kept
kept_if h {j} m na = only_keeps (λ i. not (has (abandoned h) i)) m ((not_test (has_test (abandoned h) j)).shows na)

pub open_from : (h : History) {j : ℕ} → j ∈ open_now h → (j ∈ kept h) × (j ∈ ended h → ⊥)
unfolding open_now
open_from h {j} m = let r = only_from (λ i. not (has (ended h) i)) (kept h) m in (r.0, (not_test (has_test (ended h) j)).holds r.1)

pub open_if : (h : History) {j : ℕ} → j ∈ kept h → (j ∈ ended h → ⊥) → j ∈ open_now h
unfolding open_now
open_if h {j} m ne = only_keeps (λ i. not (has (ended h) i)) m ((not_test (has_test (ended h) j)).shows ne)

pub open_opened : (h : History) {j : ℕ} → j ∈ open_now h → j ∈ opened h
open_opened h m = (kept_from h (open_from h m).0).0

pub open_not_abandoned : (h : History) {j : ℕ} → j ∈ open_now h → j ∈ abandoned h → ⊥
open_not_abandoned h m = (kept_from h (open_from h m).0).1

-- a job that is open after an event was open before it, or is opened by it
pub open_next : (h : History) (e : Event) {j : ℕ} → j ∈ open_now (h ++ e ∷ []) → (j ∈ open_now h) ⊎ (j ∈ opened_by e)
open_next h e m =
    let o = open_from (h ++ e ∷ []) m in
    let k = kept_from (h ++ e ∷ []) o.0 in
    ⊎_elim (λ n. inl (open_if h (kept_if h n (λ x. k.1 (old_in (abandoned_grows h e) x))) (λ x. o.1 (old_in (ended_grows h e) x)))) inr (which_in (opened_grows h e) k.0)

pub kept_steps_from : (h : History) {a : Step} → a ∈ kept_steps h → (a ∈ all_steps h) × (a.job ∈ abandoned h → ⊥)
unfolding kept_steps
kept_steps_from h {a} m =
    let r = only_from (λ x. not (has (abandoned h) x.job)) (all_steps h) m in
    (r.0, (not_test (has_test (abandoned h) a.job)).holds r.1)

pub kept_steps_if : (h : History) {a : Step} → a ∈ all_steps h → (a.job ∈ abandoned h → ⊥) → a ∈ kept_steps h
unfolding kept_steps
kept_steps_if h {a} m na = only_keeps (λ x. not (has (abandoned h) x.job)) m ((not_test (has_test (abandoned h) a.job)).shows na)

-- the open jobs from the lists of opened, abandoned and ended ones
open_of : List ℕ → List ℕ → List ℕ → List ℕ
open_of o a e = only (λ j. not (has e j)) (only (λ j. not (has a j)) o)

open_is : (h : History) → open_now h ≡ open_of (opened h) (abandoned h) (ended h)
unfolding open_now kept open_of
open_is h = refl

-- one number more to be left out
leave_out : (l : List ℕ) (j i : ℕ) → not (has (l ++ j ∷ []) i) ≡ not (has l i) && not (eqb i j)
leave_out l j i =
    same_test (not_test (has_test (l ++ j ∷ []) i)) (and_test (not_test (has_test l i)) (not_test (eq_test i j)))
    (λ f. (λ m. f (Memᴰ.append_left (j ∷ []) m), λ e. f (Memᴰ.append_right l (Memᴰ.head e))))
    (λ f m. ⊎_elim f.0 (λ n. f.1 (Memᴰ.eq_of_singleton n)) (Memᴰ.append_cases l m))

-- leaving out a further number strikes it
only_leave_out : {X : Type 0} (f : X → ℕ) (a : List ℕ) (j : ℕ) (l : List X) → only (λ x. not (has (a ++ j ∷ []) (f x))) l ≡ only (λ x. not (eqb (f x) j)) (only (λ x. not (has a (f x))) l)
only_leave_out f a j l = only_same _ _ l (λ x m. leave_out a j (f x)) ∙ sym (only_only (λ x. not (eqb (f x) j)) (λ x. not (has a (f x))) l)

pub only_swap : {X : Type 0} (p q : X → Bool) (l : List X) → only p (only q l) ≡ only q (only p l)
only_swap p q l = only_only p q l ∙ only_same _ _ l (λ x m. and_comm (q x) (p x)) ∙ sym (only_only q p l)

-- the kept steps from all of them and the abandoned jobs
keep_of : List ℕ → List Step → List Step
keep_of a l = only (λ x. not (has a x.job)) l

module _ (h : History) (e : Event) where
  open_when : {o a n : List ℕ} → opened (h ++ e ∷ []) ≡ o → abandoned (h ++ e ∷ []) ≡ a → ended (h ++ e ∷ []) ≡ n → open_now (h ++ e ∷ []) ≡ open_of o a n
  open_when {o} p q r = open_is (h ++ e ∷ []) ∙ ap (λ (l : List ℕ). open_of l (abandoned (h ++ e ∷ [])) (ended (h ++ e ∷ []))) p ∙ ap₂ (open_of o) q r

  kept_when : {a : List ℕ} {l : List Step} → abandoned (h ++ e ∷ []) ≡ a → all_steps (h ++ e ∷ []) ≡ l → kept_steps (h ++ e ∷ []) ≡ keep_of a l
  unfolding kept_steps keep_of
  kept_when q r = ap₂ keep_of q r

module _ (h : History) (j : ℕ) where
  pub open_opens : (j ∈ abandoned h → ⊥) → (j ∈ ended h → ⊥) → open_now (h ++ opens j ∷ []) ≡ open_now h ++ j ∷ []
  unfolding open_of
  open_opens na ne =
      let a : ℕ → Bool = λ i. not (has (abandoned h) i) in
      let n : ℕ → Bool = λ i. not (has (ended h) i) in
      open_when h (opens j) (opened_grows h (opens j)).joined (stays (abandoned_grows h (opens j))) (stays (ended_grows h (opens j)))
      ∙ ap (only n) (only_append a (opened h) (j ∷ []) ∙ ap (λ (l : List ℕ). only a (opened h) ++ l) (only_yes a j [] (test_true (not_test (has_test (abandoned h) j)) na)))
      ∙ only_append n (only a (opened h)) (j ∷ [])
      ∙ ap₂ (λ (l k : List ℕ). l ++ k) (sym (open_is h)) (only_yes n j [] (test_true (not_test (has_test (ended h) j)) ne))

  pub open_steps : (k : Kind) (c : ℕ) → open_now (h ++ steps k j c ∷ []) ≡ open_now h
  open_steps k c =
      let e = steps k j c in
      open_when h e (stays (opened_grows h e)) (stays (abandoned_grows h e)) (stays (ended_grows h e)) ∙ sym (open_is h)

  pub open_ends : open_now (h ++ ends j ∷ []) ≡ strike j (open_now h)
  unfolding open_of strike
  open_ends =
      open_when h (ends j) (stays (opened_grows h (ends j))) (stays (abandoned_grows h (ends j))) (ended_grows h (ends j)).joined
      ∙ only_leave_out (λ i. i) (ended h) j (only (λ i. not (has (abandoned h) i)) (opened h))
      ∙ ap (strike j) (sym (open_is h))

  pub open_abandons : open_now (h ++ abandons j ∷ []) ≡ strike j (open_now h)
  unfolding open_of strike
  open_abandons =
      open_when h (abandons j) (stays (opened_grows h (abandons j))) (abandoned_grows h (abandons j)).joined (stays (ended_grows h (abandons j)))
      ∙ ap (only (λ i. not (has (ended h) i))) (only_leave_out (λ i. i) (abandoned h) j (opened h))
      ∙ only_swap (λ i. not (has (ended h) i)) (λ i. not (eqb i j)) (only (λ i. not (has (abandoned h) i)) (opened h))
      ∙ ap (strike j) (sym (open_is h))

  -- ---- kept steps

  -- what a job that is not abandoned does is kept, at its place
  kept_more : (e : Event) (a : Step) → abandoned (h ++ e ∷ []) ≡ abandoned h → all_steps (h ++ e ∷ []) ≡ all_steps h ++ a ∷ [] → (a.job ∈ abandoned h → ⊥)
      → kept_steps (h ++ e ∷ []) ≡ kept_steps h ++ a ∷ []
  unfolding kept_steps keep_of
  kept_more e a q r na =
      let p : Step → Bool = λ x. not (has (abandoned h) x.job) in
      kept_when h e q r
      ∙ only_append p (all_steps h) (a ∷ [])
      ∙ ap (λ (l : List Step). only p (all_steps h) ++ l) (only_yes p a [] (test_true (not_test (has_test (abandoned h) a.job)) na))

  pub kept_opens : (j ∈ abandoned h → ⊥) → kept_steps (h ++ opens j ∷ []) ≡ kept_steps h ++ step_at (length h) opening j 0 ∷ []
  kept_opens = kept_more (opens j) (step_at (length h) opening j 0) (stays (abandoned_grows h (opens j))) (all_steps_grows h (opens j)).joined

  pub kept_step : (k : Kind) (c : ℕ) → (j ∈ abandoned h → ⊥) → kept_steps (h ++ steps k j c ∷ []) ≡ kept_steps h ++ step_at (length h) (does k) j c ∷ []
  kept_step k c = kept_more (steps k j c) (step_at (length h) (does k) j c) (stays (abandoned_grows h (steps k j c))) (all_steps_grows h (steps k j c)).joined

  pub kept_ends : (j ∈ abandoned h → ⊥) → kept_steps (h ++ ends j ∷ []) ≡ kept_steps h ++ step_at (length h) ending j 0 ∷ []
  kept_ends = kept_more (ends j) (step_at (length h) ending j 0) (stays (abandoned_grows h (ends j))) (all_steps_grows h (ends j)).joined

  -- an abandon takes the job's steps out
  pub kept_abandons : kept_steps (h ++ abandons j ∷ []) ≡ only (λ x. not (eqb x.job j)) (kept_steps h)
  unfolding kept_steps keep_of
  kept_abandons =
      kept_when h (abandons j) (abandoned_grows h (abandons j)).joined (stays (all_steps_grows h (abandons j)))
      ∙ only_leave_out (λ (x : Step). x.job) (abandoned h) j (all_steps h)

-- ---- what stays true

pub record Orderly (h : History) : Type 0 where
  pub stepped : (a : Step) → a ∈ all_steps h → a.job ∈ opened h
  pub real : (a : Step) → a ∈ all_steps h → a.cell < cells
  pub ended_opened : (j : ℕ) → j ∈ ended h → j ∈ opened h
  pub abandoned_opened : (j : ℕ) → j ∈ abandoned h → j ∈ opened h
  pub ended_kept : (j : ℕ) → j ∈ ended h → j ∈ abandoned h → ⊥
  pub rising : (i j : ℕ) → Before i j (opened h) → i < j
  pub places : (a : Step) → a ∈ all_steps h → a.at < length h
  pub in_places : (a b : Step) → Before a b (all_steps h) → a.at < b.at
  pub only_read : (a : Step) → a ∈ all_steps h → a.job ∈ abandoned h → T (alters_by a.deed) → ⊥
  pub opened_last : (a b : Step) → Before a b (all_steps h) → b.deed ≡ opening → a.job < b.job

-- what the new event brings
record Brought (h : History) (jobs : List ℕ) (a : Step) : Type 0 where
  its_opened : a.job ∈ jobs
  its_real : a.cell < cells
  its_place : a.at ≡ length h
  its_kept : a.job ∈ abandoned h → ⊥

step_new : {h : History} (e : Event) {a : Step} → Orderly h → InTurn h e → a ∈ step_by (length h) e → Brought h (opened (h ++ e ∷ [])) a
step_new {h} (opens j) o t m =
    subst (Brought h (opened (h ++ opens j ∷ []))) (sym (Memᴰ.eq_of_singleton m))
    (record { its_opened = new_in (opened_grows h (opens j)) here; its_real = omega arith; its_place = refl; its_kept = λ n. let q = t j (o.abandoned_opened j n) in omega arith })
step_new {h} (steps k j c) o t m =
    subst (Brought h (opened (h ++ steps k j c ∷ []))) (sym (Memᴰ.eq_of_singleton m))
    (record { its_opened = old_in (opened_grows h (steps k j c)) (open_opened h t.0); its_real = t.1; its_place = refl; its_kept = open_not_abandoned h t.0 })
step_new {h} (ends j) o t m =
    subst (Brought h (opened (h ++ ends j ∷ []))) (sym (Memᴰ.eq_of_singleton m))
    (record { its_opened = old_in (opened_grows h (ends j)) (open_opened h t); its_real = omega arith; its_place = refl; its_kept = open_not_abandoned h t })
step_new (abandons j) o t m = absurd (Memᴰ.not-nil m)

-- an opening is of a job above all that were opened before
opening_new : (h : History) (e : Event) {b : Step} {i : ℕ} → InTurn h e → i ∈ opened h → b ∈ step_by (length h) e → b.deed ≡ opening → i < b.job
opening_new h (opens j) {i = i} t m n d = subst (λ (x : Step). i < x.job) (sym (Memᴰ.eq_of_singleton n)) (t i m)
opening_new h (steps k j c) {b} t m n d = absurd (let q : b ≡ step_at (length h) (does k) j c = Memᴰ.eq_of_singleton n in other k (sym (ap (λ (x : Step). x.deed) q) ∙ d))
  where
    other : (k : Kind) → does k ≡ opening → ⊥
    other k e = let z : ◌≡◌ {A = ℕ} 0 1 = cc in omega arith
opening_new h (ends j) {b} t m n d = absurd (let q : b ≡ step_at (length h) ending j 0 = Memᴰ.eq_of_singleton n in other (sym (ap (λ (x : Step). x.deed) q) ∙ d))
  where
    other : ending ≡ opening → ⊥
    other e = let z : ◌≡◌ {A = ℕ} 0 1 = cc in omega arith
opening_new h (abandons j) t m n d = absurd (Memᴰ.not-nil n)

ended_new : (h : History) (e : Event) {i : ℕ} → InTurn h e → i ∈ ended_by e → i ∈ open_now h
ended_new h (opens j) t m = absurd (Memᴰ.not-nil m)
ended_new h (steps k j c) t m = absurd (Memᴰ.not-nil m)
ended_new h (ends j) t m = Memᴰ.cast (Memᴰ.eq_of_singleton m) t
ended_new h (abandons j) t m = absurd (Memᴰ.not-nil m)

abandoned_new : (h : History) (e : Event) {i : ℕ} → InTurn h e → i ∈ abandoned_by e → (i ∈ open_now h) × (T (wrote h i) → ⊥)
abandoned_new h (opens j) t m = absurd (Memᴰ.not-nil m)
abandoned_new h (steps k j c) t m = absurd (Memᴰ.not-nil m)
abandoned_new h (ends j) t m = absurd (Memᴰ.not-nil m)
abandoned_new h (abandons j) t m =
    let q = Memᴰ.eq_of_singleton m in
    (Memᴰ.cast q t.0, subst (λ (x : ℕ). T (wrote h x) → ⊥) (sym q) t.1)

opened_new : (h : History) (e : Event) {i j : ℕ} → InTurn h e → i ∈ opened h → j ∈ opened_by e → i < j
opened_new h (opens n) {i} t m o = subst (λ (x : ℕ). i < x) (sym (Memᴰ.eq_of_singleton o)) (t i m)
opened_new h (steps k n c) t m o = absurd (Memᴰ.not-nil o)
opened_new h (ends n) t m o = absurd (Memᴰ.not-nil o)
opened_new h (abandons n) t m o = absurd (Memᴰ.not-nil o)

-- an event brings one job or step at the most, and with an abandon neither a step nor an end
single : {X : Type 0} {a b x : X} → Before a b (x ∷ []) → ⊥
single r = ⊎_elim (λ q. Memᴰ.not-nil q.1) before_nil (before_cons r)

opened_single : (e : Event) {i j : ℕ} → Before i j (opened_by e) → ⊥
opened_single (opens n) r = single r
opened_single (steps k n c) r = before_nil r
opened_single (ends n) r = before_nil r
opened_single (abandons n) r = before_nil r

pub step_single : (n : ℕ) (e : Event) {a b : Step} → Before a b (step_by n e) → ⊥
step_single n (opens j) r = single r
step_single n (steps k j c) r = single r
step_single n (ends j) r = single r
step_single n (abandons j) r = before_nil r

not_both : (n : ℕ) (e : Event) {a : Step} {i : ℕ} → a ∈ step_by n e → i ∈ abandoned_by e → ⊥
not_both n (opens j) m o = Memᴰ.not-nil o
not_both n (steps k j c) m o = Memᴰ.not-nil o
not_both n (ends j) m o = Memᴰ.not-nil o
not_both n (abandons j) m o = Memᴰ.not-nil m

not_both_ways : (e : Event) {i j : ℕ} → i ∈ ended_by e → j ∈ abandoned_by e → ⊥
not_both_ways (opens n) m o = Memᴰ.not-nil m
not_both_ways (steps k n c) m o = Memᴰ.not-nil m
not_both_ways (ends n) m o = Memᴰ.not-nil o
not_both_ways (abandons n) m o = Memᴰ.not-nil m

-- a step that alters its cell is a write or add of its job
pub wrote_if : (h : History) (a : Step) → a ∈ all_steps h → T (alters_by a.deed) → T (wrote h a.job)
unfolding wrote
wrote_if h a m t = (some_test (λ (x : Step). and_test (eq_test x.job a.job) (own_test (alters_by x.deed))) (all_steps h)).shows (a, m, (refl, t))

pub orderly_start : Orderly []
unfolding opened ended abandoned all_steps
orderly_start =
    record {
      stepped = λ a m. absurd (Memᴰ.not-nil m);
      real = λ a m. absurd (Memᴰ.not-nil m);
      ended_opened = λ j m. absurd (Memᴰ.not-nil m);
      abandoned_opened = λ j m. absurd (Memᴰ.not-nil m);
      ended_kept = λ j m n. Memᴰ.not-nil m;
      rising = λ i j r. absurd (before_nil r);
      places = λ a m. absurd (Memᴰ.not-nil m);
      in_places = λ a b r. absurd (before_nil r);
      only_read = λ a m o t. Memᴰ.not-nil m;
      opened_last = λ a b r d. absurd (before_nil r);
    }

pub orderly_next : {h : History} (e : Event) → Orderly h → InTurn h e → Orderly (h ++ e ∷ [])
orderly_next {h} e o t =
    let so = opened_grows h e in
    let se = ended_grows h e in
    let sa = abandoned_grows h e in
    let ss = all_steps_grows h e in
    record {
      stepped = λ a m. ⊎_elim (λ n. old_in so (o.stepped a n)) (λ n. (step_new e o t n).its_opened) (which_in ss m);
      real = λ a m. ⊎_elim (o.real a) (λ n. (step_new e o t n).its_real) (which_in ss m);
      ended_opened = λ j m. old_in so (⊎_elim (o.ended_opened j) (λ n. open_opened h (ended_new h e t n)) (which_in se m));
      abandoned_opened = λ j m. old_in so (⊎_elim (o.abandoned_opened j) (λ n. open_opened h (abandoned_new h e t n).0) (which_in sa m));
      ended_kept = λ j m n. ⊎_elim
          (λ jo. ⊎_elim (o.ended_kept j jo) (λ an. (open_from h (abandoned_new h e t an).0).1 jo) (which_in sa n))
          (λ jn. ⊎_elim (open_not_abandoned h (ended_new h e t jn)) (not_both_ways e jn) (which_in sa n))
          (which_in se m);
      rising = λ i j r. ⊎_elim (o.rising i j) (⊎_elim (λ q. opened_new h e t q.0 q.1) (λ q. absurd (opened_single e q))) (which_before so r);
      places = λ a m. ⊎_elim (λ n. let q = o.places a n in omega (arith, length-append h (e ∷ []))) (λ n. let q = (step_new e o t n).its_place in omega (arith, length-append h (e ∷ []))) (which_in ss m);
      in_places = λ a b r. ⊎_elim (o.in_places a b) (⊎_elim (λ q. let x = o.places a q.0 in let y = (step_new e o t q.1).its_place in omega arith) (λ q. absurd (step_single (length h) e q))) (which_before ss r);
      only_read = λ a m n w. ⊎_elim
          (λ ao. ⊎_elim (λ jo. o.only_read a ao jo w) (λ jn. (abandoned_new h e t jn).1 (wrote_if h a ao w)) (which_in sa n))
          (λ an. ⊎_elim (step_new e o t an).its_kept (λ jn. not_both (length h) e an jn) (which_in sa n))
          (which_in ss m);
      opened_last = λ a b r d. ⊎_elim (λ q. o.opened_last a b q d) (⊎_elim (λ q. opening_new h e t (o.stepped a q.0) q.1 d) (λ q. absurd (step_single (length h) e q))) (which_before ss r);
    }

pub orderly_after : {h : History} (es : List Event) → Orderly h → InTurnAfter h es → Orderly (h ++ es)
orderly_after {h} [] o t = subst Orderly (sym (append-nil h)) o
orderly_after {h} (e ∷ es) o t = subst Orderly (append_assoc h (e ∷ []) es) (orderly_after es (orderly_next e o t.0) t.1)

-- a history in turn is orderly
pub orderly : (h : History) → Turns h → Orderly h
orderly h t = orderly_after h orderly_start t

-- one event more in turn
pub turns_next : (h : History) (es : List Event) (e : Event) → InTurnAfter h es → InTurn (h ++ es) e → InTurnAfter h (es ++ e ∷ [])
turns_next h [] e t n = (subst (λ (x : History). InTurn x e) (append-nil h) n, tt)
turns_next h (x ∷ es) e t n = (t.0, turns_next (h ++ x ∷ []) es e t.1 (subst (λ (y : History). InTurn y e) (sym (append_assoc h (x ∷ []) es)) n))
