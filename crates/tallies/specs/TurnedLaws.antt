-- One pass finds the lowest record that is the later one of a pair that the order turns round. Where the order names each kept job once, a step is such a one exactly when its
-- job's place is below the highest place of what it clashes with on its cell (`low_backward`). In order: places and `Before`; the highest place of steps; the tallies after
-- one step more (`tallied_next`); what stands after so many records (`Passed`), and each way on from a kept step.
-- Assumes nothing.
use Rattle.std.specs.Prelude.{◌≡◌, refl, Bool, true, false, ◌&&◌, ◌||◌, cond, List, [], ◌∷◌, ℕ, zero, suc, ◌+◌, ◌≤◌, ◌<◌, max, T, ltb, eqb, length, get_or, set, replicate}
use Rattle.std.proofs.Common.{sym, ap, ap₂, ◌∙◌, subst, subst₂, inl, inr, ⊎_elim, arith, get_or-set_same, get_or-set_other}
use Rattle.std.proofs.Math.Option.{Option, none, some}
use mathlib.Core.List.Memᴰ
use Rattle.std.proofs.Math.Nat.{le-max_left, le-max_right}
use Rattle.std.proofs.lemmas.List.{get_or-replicate}
use Rattle.graph.specs.Decide.{Decides, and_test, or_test, eq_test, lt_test, read_as, same_test, some_of, some_test, every_test, by_test, answer, test_true, test_false, false_is}
use Rattle.graph.specs.Lists.{◌∈◌, each, other, Before, first, after, Once, none, more, members, before_left, before_right}
use Rattle.history.specs.Events.{Deed, clash, History, opened, kept, Step, kept_steps}
use Rattle.history.specs.Memory.{same_deed}
use Rattle.history_laws.specs.MemoryLaws.{deed_test}
use Rattle.history_laws.specs.TurnLaws.{has_test, kept_if}
use Rattle.verdicts.specs.Verdicts.{first_bad, missing, backward, first_backward}
use Rattle.verdicts_laws.specs.VerdictLaws.{Entries, all_good, one_bad, entries, Backward, backward_test, missing_test}
use Rattle.tallies.specs.Jobs.{room, row_of, Taken}
use Rattle.tallies.specs.Places.{one_on, place_in, Placed, found_at, highest, Tallied, stands_low}
use Rattle.tallies.specs.RowLaws.{row_small, row_apart, looked_test}
use Rattle.tallies.specs.PassLaws.{slot_at, row_at, Pass, Meets, pass_start, pass_all, pass_on}
use Rattle.tallies.specs.TableLaws.{at_member}

-- ---- places

one_on_positive : (a : ℕ) → 0 < a → 0 < one_on a
one_on_positive zero p = p
one_on_positive (suc a) p = omega arith

one_on_above : (a : ℕ) → 0 < a → 1 < one_on a
one_on_above zero p = absurd (omega arith)
one_on_above (suc a) p = omega arith

one_on_rises : (a b : ℕ) → a < b → one_on a < one_on b
one_on_rises zero zero q = absurd (omega arith)
one_on_rises zero (suc b) q = omega arith
one_on_rises (suc a) zero q = absurd (omega arith)
one_on_rises (suc a) (suc b) q = omega arith

place_first : (order : List ℕ) (x j : ℕ) → x ≡ j → place_in (x ∷ order) j ≡ 1
place_first order x j e = ap (λ (b : Bool). cond b 1 (one_on (place_in order j))) (test_true (eq_test x j) e)

place_later : (order : List ℕ) (x j : ℕ) → (x ≡ j → ⊥) → place_in (x ∷ order) j ≡ one_on (place_in order j)
place_later order x j f = ap (λ (b : Bool). cond b 1 (one_on (place_in order j))) (test_false (eq_test x j) f)

pub place_named : (order : List ℕ) (j : ℕ) → j ∈ order → 0 < place_in order j
place_named [] j m = absurd (Memᴰ.not-nil m)
place_named (x ∷ order) j m =
    by_test (λ b. 0 < cond b 1 (one_on (place_in order j))) (eq_test x j) (λ e. omega arith)
    (λ f. one_on_positive (place_in order j) (place_named order j (other (λ e. f (sym e)) (Memᴰ.cases_cons m))))

pub before_place : {order : List ℕ} {i j : ℕ} → Once order → Before i j order → place_in order i < place_in order j
before_place none i = elim i [ ]
before_place {i = i} {j = j} (more {x = x} {l = l} n o) (first e m) =
    let p = place_first l x i (sym e) in
    let q = place_later l x j (λ y. n (Memᴰ.cast y m)) in
    let r = one_on_above (place_in l j) (place_named l j m) in
    omega arith
before_place {i = i} {j = j} (more {x = x} {l = l} n o) (after r) =
    let p = place_later l x i (λ y. n (Memᴰ.cast y (before_left r))) in
    let q = place_later l x j (λ y. n (Memᴰ.cast y (before_right r))) in
    let s = one_on_rises (place_in l i) (place_in l j) (before_place o r) in
    omega arith

pub place_before : {order : List ℕ} {i j : ℕ} → Once order → i ∈ order → j ∈ order → place_in order i < place_in order j → Before i j order
place_before {order} {i} {j} o m n q =
    ⊎_elim (λ e. absurd (let y = ap (place_in order) e in omega arith))
    (⊎_elim (λ r. r) (λ r. absurd (let y = before_place o r in omega arith)))
    (members m n)

-- ---- the highest place

lt_max : (p a b : ℕ) → ltb p (max a b) ≡ ltb p a || ltb p b
lt_max p a b =
    same_test (lt_test p (max a b)) (or_test (lt_test p a) (lt_test p b))
    (λ q. ⊎_elim inl (λ f. let g : (p < a) → ⊥ = f in inr (omega arith)) (answer (lt_test p a)))
    (⊎_elim (λ q. omega (arith, le-max_left a b)) (λ q. omega (arith, le-max_right a b)))

-- a step that does d on that cell, and whose job's place is above p
abbrev is_above : List ℕ → Deed → ℕ → ℕ → Step → Bool
is_above order d c p a = (eqb a.cell c && same_deed a.deed d) && ltb p (place_in order a.job)

below_highest : (order : List ℕ) (d : Deed) (c p : ℕ) (s : List Step) → ltb p (highest order d c s) ≡ some_of (is_above order d c p) s
below_highest order d c p [] = test_false (lt_test p 0) (λ q. omega arith)
below_highest order d c p (a ∷ s) = go (eqb a.cell c && same_deed a.deed d) (below_highest order d c p s)
  where
    go : (b : Bool) → ltb p (highest order d c s) ≡ some_of (is_above order d c p) s
        → ltb p (cond b (max (place_in order a.job) (highest order d c s)) (highest order d c s)) ≡ (b && ltb p (place_in order a.job)) || some_of (is_above order d c p) s
    go true e = lt_max p (place_in order a.job) (highest order d c s) ∙ ap (λ (x : Bool). ltb p (place_in order a.job) || x) e
    go false e = e

record IsAbove (order : List ℕ) (p : ℕ) (s : List Step) (d : Deed) (c : ℕ) : Type 0 where
  step : Step
  among : step ∈ s
  on_cell : step.cell ≡ c
  of_deed : step.deed ≡ d
  higher : p < place_in order step.job

above_test : (order : List ℕ) (p : ℕ) (s : List Step) (d : Deed) (c : ℕ) → Decides (ltb p (highest order d c s)) (IsAbove order p s d c)
above_test order p s d c =
    subst (λ (b : Bool). Decides b (IsAbove order p s d c)) (sym (below_highest order d c p s))
    (read_as (some_test (λ a. and_test (and_test (eq_test a.cell c) (deed_test a.deed d)) (lt_test p (place_in order a.job))) s)
    (λ r. record { step = r.0; among = r.1; on_cell = r.2.0.0; of_deed = r.2.0.1; higher = r.2.1 })
    (λ r. (r.step, r.among, ((r.on_cell, r.of_deed), r.higher))))

-- ---- the later one of a pair that is turned round

module _ {order : List ℕ} (once : Once order) (earlier : List Step) (b : Step) (named : (a : Step) → a ∈ earlier → a.job ∈ order) (b_named : b.job ∈ order) where
  -- a clashing step on the cell, of a job that stands higher, conflicts: a step of the same job stands as high
  turned_by : (a : Step) → a ∈ earlier → a.cell ≡ b.cell → T (clash a.deed b.deed) → place_in order b.job < place_in order a.job → Backward order earlier b
  turned_by a m c k q =
      record {
        with_step = a;
        before_it = m;
        conflicting = record { others = λ e. let y = ap (place_in order) e in omega arith; same_cell = c; clashes = k };
        turned = place_before once b_named (named a m) q;
      }

  -- so what the step looks at is the pair that it turns round
  low_backward : (seen : List ℕ) → Tallied order earlier seen → b.cell < room b.deed → stands_low seen (row_of b.deed b.cell) (place_in order b.job) ≡ backward order earlier b
  low_backward seen t real =
      let p = place_in order b.job in
      same_test
      (looked_test (λ x. ltb p (get_or seen x 0))
      (λ d c q. subst (λ (y : ℕ). Decides (ltb p y) (IsAbove order p earlier d c)) (sym (t d c q)) (above_test order p earlier d c)) b.deed b.cell real)
      (backward_test order earlier b)
      (λ r. let a = r.marked in turned_by a.step a.among a.on_cell (subst (λ (x : Deed). T (clash x b.deed)) (sym a.of_deed) r.clashes) a.higher)
      (λ f. record {
        deed = f.with_step.deed;
        marked = record { step = f.with_step; among = f.before_it; on_cell = f.conflicting.same_cell; of_deed = refl; higher = before_place once f.turned };
        clashes = f.conflicting.clashes;
      })

-- ---- the tallies after one step more

highest_same : (order : List ℕ) (a : Step) (s : List Step) → highest order a.deed a.cell (a ∷ s) ≡ max (place_in order a.job) (highest order a.deed a.cell s)
highest_same order a s =
    ap (λ (b : Bool). cond b (max (place_in order a.job) (highest order a.deed a.cell s)) (highest order a.deed a.cell s))
    (test_true (and_test (eq_test a.cell a.cell) (deed_test a.deed a.deed)) (refl, refl))

highest_other : (order : List ℕ) (d : Deed) (c : ℕ) (a : Step) (s : List Step) → ((a.cell ≡ c) × (a.deed ≡ d) → ⊥) → highest order d c (a ∷ s) ≡ highest order d c s
highest_other order d c a s f =
    ap (λ (b : Bool). cond b (max (place_in order a.job) (highest order d c s)) (highest order d c s)) (test_false (and_test (eq_test a.cell c) (deed_test a.deed d)) f)

-- nothing is seen yet
tallied_start : (order : List ℕ) → Tallied order [] (replicate 770 0)
tallied_start order d c q = get_or-replicate 770 (row_of d c) 0 0 (row_small d c q)

-- the step's row takes its place in
tallied_next : (order : List ℕ) (s : List Step) (seen : List ℕ) (b : Step) → Tallied order s seen → b.cell < room b.deed → length seen ≡ 770
    → Tallied order (b ∷ s) (set seen (row_of b.deed b.cell) (max (place_in order b.job) (get_or seen (row_of b.deed b.cell) 0)))
tallied_next order s seen b t real long d c q =
    ⊎_elim
    (λ e. let Is : ℕ → Deed → Type 0 = λ x y. get_or now (row_of y x) 0 ≡ highest order y x (b ∷ s) in
    subst₂ Is e.0 e.1
    (get_or-set_same seen row new 0 (let l = row_small b.deed b.cell real in omega arith)
    ∙ ap (max (place_in order b.job)) (t b.deed b.cell real) ∙ sym (highest_same order b s)))
    (λ f. get_or-set_other seen row (row_of d c) new 0 (λ e. f (row_apart b.deed d b.cell c real q (sym e))) ∙ t d c q ∙ sym (highest_other order d c b s f))
    (answer (and_test (eq_test b.cell c) (deed_test b.deed d)))
  where
    row : ℕ
    row = row_of b.deed b.cell

    new : ℕ
    new = max (place_in order b.job) (get_or seen row 0)

    now : List ℕ
    now = set seen row new

-- ---- the pass

-- the place of its job
abbrev pub place_at : List ℕ → List ℕ → ℕ → ℕ
place_at placed told i = get_or placed (slot_at told i) 0

-- what the pass is given: the lists tell of a history, and the order names each of its kept jobs once
pub record Given (h : History) (n : ℕ) (numbers states told placed order : List ℕ) (count : ℕ) : Type 0 where
  pub taken : Taken h n numbers states told count
  pub places : Placed h count order placed
  pub good : first_bad (kept h) [] 0 order ≡ Option.none
  pub whole : missing (kept h) order ≡ false

-- no pair is turned round among the steps so far: what is left to find is to be found among the later ones, and the tallies tell of the earlier ones
pub record Unturned (h : History) (order seen : List ℕ) (done later : List Step) : Type 0 where
  pub earlier : List Step
  pub same : first_backward order [] (kept_steps h) ≡ first_backward order earlier later
  pub tallied : Tallied order earlier seen
  pub named : (a : Step) → a ∈ earlier → a.job ∈ order

abbrev pub Passed : History → ℕ → List ℕ → List ℕ → ℕ → List ℕ → Type 0
Passed h n told order i seen = Pass h n told i (Unturned h order seen)

module _ {h : History} {n : ℕ} {numbers states told placed order : List ℕ} {count : ℕ} (s : Given h n numbers states told placed order count) where
  order_once : Once order
  order_once = of (entries (kept h) [] zero order) s.good
    where
      of : {o : Option ℕ} → Entries (kept h) [] zero order o → o ≡ Option.none → Once order
      of (all_good g) e = g.once
      of (one_bad f) e = absurd (let z : ◌≡◌ {A = ℕ} 0 1 = cc in omega arith)

  order_names : (j : ℕ) → j ∈ kept h → j ∈ order
  order_names =
      ⊎_elim (λ f. f) (λ f. absurd (false_is s.whole ((missing_test (kept h) order).shows f))) (answer (every_test (λ j. has_test order j) (kept h)))

  pub passed_start : Passed h n told order 0 (replicate 770 0)
  passed_start = pass_start s.taken (record { earlier = []; same = refl; tallied = tallied_start order; named = λ a m. absurd (Memᴰ.not-nil m) })

  -- all are passed
  pub passed_all : {i : ℕ} {seen : List ℕ} → Passed h n told order i seen → n ≤ i → first_backward order [] (kept_steps h) ≡ found_at n n
  passed_all p q = (pass_all s.taken p q).same ∙ sym (ap (λ (b : Bool). cond b (some n) Option.none) (test_false (lt_test n n) (λ y. omega arith)))

  module _ {i : ℕ} {seen : List ℕ} (m : Meets h n told i (Unturned h order seen)) where
    abbrev now : Unturned h order seen m.done (m.b ∷ m.later)
    now = m.so_far

    -- the order names the step's job, and the table has its place
    b_named : m.b.job ∈ order
    b_named = order_names m.b.job (kept_if h (Memᴰ.cast (sym m.mine) (at_member (opened h) (slot_at told i) m.known)) m.stays)

    its_place : place_at placed told i ≡ place_in order m.b.job
    its_place = s.places (slot_at told i) (let x = m.known in let y = s.taken.jobs.many in omega arith) ∙ ap (place_in order) m.mine

    -- the test of the code is that of the step
    as_tested : stands_low seen (row_at told i) (place_at placed told i) ≡ backward order now.earlier m.b
    as_tested = ap₂ (stands_low seen) m.row its_place ∙ low_backward order_once now.earlier m.b now.named b_named seen now.tallied m.real

    -- what is left to find, by that test
    left_by : (x : Bool) → stands_low seen (row_at told i) (place_at placed told i) ≡ x
        → first_backward order [] (kept_steps h) ≡ cond x (some m.b.at) (first_backward order (m.b ∷ now.earlier) m.later)
    left_by x e = now.same ∙ ap (λ (x : Bool). cond x (some m.b.at) (first_backward order (m.b ∷ now.earlier) m.later)) (sym as_tested ∙ e)

    -- a clashing one stands higher: the step is turned round
    pub turned_here : stands_low seen (row_at told i) (place_at placed told i) ≡ true → first_backward order [] (kept_steps h) ≡ found_at i n
    turned_here e = left_by true e ∙ ap some m.at ∙ sym (ap (λ (x : Bool). cond x (some i) Option.none) (test_true (lt_test i n) m.inside))

    -- none does, and the tallies take the step in
    pub passed_on : stands_low seen (row_at told i) (place_at placed told i) ≡ false → length seen ≡ 770
        → Passed h n told order (i + 1) (set seen (row_at told i) (max (place_at placed told i) (get_or seen (row_at told i) 0)))
    passed_on e long =
        pass_on m (record {
          earlier = m.b ∷ now.earlier;
          same = left_by false e;
          tallied = rw (m.row, its_place) (tallied_next order now.earlier seen m.b now.tallied m.real long);
          named = each {P = λ (a : Step). a.job ∈ order} b_named now.named;
        })
