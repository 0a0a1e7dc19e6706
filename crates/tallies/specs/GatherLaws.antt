-- One pass over the told steps makes for each job the set of its predecessors. For each row there is a set of the jobs that have done that so far. A step's job is preceded
-- by those of the rows that the step looks at, and never by itself.
-- In order: rows gained; the sets, and one step more (`sets_next`); what stands after so many records (`Gathered`), and the way on from a kept step.
-- Assumes nothing.
use Rattle.std.specs.Prelude.{◌≡◌, refl, ◌⊎◌, Bool, true, false, not, ◌&&◌, ◌||◌, List, [], ◌∷◌, ◌++◌, ℕ, ◌+◌, ◌*◌, ◌/◌, ◌%◌, ◌≤◌, ◌<◌, T, leb, ltb, eqb, length, get_or, replicate}
use Rattle.std.proofs.Common.{sym, ap, ap₂, ◌∙◌, subst, inl, inr, ⊎_elim, arith}
use Rattle.std.proofs.Math.Bool.{and-false, or-false}
use mathlib.Core.List.Memᴰ
use Rattle.std.proofs.lemmas.List.{get_or-replicate}
use Rattle.graph.specs.Decide.{Decides, and_test, or_test, not_test, eq_test, le_test, lt_test, read_as, same_test, test_true, test_false, false_is}
use Rattle.graph.specs.Lists.{◌∈◌, here, before_nil, before_cons, before_in_left, before_across, before_append}
use Rattle.marks.specs.WordLaws.{marked_none}
use Rattle.history.specs.Events.{Deed, clash, History, opened, Step, kept_steps, Precedes}
use Rattle.history_laws.specs.EventLaws.{precedes_in, no_self, precedes_test}
use Rattle.tallies.specs.Jobs.{room, row_of, looked, Taken}
use Rattle.tallies.specs.Marks.{in_row, Put, Struck, Joined, Gained, Preceded}
use Rattle.tallies.specs.RowLaws.{row_small, row_apart, looked_step, looked_opening, looked_ending, looked_test}
use Rattle.tallies.specs.TableLaws.{same_entry}
use Rattle.tallies.specs.PassLaws.{slot_at, row_at, Pass, Meets, pass_start, pass_all, pass_on}

-- ---- rows gained

-- along a test that comes out the same, and by three rows one after the other
gain_three : (x e a b c : Bool) → ((x || (e && a)) || (e && b)) || (e && c) ≡ x || (e && (a || (b || c)))
gain_three true e a b c = refl
gain_three false true true b c = refl
gain_three false true false true c = refl
gain_three false true false false c = refl
gain_three false false a b c = refl

module _ (k row : ℕ) (seen preds preds' : List ℕ) where
  by_look : (f : ℕ → Bool) → ((i : ℕ) → looked (λ x. in_row seen x i) row ≡ f i)
      → ((j i : ℕ) → i < 512 → in_row preds' j i ≡ (in_row preds j i || (eqb j k && f i))) → Gained k row seen preds preds'
  by_look f e g j i q = g j i q ∙ ap (λ (b : Bool). in_row preds j i || (eqb j k && b)) (sym (e i))

  -- a row is gained where a test holds, and else nothing
  gained_if : {A : Type 0} {t : Bool} → Decides t A → (r : ℕ) (p q : List ℕ) → (A × ((o : List ℕ) × Joined k r seen p o × (q ≡ o))) ⊎ ((A → ⊥) × (q ≡ p))
      → (j i : ℕ) → i < 512 → in_row q j i ≡ (in_row p j i || (eqb j k && (t && in_row seen r i)))
  gained_if d r p q w j i l =
      ⊎_elim
      (λ y. ap (λ (l : List ℕ). in_row l j i) y.1.2 ∙ y.1.1 j i l ∙ ap (λ (b : Bool). in_row p j i || (eqb j k && (b && in_row seen r i))) (sym (test_true d y.0)))
      (λ y. ap (λ (l : List ℕ). in_row l j i) y.1
      ∙ sym (ap (λ (b : Bool). in_row p j i || (eqb j k && (b && in_row seen r i))) (test_false d y.0)
      ∙ ap (λ (b : Bool). in_row p j i || b) (and-false (eqb j k)) ∙ or-false (in_row p j i)))
      w

  -- a step: the reads of its cell but for a read, the writes, the adds but for an add
  pub gained_step : (p q : List ℕ) → row < 768 → ((256 ≤ row) × ((o : List ℕ) × Joined k (row % 256) seen preds o × (p ≡ o))) ⊎ ((row < 256) × (p ≡ preds)) → Joined k (row % 256 + 256) seen p q
      → ((row < 512) × ((o : List ℕ) × Joined k (row % 256 + 512) seen q o × (preds' ≡ o))) ⊎ ((512 ≤ row) × (preds' ≡ q)) → Gained k row seen preds preds'
  gained_step p q l a b c =
      by_look (λ i. (leb 256 row && in_row seen (row % 256) i) || (in_row seen (row % 256 + 256) i || (ltb row 512 && in_row seen (row % 256 + 512) i)))
      (λ i. looked_step (λ x. in_row seen x i) row l)
      (λ j i m. gained_if (lt_test row 512) (row % 256 + 512) q preds' (⊎_elim inl (λ w. inr ((λ n. let o = w.0 in omega arith), w.1)) c) j i m
      ∙ ap (λ (b : Bool). b || (eqb j k && (ltb row 512 && in_row seen (row % 256 + 512) i)))
      (b j i m
      ∙ ap (λ (b : Bool). b || (eqb j k && in_row seen (row % 256 + 256) i))
      (gained_if (le_test 256 row) (row % 256) preds p (⊎_elim inl (λ w. inr ((λ n. let o = w.0 in omega arith), w.1)) a) j i m))
      ∙ gain_three (in_row preds j i) (eqb j k) (leb 256 row && in_row seen (row % 256) i) (in_row seen (row % 256 + 256) i) (ltb row 512 && in_row seen (row % 256 + 512) i))

  pub gained_opening : row ≡ 768 → Joined k 769 seen preds preds' → Gained k row seen preds preds'
  gained_opening e g = by_look (λ i. in_row seen 769 i) (λ i. looked_opening (λ x. in_row seen x i) row e) g

  pub gained_ending : 768 < row → preds' ≡ preds → Gained k row seen preds preds'
  gained_ending l e =
      by_look (λ i. false) (λ i. looked_ending (λ x. in_row seen x i) row l)
      (λ j i q. ap (λ (l : List ℕ). in_row l j i) e ∙ sym (ap (λ (b : Bool). in_row preds j i || b) (and-false (eqb j k)) ∙ or-false (in_row preds j i)))

-- ---- the sets

-- among the steps is one that does d on that cell, by that job
pub record Saw (s : List Step) (d : Deed) (c j : ℕ) : Type 0 where
  pub step : Step
  pub among : step ∈ s
  pub by_job : step.job ≡ j
  pub on_cell : step.cell ≡ c
  pub of_deed : step.deed ≡ d

-- each row has those of the jobs that have done so, by their places in the list
abbrev pub Seen : List ℕ → List Step → List ℕ → Type 0
Seen jobs s seen = (d : Deed) (c i : ℕ) → c < room d → i < 512 → Decides (in_row seen (row_of d c) i) ((i < length jobs) × Saw s d c (get_or jobs i 0))

-- the row of a job has those that precede it
abbrev pub Ahead : List ℕ → List Step → List ℕ → Type 0
Ahead jobs s preds = (j i : ℕ) → j < length jobs → i < 512 → Decides (in_row preds j i) ((i < length jobs) × Precedes s (get_or jobs i 0) (get_or jobs j 0))

pub record Sets (jobs : List ℕ) (s : List Step) (preds seen : List ℕ) : Type 0 where
  pub ahead : Ahead jobs s preds
  pub done : Seen jobs s seen

-- nothing is marked yet
never : {A : Type 0} {b : Bool} → b ≡ false → (A → ⊥) → Decides b A
never e f = record { holds = λ t. absurd (false_is e t); shows = λ a. absurd (f a) }

pub sets_start : (jobs preds : List ℕ) → ((x : ℕ) → get_or preds x 0 ≡ 0) → Sets jobs [] preds (replicate 6160 0)
sets_start jobs preds z =
    record {
      ahead = λ j i p q. never (marked_none 64 preds (j * 512 + i) (z ((j * 512 + i) / 64))) (λ r. before_nil r.1.in_order);
      done = λ d c i p q.
          let l = row_small d c p in
          never (marked_none 64 (replicate 6160 0) (row_of d c * 512 + i) (get_or-replicate 6160 ((row_of d c * 512 + i) / 64) 0 0 (omega arith))) (λ r. Memᴰ.not-nil r.1.among);
    }

-- ---- one step more

-- the step b is of the job at place k, at this row
pub record Comes (jobs : List ℕ) (b : Step) (k row : ℕ) : Type 0 where
  pub few : length jobs ≤ 512
  pub known : k < length jobs
  pub mine : get_or jobs k 0 ≡ b.job
  pub one : (i : ℕ) → i < length jobs → get_or jobs i 0 ≡ b.job → i ≡ k
  pub its_row : row ≡ row_of b.deed b.cell
  pub real : b.cell < room b.deed

-- what it changes
pub record StepMarks (k row : ℕ) (preds seen preds' seen' : List ℕ) : Type 0 where
  pub gaining : List ℕ
  pub gained : Gained k row seen preds gaining
  pub put : Put (row * 512 + k) seen seen'
  pub struck : Struck (k * 512 + k) gaining preds'

module _ {jobs : List ℕ} {b : Step} {k row : ℕ} (n : Comes jobs b k row) (s : List Step) where
  -- the jobs that have done the same
  seen_put : (seen seen' : List ℕ) → Seen jobs s seen → Put (row * 512 + k) seen seen' → Seen jobs (s ++ b ∷ []) seen'
  seen_put seen seen' t p d c i q r =
      subst (λ (y : Bool). Decides y ((i < length jobs) × Saw (s ++ b ∷ []) d c (get_or jobs i 0))) (sym (p (row_of d c * 512 + i)))
      (read_as (or_test (t d c i q r) (eq_test (row_of d c * 512 + i) (row * 512 + k))) into out)
    where
      into : ((i < length jobs) × Saw s d c (get_or jobs i 0)) ⊎ (row_of d c * 512 + i ≡ row * 512 + k) → (i < length jobs) × Saw (s ++ b ∷ []) d c (get_or jobs i 0)
      into (inl o) =
          let w = o.1 in
          (o.0, record { step = w.step; among = Memᴰ.append_left (b ∷ []) w.among; by_job = w.by_job; on_cell = w.on_cell; of_deed = w.of_deed })
      into (inr e) =
          let y = n.known in
          let z = n.few in
          let l : i ≡ k = omega arith in
          let m : row_of b.deed b.cell ≡ row_of d c = (let v : row ≡ row_of d c = omega arith in sym n.its_row ∙ v) in
          let v = row_apart b.deed d b.cell c n.real q m in
          (omega arith, record { step = b; among = Memᴰ.append_right s here; by_job = sym n.mine ∙ ap (λ (y : ℕ). get_or jobs y 0) (sym l); on_cell = v.0; of_deed = v.1 })

      out : (i < length jobs) × Saw (s ++ b ∷ []) d c (get_or jobs i 0) → ((i < length jobs) × Saw s d c (get_or jobs i 0)) ⊎ (row_of d c * 512 + i ≡ row * 512 + k)
      out o =
          let w = o.1 in
          ⊎_elim
          (λ m. inl (o.0, record { step = w.step; among = m; by_job = w.by_job; on_cell = w.on_cell; of_deed = w.of_deed }))
          (λ m. let e = Memᴰ.eq_of_singleton m in
          let l : i ≡ k = n.one i o.0 (sym w.by_job ∙ ap (λ (y : Step). y.job) e) in
          let v : row_of d c ≡ row = ap₂ row_of (sym w.of_deed) (sym w.on_cell) ∙ ap (λ (y : Step). row_of y.deed y.cell) e ∙ sym n.its_row in
          inr (omega arith))
          (Memᴰ.append_cases s w.among)

  -- an earlier step of another job on the cell that clashes
  from_clash : {d : Deed} (j i : ℕ) → j ≡ k → i < length jobs → (j * 512 + i ≡ k * 512 + k → ⊥) → (w : Saw s d b.cell (get_or jobs i 0)) → T (clash d b.deed)
      → Precedes (s ++ b ∷ []) (get_or jobs i 0) (get_or jobs j 0)
  from_clash j i e p f w t =
      record {
        earlier = w.step;
        later = b;
        in_order = before_across w.among here;
        conflicting = record {
          others = λ g. f (let l = n.one i p (sym w.by_job ∙ g) in omega arith);
          same_cell = w.on_cell;
          clashes = subst (λ (x : Deed). T (clash x b.deed)) (sym w.of_deed) t;
        };
        earlier_job = w.by_job;
        later_job = sym n.mine ∙ ap (λ (y : ℕ). get_or jobs y 0) (sym e);
      }

  -- a pair of before
  of_before : (j i : ℕ) → Precedes s (get_or jobs i 0) (get_or jobs j 0) → Precedes (s ++ b ∷ []) (get_or jobs i 0) (get_or jobs j 0)
  of_before j i p = precedes_in p (before_in_left (b ∷ []) p.in_order)

  -- a pair of before, or the step and an earlier one
  cases : (j i : ℕ) → j < length jobs → Precedes (s ++ b ∷ []) (get_or jobs i 0) (get_or jobs j 0)
      → Precedes s (get_or jobs i 0) (get_or jobs j 0) ⊎ ((j ≡ k) × ((d : Deed) × Saw s d b.cell (get_or jobs i 0) × T (clash d b.deed)))
  cases j i q r =
      ⊎_elim (λ o. inl (precedes_in r o))
      (⊎_elim
      (λ o. let e = Memᴰ.eq_of_singleton o.1 in
      inr (
        n.one j q (sym r.later_job ∙ ap (λ (y : Step). y.job) e),
        (
          r.earlier.deed,
          record { step = r.earlier; among = o.0; by_job = r.earlier_job; on_cell = r.conflicting.same_cell ∙ ap (λ (y : Step). y.cell) e; of_deed = refl },
          subst (λ (y : Step). T (clash r.earlier.deed y.deed)) e r.conflicting.clashes,
        ),
      ))
      (λ o. absurd (⊎_elim (λ m. Memᴰ.not-nil m.1) before_nil (before_cons o))))
      (before_append s r.in_order)

  -- no job precedes itself, so what is struck was not so
  not_self : (j i : ℕ) → i < 512 → Precedes (s ++ b ∷ []) (get_or jobs i 0) (get_or jobs j 0) → j * 512 + i ≡ k * 512 + k → ⊥
  not_self j i q p e =
      let y = n.known in
      let z = n.few in
      let l : i ≡ j = omega arith in
      no_self (subst (λ (y : ℕ). Precedes (s ++ b ∷ []) (get_or jobs y 0) (get_or jobs j 0)) l p)

  module _ {preds seen : List ℕ} (t : Sets jobs s preds seen) where
    ahead_next : {preds' seen' : List ℕ} → StepMarks k row preds seen preds' seen' → Ahead jobs (s ++ b ∷ []) preds'
    ahead_next w j i q r =
        subst (λ (y : Bool). Decides y ((i < length jobs) × Precedes (s ++ b ∷ []) (get_or jobs i 0) (get_or jobs j 0)))
        (sym (w.struck (j * 512 + i)
        ∙ ap (λ (y : Bool). y && not (eqb (j * 512 + i) (k * 512 + k)))
        (w.gained j i r ∙ ap (λ (x : ℕ). in_row preds j i || (eqb j k && looked (λ y. in_row seen y i) x)) n.its_row)))
        (read_as
        (and_test (or_test (t.ahead j i q r) (and_test (eq_test j k) (looked_test (λ y. in_row seen y i) (λ d c p. t.done d c i p r) b.deed b.cell n.real)))
        (not_test (eq_test (j * 512 + i) (k * 512 + k))))
        (λ o. ⊎_elim (λ x. (x.0, of_before j i x.1))
        (λ x. let m = x.1.marked in (m.0, from_clash j i x.0 m.0 o.1 m.1 x.1.clashes))
        o.0)
        (λ o. (
          ⊎_elim (λ x. inl (o.0, x)) (λ x. inr (x.0, record { deed = x.1.0; marked = (o.0, x.1.1); clashes = x.1.2 })) (cases j i q o.1),
          not_self j i r o.1,
        )))

    pub sets_next : {preds' seen' : List ℕ} → StepMarks k row preds seen preds' seen' → Sets jobs (s ++ b ∷ []) preds' seen'
    sets_next {preds'} {seen'} w = record { ahead = ahead_next w; done = seen_put seen seen' t.done w.put }

-- ---- the pass

-- after i records: the sets are those of the kept steps so far
abbrev Here : History → List ℕ → List ℕ → List Step → List Step → Type 0
Here h preds seen done later = Sets (opened h) done preds seen

abbrev pub Gathered : History → ℕ → List ℕ → ℕ → List ℕ → List ℕ → Type 0
Gathered h n told i preds seen = Pass h n told i (Here h preds seen)

module _ {h : History} {n : ℕ} {numbers states told : List ℕ} {count : ℕ} (s : Taken h n numbers states told count) where
  pub gathered_start : {preds : List ℕ} → ((x : ℕ) → get_or preds x 0 ≡ 0) → Gathered h n told 0 preds (replicate 6160 0)
  gathered_start {preds} z = pass_start s (sets_start (opened h) preds z)

  -- all are passed
  pub gathered_all : {i : ℕ} {preds seen : List ℕ} → Gathered h n told i preds seen → n ≤ i → Preceded h count preds
  gathered_all {preds = preds} {seen = seen} p q j x l m =
      let y = s.jobs.many in
      let t : Sets (opened h) (kept_steps h) preds seen = pass_all s p q in
      same_test (t.ahead j x (omega arith) m) (and_test (lt_test x count) (precedes_test (kept_steps h) (get_or (opened h) x 0) (get_or (opened h) j 0)))
      (λ r. (let z = r.0 in omega arith, r.1)) (λ r. (let z = r.0 in omega arith, r.1))

  -- a kept step is met, and the sets take it in
  module _ {i : ℕ} {preds seen : List ℕ} (m : Meets h n told i (Here h preds seen)) where
    comes : Comes (opened h) m.b (slot_at told i) (row_at told i)
    comes =
        record {
          few = let y = s.jobs.many in let z = s.jobs.few in omega arith;
          known = m.known;
          mine = m.mine;
          one = λ x l f.
              let y = s.jobs.many in
              let u : x < count = omega arith in
              let v : slot_at told i < count = (let z = m.known in omega arith) in
              same_entry s.jobs x (slot_at told i) u v (s.jobs.named x u ∙ f ∙ sym m.mine ∙ sym (s.jobs.named (slot_at told i) v));
          its_row = m.row;
          real = m.real;
        }

    pub gathered_on : {preds' seen' : List ℕ} → StepMarks (slot_at told i) (row_at told i) preds seen preds' seen' → Gathered h n told (i + 1) preds' seen'
    gathered_on w = pass_on m (sets_next comes m.done m.so_far w)
