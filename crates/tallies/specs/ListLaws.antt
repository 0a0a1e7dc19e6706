-- The lowest-first order, job by job.
--
-- `Underway h count left n order`: the first n entries of `order` are the first n of the lowest-first order of the kept jobs, and `left` has the places of the jobs
-- that are not placed yet. In order: the start; what the marks of a row say (`of_row`, `to_row`); a turn, and the place that it notes; where no job is ready, a circle; the end.
-- Assumes nothing.
use Rattle.std.specs.Prelude.{◌≡◌, refl, true, false, not, List, [], ◌∷◌, ◌++◌, ℕ, suc, ◌+◌, ◌≤◌, ◌<◌, eqb, length, get_or, take, set}
use Rattle.std.proofs.Common.{sym, ap, ◌∙◌, subst, ⊎_elim, append-nil, append_assoc, add-one, arith, length-take, length-take-le, take-suc-set}
use Rattle.std.proofs.Math.Option.{Option, none, some}
use mathlib.Core.List.Memᴰ
use Rattle.graph.specs.Decide.{true_is, answer, and_test, not_test, eq_test, lt_test, test_true, test_false}
use Rattle.graph.specs.Lists.{◌∈◌, here, later, before_from_only, Once, more, once_if, once_irreflexive, once_le, once_length, strike, strike_keeps, strike_from}
use Rattle.graph.specs.Walk.{one}
use Rattle.graph.specs.Listing.{Ready, LowestFirst, done, next}
use Rattle.graph.proofs.ListingLaws.{stuck}
use Rattle.history.specs.Events.{History, opened, abandoned, kept, kept_steps, Precedes, Circular}
use Rattle.history_laws.specs.EventLaws.{precedes_test}
use Rattle.history.specs.Orders.{order_of}
use Rattle.history_laws.specs.OrderLaws.{lowest_order, order_accepted, accepted_no_circle}
use Rattle.history.specs.Turns.{Turns}
use Rattle.history_laws.specs.TurnLaws.{has_test, kept_from, kept_if}
use Rattle.verdicts_laws.specs.VerdictLaws.{missing_test, kept_once}
use Rattle.tallies.specs.Jobs.{Jobs}
use Rattle.tallies.specs.Marks.{mark, in_row, Struck, LowestMark, Preceded, KeptMarks, Sorted}
use Rattle.tallies.specs.Places.{Placed, Lists}
use Rattle.tallies.specs.PlaceLaws.{placed_more}
use Rattle.tallies.specs.TableLaws.{at_member, member_at, opened_rise}
use Rattle.tallies.specs.SortLaws.{not_both, struck_from, struck_keeps}

-- ---- lists

once_strike : (j : ℕ) {l : List ℕ} → Once l → Once (strike j l)
unfolding strike
once_strike j {l} o = once_if (strike j l) (λ x r. once_irreflexive o (before_from_only (λ i. not (eqb i j)) l r))

-- to strike out a member makes a list shorter by one
strike_one : {j : ℕ} {l : List ℕ} → Once l → j ∈ l → suc (length (strike j l)) ≡ length l
strike_one {j} {l} o m =
    once_length (more (λ n. (strike_from j l n).1 refl) (once_strike j o)) o
    (λ x n. ⊎_elim (λ e. Memᴰ.cast e m) (λ k. (strike_from j l k).0) (Memᴰ.cases_cons n))
    (λ x n. ⊎_elim (λ e. Memᴰ.cast e here) (λ f. later (strike_keeps n f)) (answer (eq_test x j)))

-- one entry more
entry_new : (order : List ℕ) (n j : ℕ) → n < length order → take (n + 1) (set order n j) ≡ take n order ++ j ∷ []
entry_new order n j h = ap (λ (k : ℕ). take k (set order n j)) (add-one n) ∙ take-suc-set order n j h

entry_more : (order : List ℕ) (n j : ℕ) (q : List ℕ) → n < length order → take (n + 1) (set order n j) ++ q ≡ take n order ++ j ∷ q
entry_more order n j q h = ap (λ (l : List ℕ). l ++ q) (entry_new order n j h) ∙ append_assoc (take n order) (j ∷ []) q

-- what the lowest mark says
module _ (words : List ℕ) (r : ℕ) (f : LowestMark words r) where
  pub a_mark : (r ≡ 512 → ⊥) → (r < 512) × (mark words r ≡ true) × ((i : ℕ) → i < r → mark words i ≡ false)
  a_mark ne = ⊎_elim (λ x. x) (λ x. absurd (ne x.0)) f

  pub no_mark : r ≡ 512 → (i : ℕ) → i < 512 → mark words i ≡ false
  no_mark e = ⊎_elim (λ x. absurd (let q = x.0 in omega arith)) (λ x. x.1) f

-- ---- the order so far

pub record Underway (h : History) (count : ℕ) (left : List ℕ) (n : ℕ) (order : List ℕ) : Type 0 where
  pub rest : List ℕ
  pub once : Once rest
  pub inside : (i : ℕ) → i < 512 → mark left i ≡ true → (i < count) × (get_or (opened h) i 0 ∈ rest)
  pub from : (j : ℕ) → j ∈ rest → (i : ℕ) × (i < 512) × (mark left i ≡ true) × (get_or (opened h) i 0 ≡ j)
  pub apart : (j : ℕ) → j ∈ rest → j ∈ take n order → ⊥
  pub long : length rest + n ≡ length (kept h)
  pub so_far : (q : List ℕ) → LowestFirst (Precedes (kept_steps h)) rest q → LowestFirst (Precedes (kept_steps h)) (kept h) (take n order ++ q)

module _ {h : History} {numbers states : List ℕ} {count : ℕ} (jobs : Jobs h numbers states count) where
  pub underway_start : {left : List ℕ} (order : List ℕ) → KeptMarks h count left → Underway h count left 0 order
  underway_start {left} order k =
      record {
        rest = kept h;
        once = kept_once h jobs.turns;
        inside = λ i q e.
            let r = (and_test (lt_test i count) (not_test (has_test (abandoned h) (get_or (opened h) i 0)))).holds (true_is (sym (k i q) ∙ e)) in
            (r.0, kept_if h (at_member (opened h) i (let m = jobs.many in let p = r.0 in omega arith)) r.1);
        from = λ j m.
            let s = kept_from h m in
            let r = member_at (opened h) j s.0 in
            let p : r.0 < count = (let x = r.1 in let y = jobs.many in omega arith) in
            let q : r.0 < 512 = (let y = jobs.few in omega arith) in
            (r.0, q, k r.0 q ∙ test_true (and_test (lt_test r.0 count) (not_test (has_test (abandoned h) (get_or (opened h) r.0 0)))) (p, λ a. s.1 (Memᴰ.cast (sym r.2) a)), r.2);
        apart = λ j m p. Memᴰ.not-nil p;
        long = omega arith;
        so_far = λ q w. w;
      }

  -- the places of jobs rise with their numbers
  later_job : (i k : ℕ) → i < k → k < count → get_or (opened h) i 0 < get_or (opened h) k 0
  later_job i k p q = opened_rise h jobs.turns i k p (let m = jobs.many in omega arith)

  same_job : (i k : ℕ) → i < count → k < count → get_or (opened h) i 0 ≡ get_or (opened h) k 0 → i ≡ k
  same_job i k p q e =
      ⊎_elim (λ l. absurd (let a = later_job i k l q in omega arith))
      (λ f. ⊎_elim (λ l. absurd (let a = later_job k i l p in omega arith)) (λ g. let f' : (i < k) → ⊥ = f in let g' : (k < i) → ⊥ = g in omega arith) (answer (lt_test k i)))
      (answer (lt_test i k))

  module _ (preds : List ℕ) (prec : Preceded h count preds) where
    -- what a mark of a row says
    of_row : (i p : ℕ) → i < count → p < 512 → in_row preds i p ≡ true → Precedes (kept_steps h) (get_or (opened h) p 0) (get_or (opened h) i 0)
    of_row i p q l e = ((and_test (lt_test p count) (precedes_test (kept_steps h) (get_or (opened h) p 0) (get_or (opened h) i 0))).holds (true_is (sym (prec i p q l) ∙ e))).1

    to_row : (i p : ℕ) → i < count → p < count → Precedes (kept_steps h) (get_or (opened h) p 0) (get_or (opened h) i 0) → in_row preds i p ≡ true
    to_row i p q l e =
        prec i p q (let f = jobs.few in omega arith) ∙ test_true (and_test (lt_test p count) (precedes_test (kept_steps h) (get_or (opened h) p 0) (get_or (opened h) i 0))) (l, e)

    module _ {left ready waiting order : List ℕ} {n : ℕ} (u : Underway h count left n order) (s : Sorted preds left ready waiting) where
      -- a job that is left and is not ready has a predecessor that is left
      not_free : (i : ℕ) → i < 512 → mark left i ≡ true → mark ready i ≡ false → (j : ℕ) × (j ∈ u.rest) × Precedes (kept_steps h) j (get_or (opened h) i 0)
      not_free i q e f =
          let r = s.others_wait i q e f in
          (get_or (opened h) r.0 0, (u.inside r.0 r.1 r.2).1, of_row i r.0 (u.inside i q e).0 r.1 r.3)

      module _ {job : ℕ} (q : job < 512) (is_ready : mark ready job ≡ true) where
        job_left : mark left job ≡ true
        job_left = s.ready_left job q is_ready

        job_free : Ready (Precedes (kept_steps h)) u.rest (get_or (opened h) job 0)
        job_free j m e =
            let r = u.from j m in
            not_both (to_row job r.0 (u.inside job q job_left).0 (u.inside r.0 r.1 r.2).0 (subst (λ (x : ℕ). Precedes (kept_steps h) x (get_or (opened h) job 0)) (sym r.3) e))
            (s.ready_free job q is_ready r.0 r.1 r.2)

        job_lowest : ((i : ℕ) → i < job → mark ready i ≡ false) → (j : ℕ) → j ∈ u.rest → Ready (Precedes (kept_steps h)) u.rest j → get_or (opened h) job 0 ≤ j
        job_lowest lower j m f =
            let r = u.from j m in
            let e = r.3 in
            ⊎_elim
            (λ l. let x = lower r.0 l in
            let p = not_free r.0 r.1 r.2 x in
            absurd (f p.0 p.1 (subst (Precedes (kept_steps h) p.0) e p.2)))
            (λ l. ⊎_elim (λ k. let x = later_job job r.0 k (u.inside r.0 r.1 r.2).0 in omega arith)
            (λ k. let a : (r.0 < job) → ⊥ = l in
            let b : (job < r.0) → ⊥ = k in
            let z : get_or (opened h) job 0 ≡ get_or (opened h) r.0 0 = ap (λ (i : ℕ). get_or (opened h) i 0) (omega arith) in
            omega arith) (answer (lt_test job r.0)))
            (answer (lt_test r.0 job))

        -- the lowest ready job is placed
        pub underway_turn : ((i : ℕ) → i < job → mark ready i ≡ false) → {left' : List ℕ} → Struck job left left' → n < length order
            → Underway h count left' (n + 1) (set order n (get_or numbers job 0))
        underway_turn lower {left'} st l =
            let a = u.inside job q job_left in
            let j = get_or (opened h) job 0 in
            let e : get_or numbers job 0 ≡ j = jobs.named job a.0 in
            record {
              rest = strike j u.rest;
              once = once_strike j u.once;
              inside = λ i p m.
                  let x = struck_from job left left' st i m in
                  let y = u.inside i p x.0 in
                  (y.0, strike_keeps y.1 (λ z. x.1 (same_job i job y.0 a.0 z)));
              from = λ k m.
                  let x = strike_from j u.rest m in
                  let r = u.from k x.0 in
                  (r.0, r.1, struck_keeps job left left' st r.0 r.2 (λ z. x.1 (sym r.3 ∙ ap (λ (i : ℕ). get_or (opened h) i 0) z)), r.3);
              apart = λ k m p.
                  let x = strike_from j u.rest m in
                  ⊎_elim (u.apart k x.0) (λ r. x.1 (Memᴰ.eq_of_singleton r ∙ e))
                  (Memᴰ.append_cases (take n order) (subst (λ (z : List ℕ). k ∈ z) (entry_new order n (get_or numbers job 0) l) p));
              long = let x = u.long in let y = strike_one u.once a.1 in omega arith;
              so_far = λ t w.
                  subst (LowestFirst (Precedes (kept_steps h)) (kept h)) (sym (entry_more order n (get_or numbers job 0) t l ∙ ap (λ (x : ℕ). take n order ++ x ∷ t) e))
                  (u.so_far (j ∷ t) (next a.1 job_free (job_lowest lower) w));
            }

        -- and its place is noted
        pub underway_placed : (places : List ℕ) → Placed h count (take n order) places → n < length order → job < length places
            → Placed h count (take (n + 1) (set order n (get_or numbers job 0))) (set places job (n + 1))
        underway_placed places placed l long =
            let a = u.inside job q job_left in
            subst (λ (z : List ℕ). Placed h count z (set places job (n + 1))) (sym (entry_new order n (get_or numbers job 0) l))
            (placed_more jobs (take n order) places (get_or numbers job 0) job n placed a.0 refl (λ m. u.apart (get_or (opened h) job 0) a.1 (Memᴰ.cast (sym (jobs.named job a.0)) m)) (length-take-le n order (omega arith)) long)

      -- no job is ready, and some are left
      pub underway_stuck : n < length (kept h) → ((i : ℕ) → i < 512 → mark ready i ≡ false) → Circular (kept_steps h)
      underway_stuck l f = go u.rest refl
        where
          go : (k : List ℕ) → u.rest ≡ k → Circular (kept_steps h)
          go [] e = absurd (let x = u.long in let y = ap length e in omega arith)
          go (x ∷ k) e =
              stuck x k (λ j m.
              let r = u.from j (subst (λ (z : List ℕ). j ∈ z) (sym e) m) in
              let p = not_free r.0 r.1 r.2 (f r.0 r.1) in
              (p.0, subst (λ (z : List ℕ). p.0 ∈ z) e p.1, one (subst (Precedes (kept_steps h) p.0) r.3 p.2)))

  -- all are placed
  pub underway_end : {left order : List ℕ} {n : ℕ} → Underway h count left n order → n ≡ length (kept h) → order_of h ≡ some (take n order)
  underway_end {left} {order} {n} u z = go u.rest refl
    where
      go : (k : List ℕ) → u.rest ≡ k → order_of h ≡ some (take n order)
      go [] e = lowest_order h jobs.turns (subst (LowestFirst (Precedes (kept_steps h)) (kept h)) (append-nil (take n order)) (u.so_far [] (subst (λ (k : List ℕ). LowestFirst (Precedes (kept_steps h)) k []) (sym e) done)))
      go (x ∷ k) e = absurd (let x = u.long in let y = ap length e in omega arith)

-- a circle excludes an order
pub circle_none : (h : History) → Turns h → Circular (kept_steps h) → order_of h ≡ none
circle_none h t c = go (order_of h) refl
  where
    go : (o : Option (List ℕ)) → order_of h ≡ o → o ≡ none
    go none e = refl
    go (some o) e = absurd (accepted_no_circle h t (order_accepted h t e) c)

-- ---- as the contract has it

module _ (h : History) (turns : Turns h) (count : ℕ) (order places : List ℕ) (n : ℕ) (placed : Placed h count (take n order) places) where
  -- all are placed
  pub lists_all : n ≡ length (kept h) → order_of h ≡ some (take n order) → Lists h count order places
  lists_all z e =
      record {
        many = n;
        places = placed;
        stuck = λ m. absurd (not_both m (test_false (missing_test (kept h) (take n order)) (λ f. f (order_accepted h turns e).names)));
        found = λ m. e ∙ ap (λ (k : ℕ). some (take k order)) z;
      }

  -- fewer are placed than kept
  pub lists_none : n < length (kept h) → order_of h ≡ none → Lists h count order places
  lists_none l e =
      record {
        many = n;
        places = placed;
        stuck = λ m. e;
        found = λ m. absurd (not_both (test_true (missing_test (kept h) (take n order)) (λ all. let x = once_le (kept_once h turns) all in let y = length-take n order in omega arith)) m);
      }
