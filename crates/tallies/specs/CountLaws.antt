-- Counting the kept jobs of a table, job by job (`Counting`); and of the table of a history this is whether an order lacks a kept job, and how many are kept (`kept_told`).
-- Assumes nothing.
use Rattle.std.specs.Prelude.{◌≡◌, refl, ◌⊎◌, Bool, true, false, not, ◌&&◌, ◌||◌, cond, List, ℕ, zero, suc, ◌+◌, ◌≤◌, ◌<◌, eqb, length, get_or}
use Rattle.std.proofs.Common.{sym, ap, ◌∙◌, subst, inl, inr, ⊎_elim, eq-or-lt_of_le, add-one, arith}
use Rattle.graph.specs.Decide.{Decides, and_test, not_test, eq_test, answer, test_true, test_false}
use Rattle.history.specs.Events.{History, kept}
use Rattle.verdicts.specs.Verdicts.{missing}
use Rattle.tallies.specs.Jobs.{Jobs}
use Rattle.tallies.specs.Places.{Placed}
use Rattle.tallies.specs.Counts.{kept_below, unplaced}
use Rattle.tallies.specs.PlaceLaws.{Counted, counted_start, counted_end, one_missing, counts_one, counts_none}

module _ (states placed : List ℕ) where
  -- a kept job without a place
  lacks_test : (i : ℕ) → Decides (not (eqb (get_or states i 0) 4) && eqb (get_or placed i 0) 0) ((get_or states i 0 ≡ 4 → ⊥) × (get_or placed i 0 ≡ 0))
  lacks_test i = and_test (not_test (eq_test (get_or states i 0) 4)) (eq_test (get_or placed i 0) 0)

  -- it is found, however many more are looked at
  pub unplaced_one : {i : ℕ} → (get_or states i 0 ≡ 4 → ⊥) → get_or placed i 0 ≡ 0 → (n : ℕ) → i < n → unplaced states placed n ≡ true
  unplaced_one {i} f e zero q = absurd (omega arith)
  unplaced_one {i} f e (suc n) q =
      let found : Bool → Bool = λ b. unplaced states placed n || b in
      ⊎_elim
      (λ z. ap found (test_true (lacks_test n) (subst (λ (k : ℕ). (get_or states k 0 ≡ 4 → ⊥) × (get_or placed k 0 ≡ 0)) (let x : i ≡ n = omega arith in x) (f, e))) ∙ or-true (unplaced states placed n))
      (λ l. ap (λ (b : Bool). b || (not (eqb (get_or states n 0) 4) && eqb (get_or placed n 0) 0)) (unplaced_one f e n (omega arith)))
      (eq-or-lt_of_le q)
    where
      or-true : (b : Bool) → b || true ≡ true
      or-true true = refl
      or-true false = refl

  -- so many jobs are passed, each kept one with a place
  pub record Counting (i kept : ℕ) : Type 0 where
    pub none : unplaced states placed i ≡ false
    pub many : kept ≡ kept_below states i

  pub counting_start : Counting 0 0
  counting_start = record { none = refl; many = refl }

  module _ {i kept : ℕ} (c : Counting i kept) where
    next_none : ((get_or states i 0 ≡ 4 → ⊥) × (get_or placed i 0 ≡ 0) → ⊥) → unplaced states placed (suc i) ≡ false
    next_none f = ap (λ (b : Bool). b || (not (eqb (get_or states i 0) 4) && eqb (get_or placed i 0) 0)) c.none ∙ test_false (lacks_test i) f

    pub counting_one : (get_or states i 0 ≡ 4 → ⊥) → (get_or placed i 0 ≡ 0 → ⊥) → Counting (i + 1) (kept + 1)
    counting_one f g =
        subst (λ (k : ℕ). Counting k (kept + 1)) (sym (add-one i))
        (record {
          none = next_none (λ w. g w.1);
          many = ap (λ (m : ℕ). m + 1) c.many ∙ sym (ap (λ (b : Bool). kept_below states i + cond b 0 1) (test_false (eq_test (get_or states i 0) 4) f));
        })

    pub counting_none : get_or states i 0 ≡ 4 → Counting (i + 1) kept
    counting_none e =
        subst (λ (k : ℕ). Counting k kept) (sym (add-one i))
        (record {
          none = next_none (λ w. w.0 e);
          many =
              let z : kept_below states i + 0 ≡ kept_below states i = omega arith in
              c.many ∙ sym (ap (λ (b : Bool). kept_below states i + cond b 0 1) (test_true (eq_test (get_or states i 0) 4) e) ∙ z);
        })

module _ {h : History} {numbers states : List ℕ} {count : ℕ} (jobs : Jobs h numbers states count) (order placed : List ℕ) (places : Placed h count order placed) where
  -- a kept job of the first n has no place and is missing, or all of them are counted and named
  abbrev Through : ℕ → Type 0
  Through n = ((unplaced states placed n ≡ true) × (missing (kept h) order ≡ true)) ⊎ (Counting states placed n (kept_below states n) × Counted h order n (kept_below states n))

  through : (n : ℕ) → n ≤ count → Through n
  through zero q = inr (counting_start states placed, counted_start h order)
  through (suc n) q = ⊎_elim
      (λ w. inl (ap (λ (b : Bool). b || (not (eqb (get_or states n 0) 4) && eqb (get_or placed n 0) 0)) w.0, w.1))
      (λ w. ⊎_elim
      (λ e. joined (counting_none states placed w.0 e) (counts_none jobs order placed places (omega arith) w.1 e))
      (λ f. ⊎_elim
      (λ e. inl (unplaced_one states placed f e (suc n) (omega arith), one_missing jobs order placed places (omega arith) f e))
      (λ g. joined (counting_one states placed w.0 f g) (counts_one jobs order placed places (omega arith) w.1 f g))
      (answer (eq_test (get_or placed n 0) 0)))
      (answer (eq_test (get_or states n 0) 4)))
      (through n (omega arith))
    where
      joined : {many : ℕ} → Counting states placed (n + 1) many → Counted h order (n + 1) many → Through (suc n)
      joined {many} a b =
          let both : Counting states placed (suc n) many × Counted h order (suc n) many = subst (λ (k : ℕ). Counting states placed k many × Counted h order k many) (add-one n) (a, b) in
          inr (subst (λ (m : ℕ). Counting states placed (suc n) m × Counted h order (suc n) m) both.0.many both)

  -- the table tells whether a kept job is missing from the order, and else how many are kept
  pub kept_told : ((unplaced states placed count ≡ true) × (missing (kept h) order ≡ true))
      ⊎ ((unplaced states placed count ≡ false) × (missing (kept h) order ≡ false) × (kept_below states count ≡ length (kept h)))
  kept_told = ⊎_elim inl (λ w. let e = counted_end jobs order placed places w.1 refl in inr (w.0.none, e.0, e.1)) (through count (omega arith))
