-- The search by halves: of `size` numbers from `low` on, the first is at most the job's unless it is the first of all, and what lies past them is above it.
-- Assumes nothing.
use Rattle.std.specs.Prelude.{◌≡◌, refl, cond, List, ℕ, ◌+◌, ◌-◌, ◌*◌, ◌≤◌, ◌<◌, leb, get_or}
use Rattle.std.proofs.Common.{sym, ap, subst, inr, ⊎_elim, eq-or-lt_of_le, arith}
use Rattle.graph.specs.Decide.{answer, le_test, lt_test, by_test}
use Rattle.tallies.specs.Jobs.{Rises, Finds}

-- ---- how far the search goes up

-- a number, or nothing of it
pub times_most : {n q : ℕ} → q ≤ 1 → n * q ≤ n
times_most {n} {q} l =
    ⊎_elim (λ e. let x : n * q ≡ n * 1 = ap (λ (k : ℕ). n * k) e in omega arith) (λ p. let x : n * q ≡ n * 0 = ap (λ (k : ℕ). n * k) (omega arith) in omega arith) (eq-or-lt_of_le l)

pub times_test : (n i j : ℕ) {q : ℕ} → (i ≤ j → q ≡ 1) → (j < i → q ≡ 0) → n * q ≡ cond (leb i j) n 0
times_test n i j {q} f g =
    by_test (λ b. n * q ≡ cond b n 0) (le_test i j)
    (λ l. let x : n * q ≡ n * 1 = ap (λ (k : ℕ). n * k) (f l) in omega arith)
    (λ h. let x : n * q ≡ n * 0 = ap (λ (k : ℕ). n * k) (g (let y : (i ≤ j) → ⊥ = h in omega arith)) in omega arith)

-- ---- the turns of the search

pub record Halving (count job : ℕ) (l : List ℕ) (low size : ℕ) : Type 0 where
  pub inside : low + size ≤ count
  pub some : 0 < count → 0 < size
  pub lower : 0 < low → get_or l low 0 ≤ job
  pub upper : Rises count l → (i : ℕ) → low + size ≤ i → i < count → job < get_or l i 0

pub halving_start : (count job : ℕ) (l : List ℕ) → Halving count job l 0 count
halving_start count job l =
    record {
      inside = omega arith;
      some = λ q. q;
      lower = λ q. absurd (omega arith);
      upper = λ r i p q. absurd (omega arith);
    }

-- a turn: where the number in the middle is at most the job's the search goes up to it, and else what lies from it on is above
pub halving_turn : {count job : ℕ} {l : List ℕ} {low size : ℕ} → Halving count job l low size → (half : ℕ) → 0 < half → half + half ≤ size → {up : ℕ} → up ≡ cond (leb (get_or l (low + half) 0) job) half 0
    → Halving count job l (low + up) (size - half)
halving_turn {count} {job} {l} {low} {size} s half p q {up} e =
    subst (λ (n : ℕ). Halving count job l (low + n) (size - half)) (sym e)
    (by_test (λ b. Halving count job l (low + cond b half 0) (size - half)) (le_test (get_or l (low + half) 0) job) higher
    (λ f. subst (λ (n : ℕ). Halving count job l n (size - half)) (let z : low ≡ low + 0 = omega arith in z) (stays f)))
  where
    higher : get_or l (low + half) 0 ≤ job → Halving count job l (low + half) (size - half)
    higher b =
        record {
          inside = let x = s.inside in omega arith;
          some = λ n. omega arith;
          lower = λ n. b;
          upper = λ r i m n. s.upper r i (omega arith) n;
        }

    stays : (get_or l (low + half) 0 ≤ job → ⊥) → Halving count job l low (size - half)
    stays f =
        let b : job < get_or l (low + half) 0 = (let g : (get_or l (low + half) 0 ≤ job) → ⊥ = f in omega arith) in
        record {
          inside = let x = s.inside in omega arith;
          some = λ n. omega arith;
          lower = s.lower;
          upper = λ r i m n. ⊎_elim (λ e. subst (λ (k : ℕ). job < get_or l k 0) e b) (λ k. let a = r (low + half) i k n in omega arith) (eq-or-lt_of_le (omega arith));
        }

-- at most one number is left
module _ {count job : ℕ} {l : List ℕ} {low size : ℕ} (s : Halving count job l low size) where
  -- it is another
  pub halved_other : size ≤ 1 → low < count → (get_or l low 0 ≡ job → ⊥) → Rises count l → Finds count l job count
  halved_other one p f r = inr (refl, λ i q e. ⊎_elim (λ m. below i m e) (λ m. ⊎_elim (λ o. f (subst (λ (k : ℕ). get_or l k 0 ≡ job) (sym o) e)) (λ o. above i o q e) (eq-or-lt_of_le (let g : (i < low) → ⊥ = m in omega arith))) (answer (lt_test i low)))
    where
      below : (i : ℕ) → i < low → get_or l i 0 ≡ job → ⊥
      below i m e = let a = r i low m p in let b = s.lower (omega arith) in omega arith

      above : (i : ℕ) → low < i → i < count → get_or l i 0 ≡ job → ⊥
      above i m q e = let a = s.upper r i (omega arith) q in omega arith

  -- there is none, and there was none
  pub halved_none : count ≤ low → Finds count l job count
  halved_none p = inr (refl, λ i q e. let a = s.some (omega arith) in let b = s.inside in omega arith)
