-- Walks decided by computing: `reach e ks p q` tests for a walk from p to q along e whose inner jobs are in ks, by rounds. A round
-- allows one more inner job k, and the lemma `cut` is exactly what a round does.
-- Assumes nothing.
use Rattle.std.proofs.Common.{inl, inr, ⊎_elim}
use Rattle.std.specs.Prelude.{Bool, ◌&&◌, ◌||◌, List, [], ◌∷◌, ℕ}
use mathlib.Core.List.Memᴰ
use Rattle.graph.specs.Decide.{Decides, and_test, or_test, read_as, some_of, some_test}
use Rattle.graph.specs.Lists.{◌∈◌, later}
use Rattle.graph.specs.Walk.{Via, one, step, Any, Circle, relax, cut, uncut}

abbrev pub reach : (ℕ → ℕ → Bool) → List ℕ → ℕ → ℕ → Bool
reach e [] p q = e p q
reach e (k ∷ ks) p q = reach e ks p q || (reach e ks p k && reach e ks k q)

-- some job of js leads back to itself, by way of js alone
unfoldable pub circular : (ℕ → ℕ → Bool) → List ℕ → Bool
circular e js = some_of (λ z. reach e js z z) js

module _ {E : ℕ → ℕ → Type 0} {e : ℕ → ℕ → Bool} (d : (p q : ℕ) → Decides (e p q) (E p q)) where
  bare : {p q : ℕ} → Via E (λ m. m ∈ []) p q → E p q
  bare (one a) = a
  bare (step a h w) = absurd (Memᴰ.not-nil h)

  pub reach_test : (ks : List ℕ) (p q : ℕ) → Decides (reach e ks p q) (Via E (λ m. m ∈ ks) p q)
  reach_test [] p q = read_as (d p q) one bare
  reach_test (k ∷ ks) p q =
      read_as (or_test (reach_test ks p q) (and_test (reach_test ks p k) (reach_test ks k q)))
      (λ w. relax (λ m. ⊎_elim later (λ i. Memᴰ.head i)) (uncut w))
      (λ w. cut (relax (λ m h. ⊎_elim inr inl (Memᴰ.cases_cons h)) w))

  -- where every edge joins jobs of js, the test holds exactly when there is a circle, and a circle is its witness
  module _ (js : List ℕ) (ends : (p q : ℕ) → E p q → (p ∈ js) × (q ∈ js)) where
    within : {p q : ℕ} → Via E Any p q → Via E (λ m. m ∈ js) p q
    within (one a) = one a
    within (step {p = p} {m = m} a h w) = step a (ends p m a).1 (within w)

    starts : {p q : ℕ} → Via E Any p q → p ∈ js
    starts (one {p = p} {q = q} a) = (ends p q a).0
    starts (step {p = p} {m = m} a h w) = (ends p m a).0

    pub circle_test : Decides (circular e js) (Circle E)
    unfolding circular
    circle_test =
        read_as (some_test (λ z. reach_test js z z) js)
        (λ r. (r.0, relax (λ m h. tt) r.2))
        (λ c. (c.0, starts c.1, within c.1))
