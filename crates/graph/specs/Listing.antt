-- Orders of a list of jobs under an edge relation, and the lowest-first one, as a property and computed.
--
-- `Forward E l o`: o names each job of l once and nothing else, and every edge between jobs of l goes forward in it.
-- `LowestFirst E l o`: each place of o has, of the jobs of l that are left and that no job left precedes, the one with the lowest number.
-- `lowest_first e l` computes it, or none where it gets stuck. `forced e l o` tests that one job only could stand at each place of o.
-- Assumes nothing.
use Rattle.std.specs.Prelude.{◌≡◌, refl, Bool, true, false, not, ◌&&◌, ◌||◌, cond, List, [], ◌∷◌, ℕ, zero, suc, ◌≤◌, leb, eqb, length}
use Rattle.std.proofs.Math.Option.{Option, none, some}
use Rattle.graph.specs.Decide.{some_of, every_of}
use Rattle.graph.specs.Lists.{◌∈◌, Before, Once, strike}

-- ---- what an order is

-- no job of l precedes j: with l the jobs not yet placed, all of j's predecessors are placed
abbrev pub Ready : (ℕ → ℕ → Type 0) → List ℕ → ℕ → Type 0
Ready E l j = (i : ℕ) → i ∈ l → E i j → ⊥

pub record Forward (E : ℕ → ℕ → Type 0) (l o : List ℕ) : Type 0 where
  pub once : Once o
  pub names : (j : ℕ) → j ∈ l → j ∈ o
  pub named : (j : ℕ) → j ∈ o → j ∈ l
  pub forward : (i j : ℕ) → i ∈ l → j ∈ l → E i j → Before i j o

pub data LowestFirst (E : ℕ → ℕ → Type 0) : List ℕ → List ℕ → Type 0 where
  done : LowestFirst E [] []
  next : {j : ℕ} {l o : List ℕ} → j ∈ l → Ready E l j → ((i : ℕ) → i ∈ l → Ready E l i → j ≤ i) → LowestFirst E (strike j l) o → LowestFirst E l (j ∷ o)

-- ---- the same, computed

unfoldable pub ready : (ℕ → ℕ → Bool) → List ℕ → ℕ → Bool
ready e l j = not (some_of (λ i. e i j) l)

abbrev pub lower : ℕ → Option ℕ → ℕ
lower j none = j
lower j (some k) = cond (leb j k) j k

-- the lowest of the jobs js that is ready among l
abbrev pub lowest_ready : (ℕ → ℕ → Bool) → List ℕ → List ℕ → Option ℕ
lowest_ready e l [] = none
lowest_ready e l (j ∷ js) = cond (ready e l j) (some (lower j (lowest_ready e l js))) (lowest_ready e l js)

abbrev pub prepend : ℕ → Option (List ℕ) → Option (List ℕ)
prepend j none = none
prepend j (some o) = some (j ∷ o)

abbrev pub place : Option ℕ → (ℕ → Option (List ℕ)) → Option (List ℕ)
place none rest = none
place (some j) rest = prepend j (rest j)

-- `n` is how many jobs are left at most
abbrev pub listing : (ℕ → ℕ → Bool) → ℕ → List ℕ → Option (List ℕ)
listing e zero l = some []
listing e (suc n) [] = some []
listing e (suc n) (x ∷ l) = place (lowest_ready e (x ∷ l) (x ∷ l)) (λ j. listing e n (strike j (x ∷ l)))

-- the lowest-first order of l, or none where the listing gets stuck
unfoldable pub lowest_first : (ℕ → ℕ → Bool) → List ℕ → Option (List ℕ)
lowest_first e l = listing e (length l) l

-- at each place of o stands the only job of l that is ready
abbrev pub forced : (ℕ → ℕ → Bool) → List ℕ → List ℕ → Bool
forced e [] [] = true
forced e (x ∷ l) [] = false
forced e l (j ∷ o) = some_of (λ i. eqb i j) l && (every_of (λ i. not (ready e l i) || eqb i j) l && forced e (strike j l) o)

-- ---- small graphs: no edge; one edge, from 3 to 1; a circle

pub lowest_of_free : lowest_first (λ i j. false) (1 ∷ 2 ∷ 3 ∷ []) ≡ some (1 ∷ 2 ∷ 3 ∷ [])
unfolding lowest_first ready strike
lowest_of_free = refl

pub lowest_of_edge : lowest_first (λ i j. eqb i 3 && eqb j 1) (1 ∷ 2 ∷ 3 ∷ []) ≡ some (2 ∷ 3 ∷ 1 ∷ [])
unfolding lowest_first ready strike
lowest_of_edge = refl

pub lowest_of_circle : lowest_first (λ i j. not (eqb i j)) (1 ∷ 2 ∷ []) ≡ none
unfolding lowest_first ready strike
lowest_of_circle = refl
