-- What jobs read and leave: a list of steps run over cells that hold values of any type.
--
-- A read shows its job the cell's value. A write puts down a value that its job computes, by any function whatever, from which write it is
-- and from everything the job has read so far. An add raises the cell's value by an amount that its job computes in the same way; how a value is raised is any function whatever too.
-- An opening and an end do nothing to the cells and show nothing. The last write of a cell in a list of steps, and the adds since.
-- Assumes nothing.
use Rattle.std.specs.Prelude.{◌≡◌, Bool, true, false, ◌&&◌, cond, List, [], ◌∷◌, ◌++◌, ℕ, eqb}
use Rattle.std.proofs.Math.Option.{Option, none, some}
use Rattle.graph.specs.Lists.{◌∈◌}
use Rattle.history.specs.Events.{read, write, add, Deed, does, opening, ending, Step}

-- what a read has shown
pub record Sight {ℓ} (X : Type ℓ) : Type ℓ where
  pub step : Step
  pub value : X

-- the cells, and what each job has read so far, the oldest first
pub record World {ℓ} (X : Type ℓ) : Type ℓ where
  pub holds : ℕ → X
  pub seen : ℕ → List (Sight X)

-- what a write puts down, and by what an add raises its cell
abbrev pub Program {ℓ} : Type ℓ → Type ℓ
Program X = Step → List (Sight X) → X

-- a value raised by an amount
abbrev pub Raise {ℓ} : Type ℓ → Type ℓ
Raise X = X → X → X

-- two raises can change places
abbrev pub AnyOrder {ℓ} : {X : Type ℓ} → Raise X → Type ℓ
AnyOrder {X = X} raise = (x a b : X) → raise (raise x a) b ≡ raise (raise x b) a

-- a table with one entry changed
unfoldable pub put {ℓ} : {X : Type ℓ} → ℕ → X → (ℕ → X) → ℕ → X
put i x f n = cond (eqb n i) x (f n)

unfoldable pub act_as {ℓ} : {X : Type ℓ} → Deed → Raise X → Program X → Step → World X → World X
act_as (does read) raise f a w = record { holds = w.holds; seen = put a.job (w.seen a.job ++ record { step = a; value = w.holds a.cell } ∷ []) w.seen }
act_as (does write) raise f a w = record { holds = put a.cell (f a (w.seen a.job)) w.holds; seen = w.seen }
act_as (does add) raise f a w = record { holds = put a.cell (raise (w.holds a.cell) (f a (w.seen a.job))) w.holds; seen = w.seen }
act_as opening raise f a w = w
act_as ending raise f a w = w

abbrev pub run {ℓ} : {X : Type ℓ} → Raise X → Program X → List Step → World X → World X
run raise f [] w = w
run raise f (a ∷ s) w = run raise f s (act_as a.deed raise f a w)

-- the cells as given, and nothing read yet
abbrev pub start {ℓ} : {X : Type ℓ} → (ℕ → X) → World X
start g = record { holds = g; seen = λ j. [] }

-- ---- the last write of a cell

abbrev pub or_before : {X : Type 0} → Option X → Option X → Option X
or_before (some x) y = some x
or_before none y = y

abbrev pub writes_by : Deed → Bool
writes_by (does read) = false
writes_by (does write) = true
writes_by (does add) = false
writes_by opening = false
writes_by ending = false

unfoldable pub writes_at : ℕ → Step → Bool
writes_at c a = eqb a.cell c && writes_by a.deed

abbrev pub last_write : ℕ → List Step → Option Step
last_write c [] = none
last_write c (a ∷ s) = or_before (last_write c s) (cond (writes_at c a) (some a) none)

-- ---- the adds since

abbrev pub adds_by : Deed → Bool
adds_by (does read) = false
adds_by (does write) = false
adds_by (does add) = true
adds_by opening = false
adds_by ending = false

unfoldable pub adds_at : ℕ → Step → Bool
adds_at c a = eqb a.cell c && adds_by a.deed

abbrev pub is_none : {X : Type 0} → Option X → Bool
is_none (some x) = false
is_none none = true

-- the adds on a cell that no write of it comes after: those after its last write, or all where there is none
abbrev pub adds_since : ℕ → List Step → List Step
adds_since c [] = []
adds_since c (a ∷ s) = cond (adds_at c a && is_none (last_write c s)) (a ∷ adds_since c s) (adds_since c s)

-- ---- the same in a cell

-- the same steps, in any order
pub record SameSteps (s t : List Step) : Type 0 where
  pub there : (a : Step) → a ∈ s → a ∈ t
  pub back : (a : Step) → a ∈ t → a ∈ s

-- what is in the cell comes from the same steps: the same last write, or none in both, and the same adds since
pub record SameSources (c : ℕ) (s t : List Step) : Type 0 where
  pub last : last_write c s ≡ last_write c t
  pub since : SameSteps (adds_since c s) (adds_since c t)
