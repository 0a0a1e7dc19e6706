-- The words in which the theorems of proofs/ListingLaws.antt are said.
-- Assumes nothing.
use Rattle.std.specs.Prelude.{ℕ}
use Rattle.std.proofs.Math.Option.{Option, none, some}
use mathlib.Core.List.{List}
use Rattle.graph.specs.Lists.{◌∈◌}
use Rattle.graph.specs.Walk.{Circle}
use Rattle.graph.specs.Listing.{LowestFirst}

abbrev pub Preceded : (ℕ → ℕ → Type 0) → List ℕ → ℕ → Type 0
Preceded E l j = (i : ℕ) × (i ∈ l) × E i j

-- what `lowest_first` finds: the lowest-first order, or none, as there is a circle
pub data Listed (E : ℕ → ℕ → Type 0) (l : List ℕ) : Option (List ℕ) → Type 0 where
  found : {o : List ℕ} → LowestFirst E l o → Listed E l (some o)
  stuck_at : Circle E → Listed E l none
