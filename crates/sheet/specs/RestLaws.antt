-- The words in which the theorems of proofs/RestLaws.antt are said.
-- Assumes nothing.
use Rattle.std.specs.Prelude.{◌⊎◌, ℕ}
use Rattle.graph.specs.Lists.{◌∈◌}
use Rattle.history.specs.Events.{History, open_now, kept_steps, Precedes}
use Rattle.sheet.specs.Sheet.{Leads}

-- a set of jobs that has the open ones and, with a job, every job that it precedes, and no more than that
pub record Moving (h : History) (M : ℕ → Type 0) : Type 0 where
  pub open_in : (i : ℕ) → i ∈ open_now h → M i
  pub passes_on : (i j : ℕ) → M i → Precedes (kept_steps h) i j → M j
  pub no_more : (j : ℕ) → M j → (j ∈ open_now h) ⊎ ((i : ℕ) × (i ∈ open_now h) × Leads h i j)
