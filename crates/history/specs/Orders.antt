-- An order of jobs, its layout, and what it means that an order is accepted.
--
-- The layout of an order: each job's steps as the log had them, from its opening to its end, job after job. An order is accepted when it names each
-- kept job once and nothing else, and its layout keeps every conflicting pair as the log had it: so also an end and an opening after it, which is that
-- a job that had ended when another was opened stands before it (`real_time` of Promises).
-- Assumes nothing.
use Rattle.std.specs.Prelude.{List, [], ◌∷◌, ◌++◌, ℕ, eqb}
use Rattle.std.proofs.Math.Option.{Option}
use Rattle.graph.specs.Lists.{◌∈◌, only, Before, Once}
use Rattle.graph.specs.Listing.{lowest_first}
use Rattle.history.specs.Events.{History, Step, kept, kept_steps, Conflict, precedes}

-- the steps of one job
abbrev pub of_job : ℕ → List Step → List Step
of_job j s = only (λ a. eqb a.job j) s

abbrev pub layout : List Step → List ℕ → List Step
layout s [] = []
layout s (j ∷ order) = of_job j s ++ layout s order

-- every conflicting pair of s stands in t as it stood in s
abbrev pub Keeps : List Step → List Step → Type 0
Keeps s t = (a b : Step) → Before a b s → Conflict a b → Before a b t

pub record Accepted (h : History) (order : List ℕ) : Type 0 where
  pub once : Once order
  pub names : (j : ℕ) → j ∈ kept h → j ∈ order
  pub named : (j : ℕ) → j ∈ order → j ∈ kept h
  pub keeps : Keeps (kept_steps h) (layout (kept_steps h) order)

-- the order of a history: the lowest-first one of its kept jobs, or none
unfoldable pub order_of : History → Option (List ℕ)
order_of h = lowest_first (precedes (kept_steps h)) (kept h)
