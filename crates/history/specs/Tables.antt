-- What the tables of the bounded memory mean, said of a list of kept steps, the ended jobs and the open jobs of a history.
--
-- `Touched`: the job has done that on that cell. `Led`: a chain of precedences whose inner jobs are all ended. `Own`, `Past` and
-- `Leads` are the meaning of the three tables, and `Tells` says that a memory holds exactly them. None asks that there be no circle.
-- Assumes nothing.
use Rattle.std.specs.Prelude.{◌≡◌, List, ℕ}
use Rattle.graph.specs.Decide.{Decides}
use Rattle.graph.specs.Lists.{◌∈◌}
use Rattle.graph.specs.Walk.{Via}
use Rattle.history.specs.Events.{Deed, Step, Precedes, History, kept_steps, ended, open_now}
use Rattle.history.specs.Memory.{Memory}

pub record Touched (s : List Step) (j : ℕ) (d : Deed) (c : ℕ) : Type 0 where
  pub step : Step
  pub granted : step ∈ s
  pub its_job : step.job ≡ j
  pub its_deed : step.deed ≡ d
  pub its_cell : step.cell ≡ c

-- from i to j, directly or by ended jobs only
abbrev pub Led : List Step → List ℕ → ℕ → ℕ → Type 0
Led s gone i j = Via (Precedes s) (λ m. m ∈ gone) i j

-- an open job's own steps
pub record Own (s : List Step) (now : List ℕ) (j : ℕ) (d : Deed) (c : ℕ) : Type 0 where
  pub is_open : j ∈ now
  pub touched : Touched s j d c

-- the steps of the ended jobs that an open job leads to
pub record Past (s : List Step) (gone now : List ℕ) (i : ℕ) (d : Deed) (c : ℕ) : Type 0 where
  pub is_open : i ∈ now
  pub job : ℕ
  pub is_ended : job ∈ gone
  pub walk : Led s gone i job
  pub touched : Touched s job d c

pub record Leads (s : List Step) (gone now : List ℕ) (i j : ℕ) : Type 0 where
  pub from_open : i ∈ now
  pub to_open : j ∈ now
  pub walk : Led s gone i j

pub record TellsOf (s : List Step) (gone now : List ℕ) (m : Memory) : Type 0 where
  pub jobs : m.jobs ≡ now
  pub own : (j : ℕ) (d : Deed) (c : ℕ) → Decides (m.own j d c) (Own s now j d c)
  pub past : (i : ℕ) (d : Deed) (c : ℕ) → Decides (m.past i d c) (Past s gone now i d c)
  pub leads : (i j : ℕ) → Decides (m.leads i j) (Leads s gone now i j)

-- the memory is what the history says
abbrev pub Tells : History → Memory → Type 0
Tells h m = TellsOf (kept_steps h) (ended h) (open_now h) m
