-- What was granted: events, the kept history, conflict, precedence, circle.
--
-- A history is everything granted so far, the oldest first. A step is a granted read, write or add together with its place in the
-- history, so that two equal requests are two steps. The opening and the end of a job stand in the list of steps too: a job precedes
-- another by a conflict of their reads, writes and adds, or because its end stands before the other's opening (`precedes_exactly` of Promises).
-- Once a job is abandoned none of its steps counts as kept.
-- Each relation stands here twice: as a proposition, to be believed, and as a test that computes, joined by a theorem in EventLaws.
-- Assumes nothing.
use Rattle.std.specs.Prelude.{◌≡◌, Bool, true, false, not, ◌&&◌, ◌||◌, List, [], ◌∷◌, ◌++◌, ℕ, zero, suc, T, eqb}
use Rattle.graph.specs.Decide.{some_of}
use Rattle.graph.specs.Lists.{only, Before, strike}
use Rattle.graph.specs.Walk.{Circle}
use Rattle.graph.specs.Reach.{circular}

-- ---- events

-- the kinds of steps; an add raises what is in its cell
pub data Kind : Type 0 where
  read write add : Kind

abbrev pub kinds : List Kind
kinds = read ∷ write ∷ add ∷ []

-- does a step of this kind change its cell, so that its job can no longer be abandoned?
abbrev pub alters : Kind → Bool
alters read = false
alters write = true
alters add = true

-- what a job does at a place of the history: a read, a write or an add, its opening, its end
pub data Deed : Type 0 where
  does : Kind → Deed
  opening ending : Deed

abbrev pub deeds : List Deed
deeds = does read ∷ does write ∷ does add ∷ opening ∷ ending ∷ []

abbrev pub alters_by : Deed → Bool
alters_by (does k) = alters k
alters_by opening = false
alters_by ending = false

-- the table of clashes of reads, writes and adds: two reads change places, and two adds do; any other two do not
abbrev pub kinds_clash : Kind → Kind → Bool
kinds_clash read read = false
kinds_clash read write = true
kinds_clash read add = true
kinds_clash write read = true
kinds_clash write write = true
kinds_clash write add = true
kinds_clash add read = true
kinds_clash add write = true
kinds_clash add add = false

-- the table of clashes, the earlier of the two first: reads, writes and adds by their kinds; an end and an opening after it; nothing else
abbrev pub clash : Deed → Deed → Bool
clash (does k) (does l) = kinds_clash k l
clash (does k) opening = false
clash (does k) ending = false
clash opening (does l) = false
clash opening opening = false
clash opening ending = false
clash ending (does l) = false
clash ending opening = true
clash ending ending = false

-- each with its job; a step also with its kind and its cell
pub data Event : Type 0 where
  opens : ℕ → Event
  steps : Kind → ℕ → ℕ → Event
  ends : ℕ → Event
  abandons : ℕ → Event

abbrev pub History : Type 0
History = List Event

-- ---- the jobs of a history

-- what the events of a history give, one after the other
abbrev pub gather : {X : Type 0} → (Event → List X) → History → List X
gather f [] = []
gather f (e ∷ h) = f e ++ gather f h

abbrev pub opened_by : Event → List ℕ
opened_by (opens j) = j ∷ []
opened_by (steps k j c) = []
opened_by (ends j) = []
opened_by (abandons j) = []

abbrev pub ended_by : Event → List ℕ
ended_by (opens j) = []
ended_by (steps k j c) = []
ended_by (ends j) = j ∷ []
ended_by (abandons j) = []

abbrev pub abandoned_by : Event → List ℕ
abandoned_by (opens j) = []
abandoned_by (steps k j c) = []
abandoned_by (ends j) = []
abandoned_by (abandons j) = j ∷ []

-- is the job in the list?
abbrev pub has : List ℕ → ℕ → Bool
has l j = some_of (λ i. eqb i j) l

-- the jobs opened, ended, abandoned, each in the order in which they were
unfoldable pub opened : History → List ℕ
opened h = gather opened_by h

unfoldable pub ended : History → List ℕ
ended h = gather ended_by h

unfoldable pub abandoned : History → List ℕ
abandoned h = gather abandoned_by h

-- kept: every opened job but the abandoned ones, whether it has ended or is open
unfoldable pub kept : History → List ℕ
kept h = only (λ j. not (has (abandoned h) j)) (opened h)

-- open now: opened, not ended, not abandoned
unfoldable pub open_now : History → List ℕ
open_now h = only (λ j. not (has (ended h) j)) (kept h)

-- ---- steps

-- a granted read, write or add, an opening or an end, with its place in the history
pub record Step : Type 0 where
  pub at : ℕ
  pub deed : Deed
  pub job : ℕ
  pub cell : ℕ

abbrev pub step_at : ℕ → Deed → ℕ → ℕ → Step
step_at n d j c = record { at = n; deed = d; job = j; cell = c }

-- the step that the event at place n is; openings and ends name no cell, and all stand with cell 0
abbrev pub step_by : ℕ → Event → List Step
step_by n (opens j) = step_at n opening j 0 ∷ []
step_by n (steps k j c) = step_at n (does k) j c ∷ []
step_by n (ends j) = step_at n ending j 0 ∷ []
step_by n (abandons j) = []

-- the steps of events that stand from place n on
abbrev pub steps_from : ℕ → History → List Step
steps_from n [] = []
steps_from n (e ∷ h) = step_by n e ++ steps_from (suc n) h

-- every granted step, opening and end
unfoldable pub all_steps : History → List Step
all_steps h = steps_from zero h

-- the kept history: the steps of jobs that are not abandoned
unfoldable pub kept_steps : History → List Step
kept_steps h = only (λ s. not (has (abandoned h) s.job)) (all_steps h)

-- has the job a granted write or add?
unfoldable pub wrote : History → ℕ → Bool
wrote h j = some_of (λ s. eqb s.job j && alters_by s.deed) (all_steps h)

-- ---- conflict and precedence

-- a conflict of an earlier step and a later one: steps of two jobs on one cell, the deed of the one clashing with that of the other
pub record Conflict (a b : Step) : Type 0 where
  pub others : a.job ≡ b.job → ⊥
  pub same_cell : a.cell ≡ b.cell
  pub clashes : T (clash a.deed b.deed)

unfoldable pub conflict : Step → Step → Bool
conflict a b = not (eqb a.job b.job) && (eqb a.cell b.cell && clash a.deed b.deed)

-- i precedes j: in the list some step of i stands before a step of j that is in conflict with it
pub record Precedes (s : List Step) (i j : ℕ) : Type 0 where
  pub earlier : Step
  pub later : Step
  pub in_order : Before earlier later s
  pub conflicting : Conflict earlier later
  pub earlier_job : earlier.job ≡ i
  pub later_job : later.job ≡ j

abbrev pub precedes : List Step → ℕ → ℕ → Bool
precedes [] i j = false
precedes (a ∷ s) i j = (eqb a.job i && some_of (λ b. eqb b.job j && conflict a b) s) || precedes s i j

-- ---- circle

-- a chain of precedences back to its start; no job precedes itself, so it has two jobs or more
abbrev pub Circular : List Step → Type 0
Circular s = Circle (Precedes s)

-- the jobs that have steps, each once
abbrev pub acting : List Step → List ℕ
acting [] = []
acting (a ∷ s) = a.job ∷ strike a.job (acting s)

unfoldable pub has_circle : List Step → Bool
has_circle s = circular (precedes s) (acting s)
