-- The morning sheet: the jobs at rest, in the lister's order.
--
-- A job is at rest when it has ended and no open job leads to it by any chain of precedences. The sheet is the lowest-first order of the jobs at rest. Its
-- answer has the lister's codes: a fault of the log, then 18, which asks for room for the jobs at rest, then 17, which is about the whole log and not about the jobs at
-- rest alone. Places count from 0.
-- Assumes nothing.
use Rattle.std.specs.Prelude.{Bool, not, ◌&&◌, cond, List, ℕ, ltb, length}
use Rattle.std.proofs.Math.Option.{Option, none, some}
use Rattle.graph.specs.Decide.{some_of}
use Rattle.graph.specs.Lists.{◌∈◌, only}
use Rattle.graph.specs.Listing.{lowest_first}
use Rattle.graph.specs.Reach.{reach}
use Rattle.graph.specs.Walk.{Via, Any}
use Rattle.history.specs.Events.{History, has, ended, kept, open_now, kept_steps, Precedes, precedes, acting}
use Rattle.history.specs.Orders.{order_of}
use Rattle.verdicts.specs.Logs.{Reading, faulty, events, read_log}
use Rattle.verdicts.specs.Verdicts.{Listed, refused, written}

-- ---- at rest

-- i leads to j: a chain of one precedence or more, by whatever jobs
abbrev pub Leads : History → ℕ → ℕ → Type 0
Leads h i j = Via (Precedes (kept_steps h)) Any i j

pub record AtRest (h : History) (j : ℕ) : Type 0 where
  pub has_ended : j ∈ ended h
  pub unled : (i : ℕ) → i ∈ open_now h → Leads h i j → ⊥

-- the same, computed
unfoldable pub leads : History → ℕ → ℕ → Bool
leads h i j = reach (precedes (kept_steps h)) (acting (kept_steps h)) i j

unfoldable pub at_rest : History → ℕ → Bool
at_rest h j = has (ended h) j && not (some_of (λ i. leads h i j) (open_now h))

-- ---- the sheet

-- the jobs at rest, as they were opened
unfoldable pub resting : History → List ℕ
resting h = only (at_rest h) (kept h)

-- the lowest-first order of them, or none
unfoldable pub sheet_of : History → Option (List ℕ)
sheet_of h = lowest_first (precedes (kept_steps h)) (resting h)

-- ---- the answer

-- the sheet, or none where the whole log has no order
abbrev pub of_whole : Option (List ℕ) → Option (List ℕ) → Option (List ℕ)
of_whole none sheet = none
of_whole (some order) sheet = sheet

unfoldable pub sheeted : History → List ℕ → Listed
sheeted h lent = cond (ltb (length lent) (length (resting h))) (refused 18 (length (resting h)) lent) (written (of_whole (order_of h) (sheet_of h)) lent)

abbrev pub sheet_in : Reading → List ℕ → Listed
sheet_in (faulty c p) lent = refused c p lent
sheet_in (events h) lent = sheeted h lent

unfoldable pub list_sheet : List ℕ → List ℕ → Listed
list_sheet bytes lent = sheet_in (read_log bytes) lent
