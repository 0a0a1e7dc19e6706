-- The places of an order, the order that the lister finds, and the highest places that each row has seen.
--
-- A place counts from 1, and 0 is that of a job that is not named. Going through the steps of the kept jobs, each row keeps the highest place among the jobs that have
-- read its cell so far, have written it, have added to it, or have ended: a step whose job stands lower than a job that it conflicts with is the later one of a pair that runs backward.
-- Assumes nothing.
use Rattle.std.specs.Prelude.{◌≡◌, Bool, true, false, ◌&&◌, cond, List, [], ◌∷◌, ℕ, zero, suc, ◌<◌, max, ltb, eqb, length, get_or, take}
use Rattle.std.proofs.Math.Option.{Option, none, some}
use Rattle.history.specs.Events.{Deed, Step, History, opened, kept}
use Rattle.history.specs.Memory.{same_deed}
use Rattle.history.specs.Orders.{order_of}
use Rattle.verdicts.specs.Verdicts.{missing}
use Rattle.tallies.specs.Jobs.{room, row_of, looked}

-- ---- the order

-- one more, and 0 stays
abbrev pub one_on : ℕ → ℕ
one_on zero = zero
one_on (suc n) = suc (suc n)

-- the first place of a job in the list, from 1 on
abbrev pub place_in : List ℕ → ℕ → ℕ
place_in [] j = 0
place_in (x ∷ order) j = cond (eqb x j) 1 (one_on (place_in order j))

-- the list tells the place of each job of the table
abbrev pub Placed : History → ℕ → List ℕ → List ℕ → Type 0
Placed h count order placed = (i : ℕ) → i < count → get_or placed i 0 ≡ place_in order (get_or (opened h) i 0)

-- found at place r, or nowhere where r is the length
abbrev pub found_at : ℕ → ℕ → Option ℕ
found_at r n = cond (ltb r n) (some r) none

-- so many entries have their places; where a kept job is missing from them the history has no order, and else its order stands in the list
pub record Lists (h : History) (count : ℕ) (order placed : List ℕ) : Type 0 where
  pub many : ℕ
  pub places : Placed h count (take many order) placed
  pub stuck : missing (kept h) (take many order) ≡ true → order_of h ≡ none
  pub found : missing (kept h) (take many order) ≡ false → order_of h ≡ some (take (length (kept h)) order)

-- ---- the tallies

-- the highest place of a job among those that have done d on that cell
abbrev pub highest : List ℕ → Deed → ℕ → List Step → ℕ
highest order d c [] = 0
highest order d c (a ∷ s) = cond (eqb a.cell c && same_deed a.deed d) (max (place_in order a.job) (highest order d c s)) (highest order d c s)

-- the list has it for each row
abbrev pub Tallied : List ℕ → List Step → List ℕ → Type 0
Tallied order s seen = (d : Deed) (c : ℕ) → c < room d → get_or seen (row_of d c) 0 ≡ highest order d c s

-- do the rows that a step at this row looks at have a place above its own?
abbrev pub stands_low : List ℕ → ℕ → ℕ → Bool
stands_low seen row place = looked (λ x. ltb place (get_or seen x 0)) row
