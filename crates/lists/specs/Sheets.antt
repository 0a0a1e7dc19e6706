-- What the contracts of the morning sheet say. A set of jobs has marks, by their places in the table of jobs; row j of `preds` has the marks of the jobs that precede job j.
-- Assumes nothing.
use Rattle.std.specs.Prelude.{◌≡◌, Bool, true, false, not, ◌&&◌, List, Option, None, Some, Result, Ok, Err, ℕ, ◌<◌, eqb, length, get_or, take}
use Rattle.std.proofs.Math.Option.{none, some}
use Rattle.graph.specs.Lists.{only}
use Rattle.history.specs.Events.{History, kept}
use Rattle.history.specs.Orders.{order_of}
use Rattle.tallies.specs.Marks.{mark, in_row, Put}
use Rattle.lists.specs.declared.Refusal.{Refusal}
use Rattle.lists.specs.declared.Refusal.TheVariants.{NoOrder}

-- a mark that the row and the set have both, and none only where they have none
abbrev pub CommonOf : List ℕ → ℕ → List ℕ → Option ℕ → Type 0
CommonOf rows j words None = (i : ℕ) → i < 512 → mark words i ≡ true → in_row rows j i ≡ false
CommonOf rows j words (Some r) = (r < 512) × (mark words r ≡ true) × (in_row rows j r ≡ true)

-- ---- the jobs that stand as asked for

-- the closure answers the test of each byte; `post` is what it can answer
abbrev pub Asks : {F : Type 0} → (F → ℕ → Bool → Type 0) → F → (ℕ → Bool) → Type 0
Asks post asked p = (x : ℕ) (r : Bool) → x < 256 → post asked x r → r ≡ p x

-- ---- a set that grows along the precedences

-- the job is put into the set: it was not in it, and a job of the set precedes it; or the set stays, as there is no need
pub data LedOn (preds : List ℕ) (job : ℕ) (words words' : List ℕ) : Bool → Type 0 where
  put_in : (i : ℕ) → mark words job ≡ false → i < 512 → mark words i ≡ true → in_row preds job i ≡ true → Put job words words' → LedOn preds job words words' true
  stays_out : words' ≡ words → ((i : ℕ) → i < 512 → mark words i ≡ true → in_row preds job i ≡ true → mark words job ≡ true) → LedOn preds job words words' false

-- the set has grown by no more than the jobs that are led to, and where nothing more is to be put, each of the first `upto` jobs that a job of it precedes is in it
pub record Leading (preds : List ℕ) (count upto : ℕ) (words words' : List ℕ) (more : Bool) : Type 0 where
  pub stays : (i : ℕ) → i < 512 → mark words i ≡ true → mark words' i ≡ true
  pub least : (s : ℕ → Bool) → ((i : ℕ) → i < 512 → mark words i ≡ true → s i ≡ true) → ((j i : ℕ) → j < count → i < 512 → s i ≡ true → in_row preds j i ≡ true → s j ≡ true)
      → (i : ℕ) → i < 512 → mark words' i ≡ true → s i ≡ true
  pub closed : more ≡ false → (j i : ℕ) → j < upto → i < 512 → mark words' i ≡ true → in_row preds j i ≡ true → mark words' j ≡ true

-- if so, a mark is new
abbrev pub Grown : List ℕ → List ℕ → Bool → Type 0
Grown words words' more = more ≡ true → (i : ℕ) × (i < 512) × (mark words i ≡ false) × (mark words' i ≡ true)

-- ---- the jobs outside the set

-- the jobs of l that pass the test are the kept ones that are not in the set
abbrev pub Outside : (ℕ → Bool) → List ℕ → ℕ → List ℕ → List ℕ → Type 0
Outside p l count states words = (i : ℕ) → i < count → p (get_or l i 0) ≡ (not (eqb (get_or states i 0) 4) && not (mark words i))

-- the number is that of a job, of the first `count`
abbrev pub Numbered : List ℕ → ℕ → ℕ → Type 0
Numbered numbers count j = (i : ℕ) × (i < count) × (get_or numbers i 0 ≡ j)

-- the first entries of the sheet are those of the first n of the order that pass the test
abbrev pub Picked : (ℕ → Bool) → List ℕ → ℕ → List ℕ → Type 0
Picked p order n sheet = take (length (only p (take n order))) sheet ≡ only p (take n order)

-- the history has no order, or it stands at the front of the list
abbrev pub Whole : History → List ℕ → Result (Unit {0}) Refusal → Type 0
Whole h order (Err e) = (e ≡ NoOrder) × (order_of h ≡ none)
Whole h order (Ok u) = order_of h ≡ some (take (length (kept h)) order)
