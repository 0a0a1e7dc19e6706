-- What the contracts say: the code and place of each answer, and what a batch and its parts leave in lent arrays.
-- Assumes nothing.
use Rattle.std.specs.Prelude.{◌≡◌, cond, ◌⊎◌, List, ℕ, eqb, Result}
use Rattle.codes.specs.Codes.{code_in, place_in}
use Rattle.history.specs.Replies.{Request}
use Rattle.held.specs.Held.{Held, answer_to, after, answers, after_all}
use Rattle.slots.specs.Lent.{lent, refusal_code}
use Rattle.slots.specs.Lent as slots
use Rattle.slots.specs.declared.JobNumber.{JobNumber}
use Rattle.slots.specs.declared.Refusal.{Refusal}
use Rattle.batch.specs.Batch.{Verdict, verdict, item_code, codes, first_refused, batch, batch_leaves}
use Rattle.batch.specs.declared.BatchRefusal.{BatchRefusal}
use Rattle.batch.specs.declared.BatchRefusal.TheVariants.{Length, Item}

-- document 02's code of each refusal, and its place; 0 where the length is wrong
abbrev pub told_code : BatchRefusal → ℕ
told_code Length = 25
told_code (Item e p) = refusal_code e

abbrev pub told_place : BatchRefusal → ℕ
told_place Length = 0
told_place (Item e p) = p

-- those of each answer; of a grant code 0 and the count
abbrev pub numbered : Result ℕ BatchRefusal → Verdict
numbered r = verdict (code_in told_code r) (place_in told_place r)

-- a batch in place: what it answers, and the state then in the arrays. The next number, the free slots and the ports stay, since no item opens a job or ends one
pub record Batches (h : Held) (bytes : List ℕ) (r : Result ℕ BatchRefusal) (numbers leads sets : List ℕ) : Type 0 where
  pub answered : numbered r ≡ batch h bytes
  pub left : lent h.next h.free numbers leads sets h.ports ≡ batch_leaves h bytes

-- the codes of an item that is refused
abbrev pub Refused : ℕ → Type 0
Refused c = (c ≡ 1) ⊎ ((c ≡ 2) ⊎ ((c ≡ 3) ⊎ (c ≡ 7)))

-- ---- its parts

-- one item
pub record Takes (h : Held) (q : Request) (r : Result JobNumber Refusal) (numbers leads sets : List ℕ) : Type 0 where
  pub code : (slots.numbered r).code ≡ item_code q (answer_to h q)
  pub left : lent h.next h.free numbers leads sets h.ports ≡ cond (eqb (slots.numbered r).code 0) (after h q) h
  pub same : numbers ≡ h.numbers

-- the items one after the other until one is refused: what is left is only said where none was
pub record Runs (h : Held) (items : List Request) (r : Result ℕ BatchRefusal) (numbers leads sets : List ℕ) : Type 0 where
  pub answered : numbered r ≡ first_refused 0 (codes items (answers h items))
  pub left : (numbered r).code ≡ 0 → lent h.next h.free numbers leads sets h.ports ≡ after_all h items
  pub same : numbers ≡ h.numbers
