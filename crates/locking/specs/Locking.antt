-- What the contracts of locking say: the reply that an answer by locks is, and what a request leaves, by the rule of the crate locks. Then names for what the private functions ensure:
-- what bars a step, on the lists of numbers that are lent.
-- Assumes nothing.
use Rattle.std.specs.Prelude.{◌≡◌, Bool, not, ◌&&◌, ◌||◌, cond, List, ℕ, ◌+◌, ◌*◌, leb, eqb, get_or}
use Rattle.std.specs.Int.Bits.{bit_or, bit_and}
use Rattle.graph.specs.Decide.{some_of}
use Rattle.history.specs.Replies.{cells, Request, Reply}
use Rattle.held.specs.Held.{Held, as_used, as_altered, own_at, open_slots, at_slot, slot_of}
use Rattle.rows.specs.Rows.{is_open}
use Rattle.std.specs.Prelude.{Result}
use Rattle.slots.specs.Lent.{refusal_code, reply_by}
use Rattle.slots.specs.declared.JobNumber.{JobNumber}
use Rattle.locks.specs.LocksHeld.{lock_answer, lock_next}
use Rattle.locking.specs.declared.LockRefusal.{LockRefusal}
use Rattle.locking.specs.declared.LockRefusal.TheVariants.{PutOff, First}

-- the code and the job of each answer
abbrev pub lock_code : LockRefusal → ℕ
lock_code PutOff = 10
lock_code (First e) = refusal_code e

abbrev pub lock_numbered : Result JobNumber LockRefusal → Reply
lock_numbered = reply_by lock_code

-- what a request leaves: the answer, and the state that is left
pub record Locks (h : Held) (q : Request) (r : Result JobNumber LockRefusal) (g : Held) : Type 0 where
  pub answered : lock_numbered r ≡ lock_answer h q
  pub left : g ≡ lock_next h q

-- ---- what bars a step

-- some other open slot bars the step of slot s on cell c, that alters it or does not
abbrev pub barred_by : Held → Bool → ℕ → ℕ → Bool
barred_by h alters s c = some_of (λ i. not (eqb i s) && (own_at h i as_altered c || (alters && own_at h i as_used c))) (open_slots h)

-- the cell is real, the job is open, and its slot is barred
abbrev pub held_off : Held → Bool → ℕ → ℕ → Bool
held_off h alters j c = not (leb cells c) && at_slot (slot_of h j) (λ s. barred_by h alters s c)

-- the word of row i in which it shows: word p of the own altered cells, and for a step that alters that of the own used cells too
abbrev pub bar_word : List ℕ → Bool → ℕ → ℕ → ℕ
bar_word sets alters p i = cond alters (bit_or (get_or sets (i * 16 + (4 + p)) 0) (get_or sets (i * 16 + p) 0)) (get_or sets (i * 16 + (4 + p)) 0)

-- row i is open, another than s, and its word has a mark
abbrev pub bars : ℕ → List ℕ → Bool → ℕ → ℕ → ℕ → ℕ → Bool
bars free sets alters s p mark i = is_open free i && (not (eqb i s) && not (eqb (bit_and (bar_word sets alters p i) mark) 0))
