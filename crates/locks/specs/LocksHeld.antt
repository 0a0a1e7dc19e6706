-- Plain locks over what the 32 slots hold, total for any content. The state is the first profile's: what a slot holds stands in its own used and altered cells. A step or
-- publish that another open slot bars is put off, and the state stays; any other request is answered, and moves the state, as in the first profile.
-- Assumes nothing.
use Rattle.std.specs.Prelude.{Bool, not, ◌&&◌, ◌||◌, cond, List, [], ◌∷◌, ℕ, leb, eqb}
use Rattle.graph.specs.Decide.{some_of}
use Rattle.history.specs.Events.{Kind, alters}
use Rattle.history.specs.Replies.{cells, Request, Reply, want}
use Rattle.held.specs.Held.{Held, Aspect, as_used, as_altered, own_at, open_slots, at_slot, slot_of, answer_to, after}
use Rattle.locks.specs.Locks.{of_step}

-- the used and altered cells of another bar a step of kind k on cell c: a read looks at the altered, a write and an add at both
abbrev pub holds_off : (Aspect → ℕ → Bool) → Kind → ℕ → Bool
holds_off f k c = f as_altered c || (alters k && f as_used c)

-- some other open slot bars the step of slot s
unfoldable pub barred : Held → Kind → ℕ → ℕ → Bool
barred h k s c = some_of (λ i. not (eqb i s) && holds_off (own_at h i) k c) (open_slots h)

-- the request is well-formed, its cell is real, its job is open, and its slot is barred
unfoldable pub put_off_at : Held → Request → Bool
put_off_at h r =
    eqb r.byte1 0 && of_step (λ k. not (leb cells r.cell) && at_slot (slot_of h r.job) (λ s. barred h k s r.cell)) (want r.kind)

unfoldable pub lock_answer : Held → Request → Reply
lock_answer h r = cond (put_off_at h r) (record { code = 10; job = 0 }) (answer_to h r)

unfoldable pub lock_next : Held → Request → Held
lock_next h r = cond (put_off_at h r) h (after h r)

abbrev pub lock_answers : Held → List Request → List Reply
lock_answers h [] = []
lock_answers h (r ∷ rs) = lock_answer h r ∷ lock_answers (lock_next h r) rs

abbrev pub lock_state : Held → List Request → Held
lock_state h [] = h
lock_state h (r ∷ rs) = lock_state (lock_next h r) rs
