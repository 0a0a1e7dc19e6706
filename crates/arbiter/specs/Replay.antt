-- What a state by value holds, and what a run of requests answers, in bytes: the replies of the full history, from any first number, to the whole records of the requests.
-- Assumes nothing.
use Rattle.std.specs.Prelude.{cond, List, ◌++◌, ℕ, ◌*◌, ◌/◌, ltb, length, drop, Result}
use Rattle.codes.specs.Codes.{code_in, place_in}
use Rattle.history.specs.Formats.{records, answer_bytes}
use Rattle.history.specs.Replies.{replies}
use Rattle.held.specs.Held.{Held}
use Rattle.slots.specs.Lent.{lent}
use Rattle.arbiter.specs.declared.NoRoom.{NoRoom}
use Rattle.arbiter.specs.declared.State.{State}

abbrev pub held_of : State → Held
held_of s = lent s.next s.free s.numbers s.leads s.sets s.ports

-- a code, a place, and what stands in the lent answers
pub record Written : Type 0 where
  pub code : ℕ
  pub place : ℕ
  pub bytes : List ℕ

-- code 0 and the bytes written, those past them as they were; or 24 where the room is short, and nothing written
unfoldable pub replayed : ℕ → List ℕ → List ℕ → Written
replayed first requests lent =
    let room = 8 * (length requests / 8) in
    cond (ltb (length lent) room) (record { code = 24; place = 0; bytes = lent })
    (record { code = 0; place = room; bytes = answer_bytes (replies first (records requests)) ++ drop room lent })

-- the code and the place of each outcome, with what is then lent
abbrev pub told : Result ℕ NoRoom → List ℕ → Written
told outcome bytes = record { code = code_in (λ _. 24) outcome; place = place_in (λ _. 0) outcome; bytes = bytes }
