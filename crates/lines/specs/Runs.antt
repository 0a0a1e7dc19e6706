-- A run of requests by any profile: what they are answered and what state they leave, by the rule of one request; and what the contract of its lines says.
-- Assumes nothing.
use Rattle.std.specs.Prelude.{Bool, List, [], ◌∷◌, ℕ, length, Option}
use Rattle.graph.specs.Lists.{only}
use Rattle.history.specs.Formats.{records}
use Rattle.history.specs.Replies.{Request, Reply}
use Rattle.held.specs.Held.{Held}
use Rattle.lines.specs.Lines.{lines}
use Rattle.lines.specs.Writes.{roomy, Leaves}
use Rattle.lines.specs.declared.Written.{Written}

-- the replies in order, and the state that is left
abbrev pub replies_by : (Held → Request → Reply) → (Held → Request → Held) → Held → List Request → List Reply
replies_by answer next h [] = []
replies_by answer next h (r ∷ rs) = answer h r ∷ replies_by answer next (next h r) rs

abbrev pub state_by : (Held → Request → Held) → Held → List Request → Held
state_by next h [] = h
state_by next h (r ∷ rs) = state_by next (next h r) rs

-- what a run comes to that gives so many bytes for these replies
abbrev pub comes_to : (Reply → Bool) → List ℕ → List Reply → Written
comes_to counted bytes replies = record { bytes = length bytes; counted = length (only counted replies) }

-- the run of the whole records of an input
abbrev pub WritesBy : (Held → Request → Reply) → (Held → Request → Held) → (Reply → Bool) → ℕ → Held → List ℕ → List ℕ → Option Written → Held → List ℕ → Type 0
WritesBy answer next counted p h input out r h' out' =
    let replies = replies_by answer next h (records input) in
    let bytes = lines p replies in
    Leaves (roomy p input out) (comes_to counted bytes replies) bytes out h (state_by next h (records input)) r h' out'
