-- Events in turn: what each event asks of the history before it. A history of granted requests is in turn; so is a log that is read
-- without a fault. Nothing here asks that there be no circle.
-- Assumes nothing.
use Rattle.std.specs.Prelude.{List, [], ◌∷◌, ◌++◌, ℕ, ◌<◌, T}
use Rattle.graph.specs.Lists.{◌∈◌}
use Rattle.history.specs.Events.{Event, opens, steps, ends, abandons, History, opened, open_now, wrote}
use Rattle.history.specs.Replies.{cells}

-- an open is above all numbers opened before; a step, an end and an abandon are of a job that is open, a step on a real cell, and an
-- abandon of a job that has neither written nor added
abbrev pub InTurn : History → Event → Type 0
InTurn h (opens j) = (i : ℕ) → i ∈ opened h → i < j
InTurn h (steps k j c) = (j ∈ open_now h) × (c < cells)
InTurn h (ends j) = j ∈ open_now h
InTurn h (abandons j) = (j ∈ open_now h) × (T (wrote h j) → ⊥)

-- each event of the second list in turn, after the history h and the events before it
abbrev pub InTurnAfter : History → List Event → Type 0
InTurnAfter h [] = Unit {0}
InTurnAfter h (e ∷ es) = InTurn h e × InTurnAfter (h ++ e ∷ []) es

-- the whole history in turn
abbrev pub Turns : History → Type 0
Turns h = InTurnAfter [] h
