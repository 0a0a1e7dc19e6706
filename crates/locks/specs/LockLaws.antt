-- The words in which the theorems of proofs/LockLaws.antt are said.
-- Assumes nothing.
use Rattle.std.specs.Prelude.{List, [], ◌∷◌, ◌++◌}
use Rattle.history.specs.Events.{Event, opens, steps, ends, abandons, History}
use Rattle.history.specs.Turns.{InTurn}
use Rattle.locks.specs.Locks.{HeldUp}

-- a step was not held up
abbrev pub Unheld : History → Event → Type 0
Unheld h (opens j) = Unit {0}
Unheld h (steps k j c) = HeldUp h k j c → ⊥
Unheld h (ends j) = Unit {0}
Unheld h (abandons j) = Unit {0}

-- each event of the second list in turn and not held up, after the history h and the events before it
abbrev pub LockedAfter : History → List Event → Type 0
LockedAfter h [] = Unit {0}
LockedAfter h (e ∷ es) = (InTurn h e × Unheld h e) × LockedAfter (h ++ e ∷ []) es

abbrev pub Locked : History → Type 0
Locked h = LockedAfter [] h
