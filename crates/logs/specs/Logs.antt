-- What reading a log leaves.
-- Assumes nothing.
use Rattle.std.specs.Prelude.{◌≡◌, List, ℕ, length, replicate, Result, Ok, Err}
use Rattle.history.specs.Events.{History}
use Rattle.history.specs.Replies.{Request}
use Rattle.verdicts.specs.Logs.{faulty, events, read_log}
use Rattle.tallies.specs.Jobs.{Taken, Takes}
use Rattle.logs.specs.Faults.{code_of, place_of}
use Rattle.logs.specs.declared.Fault.{Fault}
use Rattle.logs.specs.declared.table.Table.{Table}

-- ---- the parts of a table, each lent by itself: the numbers, how the jobs stand, the records told, the count

-- a record: its fault, at its place, or the parts tell of one event more
abbrev pub TookIn : History → ℕ → Request → Result (Unit {0}) Fault → List ℕ → List ℕ → List ℕ → ℕ → Type 0
TookIn h n r (Err e) numbers states told count = Takes h n r (code_of e) numbers states told count × (place_of e ≡ n)
TookIn h n r (Ok u) numbers states told count = Takes h n r 0 numbers states told count

abbrev pub BlankIn : List ℕ → List ℕ → List ℕ → ℕ → Type 0
BlankIn numbers states told count = (numbers ≡ replicate 512 0) × (states ≡ replicate 512 0) × (told ≡ replicate 4096 0) × (count ≡ 0)

-- the log is faulty, or the parts tell of its events
abbrev pub ReadsIn : List ℕ → Result (Unit {0}) Fault → List ℕ → List ℕ → List ℕ → ℕ → Type 0
ReadsIn bytes (Err e) numbers states told count = read_log bytes ≡ faulty (code_of e) (place_of e)
ReadsIn bytes (Ok u) numbers states told count = (h : History) × (read_log bytes ≡ events h) × Taken h (length h) numbers states told count

-- ---- the table

-- so many records are read, as the events h, and the table tells of them
abbrev pub Holds : History → ℕ → Table → Type 0
Holds h n t = Taken h n t.numbers t.states t.told t.count

abbrev pub IsBlank : Table → Type 0
IsBlank t = BlankIn t.numbers t.states t.told t.count

-- ---- a record

abbrev pub request : ℕ → ℕ → ℕ → ℕ → Request
request k b c j = record { kind = k; byte1 = b; cell = c; job = j }

-- its fault, at its place, or the table tells of one event more
abbrev pub Took : History → ℕ → Request → Result (Unit {0}) Fault → Table → Type 0
Took h n r x t = TookIn h n r x t.numbers t.states t.told t.count

-- ---- the reading

-- the log is faulty, or the table tells of its events
abbrev pub Reads : List ℕ → Result (Unit {0}) Fault → Table → Type 0
Reads bytes x t = ReadsIn bytes x t.numbers t.states t.told t.count

-- and of a faulty log the table is blank
abbrev pub Cleared : Result (Unit {0}) Fault → Table → Type 0
Cleared (Err e) t = IsBlank t
Cleared (Ok u) t = Unit {0}

-- the log is faulty, or has events; nothing tells of them
abbrev pub Judged : List ℕ → Result (Unit {0}) Fault → Type 0
Judged bytes (Err e) = read_log bytes ≡ faulty (code_of e) (place_of e)
Judged bytes (Ok u) = (h : History) × (read_log bytes ≡ events h)
