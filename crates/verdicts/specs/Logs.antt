-- The reading of a log: from bytes to the lowest fault, with its code and place, or to the events that its records are.
--
-- A record is eight bytes in the layout of a request: the kind, byte 1, the cell in two bytes and the job in four, low byte first. Code 11 is
-- the length's; after it the earliest record with a fault gives the answer, and of its own faults 12 comes first and 14 last. The log of a history is its events as records.
-- Assumes nothing.
use Rattle.std.specs.Prelude.{Bool, true, false, not, ◌||◌, cond, List, [], ◌∷◌, ◌++◌, ℕ, zero, suc, ◌%◌, leb, ltb, eqb, length}
use Rattle.graph.specs.Decide.{every_of}
use Rattle.history.specs.Events.{Kind, read, write, add, Event, opens, steps, ends, abandons, History, has, opened, open_now, wrote}
use Rattle.history.specs.Formats.{records, bytes_of}
use Rattle.history.specs.Replies.{cells, Request, Want, an_open, a_step, an_end, an_abandon, a_publish, nothing, want, ◌gives◌, first_of, event_of}

-- ---- sizes

-- a record has eight bytes; a log 4,096 records at most, and opens 512 jobs at most
abbrev pub record_bytes : ℕ
record_bytes = 8

abbrev pub most_bytes : ℕ
most_bytes = 32768

abbrev pub most_jobs : ℕ
most_jobs = 512

-- ---- faults of a record, after the events before it

-- 12: a wrong kind, byte 1 not zero, a cell above 255, or a cell that must be 0 and is not. A publish stands in a log as its two records, so its kind is a wrong one
unfoldable pub ill_formed : Want → Request → Bool
ill_formed an_open r = not (eqb r.byte1 0) || not (eqb r.cell 0)
ill_formed (a_step k) r = not (eqb r.byte1 0) || leb cells r.cell
ill_formed an_end r = not (eqb r.byte1 0) || not (eqb r.cell 0)
ill_formed an_abandon r = not (eqb r.byte1 0) || not (eqb r.cell 0)
ill_formed a_publish r = true
ill_formed nothing r = true

-- 13: out of turn: an open whose number is not the highest so far, another record of a job that is not open there, an abandon of a job that wrote or added
unfoldable pub out_of_turn : History → Want → ℕ → Bool
out_of_turn h an_open j = not (every_of (λ i. ltb i j) (opened h))
out_of_turn h (a_step k) j = not (has (open_now h) j)
out_of_turn h an_end j = not (has (open_now h) j)
out_of_turn h an_abandon j = not (has (open_now h) j) || wrote h j
out_of_turn h a_publish j = false
out_of_turn h nothing j = false

-- 14: the 513th open
unfoldable pub too_many : History → Want → Bool
too_many h an_open = leb most_jobs (length (opened h))
too_many h (a_step k) = false
too_many h an_end = false
too_many h an_abandon = false
too_many h a_publish = false
too_many h nothing = false

unfoldable pub fault_of : History → Request → ℕ
fault_of h r =
    let w = want r.kind in
    first_of ((ill_formed w r gives 12) ∷ (out_of_turn h w r.job gives 13) ∷ (too_many h w gives 14) ∷ [])

-- ---- the reading

-- a refusal with its code and place, or the events
pub data Reading : Type 0 where
  faulty : ℕ → ℕ → Reading
  events : History → Reading

-- the events of records that stand from place n on, after the events h
abbrev pub read_from : History → ℕ → List Request → Reading
read_from h n [] = events h
read_from h n (r ∷ rs) =
    let rest = read_from (h ++ event_of r.job (want r.kind) r.job r.cell) (suc n) rs in
    cond (eqb (fault_of h r) 0) rest (faulty (fault_of h r) n)

-- 11: the bytes are not whole records, or are more than 32,768
unfoldable pub read_log : List ℕ → Reading
read_log bytes =
    let good = read_from [] zero (records bytes) in
    cond (not (eqb (length bytes % record_bytes) 0) || ltb most_bytes (length bytes)) (faulty 11 0) good

-- ---- the log of a history

abbrev pub kind_number : Kind → ℕ
kind_number read = 2
kind_number write = 3
kind_number add = 7

abbrev pub fields : ℕ → ℕ → ℕ → List ℕ
fields k c j = k ∷ 0 ∷ (bytes_of 2 c ++ bytes_of 4 j)

-- the cell field is 0 but in a step; the record of an open has the number that it was given
abbrev pub record_of : Event → List ℕ
record_of (opens j) = fields 1 0 j
record_of (steps k j c) = fields (kind_number k) c j
record_of (ends j) = fields 4 0 j
record_of (abandons j) = fields 5 0 j

abbrev pub log_of : History → List ℕ
log_of [] = []
log_of (e ∷ h) = record_of e ++ log_of h
