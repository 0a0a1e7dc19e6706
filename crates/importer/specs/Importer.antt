-- What the contracts of the import say: the code and place of each answer, and what is known of a text that is read in part and of the log that its symbols fill.
-- Assumes nothing.
use Rattle.std.specs.Prelude.{◌≡◌, List, ℕ, ◌*◌, ◌≤◌, length, take, Option, None, Some, Result, Ok, Err}
use Rattle.history.specs.Events.{read, write, Event, opens, steps, ends, History}
use Rattle.verdicts.specs.Logs.{log_of}
use Rattle.blocks.specs.Blocks.{Filled}
use Rattle.codes.specs.Codes.{code_in, place_in}
use Rattle.logs.specs.Faults.{code_of, place_of}
use Rattle.notation.specs.Parse.{Stand, stand, off, Parsed, wrong, says}
use Rattle.importer.specs.declared.Refusal.{Refusal}
use Rattle.importer.specs.declared.Access.{Access}
use Rattle.importer.specs.declared.Kind.{Kind}
use Rattle.importer.specs.declared.Stand.{Stand as Standing}
use Rattle.importer.specs.declared.Symbol.{Symbol}

-- document 02's code and place of each refusal
abbrev pub refusal_code : Refusal → ℕ
refusal_code (Refusal.Text p) = 26
refusal_code (Refusal.Log f) = code_of f
refusal_code Refusal.NoRoom = 24

abbrev pub refusal_place : Refusal → ℕ
refusal_place (Refusal.Text p) = p
refusal_place (Refusal.Log f) = place_of f
refusal_place Refusal.NoRoom = 0

-- and of each answer, with what then stands in the lent bytes: of a log code 0 and the count of its bytes
abbrev pub answered : Result ℕ Refusal → List ℕ → Filled
answered r lent = record { code = code_in refusal_code r; place = place_in refusal_place r; bytes = lent }

-- the kind of a symbol with a cell, as in a record of a log
abbrev pub access_number : Access → ℕ
access_number Access.Read = 2
access_number Access.Write = 3

-- and of any symbol
abbrev pub kind_number : Kind → ℕ
kind_number Kind.Begin = 1
kind_number Kind.End = 4
kind_number (Kind.Step a) = access_number a

-- what a letter says, 0 where the byte is none
abbrev pub letter_number : Option Kind → ℕ
letter_number None = 0
letter_number (Some k) = kind_number k

-- the four numbers of a stand
abbrev pub as_read : Standing → Stand
as_read Standing.Start = stand 0 0 0 0
as_read Standing.Blank = stand 1 0 0 0
as_read (Standing.Letter k) = stand 2 (kind_number k) 0 0
as_read (Standing.Job k j) = stand 3 (kind_number k) j 0
as_read (Standing.Bracket a j) = stand 4 (access_number a) j 0
as_read (Standing.Cell a j c) = stand 5 (access_number a) j c
as_read (Standing.Closed a j c) = stand 6 (access_number a) j c

-- and of the next one, where there is one
abbrev pub as_next : Option Standing → Stand
as_next None = off
as_next (Some s) = as_read s

-- a symbol is begun there, and what follows is no blank
abbrev pub Inside : Standing → Type 0
Inside s = (2 ≤ (as_read s).phase) × ((as_read s).phase ≤ 6)

-- the event of a symbol
abbrev pub event_of : Symbol → Event
event_of (Symbol.Begin j) = opens j
event_of (Symbol.End j) = ends j
event_of (Symbol.Step Access.Read j c) = steps read j c
event_of (Symbol.Step Access.Write j c) = steps write j c

-- the count of the events, and their log in the first bytes of those lent for 4,096 records, while they are no more
pub record Holds (h : History) (count : ℕ) (log : List ℕ) : Type 0 where
  pub many : count ≡ length h
  pub there : count ≤ 4096 → take (count * 8) log ≡ log_of h

-- what was found is what the text is read as, and the log holds the events
abbrev pub Given : Result ℕ Refusal → Parsed → List ℕ → Type 0
Given (Err e) a log = (p : ℕ) × (e ≡ Refusal.Text p) × (a ≡ wrong p)
Given (Ok n) a log = (h : History) × (a ≡ says h) × Holds h n log
