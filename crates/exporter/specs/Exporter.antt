-- What the contracts of the exporter say: the code and place of each answer, and what the functions that it is made of put down.
-- Assumes nothing.
use Rattle.std.specs.Prelude.{Bool, ◌&&◌, cond, List, [], ◌∷◌, ◌++◌, ℕ, ◌+◌, ◌-◌, ◌/◌, ◌%◌, ◌≤◌, leb, ltb, eqb, get_or, Result}
use Rattle.text.specs.Puts.{Puts}
use Rattle.history.specs.Events.{read, write, Event, opens, steps, ends}
use Rattle.blocks.specs.Blocks.{Filled}
use Rattle.codes.specs.Codes.{code_in, place_in}
use Rattle.logs.specs.Faults.{code_of, place_of}
use Rattle.notation.specs.Notation.{symbol}
use Rattle.exporter.specs.declared.Refusal.{Refusal}
use Rattle.exporter.specs.declared.Refusal.TheVariants.{Log, Add, NoRoom}

-- document 02's code and place of each refusal
abbrev pub refusal_code : Refusal → ℕ
refusal_code (Log f) = code_of f
refusal_code (Add p) = 27
refusal_code NoRoom = 24

abbrev pub refusal_place : Refusal → ℕ
refusal_place (Log f) = place_of f
refusal_place (Add p) = p
refusal_place NoRoom = 0

-- and of each answer, with what then stands in the lent bytes: of a text code 0 and the count of its bytes
abbrev pub answered : Result ℕ Refusal → List ℕ → Filled
answered r lent = record { code = code_in refusal_code r; place = place_in refusal_place r; bytes = lent }

-- the bytes are put at a place, and are at most so many
pub record PutsMost (at most : ℕ) (bytes out out' : List ℕ) (r : ℕ) : Type 0 where
  pub put : Puts at bytes out out' r
  pub few : r ≤ at + most

-- does a number tell of an add? The rows of adds are 512 to 767 of 770, as Jobs in tallies counts them
unfoldable pub add_told : ℕ → Bool
add_told x = leb 513 (x % 770) && leb (x % 770) 768

-- the event of a job at a row, but for the rows of adds, which a log that has a text has none of
unfoldable pub event_at : ℕ → ℕ → Event
event_at row j = cond (ltb row 256) (steps read j row) (cond (ltb row 512) (steps write j (row - 256)) (cond (eqb row 768) (opens j) (ends j)))

-- a blank stands before what does not come first
abbrev pub gap : ℕ → List ℕ
gap at = cond (eqb at 0) [] (32 ∷ [])

-- what a number that tells of a record comes to, put at a place: an abandon and a record of an abandoned job to nothing
unfoldable pub symbol_told : List ℕ → List ℕ → ℕ → ℕ → List ℕ
symbol_told numbers states x at =
    let job = (x - 1) / 770 % 512 in
    cond (eqb x 0) [] (cond (eqb (get_or states job 0) 4) [] (gap at ++ symbol (event_at ((x - 1) % 770) (get_or numbers job 0))))
