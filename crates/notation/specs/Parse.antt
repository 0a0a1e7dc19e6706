-- The reading of a text in the report's notation, byte by byte: where a reading stands, the next stand for a byte, and what a whole text is read as.
--
-- A stand is four numbers: the phase, and of the symbol that is being read the kind (as in a record of a log: 1 B, 2 R, 3 W, 4 E), the job and the cell, each 0 until it is read.
-- The phases: 0 no byte yet, 1 after a blank, 2 after a letter, 3 in the digits of a job, 4 after `[`, 5 in the digits of a cell, 6 after `]`, 7 no text of the form goes on so.
-- A symbol is read when a blank comes after it, or the end of the text. Nothing here is to be believed: ParseLaws shows that a text is read so exactly when Notation says so.
-- Assumes nothing.
use Rattle.std.specs.Prelude.{Bool, not, ◌&&◌, ◌||◌, cond, List, [], ◌∷◌, ◌++◌, ℕ, zero, suc, ◌+◌, ◌-◌, ◌*◌, leb, ltb, eqb}
use Rattle.history.specs.Events.{read, write, Event, opens, steps, ends, History}

pub record Stand : Type 0 where
  pub phase : ℕ
  pub kind : ℕ
  pub job : ℕ
  pub cell : ℕ

abbrev pub stand : ℕ → ℕ → ℕ → ℕ → Stand
stand p k j c = record { phase = p; kind = k; job = j; cell = c }

abbrev pub off : Stand
off = stand 7 0 0 0

-- ---- one byte

-- the kind that a letter says, 0 for another byte
unfoldable pub kind_of : ℕ → ℕ
kind_of b = cond (eqb b 66) 1 (cond (eqb b 82) 2 (cond (eqb b 87) 3 (cond (eqb b 69) 4 0)))

-- has a symbol of this kind a cell?
unfoldable pub with_cell : ℕ → Bool
with_cell k = eqb k 2 || eqb k 3

unfoldable pub is_digit : ℕ → Bool
is_digit b = leb 48 b && leb b 57

-- may the digit b follow those that say n? Not after a 0, and the number stays below the limit
unfoldable pub goes_on : ℕ → ℕ → ℕ → Bool
goes_on n b limit = not (eqb n 0) && ltb (n * 10 + (b - 48)) limit

-- the next stand, phase by phase: a letter
abbrev pub letter_next : ℕ → Stand
letter_next b = cond (eqb (kind_of b) 0) off (stand 2 (kind_of b) 0 0)

-- the first digit of a job, and what follows it: a digit, `[` or a blank
abbrev pub first_next : ℕ → ℕ → Stand
first_next k b = cond (is_digit b) (stand 3 k (b - 48) 0) off

abbrev pub job_next : ℕ → ℕ → ℕ → Stand
job_next k j b =
    cond (is_digit b) (cond (goes_on j b 4_294_967_296) (stand 3 k (j * 10 + (b - 48)) 0) off)
    (cond (with_cell k) (cond (eqb b 91) (stand 4 k j 0) off) (cond (eqb b 32) (stand 1 0 0 0) off))

-- the first digit of a cell, and what follows it: a digit or `]`
abbrev pub first_cell_next : ℕ → ℕ → ℕ → Stand
first_cell_next k j b = cond (is_digit b) (stand 5 k j (b - 48)) off

abbrev pub cell_next : ℕ → ℕ → ℕ → ℕ → Stand
cell_next k j c b =
    cond (is_digit b) (cond (goes_on c b 65_536) (stand 5 k j (c * 10 + (b - 48))) off)
    (cond (eqb b 93) (stand 6 k j c) off)

-- after `]`, a blank
abbrev pub closed_next : ℕ → Stand
closed_next b = cond (eqb b 32) (stand 1 0 0 0) off

unfoldable pub next : Stand → ℕ → Stand
next s b =
    cond (ltb s.phase 2) (letter_next b)
    (cond (eqb s.phase 2) (first_next s.kind b)
    (cond (eqb s.phase 3) (job_next s.kind s.job b)
    (cond (eqb s.phase 4) (first_cell_next s.kind s.job b)
    (cond (eqb s.phase 5) (cell_next s.kind s.job s.cell b)
    (cond (eqb s.phase 6) (closed_next b) off)))))

-- ---- a whole text

-- the event of the symbol that is read at a stand
unfoldable pub event_at : Stand → Event
event_at s =
    cond (eqb s.kind 1) (opens s.job)
    (cond (eqb s.kind 2) (steps read s.job s.cell) (cond (eqb s.kind 3) (steps write s.job s.cell) (ends s.job)))

-- is a whole symbol read there, so that the text may stop or a blank may come?
unfoldable pub whole_at : Stand → Bool
whole_at s = (eqb s.phase 3 && not (with_cell s.kind)) || eqb s.phase 6

-- the events, with the one that a blank after it completes
unfoldable pub grown : History → Stand → Stand → History
grown h s n = cond (eqb n.phase 1) (h ++ event_at s ∷ []) h

-- not of the form, with the place; or what it says
pub data Parsed : Type 0 where
  wrong : ℕ → Parsed
  says : History → Parsed

-- where the text ends, at place p after the events h: it is empty, or its last symbol is whole, or it stops short
unfoldable pub parse_end : History → Stand → ℕ → Parsed
parse_end h s p = cond (eqb s.phase 0) (says []) (cond (whole_at s) (says (h ++ event_at s ∷ [])) (wrong p))

-- the bytes from place p on, after the events h
abbrev pub parse_from : History → Stand → ℕ → List ℕ → Parsed
parse_from h s p [] = parse_end h s p
parse_from h s p (b ∷ t) = let n = next s b in cond (eqb n.phase 7) (wrong p) (parse_from (grown h s n) n (suc p) t)

unfoldable pub parse : List ℕ → Parsed
parse t = parse_from [] (stand 0 0 0 0) zero t
