-- Worked texts. What import makes of a text stands in one table under one statement (`import_cases`), what export makes of a log in another (`export_cases`). Both are computed
-- from the definitions.
--
-- A row has the text or the log handed over and the bytes lent, and after `gets` the code and the place expected; after `leaving`, what the lent bytes then hold. Where a row says only `refused`, one byte is
-- lent and stays as it was. Texts are put down byte by byte, and the comment above a row has them as characters. Places count from 0: the bytes of a text for 26, its symbols
-- or the log's records for 12 to 14 and 27.
-- The limit of 4,096 symbols is too high to compute with: it is proved of any text (`eleven_exactly` of Promises).
-- Assumes nothing.
use Rattle.std.specs.Prelude.{◌≡◌, refl, List, [], ◌∷◌, ◌++◌, ℕ, replicate}
use Rattle.graph.specs.Lists.{◌∈◌}
use Rattle.text.specs.Decimal.{leading, decimal}
use Rattle.history.specs.Events.{read, write, add, opens, steps, ends, abandons, History, opened, ended, abandoned, kept, open_now, all_steps, wrote}
use Rattle.history.specs.Replies.{want, event_of}
use Rattle.history.specs.Cases.{rows}
use Rattle.verdicts.specs.Logs.{ill_formed, out_of_turn, too_many, fault_of, read_log, log_of}
use Rattle.blocks.specs.Blocks.{Filled, filled}
use Rattle.notation.specs.Notation.{without_abandoned}
use Rattle.notation.specs.Parse.{kind_of, with_cell, is_digit, goes_on, next, event_at, whole_at, grown, parse_end, parse}
use Rattle.notation.specs.Answers.{import, before_adds, export}

-- ---- texts and logs

-- the characters that are used below
abbrev B : ℕ
B = 66

abbrev R : ℕ
R = 82

abbrev W : ℕ
W = 87

abbrev E : ℕ
E = 69

abbrev blank : ℕ
blank = 32

abbrev left : ℕ
left = 91

abbrev right : ℕ
right = 93

abbrev d0 : ℕ
d0 = 48

abbrev d1 : ℕ
d1 = 49

abbrev d2 : ℕ
d2 = 50

abbrev d3 : ℕ
d3 = 51

abbrev d5 : ℕ
d5 = 53

abbrev d6 : ℕ
d6 = 54

-- the order's example, `B1 R1[5] W1[6] E1`
abbrev pub example : List ℕ
example = B ∷ d1 ∷ blank ∷ R ∷ d1 ∷ left ∷ d5 ∷ right ∷ blank ∷ W ∷ d1 ∷ left ∷ d6 ∷ right ∷ blank ∷ E ∷ d1 ∷ []

-- and its log: kind, byte 1, cell in two, job in four
abbrev pub example_log : List ℕ
example_log =
    1 ∷ 0 ∷ 0 ∷ 0 ∷ 1 ∷ 0 ∷ 0 ∷ 0
    ∷ 2 ∷ 0 ∷ 5 ∷ 0 ∷ 1 ∷ 0 ∷ 0 ∷ 0
    ∷ 3 ∷ 0 ∷ 6 ∷ 0 ∷ 1 ∷ 0 ∷ 0 ∷ 0
    ∷ 4 ∷ 0 ∷ 0 ∷ 0 ∷ 1 ∷ 0 ∷ 0 ∷ 0
    ∷ []

-- `B4294967295`, the highest job number
abbrev pub highest : List ℕ
highest = B ∷ 52 ∷ 50 ∷ 57 ∷ 52 ∷ 57 ∷ 54 ∷ 55 ∷ 50 ∷ 57 ∷ 53 ∷ []

-- two jobs at once, of which job 1 reads cell 255 and is abandoned; and what is left of them
abbrev pub with_abandoned : History
with_abandoned = opens 1 ∷ opens 12 ∷ steps read 1 255 ∷ steps write 12 255 ∷ abandons 1 ∷ ends 12 ∷ []

abbrev pub left_over : History
left_over = opens 12 ∷ steps write 12 255 ∷ ends 12 ∷ []

-- `B12 W12[255] E12`
abbrev pub left_over_text : List ℕ
left_over_text = B ∷ d1 ∷ d2 ∷ blank ∷ W ∷ d1 ∷ d2 ∷ left ∷ d2 ∷ d5 ∷ d5 ∷ right ∷ blank ∷ E ∷ d1 ∷ d2 ∷ []

pub record Case : Type 0 where
  pub given : List ℕ
  pub lent : List ℕ
  pub expected : Filled

infix 70 ◌into◌gets◌at◌leaving◌
abbrev pub ◌into◌gets◌at◌leaving◌ : List ℕ → List ℕ → ℕ → ℕ → List ℕ → Case
b into l gets c at p leaving k = record { given = b; lent = l; expected = record { code = c; place = p; bytes = k } }

-- into one byte: a refusal leaves it
infix 70 ◌refused◌at◌
abbrev pub ◌refused◌at◌ : List ℕ → ℕ → ℕ → Case
b refused c at p = b into 7 ∷ [] gets c at p leaving (7 ∷ [])

-- ---- import

abbrev pub import_table : List Case
import_table =
    -- the example: just enough room, two bytes more, a byte less
    example into replicate 32 7 gets 0 at 32 leaving example_log
    ∷ example into replicate 34 7 gets 0 at 32 leaving (example_log ++ 7 ∷ 7 ∷ [])
    ∷ example into replicate 31 7 gets 24 at 0 leaving replicate 31 7
    -- the empty text
    ∷ [] into [] gets 0 at 0 leaving []
    ∷ [] into 7 ∷ [] gets 0 at 0 leaving (7 ∷ [])
    -- the highest job number, job 0, numbers with a 0 in them
    ∷ highest into replicate 8 7 gets 0 at 8 leaving (1 ∷ 0 ∷ 0 ∷ 0 ∷ 255 ∷ 255 ∷ 255 ∷ 255 ∷ [])
    ∷ (B ∷ d0 ∷ []) into replicate 8 7 gets 0 at 8 leaving (1 ∷ 0 ∷ 0 ∷ 0 ∷ 0 ∷ 0 ∷ 0 ∷ 0 ∷ [])
    ∷ (B ∷ d1 ∷ d0 ∷ []) into replicate 8 7 gets 0 at 8 leaving (1 ∷ 0 ∷ 0 ∷ 0 ∷ 10 ∷ 0 ∷ 0 ∷ 0 ∷ [])
    -- `B4294967296` and `B42949672950`; a leading zero, `B01`, `B00`, and in a cell, `R1[05]`
    ∷ (B ∷ 52 ∷ 50 ∷ 57 ∷ 52 ∷ 57 ∷ 54 ∷ 55 ∷ 50 ∷ 57 ∷ 54 ∷ []) refused 26 at 10
    ∷ (highest ++ d0 ∷ []) refused 26 at 11
    ∷ (B ∷ d0 ∷ d1 ∷ []) refused 26 at 2
    ∷ (B ∷ d0 ∷ d0 ∷ []) refused 26 at 2
    ∷ (R ∷ d1 ∷ left ∷ d0 ∷ d5 ∷ right ∷ []) refused 26 at 4
    -- `R1[65536]`; with 65535 it is of the form and job 1 was never opened, but the cell comes first: 12
    ∷ (R ∷ d1 ∷ left ∷ d6 ∷ d5 ∷ d5 ∷ d3 ∷ d6 ∷ right ∷ []) refused 26 at 7
    ∷ (R ∷ d1 ∷ left ∷ d6 ∷ d5 ∷ d5 ∷ d3 ∷ d5 ∷ right ∷ []) refused 12 at 0
    -- what stops short: `B`, `R1`, `R1[`, `R1[5`, `E1` with a blank after it
    ∷ (B ∷ []) refused 26 at 1
    ∷ (R ∷ d1 ∷ []) refused 26 at 2
    ∷ (R ∷ d1 ∷ left ∷ []) refused 26 at 3
    ∷ (R ∷ d1 ∷ left ∷ d5 ∷ []) refused 26 at 4
    ∷ (E ∷ d1 ∷ blank ∷ []) refused 26 at 3
    ∷ (example ++ blank ∷ []) refused 26 at 18
    -- a blank before it, two blanks, a line feed after it, lower case
    ∷ (blank ∷ example) refused 26 at 0
    ∷ (B ∷ d1 ∷ blank ∷ blank ∷ E ∷ d1 ∷ []) refused 26 at 3
    ∷ (example ++ 10 ∷ []) refused 26 at 17
    ∷ (98 ∷ d1 ∷ []) refused 26 at 0
    -- no blank, a letter without a number, brackets without a cell or where there is none: `B1E1`, `B E1`, `R1[]`, `B1[5]`, `R1 `, `W1[5]]`
    ∷ (B ∷ d1 ∷ E ∷ d1 ∷ []) refused 26 at 2
    ∷ (B ∷ blank ∷ E ∷ d1 ∷ []) refused 26 at 1
    ∷ (R ∷ d1 ∷ left ∷ right ∷ []) refused 26 at 3
    ∷ (B ∷ d1 ∷ left ∷ d5 ∷ right ∷ []) refused 26 at 2
    ∷ (R ∷ d1 ∷ blank ∷ []) refused 26 at 2
    ∷ (W ∷ d1 ∷ left ∷ d5 ∷ right ∷ right ∷ []) refused 26 at 5
    -- operation numbers, `R11(5)` and `R1,1[5]`; an abandon, `A1`
    ∷ (R ∷ d1 ∷ d1 ∷ 40 ∷ d5 ∷ 41 ∷ []) refused 26 at 3
    ∷ (R ∷ d1 ∷ 44 ∷ d1 ∷ left ∷ d5 ∷ right ∷ []) refused 26 at 2
    ∷ (65 ∷ d1 ∷ []) refused 26 at 0
    -- the rules for logs: `B1 R1[300]`, `B2 B1`, `B1 E1 E1`, `R1[5]`, `B1 B1`
    ∷ (B ∷ d1 ∷ blank ∷ R ∷ d1 ∷ left ∷ d3 ∷ d0 ∷ d0 ∷ right ∷ []) refused 12 at 1
    ∷ (B ∷ d2 ∷ blank ∷ B ∷ d1 ∷ []) refused 13 at 1
    ∷ (B ∷ d1 ∷ blank ∷ E ∷ d1 ∷ blank ∷ E ∷ d1 ∷ []) refused 13 at 2
    ∷ (R ∷ d1 ∷ left ∷ d5 ∷ right ∷ []) refused 13 at 0
    ∷ (B ∷ d1 ∷ blank ∷ B ∷ d1 ∷ []) refused 13 at 1
    -- the form before the log, `B2 B1 B`, and the log before the room
    ∷ (B ∷ d2 ∷ blank ∷ B ∷ d1 ∷ blank ∷ B ∷ []) refused 26 at 7
    ∷ (B ∷ d2 ∷ blank ∷ B ∷ d1 ∷ []) into [] gets 13 at 1 leaving []
    ∷ (B ∷ []) into [] gets 26 at 1 leaving []
    ∷ []

-- opens every definition that the tables compute with, so that a table needs to open only this one
unfoldable pub got : Case → Filled
unfolding import parse parse_end next kind_of with_cell is_digit goes_on event_at whole_at grown filled read_log fault_of ill_formed out_of_turn too_many want event_of opened ended abandoned kept open_now all_steps wrote
got c = import c.given c.lent

pub import_cases : (c : Case) → c ∈ import_table → import c.given c.lent ≡ c.expected
unfolding got
import_cases c = rows got (λ c. c.expected) (refl, (refl, (refl, (refl, (refl, (refl, (refl, (refl, (refl, (refl, (refl, (refl, (refl, (refl, (refl, (refl, (refl, (refl, (refl, (refl, (refl, (refl, (refl, (refl, (refl, (refl, (refl, (refl, (refl, (refl, (refl, (refl, (refl, (refl, (refl, (refl, (refl, (refl, (refl, (refl, (refl, (refl, tt))))))))))))))))))))))))))))))))))))))))))

-- ---- export

abbrev pub export_table : List Case
export_table =
    -- the example's log: just enough room, two bytes more, a byte less
    example_log into replicate 17 7 gets 0 at 17 leaving example
    ∷ example_log into replicate 19 7 gets 0 at 17 leaving (example ++ 7 ∷ 7 ∷ [])
    ∷ example_log into replicate 16 7 gets 24 at 0 leaving replicate 16 7
    -- the empty log; a log of a job that is abandoned
    ∷ [] into [] gets 0 at 0 leaving []
    ∷ [] into 7 ∷ [] gets 0 at 0 leaving (7 ∷ [])
    ∷ log_of (opens 1 ∷ abandons 1 ∷ []) into [] gets 0 at 0 leaving []
    -- an abandoned job between the events of another, and the log without it
    ∷ log_of with_abandoned into replicate 16 7 gets 0 at 16 leaving left_over_text
    ∷ log_of with_abandoned into replicate 15 7 gets 24 at 0 leaving replicate 15 7
    ∷ log_of left_over into replicate 16 7 gets 0 at 16 leaving left_over_text
    -- an open job stays
    ∷ log_of (opens 1 ∷ opens 2 ∷ abandons 2 ∷ []) into 7 ∷ 7 ∷ [] gets 0 at 2 leaving (B ∷ d1 ∷ [])
    -- a number with a 0 in it
    ∷ log_of (opens 1_020 ∷ []) into replicate 5 7 gets 0 at 5 leaving (B ∷ d1 ∷ d0 ∷ d2 ∷ d0 ∷ [])
    -- the rules for logs: seven bytes, a wrong kind, an end of a job that was never opened; before the room
    ∷ replicate 7 1 refused 11 at 0
    ∷ (9 ∷ replicate 7 0) refused 12 at 0
    ∷ log_of (opens 1 ∷ ends 2 ∷ []) refused 13 at 1
    ∷ log_of (opens 1 ∷ ends 2 ∷ []) into [] gets 13 at 1 leaving []
    -- an add, of an open job and of an ended one: with much room and with none; after an abandoned job, whose records count
    ∷ log_of (opens 1 ∷ steps add 1 5 ∷ []) into replicate 16 7 gets 27 at 1 leaving replicate 16 7
    ∷ log_of (opens 1 ∷ steps add 1 5 ∷ ends 1 ∷ []) refused 27 at 1
    ∷ log_of (opens 1 ∷ steps add 1 5 ∷ ends 1 ∷ []) into [] gets 27 at 1 leaving []
    ∷ log_of (opens 1 ∷ abandons 1 ∷ opens 2 ∷ steps add 2 5 ∷ []) refused 27 at 3
    -- the first of two, after a write
    ∷ log_of (opens 1 ∷ opens 2 ∷ steps write 1 5 ∷ steps add 2 6 ∷ steps add 1 6 ∷ ends 1 ∷ []) refused 27 at 3
    -- the rules for logs before it: a cell of an add, an end of a job that was never opened, an abandon of a job that added
    ∷ log_of (opens 1 ∷ steps add 1 5 ∷ steps add 1 256 ∷ []) refused 12 at 2
    ∷ log_of (opens 1 ∷ steps add 1 5 ∷ ends 2 ∷ []) refused 13 at 2
    ∷ log_of (opens 1 ∷ steps add 1 5 ∷ abandons 1 ∷ []) refused 13 at 2
    ∷ []

unfoldable pub made : Case → Filled
unfolding export before_adds without_abandoned decimal leading filled read_log fault_of ill_formed out_of_turn too_many want event_of opened ended abandoned kept open_now all_steps wrote
made c = export c.given c.lent

pub export_cases : (c : Case) → c ∈ export_table → export c.given c.lent ≡ c.expected
unfolding made
export_cases c = rows made (λ c. c.expected) (refl, (refl, (refl, (refl, (refl, (refl, (refl, (refl, (refl, (refl, (refl, (refl, (refl, (refl, (refl, (refl, (refl, (refl, (refl, (refl, (refl, (refl, (refl, tt)))))))))))))))))))))))
