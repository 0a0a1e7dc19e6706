-- What the trial program prints: a header, a line for each reply with its place, and a line for the bytes that are no whole record.
-- Assumes nothing.
use Rattle.std.specs.Prelude.{cond, List, [], ◌∷◌, ◌++◌, ℕ, ◌+◌, ◌%◌, eqb, length}
use Rattle.text.specs.Decimal.{decimal}
use Rattle.history.specs.Formats.{records}
use Rattle.history.specs.Replies.{Reply, replies}
use Rattle.held.specs.Held.{Held, answers}

-- the place, the code and the job, with one blank between, and the end of the line
unfoldable pub line : ℕ → Reply → List ℕ
line p a = decimal p ++ 32 ∷ (decimal a.code ++ 32 ∷ (decimal a.job ++ 10 ∷ []))

abbrev pub lines : ℕ → List Reply → List ℕ
lines p [] = []
lines p (a ∷ l) = line p a ++ lines (p + 1) l

-- the lines for the whole records of the input, from a place and a state
unfoldable pub lines_of : ℕ → Held → List ℕ → List ℕ
lines_of p h input = lines p (answers h (records input))

-- `request code job`
abbrev pub header_line : List ℕ
header_line = 114 ∷ 101 ∷ 113 ∷ 117 ∷ 101 ∷ 115 ∷ 116 ∷ 32 ∷ 99 ∷ 111 ∷ 100 ∷ 101 ∷ 32 ∷ 106 ∷ 111 ∷ 98 ∷ 10 ∷ []

-- `tail N` for N bytes that are no whole record, and nothing for none
unfoldable pub tail_line : ℕ → List ℕ
tail_line n = cond (eqb n 0) [] (116 ∷ 97 ∷ 105 ∷ 108 ∷ 32 ∷ (decimal n ++ 10 ∷ []))

-- the whole output of the trial program for an input
unfoldable pub trial_output : List ℕ → List ℕ
trial_output input = header_line ++ lines 0 (replies 1 (records input)) ++ tail_line (length input % 8)
