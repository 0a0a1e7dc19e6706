-- What the program `locked` prints: what the trial program does, by locks, and then a line with the number of replies of code 10.
-- Assumes nothing.
use Rattle.std.specs.Prelude.{List, ◌∷◌, [], ◌++◌, ℕ, ◌%◌, length}
use Rattle.text.specs.Decimal.{decimal}
use Rattle.history.specs.Formats.{records}
use Rattle.held.specs.Held.{Held}
use Rattle.locks.specs.Locks.{lock_replies, put_off}
use Rattle.locks.specs.LocksHeld.{lock_answers}
use Rattle.lines.specs.Lines.{lines, header_line, tail_line}

-- the lines for the whole records of the input, from a place and a state; and how many of the answers put off
unfoldable pub lock_lines_of : ℕ → Held → List ℕ → List ℕ
lock_lines_of p h input = lines p (lock_answers h (records input))

unfoldable pub off_of : Held → List ℕ → ℕ
off_of h input = put_off (lock_answers h (records input))

-- `put off N`
unfoldable pub off_bytes : ℕ → List ℕ
off_bytes n = 112 ∷ 117 ∷ 116 ∷ 32 ∷ 111 ∷ 102 ∷ 102 ∷ 32 ∷ (decimal n ++ 10 ∷ [])

-- the whole output of the program for an input, by the full history
unfoldable pub locked_output : List ℕ → List ℕ
locked_output input = let l = lock_replies 1 (records input) in header_line ++ lines 0 l ++ tail_line (length input % 8) ++ off_bytes (put_off l)
