-- A number in decimal.
-- Assumes nothing.
use Rattle.std.specs.Prelude.{cond, List, [], ◌∷◌, ◌++◌, ℕ, zero, suc, ◌+◌, ◌/◌, ◌%◌, eqb}

-- the character of a digit
abbrev pub glyph : ℕ → ℕ
glyph d = 48 + d

-- the decimal digits of a number, none for 0: those of its tenth, and its last. The count of turns is at least the number
abbrev pub leading_in : ℕ → ℕ → List ℕ
leading_in zero n = []
leading_in (suc k) n = cond (eqb n 0) [] (leading_in k (n / 10) ++ glyph (n % 10) ∷ [])

unfoldable pub leading : ℕ → List ℕ
leading n = leading_in n n

-- a number in decimal: its last digit, and those in front of it with no 0 before them
unfoldable pub decimal : ℕ → List ℕ
decimal n = leading (n / 10) ++ glyph (n % 10) ∷ []
