-- Lists of words as sets: `width` marks a word, as many words as there are. A mark's word is its number divided by the width, its place in the
-- word the remainder. Everything here is over any width and any number of words.
-- Assumes nothing.
use Rattle.std.specs.Prelude.{Bool, true, false, not, ◌&&◌, ◌||◌, List, [], ◌∷◌, ℕ, ◌/◌, ◌%◌, ◌^◌, eqb, get_or, set}
use Rattle.std.specs.Int.Bits.{bit_or, bit_and}
use Rattle.marks.specs.Marks.{bit}

-- is the mark c in the set?
unfoldable pub marked : ℕ → List ℕ → ℕ → Bool
marked width ws c = bit (get_or ws (c / width) 0) (c % width)

-- the set with the mark c
unfoldable pub with_mark : ℕ → List ℕ → ℕ → List ℕ
with_mark width ws c = set ws (c / width) (bit_or (get_or ws (c / width) 0) (2 ^ (c % width)))

-- what is in the one or the other, word by word
abbrev pub union : List ℕ → List ℕ → List ℕ
union [] vs = []
union (w ∷ ws) [] = w ∷ ws
union (w ∷ ws) (v ∷ vs) = bit_or w v ∷ union ws vs

-- is something in both?
abbrev pub overlap : List ℕ → List ℕ → Bool
overlap [] vs = false
overlap (w ∷ ws) [] = false
overlap (w ∷ ws) (v ∷ vs) = not (eqb (bit_and w v) 0) || overlap ws vs

-- is nothing in it?
abbrev pub empty : List ℕ → Bool
empty [] = true
empty (w ∷ ws) = eqb w 0 && empty ws
