-- What code writes for sets of marks in words, for any number of words: a list that is as long as an array, written out; and a set against zeros.
-- What it writes for one mark is in the crate marks (MarkLaws).
-- Assumes nothing.
use mathlib.Core.Path.{◌≡◌, refl, sym, ap, ◌∙◌}
use mathlib.Core.Bool.{Bool, ◌&&◌}
use mathlib.Core.List.{List, [], ◌∷◌}
use Prim.Native.Nat.{ℕ}
use native.Mathlib.Omega.{arith}
use lib.Bits.{bit_or, or_add_and, and_le_l, and_le_r}
use lib.Dec.{eqb}
use lib.ListN.{length, get_or, replicate}
use lib.Pointwise.{pointwise}
use Rattle.graph.specs.Decide.{eq_test, and_test, same_test}
use Rattle.marks.specs.Marks.{tab}
use Rattle.marks.specs.MarkLaws.{tab_getD}
use Rattle.marks.specs.Words.{empty}

-- a list of n words, as an array's is, written out: at a numeral n the table computes to its n elements
pub written_out : (n : ℕ) (ws : List ℕ) → length ws ≡ n → tab n (λ i. get_or ws i 0) ≡ ws
written_out n ws e = ap (λ (k : ℕ). tab k (λ i. get_or ws i 0)) (sym e) ∙ tab_getD ws 0

-- ---- a set against zeros

-- an or is 0 exactly where both are
pub or_none : (a b : ℕ) → eqb (bit_or a b) 0 ≡ eqb a 0 && eqb b 0
or_none a b =
    let s = or_add_and a b in
    let l = and_le_l a b in
    let r = and_le_r a b in
    same_test (eq_test (bit_or a b) 0) (and_test (eq_test a 0) (eq_test b 0)) (λ e. omega arith) (λ e. omega arith)

-- as many zeros as it has words are equal to a set, word by word, exactly where nothing is in it
pub equals_zeros : (n : ℕ) (ws : List ℕ) → length ws ≡ n → pointwise eqb ws (replicate n 0) ≡ empty ws
equals_zeros n ws e = ap (λ (k : ℕ). pointwise eqb ws (replicate k 0)) (sym e) ∙ go ws
  where
    go : (ws : List ℕ) → pointwise eqb ws (replicate (length ws) 0) ≡ empty ws
    go [] = refl
    go (w ∷ ws) = ap (λ (b : Bool). eqb w 0 && b) (go ws)
