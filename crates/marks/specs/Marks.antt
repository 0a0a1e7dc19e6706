-- A number as a set of marks: its binary digits, the lowest first. And lists made by a rule.
--
-- `bit n k`: is mark k set in n? `mask_of w f`: the number below 2 ^ w whose marks are those that f says. `without n s`: n with mark s taken
-- out. `tab n f`: the list f 0, f 1, .., f (n - 1); `upto n`: the numbers 0 to n - 1.
-- Assumes nothing.
use Rattle.std.specs.Prelude.{Bool, cond, List, [], ◌∷◌, ℕ, zero, suc, ◌+◌, ◌-◌, ◌/◌, ◌%◌, ◌^◌, eqb}

unfoldable pub bit : ℕ → ℕ → Bool
bit n k = eqb (n / 2 ^ k % 2) 1

abbrev pub mask_of : ℕ → (ℕ → Bool) → ℕ
mask_of zero f = 0
mask_of (suc w) f = mask_of w f + cond (f w) (2 ^ w) 0

unfoldable pub without : ℕ → ℕ → ℕ
without n s = cond (bit n s) (n - 2 ^ s) n

abbrev pub tab_from {ℓ} : {X : Type ℓ} → ℕ → ℕ → (ℕ → X) → List X
tab_from i zero f = []
tab_from i (suc n) f = f i ∷ tab_from (suc i) n f

abbrev pub tab {ℓ} : {X : Type ℓ} → ℕ → (ℕ → X) → List X
tab n f = tab_from 0 n f

abbrev pub upto : ℕ → List ℕ
upto n = tab n (λ k. k)
