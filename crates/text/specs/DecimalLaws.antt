-- A number in decimal: how its digits go, that they have the number's value, that none but 0 begins with 0, and how many there are.
-- Assumes nothing.
use Rattle.std.specs.Prelude.{◌≡◌, refl, ◌⊎◌, Bool, cond, List, [], ◌∷◌, ◌++◌, ℕ, zero, suc, ◌+◌, ◌-◌, ◌*◌, ◌/◌, ◌%◌, ◌^◌, ◌≤◌, ◌<◌, eqb, length, get_or}
use Rattle.std.proofs.Common.{sym, ap, ◌∙◌, inl, inr, pow-suc, le_refl, not-suc-le-zero, add-one, arith, length-append, lit<}
use Rattle.std.proofs.Math.Nat.{one-le-pow}
use Rattle.std.proofs.Math.Dec.{eqb-suc-zero}
use Rattle.text.specs.Decimal.{glyph, leading_in, leading, decimal}

-- ---- the digits, one by one

-- counts of turns that are large enough give the same
enough : (k l n : ℕ) → n ≤ k → n ≤ l → leading_in k n ≡ leading_in l n
enough zero zero zero a b = refl
enough zero (suc l) zero a b = refl
enough (suc k) zero zero a b = refl
enough (suc k) (suc l) zero a b = refl
enough zero zero (suc n) a b = absurd (not-suc-le-zero a)
enough zero (suc l) (suc n) a b = absurd (not-suc-le-zero a)
enough (suc k) zero (suc n) a b = absurd (not-suc-le-zero b)
enough (suc k) (suc l) (suc n) a b =
    ap (λ (x : List ℕ). cond (eqb (suc n) 0) [] (x ++ glyph (suc n % 10) ∷ [])) (enough k l (suc n / 10) (omega arith) (omega arith))

pub leading_zero : leading 0 ≡ []
unfolding leading
leading_zero = refl

-- a number that is not 0: the digits of its tenth, and its last
pub leading_more : (n : ℕ) → 0 < n → leading n ≡ leading (n / 10) ++ glyph (n % 10) ∷ []
unfolding leading
leading_more zero h = absurd (not-suc-le-zero h)
leading_more (suc n) h =
    ap (λ (b : Bool). cond b [] (leading_in n (suc n / 10) ++ glyph (suc n % 10) ∷ [])) (eqb-suc-zero n)
    ∙ ap (λ (x : List ℕ). x ++ glyph (suc n % 10) ∷ []) (enough n (suc n / 10) (suc n / 10) (omega arith) (le_refl (suc n / 10)))

-- a number that is not 0 is its leading digits
pub decimal_leading : (n : ℕ) → 0 < n → decimal n ≡ leading n
unfolding decimal
decimal_leading n h = sym (leading_more n h)

pub decimal_digit : (n : ℕ) → n < 10 → decimal n ≡ glyph n ∷ []
unfolding decimal
decimal_digit n h =
    let z : n / 10 ≡ 0 = omega arith in
    let m : n % 10 ≡ n = omega arith in
    ap (λ (x : ℕ). leading x ++ glyph (n % 10) ∷ []) z ∙ ap (λ (x : List ℕ). x ++ glyph (n % 10) ∷ []) leading_zero ∙ ap (λ (x : ℕ). glyph x ∷ []) m

-- ---- how many

longer : (j n : ℕ) → length (leading (n / 10)) ≤ j → length (leading n) ≤ suc j
longer j zero h = let e = ap length leading_zero in omega arith
longer j (suc n) h =
    let m = suc n in
    let e = ap length (leading_more (suc n) (omega arith)) ∙ length-append (leading (suc n / 10)) (glyph (suc n % 10) ∷ []) in omega arith

pub leading_length : (j n : ℕ) → n < 10 ^ j → length (leading n) ≤ j
leading_length zero n h =
    let z : n ≡ 0 = omega arith in
    let e = ap (λ (x : ℕ). length (leading x)) z ∙ ap length leading_zero in omega arith
leading_length (suc j) n h =
    let p : 10 ^ suc j ≡ 10 ^ j * 10 = pow-suc 10 j in
    longer j n (leading_length j (n / 10) (omega arith))

-- a number that has a power of ten has more digits than that
leading_least : (k n : ℕ) → 10 ^ k ≤ n → k < length (leading n)
leading_least zero n h = let e = ap length (leading_more n h) ∙ length-append (leading (n / 10)) (glyph (n % 10) ∷ []) in omega arith
leading_least (suc k) n h =
    let p : 10 ^ suc k ≡ 10 ^ k * 10 = pow-suc 10 k in
    let m = leading_least k (n / 10) (omega arith) in
    let some : 0 < n = omega (arith, one-le-pow k 10 (lit< tt)) in
    let e = ap length (leading_more n some) ∙ length-append (leading (n / 10)) (glyph (n % 10) ∷ []) in
    omega arith

-- how many digits: one more than the largest power of ten in it
pub decimal_count : (n k : ℕ) → 10 ^ k ≤ n → n < 10 * 10 ^ k → length (decimal n) ≡ k + 1
decimal_count n k h u =
    let p : 10 ^ suc k ≡ 10 ^ k * 10 = pow-suc 10 k in
    let some : 0 < n = omega (arith, one-le-pow k 10 (lit< tt)) in
    let least = leading_least k n h in
    let most = leading_length (suc k) n (omega arith) in
    ap length (decimal_leading n some) ∙ omega arith

pub decimal_length : (n : ℕ) → n < 2 ^ 64 → length (decimal n) ≤ 20
unfolding decimal
decimal_length n h = let i = leading_length 19 (n / 10) (omega arith) in simp length-append (omega arith)

-- ---- from the last on

-- the last digits of a number, as many as are asked for, with 0 in front where it has fewer
abbrev pub last_of : ℕ → ℕ → List ℕ
last_of zero n = []
last_of (suc k) n = last_of k (n / 10) ++ glyph (n % 10) ∷ []

more_long : (l : List ℕ) (d : ℕ) → length (l ++ d ∷ []) ≡ suc (length l)
more_long l d = length-append l (d ∷ []) ∙ add-one (length l)

last_more : (n : ℕ) → leading (n / 10) ≡ last_of (length (leading (n / 10))) (n / 10) → leading n ≡ last_of (length (leading n)) n
last_more zero e = rw leading_zero
last_more (suc n) e =
    let m = leading_more (suc n) (omega arith) in
    let l = ap length m ∙ more_long (leading (suc n / 10)) (glyph (suc n % 10)) in
    m ∙ ap (λ (x : List ℕ). x ++ glyph (suc n % 10) ∷ []) e ∙ ap (λ (k : ℕ). last_of k (suc n)) (sym l)

last_in : (k n : ℕ) → n ≤ k → leading n ≡ last_of (length (leading n)) n
last_in zero n h = let z : n ≡ 0 = omega arith in rw (z, leading_zero)
last_in (suc k) n h = last_more n (last_in k (n / 10) (omega arith))

-- a number in decimal is its last digits, as many as it has
pub decimal_last : (n : ℕ) → decimal n ≡ last_of (length (decimal n)) n
unfolding decimal
decimal_last n =
    ap (λ (x : List ℕ). x ++ glyph (n % 10) ∷ []) (last_in (n / 10) (n / 10) (le_refl (n / 10)))
    ∙ ap (λ (k : ℕ). last_of k n) (sym (more_long (leading (n / 10)) (glyph (n % 10))))

-- ---- what they say

-- the number that digits say, after those that said n
abbrev pub value_from : ℕ → List ℕ → ℕ
value_from n [] = n
value_from n (d ∷ l) = value_from (n * 10 + (d - 48)) l

value_append : (n : ℕ) (x y : List ℕ) → value_from n (x ++ y) ≡ value_from (value_from n x) y
value_append n [] y = refl
value_append n (d ∷ x) y = value_append (n * 10 + (d - 48)) x y

value_more : (n : ℕ) → value_from 0 (leading (n / 10)) ≡ n / 10 → value_from 0 (leading n) ≡ n
value_more zero e = ap (value_from 0) leading_zero
value_more (suc n) e =
    ap (value_from 0) (leading_more (suc n) (omega arith))
    ∙ value_append 0 (leading (suc n / 10)) (glyph (suc n % 10) ∷ [])
    ∙ ap (λ (x : ℕ). x * 10 + (48 + suc n % 10 - 48)) e
    ∙ omega arith

value_in : (k n : ℕ) → n ≤ k → value_from 0 (leading n) ≡ n
value_in zero n h = let z : n ≡ 0 = omega arith in ap (λ (x : ℕ). value_from 0 (leading x)) z ∙ ap (value_from 0) leading_zero ∙ sym z
value_in (suc k) n h = value_more n (value_in k (n / 10) (omega arith))

-- a number in decimal says the number
pub decimal_value : (n : ℕ) → value_from 0 (decimal n) ≡ n
unfolding decimal
decimal_value n =
    value_append 0 (leading (n / 10)) (glyph (n % 10) ∷ [])
    ∙ ap (λ (x : ℕ). x * 10 + (48 + n % 10 - 48)) (value_in (n / 10) (n / 10) (le_refl (n / 10)))
    ∙ omega arith

first_of : (x y : List ℕ) → 48 < get_or x 0 48 → 48 < get_or (x ++ y) 0 48
first_of [] y h = absurd (let k : 48 < 48 = h in omega arith)
first_of (a ∷ x) y h = h

first_more : (n : ℕ) → 0 < n → (0 < n / 10 → 48 < get_or (leading (n / 10)) 0 48) → (n / 10 ≡ 0) ⊎ (0 < n / 10) → 48 < get_or (leading n) 0 48
first_more n h f (inl z) =
    let e : leading n ≡ glyph (n % 10) ∷ [] =
    leading_more n h ∙ ap (λ (x : ℕ). leading x ++ glyph (n % 10) ∷ []) z ∙ ap (λ (x : List ℕ). x ++ glyph (n % 10) ∷ []) leading_zero in
    rw e (omega arith)
first_more n h f (inr z) = rw (leading_more n h) (first_of (leading (n / 10)) (glyph (n % 10) ∷ []) (f z))

none_or_more : (n : ℕ) → (n ≡ 0) ⊎ (0 < n)
none_or_more zero = inl refl
none_or_more (suc n) = inr (omega arith)

first_in : (k n : ℕ) → n ≤ k → 0 < n → 48 < get_or (leading n) 0 48
first_in zero n h p = absurd (omega arith)
first_in (suc k) n h p = first_more n p (first_in k (n / 10) (omega arith)) (none_or_more (n / 10))

-- none but 0 begins with 0
pub decimal_first : (n : ℕ) → 0 < n → 48 < get_or (decimal n) 0 48
decimal_first n h = rw (decimal_leading n h) (first_in n n (le_refl n) h)
