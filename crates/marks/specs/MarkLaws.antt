-- The laws of marks, and of lists made by a rule.
--
-- In order: tables, their elements and members; a number as its half and its lowest mark (`halved`, `bit_low`, `bit_high`), which carries what
-- follows; the marks of 0 and of a power of 2, and that numbers of one width with the same marks are equal (`bit_same`); the marks of a number made of
-- others by `bit_or`, `bit_and` or as a complement; a mark taken out; masks; the lowest mark, by one induction over halves (`by_lowest`); the count of marks;
-- and what code writes for them: `1 << s`, `n | (1 << s)`, `n & !(1 << s)`, `n & (n - 1)`, `n & (1 << s)`.
-- Assumes nothing.
use Rattle.std.specs.Prelude.{◌≡◌, refl, ◌⊎◌, Bool, true, false, not, ◌&&◌, ◌||◌, cond, List, [], ◌∷◌, ℕ, zero, suc, ◌+◌, ◌-◌, ◌*◌, ◌/◌, ◌%◌, ◌^◌, ◌≤◌, ◌<◌, min, max, T, eqb, length, get_or}
use Rattle.std.proofs.Common.{sym, ap, ap₂, ◌∙◌, subst, ⊎_elim, suc-le-suc, add-zero, zero-add, add_comm, one-mul, sub-add_cancel, pow-suc, mod-lt, div-one, div-add-mod', sub-le, le_refl, le_of_eq, le_of_suc-le-suc, not-suc-le-zero, zero-lt-suc, ne_of_lt, lt_of_not-le, lt_of_le_of_lt, eq-or-lt_of_le, add-one, one-add, arith, lit<, pow_pos, shl_exact}
use Rattle.std.proofs.Math.Bool.{and-true, and-false, or-false, not-not}
use mathlib.Core.List.Memᴰ
use Rattle.std.proofs.Math.Nat.{pow-succ', zero-div, div-div-eq-div-mul}
use Rattle.std.proofs.Math.Arith.{lt-one, digits_div, digits_mod}
use Rattle.std.specs.Int.Bits.{bit_or, bit_and, or_step, and_step, or_shifted_r, and_self}
use Rattle.std.proofs.lemmas.Nat.{and_block, and_le_l, and_le_r, leading_top}
use Rattle.std.specs.Int.Count.{ones, ones_step, under, count_leading_zeros, count_trailing_zeros}
use Rattle.std.proofs.Math.Dec.{eqb-zero-suc, eqb-suc-zero, eqb-suc-suc, eqb_refl}
use Rattle.std.proofs.Math.Pow.{pow-lt}
use Rattle.graph.specs.Decide.{Decides, true_is, false_is, T_and, eq_test, and_test, or_test, not_test, own_test, read_as, same_test, test_true, test_false}
use Rattle.graph.specs.Lists.{◌∈◌, here, later, only, Before, before_nil, before_cons, Once, once_if}
use Rattle.marks.specs.Marks.{bit, mask_of, without, tab_from, tab, upto}

-- ---- lists made by a rule

-- a table from a place on: how long it is, its elements, and the same table from the place before, of the rule shifted
module _ {ℓ} {X : Type ℓ} where
  length_from : (i n : ℕ) (f : ℕ → X) → length (tab_from i n f) ≡ n
  length_from i zero f = refl
  length_from i (suc n) f = ap suc (length_from (suc i) n f)

  getD_from : (i n : ℕ) (f : ℕ → X) (k : ℕ) (d : X) → k < n → get_or (tab_from i n f) k d ≡ f (i + k)
  getD_from i zero f k d h = absurd (not-suc-le-zero h)
  getD_from i (suc n) f zero d h = ap f (omega arith)
  getD_from i (suc n) f (suc k) d h = getD_from (suc i) n f k d (omega arith) ∙ ap f (omega arith)

  same_from : (i n : ℕ) (f g : ℕ → X) → ((k : ℕ) → i ≤ k → k < i + n → f k ≡ g k) → tab_from i n f ≡ tab_from i n g
  same_from i zero f g h = refl
  same_from i (suc n) f g h = ap₂ (λ (x : X) (l : List X). x ∷ l) (h i (omega arith) (omega arith)) (same_from (suc i) n f g (λ k p q. h k (omega arith) (omega arith)))

  shift_from : (i n : ℕ) (f : ℕ → X) → tab_from (suc i) n f ≡ tab_from i n (λ k. f (suc k))
  shift_from i zero f = refl
  shift_from i (suc n) f = ap (λ (l : List X). f (suc i) ∷ l) (shift_from (suc i) n f)

  -- how long a table is, and its elements
  pub length_tab : (n : ℕ) (f : ℕ → X) → length (tab n f) ≡ n
  length_tab n f = length_from 0 n f

  pub getD_tab : (n : ℕ) (f : ℕ → X) (i : ℕ) (d : X) → i < n → get_or (tab n f) i d ≡ f i
  getD_tab n f i d h = getD_from 0 n f i d h ∙ ap f (omega arith)

  -- the first element, and the table of the rest
  pub tab_suc : (n : ℕ) (f : ℕ → X) → tab (suc n) f ≡ f zero ∷ tab n (λ k. f (suc k))
  tab_suc n f = ap (λ (l : List X). f zero ∷ l) (shift_from 0 n f)

  -- a list is the table of its elements
  pub tab_getD : (l : List X) (d : X) → tab (length l) (λ i. get_or l i d) ≡ l
  tab_getD [] d = refl
  tab_getD (x ∷ l) d = tab_suc (length l) (λ i. get_or (x ∷ l) i d) ∙ ap (λ (r : List X). x ∷ r) (tab_getD l d)

  -- tables of rules that agree below n are equal
  pub tab_same : (n : ℕ) (f g : ℕ → X) → ((i : ℕ) → i < n → f i ≡ g i) → tab n f ≡ tab n g
  tab_same n f g h = same_from 0 n f g (λ k p q. h k (omega arith))

-- the members of a table are the values of its rule
pub tab_has : {X : Type 0} (n : ℕ) (f : ℕ → X) (i : ℕ) → i < n → f i ∈ tab n f
tab_has zero f i h = absurd (not-suc-le-zero h)
tab_has {X} (suc n) f zero h = here
tab_has {X} (suc n) f (suc i) h = subst (λ (l : List X). f (suc i) ∈ l) (sym (tab_suc n f)) (later (tab_has n (λ k. f (suc k)) i (le_of_suc-le-suc h)))

pub tab_member : {X : Type 0} {x : X} (n : ℕ) (f : ℕ → X) → x ∈ tab n f → (i : ℕ) × (i < n) × (x ≡ f i)
tab_member zero f m = absurd (Memᴰ.not-nil m)
tab_member {X} {x} (suc n) f m =
    ⊎_elim (λ e. (zero, zero-lt-suc n, e)) (λ r. let s = tab_member n (λ k. f (suc k)) r in (suc s.0, suc-le-suc s.1, s.2)) (Memᴰ.cases_cons (subst (λ (l : List X). x ∈ l) (tab_suc n f) m))

-- the members of `upto n` are the numbers below n
pub upto_has : {i n : ℕ} → i < n → i ∈ upto n
upto_has {i} {n} h = tab_has n (λ k. k) i h

pub upto_from : {i : ℕ} (n : ℕ) → i ∈ upto n → i < n
upto_from n m = let r = tab_member n (λ k. k) m in subst (λ (k : ℕ). k < n) (sym r.2) r.1

-- they stand in their order, and so each once
tab_rises : (n : ℕ) (f : ℕ → ℕ) → ((i j : ℕ) → i < j → f i < f j) → {a b : ℕ} → Before a b (tab n f) → a < b
tab_rises zero f h r = absurd (before_nil r)
tab_rises (suc n) f h {a} {b} r =
    ⊎_elim (λ q. let m = tab_member n (λ k. f (suc k)) q.1 in let x = h zero (suc m.0) (zero-lt-suc m.0) in let y = q.0 in let z = m.2 in omega arith)
    (tab_rises n (λ k. f (suc k)) (λ i j q. h (suc i) (suc j) (suc-le-suc q)))
    (before_cons (subst (λ (l : List ℕ). Before a b l) (tab_suc n f) r))

pub upto_rises : {a b : ℕ} (n : ℕ) → Before a b (upto n) → a < b
upto_rises n r = tab_rises n (λ k. k) (λ i j q. q) r

pub upto_once : (n : ℕ) → Once (upto n)
upto_once n = once_if (upto n) (λ x r. let q = upto_rises n r in omega arith)

-- ---- a number as its half and its lowest mark

-- a mark as a digit
abbrev pub digit : Bool → ℕ
digit true = 1
digit false = 0

-- it is below 2, and `d ≡ 1` tells it back
digit_lt : (b : Bool) → digit b < 2
digit_lt true = lit< tt
digit_lt false = lit< tt

digit_test : (d : ℕ) → d < 2 → d ≡ digit (eqb d 1)
digit_test zero h = refl
digit_test (suc zero) h = refl
digit_test (suc (suc d)) h = absurd (not-suc-le-zero (le_of_suc-le-suc (le_of_suc-le-suc h)))

test_digit : (b : Bool) → eqb (digit b) 1 ≡ b
test_digit true = refl
test_digit false = refl

-- the lowest mark is the number's remainder by 2, and the others are the marks of its half
pub bit_lowest : (n : ℕ) → bit n 0 ≡ eqb (n % 2) 1
unfolding bit
bit_lowest n = ap (λ (x : ℕ). eqb (x % 2) 1) (div-one n)

pub bit_suc : (n k : ℕ) → bit n (suc k) ≡ bit (n / 2) k
unfolding bit
bit_suc n k = ap (λ (x : ℕ). eqb (x % 2) 1) (ap (λ (x : ℕ). n / x) (pow-succ' 2 k) ∙ sym (div-div-eq-div-mul n 2 (2 ^ k)))

-- so the number is twice its half and its lowest mark
pub low_digit : (n : ℕ) → n % 2 ≡ digit (bit n 0)
low_digit n = digit_test (n % 2) (mod-lt n (zero-lt-suc 1)) ∙ ap digit (sym (bit_lowest n))

pub halved : (n : ℕ) → n ≡ n / 2 * 2 + digit (bit n 0)
halved n = sym (div-add-mod' n 2) ∙ ap (λ (x : ℕ). n / 2 * 2 + x) (low_digit n)

-- the marks of a number that is put together so
pub bit_low : {n : ℕ} (h : ℕ) (b : Bool) → n ≡ h * 2 + digit b → bit n 0 ≡ b
bit_low {n} h b e = bit_lowest n ∙ ap (λ (x : ℕ). eqb (x % 2) 1) e ∙ ap (λ (x : ℕ). eqb x 1) (digits_mod h (digit_lt b)) ∙ test_digit b

pub bit_high : {n : ℕ} (h : ℕ) (b : Bool) (k : ℕ) → n ≡ h * 2 + digit b → bit n (suc k) ≡ bit h k
bit_high {n} h b k e = bit_suc n k ∙ ap (λ (x : ℕ). bit (x / 2) k) e ∙ ap (λ (x : ℕ). bit x k) (digits_div h (digit_lt b))

-- halving takes one mark off a number's width
half_lt : {n : ℕ} (w : ℕ) → n < 2 ^ suc w → n / 2 < 2 ^ w
half_lt w h = let e = pow-suc 2 w in omega arith

-- ---- numbers and their marks

-- 0 has none, and 2 ^ j has j alone
pub bit_zero : (k : ℕ) → bit 0 k ≡ false
unfolding bit
bit_zero k = ap (λ (x : ℕ). eqb (x % 2) 1) (zero-div (2 ^ k))

pub bit_none : {n : ℕ} (k : ℕ) → n ≡ 0 → bit n k ≡ false
bit_none k e = ap (λ (x : ℕ). bit x k) e ∙ bit_zero k

pow_made : (j : ℕ) → 2 ^ suc j ≡ 2 ^ j * 2 + digit false
pow_made j = pow-suc 2 j ∙ sym (add-zero (2 ^ j * 2))

pub bit_pow : (j k : ℕ) → bit (2 ^ j) k ≡ eqb k j
unfolding bit
bit_pow zero zero = refl
bit_pow zero (suc k) = bit_suc 1 k ∙ bit_zero k ∙ sym (eqb-suc-zero k)
bit_pow (suc j) zero = bit_low (2 ^ j) false (pow_made j) ∙ sym (eqb-zero-suc j)
bit_pow (suc j) (suc k) = bit_high (2 ^ j) false k (pow_made j) ∙ bit_pow j k ∙ sym (eqb-suc-suc k j)

-- no mark stands at or above the width
pub bit_above : (w n k : ℕ) → n < 2 ^ w → w ≤ k → bit n k ≡ false
bit_above zero n k h q = bit_none k (lt-one h)
bit_above (suc w) n zero h q = absurd (not-suc-le-zero q)
bit_above (suc w) n (suc k) h q = bit_suc n k ∙ bit_above w (n / 2) k (half_lt w h) (le_of_suc-le-suc q)

-- numbers of one width with the same marks are equal
pub bit_same : (w a b : ℕ) → a < 2 ^ w → b < 2 ^ w → ((k : ℕ) → k < w → bit a k ≡ bit b k) → a ≡ b
bit_same zero a b ha hb h = lt-one ha ∙ sym (lt-one hb)
bit_same (suc w) a b ha hb h =
    halved a
    ∙ ap₂ (λ (x : ℕ) (d : Bool). x * 2 + digit d)
    (bit_same w (a / 2) (b / 2) (half_lt w ha) (half_lt w hb) (λ k q. sym (bit_suc a k) ∙ h (suc k) (suc-le-suc q) ∙ bit_suc b k))
    (h zero (zero-lt-suc w))
    ∙ sym (halved b)

-- a number that has a mark is not 0, and one that has none is
pub bit_nonzero : (n k : ℕ) → T (bit n k) → n ≡ 0 → ⊥
bit_nonzero n k t e = false_is (bit_none k e) t

pub no_bits : (w n : ℕ) → n < 2 ^ w → ((k : ℕ) → k < w → bit n k ≡ false) → n ≡ 0
no_bits w n h f = bit_same w n 0 h (pow_pos w) (λ k q. f k q ∙ sym (bit_zero k))

-- a number that has the mark s is at least 2 ^ s
pub bit_le : (n s : ℕ) → T (bit n s) → 2 ^ s ≤ n
bit_le n s t = le_of_suc-le-suc (lt_of_not-le (λ (q : n < 2 ^ s). false_is (bit_above s n s q (le_refl s)) t))

-- ---- the marks of a number that is made of others

-- an operation that goes through the digits goes through the marks
module _ (op f : ℕ → ℕ → ℕ) (g : Bool → Bool → Bool) (step : (a b : ℕ) → op a b ≡ op (a / 2) (b / 2) * 2 + f (a % 2) (b % 2))
    (digits : (x y : Bool) → f (digit x) (digit y) ≡ digit (g x y)) where
  op_made : (a b : ℕ) → op a b ≡ op (a / 2) (b / 2) * 2 + digit (g (bit a 0) (bit b 0))
  op_made a b = step a b ∙ ap (λ (x : ℕ). op (a / 2) (b / 2) * 2 + x) (ap₂ f (low_digit a) (low_digit b) ∙ digits (bit a 0) (bit b 0))

  bit_op : (a b k : ℕ) → bit (op a b) k ≡ g (bit a k) (bit b k)
  bit_op a b zero = bit_low (op (a / 2) (b / 2)) (g (bit a 0) (bit b 0)) (op_made a b)
  bit_op a b (suc k) =
      bit_high (op (a / 2) (b / 2)) (g (bit a 0) (bit b 0)) k (op_made a b) ∙ bit_op (a / 2) (b / 2) k ∙ sym (ap₂ g (bit_suc a k) (bit_suc b k))

-- the marks of either, and of both
max_digit : (x y : Bool) → max (digit x) (digit y) ≡ digit (x || y)
max_digit true true = refl
max_digit true false = refl
max_digit false true = refl
max_digit false false = refl

min_digit : (x y : Bool) → min (digit x) (digit y) ≡ digit (x && y)
min_digit true true = refl
min_digit true false = refl
min_digit false true = refl
min_digit false false = refl

pub bit-or : (a b k : ℕ) → bit (bit_or a b) k ≡ bit a k || bit b k
bit-or = bit_op bit_or max ◌||◌ or_step max_digit

pub bit-and : (a b k : ℕ) → bit (bit_and a b) k ≡ bit a k && bit b k
bit-and = bit_op bit_and min ◌&&◌ and_step min_digit

-- the same as tests: a test that is equal to another decides the same, so a mark of either of two numbers and of both is read as the two marks are
pub equal_test : {A : Type 0} {a b : Bool} → a ≡ b → Decides b A → Decides a A
equal_test {A} e d = subst (λ (x : Bool). Decides x A) (sym e) d

pub or_bit : {A B : Type 0} (a b k : ℕ) → Decides (bit a k) A → Decides (bit b k) B → Decides (bit (bit_or a b) k) (A ⊎ B)
or_bit a b k d e = equal_test (bit-or a b k) (or_test d e)

pub and_bit : {A B : Type 0} (a b k : ℕ) → Decides (bit a k) A → Decides (bit b k) B → Decides (bit (bit_and a b) k) (A × B)
and_bit a b k d e = equal_test (bit-and a b k) (and_test d e)

pub either_test : (a b k : ℕ) → Decides (bit (bit_or a b) k) (T (bit a k) ⊎ T (bit b k))
either_test a b k = or_bit a b k (own_test (bit a k)) (own_test (bit b k))

pub both_test : (a b k : ℕ) → Decides (bit (bit_and a b) k) (T (bit a k) × T (bit b k))
both_test a b k = and_bit a b k (own_test (bit a k)) (own_test (bit b k))

-- where the parts lack a mark, so does what is made of them
pub or_unmarked : (x y i : ℕ) → bit x i ≡ false → bit y i ≡ false → bit (bit_or x y) i ≡ false
or_unmarked x y i p q = bit-or x y i ∙ ap₂ ◌||◌ p q

pub and_unmarked : (x y i : ℕ) → bit x i ≡ false → bit (bit_and x y) i ≡ false
and_unmarked x y i p = bit-and x y i ∙ ap (λ (b : Bool). b && bit y i) p

-- the complement within w marks has those that n has not
others_made : (w n : ℕ) → n < 2 ^ suc w → 2 ^ suc w - 1 - n ≡ (2 ^ w - 1 - n / 2) * 2 + digit (not (bit n 0))
others_made w n h = go (bit n 0) (halved n)
  where
    go : (b : Bool) → n ≡ n / 2 * 2 + digit b → 2 ^ suc w - 1 - n ≡ (2 ^ w - 1 - n / 2) * 2 + digit (not b)
    go true e = let p = pow-suc 2 w in omega arith
    go false e = let p = pow-suc 2 w in omega arith

pub bit_others : (w n k : ℕ) → n < 2 ^ w → k < w → bit (2 ^ w - 1 - n) k ≡ not (bit n k)
bit_others zero n k h q = absurd (not-suc-le-zero q)
bit_others (suc w) n zero h q = bit_low (2 ^ w - 1 - n / 2) (not (bit n 0)) (others_made w n h)
bit_others (suc w) n (suc k) h q =
    bit_high (2 ^ w - 1 - n / 2) (not (bit n 0)) k (others_made w n h) ∙ bit_others w (n / 2) k (half_lt w h) (le_of_suc-le-suc q) ∙ ap not (sym (bit_suc n k))

-- ---- a mark taken out

-- by the half and the lowest mark
without_low : {n : ℕ} (h : ℕ) (b : Bool) → n ≡ h * 2 + digit b → without n 0 ≡ h * 2 + digit false
unfolding without
without_low {n} h b e = ap (λ (x : Bool). cond x (n - 2 ^ 0) n) (bit_low h b e) ∙ go b e
  where
    go : (b : Bool) → n ≡ h * 2 + digit b → cond b (n - 2 ^ 0) n ≡ h * 2 + 0
    go true e = omega arith
    go false e = e

without_high : {n : ℕ} (h : ℕ) (b : Bool) (s : ℕ) → n ≡ h * 2 + digit b → without n (suc s) ≡ without h s * 2 + digit b
unfolding without
without_high {n} h b s e = ap (λ (x : Bool). cond x (n - 2 ^ suc s) n) (bit_high h b s e) ∙ go (bit h s) (bit_le h s)
  where
    go : (x : Bool) → (T x → 2 ^ s ≤ h) → cond x (n - 2 ^ suc s) n ≡ cond x (h - 2 ^ s) h * 2 + digit b
    go true f = let p = pow-suc 2 s in let q = f tt in omega arith
    go false f = e

-- the marks that are left
pub bit_without : (n s k : ℕ) → bit (without n s) k ≡ bit n k && not (eqb k s)
bit_without n zero zero = bit_low (n / 2) false (without_low (n / 2) (bit n 0) (halved n)) ∙ sym (and-false (bit n 0))
bit_without n zero (suc k) =
    bit_high (n / 2) false k (without_low (n / 2) (bit n 0) (halved n)) ∙ sym (bit_suc n k) ∙ sym (and-true (bit n (suc k)))
    ∙ ap (λ (b : Bool). bit n (suc k) && not b) (sym (eqb-suc-zero k))
bit_without n (suc s) zero =
    bit_low (without (n / 2) s) (bit n 0) (without_high (n / 2) (bit n 0) s (halved n)) ∙ sym (and-true (bit n 0))
    ∙ ap (λ (b : Bool). bit n 0 && not b) (sym (eqb-zero-suc s))
bit_without n (suc s) (suc k) =
    bit_high (without (n / 2) s) (bit n 0) k (without_high (n / 2) (bit n 0) s (halved n)) ∙ bit_without (n / 2) s k
    ∙ ap₂ (λ (a b : Bool). a && not b) (sym (bit_suc n k)) (sym (eqb-suc-suc k s))

-- nothing is added, and what is taken out is gone
pub without_le : (n s : ℕ) → without n s ≤ n
unfolding without
without_le n s = go (bit n s)
  where
    go : (b : Bool) → cond b (n - 2 ^ s) n ≤ n
    go true = sub-le n (2 ^ s)
    go false = le_refl n

pub without_lt : (n s : ℕ) → T (bit n s) → without n s + 2 ^ s ≡ n
unfolding without
without_lt n s t = ap (λ (b : Bool). cond b (n - 2 ^ s) n + 2 ^ s) (test_true (own_test (bit n s)) t) ∙ sub-add_cancel (bit_le n s t)

pub without_below : (x s w : ℕ) → x < 2 ^ w → without x s < 2 ^ w
without_below x s w q = lt_of_le_of_lt (without_le x s) q

-- nothing is taken out of 0
pub without_zero : (x s : ℕ) → x ≡ 0 → without x s ≡ 0
without_zero x s e = let p = without_le x s in omega arith

-- the mark is not there then, and no other is that was not
pub without_struck : (x s : ℕ) → bit (without x s) s ≡ false
without_struck x s = bit_without x s s ∙ test_false (and_test (own_test (bit x s)) (not_test (eq_test s s))) (λ r. r.1 refl)

pub without_unmarked : (x s i : ℕ) → bit x i ≡ false → bit (without x s) i ≡ false
without_unmarked x s i p = bit_without x s i ∙ ap (λ (b : Bool). b && not (eqb i s)) p

-- ---- masks

-- a mask fits its width
pub mask_lt : (w : ℕ) (f : ℕ → Bool) → mask_of w f < 2 ^ w
mask_lt zero f = le_refl 1
mask_lt (suc w) f = go (f w) (mask_lt w f)
  where
    go : (b : Bool) → mask_of w f < 2 ^ w → mask_of w f + cond b (2 ^ w) 0 < 2 ^ suc w
    go true h = let p = pow-suc 2 w in omega arith
    go false h = let p = pow-suc 2 w in omega arith

-- how a loop makes a mask: one mark more
mask_suc : (w : ℕ) (f : ℕ → Bool) → mask_of (suc w) f ≡ cond (f w) (bit_or (mask_of w f) (2 ^ w)) (mask_of w f)
mask_suc w f = go (f w)
  where
    m : ℕ
    m = mask_of w f

    go : (b : Bool) → m + cond b (2 ^ w) 0 ≡ cond b (bit_or m (2 ^ w)) m
    go true =
        add_comm m (2 ^ w) ∙ ap (λ (x : ℕ). x + m) (sym (one-mul (2 ^ w))) ∙ sym (or_shifted_r 1 w m (mask_lt w f))
        ∙ ap (bit_or m) (one-mul (2 ^ w))
    go false = add-zero m

pub mask_next : (w : ℕ) (f : ℕ → Bool) → mask_of (w + 1) f ≡ cond (f w) (bit_or (mask_of w f) (2 ^ w)) (mask_of w f)
mask_next w f = ap (λ (x : ℕ). mask_of x f) (add-one w) ∙ mask_suc w f

-- the marks of a mask are those that the rule says
bit_mask_suc : (w : ℕ) (f : ℕ → Bool) (k : ℕ) → bit (mask_of (suc w) f) k ≡ bit (mask_of w f) k || f w && eqb k w
bit_mask_suc w f k = ap (λ (x : ℕ). bit x k) (mask_suc w f) ∙ go (f w)
  where
    m : ℕ
    m = mask_of w f

    go : (b : Bool) → bit (cond b (bit_or m (2 ^ w)) m) k ≡ bit m k || b && eqb k w
    go true = bit-or m (2 ^ w) k ∙ ap (λ (b : Bool). bit m k || b) (bit_pow w k)
    go false = sym (or-false (bit m k))

pub bit_mask : (w : ℕ) (f : ℕ → Bool) (k : ℕ) → k < w → bit (mask_of w f) k ≡ f k
bit_mask zero f k h = absurd (not-suc-le-zero h)
bit_mask (suc w) f k h = bit_mask_suc w f k ∙ ⊎_elim top (λ q. below q (bit_mask w f k q)) (eq-or-lt_of_le (le_of_suc-le-suc h))
  where
    top : k ≡ w → bit (mask_of w f) k || f w && eqb k w ≡ f k
    top e =
        ap₂ (λ (a b : Bool). a || f w && b) (bit_above w (mask_of w f) k (mask_lt w f) (le_of_eq (sym e))) (test_true (eq_test k w) e)
        ∙ and-true (f w) ∙ ap f (sym e)

    below : k < w → bit (mask_of w f) k ≡ f k → bit (mask_of w f) k || f w && eqb k w ≡ f k
    below q e =
        ap₂ (λ (a b : Bool). a || f w && b) e (test_false (eq_test k w) (ne_of_lt q)) ∙ ap (λ (b : Bool). f k || b) (and-false (f w)) ∙ or-false (f k)

-- rules that agree below the width make the same mask
pub mask_same : (w : ℕ) (f g : ℕ → Bool) → ((k : ℕ) → k < w → f k ≡ g k) → mask_of w f ≡ mask_of w g
mask_same w f g h =
    bit_same w (mask_of w f) (mask_of w g) (mask_lt w f) (mask_lt w g) (λ k q. bit_mask w f k q ∙ h k q ∙ sym (bit_mask w g k q))

-- a number is the mask of its marks
pub mask_bits : (w n : ℕ) → n < 2 ^ w → mask_of w (bit n) ≡ n
mask_bits w n h = bit_same w (mask_of w (bit n)) n (mask_lt w (bit n)) h (bit_mask w (bit n))

-- ---- the lowest mark

-- the trailing zeros, by the half and the lowest mark
trailing_step : (w h : ℕ) (b : Bool) → count_trailing_zeros (suc w) (h * 2 + digit b) ≡ cond b 0 (suc (count_trailing_zeros w h))
unfolding count_trailing_zeros
trailing_step w h b =
    ap₂ (λ (d x : ℕ). under d (count_trailing_zeros w x)) (digits_mod h (digit_lt b)) (digits_div h (digit_lt b)) ∙ go b
  where
    go : (b : Bool) → under (digit b) (count_trailing_zeros w h) ≡ cond b 0 (suc (count_trailing_zeros w h))
    go true = refl
    go false = refl

-- What holds of every odd number and 0, and of h * 2 and t + 1 where it holds of h and t, holds of every number that is not 0 and its trailing zeros.
pub by_lowest : (P : ℕ → ℕ → ℕ → Type 0) → ((w h : ℕ) → P (suc w) (h * 2 + 1) 0)
    → ((w h t : ℕ) → (h ≡ 0 → ⊥) → P w h t → P (suc w) (h * 2 + 0) (suc t))
    → (w n : ℕ) → n < 2 ^ w → (n ≡ 0 → ⊥) → P w n (count_trailing_zeros w n)
by_lowest P odd even zero n h ne = absurd (ne (lt-one h))
by_lowest P odd even (suc w) n h ne =
    subst (λ (x : ℕ). P (suc w) x (count_trailing_zeros (suc w) x)) (sym (halved n)) (go (bit n 0) (halved n) (by_lowest P odd even w (n / 2) (half_lt w h)))
  where
    go : (b : Bool) → n ≡ n / 2 * 2 + digit b → ((n / 2 ≡ 0 → ⊥) → P w (n / 2) (count_trailing_zeros w (n / 2)))
        → P (suc w) (n / 2 * 2 + digit b) (count_trailing_zeros (suc w) (n / 2 * 2 + digit b))
    go true e rest = subst (P (suc w) (n / 2 * 2 + 1)) (sym (trailing_step w (n / 2) true)) (odd w (n / 2))
    go false e rest =
        let half_ne : n / 2 ≡ 0 → ⊥ = λ z. ne (omega arith) in
        subst (P (suc w) (n / 2 * 2 + 0)) (sym (trailing_step w (n / 2) false)) (even w (n / 2) (count_trailing_zeros w (n / 2)) half_ne (rest half_ne))

-- the trailing zeros of a number that is not 0 are the place of its lowest mark
pub record Lowest (w n : ℕ) : Type 0 where
  pub inside : count_trailing_zeros w n < w
  pub there : T (bit n (count_trailing_zeros w n))
  pub none_lower : (k : ℕ) → k < count_trailing_zeros w n → bit n k ≡ false

-- the same said of any place t
abbrev At : ℕ → ℕ → ℕ → Type 0
At w n t = (t < w) × T (bit n t) × ((k : ℕ) → k < t → bit n k ≡ false)

at_odd : (w h : ℕ) → At (suc w) (h * 2 + 1) 0
at_odd w h = (zero-lt-suc w, true_is (bit_low h true refl), λ k q. absurd (not-suc-le-zero q))

at_even : (w h t : ℕ) → (h ≡ 0 → ⊥) → At w h t → At (suc w) (h * 2 + 0) (suc t)
at_even w h t ne a = (suc-le-suc a.0, subst T (sym (bit_high h false t refl)) a.1, lower)
  where
    lower : (k : ℕ) → k < suc t → bit (h * 2 + 0) k ≡ false
    lower zero q = bit_low h false refl
    lower (suc k) q = bit_high h false k refl ∙ a.2 k (le_of_suc-le-suc q)

pub lowest_mark : (w n : ℕ) → n < 2 ^ w → (n ≡ 0 → ⊥) → Lowest w n
lowest_mark w n h ne = let a = by_lowest At at_odd at_even w n h ne in record { inside = a.0; there = a.1; none_lower = a.2 }

-- and its leading zeros tell the place of its highest one
pub record Highest (w n : ℕ) : Type 0 where
  pub inside : count_leading_zeros w n < w
  pub there : T (bit n (w - 1 - count_leading_zeros w n))

positive : (n : ℕ) → (n ≡ 0 → ⊥) → 0 < n
positive zero ne = absurd (ne refl)
positive (suc n) ne = zero-lt-suc n

pub highest_mark : (w n : ℕ) → n < 2 ^ w → (n ≡ 0 → ⊥) → Highest w n
unfolding bit
highest_mark w n h ne =
    let t = leading_top w n (positive n ne) h in
    let j = t.0 in
    let s : count_leading_zeros w n + suc j ≡ w = t.1 in
    let low : 2 ^ j ≤ n = t.2 in
    let high : n < 2 ^ suc j = t.3 in
    let p : 2 ^ suc j ≡ 2 ^ j * 2 = pow-suc 2 j in
    let whole : n ≡ 1 * 2 ^ j + (n - 2 ^ j) = omega arith in
    let one : n / 2 ^ j ≡ 1 = ap (λ (x : ℕ). x / 2 ^ j) whole ∙ digits_div 1 (omega arith) in
    record {
      inside = omega arith;
      there = subst (λ (k : ℕ). T (eqb (n / 2 ^ k % 2) 1)) (let e : j ≡ w - 1 - count_leading_zeros w n = omega arith in e) (true_is (ap (λ (x : ℕ). eqb (x % 2) 1) one));
    }

-- so a number that is not 0 has a mark
pub nonzero_bit : (w n : ℕ) → n < 2 ^ w → (n ≡ 0 → ⊥) → (k : ℕ) × (k < w) × T (bit n k)
nonzero_bit w n h ne = let l = lowest_mark w n h ne in (count_trailing_zeros w n, l.inside, l.there)

pub nonzero_test : (w n : ℕ) → n < 2 ^ w → Decides (not (eqb n 0)) ((k : ℕ) × (k < w) × T (bit n k))
nonzero_test w n h = read_as (not_test (eq_test n 0)) (nonzero_bit w n h) (λ r. bit_nonzero n r.0 r.2)

-- ---- the count of marks

-- how many members pass: one more where the first passes
pub only_count {ℓ} : {X : Type ℓ} (p : X → Bool) (x : X) (l : List X) → length (only p (x ∷ l)) ≡ digit (p x) + length (only p l)
only_count p x l = go (p x)
  where
    go : (b : Bool) → length (cond b (x ∷ only p l) (only p l)) ≡ digit b + length (only p l)
    go true = sym (one-add (length (only p l)))
    go false = sym (zero-add (length (only p l)))

-- tables whose elements pass at the same places have as many that pass
pub only_tab {ℓ κ} : {X : Type ℓ} {Y : Type κ} (n : ℕ) (p : X → Bool) (f : ℕ → X) (q : Y → Bool) (g : ℕ → Y)
    → ((i : ℕ) → i < n → p (f i) ≡ q (g i)) → length (only p (tab n f)) ≡ length (only q (tab n g))
only_tab zero p f q g h = refl
only_tab {X = X} {Y = Y} (suc n) p f q g h =
    ap (λ (l : List X). length (only p l)) (tab_suc n f)
    ∙ only_count p (f 0) (tab n (λ k. f (suc k)))
    ∙ ap₂ (λ (b : Bool) (x : ℕ). digit b + x) (h zero (zero-lt-suc n)) (only_tab n p (λ k. f (suc k)) q (λ k. g (suc k)) (λ i r. h (suc i) (suc-le-suc r)))
    ∙ sym (only_count q (g 0) (tab n (λ k. g (suc k))))
    ∙ ap (λ (l : List Y). length (only q l)) (sym (tab_suc n g))

-- the count of ones is how many marks there are
pub ones_count : (w n : ℕ) → n < 2 ^ w → ones n ≡ length (only (bit n) (upto w))
unfolding ones
ones_count zero n h = ap ones (lt-one h)
ones_count (suc w) n h =
    ones_step n
    ∙ ap₂ (λ (x y : ℕ). x + y) (low_digit n) (ones_count w (n / 2) (half_lt w h) ∙ only_tab w (bit (n / 2)) (λ k. k) (bit n) suc (λ i q. sym (bit_suc n i)))
    ∙ sym (only_count (bit n) 0 (tab w suc))
    ∙ ap (λ (l : List ℕ). length (only (bit n) l)) (sym (tab_suc w (λ k. k)))

-- ---- as the code has it

-- 1 << s, at a width above s: nothing is shifted out
pub shl_one : {s : ℕ} (w : ℕ) → s < w → 1 * 2 ^ s % 2 ^ w ≡ 2 ^ s
shl_one {s} w h = shl_exact {a = 1} 1 s w (lit< tt) (omega arith) ∙ one-mul (2 ^ s)

-- n | (1 << s): a mark put in
pub bit_put : (w n s k : ℕ) → s < w → bit (bit_or n (1 * 2 ^ s % 2 ^ w)) k ≡ bit n k || eqb k s
bit_put w n s k h = ap (λ (m : ℕ). bit (bit_or n m) k) (shl_one w h) ∙ bit-or n (2 ^ s) k ∙ ap (λ (b : Bool). bit n k || b) (bit_pow s k)

-- !(1 << s): every mark but one
pub bit_rest : (w s k : ℕ) → s < w → k < w → bit (2 ^ w - 1 - 1 * 2 ^ s % 2 ^ w) k ≡ not (eqb k s)
bit_rest w s k h q = ap (λ (m : ℕ). bit (2 ^ w - 1 - m) k) (shl_one w h) ∙ bit_others w (2 ^ s) k (pow-lt h) q ∙ ap not (bit_pow s k)

-- n & !(1 << s): a mark taken out
pub and_others : (w n s : ℕ) → n < 2 ^ w → s < w → bit_and n (2 ^ w - 1 - 1 * 2 ^ s % 2 ^ w) ≡ without n s
and_others w n s h q =
    bit_same w (bit_and n rest) (without n s) (lt_of_le_of_lt (and_le_l n rest) h) (lt_of_le_of_lt (without_le n s) h)
    (λ k r. bit-and n rest k ∙ ap (λ (b : Bool). bit n k && b) (bit_rest w s k q r) ∙ sym (bit_without n s k))
  where
    rest : ℕ
    rest = 2 ^ w - 1 - 1 * 2 ^ s % 2 ^ w

-- n & (n - 1): the lowest mark taken out
pred_odd : (h : ℕ) → bit_and (h * 2 + 1) (h * 2 + 1 - 1) ≡ without (h * 2 + 1) 0
pred_odd h =
    let e : h * 2 + 1 - 1 ≡ h * 2 + 0 = omega arith in
    ap (bit_and (h * 2 + 1)) e ∙ and_block 1 h h 1 0 (lit< tt) (lit< tt) ∙ ap (λ (x : ℕ). x * 2 + 0) (and_self h) ∙ sym (without_low h true refl)

pred_even : (h t : ℕ) → (h ≡ 0 → ⊥) → bit_and h (h - 1) ≡ without h t → bit_and (h * 2 + 0) (h * 2 + 0 - 1) ≡ without (h * 2 + 0) (suc t)
pred_even h t ne r =
    let e : h * 2 + 0 - 1 ≡ (h - 1) * 2 + 1 = omega arith in
    ap (bit_and (h * 2 + 0)) e ∙ and_block 1 h (h - 1) 0 1 (lit< tt) (lit< tt) ∙ ap (λ (x : ℕ). x * 2 + 0) r ∙ sym (without_high h false t refl)

pub and_pred : (w n : ℕ) → n < 2 ^ w → (n ≡ 0 → ⊥) → bit_and n (n - 1) ≡ without n (count_trailing_zeros w n)
and_pred = by_lowest (λ w n t. bit_and n (n - 1) ≡ without n t) (λ w. pred_odd) (λ w. pred_even)

-- n & (1 << s) is 0 exactly where the mark s is not there, and not 0 exactly where it is
pub and_mark : (n s : ℕ) → eqb (bit_and n (2 ^ s)) 0 ≡ not (bit n s)
and_mark n s = same_test (eq_test (bit_and n (2 ^ s)) 0) (not_test (own_test (bit n s))) gone none
  where
    marks : (k : ℕ) → bit (bit_and n (2 ^ s)) k ≡ bit n k && eqb k s
    marks k = bit-and n (2 ^ s) k ∙ ap (λ (b : Bool). bit n k && b) (bit_pow s k)

    gone : bit_and n (2 ^ s) ≡ 0 → T (bit n s) → ⊥
    gone e t = bit_nonzero (bit_and n (2 ^ s)) s (subst T (sym (marks s)) (T_and (bit n s) (eqb s s) t (eqb_refl s))) e

    none : (T (bit n s) → ⊥) → bit_and n (2 ^ s) ≡ 0
    none f =
        no_bits (suc s) (bit_and n (2 ^ s)) (lt_of_le_of_lt (and_le_r n (2 ^ s)) (pow-lt (le_refl (suc s))))
        (λ k q. marks k ∙ test_false (and_test (own_test (bit n k)) (eq_test k s)) (λ r. f (subst (λ (x : ℕ). T (bit n x)) r.1 r.0)))

pub test_mark : (n s : ℕ) → not (eqb (bit_and n (2 ^ s)) 0) ≡ bit n s
test_mark n s = ap not (and_mark n s) ∙ not-not (bit n s)
