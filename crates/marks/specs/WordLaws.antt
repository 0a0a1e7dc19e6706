-- The laws of sets made of words, over any width and any number of words.
--
-- In order: the word of a mark and its place in it (`marked_at`: the mark i * width + k is mark k of word i); the marks of a set that gains
-- or loses one, and of a union; the tests of words (`overlap_words`, `empty_words`) and, from them, the tests of marks; sets with the same marks are the same words.
-- Assumes nothing.
use Rattle.std.specs.Prelude.{◌≡◌, refl, ◌⊎◌, Bool, false, not, ◌&&◌, ◌||◌, List, [], ◌∷◌, ℕ, zero, suc, ◌+◌, ◌*◌, ◌/◌, ◌%◌, ◌^◌, ◌<◌, T, eqb, length, get_or, set}
use Rattle.std.proofs.Math.Path.{sym, ap₂}
use Rattle.std.proofs.Common.{ap, ◌∙◌, subst, inl, inr, suc-le-suc, suc-ne-zero, mul_comm, div-lt_iff_lt-mul, not-suc-le-zero, le_of_suc-le-suc, zero-lt-suc, lt_of_le_of_lt, pow_pos, ext_get_or, get_or-set_same, get_or-set_other}
use Rattle.std.proofs.Math.Logic.{⊎_elim}
use Rattle.std.proofs.Math.Bool.{or-false, and-true}
use Rattle.std.proofs.Math.Nat.{suc_inj, div-add-mod'}
use Rattle.std.proofs.Math.Arith.{digits_lt, digits_div, digits_mod}
use Rattle.std.specs.Int.Bits.{bit_or, bit_and, and_zero_r}
use Rattle.std.proofs.lemmas.Nat.{and_le_l}
use Rattle.graph.specs.Decide.{Decides, is_false, answer, read_as, same_test, eq_test, and_test, or_test, not_test, test_false}
use Rattle.graph.specs.Lists.{◌∈◌, here, later}
use Rattle.marks.specs.MarkLaws.{bit_none, bit-or, both_test, bit_pow, bit_without, bit_same, bit_nonzero, no_bits, nonzero_bit}
use Rattle.marks.specs.Marks.{bit, without}
use Rattle.marks.specs.Words.{marked, with_mark, union, overlap, empty}

-- every word fits the width
abbrev pub Fit : ℕ → List ℕ → Type 0
Fit width ws = (w : ℕ) → w ∈ ws → w < 2 ^ width

-- so does what is read at any index: past the end it is 0
pub fit_at : (width : ℕ) (ws : List ℕ) → Fit width ws → (i : ℕ) → get_or ws i 0 < 2 ^ width
fit_at width [] f i = pow_pos width
fit_at width (w ∷ ws) f zero = f w here
fit_at width (w ∷ ws) f (suc i) = fit_at width ws (λ v m. f v (later m)) i

-- ---- a mark's word, and its place in the word

-- the word of a mark is in the list
pub word_lt : {width c : ℕ} (n : ℕ) → 0 < width → c < width * n → c / width < n
word_lt {width} {c} n p h = (div-lt_iff_lt-mul p).1 (subst (λ (x : ℕ). c < x) (mul_comm width n) h)

-- mark k of word i
pub place_lt : {width i k n : ℕ} → i < n → k < width → i * width + k < width * n
place_lt {width} {i} {k} {n} h q = subst (λ (x : ℕ). i * width + k < x) (mul_comm n width) (digits_lt h q)

pub marked_at : {width k : ℕ} (ws : List ℕ) (i : ℕ) → k < width → marked width ws (i * width + k) ≡ bit (get_or ws i 0) k
unfolding marked
marked_at ws i q = ap₂ (λ (j m : ℕ). bit (get_or ws j 0) m) (digits_div i q) (digits_mod i q)

-- a word that is 0 has none
pub marked_none : (width : ℕ) (ws : List ℕ) (c : ℕ) → get_or ws (c / width) 0 ≡ 0 → marked width ws c ≡ false
unfolding marked
marked_none width ws c e = bit_none (c % width) e

-- ---- the marks of a set that is made of others

-- One mark changes: the word of the mark c is replaced by one with the same marks but for c's own.
module _ (width : ℕ) (ws : List ℕ) (c : ℕ) (p : 0 < width) (h : c < width * length ws) where
  one_mark : (g : Bool → Bool → Bool) → ((b : Bool) → g b false ≡ b) → (v : ℕ) → ((k : ℕ) → bit v k ≡ g (bit (get_or ws (c / width) 0) k) (eqb k (c % width)))
      → (x : ℕ) → marked width (set ws (c / width) v) x ≡ g (marked width ws x) (eqb x c)
  unfolding marked
  one_mark g keeps v new x = ⊎_elim same apart (answer (eq_test (x / width) (c / width)))
    where
      place : x / width ≡ c / width → x % width ≡ c % width → x ≡ c
      place e q = sym (div-add-mod' x width) ∙ ap₂ (λ (i k : ℕ). i * width + k) e q ∙ div-add-mod' c width

      same : x / width ≡ c / width → marked width (set ws (c / width) v) x ≡ g (marked width ws x) (eqb x c)
      same e =
          ap (λ (w : ℕ). bit w (x % width)) (ap (λ (i : ℕ). get_or (set ws (c / width) v) i 0) e ∙ get_or-set_same ws (c / width) v 0 (word_lt (length ws) p h))
          ∙ new (x % width)
          ∙ ap₂ g (ap (λ (i : ℕ). bit (get_or ws i 0) (x % width)) (sym e))
          (same_test (eq_test (x % width) (c % width)) (eq_test x c) (place e) (ap (λ (y : ℕ). y % width)))

      apart : (x / width ≡ c / width → ⊥) → marked width (set ws (c / width) v) x ≡ g (marked width ws x) (eqb x c)
      apart f =
          ap (λ (w : ℕ). bit w (x % width)) (get_or-set_other ws (c / width) (x / width) v 0 f) ∙ sym (keeps (marked width ws x))
          ∙ ap (g (marked width ws x)) (sym (test_false (eq_test x c) (λ e. f (ap (λ (y : ℕ). y / width) e))))

-- a set gains the one mark and no other
pub marked_with : (width : ℕ) (ws : List ℕ) (c x : ℕ) → 0 < width → c < width * length ws → marked width (with_mark width ws c) x ≡ marked width ws x || eqb x c
unfolding with_mark
marked_with width ws c x p h =
    let w = get_or ws (c / width) 0 in
    one_mark width ws c p h ◌||◌ or-false (bit_or w (2 ^ (c % width)))
    (λ k. bit-or w (2 ^ (c % width)) k ∙ ap (λ (b : Bool). bit w k || b) (bit_pow (c % width) k)) x

-- and loses the one mark and no other
pub marked_without : (width : ℕ) (ws : List ℕ) (c x : ℕ) → 0 < width → c < width * length ws
    → marked width (set ws (c / width) (without (get_or ws (c / width) 0) (c % width))) x ≡ marked width ws x && not (eqb x c)
marked_without width ws c x p h =
    let w = get_or ws (c / width) 0 in
    one_mark width ws c p h (λ a b. a && not b) and-true (without w (c % width)) (bit_without w (c % width)) x

-- a union has the marks of either, word by word
union_at : (ws vs : List ℕ) (i : ℕ) → length ws ≡ length vs → get_or (union ws vs) i 0 ≡ bit_or (get_or ws i 0) (get_or vs i 0)
union_at [] [] i h = refl
union_at [] (v ∷ vs) i h = absurd (suc-ne-zero (length vs) (sym h))
union_at (w ∷ ws) [] i h = absurd (suc-ne-zero (length ws) h)
union_at (w ∷ ws) (v ∷ vs) zero h = refl
union_at (w ∷ ws) (v ∷ vs) (suc i) h = union_at ws vs i (suc_inj h)

pub marked_union : (width : ℕ) (ws vs : List ℕ) (x : ℕ) → length ws ≡ length vs → marked width (union ws vs) x ≡ marked width ws x || marked width vs x
unfolding marked
marked_union width ws vs x h =
    ap (λ (w : ℕ). bit w (x % width)) (union_at ws vs (x / width) h) ∙ bit-or (get_or ws (x / width) 0) (get_or vs (x / width) 0) (x % width)

-- ---- the tests

-- word i of the one and word i of the other have something in common
abbrev Meet : List ℕ → List ℕ → ℕ → Type 0
Meet ws vs i = (i < length ws) × (bit_and (get_or ws i 0) (get_or vs i 0) ≡ 0 → ⊥)

-- two sets overlap exactly when some of their words meet
overlap_words : (ws vs : List ℕ) → Decides (overlap ws vs) ((i : ℕ) × Meet ws vs i)
overlap_words [] vs = record { holds = λ t. absurd t; shows = λ r. not-suc-le-zero r.1.0 }
overlap_words (w ∷ ws) [] = record { holds = λ t. absurd t; shows = λ r. r.1.1 (and_zero_r (get_or (w ∷ ws) r.0 0)) }
overlap_words (w ∷ ws) (v ∷ vs) = read_as (or_test (not_test (eq_test (bit_and w v) 0)) (overlap_words ws vs)) out (λ r. into r.0 r.1)
  where
    out : (bit_and w v ≡ 0 → ⊥) ⊎ ((i : ℕ) × Meet ws vs i) → (i : ℕ) × Meet (w ∷ ws) (v ∷ vs) i
    out (inl f) = (zero, (zero-lt-suc (length ws), f))
    out (inr r) = (suc r.0, (suc-le-suc r.1.0, r.1.1))

    into : (i : ℕ) → Meet (w ∷ ws) (v ∷ vs) i → (bit_and w v ≡ 0 → ⊥) ⊎ ((i : ℕ) × Meet ws vs i)
    into zero m = inl m.1
    into (suc i) m = inr (i, (le_of_suc-le-suc m.0, m.1))

-- two sets overlap exactly when some mark is in both
pub overlap_test : (width : ℕ) (ws vs : List ℕ) → 0 < width → Fit width ws → Fit width vs → length ws ≡ length vs
    → Decides (overlap ws vs) ((c : ℕ) × (c < width * length ws) × T (marked width ws c) × T (marked width vs c))
unfolding marked
overlap_test width ws vs p f g h = read_as (overlap_words ws vs) (λ r. out r.0 r.1) into
  where
    out : (i : ℕ) → Meet ws vs i → (c : ℕ) × (c < width * length ws) × T (marked width ws c) × T (marked width vs c)
    out i m =
        let a = get_or ws i 0 in
        let b = get_or vs i 0 in
        let r = nonzero_bit width (bit_and a b) (lt_of_le_of_lt (and_le_l a b) (fit_at width ws f i)) m.1 in
        let t = (both_test a b r.0).holds r.2 in
        (i * width + r.0, place_lt m.0 r.1, subst T (sym (marked_at ws i r.1)) t.0, subst T (sym (marked_at vs i r.1)) t.1)

    into : (c : ℕ) × (c < width * length ws) × T (marked width ws c) × T (marked width vs c) → (i : ℕ) × Meet ws vs i
    into r =
        let a = get_or ws (r.0 / width) 0 in
        let b = get_or vs (r.0 / width) 0 in
        (r.0 / width, (word_lt (length ws) p r.1, bit_nonzero (bit_and a b) (r.0 % width) ((both_test a b (r.0 % width)).shows (r.2, r.3))))

-- a set is empty exactly when every word is 0
empty_words : (ws : List ℕ) → Decides (empty ws) ((i : ℕ) → i < length ws → get_or ws i 0 ≡ 0)
empty_words [] = record { holds = λ t i q. absurd (not-suc-le-zero q); shows = λ f. tt }
empty_words (w ∷ ws) =
    read_as (and_test (eq_test w 0) (empty_words ws)) all (λ f. (f zero (zero-lt-suc (length ws)), λ i q. f (suc i) (suc-le-suc q)))
  where
    all : (w ≡ 0) × ((i : ℕ) → i < length ws → get_or ws i 0 ≡ 0) → (i : ℕ) → i < suc (length ws) → get_or (w ∷ ws) i 0 ≡ 0
    all r zero q = r.0
    all r (suc i) q = r.1 i (le_of_suc-le-suc q)

-- a set is empty exactly when no mark is in it
pub empty_test : (width : ℕ) (ws : List ℕ) → 0 < width → Fit width ws → Decides (empty ws) ((c : ℕ) → c < width * length ws → T (marked width ws c) → ⊥)
unfolding marked
empty_test width ws p f =
    read_as (empty_words ws) (λ z c q t. bit_nonzero (get_or ws (c / width) 0) (c % width) t (z (c / width) (word_lt (length ws) p q)))
    (λ n i q. no_bits width (get_or ws i 0) (fit_at width ws f i) (λ k r. is_false (λ t. n (i * width + k) (place_lt q r) (subst T (sym (marked_at ws i r)) t))))

-- sets of one size with the same marks are the same words
pub marks_same : (width : ℕ) (ws vs : List ℕ) → 0 < width → Fit width ws → Fit width vs → length ws ≡ length vs
    → ((c : ℕ) → c < width * length ws → marked width ws c ≡ marked width vs c) → ws ≡ vs
marks_same width ws vs p f g h s =
    ext_get_or 0 ws vs h (λ i q. bit_same width (get_or ws i 0) (get_or vs i 0) (fit_at width ws f i) (fit_at width vs g i)
    (λ k r. sym (marked_at ws i r) ∙ s (i * width + k) (place_lt q r) ∙ marked_at vs i r))
