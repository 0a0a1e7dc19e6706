-- Marks in words of 64, by the laws of sets of words of any width: one mark put or struck, a row joined to a row, the lowest mark, a mark of two sets, and the
-- places that pass a test marked one after the other. And lists: how many of a front's members pass, and a front copied.
-- Assumes nothing.
use Rattle.std.specs.Prelude.{◌≡◌, refl, ◌⊎◌, Bool, true, false, ◌&&◌, ◌||◌, cond, List, [], ◌∷◌, ◌++◌, ℕ, ◌+◌, ◌-◌, ◌*◌, ◌/◌, ◌%◌, ◌^◌, ◌≤◌, ◌<◌, T, eqb, ltb, length, get_or, take, drop, set}
use Rattle.std.proofs.Common.{sym, ap, ap₂, ◌∙◌, subst, inl, inr, ⊎_elim, append-nil, zero-add, lt_of_le_of_lt, add-one, arith, le-ltb, lit<, length-set, length-append, take-suc, get_or-set_same, get_or-set_other}
use Rattle.std.proofs.Math.Bool.{and-true, and-false, or-false}
use Rattle.std.specs.Int.Bits.{bit_or, bit_and}
use Rattle.std.proofs.lemmas.Nat.{and_le_l}
use Rattle.std.specs.Int.Count.{count_leading_zeros, count_trailing_zeros}
use Rattle.std.proofs.Math.Seq.{paste-suc}
use Rattle.graph.specs.Decide.{is_true, true_is, own_test, eq_test, lt_test, and_test, or_test, same_test, answer, test_true, test_false}
use Rattle.graph.specs.Lists.{only, only_append}
use Rattle.marks.specs.Marks.{bit}
use Rattle.marks.specs.MarkLaws.{bit_nonzero, bit-or, both_test, Lowest, lowest_mark, Highest, highest_mark, shl_one, and_others}
use Rattle.marks.specs.Words.{marked, with_mark}
use Rattle.marks.specs.WordLaws.{marked_at, marked_none, marked_with, marked_without}
use Rattle.tallies.specs.Marks.{mark, in_row, Put, Struck, Joined, LowestMark, Common}

-- ---- a mark's word and its place there

-- a mark of a row
pub row_mark : (words : List ℕ) (r i : ℕ) → in_row words r i ≡ bit (get_or words (r * 8 + i / 64) 0) (i % 64)
unfolding marked
row_mark words r i = ap₂ (λ (x k : ℕ). bit (get_or words x 0) k) (omega arith) (omega arith)

-- mark k of word w, of a set and of a row
pub word_mark : (words : List ℕ) (w k : ℕ) → k < 64 → mark words (w * 64 + k) ≡ bit (get_or words w 0) k
word_mark words w k q = marked_at words w q

pub row_word : (words : List ℕ) (r w k : ℕ) → k < 64 → in_row words r (w * 64 + k) ≡ bit (get_or words (r * 8 + w) 0) k
row_word words r w k q =
    let z : r * 512 + (w * 64 + k) ≡ (r * 8 + w) * 64 + k = omega arith in
    ap (marked 64 words) z ∙ marked_at words (r * 8 + w) q

-- ---- one mark changes

-- words[x / 64] |= 1 << (x % 64)
pub puts : (words : List ℕ) (x : ℕ) → x < 64 * length words → Put x words (set words (x / 64) (bit_or (get_or words (x / 64) 0) (1 * 2 ^ (x % 64) % 2 ^ 64)))
unfolding with_mark
puts words x h y =
    ap (λ (m : ℕ). mark (set words (x / 64) (bit_or (get_or words (x / 64) 0) m)) y) (shl_one 64 (omega arith)) ∙ marked_with 64 words x y (lit< tt) h

-- words[x / 64] &= !(1 << (x % 64))
pub strikes : (words : List ℕ) (x : ℕ) → x < 64 * length words → get_or words (x / 64) 0 < 2 ^ 64
    → Struck x words (set words (x / 64) (bit_and (get_or words (x / 64) 0) (2 ^ 64 - 1 - 1 * 2 ^ (x % 64) % 2 ^ 64)))
strikes words x h fits y =
    ap (λ (v : ℕ). mark (set words (x / 64) v) y) (and_others 64 (get_or words (x / 64) 0) (x % 64) fits (omega arith)) ∙ marked_without 64 words x y (lit< tt) h

-- ---- a row joined to a row, word by word

-- the first n words of the row have the others' marks too; the rest is as it was
pub record Joining (r q n : ℕ) (others words now : List ℕ) : Type 0 where
  pub long : length now ≡ length words
  pub done : (k : ℕ) → k < n → get_or now (r * 8 + k) 0 ≡ bit_or (get_or words (r * 8 + k) 0) (get_or others (q * 8 + k) 0)
  pub rest : (k : ℕ) → (k < r * 8) ⊎ (r * 8 + n ≤ k) → get_or now k 0 ≡ get_or words k 0

pub joining_start : (r q : ℕ) (others words : List ℕ) → Joining r q 0 others words words
joining_start r q others words = record { long = refl; done = λ k h. absurd (omega arith); rest = λ k h. refl }

pub joining_turn : {r q n : ℕ} {others words now : List ℕ} → Joining r q n others words now → r * 8 + n < length now
    → Joining r q (n + 1) others words (set now (r * 8 + n) (bit_or (get_or now (r * 8 + n) 0) (get_or others (q * 8 + n) 0)))
joining_turn {r} {q} {n} {others} {words} {now} j h =
    record {
      long = length-set now (r * 8 + n) new ∙ j.long;
      done = λ k p. one k p (answer (eq_test k n));
      rest = λ k p. get_or-set_other now (r * 8 + n) k new 0 (λ e. ⊎_elim (λ l. omega arith) (λ l. omega arith) p) ∙ j.rest k (⊎_elim (λ l. inl l) (λ l. inr (omega arith)) p);
    }
  where
    new : ℕ
    new = bit_or (get_or now (r * 8 + n) 0) (get_or others (q * 8 + n) 0)

    one : (k : ℕ) → k < n + 1 → (k ≡ n) ⊎ (k ≡ n → ⊥) → get_or (set now (r * 8 + n) new) (r * 8 + k) 0 ≡ bit_or (get_or words (r * 8 + k) 0) (get_or others (q * 8 + k) 0)
    one k p (inl e) =
        ap (λ (m : ℕ). get_or (set now (r * 8 + n) new) (r * 8 + m) 0) e ∙ get_or-set_same now (r * 8 + n) new 0 h
        ∙ ap (λ (x : ℕ). bit_or x (get_or others (q * 8 + n) 0)) (j.rest (r * 8 + n) (inr (omega arith)))
        ∙ ap (λ (m : ℕ). bit_or (get_or words (r * 8 + m) 0) (get_or others (q * 8 + m) 0)) (sym e)
    one k p (inr f) =
        get_or-set_other now (r * 8 + n) (r * 8 + k) new 0 (λ e. f (omega arith)) ∙ j.done k (let g : (k ≡ n) → ⊥ = f in omega arith)

-- all eight words
pub joining_end : {r q : ℕ} {others words now : List ℕ} → Joining r q 8 others words now → Joined r q others words now
joining_end {r} {q} {others} {words} {now} g j i h = row_mark now j i ∙ ⊎_elim mine other (answer (eq_test j r)) ∙ sym (ap₂ (λ (a b : Bool). a || eqb j r && b) (row_mark words j i) (row_mark others q i))
  where
    old : ℕ
    old = get_or words (j * 8 + i / 64) 0

    theirs : Bool
    theirs = bit (get_or others (q * 8 + i / 64) 0) (i % 64)

    mine : j ≡ r → bit (get_or now (j * 8 + i / 64) 0) (i % 64) ≡ bit old (i % 64) || eqb j r && theirs
    mine e =
        ap (λ (w : ℕ). bit w (i % 64))
        (ap (λ (m : ℕ). get_or now (m * 8 + i / 64) 0) e ∙ g.done (i / 64) (omega arith) ∙ ap (λ (m : ℕ). bit_or (get_or words (m * 8 + i / 64) 0) (get_or others (q * 8 + i / 64) 0)) (sym e))
        ∙ bit-or old (get_or others (q * 8 + i / 64) 0) (i % 64)
        ∙ ap (λ (b : Bool). bit old (i % 64) || b && theirs) (sym (test_true (eq_test j r) e))

    other : (j ≡ r → ⊥) → bit (get_or now (j * 8 + i / 64) 0) (i % 64) ≡ bit old (i % 64) || eqb j r && theirs
    other f =
        ap (λ (w : ℕ). bit w (i % 64)) (g.rest (j * 8 + i / 64) (⊎_elim (λ l. inl (omega arith)) (λ l. inr (omega (arith, f))) (answer (lt_test j r))))
        ∙ sym (or-false (bit old (i % 64)))
        ∙ ap (λ (b : Bool). bit old (i % 64) || b && theirs) (sym (test_false (eq_test j r) f))

-- ---- the lowest mark

-- the words below w are 0, and w is not: its lowest mark is the lowest of all
pub lowest_found : (words : List ℕ) (w : ℕ) → w < 8 → ((k : ℕ) → k < w → get_or words k 0 ≡ 0) → get_or words w 0 < 2 ^ 64 → (get_or words w 0 ≡ 0 → ⊥)
    → (w * 64 + count_trailing_zeros 64 (get_or words w 0) ≤ 512) × LowestMark words (w * 64 + count_trailing_zeros 64 (get_or words w 0))
lowest_found words w h below fits ne = (omega (arith, inside), inl (omega (arith, inside), word_mark words w t inside ∙ test_true (own_test (bit word t)) low.there, lower))
  where
    word : ℕ
    word = get_or words w 0

    low : Lowest 64 word
    low = lowest_mark 64 word fits ne

    t : ℕ
    t = count_trailing_zeros 64 word

    inside : t < 64
    inside = low.inside

    lower : (i : ℕ) → i < w * 64 + t → mark words i ≡ false
    lower i q = ⊎_elim (λ l. marked_none 64 words i (below (i / 64) l)) (λ f. in_word (omega (arith, f, inside))) (answer (lt_test (i / 64) w))
      where
        in_word : i ≡ w * 64 + i % 64 → mark words i ≡ false
        in_word e = ap (mark words) e ∙ word_mark words w (i % 64) (omega arith) ∙ low.none_lower (i % 64) (omega arith)

pub lowest_none : (words : List ℕ) → ((k : ℕ) → k < 8 → get_or words k 0 ≡ 0) → LowestMark words 512
lowest_none words blank = inr (refl, λ i q. marked_none 64 words i (blank (i / 64) (omega arith)))

-- ---- a mark that a row and a set have both

pub common_found : (rows : List ℕ) (r : ℕ) (words : List ℕ) (w : ℕ) → w < 8 → get_or rows (r * 8 + w) 0 < 2 ^ 64 → (bit_and (get_or rows (r * 8 + w) 0) (get_or words w 0) ≡ 0 → ⊥)
    → (w * 64 + (63 - count_leading_zeros 64 (bit_and (get_or rows (r * 8 + w) 0) (get_or words w 0))) ≤ 512)
    × Common rows r words (w * 64 + (63 - count_leading_zeros 64 (bit_and (get_or rows (r * 8 + w) 0) (get_or words w 0))))
common_found rows r words w h fits ne =
    (omega (arith, inside), inl (omega (arith, inside), word_mark words w t inside ∙ is_true there.1, row_word rows r w t inside ∙ is_true there.0))
  where
    one : ℕ
    one = get_or rows (r * 8 + w) 0

    two : ℕ
    two = get_or words w 0

    high : Highest 64 (bit_and one two)
    high = highest_mark 64 (bit_and one two) (lt_of_le_of_lt (and_le_l one two) fits) ne

    t : ℕ
    t = 63 - count_leading_zeros 64 (bit_and one two)

    inside : t < 64
    inside = omega arith

    there : T (bit one t) × T (bit two t)
    there = (both_test one two t).holds high.there

pub common_none : (rows : List ℕ) (r : ℕ) (words : List ℕ) → ((k : ℕ) → k < 8 → bit_and (get_or rows (r * 8 + k) 0) (get_or words k 0) ≡ 0) → Common rows r words 512
common_none rows r words blank = inr (refl, λ i q e. row_mark rows r i ∙ test_false (own_test (bit (get_or rows (r * 8 + i / 64) 0) (i % 64))) (none i q e))
  where
    none : (i : ℕ) → i < 512 → mark words i ≡ true → T (bit (get_or rows (r * 8 + i / 64) 0) (i % 64)) → ⊥
    none i q e t =
        let one = get_or rows (r * 8 + i / 64) 0 in
        let two = get_or words (i / 64) 0 in
        bit_nonzero (bit_and one two) (i % 64) ((both_test one two (i % 64)).shows (t, unfold marked in true_is e)) (blank (i / 64) (omega arith))

-- ---- the places below n that pass a test, marked one after the other

pub record Marking (p : ℕ → Bool) (n : ℕ) (words : List ℕ) : Type 0 where
  pub at : (i : ℕ) → i < 512 → mark words i ≡ (ltb i n && p i)

pub marking_start : (p : ℕ → Bool) (words : List ℕ) → ((i : ℕ) → get_or words i 0 ≡ 0) → Marking p 0 words
marking_start p words blank = record { at = λ i q. marked_none 64 words i (blank (i / 64)) ∙ ap (λ (b : Bool). b && p i) (sym (le-ltb i 0 (omega arith))) }

-- one place more
one_below : (p : ℕ → Bool) (n i : ℕ) → ltb i n && p i || eqb i n && p n ≡ ltb i (n + 1) && p i
one_below p n i =
    same_test (or_test (and_test (lt_test i n) (own_test (p i))) (and_test (eq_test i n) (own_test (p n)))) (and_test (lt_test i (n + 1)) (own_test (p i)))
    (⊎_elim (λ r. let l : i < n = r.0 in (omega arith, r.1)) (λ r. let l : i ≡ n = r.0 in (omega arith, subst (λ (k : ℕ). T (p k)) (sym r.0) r.1)))
    (λ r. ⊎_elim (λ e. inr (e, subst (λ (k : ℕ). T (p k)) e r.1)) (λ f. inl ((let l : i < n + 1 = r.0 in omega (arith, f)), r.1)) (answer (eq_test i n)))

module _ {p : ℕ → Bool} {n : ℕ} {words : List ℕ} (m : Marking p n words) where
  -- it passes, and its mark is put
  pub marking_put : (words' : List ℕ) → p n ≡ true → Put n words words' → Marking p (n + 1) words'
  marking_put words' e put =
      record { at = λ i q. put i ∙ ap₂ ◌||◌ (m.at i q) (sym (and-true (eqb i n)) ∙ ap (λ (b : Bool). eqb i n && b) (sym e)) ∙ one_below p n i }

  -- it does not pass
  pub marking_pass : p n ≡ false → Marking p (n + 1) words
  marking_pass e =
      record {
        at = λ i q.
            m.at i q ∙ sym (or-false (ltb i n && p i)) ∙ ap (λ (b : Bool). ltb i n && p i || b) (sym (ap (λ (b : Bool). eqb i n && b) e ∙ and-false (eqb i n)))
            ∙ one_below p n i;
      }

-- how many of the first n members pass: one member more
more : (p : ℕ → Bool) (l : List ℕ) (n : ℕ) → n < length l → only p (take (n + 1) l) ≡ only p (take n l) ++ only p (get_or l n 0 ∷ [])
more p l n q = ap (only p) (ap (λ (m : ℕ). take m l) (add-one n) ∙ take-suc l n 0 q) ∙ only_append p (take n l) (get_or l n 0 ∷ [])

pub count_one : (p : ℕ → Bool) (l : List ℕ) (n : ℕ) → n < length l → p (get_or l n 0) ≡ true → length (only p (take (n + 1) l)) ≡ length (only p (take n l)) + 1
count_one p l n q e = ap length (more p l n q ∙ ap (λ (b : Bool). only p (take n l) ++ cond b (get_or l n 0 ∷ []) []) e) ∙ length-append (only p (take n l)) (get_or l n 0 ∷ [])

pub count_none : (p : ℕ → Bool) (l : List ℕ) (n : ℕ) → n < length l → p (get_or l n 0) ≡ false → length (only p (take (n + 1) l)) ≡ length (only p (take n l))
count_none p l n q e = ap length (more p l n q ∙ ap (λ (b : Bool). only p (take n l) ++ cond b (get_or l n 0 ∷ []) []) e ∙ append-nil (only p (take n l)))

-- ---- a front copied

-- one entry more
pub copy_turn : {now : List ℕ} (from to : List ℕ) (i : ℕ) → i < length from → i < length to → now ≡ take i from ++ drop i to
    → set now i (get_or from i 0) ≡ take (i + 1) from ++ drop (i + 1) to
copy_turn from to i p q e =
    ap (λ (l : List ℕ). set l i (get_or from i 0)) e
    ∙ (simp zero-add at (paste-suc to 0 from i 0 (simp zero-add q) p))
    ∙ ap (λ (m : ℕ). take m from ++ drop m to) (sym (add-one i))
