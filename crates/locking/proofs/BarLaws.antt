-- What the proofs of locking need beyond the contracts of the functions that they call.
-- Assumes nothing.
use mathlib.Core.Path.{◌≡◌, refl, sym, ap, ap₂, ◌∙◌}
use mathlib.Core.Bool.{Bool, true, false, not, ◌&&◌, ◌||◌, cond, and-false, or-false}
use mathlib.Core.List.{List, [], ◌∷◌}
use Prim.Native.Nat.{ℕ, ◌+◌, ◌*◌, ◌/◌, ◌%◌, ◌^◌, ◌<◌}
use native.Mathlib.Nat.{zero-add}
use lib.Bits.{bit_and}
use lib.Dec.{eqb}
use lib.ListN.{get_or}
use borrow.Author.Tests.{eq-eqb, ne_eqb}
use Rattle.graph.specs.Decide.{some_of, own_test, some_test, some_same, test_true, test_false, true_is, false_is}
use Rattle.graph.specs.Lists.{only}
use Rattle.marks.specs.Marks.{bit, upto}
use Rattle.marks.specs.MarkLaws.{bit-or, shl_one, test_mark, upto_has, upto_from}
use Rattle.held.specs.Held.{Held, as_used, as_altered, own_at, cell_at, word_at, open_at, open_slots}
use Rattle.rows.specs.Rows.{rows_of, is_open}
use Rattle.locking.specs.Locking.{barred_by, bar_word, bars}

-- ---- the word that the code reads

module _ (l : List ℕ) (c i : ℕ) where
  abbrev row : Held
  row = rows_of 0 [] [] l

  used : bit (get_or l (i * 16 + c / 64) 0) (c % 64) ≡ own_at row i as_used c
  unfolding cell_at word_at
  used = ap (λ (o : ℕ). bit (get_or l (i * 16 + o) 0) (c % 64)) (sym (zero-add (c / 64)))

  -- the cell's mark in it
  bar_bit : (alters : Bool) → bit (bar_word l alters (c / 64) i) (c % 64) ≡ own_at row i as_altered c || (alters && own_at row i as_used c)
  unfolding cell_at word_at
  bar_bit true = bit-or (get_or l (i * 16 + (4 + c / 64)) 0) (get_or l (i * 16 + c / 64) 0) (c % 64) ∙ ap (λ (b : Bool). own_at row i as_altered c || b) used
  bar_bit false = sym (or-false (own_at row i as_altered c))

-- ---- some row

-- of those that pass q, some passes p
some_only : (p q : ℕ → Bool) (l : List ℕ) → some_of p (only q l) ≡ some_of (λ x. q x && p x) l
some_only p q [] = refl
some_only p q (x ∷ l) = go (q x) (some_only p q l)
  where
    go : (b : Bool) → some_of p (only q l) ≡ some_of (λ x. q x && p x) l → some_of p (cond b (x ∷ only q l) (only q l)) ≡ (b && p x) || some_of (λ x. q x && p x) l
    go true e = ap (λ (r : Bool). p x || r) e
    go false e = e

module _ (free : ℕ) (l : List ℕ) (alters : Bool) (s c : ℕ) where
  abbrev bar : ℕ → Bool
  bar i = bars free l alters s (c / 64) (2 ^ (c % 64)) i

  pub barred_some : barred_by (rows_of free [] [] l) alters s c ≡ some_of bar (upto 32)
  unfolding open_slots open_at cell_at word_at
  barred_some =
      some_only (λ i. not (eqb i s) && (own_at (rows_of free [] [] l) i as_altered c || (alters && own_at (rows_of free [] [] l) i as_used c))) (is_open free) (upto 32)
      ∙ some_same _ bar (upto 32)
      (λ i m. ap (λ (b : Bool). is_open free i && (not (eqb i s) && b)) (sym (test_mark (bar_word l alters (c / 64) i) (c % 64) ∙ bar_bit l c i alters)))

  -- some row bars it, or none does, by the place and the mark that the code looks up
  module _ {p m : ℕ} (ep : p ≡ c / 64) (em : m ≡ 2 ^ (c % 64)) where
    same_bar : (k : ℕ) → bars free l alters s p m k ≡ bar k
    same_bar k = ap₂ (λ (x y : ℕ). bars free l alters s x y k) ep em

    pub barred_at : (i : ℕ) → i < 32 → bars free l alters s p m i ≡ true → true ≡ barred_by (rows_of free [] [] l) alters s c
    barred_at i q t = sym (barred_some ∙ test_true (some_test (λ k. own_test (bar k)) (upto 32)) (i, upto_has q, true_is (sym (same_bar i) ∙ t)))

    pub barred_none : ((k : ℕ) → k < 32 → bars free l alters s p m k ≡ false) → false ≡ barred_by (rows_of free [] [] l) alters s c
    barred_none n = sym (barred_some ∙ test_false (some_test (λ k. own_test (bar k)) (upto 32)) (λ r. false_is (sym (same_bar r.0) ∙ n r.0 (upto_from 32 r.1)) r.2))

-- ---- one row

-- as the code tests a mark of a number of 32 bits
module _ (free : ℕ) {i : ℕ} (q : i < 32) where
  mark_tested : not (eqb (bit_and free (1 * 2 ^ i % 2 ^ 32)) 0) ≡ bit free i
  mark_tested = ap (λ (x : ℕ). not (eqb (bit_and free x) 0)) (shl_one 32 q) ∙ test_mark free i

  module _ (l : List ℕ) (alters : Bool) (s p m : ℕ) where
    pub bars_free : (bit_and free (1 * 2 ^ i % 2 ^ 32) ≡ 0 → ⊥) → false ≡ bars free l alters s p m i
    bars_free ne = ap (λ (b : Bool). not b && (not (eqb i s) && not (eqb (bit_and (bar_word l alters p i) m) 0))) (sym (ap not (ne_eqb _ 0 ne)) ∙ mark_tested)

    pub bars_itself : i ≡ s → false ≡ bars free l alters s p m i
    bars_itself e = sym (ap (λ (b : Bool). is_open free i && (not b && not (eqb (bit_and (bar_word l alters p i) m) 0))) (eq-eqb i s e) ∙ and-false (is_open free i))

    pub bars_other : {w : ℕ} → bit_and free (1 * 2 ^ i % 2 ^ 32) ≡ 0 → (i ≡ s → ⊥) → w ≡ bar_word l alters p i → not (eqb (bit_and w m) 0) ≡ bars free l alters s p m i
    bars_other {w} z ne e =
        ap (λ (x : ℕ). not (eqb (bit_and x m) 0)) e
        ∙ ap₂ (λ (a b : Bool). not a && (not b && not (eqb (bit_and (bar_word l alters p i) m) 0))) (sym (ap not (eq-eqb _ 0 z)) ∙ mark_tested) (sym (ne_eqb i s ne))
