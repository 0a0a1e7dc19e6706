-- The lowest slot that passes a test: of a table the first element that does (`first_there`, or none, `first_nowhere`), and of a mask its lowest mark (`first_some`, `first_none`).
-- So what `slot_for` finds is what its contract says (`slot_at`, `slot_of_mask`, and none: `slot_nowhere`, `slot_no_mask`), and what its contract says is the slot that the rule
-- means (`slot_found`, `slot_none`).
-- Assumes nothing.
use mathlib.Core.Path.{◌≡◌, refl, sym, ap, ◌∙◌, subst}
use mathlib.Core.Bool.{Bool, true, false, not, ◌&&◌, and-false}
use mathlib.Core.Option.{Option, none, some}
use mathlib.Core.List.{List, [], ◌∷◌}
use Prim.Native.Nat.{ℕ, zero, suc, ◌^◌, ◌≤◌, ◌<◌, suc-le-suc}
use native.Mathlib.Nat.{not-suc-le-zero, zero-lt-suc, le_of_suc-le-suc, lt_trans}
use native.Mathlib.Omega.{arith}
use lib.Count.{count_trailing_zeros}
use lib.Dec.{T, eqb}
use lib.ListN.{length, get_or}
use Rattle.std.specs.Prelude.{Some, None}
use Rattle.std.specs.List.{position, position_or_len}
use Rattle.std.proofs.lemmas.Grind.{common_steps}
use Rattle.std.proofs.lemmas.List.Sums.{fails_before_first}
use Rattle.graph.specs.Decide.{is_true, own_test, test_true}
use Rattle.graph.specs.Lists.{◌∈◌, here, only, only_yes, only_no, only_from, only_only}
use Rattle.marks.specs.Marks.{bit, mask_of, tab, upto}
use Rattle.marks.specs.MarkLaws.{bit_zero, mask_lt, tab_suc, Lowest, lowest_mark, upto_from}
use Rattle.marks.specs.MaskLaws.{bit_of}
use Rattle.held.specs.Held.{Held, first_in, open_at, open_slots, number_at, slot_of}
use Rattle.rows.specs.Rows.{is_open}
use Rattle.rows.specs.declared.Slot.{Slot}
use Rattle.slots.specs.Finds.{holds, as_slot, slot_with}

-- the slot that the code takes from a mask
abbrev pub slot : ℕ → ℕ
slot found = count_trailing_zeros 32 found

-- the first that passes, of a table: none where no element does, and where one does and none before it, that one
module _ (p : ℕ → Bool) where
  at_first : (n : ℕ) (f : ℕ → ℕ) → first_in (only p (tab (suc n) f)) ≡ first_in (only p (f 0 ∷ tab n (λ k. f (suc k))))
  at_first n f = ap (λ (l : List ℕ). first_in (only p l)) (tab_suc n f)

  pub first_nowhere : (n : ℕ) (f : ℕ → ℕ) → ((i : ℕ) → i < n → p (f i) ≡ false) → first_in (only p (tab n f)) ≡ none
  first_nowhere zero f h = refl
  first_nowhere (suc n) f h =
      at_first n f ∙ ap first_in (only_no p (f 0) (tab n (λ k. f (suc k))) (h zero (zero-lt-suc n))) ∙ first_nowhere n (λ k. f (suc k)) (λ i q. h (suc i) (suc-le-suc q))

  pub first_there : (n t : ℕ) (f : ℕ → ℕ) → t < n → p (f t) ≡ true → ((k : ℕ) → k < t → p (f k) ≡ false) → first_in (only p (tab n f)) ≡ some (f t)
  first_there zero t f h y o = absurd (not-suc-le-zero h)
  first_there (suc n) zero f h y o = at_first n f ∙ ap first_in (only_yes p (f 0) (tab n (λ k. f (suc k))) y)
  first_there (suc n) (suc t) f h y o =
      at_first n f
      ∙ ap first_in (only_no p (f 0) (tab n (λ k. f (suc k))) (o zero (zero-lt-suc t)))
      ∙ first_there n t (λ k. f (suc k)) (le_of_suc-le-suc h) y (λ k q. o (suc k) (suc-le-suc q))

-- found is the mask of those that pass: its lowest mark is the first of them
module _ (w : ℕ) (p : ℕ → Bool) {found : ℕ} (e : found ≡ mask_of w p) where
  pub first_none : found ≡ 0 → first_in (only p (upto w)) ≡ none
  first_none z = first_nowhere p w (λ k. k) (λ k q. sym (bit_of w p e k q) ∙ ap (λ (x : ℕ). bit x k) z ∙ bit_zero k)

  module _ (ne : found ≡ 0 → ⊥) where
    lowest : Lowest w found
    lowest = lowest_mark w found (subst (λ (n : ℕ). n < 2 ^ w) (sym e) (mask_lt w p)) ne

    pub first_passes : (count_trailing_zeros w found < w) × (p (count_trailing_zeros w found) ≡ true)
    first_passes =
        let t = count_trailing_zeros w found in
        (lowest.inside, sym (bit_of w p e t lowest.inside) ∙ test_true (own_test (bit found t)) lowest.there)

    pub first_some : first_in (only p (upto w)) ≡ some (count_trailing_zeros w found)
    first_some =
        first_there p w (count_trailing_zeros w found) (λ k. k) first_passes.0 first_passes.1
        (λ k q. sym (bit_of w p e k (lt_trans q first_passes.0)) ∙ lowest.none_lower k q)

-- ---- what `slot_for` finds

-- where no element passes, none does below the length
pub position_none : (p : ℕ → Bool) (xs : List ℕ) (d : ℕ) → position p xs ≡ None → (k : ℕ) → k < length xs → p (get_or xs k d) ≡ false
position_none p xs d e k q = let far : length xs ≤ position_or_len p xs = grind (arith, common_steps) in fails_before_first p xs k d (omega arith)

module _ (free : ℕ) (numbers : List ℕ) (j : ℕ) where
  -- no slot of all holds the number, or the lowest that does is open
  pub slot_nowhere : ((i : ℕ) → i < 32 → eqb (get_or numbers i 0) j ≡ false) → slot_with free numbers j ≡ None
  slot_nowhere f = ap as_slot (first_nowhere (holds free numbers j) 32 (λ k. k) (λ i q. ap (λ (b : Bool). is_open free i && b) (f i q) ∙ and-false (is_open free i)))

  pub slot_at : (i : ℕ) → i < 32 → eqb (get_or numbers i 0) j ≡ true → ((k : ℕ) → k < i → eqb (get_or numbers k 0) j ≡ false) → is_open free i ≡ true
      → slot_with free numbers j ≡ Some (record { 0 = i })
  slot_at i q y f o =
      ap as_slot (first_there (holds free numbers j) 32 i (λ k. k) q (ap (λ (b : Bool). b && eqb (get_or numbers i 0) j) o ∙ y)
      (λ k p. ap (λ (b : Bool). is_open free k && b) (f k p) ∙ and-false (is_open free k)))

  -- found is the mask of the open ones that hold it
  module _ {found : ℕ} (e : found ≡ mask_of 32 (holds free numbers j)) where
    pub slot_no_mask : found ≡ 0 → slot_with free numbers j ≡ None
    slot_no_mask z = ap as_slot (first_none 32 (holds free numbers j) e z)

    pub slot_of_mask : (found ≡ 0 → ⊥) → slot_with free numbers j ≡ Some (record { 0 = slot found })
    slot_of_mask ne = ap as_slot (first_some 32 (holds free numbers j) e ne)

-- ---- what that tells of a state

-- the slot of the number is a slot, and open
pub record Found (h : Held) (j s : ℕ) : Type 0 where
  pub inside : s < 32
  pub was_open : bit h.free s ≡ false
  pub first : slot_of h j ≡ some s

in_first : (l : List ℕ) {s : ℕ} → first_in l ≡ some s → s ∈ l
in_first [] e = absurd (cc)
in_first (i ∷ l) {s} e = let q : i ≡ s = cc in subst (λ (k : ℕ). k ∈ i ∷ l) q here

slot_back : (o : Option ℕ) {x : Slot} → as_slot o ≡ Some x → o ≡ some x.0
slot_back none e = absurd (cc)
slot_back (some s) {x} e = let q : record { 0 = s } ≡ x = cc in ap (λ (y : Slot). some y.0) q

none_back : (o : Option ℕ) → as_slot o ≡ None → o ≡ none
none_back none e = refl
none_back (some s) e = absurd (cc)

opened : (a b : Bool) → not a && b ≡ true → a ≡ false
opened true b q = sym q
opened false b q = refl

module _ (h : Held) (j : ℕ) where
  slot_first : slot_of h j ≡ first_in (only (holds h.free h.numbers j) (upto 32))
  unfolding slot_of open_slots open_at number_at
  slot_first = ap first_in (only_only (λ i. eqb (get_or h.numbers i 0) j) (is_open h.free) (upto 32))

  pub slot_none : slot_with h.free h.numbers j ≡ None → slot_of h j ≡ none
  slot_none e = slot_first ∙ none_back _ e

  pub slot_found : {x : Slot} → slot_with h.free h.numbers j ≡ Some x → Found h j x.0
  slot_found {x} e =
      record {
        inside = upto_from 32 there.0;
        was_open = opened (bit h.free x.0) (eqb (get_or h.numbers x.0 0) j) (is_true there.1);
        first = slot_first ∙ slot_back _ e;
      }
    where
      there : (x.0 ∈ upto 32) × T (holds h.free h.numbers j x.0)
      there = only_from (holds h.free h.numbers j) (upto 32) (in_first _ (slot_back _ e))
