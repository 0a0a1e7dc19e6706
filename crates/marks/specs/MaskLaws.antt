-- Masks as code makes them, and what its loops over marks and rows show, turn by turn. All over any width.
--
-- First masks: `found | (1 << i)`, `found & !n`, and a mask's lowest mark. Then loops that change the places of a table one after the other: `seen` tells
-- which indices were visited, and a place has its new value once its index was seen, and its old one before (`Changed`). One turn adds one index (`Adds`).
-- Which one goes by the loop: the lowest mark of those that are left (`left_adds`; `Visiting` is such a loop over values of any kind), or the next number
-- (`count_adds`). Last the same of a list in which a turn rewrites one element (`Rewritten`; `Rewriting` where the marks are visited).
-- Assumes nothing.
use Rattle.std.specs.Prelude.{◌≡◌, refl, ◌⊎◌, Bool, true, false, not, ◌&&◌, cond, List, ℕ, ◌+◌, ◌-◌, ◌*◌, ◌/◌, ◌%◌, ◌^◌, ◌<◌, T, eqb, ltb, length, get_or, set}
use Rattle.std.proofs.Common.{sym, ap, ap₂, ◌∙◌, subst, inl, inr, ⊎_elim, zero-mul, le_refl, lt_of_le_of_lt, pos_of_ne-zero, arith, length-set, ext_get_or, get_or-set_same, get_or-set_other, le-ltb, lt-ltb}
use Rattle.std.proofs.Math.Bool.{and_comm, and-true, and-false, and-not_self}
use Rattle.std.proofs.Math.Nat.{zero-mod}
use Rattle.std.specs.Int.Bits.{bit_or, bit_and, or_zero_r}
use Rattle.std.proofs.lemmas.Nat.{and_mask, and_le_l, and_le_r}
use Rattle.std.specs.Int.Count.{count_trailing_zeros, trailing_of_zero}
use Rattle.std.proofs.Math.Pow.{ones_sub-lt}
use Rattle.graph.specs.Decide.{answer, true_is, false_is, own_test, and_test, eq_test, lt_test, same_test, by_test, test_true, test_false}
use Rattle.marks.specs.Marks.{bit, mask_of, tab}
use Rattle.marks.specs.MarkLaws.{digit, bit_lowest, low_digit, getD_tab, length_tab, bit_none, bit_same, bit-and, bit_others, bit_without, mask_lt, mask_next, bit_mask, no_bits, bit_nonzero, Lowest, lowest_mark, shl_one, and_pred}

-- ---- masks as the code makes them

-- found | (1 << i), and found as it is: the next mark is there, or is not
next_is : {b : Bool} (i : ℕ) (f : ℕ → Bool) → f i ≡ b → cond b (bit_or (mask_of i f) (2 ^ i)) (mask_of i f) ≡ mask_of (i + 1) f
next_is i f t = sym (mask_next i f ∙ ap (λ (b : Bool). cond b (bit_or (mask_of i f) (2 ^ i)) (mask_of i f)) t)

pub mask_in : {x : ℕ} (w i : ℕ) (f : ℕ → Bool) → x ≡ mask_of i f → f i ≡ true → i < w → bit_or x (1 * 2 ^ i % 2 ^ w) ≡ mask_of (i + 1) f
mask_in w i f e t h = ap₂ bit_or e (shl_one w h) ∙ next_is i f t

pub mask_out : {x : ℕ} (i : ℕ) (f : ℕ → Bool) → x ≡ mask_of i f → f i ≡ false → x ≡ mask_of (i + 1) f
mask_out i f e t = e ∙ next_is i f t

-- found | (((n >> s) & 1) << i): the next mark is the mark s of n
bit_digit : (n s : ℕ) → bit_and (n / 2 ^ s) 1 ≡ digit (bit n s)
unfolding bit
bit_digit n s = and_mask (n / 2 ^ s) 1 ∙ low_digit (n / 2 ^ s) ∙ ap digit (bit_lowest (n / 2 ^ s))

pub mask_bit : {x : ℕ} (w i n s : ℕ) (f : ℕ → Bool) → x ≡ mask_of i f → f i ≡ bit n s → i < w
    → bit_or x (bit_and (n / 2 ^ s) 1 * 2 ^ i % 2 ^ w) ≡ mask_of (i + 1) f
mask_bit {x} w i n s f e t h = ap (λ (d : ℕ). bit_or x (d * 2 ^ i % 2 ^ w)) (bit_digit n s) ∙ go (bit n s) t
  where
    go : (b : Bool) → f i ≡ b → bit_or x (digit b * 2 ^ i % 2 ^ w) ≡ mask_of (i + 1) f
    go true t = mask_in w i f e t h
    go false t = ap (λ (y : ℕ). bit_or x (y % 2 ^ w)) (zero-mul (2 ^ i)) ∙ ap (bit_or x) (zero-mod (2 ^ w)) ∙ or_zero_r x ∙ mask_out i f e t

-- a mark of a mask is what its rule says, and a number is known by its marks
pub bit_of : {x : ℕ} (w : ℕ) (f : ℕ → Bool) → x ≡ mask_of w f → (k : ℕ) → k < w → bit x k ≡ f k
bit_of w f e k q = ap (λ (n : ℕ). bit n k) e ∙ bit_mask w f k q

pub masked : {x : ℕ} (w : ℕ) (f : ℕ → Bool) → x < 2 ^ w → ((k : ℕ) → k < w → bit x k ≡ f k) → x ≡ mask_of w f
masked {x} w f h e = bit_same w x (mask_of w f) h (mask_lt w f) (λ k q. e k q ∙ sym (bit_mask w f k q))

-- !n, and found & !n where g says the marks of n
pub mask_not : (w n : ℕ) → n < 2 ^ w → 2 ^ w - 1 - n ≡ mask_of w (λ k. not (bit n k))
mask_not w n h = masked w (λ k. not (bit n k)) (ones_sub-lt w n) (λ k q. bit_others w n k h q)

pub mask_others : {x : ℕ} (w : ℕ) (f g : ℕ → Bool) (n : ℕ) → x ≡ mask_of w f → n < 2 ^ w → ((k : ℕ) → k < w → bit n k ≡ g k)
    → bit_and x (2 ^ w - 1 - n) ≡ mask_of w (λ k. not (g k) && f k)
mask_others {x} w f g n e h m =
    masked w (λ k. not (g k) && f k) (lt_of_le_of_lt (and_le_l x (2 ^ w - 1 - n)) (subst (λ (y : ℕ). y < 2 ^ w) (sym e) (mask_lt w f)))
    (λ k q.
    bit-and x (2 ^ w - 1 - n) k ∙ ap₂ ◌&&◌ (ap (λ (y : ℕ). bit y k) e ∙ bit_mask w f k q) (bit_others w n k h q ∙ ap not (m k q))
    ∙ and_comm (f k) (not (g k)))

-- the trailing zeros of a mask: w where none passes, and else the lowest that does
pub lowest_none : (w : ℕ) (p : ℕ → Bool) → ((k : ℕ) → k < w → p k ≡ false) → count_trailing_zeros w (mask_of w p) ≡ w
lowest_none w p o = ap (count_trailing_zeros w) (no_bits w (mask_of w p) (mask_lt w p) (λ k q. bit_mask w p k q ∙ o k q)) ∙ trailing_of_zero w

pub lowest_is : (w : ℕ) (p : ℕ → Bool) (t : ℕ) → t < w → p t ≡ true → ((k : ℕ) → k < t → p k ≡ false) → count_trailing_zeros w (mask_of w p) ≡ t
lowest_is w p t q y o =
    ⊎_elim (λ r. absurd (false_is (bit_mask w p x l.inside ∙ o x r) l.there))
    (λ n. ⊎_elim (λ r. absurd (false_is (l.none_lower t r) there)) (λ m. omega arith) (answer (lt_test t x))) (answer (lt_test x t))
  where
    there : T (bit (mask_of w p) t)
    there = true_is (bit_mask w p t q ∙ y)

    x : ℕ
    x = count_trailing_zeros w (mask_of w p)

    l : Lowest w (mask_of w p)
    l = lowest_mark w (mask_of w p) (mask_lt w p) (bit_nonzero (mask_of w p) t there)

-- ---- loops that change a table place by place

-- the values at the places below n: new where the place's index was seen, old elsewhere
pub record Changed {X : Type 0} (n : ℕ) (ix : ℕ → ℕ) (seen : ℕ → Bool) (new old now : ℕ → X) : Type 0 where
  pub at : (p : ℕ) → p < n → now p ≡ cond (seen (ix p)) (new p) (old p)

-- a turn sees the index i, for the first time
pub record Adds (i : ℕ) (seen next : ℕ → Bool) : Type 0 where
  pub before : seen i ≡ false
  pub after : next i ≡ true
  pub others : (k : ℕ) → (k ≡ i → ⊥) → next k ≡ seen k

-- what was seen stays so, and what is seen is the index or was seen
module _ {i : ℕ} {seen next : ℕ → Bool} (a : Adds i seen next) {k : ℕ} where
  pub adds_old : seen k ≡ true → next k ≡ true
  adds_old e = ⊎_elim (λ q. ap next q ∙ a.after) (λ n. a.others k n ∙ e) (answer (eq_test k i))

  pub adds_from : next k ≡ true → (k ≡ i) ⊎ (seen k ≡ true)
  adds_from e = ⊎_elim inl (λ n. inr (sym (a.others k n) ∙ e)) (answer (eq_test k i))

module _ {X : Type 0} {n : ℕ} {ix : ℕ → ℕ} {new old : ℕ → X} where
  pub changed_start : {seen : ℕ → Bool} {now : ℕ → X} → ((k : ℕ) → seen k ≡ false) → ((p : ℕ) → p < n → now p ≡ old p) → Changed n ix seen new old now
  changed_start none same = record { at = λ p q. same p q ∙ ap (λ (b : Bool). cond b (new p) (old p)) (sym (none (ix p))) }

  -- One turn: each place of the index comes to its new value, from its old one, and every other place stays as it is.
  pub changed_turn : {i : ℕ} {seen next : ℕ → Bool} {now then : ℕ → X} → Adds i seen next → Changed n ix seen new old now
      → ((p : ℕ) → p < n → ix p ≡ i → now p ≡ old p → then p ≡ new p) → ((p : ℕ) → p < n → (ix p ≡ i → ⊥) → then p ≡ now p)
      → Changed n ix next new old then
  changed_turn {i} {seen} {next} {now} {then} a c hit miss = record { at = λ p q. ⊎_elim (mine p q) (other p q) (answer (eq_test (ix p) i)) }
    where
      is : (p : ℕ) {b b' : Bool} → b ≡ b' → cond b (new p) (old p) ≡ cond b' (new p) (old p)
      is p = ap (λ (b : Bool). cond b (new p) (old p))

      mine : (p : ℕ) → p < n → ix p ≡ i → then p ≡ cond (next (ix p)) (new p) (old p)
      mine p q e = hit p q e (c.at p q ∙ is p (ap seen e ∙ a.before)) ∙ is p (sym (ap next e ∙ a.after))

      other : (p : ℕ) → p < n → (ix p ≡ i → ⊥) → then p ≡ cond (next (ix p)) (new p) (old p)
      other p q ne = miss p q ne ∙ c.at p q ∙ is p (sym (a.others (ix p) ne))

  pub changed_end : {seen : ℕ → Bool} {now : ℕ → X} (all : ℕ → Bool) → ((p : ℕ) → p < n → seen (ix p) ≡ all p) → Changed n ix seen new old now
      → (p : ℕ) → p < n → now p ≡ cond (all p) (new p) (old p)
  changed_end all e c p q = c.at p q ∙ ap (λ (b : Bool). cond b (new p) (old p)) (e p q)

-- ---- a loop that visits the marks of `from`, lowest first, with `todo` left

abbrev pub seen : ℕ → ℕ → ℕ → Bool
seen from todo k = bit from k && not (bit todo k)

pub record Left (w from todo : ℕ) : Type 0 where
  pub fits : todo < 2 ^ w
  pub inside : (k : ℕ) → T (bit todo k) → T (bit from k)

-- at the start none was visited, at the end all
pub left_start : {w from : ℕ} → from < 2 ^ w → Left w from from
left_start h = record { fits = h; inside = λ k t. t }

pub seen_start : (from k : ℕ) → seen from from k ≡ false
seen_start from k = and-not_self (bit from k)

pub seen_end : (from todo : ℕ) → todo ≡ 0 → (k : ℕ) → seen from todo k ≡ bit from k
seen_end from todo e k = ap (λ (b : Bool). bit from k && not b) (bit_none k e) ∙ and-true (bit from k)

-- a turn: todo & (todo - 1) is left, with the lowest mark visited
pub left_less : {todo : ℕ} → (todo ≡ 0 → ⊥) → bit_and todo (todo - 1) < todo
left_less {todo} ne = omega (arith, and_le_r todo (todo - 1), pos_of_ne-zero ne)

module _ {w from todo : ℕ} (l : Left w from todo) where
  pub left_turn : Left w from (bit_and todo (todo - 1))
  left_turn =
      record {
        fits = lt_of_le_of_lt (and_le_l todo (todo - 1)) l.fits;
        inside = λ k t. l.inside k ((and_test (own_test (bit todo k)) (own_test (bit (todo - 1) k))).holds (subst T (bit-and todo (todo - 1) k) t)).0;
      }

  pub left_inside : (todo ≡ 0 → ⊥) → count_trailing_zeros w todo < w
  left_inside ne = (lowest_mark w todo l.fits ne).inside

  pub left_adds : (todo ≡ 0 → ⊥) → Adds (count_trailing_zeros w todo) (seen from todo) (seen from (bit_and todo (todo - 1)))
  left_adds ne =
      record {
        before = ap (λ (b : Bool). bit from i && not b) (test_true (own_test (bit todo i)) there) ∙ and-false (bit from i);
        after = ap₂ (λ (a b : Bool). a && not b) (test_true (own_test (bit from i)) (l.inside i there)) (rest i (test_true (eq_test i i) refl) ∙ and-false (bit todo i));
        others = λ k n. ap (λ (b : Bool). bit from k && not b) (rest k (test_false (eq_test k i) n) ∙ and-true (bit todo k));
      }
    where
      i : ℕ
      i = count_trailing_zeros w todo

      there : T (bit todo i)
      there = (lowest_mark w todo l.fits ne).there

      rest : (k : ℕ) {b : Bool} → eqb k i ≡ b → bit (bit_and todo (todo - 1)) k ≡ bit todo k && not b
      rest k e = ap (λ (x : ℕ). bit x k) (and_pred w todo l.fits ne) ∙ bit_without todo i k ∙ ap (λ (b : Bool). bit todo k && not b) e

-- such a loop over any values
pub record Visiting {X : Type 0} (w n from : ℕ) (ix : ℕ → ℕ) (new old : ℕ → X) (todo : ℕ) (now : ℕ → X) : Type 0 where
  pub left : Left w from todo
  pub so_far : Changed n ix (seen from todo) new old now

module _ {X : Type 0} {w n from : ℕ} {ix : ℕ → ℕ} {new old : ℕ → X} where
  pub visit_start : {now : ℕ → X} → from < 2 ^ w → ((p : ℕ) → p < n → now p ≡ old p) → Visiting w n from ix new old from now
  visit_start h same = record { left = left_start h; so_far = changed_start (seen_start from) same }

  pub visit_turn : {todo : ℕ} {now then : ℕ → X} → Visiting w n from ix new old todo now → (todo ≡ 0 → ⊥)
      → ((p : ℕ) → p < n → ix p ≡ count_trailing_zeros w todo → now p ≡ old p → then p ≡ new p)
      → ((p : ℕ) → p < n → (ix p ≡ count_trailing_zeros w todo → ⊥) → then p ≡ now p)
      → Visiting w n from ix new old (bit_and todo (todo - 1)) then
  visit_turn v ne hit miss = record { left = left_turn v.left; so_far = changed_turn (left_adds v.left ne) v.so_far hit miss }

  -- a place whose mark is none of `from` stays
  pub visit_kept : {todo : ℕ} {now : ℕ → X} → Visiting w n from ix new old todo now → (p : ℕ) → p < n → bit from (ix p) ≡ false → now p ≡ old p
  visit_kept {todo} v p q e = v.so_far.at p q ∙ ap (λ (b : Bool). cond (b && not (bit todo (ix p))) (new p) (old p)) e

  pub visit_end : {todo : ℕ} {now : ℕ → X} → Visiting w n from ix new old todo now → todo ≡ 0 → (p : ℕ) → p < n → now p ≡ cond (bit from (ix p)) (new p) (old p)
  visit_end {todo} v e = changed_end (λ p. bit from (ix p)) (λ p q. seen_end from todo e (ix p)) v.so_far

-- ---- a loop that counts

pub count_adds : (i : ℕ) → Adds i (λ k. ltb k i) (λ k. ltb k (i + 1))
count_adds i =
    record {
      before = le-ltb i i (le_refl i);
      after = lt-ltb i (i + 1) (omega arith);
      others = λ k n. same_test (lt_test k (i + 1)) (lt_test k i) (λ h. omega arith) (λ h. omega arith);
    }

-- ---- lists

-- a list is known by its elements
pub tab_of : {n : ℕ} {f : ℕ → ℕ} {l : List ℕ} → length l ≡ n → ((p : ℕ) → p < n → get_or l p 0 ≡ f p) → l ≡ tab n f
tab_of {n} {f} {l} e h =
    ext_get_or 0 l (tab n f) (e ∙ sym (length_tab n f)) (λ p q. let r : p < n = subst (λ (k : ℕ). p < k) e q in h p r ∙ sym (getD_tab n f p 0 r))

-- what a store leaves in its place and in each place, and the list after it
set_here : {n : ℕ} (l : List ℕ) (i x p : ℕ) → length l ≡ n → i < n → p ≡ i → get_or (set l i x) p 0 ≡ x
set_here l i x p e h s = ap (λ (k : ℕ). get_or (set l i x) k 0) s ∙ get_or-set_same l i x 0 (subst (λ (k : ℕ). i < k) (sym e) h)

pub get_d_set : (l : List ℕ) (i x p : ℕ) → i < length l → get_or (set l i x) p 0 ≡ cond (eqb p i) x (get_or l p 0)
get_d_set l i x p h =
    by_test (λ (b : Bool). get_or (set l i x) p 0 ≡ cond b x (get_or l p 0)) (eq_test p i) (set_here l i x p refl h) (get_or-set_other l i p x 0)

pub set_tab : {n : ℕ} {f : ℕ → ℕ} (l : List ℕ) (i x : ℕ) → length l ≡ n → i < n → ((p : ℕ) → p < n → get_or l p 0 ≡ f p)
    → set l i x ≡ tab n (λ p. cond (eqb p i) x (f p))
set_tab l i x e h g =
    tab_of (length-set l i x ∙ e) (λ p q. get_d_set l i x p (subst (λ (k : ℕ). i < k) (sym e) h) ∙ ap (cond (eqb p i) x) (g p q))

-- a list of n elements of which those that were seen are f of what they were
pub record Rewritten (n : ℕ) (seen : ℕ → Bool) (f : ℕ → ℕ) (old l : List ℕ) : Type 0 where
  pub long : length l ≡ n
  pub rows : Changed n (λ p. p) seen (λ p. f (get_or old p 0)) (λ p. get_or old p 0) (λ p. get_or l p 0)

module _ {n : ℕ} {f : ℕ → ℕ} {old : List ℕ} where
  pub rewritten_start : {seen : ℕ → Bool} → length old ≡ n → ((k : ℕ) → seen k ≡ false) → Rewritten n seen f old old
  rewritten_start e none = record { long = e; rows = changed_start none (λ p q. refl) }

  -- a turn stores f of an element in its place
  pub rewritten_turn : {i x : ℕ} {seen next : ℕ → Bool} {l : List ℕ} → Adds i seen next → Rewritten n seen f old l → i < n → x ≡ f (get_or l i 0)
      → Rewritten n next f old (set l i x)
  rewritten_turn {i} {x} {l} a r h v =
      record {
        long = length-set l i x ∙ r.long;
        rows =
            changed_turn a r.rows (λ p q e o. set_here l i x p r.long h e ∙ v ∙ ap f (ap (λ (k : ℕ). get_or l k 0) (sym e) ∙ o))
            (λ p q. get_or-set_other l i p x 0);
      }

-- the same where a turn takes the lowest mark of those that are left
pub record Rewriting (w from : ℕ) (f : ℕ → ℕ) (old : List ℕ) (todo : ℕ) (l : List ℕ) : Type 0 where
  pub left : Left w from todo
  pub done : Rewritten w (seen from todo) f old l

module _ {w from : ℕ} {f : ℕ → ℕ} {old : List ℕ} where
  pub rewriting_start : length old ≡ w → from < 2 ^ w → Rewriting w from f old from old
  rewriting_start e h = record { left = left_start h; done = rewritten_start e (seen_start from) }

  pub rewriting_turn : {todo x : ℕ} {l : List ℕ} → Rewriting w from f old todo l → (todo ≡ 0 → ⊥) → x ≡ f (get_or l (count_trailing_zeros w todo) 0)
      → Rewriting w from f old (bit_and todo (todo - 1)) (set l (count_trailing_zeros w todo) x)
  rewriting_turn m ne v =
      record { left = left_turn m.left; done = rewritten_turn (left_adds m.left ne) m.done (left_inside m.left ne) v }

  pub rewriting_end : {todo : ℕ} {l : List ℕ} → Rewriting w from f old todo l → todo ≡ 0 → l ≡ tab w (λ p. cond (bit from p) (f (get_or old p 0)) (get_or old p 0))
  rewriting_end {todo} m e = tab_of m.done.long (changed_end (bit from) (λ p q. seen_end from todo e p) m.done.rows)
