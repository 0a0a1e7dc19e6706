-- The lent sets, word by word, as tables.
--
-- In order: words that code stores one after the other (`written`), four of them (`written_set`) or a row of zeros (`blank_part`); four words that are
-- taken out (`Part`), changed and stored back, joined with a set (`joined_set`, and two fours after each other `joined_both`) or with two other fours (`gained_set`); a word that gains a mark (`put_mark`), by a step in
-- one own set (`put_read`, `put_add`) or in both (`put_write`); a row's past that gains own and
-- past of another row (`taken_over`), and a loop that does so for every row of a mask (`Folding`). How many words there are is a parameter, m.
-- Loops over the marks of a mask in general are in the crate marks (MaskLaws), and what words say of clashes is in ClashLaws.
-- Assumes nothing.
use mathlib.Core.Path.{◌≡◌, refl, sym, ap, ap₂, ◌∙◌, subst}
use mathlib.Core.Logic.{⊎_elim}
use mathlib.Core.Bool.{Bool, true, false, ◌&&◌, ◌||◌, cond, or-false}
use mathlib.Core.List.{List, []}
use Prim.Native.Nat.{ℕ, zero, suc, ◌+◌, ◌-◌, ◌*◌, ◌/◌, ◌%◌, ◌^◌, ◌≤◌, ◌<◌}
use native.Mathlib.Omega.{arith}
use lib.Bits.{bit_or, bit_and}
use lib.Count.{count_trailing_zeros}
use lib.Dec.{T, leb, ltb, eqb}
use lib.ListN.{length, get_or, set, take, drop, replicate, length-set}
use lib.Seq.{paste, get_or-take, get_or-drop}
use native.Mathlib.Numerals.{add-one}
use borrow.Rule.Slice.PartMut.{put_mid}
use Rattle.std.proofs.lemmas.List.Edits.{paste_none, fill_from_more}
use Rattle.std.proofs.lemmas.Slice.{put_mid-paste}
use Rattle.graph.specs.Decide.{Decides, answer, false_is, by_test, eq_test, le_test, lt_test, and_test, same_test, test_true, test_false}
use Rattle.marks.specs.Marks.{bit, tab}
use Rattle.marks.specs.MarkLaws.{length_tab, getD_tab, tab_same, lowest_mark, shl_one}
use Rattle.marks.specs.MaskLaws.{tab_of, get_d_set, Visiting, visit_start, visit_turn, visit_kept, visit_end}
use Rattle.marks.specs.Words.{union}
use Rattle.cells.proofs.Laws.{written_out}
use Rattle.history.specs.Events.{read, write, add}
use Rattle.rows.specs.Rows.{three, gain, gained_word, folded_word, put_own, marked_own, joined_word}

-- a row's mark, as laws of masks shift it
pub mark_is : {m s : ℕ} → m ≡ 2 ^ s → s < 32 → m ≡ 1 * 2 ^ s % 2 ^ 32
mark_is e h = e ∙ sym (shl_one 32 h)

-- ---- words stored one after the other

-- the first n of vs, stored from a place on
abbrev pub written : List ℕ → ℕ → List ℕ → ℕ → List ℕ
written l at vs zero = l
written l at vs (suc n) = set (written l at vs n) (at + n) (get_or vs n 0)

pub length_written : (l : List ℕ) (at : ℕ) (vs : List ℕ) (n : ℕ) → length (written l at vs n) ≡ length l
length_written l at vs zero = refl
length_written l at vs (suc n) = length-set (written l at vs n) (at + n) (get_or vs n 0) ∙ length_written l at vs n

-- zeros, as a part filled with them
written_zeros : (l : List ℕ) (at n : ℕ) → at + n ≤ length l → written l at [] n ≡ paste l at (replicate n 0) n
written_zeros l at zero h = paste_none l at (replicate 0 0)
written_zeros l at (suc n) h =
    ap (λ (v : List ℕ). set v (at + n) 0) (written_zeros l at n (omega arith)) ∙ fill_from_more l at n 0 (omega arith)
    ∙ ap (λ (k : ℕ). paste l at (replicate k 0) k) (add-one n)

-- is w one of n places from a place on?
among : (at n w : ℕ) → Decides (leb at w && ltb w (at + n)) ((at ≤ w) × (w < at + n))
among at n w = and_test (le_test at w) (lt_test w (at + n))

getD_written : (l : List ℕ) (at : ℕ) (vs : List ℕ) (n w : ℕ) → at + n ≤ length l
    → get_or (written l at vs n) w 0 ≡ cond (leb at w && ltb w (at + n)) (get_or vs (w - at) 0) (get_or l w 0)
getD_written l at vs zero w h = ap (λ (b : Bool). cond b (get_or vs (w - at) 0) (get_or l w 0)) (sym (test_false (among at 0 w) (λ q. omega arith)))
getD_written l at vs (suc n) w h =
    get_d_set (written l at vs n) (at + n) (get_or vs n 0) w (omega (arith, length_written l at vs n))
    ∙ ap (cond (eqb w (at + n)) (get_or vs n 0)) (getD_written l at vs n w (omega arith))
    ∙ by_test (λ (b : Bool). cond b (get_or vs n 0) (then (leb at w && ltb w (at + n))) ≡ then (leb at w && ltb w (at + suc n))) (eq_test w (at + n))
    (λ e. ap (λ (k : ℕ). get_or vs k 0) (omega arith) ∙ ap then (sym (test_true (among at (suc n) w) (omega arith))))
    (λ f. ap then (same_test (among at n w) (among at (suc n) w) (λ q. omega arith) (λ q. omega arith)))
  where
    then : Bool → ℕ
    then b = cond b (get_or vs (w - at) 0) (get_or l w 0)

-- is w one of the four places from a place on, as `store` says it?
within : (at w : ℕ) → Decides (leb at w && leb w (at + 3)) ((at ≤ w) × (w ≤ at + 3))
within at w = and_test (le_test at w) (le_test w (at + 3))

module _ (m : ℕ) (l : List ℕ) (long : length l ≡ m) where
  written_tab : (at : ℕ) (vs : List ℕ) (n : ℕ) → at + n ≤ m
      → written l at vs n ≡ tab m (λ w. cond (leb at w && ltb w (at + n)) (get_or vs (w - at) 0) (get_or l w 0))
  written_tab at vs n h = tab_of (length_written l at vs n ∙ long) (λ w q. getD_written l at vs n w (omega arith))

  -- four words, as `store` stores them
  pub written_set : (at : ℕ) (vs : List ℕ) → at + 4 ≤ m → written l at vs 4 ≡ tab m (λ w. cond (leb at w && leb w (at + 3)) (get_or vs (w - at) 0) (get_or l w 0))
  written_set at vs h =
      written_tab at vs 4 h
      ∙ tab_same m _ _ (λ w q. ap (λ (b : Bool). cond b (get_or vs (w - at) 0) (get_or l w 0)) (same_test (among at 4 w) (within at w) (λ r. omega arith) (λ r. omega arith)))

  -- sixteen zeros in place of the row s
  pub blank_part : {at k : ℕ} {ys : List ℕ} (s : ℕ) → at ≡ s * 16 → k ≡ 16 → ys ≡ replicate 16 0 → s * 16 + 16 ≤ m
      → put_mid at k l ys ≡ tab m (λ w. cond (eqb (w / 16) s) 0 (get_or l w 0))
  blank_part s ea ek ey h =
      (λ i. put_mid (ea i) (ek i) l (ey i)) ∙ put_mid-paste (s * 16) 16 l (replicate 16 0) (replicate 16 0) 16 refl refl refl
      ∙ sym (written_zeros l (s * 16) 16 (omega arith)) ∙ written_tab (s * 16) [] 16 h
      ∙ tab_same m _ _ (λ w q. ap (λ (b : Bool). cond b 0 (get_or l w 0)) (same_test (among (s * 16) 16 w) (eq_test (w / 16) s) (λ r. omega arith) (λ r. omega arith)))

-- ---- four words taken out, changed and stored back

-- ws are the four words of l from a place on
pub record Part (l : List ℕ) (at : ℕ) (ws : List ℕ) : Type 0 where
  pub four : length ws ≡ 4
  pub from : ws ≡ take 4 (drop at l)

pub part_at : {l ws : List ℕ} {at : ℕ} (k : ℕ) → Part l at ws → k < 4 → get_or ws k 0 ≡ get_or l (at + k) 0
part_at {l} {at} k t q = ap (λ (v : List ℕ). get_or v k 0) t.from ∙ get_or-take 4 (drop at l) k 0 q ∙ get_or-drop at l k 0

pub part_tab : {l ws : List ℕ} {at : ℕ} → Part l at ws → ws ≡ tab 4 (λ k. get_or l (at + k) 0)
part_tab {l} {at} t = tab_of {f = λ k. get_or l (at + k) 0} t.four (λ k. part_at k t)

-- what the list holds with vs in their stead
abbrev put : List ℕ → ℕ → List ℕ → ℕ → ℕ
put l at vs w = cond (leb at w && leb w (at + 3)) (get_or vs (w - at) 0) (get_or l w 0)

-- They are joined with the words of a set.
pub joined_set : {ws ys : List ℕ} (m : ℕ) (l : List ℕ) (at : ℕ) (vs : List ℕ) → Part l at ws → length vs ≡ 4 → ys ≡ union ws vs
    → tab m (put l at ys) ≡ tab m (λ w. cond (leb at w && leb w (at + 3)) (bit_or (get_or l w 0) (get_or vs (w - at) 0)) (get_or l w 0))
joined_set {ws} {ys} m l at vs t four ey =
    tab_same m _ _ (λ w q.
    by_test (λ (b : Bool). cond b (get_or ys (w - at) 0) (get_or l w 0) ≡ cond b (bit_or (get_or l w 0) (get_or vs (w - at) 0)) (get_or l w 0)) (within at w)
    (λ r. ap (λ (v : List ℕ). get_or v (w - at) 0) whole ∙ getD_tab 4 sum (w - at) 0 (omega arith)
    ∙ ap (λ (k : ℕ). bit_or (get_or l k 0) (get_or vs (w - at) 0)) (omega arith)) (λ f. refl))
  where
    sum : ℕ → ℕ
    sum k = bit_or (get_or l (at + k) 0) (get_or vs k 0)

    whole : ys ≡ tab 4 sum
    whole = ey ∙ ap₂ union (part_tab t) (sym (written_out 4 vs four))

-- The eight words of the row s from its first on, as two fours after each other.
pub joined_both : {l₁ l₂ : List ℕ} (m : ℕ) (l : List ℕ) (s : ℕ) (vs : List ℕ)
    → l₁ ≡ tab m (λ w. cond (leb (s * 16) w && leb w (s * 16 + 3)) (bit_or (get_or l w 0) (get_or vs (w - s * 16) 0)) (get_or l w 0))
    → l₂ ≡ tab m (λ w. cond (leb (s * 16 + 4) w && leb w (s * 16 + 4 + 3)) (bit_or (get_or l₁ w 0) (get_or vs (w - (s * 16 + 4)) 0)) (get_or l₁ w 0))
    → l₂ ≡ tab m (joined_word l s vs)
joined_both {l₁} {l₂} m l s vs e₁ e₂ =
    e₂ ∙ tab_same m _ _ (λ w q.
    by_test (λ (t : Bool). cond t (bit_or (get_or l₁ w 0) (get_or vs (w - (s * 16 + 4)) 0)) (get_or l₁ w 0) ≡ joined_word l s vs w) (within (s * 16 + 4) w)
    (λ i. ap₂ bit_or (first w q ∙ ap (λ (t : Bool). cond t (new w) (get_or l w 0)) (test_false (within (s * 16) w) (λ r. omega arith))) (ap (λ (k : ℕ). get_or vs k 0) (omega arith))
    ∙ whole w (omega arith) (omega arith))
    (λ f. first w q ∙ by_test (λ (t : Bool). cond t (new w) (get_or l w 0) ≡ joined_word l s vs w) (within (s * 16) w)
    (λ i. ap (λ (k : ℕ). bit_or (get_or l w 0) (get_or vs k 0)) (omega arith) ∙ whole w (omega arith) (omega arith))
    (λ g. ap (λ (t : Bool). cond t (bit_or (get_or l w 0) (get_or vs (w % 4) 0)) (get_or l w 0))
    (sym (test_false (eight w) (λ i. ⊎_elim (λ r. g (omega arith)) (λ r. f (omega arith)) (answer (le_test w (s * 16 + 3)))))))))
  where
    new : ℕ → ℕ
    new w = bit_or (get_or l w 0) (get_or vs (w - s * 16) 0)

    eight : (w : ℕ) → Decides (leb (s * 16) w && leb w (s * 16 + 7)) ((s * 16 ≤ w) × (w ≤ s * 16 + 7))
    eight w = and_test (le_test (s * 16) w) (le_test w (s * 16 + 7))

    first : (w : ℕ) → w < m → get_or l₁ w 0 ≡ cond (leb (s * 16) w && leb w (s * 16 + 3)) (new w) (get_or l w 0)
    first w q = ap (λ (v : List ℕ). get_or v w 0) e₁ ∙ getD_tab m (λ w. cond (leb (s * 16) w && leb w (s * 16 + 3)) (new w) (get_or l w 0)) w 0 q

    whole : (w : ℕ) → s * 16 ≤ w → w ≤ s * 16 + 7 → bit_or (get_or l w 0) (get_or vs (w % 4) 0) ≡ joined_word l s vs w
    whole w a b = ap (λ (t : Bool). cond t (bit_or (get_or l w 0) (get_or vs (w % 4) 0)) (get_or l w 0)) (sym (test_true (eight w) (a, b)))

-- ---- a word that gains a mark

-- the word at p
abbrev marked_at : List ℕ → ℕ → ℕ → ℕ → ℕ
marked_at l p x w = cond (eqb w p) (bit_or (get_or l w 0) x) (get_or l w 0)

pub put_mark : {p q x y : ℕ} (m : ℕ) (l : List ℕ) → length l ≡ m → p < m → p ≡ q → x ≡ y → set l p (bit_or (get_or l p 0) x) ≡ tab m (marked_at l q y)
put_mark {p} {q} {x} {y} m l e h ep ex =
    tab_of (length-set l p (bit_or (get_or l p 0) x) ∙ e) (λ w r.
    get_d_set l p (bit_or (get_or l p 0) x) w (omega arith)
    ∙ by_test (λ (b : Bool). cond b (bit_or (get_or l p 0) x) (get_or l w 0) ≡ cond b (bit_or (get_or l w 0) x) (get_or l w 0)) (eq_test w p)
    (λ i. ap (λ (k : ℕ). bit_or (get_or l k 0) x) (sym i)) (λ n. refl)
    ∙ ap₂ (λ (k z : ℕ). marked_at l k z w) ep ex)

-- a read puts its mark among the used cells alone, an add among the altered
pub put_read : (l : List ℕ) (s c : ℕ) → put_own l s 0 c ≡ marked_own l s read c
put_read l s c =
    tab_same 512 _ _ (λ w q. ap (λ (b : Bool). cond b (bit_or (get_or l w 0) (2 ^ (c % 64))) (get_or l w 0)) (sym (or-false (eqb w (s * 16 + (0 + c / 64))))))

pub put_add : (l : List ℕ) (s c : ℕ) → put_own l s 4 c ≡ marked_own l s add c
put_add l s c =
    tab_same 512 _ _ (λ w q. ap (λ (b : Bool). cond b (bit_or (get_or l w 0) (2 ^ (c % 64))) (get_or l w 0)) (sym (or-false (eqb w (s * 16 + (4 + c / 64))))))

-- and a write among both, one after the other
pub put_write : {l₁ l₂ : List ℕ} (l : List ℕ) (s c : ℕ) → l₁ ≡ put_own l s 0 c → l₂ ≡ put_own l₁ s 4 c → l₂ ≡ marked_own l s write c
put_write {l₁} {l₂} l s c e₁ e₂ =
    e₂ ∙ tab_same 512 _ _ (λ w q.
    let a = eqb w (s * 16 + (0 + c / 64)) in
    ap (λ (y : ℕ). cond (eqb w (s * 16 + (4 + c / 64))) (bit_or y x) y) (ap (λ (v : List ℕ). get_or v w 0) e₁ ∙ getD_tab 512 (marked_at l (s * 16 + (0 + c / 64)) x) w 0 q)
    ∙ by_test (λ (b : Bool). cond b (bit_or (once w a) x) (once w a) ≡ once w (a || (b || false))) (eq_test w (s * 16 + (4 + c / 64)))
    (λ i. subst (λ (b : Bool). bit_or (once w b) x ≡ once w (b || true)) (sym (test_false (eq_test w (s * 16 + (0 + c / 64))) (λ j. omega arith))) refl)
    (λ n. ap (once w) (sym (or-false a))))
  where
    x : ℕ
    x = 2 ^ (c % 64)

    once : ℕ → Bool → ℕ
    once w b = cond b (bit_or (get_or l w 0) x) (get_or l w 0)

-- They are joined with the fours at a and b.
pub gained_set : {ws us vs xs ys : List ℕ} (m : ℕ) (l : List ℕ) (to a b : ℕ) → Part l to ws → Part l a us → Part l b vs → xs ≡ union us vs → ys ≡ union ws xs
    → tab m (put l to ys) ≡ tab m (gain l to a b)
gained_set {ys} m l to a b tw tu tv ex ey =
    tab_same m _ _ (λ w q.
    by_test (λ (t : Bool). cond t (get_or ys (w - to) 0) (get_or l w 0) ≡ cond t (three l w (a + (w - to)) (b + (w - to))) (get_or l w 0)) (within to w)
    (λ r. ap (λ (v : List ℕ). get_or v (w - to) 0) whole ∙ getD_tab 4 sum (w - to) 0 (omega arith)
    ∙ ap (λ (k : ℕ). three l k (a + (w - to)) (b + (w - to))) (omega arith)) (λ f. refl))
  where
    sum : ℕ → ℕ
    sum k = three l (to + k) (a + k) (b + k)

    whole : ys ≡ tab 4 sum
    whole = ey ∙ ap₂ union (part_tab tw) (ex ∙ ap₂ union (part_tab tu) (part_tab tv))

-- ---- a row's past gains own and past of the row s

-- One row: its past used cells gain, and then its past altered ones. The second gain reads no word that the first has changed, whichever row s is.
pub taken_over : {l₁ l₂ : List ℕ} (m : ℕ) (l : List ℕ) (r s : ℕ) → r * 16 + 16 ≤ m → s * 16 + 16 ≤ m
    → l₁ ≡ tab m (gain l (r * 16 + 8) (s * 16) (s * 16 + 8)) → l₂ ≡ tab m (gain l₁ (r * 16 + 8 + 4) (s * 16 + 4) (s * 16 + 12))
    → l₂ ≡ tab m (folded_word l (λ k. eqb k r) s)
taken_over {l₁} {l₂} m l r s hr hs e₁ e₂ =
    e₂ ∙ tab_same m _ _ (λ w q.
    by_test (λ (t : Bool). cond t (new₂ w) (get_or l₁ w 0) ≡ folded_word l (λ k. eqb k r) s w) (within (to + 4) w) (λ i. altered w q i.0 i.1)
    (λ f. first w q ∙ used w f))
  where
    to : ℕ
    to = r * 16 + 8

    new₁ : ℕ → ℕ
    new₁ w = three l w (s * 16 + (w - to)) (s * 16 + 8 + (w - to))

    new₂ : ℕ → ℕ
    new₂ w = three l₁ w (s * 16 + 4 + (w - (to + 4))) (s * 16 + 12 + (w - (to + 4)))

    in_past : (w : ℕ) → Decides (eqb (w / 16) r && leb 8 (w % 16)) ((w / 16 ≡ r) × (8 ≤ w % 16))
    in_past w = and_test (eq_test (w / 16) r) (le_test 8 (w % 16))

    first : (w : ℕ) → w < m → get_or l₁ w 0 ≡ cond (leb to w && leb w (to + 3)) (new₁ w) (get_or l w 0)
    first w q = ap (λ (v : List ℕ). get_or v w 0) e₁ ∙ getD_tab m (gain l to (s * 16) (s * 16 + 8)) w 0 q

    kept : (w : ℕ) → w < m → ((to ≤ w) × (w ≤ to + 3) → ⊥) → get_or l₁ w 0 ≡ get_or l w 0
    kept w q f = first w q ∙ ap (λ (t : Bool). cond t (new₁ w) (get_or l w 0)) (test_false (within to w) f)

    -- the two fours are the past
    new : (w : ℕ) → to ≤ w → w ≤ to + 7 → gained_word l s w ≡ folded_word l (λ k. eqb k r) s w
    new w h h' = ap (λ (t : Bool). cond t (gained_word l s w) (get_or l w 0)) (sym (test_true (in_past w) (omega arith)))

    altered : (w : ℕ) → w < m → to + 4 ≤ w → w ≤ to + 4 + 3 → new₂ w ≡ folded_word l (λ k. eqb k r) s w
    altered w q h h' =
        ap₂ bit_or (kept w q (λ i. omega arith))
        (ap₂ bit_or
        (kept (s * 16 + 4 + (w - (to + 4))) (omega arith) (λ i. omega arith) ∙ ap (λ (k : ℕ). get_or l k 0) (omega arith))
        (kept (s * 16 + 12 + (w - (to + 4))) (omega arith) (λ i. omega arith) ∙ ap (λ (k : ℕ). get_or l k 0) (omega arith)))
        ∙ new w (omega arith) (omega arith)

    used : (w : ℕ) → ((to + 4 ≤ w) × (w ≤ to + 4 + 3) → ⊥) → cond (leb to w && leb w (to + 3)) (new₁ w) (get_or l w 0) ≡ folded_word l (λ k. eqb k r) s w
    used w f =
        by_test (λ (t : Bool). cond t (new₁ w) (get_or l w 0) ≡ folded_word l (λ k. eqb k r) s w) (within to w)
        (λ i. ap₂ (three l w) (omega arith) (omega arith) ∙ new w (omega arith) (omega arith))
        (λ g. ap (λ (t : Bool). cond t (gained_word l s w) (get_or l w 0))
        (sym (test_false (in_past w) (λ i. ⊎_elim (λ h. g (omega arith)) (λ h. f (omega arith)) (answer (le_test w (to + 3)))))))

-- Every row of `from`, the lowest first, with those of `todo` left.
pub record Folding (m from s : ℕ) (old : List ℕ) (todo : ℕ) (l : List ℕ) : Type 0 where
  pub long : length l ≡ m
  pub rows : Visiting 32 m from (λ w. w / 16) (λ w. cond (leb 8 (w % 16)) (gained_word old s w) (get_or old w 0)) (λ w. get_or old w 0) todo (λ w. get_or l w 0)

module _ {m from s : ℕ} {old : List ℕ} where
  pub fold_start : length old ≡ m → from < 2 ^ 32 → Folding m from s old from old
  fold_start e h = record { long = e; rows = visit_start h (λ w q. refl) }

  -- The row s, whose words the others gain, is none of them, and so it stays.
  pub fold_other : {todo : ℕ} {l : List ℕ} → Folding m from s old todo l → (todo ≡ 0 → ⊥) → bit from s ≡ false → count_trailing_zeros 32 todo ≡ s → ⊥
  fold_other {todo} f ne out e =
      let left = f.rows.left in
      false_is out (subst (λ (k : ℕ). T (bit from k)) e (left.inside (count_trailing_zeros 32 todo) (lowest_mark 32 todo left.fits ne).there))

  pub fold_turn : {todo : ℕ} {l l' : List ℕ} → Folding m from s old todo l → (todo ≡ 0 → ⊥) → s * 16 + 16 ≤ m → bit from s ≡ false
      → l' ≡ tab m (folded_word l (λ k. eqb k (count_trailing_zeros 32 todo)) s) → Folding m from s old (bit_and todo (todo - 1)) l'
  fold_turn {todo} {l} {l'} f ne h out e = record { long = ap length e ∙ length_tab m new; rows = visit_turn f.rows ne hit miss }
    where
      i : ℕ
      i = count_trailing_zeros 32 todo

      new : ℕ → ℕ
      new = folded_word l (λ k. eqb k i) s

      at : (w : ℕ) → w < m → get_or l' w 0 ≡ new w
      at w q = ap (λ (v : List ℕ). get_or v w 0) e ∙ getD_tab m new w 0 q

      row : (w : ℕ) {b : Bool} → eqb (w / 16) i ≡ b → new w ≡ cond (b && leb 8 (w % 16)) (gained_word l s w) (get_or l w 0)
      row w = ap (λ (b : Bool). cond (b && leb 8 (w % 16)) (gained_word l s w) (get_or l w 0))

      own : (o : ℕ) → o < 16 → get_or l (s * 16 + o) 0 ≡ get_or old (s * 16 + o) 0
      own o q = visit_kept f.rows (s * 16 + o) (omega arith) (ap (bit from) (omega arith) ∙ out)

      hit : (w : ℕ) → w < m → w / 16 ≡ i → get_or l w 0 ≡ get_or old w 0 → get_or l' w 0 ≡ cond (leb 8 (w % 16)) (gained_word old s w) (get_or old w 0)
      hit w q r g =
          at w q ∙ row w (test_true (eq_test (w / 16) i) r)
          ∙ ap₂ (cond (leb 8 (w % 16))) (ap₂ bit_or g (ap₂ bit_or (own (w % 16 - 8) (omega arith)) (own (w % 16) (omega arith)))) g

      miss : (w : ℕ) → w < m → (w / 16 ≡ i → ⊥) → get_or l' w 0 ≡ get_or l w 0
      miss w q r = at w q ∙ row w (test_false (eq_test (w / 16) i) r)

  pub fold_end : {todo : ℕ} {l : List ℕ} → Folding m from s old todo l → todo ≡ 0 → l ≡ tab m (folded_word old (bit from) s)
  fold_end f e = tab_of f.long (λ w q. visit_end f.rows e w q ∙ go (bit from (w / 16)) (leb 8 (w % 16)) (gained_word old s w) (get_or old w 0))
    where
      go : (a b : Bool) (x y : ℕ) → cond a (cond b x y) y ≡ cond (a && b) x y
      go true b x y = refl
      go false b x y = refl
