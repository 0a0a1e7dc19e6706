-- The slots whose sets clash with a step.
--
-- First what the code reads: the words of a half row that a step looks at, and the test of the cell's mark in them, which are what held says of the row
-- (`tells_past`, `tells_met`). Then the rows of a mask that clash (`mask_among`), and the slots that come to lead to the asking one (`touched_mask`).
-- Assumes nothing.
use mathlib.Core.Path.{◌≡◌, refl, sym, ap, ap₂, ◌∙◌}
use mathlib.Core.Logic.{⊎_elim}
use mathlib.Core.Bool.{Bool, true, false, not, ◌&&◌, ◌||◌, cond, and_comm, and-false, or-false, or_comm}
use mathlib.Core.List.{List}
use Prim.Native.Nat.{ℕ, ◌+◌, ◌-◌, ◌*◌, ◌/◌, ◌%◌, ◌^◌, ◌≤◌, ◌<◌}
use native.Mathlib.Nat.{zero-add, lt_of_le_of_lt, lt_of_lt_of_le}
use native.Mathlib.Omega.{arith}
use lib.Bits.{bit_or, bit_and, and_le_r}
use lib.Dec.{eqb}
use lib.ListN.{get_or}
use lib.Pow.{pow_mono, ones_sub-lt}
use borrow.Author.Tests.{ne_eqb}
use Rattle.graph.specs.Decide.{by_test, answer, eq_test, lt_test}
use Rattle.marks.specs.Marks.{bit, mask_of}
use Rattle.marks.specs.MarkLaws.{bit_above, bit-or, bit-and, bit_others, bit_put, bit_rest, test_mark}
use Rattle.marks.specs.MaskLaws.{bit_of, masked}
use Rattle.held.specs.Held.{Aspect, as_used, as_altered, own_at, past_at, cell_at, word_at, meets, touched}
use Rattle.rows.specs.Rows.{sets_only, kind_of}
use Rattle.rows.specs.Rows.{met, touches, first_word, second_word, shown_word}
use Rattle.rows.proofs.SetLaws.{mark_is}
use Rattle.rows.specs.declared.Deed.{Deed}
use Rattle.rows.specs.declared.Deed.TheVariants.{Read, Write, Add}

-- ---- the words that the code reads

-- the cell's mark in what is shown of the half row that begins at h, where f tells the marks of its two sets
half_is : (l : List ℕ) (h c : ℕ) (f : Aspect → ℕ → Bool) (d : Deed)
    → f as_used c ≡ bit (get_or l (h + c / 64) 0) (c % 64) → f as_altered c ≡ bit (get_or l (h + (4 + c / 64)) 0) (c % 64)
    → bit (shown_word l h (first_word d c) (second_word d c)) (c % 64) ≡ meets f (kind_of d) c
unfolding meets
half_is l h c f Read u a = sym a
half_is l h c f Write u a =
    bit-or (get_or l (h + (4 + c / 64)) 0) (get_or l (h + c / 64) 0) (c % 64) ∙ or_comm (bit (get_or l (h + (4 + c / 64)) 0) (c % 64)) (bit (get_or l (h + c / 64) 0) (c % 64))
    ∙ sym (ap₂ ◌||◌ u a)
half_is l h c f Add u a = sym (or-false (f as_used c) ∙ u)

-- own and past of row i
own_is : (l : List ℕ) (c i : ℕ) (d : Deed) → bit (shown_word l (i * 16) (first_word d c) (second_word d c)) (c % 64) ≡ meets (own_at (sets_only l) i) (kind_of d) c
unfolding cell_at word_at
own_is l c i d = half_is l (i * 16) c (own_at (sets_only l) i) d (ap (λ (o : ℕ). bit (get_or l (i * 16 + o) 0) (c % 64)) (zero-add (c / 64))) refl

past_is : (l : List ℕ) (c i : ℕ) (d : Deed) → bit (shown_word l (i * 16 + 8) (first_word d c) (second_word d c)) (c % 64) ≡ meets (past_at (sets_only l) i) (kind_of d) c
unfolding cell_at word_at
past_is l c i d =
    half_is l (i * 16 + 8) c (past_at (sets_only l) i) d (ap (λ (n : ℕ). bit (get_or l n 0) (c % 64)) (omega arith)) (ap (λ (n : ℕ). bit (get_or l n 0) (c % 64)) (omega arith))

-- the tests of the mark, as the code has them: of the past alone, and of own and past in one
pub tells_past : {r m : ℕ} (l : List ℕ) (c i : ℕ) (d : Deed) → r ≡ shown_word l (i * 16 + 8) (first_word d c) (second_word d c) → m ≡ 2 ^ (c % 64)
    → not (eqb (bit_and r m) 0) ≡ meets (past_at (sets_only l) i) (kind_of d) c
tells_past l c i d er em =
    ap₂ (λ (x y : ℕ). not (eqb (bit_and x y) 0)) er em ∙ test_mark (shown_word l (i * 16 + 8) (first_word d c) (second_word d c)) (c % 64) ∙ past_is l c i d

met_is : (l : List ℕ) (d : Deed) (c : ℕ) {i : ℕ} → i < 32
    → met l (kind_of d) c i ≡ meets (own_at (sets_only l) i) (kind_of d) c || meets (past_at (sets_only l) i) (kind_of d) c
unfolding touched
met_is l d c {i} q =
    ap (λ (x : Bool). (not x && meets (own_at (sets_only l) i) (kind_of d) c) || meets (past_at (sets_only l) i) (kind_of d) c) (ne_eqb i 32 (omega arith))

pub tells_met : {i o r m : ℕ} (l : List ℕ) (c : ℕ) (d : Deed) → i < 32 → o ≡ shown_word l (i * 16) (first_word d c) (second_word d c)
    → r ≡ shown_word l (i * 16 + 8) (first_word d c) (second_word d c) → m ≡ 2 ^ (c % 64) → not (eqb (bit_and (bit_or o r) m) 0) ≡ met l (kind_of d) c i
tells_met {i} l c d q eo er em =
    let own = shown_word l (i * 16) (first_word d c) (second_word d c) in
    let past = shown_word l (i * 16 + 8) (first_word d c) (second_word d c) in
    ap₂ (λ (x y : ℕ). not (eqb (bit_and x y) 0)) (ap₂ bit_or eo er) em ∙ test_mark (bit_or own past) (c % 64) ∙ bit-or own past (c % 64)
    ∙ ap₂ ◌||◌ (own_is l c i d) (past_is l c i d) ∙ sym (met_is l d c q)

-- ---- masks of rows

-- the marks of `slots`, none of which is t or above, that pass f
pub mask_among : {x slots : ℕ} (t : ℕ) (f : ℕ → Bool) → x ≡ mask_of t f → slots < 2 ^ t → t ≤ 32 → bit_and x slots ≡ mask_of 32 (λ i. bit slots i && f i)
mask_among {x} {slots} t f e h q =
    masked 32 (λ i. bit slots i && f i) (lt_of_le_of_lt (and_le_r x slots) (lt_of_lt_of_le h (pow_mono q)))
    (λ k r. bit-and x slots k ∙ ⊎_elim (inside k) (λ n. above k (omega arith)) (answer (lt_test k t)))
  where
    inside : (k : ℕ) → k < t → bit x k && bit slots k ≡ bit slots k && f k
    inside k r = ap (λ (b : Bool). b && bit slots k) (bit_of t f e k r) ∙ and_comm (f k) (bit slots k)

    above : (k : ℕ) → t ≤ k → bit x k && bit slots k ≡ bit slots k && f k
    above k r =
        let z = bit_above t slots k h r in
        ap (λ (b : Bool). bit x k && b) z ∙ and-false (bit x k) ∙ sym (ap (λ (b : Bool). b && f k) z)

-- ---- the slots that come to lead to s

-- the other open slots, as the code masks them
abbrev pub others : ℕ → ℕ → ℕ
others free m = bit_and (2 ^ 32 - 1 - free) (2 ^ 32 - 1 - m)

bit_other : {free s m k : ℕ} → free < 2 ^ 32 → s < 32 → m ≡ 2 ^ s → k < 32 → bit (others free m) k ≡ not (bit free k) && not (eqb k s)
bit_other {free} {s} {m} {k} h hs e q =
    bit-and (2 ^ 32 - 1 - free) (2 ^ 32 - 1 - m) k
    ∙ ap₂ ◌&&◌ (bit_others 32 free k h q) (ap (λ (x : ℕ). bit (2 ^ 32 - 1 - x) k) (mark_is e hs) ∙ bit_rest 32 s k hs q)

-- The others that clash, and s itself where its past does, as far as they are open.
pub touched_mask : {free s m found : ℕ} (l : List ℕ) (d : Deed) (c : ℕ) (b : Bool) → free < 2 ^ 32 → s < 32 → m ≡ 2 ^ s
    → found ≡ mask_of 32 (λ i. bit (others free m) i && met l (kind_of d) c i) → b ≡ meets (past_at (sets_only l) s) (kind_of d) c
    → bit_and (cond b (bit_or found m) found) (2 ^ 32 - 1 - free) ≡ mask_of 32 (touches free l (kind_of d) s c)
unfolding touched
touched_mask {free} {s} {m} {found} l d c b hf hs em ef itself =
    masked 32 (λ i. not (bit free i) && ((not (eqb i s) && own i) || past i)) (lt_of_le_of_lt (and_le_r all (2 ^ 32 - 1 - free)) (ones_sub-lt 32 free))
    (λ k q. bit-and all (2 ^ 32 - 1 - free) k
    ∙ ap₂ ◌&&◌ (with_own b k ∙ ap₂ (λ (x y : Bool). x || y && eqb k s) (gathered k q) itself) (bit_others 32 free k hf q) ∙ agree k)
  where
    own : ℕ → Bool
    own i = meets (own_at (sets_only l) i) (kind_of d) c

    past : ℕ → Bool
    past i = meets (past_at (sets_only l) i) (kind_of d) c

    all : ℕ
    all = cond b (bit_or found m) found

    with_own : (b : Bool) (k : ℕ) → bit (cond b (bit_or found m) found) k ≡ bit found k || b && eqb k s
    with_own true k = ap (λ (x : ℕ). bit (bit_or found x) k) (mark_is em hs) ∙ bit_put 32 found s k hs
    with_own false k = sym (or-false (bit found k))

    gathered : (k : ℕ) → k < 32 → bit found k ≡ (not (bit free k) && not (eqb k s)) && (own k || past k)
    gathered k q = bit_of 32 (λ i. bit (others free m) i && met l (kind_of d) c i) ef k q ∙ ap₂ ◌&&◌ (bit_other hf hs em q) (met_is l d c q)

    -- o is open, x clashes as another, y has a past that does
    same : (o x y : Bool) → ((o && false) && x || y && true) && o ≡ o && y
    same true x true = refl
    same true x false = refl
    same false x true = refl
    same false x false = refl

    other : (o x y : Bool) → ((o && true) && x || y && false) && o ≡ o && x
    other true true y = refl
    other true false true = refl
    other true false false = refl
    other false x true = refl
    other false x false = refl

    agree : (k : ℕ)
        → ((not (bit free k) && not (eqb k s)) && (own k || past k) || past s && eqb k s) && not (bit free k) ≡ not (bit free k) && ((not (eqb k s) && own k) || past k)
    agree k =
        let o = not (bit free k) in
        by_test (λ (t : Bool). ((o && not t) && (own k || past k) || past s && t) && o ≡ o && ((not t && own k) || past k)) (eq_test k s)
        (λ i. same o (own k || past k) (past s) ∙ ap (λ (n : ℕ). o && past n) (sym i)) (λ n. other o (own k || past k) (past s))
