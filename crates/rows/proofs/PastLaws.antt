-- The slots that have a past, and who comes to lead to a new job.
--
-- First the words of a set, as they are taken out of the list (`set_law`), and a row's past as the union of its two sets (`past_law`). Then a pass over the marks of a mask that gathers
-- those which pass a test (`Gathering`). Last what an open leaves (`opens`).
-- Assumes nothing.
use mathlib.Core.Path.{◌≡◌, refl, sym, ap, ap₂, ◌∙◌, subst}
use mathlib.Core.Bool.{Bool, true, false, not, ◌&&◌, ◌||◌, cond, and-false, or-true, or-false}
use mathlib.Core.List.{List, [], ◌∷◌}
use Prim.Native.Nat.{ℕ, ◌+◌, ◌-◌, ◌*◌, ◌%◌, ◌^◌, ◌<◌}
use native.Mathlib.Nat.{add_assoc, suc_inj, suc-ne-zero, mod-lt}
use lib.Bits.{bit_or, bit_and, or_lt}
use lib.Count.{count_trailing_zeros}
use lib.Dec.{eqb}
use lib.ListN.{length, get_or}
use lib.Pow.{pow_pos, pow-lt}
use Rattle.graph.specs.Decide.{by_test, eq_test, test_true, test_false}
use Rattle.marks.specs.Marks.{bit, mask_of, without}
use Rattle.marks.specs.MarkLaws.{getD_tab, tab_same, bit_zero, bit_put, bit_others, and_others}
use Rattle.marks.specs.MaskLaws.{bit_of, masked, left_inside, Visiting, visit_start, visit_turn, visit_end}
use Rattle.marks.specs.Words.{union, empty}
use Rattle.cells.proofs.Laws.{or_none}
use Rattle.held.specs.Held.{Held, word_at, leads_at, open_at, set_at, has_past, opened_at}
use Rattle.rows.specs.Rows.{sets_only, Opens, struck, gained_row, gained, blanked}
use Rattle.rows.proofs.SetLaws.{mark_is, Part, part_tab}

-- ---- a set and its words

-- the four words from place o of row i on are the set that begins there
pub set_law : {words : List ℕ} (h : Held) (i o : ℕ) → Part h.sets (i * 16 + o) words → set_at h i o ≡ words
unfolding word_at
set_law h i o t =
    tab_same 4 (λ w. get_or h.sets (i * 16 + (o + w)) 0) (λ w. get_or h.sets (i * 16 + o + w) 0) (λ w q. ap (λ (n : ℕ). get_or h.sets n 0) (sym (add_assoc (i * 16) o w)))
    ∙ sym (part_tab t)

-- nothing is in a union exactly when nothing is in the one nor in the other
union_empty : (ws vs : List ℕ) → length ws ≡ length vs → empty (union ws vs) ≡ empty ws && empty vs
union_empty [] [] e = refl
union_empty [] (v ∷ vs) e = absurd (suc-ne-zero (length vs) (sym e))
union_empty (w ∷ ws) [] e = absurd (suc-ne-zero (length ws) e)
union_empty (w ∷ ws) (v ∷ vs) e = ap₂ ◌&&◌ (or_none w v) (union_empty ws vs (suc_inj e)) ∙ go (eqb w 0) (eqb v 0) (empty ws) (empty vs)
  where
    go : (a b c d : Bool) → (a && b) && (c && d) ≡ (a && c) && (b && d)
    go true true c d = refl
    go true false c d = sym (and-false c)
    go false b c d = refl

-- so a row has a past exactly when the union of its past used and altered cells is not empty
pub past_law : {used altered all : List ℕ} {none : Bool} (h : Held) (i : ℕ) → Part h.sets (i * 16 + 8) used → Part h.sets (i * 16 + 12) altered
    → all ≡ union used altered → none ≡ empty all → not none ≡ has_past h i
unfolding has_past
past_law {used} {altered} h i t u eu ee =
    ap not (ee ∙ ap empty eu ∙ union_empty used altered (t.four ∙ sym u.four)) ∙ go (empty used) (empty altered)
    ∙ ap₂ (λ (a b : List ℕ). not (empty a) || (not (empty b) || false)) (sym (set_law h i 8 t)) (sym (set_law h i 12 u))
  where
    go : (a b : Bool) → not (a && b) ≡ not a || (not b || false)
    go true b = sym (or-false (not b))
    go false b = refl

-- ---- a pass over the marks of `from`, with `todo` left, that gathers those which pass p

pub record Gathering (w from : ℕ) (p : ℕ → Bool) (todo found : ℕ) : Type 0 where
  pub fits : found < 2 ^ w
  pub marks : Visiting w w from (λ k. k) p (λ k. false) todo (bit found)

module _ {w from : ℕ} {p : ℕ → Bool} where
  pub gather_start : from < 2 ^ w → Gathering w from p from 0
  gather_start h = record { fits = pow_pos w; marks = visit_start h (λ k q. bit_zero k) }

  -- a turn puts in the mark, or leaves it out
  module _ {todo found : ℕ} (g : Gathering w from p todo found) (ne : todo ≡ 0 → ⊥) where
    pub gather_in : p (count_trailing_zeros w todo) ≡ true → Gathering w from p (bit_and todo (todo - 1)) (bit_or found (1 * 2 ^ count_trailing_zeros w todo % 2 ^ w))
    gather_in y =
        record {
          fits = or_lt w found (1 * 2 ^ i % 2 ^ w) g.fits (mod-lt (1 * 2 ^ i) (pow_pos w));
          marks =
              visit_turn g.marks ne
              (λ k q e o. put k (test_true (eq_test k i) e) ∙ or-true (bit found k) ∙ sym (ap p e ∙ y))
              (λ k q n. put k (test_false (eq_test k i) n) ∙ or-false (bit found k));
        }
      where
        i : ℕ
        i = count_trailing_zeros w todo

        put : (k : ℕ) {b : Bool} → eqb k i ≡ b → bit (bit_or found (1 * 2 ^ i % 2 ^ w)) k ≡ bit found k || b
        put k e = bit_put w found i k (left_inside g.marks.left ne) ∙ ap (λ (b : Bool). bit found k || b) e

    pub gather_out : p (count_trailing_zeros w todo) ≡ false → Gathering w from p (bit_and todo (todo - 1)) found
    gather_out n = record { fits = g.fits; marks = visit_turn g.marks ne (λ k q e o. o ∙ sym (ap p e ∙ n)) (λ k q m. refl) }

  pub gather_end : {todo found : ℕ} → Gathering w from p todo found → todo ≡ 0 → found ≡ mask_of w (λ k. bit from k && p k)
  gather_end g e = masked w (λ k. bit from k && p k) g.fits (λ k q. visit_end g.marks e k q ∙ go (bit from k) (p k))
    where
      go : (a b : Bool) → cond a b false ≡ a && b
      go true b = refl
      go false b = refl

-- ---- an open

-- the slot's mark is struck, and then those lead to it that are open and have a past. It counts as free itself, and so it leads nowhere
opened_leads : {leaders m : ℕ} {leads₁ leads₂ : List ℕ} (h : Held) (s : ℕ) → h.free < 2 ^ 32 → s < 32 → m ≡ 2 ^ s
    → leaders ≡ mask_of 32 (λ i. bit (2 ^ 32 - 1 - bit_or h.free m) i && has_past (sets_only h.sets) i)
    → leads₁ ≡ struck h.leads s → leads₂ ≡ gained leads₁ (bit leaders) (2 ^ s) → leads₂ ≡ (opened_at h 0 s).leads
unfolding opened_at open_at leads_at has_past word_at
opened_leads {leaders} {m} {leads₁} h s fits inside em eb e₁ e₂ =
    e₂ ∙ tab_same 32 (gained_row leads₁ (bit leaders) (2 ^ s)) _ (λ i q.
    ap₂ (λ (b : Bool) (n : ℕ). cond b (bit_or n (2 ^ s)) n)
    (bit_of 32 (λ i. bit (2 ^ 32 - 1 - shut) i && has_past h i) eb i q
    ∙ ap (λ (b : Bool). b && has_past h i) (bit_others 32 shut i shut_fits q ∙ ap not (ap (λ (x : ℕ). bit (bit_or h.free x) i) (mark_is em inside) ∙ bit_put 32 h.free s i inside)))
    (ap (λ (l : List ℕ). get_or l i 0) e₁ ∙ getD_tab 32 (λ i. cond (eqb i s) 0 (without (get_or h.leads i 0) s)) i 0 q)
    ∙ row i)
  where
    shut : ℕ
    shut = bit_or h.free m

    shut_fits : shut < 2 ^ 32
    shut_fits = or_lt 32 h.free m fits (subst (λ (x : ℕ). x < 2 ^ 32) (sym em) (pow-lt inside))

    -- row i, that has a past or none, with what it led to but for s
    row : (i : ℕ) → let n = without (get_or h.leads i 0) s in
        let a = not (bit h.free i || eqb i s) && has_past h i in
        cond a (bit_or (cond (eqb i s) 0 n) (2 ^ s)) (cond (eqb i s) 0 n)
        ≡ cond (eqb i s) 0 (cond (not (bit h.free i) && has_past h i) (bit_or n (2 ^ s)) n)
    row i =
        let n = without (get_or h.leads i 0) s in
        let p = has_past h i in
        by_test (λ (b : Bool). cond (not (bit h.free i || b) && p) (bit_or (cond b 0 n) (2 ^ s)) (cond b 0 n) ≡ cond b 0 (cond (not (bit h.free i) && p) (bit_or n (2 ^ s)) n)) (eq_test i s)
        (λ e. ap (λ (b : Bool). cond (not b && p) (bit_or 0 (2 ^ s)) 0) (or-true (bit h.free i)))
        (λ e. ap (λ (b : Bool). cond (not b && p) (bit_or n (2 ^ s)) n) (or-false (bit h.free i)))

pub opens : {leaders m : ℕ} {leads₁ leads₂ sets₁ : List ℕ} (h : Held) (s : ℕ) → h.free < 2 ^ 32 → s < 32 → m ≡ 2 ^ s
    → leaders ≡ mask_of 32 (λ i. bit (2 ^ 32 - 1 - bit_or h.free m) i && has_past (sets_only h.sets) i)
    → leads₁ ≡ struck h.leads s → leads₂ ≡ gained leads₁ (bit leaders) (2 ^ s) → sets₁ ≡ blanked h.sets s
    → Opens h s (bit_and h.free (2 ^ 32 - 1 - m)) leads₂ sets₁
unfolding opened_at
opens h s fits inside em eb e₁ e₂ es =
    record { left_free = ap (λ (x : ℕ). bit_and h.free (2 ^ 32 - 1 - x)) (mark_is em inside) ∙ and_others 32 h.free s fits inside; left_leads = opened_leads h s fits inside em eb e₁ e₂; left_sets = es }
