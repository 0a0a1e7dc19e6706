-- What the proofs of the public functions need beyond the contracts of the functions that they call.
--
-- An empty set of words tells that nothing was altered (`altered_law`). Then what a slot that is left hands on (`hands`), and a slot that is left (`leaves`) or
-- ends (`slot_ends`).
-- Assumes nothing.
use mathlib.Core.Path.{◌≡◌, refl, sym, ap, ◌∙◌, subst}
use mathlib.Core.Bool.{Bool, true, false, not, ◌&&◌, cond}
use mathlib.Core.List.{List, []}
use Prim.Native.Nat.{ℕ, ◌+◌, ◌-◌, ◌*◌, ◌/◌, ◌%◌, ◌^◌, ◌<◌}
use native.Mathlib.Omega.{arith}
use lib.Bits.{bit_or, bit_and}
use lib.Dec.{lit<, leb, eqb}
use lib.ListN.{get_or}
use lib.Pow.{pow-lt}
use borrow.Author.Tests.{eq-eqb}
use Rattle.marks.specs.Marks.{bit, mask_of, without, tab}
use Rattle.marks.specs.MarkLaws.{getD_tab, tab_same, bit_zero, bit_pow, mask_bits}
use Rattle.marks.specs.MaskLaws.{bit_of, masked, mask_not, mask_others}
use Rattle.marks.specs.Words.{empty}
use Rattle.held.specs.Held.{Held, open_at, number_at, leads_at, word_at}
use Rattle.held.specs.Held.{altered, left_at, ended_at, abandoned_at}
use Rattle.rows.specs.Rows.{rows_of, links_of, Leaves, leads_to, theirs, gained_word, folded_word, put, struck, gained_row, gained, blanked, folded}
use Rattle.rows.proofs.SetLaws.{Part}
use Rattle.rows.proofs.PastLaws.{set_law}

-- states that are the same, part by part
pub rows_same : {free free' : ℕ} {numbers numbers' leads leads' sets sets' : List ℕ} → free ≡ free' → numbers ≡ numbers' → leads ≡ leads' → sets ≡ sets'
    → rows_of free numbers leads sets ≡ rows_of free' numbers' leads' sets'
rows_same f ns ls ss = λ i. rows_of (f i) (ns i) (ls i) (ss i)

-- ---- the set that bars abandoning

-- the code takes its words out of the list
pub altered_law : {words : List ℕ} (h : Held) (s : ℕ) → Part h.sets (s * 16 + 4) words → altered h s ≡ not (empty words)
unfolding altered
altered_law h s t = ap (λ (l : List ℕ). not (empty l)) (set_law h s 4 t)

-- ---- masks and their rules

-- rows that gain by a mask gain by the mask's rule
pub gained_by : (leads : List ℕ) (p : ℕ → Bool) (gain : ℕ) {from : ℕ} → from ≡ mask_of 32 p → gained leads (bit from) gain ≡ gained leads p gain
gained_by leads p gain {from} e =
    tab_same 32 (gained_row leads (bit from) gain) (gained_row leads p gain) (λ i q. ap (λ (b : Bool). cond b (bit_or (get_or leads i 0) gain) (get_or leads i 0)) (bit_of 32 p e i q))

-- words that fold by a mask fold by the mask's rule
folded_by : (sets : List ℕ) (p : ℕ → Bool) (s : ℕ) {from : ℕ} → from ≡ mask_of 32 p → folded sets (bit from) s ≡ folded sets p s
folded_by sets p s {from} e =
    tab_same 512 (folded_word sets (bit from) s) (folded_word sets p s)
    (λ w q. ap (λ (b : Bool). cond (b && leb 8 (w % 16)) (gained_word sets s w) (get_or sets w 0))
    (bit_of 32 p e (w / 16) (omega arith)))

-- ---- a slot that is left

-- who takes over matters only of the other slots: row s is blank
aside : (own b : Bool) (f : Bool → ℕ) → cond own 0 (f (not own && b)) ≡ cond own 0 (f b)
aside true b f = refl
aside false b f = refl

-- rules that agree on the other slots
left_same : (h : Held) (t u : ℕ → Bool) (s : ℕ) → ((i : ℕ) → i < 32 → (f : Bool → ℕ) → cond (eqb i s) 0 (f (t i)) ≡ cond (eqb i s) 0 (f (u i))) → left_at h t s ≡ left_at h u s
unfolding left_at
left_same h t u s e =
    let gain = bit_and (leads_at h s) (mask_of 32 (open_at h)) in
    let row : Bool → ℕ → ℕ = λ b i. without (cond b (bit_or (leads_at h i) gain) (leads_at h i)) s in
    let word : Bool → ℕ → ℕ = λ b w. cond (b && leb 8 (w % 16)) (bit_or (get_or h.sets w 0) (bit_or (word_at h s (w % 16 - 8)) (word_at h s (w % 16)))) (get_or h.sets w 0) in
    let ls = tab_same 32 (λ i. cond (eqb i s) 0 (row (t i) i)) (λ i. cond (eqb i s) 0 (row (u i) i)) (λ i q. e i q (λ b. row b i)) in
    let ss =
    tab_same 512 (λ w. cond (eqb (w / 16) s) 0 (word (t (w / 16)) w)) (λ w. cond (eqb (w / 16) s) 0 (word (u (w / 16)) w))
    (λ w q. e (w / 16) (omega arith) (λ b. word b w)) in
    λ k. record { next = h.next; free = bit_or h.free (2 ^ s); numbers = tab 32 (λ i. cond (eqb i s) 0 (number_at h i)); leads = ls k; sets = ss k; ports = h.ports }

left_aside : (h : Held) (t : ℕ → Bool) (s : ℕ) → left_at h (λ i. not (eqb i s) && t i) s ≡ left_at h t s
left_aside h t s = left_same h (λ i. not (eqb i s) && t i) t s (λ i q f. aside (eqb i s) (t i) f)

-- those that pass a mask's rule have its marks
pub left_by : (h : Held) (t : ℕ → Bool) (s : ℕ) {from : ℕ} → from ≡ mask_of 32 t → left_at h (bit from) s ≡ left_at h t s
left_by h t s {from} e = left_same h (bit from) t s (λ i q f. ap (λ (b : Bool). cond (eqb i s) 0 (f b)) (bit_of 32 t e i q))

-- the rows that pass t have taken over the leads and the sets of s, and then s is left
left_as : (free : ℕ) (numbers leads sets : List ℕ) (t : ℕ → Bool) (s : ℕ) (leads₁ sets₁ : List ℕ) → free < 2 ^ 32
    → ((i : ℕ) → i < 32 → get_or leads₁ i 0 ≡ gained_row leads t (theirs free leads s) i)
    → ((w : ℕ) → w < 512 → get_or sets₁ w 0 ≡ folded_word sets t s w)
    → abandoned_at (rows_of free numbers leads₁ sets₁) s ≡ left_at (rows_of free numbers leads sets) t s
unfolding abandoned_at left_at number_at leads_at word_at open_at
left_as free numbers leads sets t s leads₁ sets₁ fits ls ss =
    rows_same refl refl
    (tab_same 32 _ _ (λ i q. ap (λ (x : ℕ). cond (eqb i s) 0 (without x s))
    (ls i q ∙ ap (λ (m : ℕ). gained_row leads t (bit_and (get_or leads s 0) m) i) (mask_not 32 free fits))))
    (tab_same 512 _ _ (λ w q. ap (λ (x : ℕ). cond (eqb (w / 16) s) 0 x) (ss w q)))

-- the slots of a mask but s
pub others_mask : {m : ℕ} (from s : ℕ) → m ≡ 2 ^ s → from < 2 ^ 32 → s < 32 → bit_and from (2 ^ 32 - 1 - m) ≡ mask_of 32 (λ k. not (eqb k s) && bit from k)
others_mask {m} from s e fits inside =
    mask_others 32 (bit from) (λ k. eqb k s) m (sym (mask_bits 32 from fits)) (subst (λ (x : ℕ). x < 2 ^ 32) (sym e) (pow-lt inside)) (λ k q. ap (λ (x : ℕ). bit x k) e ∙ bit_pow s k)

pub others_own : (from s : ℕ) {others : ℕ} → others ≡ mask_of 32 (λ k. not (eqb k s) && bit from k) → s < 32 → bit others s ≡ false
others_own from s e inside = bit_of 32 (λ k. not (eqb k s) && bit from k) e s inside ∙ ap (λ (b : Bool). not b && bit from s) (eq-eqb s s refl)

-- the others of the mask have taken over, no row leads to s, and its own is blank
pub hands : (free : ℕ) (leads sets : List ℕ) (from s : ℕ) {others : ℕ} {leads₁ sets₁ leads' sets' : List ℕ} → free < 2 ^ 32
    → others ≡ mask_of 32 (λ k. not (eqb k s) && bit from k)
    → sets₁ ≡ folded sets (bit others) s → leads₁ ≡ gained leads (bit others) (theirs free leads s)
    → leads' ≡ struck leads₁ s → sets' ≡ blanked sets₁ s
    → Leaves (links_of free leads sets) (bit from) s leads' sets'
unfolding abandoned_at left_at number_at leads_at word_at open_at
hands free leads sets from s {leads₁ = leads₁} {sets₁ = sets₁} fits eo es el ls ss =
    record { left_leads = ls ∙ (λ i. (taken i).leads); left_sets = ss ∙ (λ i. (taken i).sets) }
  where
    t : ℕ → Bool
    t = λ k. not (eqb k s) && bit from k

    gain : ℕ
    gain = theirs free leads s

    taken : abandoned_at (rows_of free [] leads₁ sets₁) s ≡ left_at (rows_of free [] leads sets) (bit from) s
    taken =
        left_as free [] leads sets t s leads₁ sets₁ fits
        (λ i q. ap (λ (x : List ℕ). get_or x i 0) (el ∙ gained_by leads t gain eo) ∙ getD_tab 32 (gained_row leads t gain) i 0 q)
        (λ w q. ap (λ (x : List ℕ). get_or x w 0) (es ∙ folded_by sets t s eo) ∙ getD_tab 512 (folded_word sets t s) w 0 q)
        ∙ left_aside (rows_of free [] leads sets) (bit from) s

-- handed on to the slots of a mask, and vacated
left_rows : (free : ℕ) (numbers leads sets : List ℕ) (from s : ℕ) {r : ℕ} {numbers' leads' sets' : List ℕ} → Leaves (links_of free leads sets) (bit from) s leads' sets'
    → (r ≡ bit_or free (2 ^ s)) × (numbers' ≡ put numbers s 0) → rows_of r numbers' leads' sets' ≡ left_at (rows_of free numbers leads sets) (bit from) s
unfolding left_at number_at leads_at word_at open_at
left_rows free numbers leads sets from s l v = rows_same v.0 v.1 l.left_leads l.left_sets

pub leaves : (free : ℕ) (numbers leads sets : List ℕ) (s : ℕ) {r : ℕ} {numbers' leads' sets' : List ℕ} → Leaves (links_of free leads sets) (bit 0) s leads' sets'
    → (r ≡ bit_or free (2 ^ s)) × (numbers' ≡ put numbers s 0) → rows_of r numbers' leads' sets' ≡ abandoned_at (rows_of free numbers leads sets) s
unfolding abandoned_at
leaves free numbers leads sets s l v =
    left_rows free numbers leads sets 0 s l v ∙ left_by (rows_of free numbers leads sets) (λ i. false) s (masked 32 (λ i. false) (lit< tt) (λ k q. bit_zero k))

-- the others that lead to s have taken over
pub slot_ends : (free : ℕ) (numbers leads sets : List ℕ) (s : ℕ) {from r : ℕ} {numbers' leads' sets' : List ℕ} → from ≡ mask_of 32 (leads_to free leads s)
    → Leaves (links_of free leads sets) (bit from) s leads' sets'
    → (r ≡ bit_or free (2 ^ s)) × (numbers' ≡ put numbers s 0) → rows_of r numbers' leads' sets' ≡ ended_at (rows_of free numbers leads sets) s
unfolding ended_at leads_at open_at
slot_ends free numbers leads sets s {from} e l v = left_rows free numbers leads sets from s l v ∙ left_by (rows_of free numbers leads sets) (leads_to free leads s) s e
