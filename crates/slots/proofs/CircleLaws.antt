-- A chain of leads from a slot back to it, once new leads stand: the masks made before that tell it (`circle_law`).
-- Assumes nothing.
use mathlib.Core.Path.{◌≡◌, refl, sym, ap, ◌∙◌, subst}
use mathlib.Core.Logic.{◌⊎◌, inl, inr, ⊎_elim}
use mathlib.Core.Bool.{Bool, true, false, not, ◌&&◌, ◌||◌}
use mathlib.Core.List.{List}
use Prim.Native.Nat.{ℕ, ◌^◌, ◌<◌}
use native.Mathlib.Nat.{lt_of_le_of_lt}
use lib.Bits.{bit_or, bit_and, or_lt, and_le_l, and_le_r}
use lib.Dec.{T, eqb}
use lib.ListN.{get_or}
use Rattle.graph.specs.Decide.{Decides, false_is, own_test, eq_test, not_test, and_test, or_test, read_as, answer, same_test}
use Rattle.graph.specs.Lists.{◌∈◌, only, only_keeps, only_from}
use Rattle.graph.specs.Reach.{reach, reach_test}
use Rattle.graph.specs.Walk.{Via, one, carry, join, relax, cut, into}
use Rattle.marks.specs.Marks.{bit, mask_of, upto}
use Rattle.marks.specs.MarkLaws.{upto_has, upto_from, bit_pow, equal_test, or_bit, and_bit, mask_lt, nonzero_test}
use Rattle.marks.specs.MaskLaws.{bit_of}
use Rattle.history.specs.Events.{Kind}
use Rattle.held.specs.Held.{Held, open_at, open_slots, leads_at, word_at, cell_at, touched, chain_back}
use Rattle.rows.specs.Rows.{is_open, touches}
use Rattle.slots.specs.Finds.{reaches}

-- Leads that all point into the slot s are added, from the slots that are `new`. A chain over open slots from s back to s is then one that was there, or one
-- that was there from s to a slot that is new, or s is new itself.
module _ (free : ℕ) (leads : List ℕ) (s : ℕ) (new : ℕ → Bool) where
  abbrev slots : List ℕ
  slots = only (is_open free) (upto 32)

  abbrev Lead : ℕ → ℕ → Type 0
  Lead i x = T (bit (get_or leads i 0) x)

  abbrev Grown : ℕ → ℕ → Type 0
  Grown i x = Lead i x ⊎ ((x ≡ s) × T (new i))

  abbrev Chain : ℕ → Type 0
  Chain x = Via Lead (λ m. m ∈ slots) s x

  abbrev Back : Type 0
  Back = Chain s ⊎ (T (new s) ⊎ ((m : ℕ) × Chain m × (m ∈ slots) × T (new m)))

  -- a chain that passes s on its way is cut there
  back_out : Via Grown (λ m. m ∈ slots) s s → Back
  back_out w = settle (into (λ a b g. g) (λ r. r.1 refl) (⊎_elim (λ v. v) (λ v. v.0) (cut (relax apart w))))
    where
      Inner : ℕ → Type 0
      Inner m = (m ∈ slots) × (m ≡ s → ⊥)

      apart : (m : ℕ) → m ∈ slots → Inner m ⊎ (m ≡ s)
      apart m i = ⊎_elim inr (λ n. inl (i, n)) (answer (eq_test m s))

      had : {x : ℕ} → Via Lead Inner s x → Chain x
      had v = relax (λ m r. r.0) v

      settle : Via Lead Inner s s ⊎ ((s ≡ s) × (T (new s) ⊎ ((m : ℕ) × Via Lead Inner s m × Inner m × T (new m)))) → Back
      settle (inl v) = inl (had v)
      settle (inr r) = inr (⊎_elim inl (λ v. inr (v.0, had v.1, v.2.0, v.3)) r.1)

  back_in : Back → Via Grown (λ m. m ∈ slots) s s
  back_in (inl w) = carry (λ a b. inl) (λ a m. m) w
  back_in (inr (inl n)) = one (inr (refl, n))
  back_in (inr (inr r)) = join (carry (λ a b. inl) (λ a m. m) r.1) r.2 (one (inr (refl, r.3)))

  back_test : Decides (reach (λ i x. bit (get_or leads i 0) x || (eqb x s && new i)) slots s s) Back
  back_test = read_as (reach_test (λ i x. or_test (own_test (bit (get_or leads i 0) x)) (and_test (eq_test x s) (own_test (new i)))) slots s s) back_out back_in

  slot_test : (x : ℕ) → x < 32 → Decides (is_open free x) (x ∈ slots)
  slot_test x q = record { holds = only_keeps (is_open free) (upto_has q); shows = λ m. (only_from (is_open free) (upto 32) m).1 }

  -- what the code tests, with `seen` the open slots that a chain reaches from s, `into_s` the open ones that are new, and `me` the mark of s
  module _ {seen into_s me : ℕ} (es : seen ≡ mask_of 32 (reaches free leads s)) (et : into_s ≡ mask_of 32 (λ i. is_open free i && new i)) (em : me ≡ 2 ^ s) where
    abbrev tested : ℕ
    tested = bit_or (bit_and seen me) (bit_and (bit_or seen me) into_s)

    -- a mark of it
    abbrev Hit : ℕ → Type 0
    Hit x = (((x ∈ slots) × Chain x) × (x ≡ s)) ⊎ ((((x ∈ slots) × Chain x) ⊎ (x ≡ s)) × ((x ∈ slots) × T (new x)))

    hit_test : (x : ℕ) → x < 32 → Decides (bit tested x) (Hit x)
    hit_test x q =
        or_bit (bit_and seen me) (bit_and (bit_or seen me) into_s) x (and_bit seen me x in_seen in_me)
        (and_bit (bit_or seen me) into_s x (or_bit seen me x in_seen in_me) in_new)
      where
        in_seen : Decides (bit seen x) ((x ∈ slots) × Chain x)
        in_seen = equal_test (bit_of 32 (reaches free leads s) es x q) (and_test (slot_test x q) (reach_test (λ i y. own_test (bit (get_or leads i 0) y)) slots s x))

        in_new : Decides (bit into_s x) ((x ∈ slots) × T (new x))
        in_new = equal_test (bit_of 32 (λ i. is_open free i && new i) et x q) (and_test (slot_test x q) (own_test (new x)))

        in_me : Decides (bit me x) (x ≡ s)
        in_me = equal_test (ap (λ (n : ℕ). bit n x) em ∙ bit_pow s x) (eq_test x s)

    hit_back : (x : ℕ) → Hit x → Back
    hit_back x (inl r) = inl (subst Chain r.1 r.0.1)
    hit_back x (inr r) =
        inr (⊎_elim (λ c. inr (x, c.1, r.1.0, r.1.1)) (λ e. inl (subst (λ (y : ℕ). T (new y)) e r.1.1)) r.0)

    back_hit : s ∈ slots → Back → (x : ℕ) × (x ∈ slots) × Hit x
    back_hit m (inl w) = (s, m, inl ((m, w), refl))
    back_hit m (inr (inl n)) = (s, m, inr (inr refl, (m, n)))
    back_hit m (inr (inr r)) = (r.0, r.2, inr (inl (r.2, r.1), (r.2, r.3)))

    tested_lt : tested < 2 ^ 32
    tested_lt =
        or_lt 32 (bit_and seen me) (bit_and (bit_or seen me) into_s)
        (lt_of_le_of_lt (and_le_l seen me) (subst (λ (n : ℕ). n < 2 ^ 32) (sym es) (mask_lt 32 (reaches free leads s))))
        (lt_of_le_of_lt (and_le_r (bit_or seen me) into_s) (subst (λ (n : ℕ). n < 2 ^ 32) (sym et) (mask_lt 32 (λ i. is_open free i && new i))))

    circle_tested : s < 32 → bit free s ≡ false → reach (λ i x. bit (get_or leads i 0) x || (eqb x s && new i)) slots s s ≡ not (eqb tested 0)
    circle_tested inside was_open =
        same_test back_test (nonzero_test 32 tested tested_lt)
        (λ b.
        let r = back_hit ((slot_test s inside).holds ((not_test (own_test (bit free s))).shows (false_is was_open))) b in
        let q = upto_from 32 (only_from (is_open free) (upto 32) r.1).0 in
        (r.0, q, (hit_test r.0 q).shows r.2))
        (λ r. hit_back r.0 ((hit_test r.0 r.1).holds r.2))

-- the same of a state and a step: who comes to lead to s is told by the sets alone
pub circle_law : (h : Held) (k : Kind) (s c : ℕ) {seen into_s me : ℕ} → seen ≡ mask_of 32 (reaches h.free h.leads s)
    → into_s ≡ mask_of 32 (touches h.free h.sets k s c) → me ≡ 2 ^ s → s < 32 → bit h.free s ≡ false
    → chain_back h k s c ≡ not (eqb (bit_or (bit_and seen me) (bit_and (bit_or seen me) into_s)) 0)
unfolding chain_back open_slots open_at leads_at touched cell_at word_at
circle_law h k s c es et em inside was_open = circle_tested h.free h.leads s (touched h k s c) es et em inside was_open

-- what nobody asks is false, and what is asked is as it is
pub unasked : (a b : Bool) → not a ≡ true → false ≡ a && b
unasked true true e = e
unasked true false e = refl
unasked false b e = refl

pub asked_so : (a b : Bool) → not a ≡ false → b ≡ a && b
asked_so true b e = refl
asked_so false true e = e
asked_so false false e = refl
