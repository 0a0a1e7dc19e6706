-- The search as it is made (`searched`): by halves, turn by turn, so many numbers are left, and what is still to be halved gives what the whole gives; and the guess before it.
-- That it finds the job among numbers that rise is in tallies (FindLaws).
-- Assumes nothing.
use mathlib.Core.Path.{◌≡◌, refl, sym, ap, ◌∙◌}
use mathlib.Core.Logic.{⊎_elim}
use mathlib.Core.Bool.{Bool, true, false, cond}
use mathlib.Core.List.{List}
use Prim.Native.Nat.{ℕ, zero, suc, ◌+◌, ◌-◌, ◌/◌, ◌≤◌, ◌<◌}
use native.Mathlib.Omega.{arith}
use borrow.Author.Tests.{eq-eqb, ne_eqb, lt-ltb, le-ltb, le-leb, lt-leb}
use lib.Dec.{leb, eqb}
use lib.ListN.{get_or}
use Rattle.std.specs.Prelude.{Option, Some, None}
use Rattle.tallies.specs.Jobs.{Finds}
use Rattle.logs.specs.Search.{halved, there, searched}

none_up : (b : Bool) (low : ℕ) → low + cond b 0 0 ≡ low
none_up true low = omega arith
none_up false low = omega arith

-- nothing is left to halve
halved_small : (n : ℕ) (l : List ℕ) (j low size : ℕ) → size ≤ 1 → halved n l j low size ≡ low
halved_small zero l j low size q = refl
halved_small (suc n) l j low size q =
    let z : size / 2 ≡ 0 = omega arith in
    ap (λ (half : ℕ). halved n l j (low + cond (leb (get_or l (low + half) 0) j) half 0) (size - half)) z
    ∙ halved_small n l j (low + cond (leb (get_or l (low + 0) 0) j) 0 0) (size - 0) (omega arith)
    ∙ none_up (leb (get_or l (low + 0) 0) j) low

-- ---- the turns

pub record Turned (l : List ℕ) (j count low size : ℕ) : Type 0 where
  pub left : ℕ
  pub enough : size ≤ left
  pub same : halved left l j low size ≡ halved count l j 0 count

pub turned_start : (l : List ℕ) (j count : ℕ) → Turned l j count 0 count
turned_start l j count = record { left = count; enough = omega arith; same = refl }

pub turned_on : {l : List ℕ} {j count low size : ℕ} → Turned l j count low size → 1 < size → {up : ℕ} → up ≡ cond (leb (get_or l (low + size / 2) 0) j) (size / 2) 0
    → Turned l j count (low + up) (size - size / 2)
turned_on {l} {j} {count} {low} {size} t q {up} e = go t.left t.enough t.same
  where
    go : (n : ℕ) → size ≤ n → halved n l j low size ≡ halved count l j 0 count → Turned l j count (low + up) (size - size / 2)
    go zero b s = absurd (omega arith)
    go (suc n) b s = record { left = n; enough = omega arith; same = ap (λ (k : ℕ). halved n l j (low + k) (size - size / 2)) e ∙ s }

-- ---- what is there

module _ (l : List ℕ) (count j at : ℕ) (other : Option ℕ) where
  there_own : at < count → get_or l at 0 ≡ j → Some at ≡ there l count j at other
  there_own q e =
      sym (ap (λ (b : Bool). cond b (cond (eqb (get_or l at 0) j) (Some at) other) other) (lt-ltb at count q) ∙ ap (λ (b : Bool). cond b (Some at) other) (eq-eqb (get_or l at 0) j e))

  there_other : at < count → (get_or l at 0 ≡ j → ⊥) → other ≡ there l count j at other
  there_other q f =
      sym (ap (λ (b : Bool). cond b (cond (eqb (get_or l at 0) j) (Some at) other) other) (lt-ltb at count q) ∙ ap (λ (b : Bool). cond b (Some at) other) (ne_eqb (get_or l at 0) j f))

  there_past : count ≤ at → other ≡ there l count j at other
  there_past q = sym (ap (λ (b : Bool). cond b (cond (eqb (get_or l at 0) j) (Some at) other) other) (le-ltb at count q))

-- what is found nowhere
pub none_found : (count : ℕ) (l : List ℕ) (j : ℕ) → Finds count l j count → (i : ℕ) → i < count → get_or l i 0 ≡ j → ⊥
none_found count l j f = ⊎_elim (λ (q : (count < count) × (get_or l count 0 ≡ j)). absurd (omega arith)) (λ (q : (count ≡ count) × ((i : ℕ) → i < count → get_or l i 0 ≡ j → ⊥)). q.1) f

-- at most one number is left: it is the job's, or another, or there is none
module _ {l : List ℕ} {j count low size : ℕ} (t : Turned l j count low size) (one : size ≤ 1) where
  ends : there l count j low None ≡ there l count j (halved count l j 0 count) None
  ends = ap (λ (at : ℕ). there l count j at None) (sym (halved_small t.left l j low size one) ∙ t.same)

  pub ends_own : low < count → get_or l low 0 ≡ j → Some low ≡ there l count j (halved count l j 0 count) None
  ends_own q e = there_own l count j low None q e ∙ ends

  pub ends_other : low < count → (get_or l low 0 ≡ j → ⊥) → None ≡ there l count j (halved count l j 0 count) None
  ends_other q f = there_other l count j low None q f ∙ ends

  pub ends_past : count ≤ low → None ≡ there l count j (halved count l j 0 count) None
  ends_past q = there_past l count j low None q ∙ ends

-- ---- the guess

module _ (l : List ℕ) (count j : ℕ) where
  abbrev halves : Option ℕ
  halves = there l count j (halved count l j 0 count) None

  abbrev guess : ℕ
  guess = j - get_or l 0 0

  guessed : get_or l 0 0 ≤ j → there l count j guess halves ≡ searched l count j
  guessed q = sym (ap (λ (b : Bool). cond b (there l count j guess halves) halves) (le-leb (get_or l 0 0) j q))

  -- it is right
  pub searched_own : get_or l 0 0 ≤ j → guess < count → get_or l guess 0 ≡ j → Some guess ≡ searched l count j
  searched_own q p e = there_own l count j guess halves p e ∙ guessed q

  -- there is none; it is past the table; or it is another: then by halves
  module _ {r : Option ℕ} (e : r ≡ there l count j (halved count l j 0 count) None) where
    pub searched_low : j < get_or l 0 0 → r ≡ searched l count j
    searched_low q = e ∙ sym (ap (λ (b : Bool). cond b (there l count j guess halves) halves) (lt-leb (get_or l 0 0) j q))

    pub searched_past : get_or l 0 0 ≤ j → count ≤ guess → r ≡ searched l count j
    searched_past q p = e ∙ there_past l count j guess halves p ∙ guessed q

    pub searched_other : get_or l 0 0 ≤ j → guess < count → (get_or l guess 0 ≡ j → ⊥) → r ≡ searched l count j
    searched_other q p f = e ∙ there_other l count j guess halves p f ∙ guessed q
