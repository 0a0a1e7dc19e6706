-- The records of bytes: how many there are, which one stands at a place, and what is left from a place on.
--
-- In order: a list of any type; bytes, eight by eight (`by_eights`); how many records there are, the first of them, and the one at a place; the eight bytes
-- from a place on, as code reads them one by one.
-- Assumes nothing.
use Rattle.std.specs.Prelude.{◌≡◌, refl, List, [], ◌∷◌, ℕ, zero, suc, ◌+◌, ◌*◌, ◌/◌, ◌≤◌, ◌<◌, length, get_or, take, drop}
use Rattle.std.proofs.Common.{sym, ap, ap₂, ◌∙◌, add-zero, arith, lit<, length-drop, drop-drop, get_or-drop}
use Rattle.std.proofs.Math.Option.{Option, none, some, none-ne-some, some-injective}
use Rattle.std.proofs.Math.ListN.{get_elem?}
use Rattle.history.specs.Formats.{records, request_of}
use Rattle.history.specs.Replies.{Request}

-- ---- a list of any type

module _ {ℓ} {A : Type ℓ} where
  -- where something stands at a place, what is left from there on begins with it
  pub drop_record : (l : List A) (n : ℕ) {r : A} → get_elem? l n ≡ some r → drop n l ≡ r ∷ drop (suc n) l
  drop_record [] n {r} e = absurd (none-ne-some r e)
  drop_record (a ∷ l) zero {r} e = ap {B = List A} (λ x. x ∷ l) (some-injective a r e)
  drop_record (a ∷ l) (suc n) e = drop_record l n e

  -- where nothing stands, nothing is left
  pub drop_none : (l : List A) (n : ℕ) → get_elem? l n ≡ none → drop n l ≡ []
  drop_none [] zero e = refl
  drop_none [] (suc n) e = refl
  drop_none (a ∷ l) zero e = absurd (none-ne-some a (sym e))
  drop_none (a ∷ l) (suc n) e = drop_none l n e

  -- past the end nothing stands
  past_all : (l : List A) (n : ℕ) → length l ≤ n → get_elem? l n ≡ none
  past_all [] n h = refl
  past_all (a ∷ l) zero h = absurd (omega arith)
  past_all (a ∷ l) (suc n) h = past_all l n (omega arith)

-- ---- bytes, eight by eight

-- what holds of fewer than eight bytes, and of eight more where it holds of the rest, holds of all
by_eights : (P : List ℕ → Type 0) → ((b : List ℕ) → length b < 8 → P b) → ((k z c d i j m n : ℕ) (b : List ℕ) → P b → P (k ∷ z ∷ c ∷ d ∷ i ∷ j ∷ m ∷ n ∷ b))
    → (b : List ℕ) → P b
by_eights P f g (k ∷ z ∷ c ∷ d ∷ i ∷ j ∷ m ∷ n ∷ b) = g k z c d i j m n b (by_eights P f g b)
by_eights P f g [] = f [] (lit< tt)
by_eights P f g (k ∷ []) = f (k ∷ []) (lit< tt)
by_eights P f g (k ∷ z ∷ []) = f (k ∷ z ∷ []) (lit< tt)
by_eights P f g (k ∷ z ∷ c ∷ []) = f (k ∷ z ∷ c ∷ []) (lit< tt)
by_eights P f g (k ∷ z ∷ c ∷ d ∷ []) = f (k ∷ z ∷ c ∷ d ∷ []) (lit< tt)
by_eights P f g (k ∷ z ∷ c ∷ d ∷ i ∷ []) = f (k ∷ z ∷ c ∷ d ∷ i ∷ []) (lit< tt)
by_eights P f g (k ∷ z ∷ c ∷ d ∷ i ∷ j ∷ []) = f (k ∷ z ∷ c ∷ d ∷ i ∷ j ∷ []) (lit< tt)
by_eights P f g (k ∷ z ∷ c ∷ d ∷ i ∷ j ∷ m ∷ []) = f (k ∷ z ∷ c ∷ d ∷ i ∷ j ∷ m ∷ []) (lit< tt)

-- fewer than eight are no record
pub no_record : (b : List ℕ) → length b < 8 → records b ≡ []
no_record (k ∷ z ∷ c ∷ d ∷ i ∷ j ∷ m ∷ n ∷ b) h = absurd (omega arith)
no_record [] h = refl
no_record (k ∷ []) h = refl
no_record (k ∷ z ∷ []) h = refl
no_record (k ∷ z ∷ c ∷ []) h = refl
no_record (k ∷ z ∷ c ∷ d ∷ []) h = refl
no_record (k ∷ z ∷ c ∷ d ∷ i ∷ []) h = refl
no_record (k ∷ z ∷ c ∷ d ∷ i ∷ j ∷ []) h = refl
no_record (k ∷ z ∷ c ∷ d ∷ i ∷ j ∷ m ∷ []) h = refl

-- ---- records

-- as many as there are eights of bytes
pub records_length : (b : List ℕ) → length (records b) ≡ length b / 8
records_length = by_eights (λ b. length (records b) ≡ length b / 8) (λ b q. let e = ap length (no_record b q) in omega arith) (λ k z c d i j m n b e. omega arith)

-- the first is that of the first eight bytes
pub first_record : (b : List ℕ) → 8 ≤ length b → records b ≡ request_of (take 8 b) ∷ records (drop 8 b)
unfolding request_of
first_record = by_eights (λ b. 8 ≤ length b → records b ≡ request_of (take 8 b) ∷ records (drop 8 b)) (λ b q h. absurd (omega arith)) (λ k z c d i j m n b e h. refl)

-- the one at a place inside; past the last one there is none
pub record_there : (b : List ℕ) (p : ℕ) → p < length b / 8 → get_elem? (records b) p ≡ some (request_of (drop (p * 8) b))
unfolding request_of
record_there = by_eights There (λ b q p h. absurd (omega arith)) more
  where
    There : List ℕ → Type 0
    There b = (p : ℕ) → p < length b / 8 → get_elem? (records b) p ≡ some (request_of (drop (p * 8) b))

    eight_more : (p : ℕ) → suc p * 8 ≡ suc (suc (suc (suc (suc (suc (suc (suc (p * 8))))))))
    eight_more p = omega arith

    more : (k z c d i j m n : ℕ) (b : List ℕ) → There b → There (k ∷ z ∷ c ∷ d ∷ i ∷ j ∷ m ∷ n ∷ b)
    more k z c d i j m n b e zero h = refl
    more k z c d i j m n b e (suc p) h =
        e p (omega arith) ∙ ap {B = Option Request} (λ (at : ℕ). some (request_of (drop at (k ∷ z ∷ c ∷ d ∷ i ∷ j ∷ m ∷ n ∷ b)))) (sym (eight_more p))

pub record_none : (b : List ℕ) (p : ℕ) → length b / 8 ≤ p → get_elem? (records b) p ≡ none
record_none b p h = past_all (records b) p (omega (arith, records_length b))

-- ---- eight bytes read one by one

abbrev pub eight : List ℕ → ℕ → List ℕ
eight b at =
    get_or b at 0 ∷ get_or b (at + 1) 0 ∷ get_or b (at + 2) 0 ∷ get_or b (at + 3) 0 ∷ get_or b (at + 4) 0 ∷ get_or b (at + 5) 0 ∷ get_or b (at + 6) 0 ∷ get_or b (at + 7) 0 ∷ []

-- are the eight from there on
pub eight_out : (b : List ℕ) (at : ℕ) → at + 8 ≤ length b → eight b at ≡ take 8 (drop at b)
eight_out b at h = simp (get_or-drop, add-zero) at (first_eight (drop at b) (simp length-drop (omega arith)))
  where
    one_by_one : List ℕ → List ℕ
    one_by_one b = get_or b 0 0 ∷ get_or b 1 0 ∷ get_or b 2 0 ∷ get_or b 3 0 ∷ get_or b 4 0 ∷ get_or b 5 0 ∷ get_or b 6 0 ∷ get_or b 7 0 ∷ []

    first_eight : (b : List ℕ) → 8 ≤ length b → one_by_one b ≡ take 8 b
    first_eight = by_eights (λ b. 8 ≤ length b → one_by_one b ≡ take 8 b) (λ b q h. absurd (omega arith)) (λ k z c d i j m n b e h. refl)

-- and make the next record
pub next_record : (b : List ℕ) (at : ℕ) → at + 8 ≤ length b → records (drop at b) ≡ request_of (eight b at) ∷ records (drop (at + 8) b)
next_record b at h =
    first_record (drop at b) (simp length-drop (omega arith)) ∙ ap₂ (λ (x y : List ℕ). request_of x ∷ records y) (sym (eight_out b at h)) (drop-drop 8 at b)
