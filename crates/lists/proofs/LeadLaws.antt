-- A set of jobs that grows along the precedences. In order: one job more is looked at (`leading_turn`, `grown_turn`); one pass after another (`leading_on`); after a pass the
-- set has fewer marks to gain (`gains_less`).
-- Assumes nothing.
use mathlib.Core.Path.{◌≡◌, refl, sym, ap, subst, subst₂, ◌∙◌}
use mathlib.Core.Logic.{◌⊎◌, inl, inr, ⊎_elim}
use mathlib.Core.Bool.{Bool, true, false, ◌||◌, cond}
use mathlib.Core.List.{List}
use Rattle.std.proofs.Math.Bool.{or-false}
use Prim.Native.Nat.{ℕ, zero, suc, ◌+◌, ◌≤◌, ◌<◌}
use native.Mathlib.Omega.{arith}
use lib.Dec.{eqb}
use Rattle.std.specs.Prelude.{Option, None, Some, is_some}
use Rattle.graph.specs.Decide.{is_true, true_is, false_is, own_test, eq_test, or_test, answer, test_true}
use Rattle.tallies.specs.Marks.{mark, in_row, Put}
use Rattle.lists.specs.Sheets.{CommonOf, LedOn, put_in, stays_out, Leading, Grown}

-- ---- one job more

-- a Bool is not both
pub apart : {A : Type 0} {b : Bool} → b ≡ true → b ≡ false → A
apart p q = absurd (false_is q (true_is p))

unset : (b : Bool) → (b ≡ true → ⊥) → b ≡ false
unset true f = absurd (f refl)
unset false f = refl

-- a mark that is there was there or is the new one
was_or_is : (job : ℕ) (words words' : List ℕ) → Put job words words' → (i : ℕ) → mark words' i ≡ true → (mark words i ≡ true) ⊎ (i ≡ job)
was_or_is job words words' put i m =
    ⊎_elim (λ t. inl (is_true {b = mark words i} t)) inr ((or_test (own_test (mark words i)) (eq_test i job)).holds (true_is (sym (put i) ∙ m)))

-- no job of the set precedes it, or one does, and it is put
pub led_none : {preds words : List ℕ} {job : ℕ} (o : Option ℕ) → is_some o ≡ false → CommonOf preds job words o → LedOn preds job words words false
led_none None e none = stays_out refl (λ i q m r. apart r (none i q m))
led_none (Some k) e c = apart refl e

pub led_some : {preds words words' : List ℕ} {job : ℕ} (o : Option ℕ) → is_some o ≡ true → mark words job ≡ false → CommonOf preds job words o → Put job words words'
    → LedOn preds job words words' true
led_some None e out none put = apart e refl
led_some (Some k) e out c put = put_in k out c.0 c.1 c.2 put

-- no job was looked at yet, in a pass and in all passes
pub leading_start : (preds : List ℕ) (count : ℕ) (words : List ℕ) → Leading preds count 0 words words false
leading_start preds count words = record { stays = λ i q m. m; least = λ s has passes i q m. has i q m; closed = λ e j i q. absurd (omega arith) }

pub leading_first : (preds : List ℕ) (count upto : ℕ) (words : List ℕ) → Leading preds count upto words words true
leading_first preds count upto words = record { stays = λ i q m. m; least = λ s has passes i q m. has i q m; closed = λ e j i q p m r. apart refl e }

or-true : (b : Bool) → b || true ≡ true
or-true true = refl
or-true false = refl

module _ {preds : List ℕ} {count job : ℕ} {first words : List ℕ} {more : Bool} (l : Leading preds count job first words more) where
  pub leading_turn : job < count → {words' : List ℕ} {r : Bool} → LedOn preds job words words' r → Leading preds count (job + 1) first words' (more || r)
  leading_turn q {words'} (put_in k out inside m led put) =
      record {
        stays = λ i p n. put i ∙ ap (λ (b : Bool). b || eqb i job) (l.stays i p n);
        least = λ s has passes i p n.
            ⊎_elim (λ o. l.least s has passes i p o) (λ e. ap s e ∙ passes job k q inside (l.least s has passes k inside m) led) (was_or_is job words words' put i n);
        closed = λ e j i p o n d. apart (or-true more) e;
      }
  leading_turn q (stays_out same need) =
      subst₂ (Leading preds count (job + 1) first) (sym same) (sym (or-false more))
      (record {
        stays = l.stays;
        least = l.least;
        closed = λ e j i p o n d. ⊎_elim (λ z. ap (mark words) z ∙ need i o n (subst (λ (x : ℕ). in_row preds x i ≡ true) z d)) (λ z. l.closed e j i (omega (arith, z)) o n d) (answer (eq_test j job));
      })

  pub grown_turn : job < 512 → Grown first words more → {words' : List ℕ} {r : Bool} → LedOn preds job words words' r → Grown first words' (more || r)
  grown_turn p g (put_in k out inside m led put) = λ e. (
    job,
    p,
    unset (mark first job) (λ n. apart (l.stays job p n) out),
    put job ∙ ap (λ (b : Bool). mark words job || b) (test_true (eq_test job job) refl) ∙ or-true (mark words job),
  )
  grown_turn p g (stays_out same need) = subst₂ (Grown first) (sym same) (sym (or-false more)) g

-- ---- one pass after another

pub leading_on : {preds : List ℕ} {count : ℕ} {first words words' : List ℕ} {more r : Bool} → Leading preds count count first words more → Leading preds count count words words' r
    → Leading preds count count first words' r
leading_on l k =
    record {
      stays = λ i q m. k.stays i q (l.stays i q m);
      least = λ s has passes. k.least s (l.least s has passes) passes;
      closed = k.closed;
    }

-- ---- the marks that the set can still gain

unmarked : List ℕ → ℕ → ℕ
unmarked words zero = 0
unmarked words (suc n) = cond (mark words n) 0 1 + unmarked words n

less : (a b : Bool) → (a ≡ true → b ≡ true) → cond b 0 1 ≤ cond a 0 1
less true true f = omega arith
less true false f = apart (f refl) refl
less false true f = omega arith
less false false f = omega arith

new : (a b : Bool) → a ≡ false → b ≡ true → cond b 0 1 < cond a 0 1
new true b e f = apart refl e
new false true e f = omega arith
new false false e f = apart f refl

unmarked_le : (words words' : List ℕ) (n : ℕ) → ((i : ℕ) → i < n → mark words i ≡ true → mark words' i ≡ true) → unmarked words' n ≤ unmarked words n
unfolding unmarked
unmarked_le words words' zero f = omega arith
unmarked_le words words' (suc n) f =
    let a = less (mark words n) (mark words' n) (f n (omega arith)) in
    let b = unmarked_le words words' n (λ i q. f i (omega arith)) in
    omega arith

unmarked_lt : (words words' : List ℕ) (n : ℕ) → ((i : ℕ) → i < n → mark words i ≡ true → mark words' i ≡ true) → (k : ℕ) → k < n → mark words k ≡ false → mark words' k ≡ true
    → unmarked words' n < unmarked words n
unfolding unmarked
unmarked_lt words words' zero f k q out m = absurd (omega arith)
unmarked_lt words words' (suc n) f k q out m = go (answer (eq_test k n)) (λ p. unmarked_lt words words' n (λ i o. f i (omega arith)) k p out m)
  where
    go : (k ≡ n) ⊎ (k ≡ n → ⊥) → (k < n → unmarked words' n < unmarked words n) → cond (mark words' n) 0 1 + unmarked words' n < cond (mark words n) 0 1 + unmarked words n
    go (inl e) rec =
        let a = new (mark words n) (mark words' n) (ap (mark words) (sym e) ∙ out) (ap (mark words') (sym e) ∙ m) in
        let b = unmarked_le words words' n (λ i o. f i (omega arith)) in
        omega arith
    go (inr g) rec =
        let a = less (mark words n) (mark words' n) (f n (omega arith)) in
        let b = rec (omega (arith, g)) in
        omega arith

-- how many, and one more while the set is to be gone through again
pub to_gain : List ℕ → Bool → ℕ
to_gain words more = cond more 1 0 + unmarked words 512

pub gains_less : {preds : List ℕ} {count : ℕ} {words words' : List ℕ} (r : Bool) → Leading preds count count words words' r → Grown words words' r → to_gain words' r < to_gain words true
unfolding to_gain
gains_less {words = words} {words'} true l g = let k = g refl in let a = unmarked_lt words words' 512 l.stays k.0 k.1 k.2 k.3 in omega arith
gains_less {words = words} {words'} false l g = let a = unmarked_le words words' 512 l.stays in omega arith
