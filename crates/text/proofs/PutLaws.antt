-- The digits of a number, put from the last on.
-- Assumes nothing.
use mathlib.Core.Path.{◌≡◌, refl, sym, ap, ◌∙◌}
use mathlib.Core.List.{List, [], ◌∷◌, ◌++◌, append_assoc}
use Prim.Native.Nat.{ℕ, suc, ◌+◌, ◌-◌, ◌/◌, ◌%◌, ◌≤◌, ◌<◌}
use native.Mathlib.Numerals.{add-one}
use native.Mathlib.Omega.{arith}
use lib.ListN.{length, take, drop, set, length-set, take-append-drop}
use lib.Seq.{drop-set-lt, drop-cons, get_or-set_same, take-set-le}
use Rattle.text.specs.Decimal.{glyph, decimal}
use Rattle.text.specs.DecimalLaws.{last_of, decimal_last}
use Rattle.text.specs.Lays.{Lays}
use Rattle.text.specs.LaysLaws.{laid}

-- the digits that are still to write, with what stands from the place on, make the whole
pub record Spelled (whole : List ℕ) (at : ℕ) (out₀ out : List ℕ) (i rest : ℕ) : Type 0 where
  pub before : take at out ≡ take at out₀
  pub done : last_of (i - at) rest ++ drop i out ≡ whole
  pub same : length out ≡ length out₀

pub spelled_first : (n at end : ℕ) (out : List ℕ) → end ≡ at + length (decimal n) → Spelled (decimal n ++ drop end out) at out out end n
spelled_first n at end out e =
    let k : end - at ≡ length (decimal n) = omega arith in
    record {
      before = refl;
      done = ap (λ (j : ℕ). last_of j n ++ drop end out) k ∙ ap (λ (x : List ℕ). x ++ drop end out) (sym (decimal_last n));
      same = refl;
    }

stored : (out : List ℕ) (i b : ℕ) → i < length out → drop i (set out i b) ≡ b ∷ drop (i + 1) out
stored out i b h =
    drop-cons (set out i b) i 0 (rw length-set h)
    ∙ ap (λ (x : ℕ). x ∷ drop (suc i) (set out i b)) (get_or-set_same out i b 0 h)
    ∙ ap (λ (l : List ℕ). b ∷ l) (drop-set-lt (suc i) out i b (omega arith))
    ∙ ap (λ (k : ℕ). b ∷ drop k out) (sym (add-one i))

-- a turn, with the last digit as the code has it
pub spelled_next : {whole : List ℕ} {at : ℕ} {out₀ out : List ℕ} {i rest : ℕ} → Spelled whole at out₀ out i rest → at < i → i ≤ length out
    → Spelled whole at out₀ (set out (i - 1) (glyph (rest % 10))) (i - 1) (rest / 10)
spelled_next {whole} {at} {out₀} {out} {i} {rest} p more h =
    let b = glyph (rest % 10) in
    let s : i - 1 + 1 ≡ i = omega arith in
    let k : i - 1 - at + 1 ≡ i - at = omega arith in
    let before = last_of (i - 1 - at) (rest / 10) in
    record {
      before = take-set-le at out (i - 1) b (omega arith) ∙ p.before;
      done =
          ap (λ (x : List ℕ). before ++ x) (stored out (i - 1) b (omega arith) ∙ ap (λ (j : ℕ). b ∷ drop j out) s)
          ∙ sym (append_assoc before (glyph (rest % 10) ∷ []) (drop i out))
          ∙ ap (λ (j : ℕ). last_of j rest ++ drop i out) (sym (add-one (i - 1 - at)) ∙ k)
          ∙ p.done;
      same = length-set out (i - 1) b ∙ p.same;
    }

pub spelled_all : (n at end : ℕ) {out₀ out : List ℕ} {i rest : ℕ} → Spelled (decimal n ++ drop end out₀) at out₀ out i rest → i ≡ at
    → end ≡ at + length (decimal n) → end ≤ length out₀ → Lays at (decimal n) out₀ out end
spelled_all n at end {out₀} {out} {i} {rest} p here e h =
    let none : i - at ≡ 0 = omega arith in
    let back = ap (λ (k : ℕ). drop k out) (sym here) ∙ ap (λ (k : ℕ). last_of k rest ++ drop i out) (sym none) ∙ p.done in
    laid at (decimal n) out₀ out end e h
    (sym (take-append-drop at out) ∙ ap (λ (l : List ℕ). l ++ drop at out) p.before ∙ ap (λ (l : List ℕ). take at out₀ ++ l) back
    ∙ sym (append_assoc (take at out₀) (decimal n) (drop end out₀)))
