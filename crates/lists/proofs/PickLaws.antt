-- The entries of an order that pass a test, put one after the other into a list.
-- Assumes nothing.
use mathlib.Core.Path.{◌≡◌, refl, sym, ap, ◌∙◌}
use mathlib.Core.Bool.{Bool, true, false, cond}
use mathlib.Core.List.{List, [], ◌∷◌, ◌++◌, append-nil}
use Prim.Native.Nat.{ℕ, ◌+◌, ◌<◌}
use native.Mathlib.Numerals.{add-one}
use lib.ListN.{length, get_or, take, set}
use lib.Seq.{take-suc, take-suc-set}
use Rattle.graph.specs.Lists.{only, only_append}
use Rattle.tallies.specs.MarkLaws.{count_one, count_none}
use Rattle.lists.specs.Sheets.{Picked}

-- the first n entries of the list are those of the first i of the order that pass
pub record Picking (p : ℕ → Bool) (order : List ℕ) (i : ℕ) (sheet : List ℕ) (n : ℕ) : Type 0 where
  pub many : n ≡ length (only p (take i order))
  pub stand : take n sheet ≡ only p (take i order)

pub picking_start : (p : ℕ → Bool) (order sheet : List ℕ) → Picking p order 0 sheet 0
picking_start p order sheet = record { many = refl; stand = refl }

-- one entry more
more : (p : ℕ → Bool) (l : List ℕ) (i : ℕ) → i < length l → only p (take (i + 1) l) ≡ only p (take i l) ++ cond (p (get_or l i 0)) (get_or l i 0 ∷ []) []
more p l i q = ap (only p) (ap (λ (m : ℕ). take m l) (add-one i) ∙ take-suc l i 0 q) ∙ only_append p (take i l) (get_or l i 0 ∷ [])

module _ {p : ℕ → Bool} {order sheet : List ℕ} {i n : ℕ} (k : Picking p order i sheet n) (q : i < length order) where
  pub picking_one : n < length sheet → p (get_or order i 0) ≡ true → Picking p order (i + 1) (set sheet n (get_or order i 0)) (n + 1)
  picking_one r e =
      record {
        many = ap (λ (m : ℕ). m + 1) k.many ∙ sym (count_one p order i q e);
        stand = ap (λ (m : ℕ). take m (set sheet n (get_or order i 0))) (add-one n) ∙ take-suc-set sheet n (get_or order i 0) r
            ∙ ap (λ (l : List ℕ). l ++ get_or order i 0 ∷ []) k.stand
            ∙ sym (more p order i q ∙ ap (λ (b : Bool). only p (take i order) ++ cond b (get_or order i 0 ∷ []) []) e);
      }

  pub picking_none : p (get_or order i 0) ≡ false → Picking p order (i + 1) sheet n
  picking_none e =
      let z = more p order i q ∙ ap (λ (b : Bool). only p (take i order) ++ cond b (get_or order i 0 ∷ []) []) e ∙ append-nil (only p (take i order)) in
      record { many = k.many ∙ sym (count_none p order i q e); stand = k.stand ∙ sym z }

pub picking_end : {p : ℕ → Bool} {order sheet : List ℕ} {i n : ℕ} → Picking p order i sheet n → Picked p order i sheet
picking_end {sheet = sheet} k = ap (λ (m : ℕ). take m sheet) (sym k.many) ∙ k.stand
