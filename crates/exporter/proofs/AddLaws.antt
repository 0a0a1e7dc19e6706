-- The search for the first add, record by record: whether a number tells of one (`tells_add`), and where a search stands that has met none (`Looking`).
-- Assumes nothing.
use mathlib.Core.Path.{◌≡◌, refl, sym, ap, subst, ◌∙◌}
use mathlib.Core.Logic.{◌⊎◌, inl, inr, ⊎_elim}
use mathlib.Core.Bool.{Bool, true, false, cond}
use mathlib.Core.List.{List, [], ◌∷◌}
use Prim.Native.Nat.{ℕ, zero, suc, ◌+◌, ◌*◌, ◌%◌, ◌≤◌, ◌<◌}
use native.Mathlib.Numerals.{add-one}
use native.Mathlib.Omega.{arith}
use lib.ListN.{length, get_or, take}
use lib.Seq.{length-take-le}
use Rattle.std.specs.Prelude.{Some, None}
use Rattle.std.specs.List.{position, position_or_len}
use Rattle.std.proofs.lemmas.List.{get_or-take}
use Rattle.std.proofs.lemmas.List.Quantifiers.{position-Some}
use Rattle.std.proofs.lemmas.List.Sums.{fails_before_first}
use Rattle.std.proofs.lemmas.Option.{none-some}
use borrow.Author.Tests.{lt-ltb}
use Rattle.graph.specs.Decide.{Decides, and_test, le_test, lt_test, answer, test_true, test_false}
use Rattle.history.specs.Events.{read, write, add, Event, opens, steps, ends, abandons, History, opened}
use Rattle.tallies.specs.Jobs.{Tells, Told, Taken}
use Rattle.notation.specs.Answers.{adds, before_adds}
use Rattle.notation.specs.FirstAddLaws.{one_on, add_first}
use Rattle.exporter.specs.Exporter.{add_told}

-- ---- one record

add_test : (x : ℕ) → Decides (add_told x) ((513 ≤ x % 770) × (x % 770 ≤ 768))
unfolding add_told
add_test x = and_test (le_test 513 (x % 770)) (le_test (x % 770) 768)

-- a row past those of adds or before them
other_row : (x i row : ℕ) → x ≡ i * 770 + row + 1 → ((row < 512) ⊎ (767 < row)) → row < 770 → add_told x ≡ false
other_row x i row e o l = test_false (add_test x) (λ r. ⊎_elim (λ a. let p = r.0 in omega arith) (λ a. let p = r.0 in let q = r.1 in omega arith) o)

add_row : (x i c : ℕ) → x ≡ i * 770 + (c + 512) + 1 → c < 256 → add_told x ≡ true
add_row x i c e l = test_true (add_test x) (omega arith, omega arith)

tells_add : (jobs : List ℕ) (e : Event) (x : ℕ) → Tells jobs e x → add_told x ≡ adds e
tells_add jobs (opens j) x p = other_row x p.0 768 p.4 (inr (omega arith)) (omega arith)
tells_add jobs (steps read j c) x p = let l = p.3 in other_row x p.0 c p.4 (inl (omega arith)) (omega arith)
tells_add jobs (steps write j c) x p = let l = p.3 in other_row x p.0 (c + 256) p.4 (inl (omega arith)) (omega arith)
tells_add jobs (steps add j c) x p = add_row x p.0 c p.4 p.3
tells_add jobs (ends j) x p = other_row x p.0 769 p.4 (inr (omega arith)) (omega arith)
tells_add jobs (abandons j) x p = test_false (add_test x) (λ r. let q = r.0 in let e : x ≡ 0 = p in omega arith)

-- ---- the search

none_passes : (p : ℕ → Bool) (xs : List ℕ) → position p xs ≡ None → length xs ≤ position_or_len p xs
none_passes p xs e =
    ⊎_elim (λ l. absurd (none-some _ (sym e ∙ ap (λ (b : Bool). cond b (Some (position_or_len p xs)) None) (lt-ltb (position_or_len p xs) (length xs) l))))
    (λ f. let g : (position_or_len p xs < length xs) → ⊥ = f in omega arith)
    (answer (lt_test (position_or_len p xs) (length xs)))

-- after i records, none of which is an add
record Looking (h : History) (n : ℕ) (told : List ℕ) (i : ℕ) : Type 0 where
  rest : History
  left : i + length rest ≡ n
  tells : Told (opened h) told i rest
  passed : before_adds h ≡ i + before_adds rest

module _ {h : History} {n : ℕ} {told : List ℕ} where
  look_start : {numbers states : List ℕ} {count : ℕ} → Taken h n numbers states told count → Looking h n told 0
  look_start t = record { rest = h; left = let e = t.at in omega arith; tells = t.steps_told; passed = omega arith }

  module _ {i : ℕ} where
    -- the next record is an add; it is not; there is none
    look_found : Looking h n told i → i < n → add_told (get_or told i 0) ≡ true → i ≡ before_adds h
    look_found l q a = go l.rest l.left l.tells l.passed
      where
        go : (g : History) → i + length g ≡ n → Told (opened h) told i g → before_adds h ≡ i + before_adds g → i ≡ before_adds h
        go [] e t p = absurd (omega arith)
        go (v ∷ g) e t p = let z = add_first v g (sym (tells_add (opened h) v (get_or told i 0) t.0) ∙ a) in omega arith

    look_on : Looking h n told i → i < n → add_told (get_or told i 0) ≡ false → Looking h n told (i + 1)
    look_on l q a = subst (Looking h n told) (sym (add-one i)) (go l.rest l.left l.tells l.passed)
      where
        go : (g : History) → i + length g ≡ n → Told (opened h) told i g → before_adds h ≡ i + before_adds g → Looking h n told (suc i)
        go [] e t p = absurd (omega arith)
        go (v ∷ g) e t p =
            let z = one_on v g (sym (tells_add (opened h) v (get_or told i 0) t.0) ∙ a) in
            record { rest = g; left = omega arith; tells = t.1; passed = omega arith }

    look_all : Looking h n told i → n ≤ i → i ≡ before_adds h
    look_all l q = go l.rest l.left l.passed
      where
        go : (g : History) → i + length g ≡ n → before_adds h ≡ i + before_adds g → i ≡ before_adds h
        go [] e p = let z : before_adds [] ≡ 0 = unfold before_adds in refl in omega arith
        go (v ∷ g) e p = absurd (omega arith)

  -- i records of which none is an add
  look_past : {numbers states : List ℕ} {count : ℕ} → Taken h n numbers states told count → (i : ℕ) → i ≤ n → ((k : ℕ) → k < i → add_told (get_or told k 0) ≡ false) → Looking h n told i
  look_past t zero q f = look_start t
  look_past t (suc i) q f = subst (Looking h n told) (add-one i) (look_on (look_past t i (omega arith) (λ k l. f k (omega arith))) (omega arith) (f i (omega arith)))

  -- the place that is found is that of the first add; and where none is found there is none
  pub first_found : {numbers states : List ℕ} {count at : ℕ} → Taken h n numbers states told count → n ≤ 4096 → position add_told (take n told) ≡ Some at → (at ≡ before_adds h) × (at < n)
  first_found {at = at} t q e =
      let p = position-Some add_told (take n told) at 0 e in
      let long : length (take n told) ≡ n = length-take-le n told (omega (arith, t.wide)) in
      let l : at < n = omega (arith, p.0) in
      (look_found (look_past t at (omega arith) (λ k r. ap add_told (sym (get_or-take n told k 0 (omega arith))) ∙ p.2 k r)) l (ap add_told (sym (get_or-take n told at 0 l)) ∙ p.1), l)

  pub none_found : {numbers states : List ℕ} {count : ℕ} → Taken h n numbers states told count → n ≤ 4096 → position add_told (take n told) ≡ None → n ≡ before_adds h
  none_found t q e =
      let long : length (take n told) ≡ n = length-take-le n told (omega (arith, t.wide)) in
      let past : length (take n told) ≤ position_or_len add_told (take n told) = none_passes add_told (take n told) e in
      look_all
      (look_past t n (omega arith) (λ k l. ap add_told (sym (get_or-take n told k 0 l)) ∙ fails_before_first add_told (take n told) k 0 (omega arith)))
      (omega arith)
