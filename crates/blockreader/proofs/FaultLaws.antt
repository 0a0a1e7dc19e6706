-- The faults of a block, from what the code tests.
-- Assumes nothing.
use mathlib.Core.Path.{◌≡◌, refl, sym, ap, ap₂, subst, ◌∙◌}
use mathlib.Core.Bool.{Bool, true, false, not, ◌||◌, ◌&&◌, cond}
use mathlib.Core.Option.{none, some}
use mathlib.Core.List.{List, [], ◌∷◌, ◌++◌}
use Prim.Native.Nat.{ℕ, zero, suc, ◌+◌, ◌*◌, ◌/◌, ◌%◌, ◌≤◌, ◌<◌}
use native.Mathlib.Omega.{arith}
use borrow.Author.Tests.{lt-ltb, le-ltb, eq-eqb, ne_eqb, not-false}
use lib.Dec.{ltb, eqb}
use lib.ListN.{length, get_or, take, drop, replicate, length-drop, take-append-drop}
use lib.Seq.{take_all, get_or-take, get_or-drop, drop-drop}
use Rattle.graph.specs.Decide.{every_of, test_true, true_is}
use Rattle.history.specs.Formats.{bytes_of}
use Rattle.blocks.specs.Blocks.{sums, count_in, count_wrong, fault, fault_in}
use Rattle.blocks.specs.SoundLaws.{Count}
use Rattle.blocks.proofs.SoundLaws.{zeros_test, count_holds, count_shows, count_most, fault_none, wrong_sums, wrong_form}
use Rattle.blocks.specs.WordLaws.{word_of_bytes}
use Rattle.std.specs.List.{list_any}
use Rattle.std.proofs.lemmas.Bool.Decides.{nat_tests}
use Rattle.sums.specs.Sums.{WordAt, AddsUp}
use Rattle.sums.specs.ByteLaws.{four_out, same_number, sums_of, drop_take}
use Rattle.sums.specs.declared.Sums.{Sums}

-- ---- the count

module _ (n k c : ℕ) where
  pub count_before : suc k < n → not (eqb c 62) ≡ count_wrong n k c
  count_before l = sym (ap (λ (b : Bool). cond b (not (eqb c 62)) (eqb c 0 || ltb (cond (eqb k 66) 4 62) c)) (lt-ltb (suc k) n l))

  module _ (last : n ≤ suc k) where
    count_last : (eqb c 0 || ltb (cond (eqb k 66) 4 62) c) ≡ count_wrong n k c
    count_last = sym (ap (λ (b : Bool). cond b (not (eqb c 62)) (eqb c 0 || ltb (cond (eqb k 66) 4 62) c)) (le-ltb (suc k) n last))

    pub count_empty : c ≡ 0 → true ≡ count_wrong n k c
    count_empty e = sym (ap (λ (b : Bool). b || ltb (cond (eqb k 66) 4 62) c) (eq-eqb c 0 e)) ∙ count_last

    pub count_many : (c ≡ 0 → ⊥) → k ≡ 66 → ltb 4 c ≡ count_wrong n k c
    count_many f e = sym (ap₂ (λ (x y : Bool). x || ltb (cond y 4 62) c) (ne_eqb c 0 f) (eq-eqb k 66 e)) ∙ count_last

    pub count_full : (c ≡ 0 → ⊥) → (k ≡ 66 → ⊥) → ltb 62 c ≡ count_wrong n k c
    count_full f e = sym (ap₂ (λ (x y : Bool). x || ltb (cond y 4 62) c) (ne_eqb c 0 f) (ne_eqb k 66 e)) ∙ count_last

-- ---- the block

-- whether any byte is not zero
pub any_used : (l : List ℕ) → list_any (λ x. not (eqb x 0)) l ≡ not (every_of (eqb 0) l)
any_used [] = refl
any_used (zero ∷ l) = any_used l
any_used (suc x ∷ l) =
    let a : eqb (suc x) 0 ≡ false = ne_eqb (suc x) 0 (λ e. omega arith) in
    let b : eqb 0 (suc x) ≡ false = ne_eqb 0 (suc x) (λ e. omega arith) in
    rw (a, b) refl

getD_zeros : (n i : ℕ) → get_or {A = ℕ} (replicate n 0) i 0 ≡ 0
getD_zeros zero i = refl
getD_zeros (suc n) zero = refl
getD_zeros (suc n) (suc i) = getD_zeros n i

module _ (n k : ℕ) (b : List ℕ) (long : length b ≡ 512) where
  -- the two sums that were added up, and the two words that stand for them
  module _ (s t : Sums) (added : AddsUp (take 504 b) t.first t.second) (first : WordAt b 504 s.first) (second : WordAt b 508 s.second) where
    stand : bytes_of 4 s.first ++ bytes_of 4 s.second ≡ drop 504 b
    stand =
        let last : length (drop 508 b) ≤ 4 = simp length-drop (omega arith) in
        ap₂ (λ (l m : List ℕ). l ++ m) (first.there (omega arith)) (second.there (omega arith) ∙ take_all 4 (drop 508 b) last ∙ sym (drop-drop 4 504 b)) ∙ take-append-drop 4 (drop 504 b)

    pub both_right : false ≡ not (eqb s.first t.first && eqb s.second t.second) → drop 504 b ≡ sums (take 504 b)
    both_right e =
        let x : s.first ≡ t.first = grind (arith, nat_tests) in
        let y : s.second ≡ t.second = grind (arith, nat_tests) in
        sym stand ∙ ap₂ (λ (i j : ℕ). bytes_of 4 i ++ bytes_of 4 j) x y ∙ sums_of added

    -- what the two say is known by its bytes
    pub one_wrong : true ≡ not (eqb s.first t.first && eqb s.second t.second) → fault_in n k b ≡ some (fault 22 k)
    one_wrong f =
        wrong_sums n k b
        (λ e.
        let same = stand ∙ e ∙ sym (sums_of added) in
        let x : s.first ≡ t.first = same_number s.first t.first first.small (omega (arith, added.of_words)) (ap (take 4) same) in
        let y : s.second ≡ t.second = same_number s.second t.second second.small (omega (arith, added.of_sums)) (ap (drop 4) same) in
        grind (arith, nat_tests))

  module _ (right : drop 504 b ≡ sums (take 504 b)) where
    pub number_wrong : (x : ℕ) → WordAt b 0 x → k < 4294967296 → (x ≡ k → ⊥) → fault_in n k b ≡ some (fault 23 k)
    number_wrong x w fk f = wrong_form n k b right (λ s. f (same_number x k w.small fk (w.there (omega arith) ∙ s.number_right)))

    -- the count with the two zero bytes above it
    module _ (c : ℕ) (w : WordAt b 4 c) where
      is : bytes_of 4 c ≡ take 4 (drop 4 b)
      is = w.there (omega arith)

      bytes_in : bytes_of 4 c ≡ get_or b 4 0 ∷ get_or b 5 0 ∷ get_or b 6 0 ∷ get_or b 7 0 ∷ []
      bytes_in = is ∙ sym (four_out b 4 (omega arith))

      -- where those are zero it is the count
      zero_count : (let z = take 2 (drop 6 b) in z ≡ replicate (length z) 0) → c ≡ count_in b
      zero_count z =
          let z6 : get_or b 6 0 ≡ 0 = sym (get_or-take 2 (drop 6 b) 0 0 (omega arith) ∙ get_or-drop 6 b 0 0) ∙ ap (λ (l : List ℕ). get_or l 0 0) z ∙ getD_zeros (length (take 2 (drop 6 b))) 0 in
          let z7 : get_or b 7 0 ≡ 0 = sym (get_or-take 2 (drop 6 b) 1 0 (omega arith) ∙ get_or-drop 6 b 1 0) ∙ ap (λ (l : List ℕ). get_or l 1 0) z ∙ getD_zeros (length (take 2 (drop 6 b))) 1 in
          sym (word_of_bytes c w.small)
          ∙ ap (λ (l : List ℕ). get_or l 0 0 + get_or l 1 0 * 256 + get_or l 2 0 * 65536 + get_or l 3 0 * 16777216) bytes_in
          ∙ (omega arith)

      pub count_found : count_wrong n k c ≡ true → fault_in n k b ≡ some (fault 23 k)
      count_found t =
          wrong_form n k b right
          (λ s. let e = zero_count s.zeros_right in let v : true ≡ false = sym t ∙ ap (count_wrong n k) e ∙ count_shows n k (count_in b) s.count_right in let z : ◌≡◌ {A = ℕ} 0 1 = cc in omega arith)

      module _ (fine : count_wrong n k c ≡ false) where
        -- a count that may be is small, and so the bytes above it are zero
        pub small_count : c ≤ 62
        small_count = count_most (count_holds n k c fine)

        zeros_there : take 2 (drop 6 b) ≡ 0 ∷ 0 ∷ []
        zeros_there =
            let m = small_count in
            let e2 : c / 256 / 256 % 256 ≡ 0 = omega arith in
            let e3 : c / 256 / 256 / 256 % 256 ≡ 0 = omega arith in
            sym (drop_take 2 2 (drop 4 b) (simp length-drop (omega arith)) ∙ ap (take 2) (drop-drop 2 4 b))
            ∙ ap (drop 2) (sym is)
            ∙ (λ i. e2 i ∷ e3 i ∷ [])

        zeros_fine : let z = take 2 (drop 6 b) in z ≡ replicate (length z) 0
        zeros_fine = subst (λ (z : List ℕ). z ≡ replicate (length z) 0) (sym zeros_there) refl

        pub unused_found : true ≡ list_any (λ x. not (eqb x 0)) (drop (8 + 8 * c) (take 504 b)) → fault_in n k b ≡ some (fault 23 k)
        unused_found t =
            wrong_form n k b right
            (λ s.
            let u = drop (8 + 8 * count_in b) (take 504 b) in
            let all : every_of (eqb 0) u ≡ true = test_true (zeros_test u) s.unused_right in
            let v : true ≡ not (every_of (eqb 0) u) = t ∙ any_used (drop (8 + 8 * c) (take 504 b)) ∙ ap (λ (j : ℕ). not (every_of (eqb 0) (drop (8 + 8 * j) (take 504 b)))) (zero_count zeros_fine) in
            let z : true ≡ false = v ∙ ap not all in
            let y : ◌≡◌ {A = ℕ} 0 1 = cc in omega arith)

        pub nothing_found : (x : ℕ) → WordAt b 0 x → x ≡ k → false ≡ list_any (λ x. not (eqb x 0)) (drop (8 + 8 * c) (take 504 b)) → none ≡ fault_in n k b
        nothing_found x number same t =
            let e = zero_count zeros_fine in
            sym (fault_none n k b
            (record {
              sums_right = right;
              number_right = sym (ap (bytes_of 4) (sym same) ∙ number.there (omega arith));
              count_right = subst (λ (j : ℕ). Count n k j) e (count_holds n k c fine);
              zeros_right = zeros_fine;
              unused_right =
                  subst (λ (j : ℕ). let u = drop (8 + 8 * j) (take 504 b) in u ≡ replicate (length u) 0) e
                  ((zeros_test (drop (8 + 8 * c) (take 504 b))).holds (true_is (not-false (every_of (eqb 0) (drop (8 + 8 * c) (take 504 b))) (sym (t ∙ any_used (drop (8 + 8 * c) (take 504 b)))))));
            }))
