-- One block: what a block without fault is (`Sound`), that the blocks of the writer are without fault (`block_sound`), and that a block without fault is the one that the
-- writer makes of its records (`sound_block`).
-- Assumes nothing.
use Rattle.std.specs.Prelude.{◌≡◌, Bool, true, false, not, ◌||◌, ℕ, zero, suc, ◌+◌, ◌-◌, ◌*◌, ◌/◌, ◌%◌, ◌≤◌, ◌<◌, T, ltb, eqb, get_or}
use Rattle.std.proofs.Math.Path.{refl, sym, ap, ap₂, subst}
use Rattle.std.proofs.Common.{◌∙◌, ltb-false, le-ltb, eq-eqb, ne_eqb, length-take, length-drop, take-append-drop, take-take, drop-drop}
use Rattle.std.proofs.Math.Bool.{cond}
use Rattle.std.proofs.Math.Option.{none, some}
use mathlib.Core.List.{List, [], ◌∷◌, ◌++◌, append_assoc}
use native.Mathlib.Omega.{arith}
use Rattle.std.proofs.lemmas.Bool.{eqb-false, not-false}
use Rattle.std.proofs.Math.Dec.{eqb_refl}
use Rattle.std.proofs.Math.ListN.{length, take, drop, replicate, length-append}
use Rattle.std.proofs.lemmas.List.{length-replicate, take-append-le, drop-append-le}
use Rattle.std.proofs.Math.Seq.{take_at, drop_at}
use Rattle.graph.specs.Decide.{Decides, T_and, and_test, not_test, own_test, eq_test, lt_test, every_of, by_test, test_true, true_is}
use Rattle.history.specs.Formats.{bytes_of}
use Rattle.blocks.specs.Blocks.{sums, front, block, same, sums_wrong, count_in, count_wrong, form_wrong, Fault, fault, fault_in, records_in}
use Rattle.blocks.specs.SoundLaws.{Count, Sound, room}

-- ---- lists

-- a part that ends before the seam of two lists
pub part_left : (n a : ℕ) (xs ys : List ℕ) → a + n ≤ length xs → take n (drop a (xs ++ ys)) ≡ take n (drop a xs)
part_left n a xs ys h = ap (take n) (drop-append-le a xs ys (omega arith)) ∙ take-append-le n (drop a xs) ys (simp length-drop (omega arith))

same_refl : (l : List ℕ) → T (same l l)
same_refl [] = tt
same_refl (x ∷ l) = T_and (eqb x x) (same l l) (eqb_refl x) (same_refl l)

same_holds : (l m : List ℕ) → T (same l m) → l ≡ m
same_holds [] [] t = refl
same_holds [] (y ∷ m) t = absurd t
same_holds (x ∷ l) [] t = absurd t
same_holds (x ∷ l) (y ∷ m) t =
    let b = (and_test (eq_test x y) (own_test (same l m))).holds t in
    ap₂ (λ (a : ℕ) (r : List ℕ). a ∷ r) b.0 (same_holds l m b.1)

pub same_test : (l m : List ℕ) → Decides (same l m) (l ≡ m)
same_test l m = record { holds = same_holds l m; shows = λ e. subst (λ (k : List ℕ). T (same l k)) e (same_refl l) }

-- bytes that are all zero
zeros_hold : (l : List ℕ) → T (every_of (eqb 0) l) → l ≡ replicate (length l) 0
zeros_hold [] t = refl
zeros_hold (x ∷ l) t =
    let b = (and_test (eq_test 0 x) (own_test (every_of (eqb 0) l))).holds t in
    ap₂ (λ (a : ℕ) (r : List ℕ). a ∷ r) (sym b.0) (zeros_hold l b.1)

zeros_show : (n : ℕ) → T (every_of (eqb 0) (replicate n 0))
zeros_show zero = tt
zeros_show (suc n) = zeros_show n

pub zeros_test : (l : List ℕ) → Decides (every_of (eqb 0) l) (l ≡ replicate (length l) 0)
zeros_test l = record { holds = zeros_hold l; shows = λ e. subst (λ (m : List ℕ). T (every_of (eqb 0) m)) (sym e) (zeros_show (length l)) }

-- a test that is denied
denied : {A : Type 0} {b : Bool} → Decides b A → not b ≡ false → A
denied {b = b} d e = d.holds (true_is (not-false b e))

undenied : {A : Type 0} {b : Bool} → Decides b A → A → not b ≡ false
undenied d a = ap not (test_true d a)

or-false : (a b : Bool) → (a || b) ≡ false → (a ≡ false) × (b ≡ false)
or-false true b e = absurd (let z : ◌≡◌ {A = ℕ} 0 1 = cc in omega arith)
or-false false b e = (refl, e)

-- ---- the count

false_or : {a b : Bool} → a ≡ false → b ≡ false → (a || b) ≡ false
false_or p q = ap₂ ◌||◌ p q

pub room_least : (k : ℕ) → k ≡ 66 → room k ≡ 4
room_least k e = ap (λ (b : Bool). cond b 4 62) (eq-eqb k 66 e)

pub room_most : (k : ℕ) → room k ≤ 62
room_most k = go (eqb k 66)
  where
    go : (b : Bool) → cond b 4 62 ≤ 62
    go true = omega arith
    go false = omega arith

pub room_other : (k : ℕ) → (k ≡ 66 → ⊥) → room k ≡ 62
room_other k e = ap (λ (b : Bool). cond b 4 62) (ne_eqb k 66 e)

pub count_holds : (n k c : ℕ) → count_wrong n k c ≡ false → Count n k c
count_holds n k c = by_test (λ b. cond b (not (eqb c 62)) (eqb c 0 || ltb (room k) c) ≡ false → Count n k c) (lt_test (suc k) n)
    (λ l e. record { before = λ m. denied (eq_test c 62) e; some_last = λ m. absurd (omega arith); most_last = λ m. absurd (omega arith) })
    (λ f e.
    let q = or-false (eqb c 0) (ltb (room k) c) e in
    let z : c ≡ 0 → ⊥ = eqb-false c 0 q.0 in
    record { before = λ l. absurd (f l); some_last = λ m. omega arith; most_last = λ m. ltb-false (room k) c q.1 })

pub count_shows : (n k c : ℕ) → Count n k c → count_wrong n k c ≡ false
count_shows n k c q = by_test (λ b. cond b (not (eqb c 62)) (eqb c 0 || ltb (room k) c) ≡ false) (lt_test (suc k) n)
    (λ l. undenied (eq_test c 62) (q.before l))
    (λ f.
    let g : suc k < n → ⊥ = f in
    let l : n ≤ suc k = omega arith in
    let some = q.some_last l in
    false_or (ne_eqb c 0 (omega arith)) (le-ltb (room k) c (q.most_last l)))

pub count_most : {n k c : ℕ} → Count n k c → c ≤ 62
count_most {n} {k} {c} q = by_test (λ b. c ≤ 62) (lt_test (suc k) n) (λ l. let e = q.before l in omega arith)
    (λ f. let g : suc k < n → ⊥ = f in let m = room_most k in let l = q.most_last (omega arith) in omega arith)

-- ---- a block without fault

pub count_some : {n k c : ℕ} → Count n k c → 1 ≤ c
count_some {n} {k} {c} q = by_test (λ b. 1 ≤ c) (lt_test (suc k) n) (λ l. let e = q.before l in omega arith) (λ f. let g : suc k < n → ⊥ = f in q.some_last (omega arith))

no_fault : (b c : Bool) (f g : Fault) → cond b (some f) (cond c (some g) none) ≡ none → (b ≡ false) × (c ≡ false)
no_fault true c f g e = absurd (let z : ◌≡◌ {A = ℕ} 0 1 = cc in omega arith)
no_fault false true f g e = absurd (let z : ◌≡◌ {A = ℕ} 0 1 = cc in omega arith)
no_fault false false f g e = (refl, refl)

pub sound_of : (n k : ℕ) (b : List ℕ) → fault_in n k b ≡ none → Sound n k b
unfolding fault_in sums_wrong form_wrong
sound_of n k b e =
    let p = no_fault (sums_wrong b) (form_wrong n k b) (fault 22 k) (fault 23 k) e in
    let q = or-false _ (not (every_of (eqb 0) (drop (8 + 8 * count_in b) (take 504 b)))) p.1 in
    let r = or-false _ (not (every_of (eqb 0) (take 2 (drop 6 b)))) q.0 in
    let s = or-false (not (same (take 4 b) (bytes_of 4 k))) (count_wrong n k (count_in b)) r.0 in
    record {
      sums_right = denied (same_test (drop 504 b) (sums (take 504 b))) p.0;
      number_right = denied (same_test (take 4 b) (bytes_of 4 k)) s.0;
      count_right = count_holds n k (count_in b) s.1;
      zeros_right = denied (zeros_test (take 2 (drop 6 b))) r.1;
      unused_right = denied (zeros_test (drop (8 + 8 * count_in b) (take 504 b))) q.1;
    }

pub fault_none : (n k : ℕ) (b : List ℕ) → Sound n k b → fault_in n k b ≡ none
unfolding fault_in sums_wrong form_wrong
fault_none n k b s =
    ap₂ (λ (x y : Bool). cond x (some (fault 22 k)) (cond y (some (fault 23 k)) none))
    (undenied (same_test (drop 504 b) (sums (take 504 b))) s.sums_right)
    (false_or
    (false_or (false_or (undenied (same_test (take 4 b) (bytes_of 4 k)) s.number_right) (count_shows n k (count_in b) s.count_right))
    (undenied (zeros_test (take 2 (drop 6 b))) s.zeros_right))
    (undenied (zeros_test (drop (8 + 8 * count_in b) (take 504 b))) s.unused_right))

-- from what is found wrong, which fault it is
pub wrong_sums : (n k : ℕ) (b : List ℕ) → (drop 504 b ≡ sums (take 504 b) → ⊥) → fault_in n k b ≡ some (fault 22 k)
unfolding fault_in sums_wrong
wrong_sums n k b f =
    ap (λ (x : Bool). cond x (some (fault 22 k)) (cond (form_wrong n k b) (some (fault 23 k)) none)) (test_true (not_test (same_test (drop 504 b) (sums (take 504 b)))) f)

-- ---- the blocks of the writer

pub wrong_form : (n k : ℕ) (b : List ℕ) → drop 504 b ≡ sums (take 504 b) → (Sound n k b → ⊥) → fault_in n k b ≡ some (fault 23 k)
wrong_form n k b s f = go (form_wrong n k b) refl
  where
    with_form : {x : Bool} → form_wrong n k b ≡ x → fault_in n k b ≡ cond x (some (fault 23 k)) none
    with_form e =
        unfold fault_in sums_wrong in
        ap₂ (λ (x y : Bool). cond x (some (fault 22 k)) (cond y (some (fault 23 k)) none)) (undenied (same_test (drop 504 b) (sums (take 504 b))) s) e

    go : (x : Bool) → form_wrong n k b ≡ x → fault_in n k b ≡ some (fault 23 k)
    go true e = with_form e
    go false e = absurd (f (sound_of n k b (with_form e)))

-- ---- a block without fault is the writer's

module _ (k : ℕ) (run : List ℕ) (fits : length run ≤ 496) where
  pub front_length : length (front k run) ≡ 504
  unfolding front
  front_length = simp (length-append, length-replicate) (omega arith)

  pub block_front : take 504 (block k run) ≡ front k run
  unfolding block
  block_front = take_at (front k run) (sums (front k run)) 504 front_length

  pub block_sums : drop 504 (block k run) ≡ sums (front k run)
  unfolding block
  block_sums = drop_at (front k run) (sums (front k run)) 504 front_length

  pub block_length : length (block k run) ≡ 512
  unfolding block sums
  block_length = length-append (front k run) (sums (front k run)) ∙ (let e = front_length in omega arith)

  module _ (whole : length run % 8 ≡ 0) where
    pub block_count_in : count_in (block k run) ≡ length run / 8
    unfolding block front
    block_count_in = omega arith

    block_bytes_in : 8 * count_in (block k run) ≡ length run
    block_bytes_in = let e = block_count_in in omega arith

    pub block_records : records_in (block k run) ≡ run
    unfolding block front
    block_records = ap (λ (m : ℕ). take m (drop 8 (block k run))) block_bytes_in ∙ ap (take (length run)) (append_assoc run (replicate (496 - length run) 0) (sums (front k run))) ∙ take_at run _ (length run) refl

    front_unused : drop (8 + length run) (front k run) ≡ replicate (496 - length run) 0
    unfolding front
    front_unused = sym (drop-drop (length run) 8 (front k run)) ∙ drop_at run (replicate (496 - length run) 0) (length run) refl

    pub block_sound : (n : ℕ) → Count n k (length run / 8) → Sound n k (block k run)
    unfolding block front
    block_sound n q =
        record {
          sums_right = block_sums ∙ ap sums (sym block_front);
          number_right = refl;
          count_right = subst (λ (c : ℕ). Count n k c) (sym block_count_in) q;
          zeros_right = refl;
          unused_right =
              subst (λ (u : List ℕ). u ≡ replicate (length u) 0)
              (sym (ap₂ (λ (m : ℕ) (f : List ℕ). drop (8 + m) f) block_bytes_in block_front ∙ front_unused))
              (ap (λ (m : ℕ). replicate m 0) (sym (length-replicate (496 - length run) 0)));
        }

-- what stands before the sums, from the parts
front_of : (n k : ℕ) (b : List ℕ) → length b ≡ 512 → Sound n k b → (take 504 b ≡ front k (records_in b)) × (length (records_in b) ≡ 8 * count_in b)
unfolding front
front_of n k (b0 ∷ b1 ∷ b2 ∷ b3 ∷ b4 ∷ b5 ∷ b6 ∷ b7 ∷ rest) long s = (whole, size)
  where
    c : ℕ
    c = b4 + b5 * 256

    r : List ℕ
    r = take (8 * c) rest

    most : c ≤ 62
    most = count_most s.count_right

    size : length r ≡ 8 * c
    size = length-take (8 * c) rest ∙ (let m = most in omega arith)

    -- the unused places
    unused : drop (8 * c) (take 496 rest) ≡ replicate (496 - length r) 0
    unused =
        let f = b0 ∷ b1 ∷ b2 ∷ b3 ∷ b4 ∷ b5 ∷ b6 ∷ b7 ∷ take 496 rest in
        let same = drop-drop (8 * c) 8 f in
        let many : length (drop (8 + 8 * c) f) ≡ 496 - length r = ap length (sym same) ∙ length-drop (8 * c) (take 496 rest) ∙ (let e = length-take 496 rest in let z = size in omega arith) in
        same ∙ s.unused_right ∙ ap (λ (m : ℕ). replicate m 0) many

    places : take 496 rest ≡ r ++ replicate (496 - length r) 0
    places =
        let m = most in
        sym (take-append-drop (8 * c) (take 496 rest)) ∙ ap₂ (λ (x y : List ℕ). x ++ y) (take-take (8 * c) 496 rest (omega arith)) unused

    low : b4 ≡ length r / 8 % 256
    low = let m = most in let z = size in omega arith

    high : b5 ≡ length r / 8 / 256 % 256
    high = let m = most in let z = size in omega arith

    whole : take 504 (b0 ∷ b1 ∷ b2 ∷ b3 ∷ b4 ∷ b5 ∷ b6 ∷ b7 ∷ rest) ≡ front k r
    whole =
        ap (λ (l : List ℕ). l ++ (b4 ∷ b5 ∷ b6 ∷ b7 ∷ take 496 rest)) s.number_right
        ∙ (λ i. bytes_of 4 k ++ (low i ∷ high i ∷ ap (λ (l : List ℕ). get_or l 0 0) s.zeros_right i ∷ ap (λ (l : List ℕ). get_or l 1 0) s.zeros_right i ∷ places i))
front_of n k [] long s = absurd (omega arith)
front_of n k (b0 ∷ []) long s = absurd (omega arith)
front_of n k (b0 ∷ b1 ∷ []) long s = absurd (omega arith)
front_of n k (b0 ∷ b1 ∷ b2 ∷ []) long s = absurd (omega arith)
front_of n k (b0 ∷ b1 ∷ b2 ∷ b3 ∷ []) long s = absurd (omega arith)
front_of n k (b0 ∷ b1 ∷ b2 ∷ b3 ∷ b4 ∷ []) long s = absurd (omega arith)
front_of n k (b0 ∷ b1 ∷ b2 ∷ b3 ∷ b4 ∷ b5 ∷ []) long s = absurd (omega arith)
front_of n k (b0 ∷ b1 ∷ b2 ∷ b3 ∷ b4 ∷ b5 ∷ b6 ∷ []) long s = absurd (omega arith)

pub sound_block : (n k : ℕ) (b : List ℕ) → length b ≡ 512 → Sound n k b → b ≡ block k (records_in b)
unfolding block
sound_block n k b long s =
    sym (take-append-drop 504 b) ∙ ap (λ (l : List ℕ). take 504 b ++ l) s.sums_right ∙ ap (λ (l : List ℕ). l ++ sums l) (front_of n k b long s).0

pub sound_size : (n k : ℕ) (b : List ℕ) → length b ≡ 512 → Sound n k b → length (records_in b) ≡ 8 * count_in b
sound_size n k b long s = (front_of n k b long s).1
