-- The laws of three numbers joined and of three tests of which one passes. In order: numbers with the same marks are equal, whatever their size; what any of three
-- tests is of tests that are made of others; what the join is of numbers that are chosen, added to, cut down or 0; and a test of words that are joined.
-- Assumes nothing.
use Rattle.std.specs.Prelude.{◌≡◌, refl, Bool, true, false, not, ◌&&◌, ◌||◌, cond, ℕ, zero, suc, ◌+◌, ◌^◌, ◌<◌, T, eqb}
use Rattle.std.proofs.Common.{sym, ap, ap₂, ◌∙◌, pow-suc, arith}
use Rattle.std.proofs.Math.Bool.{or-true, or-false, and-or_distrib_right}
use Rattle.std.specs.Int.Bits.{bit_or, bit_and, or_zero_r}
use Rattle.std.proofs.Math.Pow.{pow-lt}
use Rattle.graph.specs.Decide.{is_false, same_test, eq_test, and_test}
use Rattle.marks.specs.Marks.{bit, without, tab_from}
use Rattle.marks.specs.MarkLaws.{bit_same, bit_zero, bit-or, bit-and, bit_without}
use Rattle.marks.specs.Words.{empty}
use Rattle.stations.specs.Stations.{Station, station_0, station_1, station_2, join, any}

-- ---- numbers and their marks

below_its_power : (n : ℕ) → n < 2 ^ n
below_its_power zero = omega arith
below_its_power (suc n) = let p = pow-suc 2 n in let q = below_its_power n in omega arith

-- numbers with the same marks are equal
same_marks : (a b : ℕ) → ((k : ℕ) → bit a k ≡ bit b k) → a ≡ b
same_marks a b h =
    let w = suc (a + b) in
    let p : 2 ^ a < 2 ^ w = pow-lt (omega arith) in
    let q : 2 ^ b < 2 ^ w = pow-lt (omega arith) in
    let r = below_its_power a in
    let s = below_its_power b in
    bit_same w a b (omega arith) (omega arith) (λ k i. h k)

-- ---- one of three tests

pub any_same : (f g : Station → Bool) → ((u : Station) → f u ≡ g u) → any f ≡ any g
any_same f g h = ap₂ ◌||◌ (h station_0) (ap₂ ◌||◌ (h station_1) (h station_2))

-- of two tests at each, and of a test that is the same at each
or_shuffled : (a b c x y z : Bool) → (a || x) || ((b || y) || (c || z)) ≡ (a || (b || c)) || (x || (y || z))
or_shuffled true b c x y z = refl
or_shuffled false b c true y z = sym (or-true (b || c))
or_shuffled false true c false y z = refl
or_shuffled false false c false true z = sym (or-true c)
or_shuffled false false c false false z = refl

pub any_or : (f g : Station → Bool) → any (λ u. f u || g u) ≡ any f || any g
any_or f g = or_shuffled (f station_0) (f station_1) (f station_2) (g station_0) (g station_1) (g station_2)

pub any_and : (f : Station → Bool) (b : Bool) → any (λ u. f u && b) ≡ any f && b
any_and f b =
    ap (λ (x : Bool). f station_0 && b || x) (sym (and-or_distrib_right (f station_1) (f station_2) b))
    ∙ sym (and-or_distrib_right (f station_0) (f station_1 || f station_2) b)

pub any_const : (b : Bool) → any (λ u. b) ≡ b
any_const true = refl
any_const false = refl

-- the test that all fail
not_any : (a b c : Bool) → not (a && (b && c)) ≡ not a || (not b || not c)
not_any true true c = refl
not_any true false c = refl
not_any false b c = refl

-- where the tests of the other stations fail, what is left is the one
abbrev index : Station → ℕ
index station_0 = 0
index station_1 = 1
index station_2 = 2

apart : (f : Station → Bool) (v u : Station) → (T (f u) → v ≡ u) → (index v ≡ index u → ⊥) → f u ≡ false
apart f v u h n = is_false (λ t. n (ap index (h t)))

pub any_one : (f : Station → Bool) (v : Station) → ((u : Station) → T (f u) → v ≡ u) → any f ≡ f v
any_one f station_0 h =
    ap₂ (λ (a b : Bool). f station_0 || (a || b)) (apart f station_0 station_1 (h station_1) (λ e. omega arith)) (apart f station_0 station_2 (h station_2) (λ e. omega arith))
    ∙ or-false (f station_0)
any_one f station_1 h =
    ap₂ (λ (a b : Bool). a || (f station_1 || b)) (apart f station_1 station_0 (h station_0) (λ e. omega arith)) (apart f station_1 station_2 (h station_2) (λ e. omega arith))
    ∙ or-false (f station_1)
any_one f station_2 h =
    ap₂ (λ (a b : Bool). a || (b || f station_2)) (apart f station_2 station_0 (h station_0) (λ e. omega arith)) (apart f station_2 station_1 (h station_1) (λ e. omega arith))

-- ---- three numbers joined

pub join_same : (f g : Station → ℕ) → ((u : Station) → f u ≡ g u) → join f ≡ join g
join_same f g h = ap₂ bit_or (h station_0) (ap₂ bit_or (h station_1) (h station_2))

-- its marks are those of any of the three
pub join_bit : (f : Station → ℕ) (k : ℕ) → bit (join f) k ≡ any (λ u. bit (f u) k)
join_bit f k = bit-or (f station_0) (bit_or (f station_1) (f station_2)) k ∙ ap (λ (b : Bool). bit (f station_0) k || b) (bit-or (f station_1) (f station_2) k)

-- of the same number, of numbers chosen by one test, of numbers with others added
pub join_const : (x : ℕ) → join (λ u. x) ≡ x
join_const x = same_marks (join (λ u. x)) x (λ k. join_bit (λ u. x) k ∙ any_const (bit x k))

pub join_cond : (b : Bool) (f g : Station → ℕ) → join (λ u. cond b (f u) (g u)) ≡ cond b (join f) (join g)
join_cond true f g = refl
join_cond false f g = refl

pub join_blank : (b : Bool) (f : Station → ℕ) → join (λ u. cond b 0 (f u)) ≡ cond b 0 (join f)
join_blank b f = join_cond b (λ u. 0) f ∙ ap (λ (x : ℕ). cond b x (join f)) (join_const 0)

pub join_or : (f g : Station → ℕ) → join (λ u. bit_or (f u) (g u)) ≡ bit_or (join f) (join g)
join_or f g =
    same_marks (join (λ u. bit_or (f u) (g u))) (bit_or (join f) (join g))
    (λ k.
    join_bit (λ u. bit_or (f u) (g u)) k
    ∙ any_same (λ u. bit (bit_or (f u) (g u)) k) (λ u. bit (f u) k || bit (g u) k) (λ u. bit-or (f u) (g u) k)
    ∙ any_or (λ u. bit (f u) k) (λ u. bit (g u) k)
    ∙ sym (bit-or (join f) (join g) k ∙ ap₂ ◌||◌ (join_bit f k) (join_bit g k)))

-- of numbers cut down to some marks, and with a mark taken out
pub join_and : (f : Station → ℕ) (m : ℕ) → join (λ u. bit_and (f u) m) ≡ bit_and (join f) m
join_and f m =
    same_marks (join (λ u. bit_and (f u) m)) (bit_and (join f) m)
    (λ k.
    join_bit (λ u. bit_and (f u) m) k
    ∙ any_same (λ u. bit (bit_and (f u) m) k) (λ u. bit (f u) k && bit m k) (λ u. bit-and (f u) m k)
    ∙ any_and (λ u. bit (f u) k) (bit m k)
    ∙ sym (bit-and (join f) m k ∙ ap (λ (b : Bool). b && bit m k) (join_bit f k)))

pub join_without : (f : Station → ℕ) (s : ℕ) → join (λ u. without (f u) s) ≡ without (join f) s
join_without f s =
    same_marks (join (λ u. without (f u) s)) (without (join f) s)
    (λ k.
    join_bit (λ u. without (f u) s) k
    ∙ any_same (λ u. bit (without (f u) s) k) (λ u. bit (f u) k && not (eqb k s)) (λ u. bit_without (f u) s k)
    ∙ any_and (λ u. bit (f u) k) (not (eqb k s))
    ∙ sym (bit_without (join f) s k ∙ ap (λ (b : Bool). b && not (eqb k s)) (join_bit f k)))

-- of numbers to each of which a mark is added by a test of its own: it is added where one passes
chosen_bit : (b : Bool) (m k : ℕ) → bit (cond b m 0) k ≡ b && bit m k
chosen_bit true m k = refl
chosen_bit false m k = bit_zero k

more_or : (b : Bool) (n m : ℕ) → cond b (bit_or n m) n ≡ bit_or n (cond b m 0)
more_or true n m = refl
more_or false n m = sym (or_zero_r n)

pub join_more : (b : Station → Bool) (f : Station → ℕ) (m : ℕ) → join (λ u. cond (b u) (bit_or (f u) m) (f u)) ≡ cond (any b) (bit_or (join f) m) (join f)
join_more b f m =
    join_same (λ u. cond (b u) (bit_or (f u) m) (f u)) (λ u. bit_or (f u) (cond (b u) m 0)) (λ u. more_or (b u) (f u) m)
    ∙ join_or f (λ u. cond (b u) m 0)
    ∙ ap (bit_or (join f))
    (same_marks (join (λ u. cond (b u) m 0)) (cond (any b) m 0)
    (λ k.
    join_bit (λ u. cond (b u) m 0) k
    ∙ any_same (λ u. bit (cond (b u) m 0) k) (λ u. b u && bit m k) (λ u. chosen_bit (b u) m k)
    ∙ any_and b (bit m k) ∙ sym (chosen_bit (any b) m k)))
    ∙ sym (more_or (any b) (join f) m)

-- ---- words joined

-- all of the three
abbrev all : (Station → Bool) → Bool
all f = f station_0 && (f station_1 && f station_2)

-- 0 exactly when all are
or_none : (a b : ℕ) → eqb (bit_or a b) 0 ≡ eqb a 0 && eqb b 0
or_none a b =
    same_test (eq_test (bit_or a b) 0) (and_test (eq_test a 0) (eq_test b 0))
    (λ e. (
      same_marks a 0 (λ k. left (bit a k) (bit b k) (sym (bit-or a b k) ∙ ap (λ (x : ℕ). bit x k) e ∙ bit_zero k) ∙ sym (bit_zero k)),
      same_marks b 0 (λ k. right (bit a k) (bit b k) (sym (bit-or a b k) ∙ ap (λ (x : ℕ). bit x k) e ∙ bit_zero k) ∙ sym (bit_zero k)),
    ))
    (λ r. ap₂ bit_or r.0 r.1)
  where
    left : (x y : Bool) → x || y ≡ false → x ≡ false
    left true y e = e
    left false y e = refl

    right : (x y : Bool) → x || y ≡ false → y ≡ false
    right true true e = e
    right true false e = refl
    right false y e = e

join_none : (f : Station → ℕ) → eqb (join f) 0 ≡ all (λ u. eqb (f u) 0)
join_none f = or_none (f station_0) (bit_or (f station_1) (f station_2)) ∙ ap (λ (b : Bool). eqb (f station_0) 0 && b) (or_none (f station_1) (f station_2))

and_shuffled : (a b c x y z : Bool) → (a && (b && c)) && (x && (y && z)) ≡ (a && x) && ((b && y) && (c && z))
and_shuffled true true true x y z = refl
and_shuffled true true false true true z = refl
and_shuffled true true false true false z = refl
and_shuffled true true false false y z = refl
and_shuffled true false c true y z = refl
and_shuffled true false c false y z = refl
and_shuffled false b c x y z = refl

-- a set of joined words is empty exactly when the three are
empty_join : (i n : ℕ) (f : Station → ℕ → ℕ) → empty (tab_from i n (λ w. join (λ u. f u w))) ≡ all (λ u. empty (tab_from i n (f u)))
empty_join i zero f = refl
empty_join i (suc n) f =
    ap₂ ◌&&◌ (join_none (λ u. f u i)) (empty_join (suc i) n f)
    ∙ and_shuffled (eqb (f station_0 i) 0) (eqb (f station_1 i) 0) (eqb (f station_2 i) 0)
    (empty (tab_from (suc i) n (f station_0))) (empty (tab_from (suc i) n (f station_1))) (empty (tab_from (suc i) n (f station_2)))

pub some_join : (n : ℕ) (f : Station → ℕ → ℕ) → not (empty (tab_from 0 n (λ w. join (λ u. f u w)))) ≡ any (λ u. not (empty (tab_from 0 n (f u))))
some_join n f = ap not (empty_join 0 n f) ∙ not_any (empty (tab_from 0 n (f station_0))) (empty (tab_from 0 n (f station_1))) (empty (tab_from 0 n (f station_2)))
