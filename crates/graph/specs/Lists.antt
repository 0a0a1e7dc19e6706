-- Lists: membership, the members that pass a test, one member before another, every member once.
--
-- `x ∈ l` is a place of x in l. `only p l` keeps the members that pass p, in their order. `Before a b l`: a stands in l with b
-- somewhere after it. `Once l`: no member stands in l twice. `strike j l`: l without j.
-- Assumes nothing.
use Rattle.std.specs.Prelude.{◌≡◌, refl, ◌⊎◌, Bool, true, false, not, ◌&&◌, cond, ℕ, suc, ◌+◌, ◌≤◌, ◌<◌, T, eqb, length}
use Rattle.std.proofs.Common.{sym, ap, ◌∙◌, subst, inl, inr, ⊎_elim, zero-le, suc-le-suc, le_trans, le_antisymm, arith}
use mathlib.Core.List.Memᴰ
use mathlib.Core.List.{List, [], ◌∷◌, ◌++◌, Memᴰ}
use Rattle.std.proofs.Math.Nat.{le_step}
use Rattle.graph.specs.Decide.{Decides, eq_test, not_test, is_true, is_false, some_of, some_test}

infix 4 ◌∈◌
abbrev pub ◌∈◌ : {X : Type 0} → X → List X → Type 0
x ∈ l = Memᴰ x l

-- the first place of a list, and a later one
abbrev pub here : {X : Type 0} {x : X} {l : List X} → x ∈ x ∷ l
here = Memᴰ.head refl

abbrev pub later : {X : Type 0} {x y : X} {l : List X} → x ∈ l → x ∈ y ∷ l
later m = Memᴰ.tail m

-- what holds of the first member and of every later one holds of every member
pub each : {X : Type 0} {P : X → Type 0} {x : X} {l : List X} → P x → ((y : X) → y ∈ l → P y) → (y : X) → y ∈ x ∷ l → P y
each {P = P} p f y m = ⊎_elim (λ q. subst P (sym q) p) (f y) (Memᴰ.cases_cons m)

-- of two cases the one that is left
pub other : {A B : Type 0} → (A → ⊥) → A ⊎ B → B
other f (inl a) = absurd (f a)
other f (inr b) = b

-- ---- members that pass a test

abbrev pub only {ℓ} : {X : Type ℓ} → (X → Bool) → List X → List X
only p [] = []
only p (x ∷ l) = cond (p x) (x ∷ only p l) (only p l)

module _ {X : Type 0} where
  pub only_yes : (p : X → Bool) (x : X) (l : List X) → p x ≡ true → only p (x ∷ l) ≡ x ∷ only p l
  only_yes p x l e = ap (λ (b : Bool). cond b (x ∷ only p l) (only p l)) e

  pub only_no : (p : X → Bool) (x : X) (l : List X) → p x ≡ false → only p (x ∷ l) ≡ only p l
  only_no p x l e = ap (λ (b : Bool). cond b (x ∷ only p l) (only p l)) e

  pub only_append : (p : X → Bool) (l k : List X) → only p (l ++ k) ≡ only p l ++ only p k
  only_append p [] k = refl
  only_append p (x ∷ l) k = go (p x) (only_append p l k)
    where
      go : (b : Bool) → only p (l ++ k) ≡ only p l ++ only p k → cond b (x ∷ only p (l ++ k)) (only p (l ++ k)) ≡ cond b (x ∷ only p l) (only p l) ++ only p k
      go true e = ap (λ (r : List X). x ∷ r) e
      go false e = e

  pub only_keeps : (p : X → Bool) {x : X} {l : List X} → x ∈ l → T (p x) → x ∈ only p l
  only_keeps p {x} (Memᴰ.head {x = y} {xs = l} e) t =
      subst (λ (r : List X). x ∈ r) (sym (only_yes p y l (is_true (subst (λ (z : X). T (p z)) e t)))) (Memᴰ.head e)
  only_keeps p {x} (Memᴰ.tail {x = y} {xs = l} m) t = go (p y) (only_keeps p m t)
    where
      go : (b : Bool) → x ∈ only p l → x ∈ cond b (y ∷ only p l) (only p l)
      go true n = later n
      go false n = n

  pub only_from : (p : X → Bool) {x : X} (l : List X) → x ∈ only p l → (x ∈ l) × T (p x)
  only_from p [] m = absurd (Memᴰ.not-nil m)
  only_from p {x} (y ∷ l) m = go (p y) refl m (only_from p l)
    where
      go : (b : Bool) → p y ≡ b → x ∈ cond b (y ∷ only p l) (only p l) → (x ∈ only p l → (x ∈ l) × T (p x)) → (x ∈ y ∷ l) × T (p x)
      go true e n f = head (Memᴰ.cases_cons n)
        where
          head : (x ≡ y) ⊎ (x ∈ only p l) → (x ∈ y ∷ l) × T (p x)
          head (inl q) = (Memᴰ.head q, subst (λ (z : X). T (p z)) (sym q) (subst T (sym e) tt))
          head (inr k) = (later (f k).0, (f k).1)
      go false e n f = (later (f n).0, (f n).1)

  -- tests that agree on the members keep the same members
  pub only_same : (p q : X → Bool) (l : List X) → ((x : X) → x ∈ l → p x ≡ q x) → only p l ≡ only q l
  only_same p q [] h = refl
  only_same p q (x ∷ l) h =
      ap (λ (b : Bool). cond b (x ∷ only p l) (only p l)) (h x here)
      ∙ ap (λ (r : List X). cond (q x) (x ∷ r) r) (only_same p q l (λ y m. h y (later m)))

  -- where every member passes, all are kept
  pub only_all : (p : X → Bool) (l : List X) → ((x : X) → x ∈ l → T (p x)) → only p l ≡ l
  only_all p [] h = refl
  only_all p (x ∷ l) h = only_yes p x l (is_true (h x here)) ∙ ap (λ (r : List X). x ∷ r) (only_all p l (λ y m. h y (later m)))

  -- one test after another is both at once
  pub only_only : (p q : X → Bool) (l : List X) → only p (only q l) ≡ only (λ x. q x && p x) l
  only_only p q [] = refl
  only_only p q (x ∷ l) = go (q x) (only_only p q l)
    where
      go : (b : Bool) → only p (only q l) ≡ only (λ x. q x && p x) l
          → only p (cond b (x ∷ only q l) (only q l)) ≡ cond (b && p x) (x ∷ only (λ x. q x && p x) l) (only (λ x. q x && p x) l)
      go true e = ap (λ (r : List X). cond (p x) (x ∷ r) r) e
      go false e = e

  pub only_length : (p : X → Bool) (l : List X) → length (only p l) ≤ length l
  only_length p [] = zero-le
  only_length p (x ∷ l) = go (p x) (only_length p l)
    where
      go : (b : Bool) → length (only p l) ≤ length l → length (cond b (x ∷ only p l) (only p l)) ≤ suc (length l)
      go true h = suc-le-suc h
      go false h = le_step h

  -- every member passes a test or its opposite
  pub only_both : (p : X → Bool) (l : List X) → length (only p l) + length (only (λ x. not (p x)) l) ≡ length l
  only_both p [] = refl
  only_both p (x ∷ l) = go (p x) (only_both p l)
    where
      go : (b : Bool) → length (only p l) + length (only (λ x. not (p x)) l) ≡ length l
          → length (cond b (x ∷ only p l) (only p l)) + length (cond (not b) (x ∷ only (λ x. not (p x)) l) (only (λ x. not (p x)) l)) ≡ suc (length l)
      go true e = omega arith
      go false e = omega arith

-- ---- one before another

pub data Before {X : Type 0} (a b : X) : List X → Type 0 where
  first : {x : X} {l : List X} → a ≡ x → b ∈ l → Before a b (x ∷ l)
  after : {x : X} {l : List X} → Before a b l → Before a b (x ∷ l)

module _ {X : Type 0} {a b : X} where
  pub before_left : {l : List X} → Before a b l → a ∈ l
  before_left (first e m) = Memᴰ.head e
  before_left (after r) = later (before_left r)

  pub before_right : {l : List X} → Before a b l → b ∈ l
  before_right (first e m) = later m
  before_right (after r) = later (before_right r)

  pub before_nil : Before a b [] → ⊥
  before_nil r = elim r [ ]

  pub before_cons : {x : X} {l : List X} → Before a b (x ∷ l) → ((a ≡ x) × (b ∈ l)) ⊎ Before a b l
  before_cons (first e m) = inl (e, m)
  before_cons (after r) = inr r

  pub before_in_left : {l : List X} (k : List X) → Before a b l → Before a b (l ++ k)
  before_in_left k (first e m) = first e (Memᴰ.append_left k m)
  before_in_left k (after r) = after (before_in_left k r)

  pub before_in_right : (l : List X) {k : List X} → Before a b k → Before a b (l ++ k)
  before_in_right [] r = r
  before_in_right (x ∷ l) r = after (before_in_right l r)

  pub before_across : {l k : List X} → a ∈ l → b ∈ k → Before a b (l ++ k)
  before_across (Memᴰ.head {xs = l} e) m = first e (Memᴰ.append_right l m)
  before_across (Memᴰ.tail n) m = after (before_across n m)

  -- a pair in two lists end to end: in the one, in the other, or across
  pub before_append : (l : List X) {k : List X} → Before a b (l ++ k) → Before a b l ⊎ (((a ∈ l) × (b ∈ k)) ⊎ Before a b k)
  before_append [] r = inr (inr r)
  before_append (x ∷ l) {k} r = split (before_cons r) (before_append l)
    where
      where_b : a ≡ x → (b ∈ l) ⊎ (b ∈ k) → Before a b (x ∷ l) ⊎ (((a ∈ x ∷ l) × (b ∈ k)) ⊎ Before a b k)
      where_b e (inl m) = inl (first e m)
      where_b e (inr m) = inr (inl (Memᴰ.head e, m))

      deeper : Before a b l ⊎ (((a ∈ l) × (b ∈ k)) ⊎ Before a b k) → Before a b (x ∷ l) ⊎ (((a ∈ x ∷ l) × (b ∈ k)) ⊎ Before a b k)
      deeper (inl s) = inl (after s)
      deeper (inr (inl s)) = inr (inl (later s.0, s.1))
      deeper (inr (inr s)) = inr (inr s)

      split : ((a ≡ x) × (b ∈ l ++ k)) ⊎ Before a b (l ++ k)
          → (Before a b (l ++ k) → Before a b l ⊎ (((a ∈ l) × (b ∈ k)) ⊎ Before a b k))
          → Before a b (x ∷ l) ⊎ (((a ∈ x ∷ l) × (b ∈ k)) ⊎ Before a b k)
      split (inl s) f = where_b s.0 (Memᴰ.append_cases l s.1)
      split (inr s) f = deeper (f s)

  -- a pair that passes a test stands in what the test keeps as it stood before
  pub before_only : (p : X → Bool) {l : List X} → T (p a) → T (p b) → Before a b l → Before a b (only p l)
  before_only p s t (first {x = x} {l = l} e m) =
      subst (λ (r : List X). Before a b r) (sym (only_yes p x l (is_true (subst (λ (z : X). T (p z)) e s)))) (first e (only_keeps p m t))
  before_only p s t (after {x = x} {l = l} r) = go (p x) (before_only p s t r)
    where
      go : (y : Bool) → Before a b (only p l) → Before a b (cond y (x ∷ only p l) (only p l))
      go true n = after n
      go false n = n

  pub before_from_only : (p : X → Bool) (l : List X) → Before a b (only p l) → Before a b l
  before_from_only p [] r = absurd (before_nil r)
  before_from_only p (x ∷ l) r = go (p x) r (before_from_only p l)
    where
      go : (y : Bool) → Before a b (cond y (x ∷ only p l) (only p l)) → (Before a b (only p l) → Before a b l) → Before a b (x ∷ l)
      go true n f = ⊎_elim (λ q. first q.0 (only_from p l q.1).0) (λ q. after (f q)) (before_cons n)
      go false n f = after (f n)

-- ---- every member once

pub data Once {X : Type 0} : List X → Type 0 where
  none : Once []
  more : {x : X} {l : List X} → (x ∈ l → ⊥) → Once l → Once (x ∷ l)

module _ {X : Type 0} where
  pub once_head : {x : X} {l : List X} → Once (x ∷ l) → x ∈ l → ⊥
  once_head (more f o) = f

  pub once_tail : {x : X} {l : List X} → Once (x ∷ l) → Once l
  once_tail (more f o) = o

  -- where nothing is before itself, every member stands once
  pub once_if : (l : List X) → ((x : X) → Before x x l → ⊥) → Once l
  once_if [] h = none
  once_if (x ∷ l) h = more (λ m. h x (first refl m)) (once_if l (λ y r. h y (after r)))

  -- two members are one, or one is before the other
  pub members : {a b : X} {l : List X} → a ∈ l → b ∈ l → (a ≡ b) ⊎ (Before a b l ⊎ Before b a l)
  members (Memᴰ.head e) n = ⊎_elim (λ q. inl (e ∙ sym q)) (λ q. inr (inl (first e q))) (Memᴰ.cases_cons n)
  members (Memᴰ.tail m) n = ⊎_elim (λ q. inr (inr (first q m))) (λ q. ⊎_elim inl (⊎_elim (λ r. inr (inl (after r))) (λ r. inr (inr (after r)))) (members m q)) (Memᴰ.cases_cons n)

  -- in a list with every member once, nothing is before itself, and before is a one-way relation
  pub once_one_way : {a b : X} {l : List X} → Once l → Before a b l → Before b a l → ⊥
  once_one_way none i s = elim i [ ]
  once_one_way (more f o) (first e m) s = ⊎_elim (λ r. f (Memᴰ.cast (sym r.0) m)) (λ r. f (Memᴰ.cast (sym e) (before_right r))) (before_cons s)
  once_one_way (more f o) (after r) s = ⊎_elim (λ q. f (Memᴰ.cast (sym q.0) (before_right r))) (once_one_way o r) (before_cons s)

  pub once_irreflexive : {a : X} {l : List X} → Once l → Before a a l → ⊥
  once_irreflexive o r = once_one_way o r r

  pub once_transitive : {a b c : X} {l : List X} → Once l → Before a b l → Before b c l → Before a c l
  once_transitive none i s = elim i [ ]
  once_transitive (more f o) (first e m) s = ⊎_elim (λ r. absurd (f (Memᴰ.cast (sym r.0) m))) (λ r. first e (before_right r)) (before_cons s)
  once_transitive (more f o) (after r) s = ⊎_elim (λ q. absurd (f (Memᴰ.cast (sym q.0) (before_right r)))) (λ q. after (once_transitive o r q)) (before_cons s)

  -- what a test keeps stands once where all stood once
  pub once_only : (p : X → Bool) {l : List X} → Once l → Once (only p l)
  once_only p {l} o = once_if (only p l) (λ x r. once_irreflexive o (before_from_only p l r))

-- ---- numbers struck out

unfoldable pub strike : ℕ → List ℕ → List ℕ
strike j l = only (λ i. not (eqb i j)) l

pub strike_keeps : {i j : ℕ} {l : List ℕ} → i ∈ l → (i ≡ j → ⊥) → i ∈ strike j l
unfolding strike
strike_keeps {i} {j} m h = only_keeps (λ i. not (eqb i j)) m ((not_test (eq_test i j)).shows h)

pub strike_from : (j : ℕ) {i : ℕ} (l : List ℕ) → i ∈ strike j l → (i ∈ l) × (i ≡ j → ⊥)
unfolding strike
strike_from j {i} l m = let r = only_from (λ i. not (eqb i j)) l m in (r.0, (not_test (eq_test i j)).holds r.1)

-- what is struck out is gone: the list is shorter
pub strike_shorter : {j : ℕ} {l : List ℕ} → j ∈ l → length (strike j l) < length l
unfolding strike
strike_shorter {j} (Memᴰ.head {x = y} {xs = l} e) =
    suc-le-suc (subst (λ (r : List ℕ). length r ≤ length l) (sym (only_no (λ i. not (eqb i j)) y l (is_false (λ t. (not_test (eq_test y j)).holds t (sym e))))) (only_length (λ i. not (eqb i j)) l))
strike_shorter {j} (Memᴰ.tail {x = y} {xs = l} m) = go (not (eqb y j)) (strike_shorter m)
  where
    go : (b : Bool) → length (only (λ i. not (eqb i j)) l) < length l → length (cond b (y ∷ only (λ i. not (eqb i j)) l) (only (λ i. not (eqb i j)) l)) < suc (length l)
    go true h = suc-le-suc h
    go false h = le_step h

-- a further test that leaves a number out strikes it
pub only_strike : (l : List ℕ) (p q : ℕ → Bool) (s : ℕ) → ((i : ℕ) → i ∈ l → p i ≡ q i && not (eqb i s)) → only p l ≡ strike s (only q l)
unfolding strike
only_strike l p q s h = only_same p (λ i. q i && not (eqb i s)) l h ∙ sym (only_only (λ i. not (eqb i s)) q l)

-- to strike out a member of a list that has every member once makes it shorter by one
pub strike_once : {j : ℕ} {l : List ℕ} → Once l → j ∈ l → suc (length (strike j l)) ≡ length l
unfolding strike
strike_once none i = elim i [ ]
strike_once {j} (more {x = x} {l = l} f o) (Memᴰ.head e) =
    let p : ℕ → Bool = λ i. not (eqb i j) in
    ap (λ (r : List ℕ). suc (length r))
    (only_no p x l (is_false (λ t. (not_test (eq_test x j)).holds t (sym e))) ∙ only_all p l (λ y m. (not_test (eq_test y j)).shows (λ q. f (Memᴰ.cast (sym (q ∙ e)) m))))
strike_once {j} (more {x = x} {l = l} f o) (Memᴰ.tail m) =
    ap (λ (r : List ℕ). suc (length r)) (only_yes (λ i. not (eqb i j)) x l (is_true ((not_test (eq_test x j)).shows (λ e. f (Memᴰ.cast e m))))) ∙ ap suc (strike_once o m)

-- a list with every member once is no longer than one that has its members
pub once_le : {l k : List ℕ} → Once l → ((x : ℕ) → x ∈ l → x ∈ k) → length l ≤ length k
once_le none f = zero-le
once_le {l = x ∷ l} {k = k} (more n o) f =
    le_trans (suc-le-suc (once_le o (λ y m. strike_keeps (f y (later m)) (λ e. n (Memᴰ.cast (sym e) m))))) (strike_shorter (f x here))

-- so lists with the same members, each once, are equally long
pub once_length : {l k : List ℕ} → Once l → Once k → ((x : ℕ) → x ∈ l → x ∈ k) → ((x : ℕ) → x ∈ k → x ∈ l) → length l ≡ length k
once_length o p f g = le_antisymm (once_le o f) (once_le p g)

-- is it a member?
pub mem_test : (j : ℕ) (l : List ℕ) → Decides (some_of (λ i. eqb i j) l) (j ∈ l)
mem_test j l = record { holds = λ t. let r = (some_test (λ i. eq_test i j) l).holds t in Memᴰ.cast (sym r.2) r.1; shows = λ m. (some_test (λ i. eq_test i j) l).shows (j, m, refl) }
