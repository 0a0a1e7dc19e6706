-- A Bool and the proposition that it decides, joined by a record so that each can be inferred from the other; and the
-- tests that are made of others: and, or, not, equal, below, some member, every member.
-- Assumes nothing.
use Rattle.std.specs.Prelude.{◌≡◌, refl, ◌⊎◌, Bool, true, false, not, ◌&&◌, ◌||◌, cond, ℕ, ◌≤◌, ◌<◌, T, leb, ltb, eqb}
use Rattle.std.proofs.Common.{sym, ap₂, subst, inl, inr, leb→le, le→leb, ltb→lt, lt→ltb, eqb→eq, T_not}
use mathlib.Core.List.{List, [], ◌∷◌, Memᴰ}
use Rattle.std.proofs.Math.Dec.{eqb_refl, not_T}

-- `b` is true exactly when `A` holds
pub record Decides (b : Bool) (A : Type 0) : Type 0 where
  pub holds : T b → A
  pub shows : A → T b

-- the two answers, as equations
pub is_true : {b : Bool} → T b → b ≡ true
is_true {b = true} t = refl
is_true {b = false} t = absurd t

pub is_false : {b : Bool} → (T b → ⊥) → b ≡ false
is_false {b = true} f = absurd (f tt)
is_false {b = false} f = refl

pub true_is : {b : Bool} → b ≡ true → T b
true_is e = subst T (sym e) tt

pub false_is : {b : Bool} → b ≡ false → T b → ⊥
false_is e t = subst T e t

module _ {A B : Type 0} {a b : Bool} where
  -- two tests of equivalent propositions give the same answer
  pub same_test : Decides a A → Decides b B → (A → B) → (B → A) → a ≡ b
  same_test p q f g = go a b (λ t. q.shows (f (p.holds t))) (λ t. p.shows (g (q.holds t)))
    where
      go : (x y : Bool) → (T x → T y) → (T y → T x) → x ≡ y
      go true true h k = refl
      go true false h k = absurd (h tt)
      go false true h k = absurd (k tt)
      go false false h k = refl

  both : Decides a A → Decides b B → T (a && b) → A × B
  both p q t = go a b p.holds q.holds t
    where
      go : (x y : Bool) → (T x → A) → (T y → B) → T (x && y) → A × B
      go true y f g t = (f tt, g t)
      go false y f g t = absurd t

  either : Decides a A → Decides b B → T (a || b) → A ⊎ B
  either p q t = go a b p.holds q.holds t
    where
      go : (x y : Bool) → (T x → A) → (T y → B) → T (x || y) → A ⊎ B
      go true y f g t = inl (f tt)
      go false y f g t = inr (g t)

-- tests joined
pub T_and : (a b : Bool) → T a → T b → T (a && b)
T_and true b s t = t
T_and false b s t = s

pub T_and_left : (a b : Bool) → T (a && b) → T a
T_and_left true b t = tt
T_and_left false b t = t

pub T_or_left : (a b : Bool) → T a → T (a || b)
T_or_left true b s = tt
T_or_left false b s = absurd s

pub T_or_right : (a b : Bool) → T b → T (a || b)
T_or_right true b s = tt
T_or_right false b s = s

pub and_test : {A B : Type 0} {a b : Bool} → Decides a A → Decides b B → Decides (a && b) (A × B)
and_test {A} {B} {a} {b} p q = record { holds = both p q; shows = λ x. T_and a b (p.shows x.0) (q.shows x.1) }

pub or_test : {A B : Type 0} {a b : Bool} → Decides a A → Decides b B → Decides (a || b) (A ⊎ B)
or_test {A} {B} {a} {b} p q = record { holds = either p q; shows = elim [ inl x ↦ T_or_left a b (p.shows x) | inr y ↦ T_or_right a b (q.shows y) ] }

pub not_test : {A : Type 0} {a : Bool} → Decides a A → Decides (not a) (A → ⊥)
not_test {A} {a} p = record { holds = λ t x. T_not a t (p.shows x); shows = λ f. not_T a (λ t. f (p.holds t)) }

-- the same test of an equivalent proposition
pub read_as : {A B : Type 0} {a : Bool} → Decides a A → (A → B) → (B → A) → Decides a B
read_as p f g = record { holds = λ t. f (p.holds t); shows = λ y. p.shows (g y) }

-- what holds whichever way a test comes out holds of the test
pub by_test : {A : Type 0} {b : Bool} (P : Bool → Type 0) → Decides b A → (A → P true) → ((A → ⊥) → P false) → P b
by_test {A} {b} P d f g = go b d.holds d.shows
  where
    go : (c : Bool) → (T c → A) → (A → T c) → P c
    go true h s = f (h tt)
    go false h s = g s

-- what holds of both of two values holds of the one that is chosen
pub chosen : {X : Type 0} (P : X → Type 0) (b : Bool) {x y : X} → P x → P y → P (cond b x y)
chosen P true p q = p
chosen P false p q = q

pub cond_below : (b : Bool) {x y n : ℕ} → x < n → y < n → cond b x y < n
cond_below b {n = n} p q = chosen (λ (k : ℕ). k < n) b p q

pub cond_zero : (b : Bool) {x y : ℕ} → x ≡ 0 → y ≡ 0 → cond b x y ≡ 0
cond_zero b p q = chosen (λ (k : ℕ). k ≡ 0) b p q

-- what a test comes out as, from the proposition
pub test_true : {A : Type 0} {a : Bool} → Decides a A → A → a ≡ true
test_true p x = is_true (p.shows x)

pub test_false : {A : Type 0} {a : Bool} → Decides a A → (A → ⊥) → a ≡ false
test_false p f = is_false (λ t. f (p.holds t))

-- the answer to a test: one or the other
pub answer : {A : Type 0} {a : Bool} → Decides a A → A ⊎ (A → ⊥)
answer {A} p = by_test (λ b. A ⊎ (A → ⊥)) p inl inr

-- a test decides that it holds
pub own_test : (b : Bool) → Decides b (T b)
own_test b = record { holds = λ t. t; shows = λ t. t }

-- numbers
pub eq_test : (m n : ℕ) → Decides (eqb m n) (m ≡ n)
eq_test m n = record { holds = eqb→eq m n; shows = λ e. subst (λ (k : ℕ). T (eqb m k)) e (eqb_refl m) }

pub le_test : (m n : ℕ) → Decides (leb m n) (m ≤ n)
le_test m n = record { holds = leb→le m n; shows = le→leb m n }

pub lt_test : (m n : ℕ) → Decides (ltb m n) (m < n)
lt_test m n = record { holds = ltb→lt m n; shows = lt→ltb m n }

-- members of a list
abbrev pub some_of {ℓ} : {X : Type ℓ} → (X → Bool) → List X → Bool
some_of p [] = false
some_of p (x ∷ l) = p x || some_of p l

abbrev pub every_of {ℓ} : {X : Type ℓ} → (X → Bool) → List X → Bool
every_of p [] = true
every_of p (x ∷ l) = p x && every_of p l

module _ {X : Type 0} {P : X → Type 0} {p : X → Bool} (d : (x : X) → Decides (p x) (P x)) where
  some_holds : (l : List X) → T (some_of p l) → (x : X) × Memᴰ x l × P x
  some_holds [] t = absurd t
  some_holds (x ∷ l) t = go (p x) (d x).holds (some_holds l) t
    where
      go : (b : Bool) → (T b → P x) → (T (some_of p l) → (y : X) × Memᴰ y l × P y) → T (b || some_of p l) → (y : X) × Memᴰ y (x ∷ l) × P y
      go true f g s = (x, Memᴰ.head refl, f tt)
      go false f g s = let r = g s in (r.0, Memᴰ.tail r.1, r.2)

  some_shows : {x : X} {l : List X} → Memᴰ x l → P x → T (some_of p l)
  some_shows {x} (Memᴰ.head {x = y} {xs = l} e) h = T_or_left (p y) (some_of p l) ((d y).shows (subst P e h))
  some_shows (Memᴰ.tail {x = y} {xs = l} m) h = T_or_right (p y) (some_of p l) (some_shows m h)

  pub some_test : (l : List X) → Decides (some_of p l) ((x : X) × Memᴰ x l × P x)
  some_test l = record { holds = some_holds l; shows = λ r. some_shows r.1 r.2 }

  every_holds : {x : X} {l : List X} → Memᴰ x l → T (every_of p l) → P x
  every_holds (Memᴰ.head {x = y} {xs = l} e) t = subst P (sym e) (both (d y) (own_test (every_of p l)) t).0
  every_holds (Memᴰ.tail {x = y} {xs = l} m) t = every_holds m (both (d y) (own_test (every_of p l)) t).1

  every_shows : (l : List X) → ((x : X) → Memᴰ x l → P x) → T (every_of p l)
  every_shows [] h = tt
  every_shows (x ∷ l) h = T_and (p x) (every_of p l) ((d x).shows (h x (Memᴰ.head refl))) (every_shows l (λ y m. h y (Memᴰ.tail m)))

  pub every_test : (l : List X) → Decides (every_of p l) ((x : X) → Memᴰ x l → P x)
  every_test l = record { holds = λ t x m. every_holds m t; shows = every_shows l }

-- tests that agree on the members come out the same for a list
pub some_same : {X : Type 0} (p q : X → Bool) (l : List X) → ((x : X) → Memᴰ x l → p x ≡ q x) → some_of p l ≡ some_of q l
some_same p q [] h = refl
some_same p q (x ∷ l) h = ap₂ (λ (a b : Bool). a || b) (h x (Memᴰ.head refl)) (some_same p q l (λ y m. h y (Memᴰ.tail m)))
