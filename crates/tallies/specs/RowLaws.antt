-- The rows: each deed on each cell has one of its own (`row_small`, `row_apart`), and what a step looks at is what it clashes with: where each row has its mark exactly when
-- something holds of its deed and cell, a step looks at a mark exactly when that holds of a deed that clashes with it (`looked_test`).
-- Assumes nothing.
use Rattle.std.specs.Prelude.{◌≡◌, refl, ◌⊎◌, Bool, true, false, ◌&&◌, ◌||◌, cond, ℕ, ◌+◌, ◌%◌, ◌≤◌, ◌<◌, T, leb, ltb}
use Rattle.std.proofs.Math.Path.{sym, ap}
use Rattle.std.proofs.Common.{◌∙◌, subst, ⊎_elim}
use Rattle.std.proofs.Math.Bool.{or-false}
use native.Mathlib.Omega.{arith}
use borrow.Author.Tests.{lt-ltb, le-ltb, le-leb, lt-leb, ne_eqb}
use Rattle.graph.specs.Decide.{Decides, own_test, read_as}
use Rattle.history.specs.Events.{read, write, add, Deed, does, opening, ending, clash}
use Rattle.history_laws.specs.EventLaws.{Clashing, as_steps, in_time, clash_parts}
use Rattle.history.specs.Memory.{meets}
use Rattle.history_laws.specs.MemoryLaws.{Meets, meets_test}
use Rattle.tallies.specs.Jobs.{room, row_of, looked}

-- ---- each has its own

pub row_small : (d : Deed) (c : ℕ) → c < room d → row_of d c < 770
row_small (does read) c q = omega arith
row_small (does write) c q = omega arith
row_small (does add) c q = omega arith
row_small opening c q = omega arith
row_small ending c q = omega arith

abbrev deed_at : ℕ → Deed
deed_at r = cond (ltb r 256) (does read) (cond (ltb r 512) (does write) (cond (ltb r 768) (does add) (cond (ltb r 769) opening ending)))

its_deed : (d : Deed) (c : ℕ) → c < room d → deed_at (row_of d c) ≡ d
its_deed (does read) c q = rw (lt-ltb c 256 q)
its_deed (does write) c q = rw (le-ltb (c + 256) 256 (omega arith), lt-ltb (c + 256) 512 (omega arith))
its_deed (does add) c q = rw (le-ltb (c + 512) 256 (omega arith), le-ltb (c + 512) 512 (omega arith), lt-ltb (c + 512) 768 (omega arith))
its_deed opening c q = rw (le-ltb (c + 768) 256 (omega arith), le-ltb (c + 768) 512 (omega arith), le-ltb (c + 768) 768 (omega arith), lt-ltb (c + 768) 769 (omega arith))
its_deed ending c q = rw (le-ltb (c + 769) 256 (omega arith), le-ltb (c + 769) 512 (omega arith), le-ltb (c + 769) 768 (omega arith), le-ltb (c + 769) 769 (omega arith))

its_cell : (d : Deed) (c x : ℕ) → row_of d c ≡ row_of d x → c ≡ x
its_cell (does read) c x e = e
its_cell (does write) c x e = omega arith
its_cell (does add) c x e = omega arith
its_cell opening c x e = omega arith
its_cell ending c x e = omega arith

pub row_apart : (d e : Deed) (c x : ℕ) → c < room d → x < room e → row_of d c ≡ row_of e x → (c ≡ x) × (d ≡ e)
row_apart d e c x p q r =
    let f : d ≡ e = sym (its_deed d c p) ∙ ap deed_at r ∙ its_deed e x q in
    (its_cell d c x (r ∙ ap (λ (y : Deed). row_of y x) (sym f)), f)

-- ---- what a step looks at

-- deeds that clash have the same cells
clash_room : {e d : Deed} → Clashing e d → room e ≡ room d
clash_room (as_steps t) = refl
clash_room in_time = refl

-- in a row of tests, one that does not count and one that counts
none_or : (b : Bool) {x y : Bool} → x ≡ y → (b && false) || x ≡ y
none_or true e = e
none_or false e = e

one_or : (b : Bool) {x y : Bool} → x ≡ y → (b && true) || x ≡ b || y
one_or true e = refl
one_or false e = e

-- in a row of tests: one that is met, the one that is left
or_met : (a x : Bool) {b : Bool} → b ≡ true → a || (b || x) ≡ true
or_met true x e = refl
or_met false x e = ap (λ (b : Bool). b || x) e

module _ (g : ℕ → Bool) where
  pub looked_step : (row : ℕ) → row < 768 → looked g row ≡ (leb 256 row && g (row % 256)) || (g (row % 256 + 256) || (ltb row 512 && g (row % 256 + 512)))
  unfolding looked
  looked_step row l = rw (lt-ltb row 768 l)

  -- a mark is found among the reads, among the writes
  pub looked_reads : (row : ℕ) → row < 768 → 256 ≤ row → g (row % 256) ≡ true → looked g row ≡ true
  looked_reads row l m e = looked_step row l ∙ rw (le-leb 256 row m, e)

  pub looked_writes : (row : ℕ) → row < 768 → g (row % 256 + 256) ≡ true → looked g row ≡ true
  looked_writes row l e = looked_step row l ∙ or_met (leb 256 row && g (row % 256)) (ltb row 512 && g (row % 256 + 512)) e

  -- or in neither, and the adds are left
  pub looked_adds : (row : ℕ) → row < 768 → ((256 ≤ row) × (g (row % 256) ≡ false)) ⊎ (row < 256) → g (row % 256 + 256) ≡ false → looked g row ≡ ltb row 512 && g (row % 256 + 512)
  looked_adds row l f e =
      let none : leb 256 row && g (row % 256) ≡ false = ⊎_elim (λ r. rw (le-leb 256 row r.0) r.1) (λ m. rw (lt-leb 256 row m)) f in
      looked_step row l ∙ rw (none, e)

  pub looked_opening : (row : ℕ) → row ≡ 768 → looked g row ≡ g 769
  unfolding looked
  looked_opening row e = ap (looked g) e

  pub looked_ending : (row : ℕ) → 768 < row → looked g row ≡ false
  unfolding looked
  looked_ending row l = rw (le-ltb row 768 (omega arith), ne_eqb row 768 (λ e. omega arith))

  -- the cell of a row
  own_cell : (c : ℕ) → c < 256 → c % 256 ≡ c
  own_cell c l = omega arith

  write_cell : (c : ℕ) → c < 256 → (c + 256) % 256 ≡ c
  write_cell c l = omega arith

  add_cell : (c : ℕ) → c < 256 → (c + 512) % 256 ≡ c
  add_cell c l = omega arith

  looked_meets : (d : Deed) (c : ℕ) → c < room d → looked g (row_of d c) ≡ meets (λ e x. g (row_of e x)) d c
  unfolding meets
  looked_meets (does read) c q =
      looked_step c (omega arith)
      ∙ rw (lt-leb 256 c q, lt-ltb c 512 (omega arith), own_cell c q)
      (sym (none_or (g c) (one_or (g (c + 256)) (one_or (g (c + 512)) (none_or (g (c + 768)) (none_or (g (c + 769)) refl)) ∙ or-false (g (c + 512))))))
  looked_meets (does write) c q =
      looked_step (c + 256) (omega arith)
      ∙ rw (le-leb 256 (c + 256) (omega arith), lt-ltb (c + 256) 512 (omega arith), write_cell c q)
      (sym (one_or (g c) (one_or (g (c + 256)) (one_or (g (c + 512)) (none_or (g (c + 768)) (none_or (g (c + 769)) refl)) ∙ or-false (g (c + 512))))))
  looked_meets (does add) c q =
      looked_step (c + 512) (omega arith)
      ∙ rw (le-leb 256 (c + 512) (omega arith), le-ltb (c + 512) 512 (omega arith), add_cell c q)
      (sym (one_or (g c) (one_or (g (c + 256)) (none_or (g (c + 512)) (none_or (g (c + 768)) (none_or (g (c + 769)) refl))))))
  looked_meets opening c q =
      looked_opening (c + 768) (omega arith) ∙ ap g (let z : 769 ≡ c + 769 = omega arith in z)
      ∙ sym (none_or (g c) (none_or (g (c + 256)) (none_or (g (c + 512)) (none_or (g (c + 768)) (one_or (g (c + 769)) refl)))) ∙ or-false (g (c + 769)))
  looked_meets ending c q =
      looked_ending (c + 769) (omega arith)
      ∙ sym (none_or (g c) (none_or (g (c + 256)) (none_or (g (c + 512)) (none_or (g (c + 768)) (none_or (g (c + 769)) refl)))))

  pub looked_test : {F : Deed → ℕ → Type 0} → ((e : Deed) (x : ℕ) → x < room e → Decides (g (row_of e x)) (F e x)) → (d : Deed) (c : ℕ) → c < room d
      → Decides (looked g (row_of d c)) (Meets F d c)
  looked_test {F} t d c q =
      subst (λ (b : Bool). Decides b (Meets F d c)) (sym (looked_meets d c q))
      (read_as (meets_test {F = λ e x. T (g (row_of e x))} (λ e x. own_test (g (row_of e x))) d c)
      (λ r. record { deed = r.deed; marked = (t r.deed c (real r.deed r.clashes)).holds r.marked; clashes = r.clashes })
      (λ r. record { deed = r.deed; marked = (t r.deed c (real r.deed r.clashes)).shows r.marked; clashes = r.clashes }))
    where
      real : (e : Deed) → T (clash e d) → c < room e
      real e t = let z = clash_room (clash_parts e d t) in omega arith
