-- The jobs that stand as not abandoned are the kept ones: as many, with the same marks.
-- Assumes nothing.
use mathlib.Core.Path.{◌≡◌, refl, sym, ap, subst, ◌∙◌}
use mathlib.Core.Logic.{◌⊎◌, inl, inr, ⊎_elim}
use mathlib.Core.Bool.{Bool, true, false, not}
use mathlib.Core.List.{List}
use Prim.Native.Nat.{ℕ, zero, suc, ◌+◌, ◌≤◌, ◌<◌}
use native.Mathlib.Numerals.{add-one}
use native.Mathlib.Omega.{arith}
use lib.Dec.{eqb}
use lib.ListN.{length, get_or, take}
use lib.Seq.{take_all}
use Rattle.graph.specs.Decide.{and_test, not_test, eq_test, lt_test, same_test}
use Rattle.graph.specs.Lists.{only}
use Rattle.history.specs.Events.{History, has, opened, abandoned, kept}
use Rattle.history_laws.specs.TurnLaws.{has_test}
use Rattle.tallies.specs.Jobs.{Jobs}
use Rattle.tallies.specs.Marks.{KeptMarks}
use Rattle.tallies.specs.MarkLaws.{Marking, count_one, count_none}
use Rattle.tallies.specs.TableLaws.{status_gone}

abbrev stands : ℕ → Bool
stands x = not (eqb x 4)

abbrev stays : History → ℕ → Bool
stays h j = not (has (abandoned h) j)

two : (b : Bool) → (b ≡ true) ⊎ (b ≡ false)
two true = inl refl
two false = inr refl

module _ {h : History} {numbers states : List ℕ} {count : ℕ} (jobs : Jobs h numbers states count) where
  same_job : (i : ℕ) → i < count → stands (get_or states i 0) ≡ stays h (get_or (opened h) i 0)
  same_job i q =
      let j = get_or (opened h) i 0 in
      same_test (not_test (eq_test (get_or states i 0) 4)) (not_test (has_test (abandoned h) j)) (λ f m. f (jobs.stated i q ∙ (status_gone h j).1 m))
      (λ f e. f ((status_gone h j).0 (sym (jobs.stated i q) ∙ e)))

  -- of the first n
  as_many : (n : ℕ) → n ≤ count → length (only stands (take n states)) ≡ length (only (stays h) (take n (opened h)))
  as_many zero q = refl
  as_many (suc n) q =
      let l : n < count = omega arith in
      let before = as_many n (omega arith) in
      let wide : n < length states = (let w = jobs.states_padded.wide in let f = jobs.few in omega arith) in
      let long : n < length (opened h) = (let m = jobs.many in omega arith) in
      subst (λ (m : ℕ). length (only stands (take m states)) ≡ length (only (stays h) (take m (opened h)))) (add-one n)
      (⊎_elim
      (λ e. count_one stands states n wide (same_job n l ∙ e) ∙ ap (λ (m : ℕ). m + 1) before ∙ sym (count_one (stays h) (opened h) n long e))
      (λ e. count_none stands states n wide (same_job n l ∙ e) ∙ before ∙ sym (count_none (stays h) (opened h) n long e))
      (two (stays h (get_or (opened h) n 0))))

  pub kept_marks : {many : ℕ} {left : List ℕ} → (many ≡ length (only stands (take count states))) × Marking (λ i. stands (get_or states i 0)) count left → (many ≡ length (kept h)) × KeptMarks h count left
  unfolding kept
  kept_marks m = (
    m.0 ∙ as_many count (omega arith) ∙ ap (λ (l : List ℕ). length (only (stays h) l)) (take_all count (opened h) (let x = jobs.many in omega arith)),
    λ i q.
        m.1.at i q
        ∙ same_test (and_test (lt_test i count) (not_test (eq_test (get_or states i 0) 4))) (and_test (lt_test i count) (not_test (has_test (abandoned h) (get_or (opened h) i 0))))
        (λ r. (r.0, λ a. r.1 (jobs.stated i r.0 ∙ (status_gone h (get_or (opened h) i 0)).1 a))) (λ r. (r.0, λ e. r.1 ((status_gone h (get_or (opened h) i 0)).0 (sym (jobs.stated i r.0) ∙ e)))),
  )
