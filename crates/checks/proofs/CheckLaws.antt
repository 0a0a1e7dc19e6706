-- What is told of a table of jobs, and the verdict by its ways out. The size of a log that is read, and the code and place of its fault, are in verdicts (SizeLaws).
-- Assumes nothing.
use mathlib.Core.Path.{◌≡◌, refl, sym, ap, ◌∙◌, subst}
use mathlib.Core.Bool.{Bool, true, false, cond}
use mathlib.Core.Option as maybe
use mathlib.Core.Option.{none, some}
use mathlib.Core.List.{List, []}
use mathlib.Core.Logic.{⊎_elim}
use Prim.Native.Nat.{ℕ, zero, ◌≤◌, ◌<◌, min}
use native.Mathlib.Omega.{arith}
use borrow.Author.Tests.{lt-ltb, le-ltb}
use native.Mathlib.Nat.{le_antisymm}
use Rattle.std.specs.Prelude.{Option, None, Some, Result, Err, ok_or}
use lib.ListN.{length, get_or}
use Rattle.history.specs.Events.{History, kept, kept_steps}
use Rattle.verdicts.specs.Logs.{Reading, faulty, events, read_log}
use Rattle.verdicts.specs.Verdicts.{Verdict, verdict, first_bad, missing, first_backward, or_else, judged, judge, check}
pub use Rattle.verdicts_laws.specs.SizeLaws.{log_size, FaultKnown, fault_known, last_code}
use Rattle.tallies.specs.Jobs.{Jobs as Table}
use Rattle.tallies.specs.Places.{Placed, found_at}
use Rattle.tallies.specs.Counts.{kept_below, unplaced}
use Rattle.tallies.specs.CountLaws.{unplaced_one, Counting, kept_told}
use Rattle.checks.specs.Checks.{kept_as, Keeps}
use Rattle.checks.specs.declared.Refusal.{Refusal}

-- ---- found, or not

pub found_some : {r n : ℕ} → r < n → found_at r n ≡ some r
found_some {r} {n} q = ap (λ (b : Bool). cond b (some r) none) (lt-ltb r n q)

pub found_none : {r n : ℕ} → n ≤ r → found_at r n ≡ none
found_none {r} {n} q = ap (λ (b : Bool). cond b (some r) none) (le-ltb r n q)

-- ---- what is told of a table of jobs

-- a kept job has no place; or all of them are passed
module _ (states placed : List ℕ) (count : ℕ) {n i : ℕ} (e : n ≡ min count 512) where
  pub one_lacks : i < n → (get_or states i 0 ≡ 4 → ⊥) → get_or placed i 0 ≡ 0 → None ≡ kept_as states placed count
  one_lacks q f z =
      let m = min count 512 in
      sym (ap (λ (b : Bool). cond b None (Some (kept_below states m))) (unplaced_one states placed f z m (subst (λ (k : ℕ). i < k) e q)))

  pub all_counted : i ≤ n → n ≤ i → {kept : ℕ} → Counting states placed i kept → Some kept ≡ kept_as states placed count
  all_counted p q c =
      let m = min count 512 in
      let z : i ≡ m = le_antisymm p q ∙ e in
      ap Some (c.many ∙ ap (kept_below states) z)
      ∙ sym (ap (λ (b : Bool). cond b None (Some (kept_below states m))) (sym (ap (unplaced states placed) z) ∙ c.none))

-- of a log's table it is whether the order lacks a kept job
pub keeps_as : {h : History} {numbers states : List ℕ} {count : ℕ} → Table h numbers states count → (order placed : List ℕ) → Placed h count order placed → {r : Option ℕ} → r ≡ kept_as states placed count
    → Keeps h order r
keeps_as {h} {numbers} {states} {count} jobs order placed places e =
    subst (Keeps h order) (sym (e ∙ ap (λ (n : ℕ). cond (unplaced states placed n) None (Some (kept_below states n))) few))
    (⊎_elim
    (λ w. subst (λ (b : Bool). Keeps h order (cond b None (Some (kept_below states count)))) (sym w.0) w.1)
    (λ w. subst (λ (b : Bool). Keeps h order (cond b None (Some (kept_below states count)))) (sym w.0) (w.1, w.2))
    (kept_told jobs order placed places))
  where
    few : min count 512 ≡ count
    few = omega (arith, jobs.few)

pub keeps_missing : (h : History) (order : List ℕ) {r : Option ℕ} → r ≡ None → Keeps h order r → missing (kept h) order ≡ true
keeps_missing h order e x = subst (λ (r : Option ℕ). Keeps h order r) e x

pub keeps_all : (h : History) (order : List ℕ) {r : Option ℕ} {n : ℕ} → r ≡ Some n → Keeps h order r → (missing (kept h) order ≡ false) × (n ≡ length (kept h))
keeps_all h order e x = subst (λ (r : Option ℕ). Keeps h order r) e x

-- what `ok_or` makes an error of
pub none_left : {r : Option ℕ} {e d : Refusal} → ◌≡◌ {A = Result ℕ Refusal} (Err e) (ok_or r d) → (r ≡ None) × (e ≡ d)
none_left {r = None} x = (refl, cc)
none_left {r = Some n} x = absurd (cc)

-- ---- the verdict by its ways out

pub check_faulty : (bytes order : List ℕ) {c p : ℕ} → read_log bytes ≡ faulty c p → check bytes order ≡ verdict c p
unfolding check
check_faulty bytes order e = ap (λ (g : Reading). judge g order) e

-- each test of an order, and what comes after it
abbrev on_pairs : History → maybe.Option ℕ → Verdict
on_pairs h o = or_else 16 o (verdict 0 (length (kept h)))

abbrev on_missing : History → List ℕ → Bool → Verdict
on_missing h order b = cond b (verdict 15 (length order)) (on_pairs h (first_backward order [] (kept_steps h)))

abbrev on_entries : History → List ℕ → maybe.Option ℕ → Verdict
on_entries h order o = or_else 15 o (on_missing h order (missing (kept h) order))

module _ (bytes order : List ℕ) (h : History) (read : read_log bytes ≡ events h) where
  by_reading : check bytes order ≡ judged h order
  unfolding check
  by_reading = ap (λ (g : Reading). judge g order) read

  judged_as : judged h order ≡ on_entries h order (first_bad (kept h) [] zero order)
  unfolding judged
  judged_as = refl

  pub check_bad : {p : ℕ} → first_bad (kept h) [] zero order ≡ some p → check bytes order ≡ verdict 15 p
  check_bad e = by_reading ∙ judged_as ∙ ap (on_entries h order) e

  module _ (good : first_bad (kept h) [] zero order ≡ none) where
    pub check_missing : missing (kept h) order ≡ true → check bytes order ≡ verdict 15 (length order)
    check_missing m = by_reading ∙ judged_as ∙ ap (on_entries h order) good ∙ ap (on_missing h order) m

    module _ (all : missing (kept h) order ≡ false) where
      pub check_turned : {p : ℕ} → first_backward order [] (kept_steps h) ≡ some p → check bytes order ≡ verdict 16 p
      check_turned e = by_reading ∙ judged_as ∙ ap (on_entries h order) good ∙ ap (on_missing h order) all ∙ ap (on_pairs h) e

      pub check_accepted : first_backward order [] (kept_steps h) ≡ none → check bytes order ≡ verdict 0 (length (kept h))
      check_accepted e = by_reading ∙ judged_as ∙ ap (on_entries h order) good ∙ ap (on_missing h order) all ∙ ap (on_pairs h) e
