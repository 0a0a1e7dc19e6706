-- The kept jobs, counted and marked, one opened job after the other.
-- Assumes nothing.
use Rattle.std.specs.Prelude.{◌≡◌, refl, Bool, not, ◌&&◌, ℕ, ◌+◌, ◌<◌, get_or, take}
use Rattle.std.proofs.Common.{sym, ◌∙◌, arith, take_all}
use Rattle.std.proofs.Math.Path.{ap}
use mathlib.Core.List.{List}
use Rattle.std.proofs.Math.Dec.{ltb}
use Rattle.std.proofs.Math.ListN.{length}
use Rattle.graph.specs.Decide.{Decides, not_test, test_true, test_false}
use Rattle.graph.specs.Lists.{◌∈◌, only}
use Rattle.history.specs.Events.{History, has, opened, abandoned, kept}
use Rattle.history_laws.specs.TurnLaws.{has_test}
use Rattle.tallies.specs.Jobs.{Jobs}
use Rattle.tallies.specs.Marks.{Put, KeptMarks}
use Rattle.tallies.specs.TableLaws.{status_gone}
use Rattle.tallies.specs.MarkLaws.{Marking, marking_start, marking_put, marking_pass, count_one, count_none}

-- is the job not abandoned?
abbrev stays : History → ℕ → Bool
stays h j = not (has (abandoned h) j)

stays_test : (h : History) (j : ℕ) → Decides (stays h j) (j ∈ abandoned h → ⊥)
stays_test h j = not_test (has_test (abandoned h) j)

-- of the first n opened jobs, the kept ones are so many, and they are marked
pub record Keeping (h : History) (n many : ℕ) (left : List ℕ) : Type 0 where
  pub counted : many ≡ length (only (stays h) (take n (opened h)))
  pub marks : Marking (λ i. stays h (get_or (opened h) i 0)) n left

pub keeping_start : (h : History) (left : List ℕ) → ((i : ℕ) → get_or left i 0 ≡ 0) → Keeping h 0 0 left
keeping_start h left blank = record { counted = refl; marks = marking_start (λ i. stays h (get_or (opened h) i 0)) left blank }

module _ {h : History} {numbers states : List ℕ} {count : ℕ} (jobs : Jobs h numbers states count) {n many : ℕ} {left : List ℕ} (k : Keeping h n many left) where
  -- a kept job
  pub keeping_one : (left' : List ℕ) → n < count → (get_or states n 0 ≡ 4 → ⊥) → Put n left left' → Keeping h (n + 1) (many + 1) left'
  keeping_one left' q f put =
      let j = get_or (opened h) n 0 in
      let e = test_true (stays_test h j) (λ m. f (jobs.stated n q ∙ (status_gone h j).1 m)) in
      record {
        counted = ap (λ (x : ℕ). x + 1) k.counted ∙ sym (count_one (stays h) (opened h) n (omega (arith, jobs.many)) e);
        marks = marking_put k.marks left' e put;
      }

  -- an abandoned one
  pub keeping_none : n < count → get_or states n 0 ≡ 4 → Keeping h (n + 1) many left
  keeping_none q e =
      let j = get_or (opened h) n 0 in
      let g = test_false (stays_test h j) (λ f. f ((status_gone h j).0 (sym (jobs.stated n q) ∙ e))) in
      record { counted = k.counted ∙ sym (count_none (stays h) (opened h) n (omega (arith, jobs.many)) g); marks = marking_pass k.marks g }

  -- all
  pub keeping_end : n ≡ count → (many ≡ length (kept h)) × KeptMarks h count left
  unfolding kept
  keeping_end e = (
    k.counted ∙ ap (λ (l : List ℕ). length (only (stays h) l)) (take_all n (opened h) (omega (arith, jobs.many))),
    λ i q. k.marks.at i q ∙ ap (λ (m : ℕ). ltb i m && stays h (get_or (opened h) i 0)) e,
  )
