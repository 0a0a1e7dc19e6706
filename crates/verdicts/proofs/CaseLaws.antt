-- The tried logs, joined: the checker's verdict on every row of the table (`check_cases`), and the limit on jobs, of any log (`jobs_above`, `jobs_within`, `jobs_below`).
-- Assumes nothing.
use Rattle.std.specs.Prelude.{◌≡◌, refl, Bool, not, ℕ, ◌≤◌, ◌<◌, leb, ltb, length}
use Rattle.std.proofs.Math.Path.{ap₂}
use Rattle.std.proofs.Common.{arith}
use Rattle.std.proofs.Math.Bool.{cond}
use Rattle.graph.specs.Decide.{Decides, le_test, lt_test, every_of, every_test, test_true, test_false}
use Rattle.graph.specs.Lists.{◌∈◌}
use Rattle.history.specs.Events.{History, opened}
use Rattle.history.specs.Cases.{computed}
use Rattle.verdicts.specs.Logs.{ill_formed, out_of_turn, too_many, fault_of}
use Rattle.verdicts.specs.Verdicts.{check}
use Rattle.verdicts.specs.Cases.{◌and◌, opens, CheckCase, check_table, add_rows_hold, entry_rows_hold, fault_rows_hold, form_rows_hold, kept_rows_hold, length_rows_hold, number_rows_hold, pair_rows_hold, time_rows_hold, turn_rows_hold}

-- the checker's verdict on every row is the one expected
pub check_cases : (c : CheckCase) → c ∈ check_table → check c.bytes c.order ≡ c.expected
check_cases = entry_rows_hold and length_rows_hold and form_rows_hold and turn_rows_hold and fault_rows_hold and kept_rows_hold and pair_rows_hold and add_rows_hold and time_rows_hold and number_rows_hold

-- ---- the limit on jobs, of any log

module _ (h : History) (j : ℕ) where
  -- of an open in form, the fault by its two tests
  open_fault : {a b : Bool} → every_of (λ i. ltb i j) (opened h) ≡ a → leb 512 (length (opened h)) ≡ b → fault_of h (opens j) ≡ cond (not a) 13 (cond b 14 0)
  unfolding computed fault_of ill_formed out_of_turn too_many
  open_fault p q = ap₂ (λ (a b : Bool). cond (not a) 13 (cond b 14 0)) p q

  above_test : Decides (every_of (λ i. ltb i j) (opened h)) ((i : ℕ) → i ∈ opened h → i < j)
  above_test = every_test (λ i. lt_test i j) (opened h)

  -- an open above all opens before it gets 14 after 512 of them, and has no fault after fewer; one that is not above them gets 13 even then
  pub jobs_above : ((i : ℕ) → i ∈ opened h → i < j) → 512 ≤ length (opened h) → fault_of h (opens j) ≡ 14
  jobs_above f n = open_fault (test_true above_test f) (test_true (le_test 512 (length (opened h))) n)

  pub jobs_within : ((i : ℕ) → i ∈ opened h → i < j) → length (opened h) < 512 → fault_of h (opens j) ≡ 0
  jobs_within f n = open_fault (test_true above_test f) (test_false (le_test 512 (length (opened h))) (λ q. omega arith))

  pub jobs_below : (((i : ℕ) → i ∈ opened h → i < j) → ⊥) → fault_of h (opens j) ≡ 13
  jobs_below f = open_fault (test_false above_test f) refl
