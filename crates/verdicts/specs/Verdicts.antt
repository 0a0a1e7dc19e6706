-- The checker's verdict on a log and a list, and the lister's answer: codes 11 to 18 with their places.
--
-- The checker tests 15 and then 16, the lister 18 and then 17, once the log is read without a fault. Places count from 0.
-- Assumes nothing.
use Rattle.std.specs.Prelude.{Bool, false, not, ◌&&◌, ◌||◌, cond, List, [], ◌∷◌, ◌++◌, ℕ, zero, suc, ltb, eqb, length, drop}
use Rattle.std.proofs.Math.Option.{Option, none, some}
use Rattle.graph.specs.Decide.{some_of, every_of}
use Rattle.history.specs.Events.{History, has, kept, Step, kept_steps, conflict}
use Rattle.history.specs.Orders.{order_of}
use Rattle.verdicts.specs.Logs.{Reading, faulty, events, read_log}

pub record Verdict : Type 0 where
  pub code : ℕ
  pub place : ℕ

abbrev pub verdict : ℕ → ℕ → Verdict
verdict c p = record { code = c; place = p }

-- ---- code 15

-- the place of the first bad entry: not a kept job, or named before
abbrev pub first_bad : List ℕ → List ℕ → ℕ → List ℕ → Option ℕ
first_bad jobs before n [] = none
first_bad jobs before n (j ∷ order) = cond (not (has jobs j) || has before j) (some n) (first_bad jobs (j ∷ before) (suc n) order)

-- is a kept job missing?
unfoldable pub missing : List ℕ → List ℕ → Bool
missing jobs order = not (every_of (has order) jobs)

-- ---- code 16

-- does i stand before j in the order?
abbrev pub stands_before : List ℕ → ℕ → ℕ → Bool
stands_before [] i j = false
stands_before (x ∷ order) i j = (eqb x i && has order j) || stands_before order i j

-- the later step b of a conflicting pair runs backward: its job stands before the earlier step's job. Where the earlier one is an end, b is the opening of a
-- job that was opened after it
unfoldable pub backward : List ℕ → List Step → Step → Bool
backward order earlier b = some_of (λ a. conflict a b && stands_before order b.job a.job) earlier

-- the place of the earliest step that comes second in a pair that runs backward; `earlier` are the steps before s
abbrev pub first_backward : List ℕ → List Step → List Step → Option ℕ
first_backward order earlier [] = none
first_backward order earlier (b ∷ s) = cond (backward order earlier b) (some b.at) (first_backward order (b ∷ earlier) s)

-- ---- the checker

abbrev pub or_else : ℕ → Option ℕ → Verdict → Verdict
or_else c none v = v
or_else c (some p) v = verdict c p

unfoldable pub judged : History → List ℕ → Verdict
judged h order =
    or_else 15 (first_bad (kept h) [] zero order)
    (cond (missing (kept h) order) (verdict 15 (length order))
    (or_else 16 (first_backward order [] (kept_steps h))
    (verdict 0 (length (kept h)))))

abbrev pub judge : Reading → List ℕ → Verdict
judge (faulty c p) order = verdict c p
judge (events h) order = judged h order

-- the verdict on a log and a list
unfoldable pub check : List ℕ → List ℕ → Verdict
check bytes order = judge (read_log bytes) order

-- ---- the lister

-- the answer, and what then stands in the lent list
pub record Listed : Type 0 where
  pub code : ℕ
  pub place : ℕ
  pub list : List ℕ

abbrev pub refused : ℕ → ℕ → List ℕ → Listed
refused c p lent = record { code = c; place = p; list = lent }

-- the order, and the entries past it as they were
abbrev pub written : Option (List ℕ) → List ℕ → Listed
written none lent = refused 17 0 lent
written (some order) lent = record { code = 0; place = length order; list = order ++ drop (length order) lent }

unfoldable pub listed : History → List ℕ → Listed
listed h lent = cond (ltb (length lent) (length (kept h))) (refused 18 (length (kept h)) lent) (written (order_of h) lent)

abbrev pub list_of : Reading → List ℕ → Listed
list_of (faulty c p) lent = refused c p lent
list_of (events h) lent = listed h lent

unfoldable pub list_order : List ℕ → List ℕ → Listed
list_order bytes lent = list_of (read_log bytes) lent
