-- What import answers, way by way.
-- Assumes nothing.
use mathlib.Core.Path.{◌≡◌, sym, ap, ◌∙◌}
use mathlib.Core.Logic.{inr}
use mathlib.Core.Bool.{Bool, cond}
use mathlib.Core.List.{List, [], ◌++◌}
use Prim.Native.Nat.{ℕ, ◌+◌, ◌%◌, ◌≤◌, ◌<◌}
use native.Mathlib.Nat.{zero-add}
use native.Mathlib.Omega.{arith}
use lib.ListN.{length, drop}
use Rattle.graph.specs.Decide.{or_test, not_test, eq_test, lt_test, test_true}
use Rattle.history.specs.Events.{History}
use Rattle.history.specs.Formats.{records}
use Rattle.verdicts.specs.Logs.{Reading, faulty, events, read_from, read_log, log_of}
use Rattle.verdicts_laws.specs.LogLaws.{log_length}
use Rattle.text.specs.Lays.{Lays}
use Rattle.text.specs.LaysLaws.{lays_room}
use Rattle.blocks.specs.Blocks.{refused}
use Rattle.blocks.proofs.RunLaws.{fills, fills_not}
use Rattle.notation.specs.Parse.{Parsed, wrong, says, parse}
use Rattle.notation.specs.Answers.{imported, import_of, import}

-- ---- what import answers

module _ (text lent : List ℕ) where
  pub import_wrong : {p : ℕ} → parse text ≡ wrong p → refused 26 p lent ≡ import text lent
  unfolding import
  import_wrong e = sym (ap (λ (a : Parsed). import_of a lent) e)

  module _ (h : History) (e : parse text ≡ says h) where
    pub import_says : import text lent ≡ imported (read_log (log_of h)) (log_of h) lent
    unfolding import
    import_says = ap (λ (a : Parsed). import_of a lent) e

    -- more than 4,096 symbols
    pub import_long : 4096 < length h → refused 11 0 lent ≡ import text lent
    unfolding read_log
    import_long q =
        let n = log_length h in
        sym (import_says ∙ ap (λ (b : Bool). imported (cond b (faulty 11 0) (read_from [] 0 (records (log_of h)))) (log_of h) lent)
        (test_true (or_test (not_test (eq_test (length (log_of h) % 8) 0)) (lt_test 32768 (length (log_of h)))) (inr (omega arith))))

-- a log that is judged and put down
module _ (log lent : List ℕ) where
  pub put_fault : {c p : ℕ} → read_log log ≡ faulty c p → refused c p lent ≡ imported (read_log log) log lent
  put_fault e = sym (ap (λ (r : Reading). imported r log lent) e)

  module _ {h : History} (e : read_log log ≡ events h) where
    pub put_not : length lent < length log → refused 24 0 lent ≡ imported (read_log log) log lent
    put_not q = sym (ap (λ (r : Reading). imported r log lent) e ∙ fills_not log lent q)

    pub put_all : (out : List ℕ) (n : ℕ) → length log ≤ length lent → Lays 0 log lent out n → record { code = 0; place = n; bytes = out } ≡ imported (read_log log) log lent
    put_all out n q l =
        (λ i. record { code = 0; place = many i; bytes = there i }) ∙ sym (ap (λ (r : Reading). imported r log lent) e ∙ fills log lent q)
      where
        room : 0 + length log ≤ length lent
        room = omega arith

        many : n ≡ length log
        many = (rw (lays_room 0 log lent room) at l.past) ∙ zero-add (length log)

        there : out ≡ log ++ drop (length log) lent
        there = (rw (lays_room 0 log lent room) at l.content) ∙ ap (λ (j : ℕ). log ++ drop j lent) (zero-add (length log))
