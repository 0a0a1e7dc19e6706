-- The words in which the theorems of proofs/Promises.antt are said.
-- Assumes nothing.
use Rattle.std.specs.Prelude.{◌≡◌, ◌↔◌, List, ◌++◌, ℕ, length, drop}
use Rattle.graph.specs.Lists.{◌∈◌, Once}
use Rattle.history.specs.Events.{History}
use Rattle.history.specs.Replies.{Request, history_of}
use Rattle.verdicts.specs.Logs.{log_of}
use Rattle.verdicts.specs.Verdicts.{check}
use Rattle.sheet.specs.Sheet.{AtRest, list_sheet}

-- the sheet names exactly the jobs at rest, each once
pub record Names (h : History) (s : List ℕ) : Type 0 where
  pub once : Once s
  pub names : (j : ℕ) → (j ∈ s) ↔ AtRest h j

-- the whole promise, on bytes: what is given for the log of granted requests begins a list that the checker accepts for the log of those and any more, while the longer log is within the sizes
pub record WillNotMove (first : ℕ) (rs rs' : List Request) (lent : List ℕ) : Type 0 where
  pub sheet : List ℕ
  pub names : Names (history_of first rs) sheet
  pub given : list_sheet (log_of (history_of first rs)) lent ≡ record { code = 0; place = length sheet; list = sheet ++ drop (length sheet) lent }
  pub rest : List ℕ
  pub accepted : (check (log_of (history_of first (rs ++ rs'))) (sheet ++ rest)).code ≡ 0
