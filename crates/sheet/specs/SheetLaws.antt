-- The words in which the theorems of proofs/SheetLaws.antt are said.
-- Assumes nothing.
use Rattle.std.specs.Prelude.{◌≡◌, List, ◌++◌, ℕ, ◌≤◌, ◌<◌, drop}
use Rattle.std.proofs.Math.ListN.{length}
use Rattle.graph.specs.Listing.{LowestFirst}
use Rattle.history.specs.Events.{History, kept_steps, Precedes}
use Rattle.history.specs.Turns.{Turns}
use Rattle.history.specs.Orders.{Accepted}
use Rattle.verdicts.specs.Logs.{faulty, events, read_log}
use Rattle.verdicts.specs.Verdicts.{Listed, refused}
use Rattle.sheet.specs.Sheet.{resting}

-- what an answer says, code by code
pub data SheetAs (h : History) (lent : List ℕ) : Listed → Type 0 where
  no_room : length lent < length (resting h) → SheetAs h lent (refused 18 (length (resting h)) lent)
  no_order : length (resting h) ≤ length lent → ((o : List ℕ) → Accepted h o → ⊥) → SheetAs h lent (refused 17 0 lent)
  a_sheet : {o s : List ℕ} → length (resting h) ≤ length lent → Accepted h o → LowestFirst (Precedes (kept_steps h)) (resting h) s → length s ≡ length (resting h)
      → SheetAs h lent (record { code = 0; place = length s; list = s ++ drop (length s) lent })

-- the answer on bytes: a fault of the log, or the answer on its events
pub data Morning (bytes lent : List ℕ) : Listed → Type 0 where
  log_faulty : {c p : ℕ} → read_log bytes ≡ faulty c p → Morning bytes lent (refused c p lent)
  log_read : {h : History} {a : Listed} → read_log bytes ≡ events h → Turns h → SheetAs h lent a → Morning bytes lent a
