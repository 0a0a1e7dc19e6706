-- Import and export, and what their answers mean, code by code: the words in which Promises speaks.
--
-- An answer is a code and a place, and what then stands in the lent bytes (`Filled` of Blocks in the crate blocks; `filled` is code 0 and the count of the bytes, or 24 where they
-- have no room). Import tests the form first, then the log that the text says by the rules for logs, then the room; export tests the log, then
-- whether it holds an add, which the form cannot say, of whichever job, then the room.
-- Assumes nothing.
use Rattle.std.specs.Prelude.{◌≡◌, Bool, true, false, cond, List, [], ◌∷◌, ℕ, suc, ◌≤◌, ◌<◌, ltb, length, take}
use Rattle.graph.specs.Lists.{◌∈◌}
use Rattle.history.specs.Events.{read, write, add, Event, opens, steps, ends, abandons, History}
use Rattle.verdicts.specs.Logs.{Reading, faulty, events, read_log, log_of}
use Rattle.blocks.specs.Blocks.{Filled, refused, done, filled}
use Rattle.notation.specs.Notation.{text_of, Says, Wrong, without_abandoned, NoAdd, FirstAdd}
use Rattle.notation.specs.Parse.{Parsed, wrong, says, parse}

-- ---- import

abbrev pub imported : Reading → List ℕ → List ℕ → Filled
imported (faulty c p) log lent = refused c p lent
imported (events h) log lent = filled log lent

abbrev pub import_of : Parsed → List ℕ → Filled
import_of (wrong p) lent = refused 26 p lent
import_of (says h) lent = imported (read_log (log_of h)) (log_of h) lent

unfoldable pub import : List ℕ → List ℕ → Filled
import text lent = import_of (parse text) lent

-- ---- export

-- is it an add?
abbrev pub adds : Event → Bool
adds (opens j) = false
adds (steps read j c) = false
adds (steps write j c) = false
adds (steps add j c) = true
adds (ends j) = false
adds (abandons j) = false

-- how many events stand before the first add: its place, or the count of all where there is none
unfoldable pub before_adds : History → ℕ
before_adds [] = 0
before_adds (e ∷ h) = cond (adds e) 0 (suc (before_adds h))

-- the text of a history whose first add stands at p, if p is a place in it
abbrev pub exported : History → ℕ → List ℕ → Filled
exported h p lent = cond (ltb p (length h)) (refused 27 p lent) (filled (text_of (without_abandoned h)) lent)

abbrev pub export_of : Reading → List ℕ → Filled
export_of (faulty c p) lent = refused c p lent
export_of (events h) lent = exported h (before_adds h) lent

unfoldable pub export : List ℕ → List ℕ → Filled
export log lent = export_of (read_log log) lent

-- what was written, and no more of the lent bytes
abbrev pub written : Filled → List ℕ
written a = take a.place a.bytes

-- numbers of eight bits, as every log and every text of a program has them
abbrev pub Bytes : List ℕ → Type 0
Bytes l = (b : ℕ) → b ∈ l → b < 256

-- ---- what they mean

-- import: the text is not of the form; it says a log that the rules for logs refuse (11, where it has more than 4,096 symbols, to 14); there is no room; or it is the log
pub data Imported (text lent : List ℕ) : Filled → Type 0 where
  not_of_form : {p : ℕ} → Wrong text p → Imported text lent (refused 26 p lent)
  bad_log : {h : History} {c p : ℕ} → Says text h → read_log (log_of h) ≡ faulty c p → Imported text lent (refused c p lent)
  no_room : {h : History} → Says text h → read_log (log_of h) ≡ events h → length lent < length (log_of h) → Imported text lent (refused 24 0 lent)
  imports : {h : History} → Says text h → read_log (log_of h) ≡ events h → length (log_of h) ≤ length lent → Imported text lent (done (log_of h) lent)

-- export: the log is refused; it holds an add, the first at the place told; there is no room; or its text stands there, the abandoned jobs left out
pub data Exported (log lent : List ℕ) : Filled → Type 0 where
  bad_log : {c p : ℕ} → read_log log ≡ faulty c p → Exported log lent (refused c p lent)
  holds_add : {h : History} {p : ℕ} → read_log log ≡ events h → FirstAdd h p → Exported log lent (refused 27 p lent)
  no_room : {h : History} → read_log log ≡ events h → NoAdd h → length lent < length (text_of (without_abandoned h)) → Exported log lent (refused 24 0 lent)
  exports : {h : History} → read_log log ≡ events h → NoAdd h → length (text_of (without_abandoned h)) ≤ length lent → Exported log lent (done (text_of (without_abandoned h)) lent)
