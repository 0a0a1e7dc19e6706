-- Logs in the notation of Casanova and Bernstein 1981 (document 02, order 5): the text of a history, which texts are of this form, where a text goes wrong, what export leaves out and what it refuses.
--
-- A symbol is a letter and a job number in decimal, B for an open, R for a read, W for a write, E for an end; a read and a write have their cell after it, in decimal, in
-- square brackets. One blank stands between two symbols, and nothing before the first or after the last. An abandon has no symbol and an add has none, and the form
-- cannot say them.
-- How a text is read, byte by byte, stands in Parse; that it is read so exactly when this file says so is proved in ParseLaws. What import and export answer stands in Answers.
-- Assumes nothing.
use Rattle.std.specs.Prelude.{◌≡◌, not, List, [], ◌∷◌, ◌++◌, ℕ, suc, ◌<◌, length, take}
use Rattle.graph.specs.Lists.{◌∈◌, only}
use Rattle.text.specs.Decimal.{decimal}
use Rattle.history.specs.Events.{read, write, add, Event, opens, steps, ends, abandons, History, has, abandoned}

-- ---- the text of a history

-- a letter, the job and the cell
abbrev pub on_cell : ℕ → ℕ → ℕ → List ℕ
on_cell letter j c = letter ∷ (decimal j ++ (91 ∷ (decimal c ++ (93 ∷ []))))

abbrev pub symbol : Event → List ℕ
symbol (opens j) = 66 ∷ decimal j
symbol (steps read j c) = on_cell 82 j c
symbol (steps write j c) = on_cell 87 j c
symbol (steps add j c) = []
symbol (ends j) = 69 ∷ decimal j
symbol (abandons j) = []

abbrev pub text_of : History → List ℕ
text_of [] = []
text_of (e ∷ []) = symbol e
text_of (e ∷ f ∷ h) = symbol e ++ (32 ∷ text_of (f ∷ h))

-- ---- the form

-- job numbers of 32 bits, cells of 16, no add and no abandon
abbrev pub Sayable : Event → Type 0
Sayable (opens j) = j < 4_294_967_296
Sayable (steps read j c) = (j < 4_294_967_296) × (c < 65_536)
Sayable (steps write j c) = (j < 4_294_967_296) × (c < 65_536)
Sayable (steps add j c) = ⊥
Sayable (ends j) = j < 4_294_967_296
Sayable (abandons j) = ⊥

-- the text says the events h
pub record Says (t : List ℕ) (h : History) : Type 0 where
  pub sayable : (e : Event) → e ∈ h → Sayable e
  pub text : t ≡ text_of h

-- a text of the form, and the beginning of one
abbrev pub Form : List ℕ → Type 0
Form t = (h : History) × Says t h

abbrev pub Begins : List ℕ → Type 0
Begins t = (u : List ℕ) × Form (t ++ u)

-- where a text that is not of the form goes wrong: the first byte that no text of the form could have there, or the length if it only stops short
pub data Wrong (t : List ℕ) : ℕ → Type 0 where
  no_such_byte : {p : ℕ} → p < length t → Begins (take p t) → (Begins (take (suc p) t) → ⊥) → Wrong t p
  stops_short : Begins t → (Form t → ⊥) → Wrong t (length t)

-- ---- what export leaves out

abbrev pub job_in : Event → ℕ
job_in (opens j) = j
job_in (steps k j c) = j
job_in (ends j) = j
job_in (abandons j) = j

-- the history without the jobs that were abandoned
unfoldable pub without_abandoned : History → History
without_abandoned h = only (λ e. not (has (abandoned h) (job_in e))) h

-- ---- what export refuses

-- no add is among the events
abbrev pub NoAdd : History → Type 0
NoAdd h = (j c : ℕ) → steps add j c ∈ h → ⊥

-- the first add stands at the place p, counted from 0
pub record FirstAdd (h : History) (p : ℕ) : Type 0 where
  pub before : History
  pub job : ℕ
  pub cell : ℕ
  pub after : History
  pub split : h ≡ before ++ steps add job cell ∷ after
  pub place : p ≡ length before
  pub none_before : NoAdd before
