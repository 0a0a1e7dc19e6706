-- The words in which the theorems of proofs/Laws.antt are said.
-- Assumes nothing.
use Rattle.std.specs.Prelude.{◌≡◌, ◌⊎◌, ℕ, ◌%◌, ◌<◌, length}
use mathlib.Core.List.{List, ◌∷◌, ◌++◌}
use Rattle.graph.specs.Lists.{◌∈◌}
use Rattle.history.specs.Formats.{records}
use Rattle.history.specs.Replies.{Request, Reply}
use Rattle.held.specs.Held.{Held, answer_to, answers, after_all}
use Rattle.batch.specs.Batch.{Verdict, verdict, item_code, codes, first_refused}
use Rattle.batch.specs.Cases.{bytes}

-- the bytes are not whole requests, or more than 64
abbrev pub IllSized : List ℕ → Type 0
IllSized bytes = (length bytes % 8 ≡ 0 → ⊥) ⊎ (512 < length bytes)

abbrev pub Taken : Request → Type 0
Taken r = (r.kind ≡ 2) ⊎ ((r.kind ≡ 3) ⊎ (r.kind ≡ 7))

-- one by one every item would be granted, and every kind is taken
pub record AllGranted (h : Held) (items : List Request) : Type 0 where
  pub kinds : (r : Request) → r ∈ items → Taken r
  pub codes : (a : Reply) → a ∈ answers h items → a.code ≡ 0

-- the first item that would be refused: all before it would be granted, and on the state that they leave it gets the code
pub record FirstRefused (h : Held) (items : List Request) (c p : ℕ) : Type 0 where
  pub before : List Request
  pub item : Request
  pub rest : List Request
  pub split : items ≡ before ++ item ∷ rest
  pub granted : AllGranted h before
  pub place : p ≡ length before
  pub code : c ≡ item_code item (answer_to (after_all h before) item)
  pub refused : c ≡ 0 → ⊥

pub data Means (h : Held) (bytes : List ℕ) : Verdict → Type 0 where
  wrong_size : IllSized bytes → Means h bytes (verdict 25 0)
  one_refused : {c p : ℕ} → (IllSized bytes → ⊥) → FirstRefused h (records bytes) c p → Means h bytes (verdict c p)
  all_granted : (IllSized bytes → ⊥) → AllGranted h (records bytes) → Means h bytes (verdict 0 (length (records bytes)))

-- what the items get one by one, their places counted from n
abbrev pub gets : ℕ → Held → List Request → Verdict
gets n h items = first_refused n (codes items (answers h items))
