-- Any arbiter whatever, with states of any sort, and what demand 2 asks of it (`Exact`); the bounded memory as one. Promises has that it is exact (`memory_meets`), and the
-- crate `refuted` has five sorts of arbiter that are not.
-- Assumes nothing.
use Rattle.std.specs.Prelude.{◌≡◌, refl, List, [], ◌∷◌, ℕ}
use Rattle.std.proofs.Common.{ap}
use Rattle.history.specs.Replies.{Request, Reply, reply_of, replies}
use Rattle.history.specs.Memory.{Memory, fresh, right, held, held_after, held_replies}

-- states of any sort, a fresh one for each first number; for a state and a request the answer, and the next state
pub record Arbiter : Type 1 where
  pub State : Type 0
  pub fresh : ℕ → State
  pub answer : State → Request → Reply
  pub next : State → Request → State

-- through a list of requests: the answers, one by one, and the state that they leave
abbrev pub answers : (a : Arbiter) → a.State → List Request → List Reply
answers a s [] = []
answers a s (r ∷ rs) = a.answer s r ∷ answers a (a.next s r) rs

abbrev pub left : (a : Arbiter) → a.State → List Request → a.State
left a s [] = s
left a s (r ∷ rs) = left a (a.next s r) rs

-- demand 2: every reply is the one that the full history gives
abbrev pub Exact : Arbiter → Type 0
Exact a = (first : ℕ) (rs : List Request) → answers a (a.fresh first) rs ≡ replies first rs

-- the bounded memory as an arbiter
abbrev pub of_memory : Arbiter
of_memory = record { State = Memory; fresh = fresh; answer = λ m r. reply_of (held right m) r; next = λ m r. held_after right m r }

pub memory_answers : (m : Memory) (rs : List Request) → answers of_memory m rs ≡ held_replies right m rs
memory_answers m [] = refl
memory_answers m (r ∷ rs) = ap (λ (l : List Reply). reply_of (held right m) r ∷ l) (memory_answers (held_after right m r) rs)
