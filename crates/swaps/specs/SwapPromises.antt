-- The words in which the theorems of proofs/SwapPromises.antt are said.
-- Assumes nothing.
use Rattle.std.specs.Prelude.{◌≡◌, ℕ}
use mathlib.Core.List.{List, ◌∷◌, ◌++◌}
use Rattle.history.specs.Replies.{Request, Reply, replies}
use Rattle.held.specs.Held.{Held, answers, after_all}
use Rattle.swaps.specs.Swaps.{Apart}

-- two requests that are apart stand side by side in a list, and both were granted: x and y are their answers and l those after them
pub record Neighbours (h : Held) (rs : List Request) (a b : Request) (rest : List Request) (x y : Reply) (l : List Reply) : Type 0 where
  pub apart : Apart a b
  pub answered : answers h (rs ++ a ∷ b ∷ rest) ≡ answers h rs ++ x ∷ y ∷ l
  pub one_granted : x.code ≡ 0
  pub other_granted : y.code ≡ 0

-- swapped, each request of the list gets the answer that it got, and the list leaves the same state
pub record NeighboursSwapped (h : Held) (rs : List Request) (a b : Request) (rest : List Request) (x y : Reply) (l : List Reply) : Type 0 where
  pub answered : answers h (rs ++ b ∷ a ∷ rest) ≡ answers h rs ++ y ∷ x ∷ l
  pub same_state : after_all h (rs ++ b ∷ a ∷ rest) ≡ after_all h (rs ++ a ∷ b ∷ rest)

-- the same of the replies of the full history
pub record Granted (first : ℕ) (rs : List Request) (a b : Request) (rest : List Request) (x y : Reply) (l : List Reply) : Type 0 where
  pub apart : Apart a b
  pub answered : replies first (rs ++ a ∷ b ∷ rest) ≡ replies first rs ++ x ∷ y ∷ l
  pub one_granted : x.code ≡ 0
  pub other_granted : y.code ≡ 0
