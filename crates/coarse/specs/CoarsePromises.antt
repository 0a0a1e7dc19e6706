-- The words in which the theorems of proofs/CoarsePromises.antt are said.
-- Assumes nothing.
use Rattle.std.specs.Prelude.{◌≡◌, ◌↔◌, List, map, ℕ, ◌+◌, ◌≤◌, ◌<◌, length}
use Rattle.graph.specs.Lists.{◌∈◌, Before}
use Rattle.history.specs.Events.{Kind, History, opened, ended, abandoned, kept, open_now, wrote, kept_steps, Circular}
use Rattle.history.specs.Replies.{cells, most_open, most_of_port, numbers, Request, of_port, Book, replies, history_of, book_of}
use Rattle.coarse.specs.Coarse.{grouped, in_group, with_step, coarse_reply, coarse_replies, coarse_history, coarse_book_of, TurnsBelow}

-- the replies are those of the exact rule to the requests with their cells grouped, one by one, and the log, grouped, is the history that these leave; the book is theirs
pub record AsExact (g : ℕ → ℕ) (first : ℕ) (rs : List Request) : Type 0 where
  pub answered : coarse_replies g first rs ≡ replies first (map (in_group g) rs)
  pub left : grouped g (coarse_history g first rs) ≡ history_of first (map (in_group g) rs)
  pub booked : coarse_book_of g first rs ≡ book_of first (map (in_group g) rs)

-- cells have no part in which jobs are opened, ended, abandoned, kept, open, and which have written
pub record SameJobs (g : ℕ → ℕ) (h : History) : Type 0 where
  pub opened_ones : opened (grouped g h) ≡ opened h
  pub ended_ones : ended (grouped g h) ≡ ended h
  pub abandoned_ones : abandoned (grouped g h) ≡ abandoned h
  pub kept_ones : kept (grouped g h) ≡ kept h
  pub open_ones : open_now (grouped g h) ≡ open_now h
  pub writers : (j : ℕ) → wrote (grouped g h) j ≡ wrote h j

-- a well-formed step, or publish, of an open job on a real cell is granted exactly when with it the grouped kept history has no circle, and else gets 7
pub record CoarseStep (g : ℕ → ℕ) (b : Book) (h : History) (k : Kind) (r : Request) : Type 0 where
  pub granted : (Circular (kept_steps (grouped g (with_step h k r))) → ⊥) ↔ ((coarse_reply g b h r).code ≡ 0)
  pub refused : Circular (kept_steps (grouped g (with_step h k r))) ↔ ((coarse_reply g b h r).code ≡ 7)

-- every log that the mode grants is in turn, by its true cells too, for any bound of the cells that the bound of the groups gives; its numbers were issued one after the
-- other, each once and below 2^32; at most 32 jobs are open, and of a port 16
pub record CoarseSound (g : ℕ → ℕ) (first : ℕ) (b : Book) (h : History) : Type 0 where
  pub turns : (n : ℕ) → ((c : ℕ) → g c < cells → c < n) → TurnsBelow n h
  pub issued : (j : ℕ) → j ∈ opened h → j < first + length (opened h)
  pub once : (i j : ℕ) → Before i j (opened h) → i < j
  pub in_range : (j : ℕ) → j ∈ opened h → j < numbers
  pub few : length (open_now h) ≤ most_open
  pub few_of_port : (p : ℕ) → length (of_port b.port p (open_now h)) ≤ most_of_port
