-- The words in which the theorems of proofs/LockPromises.antt are said.
-- Assumes nothing.
use Rattle.std.specs.Prelude.{◌≡◌, ◌↔◌}
use Rattle.history.specs.Events.{Kind, History, kept_steps, Circular}
use Rattle.history.specs.Replies.{Request, Book, reply, after, book_after}
use Rattle.history.specs.Turns.{Turns}
use Rattle.locks.specs.Locks.{HeldUp, lock_reply, lock_after, lock_book_after}

-- and every part of the history, wherever it is cut, in the middle of a publish too, is in turn and has no circle
pub record Part (p : History) : Type 0 where
  pub turns : Turns p
  pub no_circle : Circular (kept_steps p) → ⊥

-- a well-formed step or publish of an open job on a real cell is put off exactly when another open job holds the cell against it, and is granted otherwise
pub record StepReply (b : Book) (h : History) (r : Request) (k : Kind) : Type 0 where
  pub put_off : HeldUp h k r.job r.cell ↔ ((lock_reply b h r).code ≡ 10)
  pub granted : (HeldUp h k r.job r.cell → ⊥) ↔ ((lock_reply b h r).code ≡ 0)

-- an open, an end and an abandon follow the first profile, whatever the history: the reply, and what is granted, and the ports
pub record AsFirst (b : Book) (h : History) (r : Request) : Type 0 where
  pub replied : lock_reply b h r ≡ reply b h r
  pub left : lock_after b h r ≡ after b h r
  pub booked : lock_book_after b h r ≡ book_after b h r

-- after it a request is put off and nothing changes, or it gets the first profile's reply and leaves what it leaves there
pub data OrFirst (b : Book) (h : History) (r : Request) : Type 0 where
  is_off : lock_reply b h r ≡ record { code = 10; job = 0 } → lock_after b h r ≡ h → lock_book_after b h r ≡ b → OrFirst b h r
  as_first : AsFirst b h r → OrFirst b h r
