-- The words in which the theorems of proofs/LockReplies.antt are said.
-- Assumes nothing.
use Rattle.std.specs.Prelude.{◌≡◌, ◌&&◌, leb}
use Rattle.std.proofs.Math.Bool.{Bool, not}
use mathlib.Core.List.{[], ◌∷◌, ◌++◌}
use Rattle.std.proofs.Math.Dec.{eqb}
use Rattle.history.specs.Events.{Kind, write, ends, History, has, open_now}
use Rattle.history.specs.Replies.{cells, Request, Want, an_open, a_step, an_end, an_abandon, a_publish, want, Book}
use Rattle.history_laws.specs.ReplyLaws.{as_kind}
use Rattle.history_laws.specs.Granted.{Sound}
use Rattle.history_laws.specs.PortLaws.{Ported}
use Rattle.locks.specs.Locks.{held_up, of_step, lock_reply, lock_after}
use Rattle.locks.specs.LockLaws.{Locked}

-- the request is well-formed, its cell is real, its job is open, and its step is held up
unfoldable pub held_up_by : History → Request → Bool
held_up_by h r = eqb r.byte1 0 && of_step (λ k. not (leb cells r.cell) && (has (open_now h) r.job && held_up h k r.job r.cell)) (want r.kind)

-- the kind of step that is asked for; of a publish its write
pub data AsksStep : Want → Kind → Type 0 where
  by_step : {k : Kind} → AsksStep (a_step k) k
  by_publish : AsksStep a_publish write

-- an open, an end, an abandon
pub data Rest : Want → Type 0 where
  to_open : Rest an_open
  to_end : Rest an_end
  to_abandon : Rest an_abandon

-- a publish and its write
pub record Published (b : Book) (h : History) (r : Request) : Type 0 where
  pub replied : lock_reply b h (as_kind 6 r) ≡ lock_reply b h (as_kind 3 r)
  pub left : (lock_reply b h (as_kind 6 r)).code ≡ 0 → lock_after b h (as_kind 6 r) ≡ lock_after b h (as_kind 3 r) ++ ends r.job ∷ []

-- sound as the first profile's are, locked, and at most 16 open jobs have a port
pub record Run (b : Book) (h : History) : Type 0 where
  pub sound : Sound b.first h
  pub lock : Locked h
  pub ported : Ported b.port (open_now h)
