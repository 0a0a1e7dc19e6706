-- What a run by any profile leaves is, by the rule of locks, what the crate `locks` says. Assumes nothing.
use mathlib.Core.Path.{◌≡◌, refl, ap}
use mathlib.Core.List.{List, [], ◌∷◌}
use Prim.Native.Nat.{ℕ}
use lib.Dec.{eqb}
use lib.ListN.{length}
use Rattle.std.specs.Prelude.{Option}
use Rattle.history.specs.Formats.{records}
use Rattle.history.specs.Replies.{Request, Reply}
use Rattle.held.specs.Held.{Held}
use Rattle.locks.specs.Locks.{put_off}
use Rattle.locks.specs.LocksHeld.{lock_answer, lock_next, lock_answers, lock_state}
use Rattle.lines.specs.Lines.{lines}
use Rattle.lines.specs.Runs.{replies_by, state_by, WritesBy}
use Rattle.lines.specs.declared.Written.{Written}
use Rattle.lines.proofs.RunLaws.{leaves_alike}
use Rattle.locklines.specs.LockLines.{lock_lines_of, off_of}
use Rattle.locklines.specs.LockWrites.{LockWrites}

lock_replies_by : (h : Held) (rs : List Request) → replies_by lock_answer lock_next h rs ≡ lock_answers h rs
lock_replies_by h [] = refl
lock_replies_by h (r ∷ rs) = ap (λ (l : List Reply). lock_answer h r ∷ l) (lock_replies_by (lock_next h r) rs)

lock_state_by : (h : Held) (rs : List Request) → state_by lock_next h rs ≡ lock_state h rs
lock_state_by h [] = refl
lock_state_by h (r ∷ rs) = lock_state_by (lock_next h r) rs

pub lock_leaves : (p : ℕ) (input : List ℕ) {h h' : Held} {out out' : List ℕ} {r : Option Written}
    → WritesBy lock_answer lock_next (λ (a : Reply). eqb a.code 10) p h input out r h' out' → LockWrites p h input out r h' out'
unfolding lock_lines_of off_of
lock_leaves p input {h} a =
    let e = lock_replies_by h (records input) in
    leaves_alike a (ap (λ (l : List Reply). let w : Written = record { bytes = length (lines p l); counted = put_off l } in w) e) (ap (lines p) e) (lock_state_by h (records input))
