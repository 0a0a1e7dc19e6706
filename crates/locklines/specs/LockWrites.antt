-- What the contract of a run says: as `Writes` of lines does for the first profile, the bytes that stand in the output, and the state that is left; and the number that was put off.
-- Assumes nothing.
use Rattle.std.specs.Prelude.{List, ℕ, length, Option}
use Rattle.history.specs.Formats.{records}
use Rattle.held.specs.Held.{Held}
use Rattle.locks.specs.LocksHeld.{lock_state}
use Rattle.lines.specs.Writes.{roomy, Leaves}
use Rattle.lines.specs.declared.Written.{Written}
use Rattle.locklines.specs.LockLines.{lock_lines_of, off_of}

abbrev pub LockWrites : ℕ → Held → List ℕ → List ℕ → Option Written → Held → List ℕ → Type 0
LockWrites p h input out r h' out' =
    let bytes = lock_lines_of p h input in
    Leaves (roomy p input out) (record { bytes = length bytes; counted = off_of h input }) bytes out h (lock_state h (records input)) r h' out'
