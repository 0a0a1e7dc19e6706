-- `locking::barred` meets its contract. The loop's invariant: no row passed bars the slot. The measure is what is left of the rows. Assumes nothing.
use Prim.Native.Nat.{ℕ, ◌<◌}
use mathlib.Core.Path.{◌≡◌}
use mathlib.Core.Bool.{false}
use Rattle.locking.specs.Locking.{bars}
use Rattle.locking.proofs.barred.Given as goal

abbrev pub invariant-loop-i : goal.invariant-loop-i
invariant-loop-i l = (k : ℕ) → k < l.i → bars l.free l.sets l.alters l.slot.0 l.place l.mark k ≡ false
