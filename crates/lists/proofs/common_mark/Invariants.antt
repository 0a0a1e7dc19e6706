-- `lists::common_mark` meets its contract. The loop's invariant: the words passed, from the highest down, have nothing in common. Assumes nothing.
use mathlib.Core.Path.{◌≡◌}
use Prim.Native.Nat.{ℕ, ◌+◌, ◌*◌, ◌≤◌, ◌<◌}
use lib.Bits.{bit_and}
use lib.ListN.{get_or}
use Rattle.lists.proofs.common_mark.Given as goal

abbrev pub invariant-loop-w : goal.invariant-loop-w
invariant-loop-w l = (k : ℕ) → l.w ≤ k → k < 8 → bit_and (get_or l.rows (l.row * 8 + k) 0) (get_or l.words k 0) ≡ 0
