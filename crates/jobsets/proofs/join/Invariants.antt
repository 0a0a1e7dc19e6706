-- `jobsets::join` meets its contract. The loop's invariant: the words passed have the others' marks too, and the rest is as it was (`Joining`). Assumes nothing.
use mathlib.Core.Path.{◌≡◌}
use Prim.Native.Nat.{ℕ, ◌^◌, ◌<◌}
use lib.ListN.{length, get_or}
use Rattle.tallies.specs.MarkLaws.{Joining}
use Rattle.jobsets.proofs.join.Given as goal

abbrev pub invariant-loop-w : goal.invariant-loop-w
invariant-loop-w l = (length l.all ≡ 4096) × Joining l.row l.other l.w l.others l.initial.all l.all × ((0 < l.w) → (k : ℕ) → get_or l.all k 0 < 2 ^ 64)
