-- The bytes that wait are within the buffer.
use Rattle.std.proofs.Common.{length, ◌≤◌}
use Rattle.host.proofs.hand_on.Given as goal

abbrev pub invariant-loop-turn : goal.invariant-loop-turn
invariant-loop-turn g l = l.waiting ≤ length l.buf
