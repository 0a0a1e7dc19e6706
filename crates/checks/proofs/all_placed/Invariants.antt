-- `checks::all_placed` meets its contract. The loop's invariant: of the jobs passed, the kept ones are as many as counted, and each has a place (`Counting`).
-- Assumes nothing.
use Prim.Native.Nat.{◌≤◌}
use lib.ListN.{length}
use Rattle.tallies.specs.CountLaws.{Counting}
use Rattle.checks.proofs.all_placed.Given as goal

abbrev pub invariant-loop-state : goal.invariant-loop-state
invariant-loop-state l = (l.kept ≤ length l.yielded) × Counting l.fn.states l.fn.placed (length l.yielded) l.kept
