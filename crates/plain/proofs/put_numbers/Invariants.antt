-- `plain::put_numbers` meets its contract. The loop's invariant: the place is within the buffer if the first was, and the buffer keeps its length.
-- Assumes nothing.
use mathlib.Core.Path.{◌≡◌}
use lib.ListN.{length}
use Rattle.plain.specs.Stays.{Stays}
use Rattle.plain.proofs.put_numbers.Given as goal

abbrev pub invariant-loop-number : goal.invariant-loop-number
invariant-loop-number l = (Stays l.at l.initial.out l.out l.to) × (length l.out ≡ length l.initial.out)
