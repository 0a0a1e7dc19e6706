-- `blockwriter::put_blocks` meets its contract. The loop's invariant: the blocks passed are put down, the rest is as it was, and what is left of the log is what is past them. Assumes nothing.
use Rattle.std.proofs.Common.{◌≡◌, ◌+◌, ◌*◌, ◌<◌, length, drop}
use Rattle.blocks.specs.Blocks.{first_blocks}
use Rattle.sums.specs.Sums.{with_run}
use Rattle.blockwriter.proofs.put_blocks.Given as goal

abbrev pub invariant-loop-k : goal.invariant-loop-k
invariant-loop-k l =
    let k = l.k-iterator.count in
    (l.k-iterator.iter.size ≡ 496)
    × (l.k-iterator.iter.rest.now ≡ drop (496 * k) l.log)
    × (496 * k < length l.log + 496)
    × (length l.out ≡ length l.initial.out)
    × (l.out ≡ with_run l.initial.out 0 (first_blocks k l.log))
