-- `blockreader::copy_records` meets its contract. The loop's invariant: the records of the blocks passed are copied, the rest is as it was, and what is left is what is past those blocks. Assumes nothing.
use Rattle.std.proofs.Common.{◌≡◌, ◌*◌, ◌≤◌, length, drop}
use Rattle.blocks.specs.Blocks.{first_records}
use Rattle.sums.specs.Sums.{with_run}
use Rattle.blockreader.proofs.copy_records.Given as goal

abbrev pub invariant-loop-k : goal.invariant-loop-k
invariant-loop-k l =
    let k = l.k-iterator.count in
    (l.k-iterator.iter.size ≡ 512)
    × (l.k-iterator.iter.rest.now ≡ drop (512 * k) l.blocks)
    × (k ≤ l.n)
    × (length l.out ≡ length l.initial.out)
    × (l.out ≡ with_run l.initial.out 0 (first_records k l.blocks))
