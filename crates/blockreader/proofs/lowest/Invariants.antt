-- `blockreader::lowest` meets its contract. The loop's invariant: the blocks passed are without fault, and what is left is what is past them. Assumes nothing.
use Rattle.std.proofs.Common.{◌≡◌, ◌*◌, ◌≤◌, drop}
use Rattle.std.proofs.Math.Option.{none}
use Rattle.blocks.specs.Blocks.{lowest_fault}
use Rattle.blockreader.proofs.lowest.Given as goal

abbrev pub invariant-loop-k : goal.invariant-loop-k
invariant-loop-k l =
    let k = l.k-iterator.count in
    (l.k-iterator.iter.size ≡ 512)
    × (l.k-iterator.iter.rest.now ≡ drop (512 * k) l.blocks)
    × (k ≤ l.n)
    × (lowest_fault l.n l.blocks k ≡ none)
