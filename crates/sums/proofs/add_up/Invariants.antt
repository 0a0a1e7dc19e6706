-- `sums::add_up` meets its contract. The loop's invariant: the two sums are those of the words passed, modulo 2 ^ 32. Assumes nothing.
use Rattle.std.proofs.Common.{◌≡◌, ◌*◌, ◌%◌, take}
use Rattle.blocks.specs.Blocks.{words, total, running}
use Rattle.sums.proofs.add_up.Given as goal

abbrev pub invariant-loop-word : goal.invariant-loop-word
invariant-loop-word l =
    (l.first ≡ total (words (take (l.word-index * 4) l.front)) % 4294967296)
    × (l.second ≡ total (running 0 (words (take (l.word-index * 4) l.front))) % 4294967296)
