-- `blockreader::fault_at` meets its contract: each way out is one of the faults of the block, in their order, or none. Assumes nothing.
use Rattle.std.proofs.Common.{sym, ◌∙◌, arith}
use lib.Seq.{length-take-le}
use Rattle.sums.specs.declared.Sums.{Sums}
use Rattle.blockreader.proofs.FaultLaws.{one_wrong, both_right, number_wrong, count_found, unused_found, nothing_found}
use Rattle.blockreader.proofs.fault_at.Goals as goal

pub slice_bounds-front-end : goal.slice_bounds-front-end
slice_bounds-front-end c = sym (length-take-le 504 c.args.bytes.now (omega arith))

pub returns-then-ne : goal.returns-then-ne
returns-then-ne c =
    let stored : Sums = record { first = c.word_at.result; second = c.word_at-2.result } in
    sym (one_wrong c.args.n c.args.k c.args.bytes.now c.requires.0 stored c.add_up.result c.add_up.ensures c.word_at.ensures c.word_at-2.ensures c.if-ne.ensures)

pub returns-then-word_at-k : goal.returns-then-word_at-k
returns-then-word_at-k c =
    let stored : Sums = record { first = c.word_at.result; second = c.word_at-2.result } in
    let right = both_right c.args.n c.args.k c.args.bytes.now c.requires.0 stored c.add_up.result c.add_up.ensures c.word_at.ensures c.word_at-2.ensures c.if-ne.ensures in
    sym (number_wrong c.args.n c.args.k c.args.bytes.now c.requires.0 right c.word_at-3.result c.word_at-3.ensures (omega arith) c.if-word_at-k.true)

pub returns-then-miscounted : goal.returns-then-miscounted
returns-then-miscounted c =
    let stored : Sums = record { first = c.word_at.result; second = c.word_at-2.result } in
    let right = both_right c.args.n c.args.k c.args.bytes.now c.requires.0 stored c.add_up.result c.add_up.ensures c.word_at.ensures c.word_at-2.ensures c.if-ne.ensures in
    sym (count_found c.args.n c.args.k c.args.bytes.now c.requires.0 right c.word_at-count.result c.word_at-count.ensures (sym c.miscounted.ensures ∙ c.if-miscounted.true))

pub used-requires : goal.used-requires
used-requires c = (length-take-le 504 c.args.bytes.now (omega arith), omega arith)

pub returns-then-used : goal.returns-then-used
returns-then-used c =
    let stored : Sums = record { first = c.word_at.result; second = c.word_at-2.result } in
    let right = both_right c.args.n c.args.k c.args.bytes.now c.requires.0 stored c.add_up.result c.add_up.ensures c.word_at.ensures c.word_at-2.ensures c.if-ne.ensures in
    sym (unused_found c.args.n c.args.k c.args.bytes.now c.requires.0 right c.word_at-count.result c.word_at-count.ensures
    (sym c.miscounted.ensures ∙ c.if-miscounted.false) (sym c.if-used.true ∙ c.used.ensures))

pub returns : goal.returns
returns c =
    let stored : Sums = record { first = c.word_at.result; second = c.word_at-2.result } in
    let right = both_right c.args.n c.args.k c.args.bytes.now c.requires.0 stored c.add_up.result c.add_up.ensures c.word_at.ensures c.word_at-2.ensures c.if-ne.ensures in
    nothing_found c.args.n c.args.k c.args.bytes.now c.requires.0 right c.word_at-count.result c.word_at-count.ensures
    (sym c.miscounted.ensures ∙ c.if-miscounted.false) c.word_at-3.result c.word_at-3.ensures c.if-word_at-k.false (sym c.if-used.false ∙ c.used.ensures)
