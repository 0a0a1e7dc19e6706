-- `ledger::reedtangle_read_blocks` meets its contract: the code is at most 24 and the place at most 34,304, so that both fit in one number. Assumes nothing.
use Rattle.std.proofs.Common.{ap, arith}
use Rattle.blocks.specs.Blocks.{Filled}
use Rattle.blocks.proofs.Promises.{read_small}
use Rattle.ledger.proofs.reedtangle_read_blocks.Goals as goal

pub returns : goal.returns
returns c =
    let s = read_small c.args.blocks.now c.args.out.now in
    let code = ap (λ (a : Filled). a.code) c.read_blocks.ensures in
    let place = ap (λ (a : Filled). a.place) c.read_blocks.ensures in
    (omega arith, ap (λ (a : Filled). a.bytes) c.read_blocks.ensures)
