-- `blockreader::read_blocks` meets its contract: each way out is one of the reader's. Assumes nothing.
use Rattle.std.proofs.Common.{refl, sym, inl, inr, arith}
use Rattle.blocks.specs.Blocks.{fault}
use Rattle.blocks.proofs.RunLaws.{read_off}
use Rattle.blockreader.specs.Answers.{code_of, block_of}
use Rattle.std.proofs.lemmas.Result.{err_from_is_err_and}
use Rattle.std.specs.declared.result.Result.TheVariants.{Err}
use Rattle.blockreader.proofs.ReadLaws.{read_fault, unfaulted, read_short, read_done}
use Rattle.blockreader.proofs.read_blocks.Goals as goal
use Rattle.blockreader.proofs.read_blocks.Goals.{then-size-ne0-via-then-size-ne0, then-size-ne0-via-else-size-ne0+then-size-gt34304}

pub returns-then-size-ne0 : goal.returns-then-size-ne0
returns-then-size-ne0 c =
    elim c.then-size-ne0.branch [
      | then-size-ne0-via-then-size-ne0 w ↦ sym (read_off c.args.blocks.now c.args.out.now (inl w.if-size-ne0.true))
      | then-size-ne0-via-else-size-ne0+then-size-gt34304 w ↦ sym (read_off c.args.blocks.now c.args.out.now (inr w.if-size-gt34304.true))
    ]

pub returns-in_err-lowest : goal.returns-in_err-lowest
returns-in_err-lowest c =
    let p = err_from_is_err_and c.from_residual.result c.from_residual.ensures.1 in
    rw (p.1, p.2)
    (read_fault c.args.blocks.now c.args.out.now c.if-size-ne0.false c.if-size-gt34304.false (Err c.in_err-lowest.field-0.0) (fault (code_of c.in_err-lowest.field-0.0) (block_of c.in_err-lowest.field-0.0)) c.in_err-lowest.ensures refl)

pub size_in-many-requires : goal.size_in-many-requires
size_in-many-requires c = unfaulted c.args.blocks.now c.args.out.now c.if-size-ne0.false c.if-size-gt34304.false c.in_ok-lowest.ensures

pub returns-then-out-many : goal.returns-then-out-many
returns-then-out-many c = read_short c.args.blocks.now c.args.out.now c.if-size-ne0.false c.if-size-gt34304.false c.in_ok-lowest.ensures c.size_in-many.result c.size_in-many.ensures c.if-out-many.true

pub copy_records-requires : goal.copy_records-requires
copy_records-requires c = (unfaulted c.args.blocks.now c.args.out.now c.if-size-ne0.false c.if-size-gt34304.false c.in_ok-lowest.ensures, omega arith)

pub returns : goal.returns
returns c =
    read_done c.args.blocks.now c.args.out.now c.if-size-ne0.false c.if-size-gt34304.false c.in_ok-lowest.ensures c.copy_records.new.out c.size_in-many.result c.size_in-many.ensures c.if-out-many.false c.copy_records.ensures
