-- `blockwriter::write_blocks` meets its contract: each way out is one of the writer's. Assumes nothing.
use Rattle.std.proofs.Common.{◌≡◌, ℕ, ap, sym, ◌∙◌, inl, inr, arith}
use Rattle.blocks.specs.Blocks.{block_count, first_blocks, blocks_of}
use Rattle.blocks.specs.Answers.{Log}
use Rattle.blocks.proofs.RunLaws.{blocks_of_length, fills_not, write_off, write_on}
use Rattle.sums.specs.Sums.{with_run}
use Rattle.blockwriter.proofs.WriteLaws.{write_done}
use Rattle.blockwriter.proofs.write_blocks.Goals as goal
use Rattle.blockwriter.proofs.write_blocks.Goals.{then-size-ne0-via-then-size-ne0, then-size-ne0-via-else-size-ne0+then-size-gt32768}

pub returns-then-size-ne0 : goal.returns-then-size-ne0
returns-then-size-ne0 c =
    elim c.then-size-ne0.branch [
      | then-size-ne0-via-then-size-ne0 w ↦ sym (write_off c.args.log.now c.args.out.now (inl w.if-size-ne0.true))
      | then-size-ne0-via-else-size-ne0+then-size-gt32768 w ↦ sym (write_off c.args.log.now c.args.out.now (inr w.if-size-gt32768.true))
    ]

pub returns-then-out-n : goal.returns-then-out-n
returns-then-out-n c =
    let log_right : Log c.args.log.now = record { whole = c.if-size-ne0.false; few = c.if-size-gt32768.false } in
    let l = log_right in
    let size = blocks_of_length c.args.log.now l in
    sym (write_on c.args.log.now c.args.out.now l ∙ fills_not (blocks_of c.args.log.now) c.args.out.now (omega arith))

pub returns : goal.returns
returns c =
    let log = c.args.log.now in
    let log_right : Log log = record { whole = c.if-size-ne0.false; few = c.if-size-gt32768.false } in
    let e : block_count log ≡ c.div_ceil-n.result = omega arith in
    write_done log c.args.out.now c.put_blocks.new.out c.div_ceil-n.result log_right (sym e) (omega arith)
    (c.put_blocks.ensures ∙ ap (λ (n : ℕ). with_run c.args.out.now 0 (first_blocks n log)) e)
