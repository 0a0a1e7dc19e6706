-- `importer::put_log` meets its contract: the log has a fault, or there is no room, or it is put down. Assumes nothing.
use native.Mathlib.Omega.{arith}
use Rattle.std.proofs.lemmas.Result.{err_from_is_err_and}
use Rattle.importer.proofs.AnswerLaws.{put_fault, put_not, put_all}
use Rattle.importer.proofs.put_log.Goals as goal

pub returns-in_err-judge : goal.returns-in_err-judge
returns-in_err-judge c =
    let p = err_from_is_err_and c.from_residual.result c.from_residual.ensures.1 in
    rw (p.1, p.2) (put_fault c.args.log.now c.args.out.now c.in_err-judge.ensures)

pub returns-then-out-log : goal.returns-then-out-log
returns-then-out-log c =
    let k = c.in_ok-judge.ensures in put_not c.args.log.now c.args.out.now k.1 (omega arith)

pub returns : goal.returns
returns c =
    let k = c.in_ok-judge.ensures in
    put_all c.args.log.now c.args.out.now k.1 c.put_text.new.out c.put_text.result (omega arith) c.put_text.ensures
