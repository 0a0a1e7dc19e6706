-- `exporter::export_log` meets its contract: the log is faulty, or what is read is exported. Assumes nothing.
use mathlib.Core.Path.{sym, subst, ◌∙◌}
use Prim.Native.Nat.{ℕ}
use native.Mathlib.Omega.{arith}
use Rattle.std.proofs.lemmas.Result.{err_from_is_err_and}
use Rattle.verdicts_laws.specs.SizeLaws.{log_size}
use Rattle.logs.specs.Logs.{Holds}
use Rattle.exporter.proofs.AnswerLaws.{export_faulty, export_read}
use Rattle.exporter.proofs.export_log.Goals as goal

pub returns-in_err-read_jobs : goal.returns-in_err-read_jobs
returns-in_err-read_jobs c =
    let p = err_from_is_err_and c.from_residual.result c.from_residual.ensures.1 in
    rw (p.1, p.2) (sym (export_faulty c.args.log.now c.args.out.now c.in_err-read_jobs.ensures.0))

pub export_read-requires : goal.export_read-requires
export_read-requires c =
    let k = c.in_ok-read_jobs.ensures.0 in
    let s = (log_size c.args.log.now k.0 k.1).short in
    omega arith

pub returns : goal.returns
returns c =
    let k = c.in_ok-read_jobs.ensures.0 in
    let size = (log_size c.args.log.now k.0 k.1).whole in
    c.export_read.ensures k.0 (subst (λ (m : ℕ). Holds k.0 m c.read_jobs.new.table) size k.2) ∙ sym (export_read c.args.log.now c.args.out.now k.0 k.1)
