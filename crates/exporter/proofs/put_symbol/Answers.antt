-- `exporter::put_symbol` meets its contract: each way out is for the rows of one kind. Assumes nothing.
use mathlib.Core.Path.{sym, ap}
use native.Mathlib.Omega.{arith}
use Rattle.notation.specs.Notation.{symbol}
use Rattle.exporter.proofs.PutLaws.{puts_fewer, puts_as, reads_at, writes_at, opens_at, ends_at}
use Rattle.exporter.proofs.put_symbol.Goals as goal

pub returns-in-0-to-255 : goal.returns-in-0-to-255
returns-in-0-to-255 c = puts_as (ap symbol (sym (reads_at c.args.row c.args.job (omega arith)))) c.put_step.ensures

pub returns-in-256-to-511 : goal.returns-in-256-to-511
returns-in-256-to-511 c =
    puts_as (ap symbol (sym (writes_at c.args.row c.args.job (omega arith) (omega arith)))) c.put_step-in-256-to-511.ensures

pub returns-in-768 : goal.returns-in-768
returns-in-768 c =
    puts_as (ap symbol (sym (opens_at c.args.row c.args.job (omega arith)))) (puts_fewer c.put_job.ensures (omega arith))

pub returns-in_default : goal.returns-in_default
returns-in_default c =
    puts_as (ap symbol (sym (ends_at c.args.row c.args.job (omega arith) (λ e. omega arith)))) (puts_fewer c.put_job-in_default.ensures (omega arith))
