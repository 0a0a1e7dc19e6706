-- `exporter::put_told` meets its contract: nothing for an abandon and for an abandoned job, and else a symbol after the blank. Assumes nothing.
use mathlib.Core.Path.{sym}
use native.Mathlib.Omega.{arith}
use Rattle.exporter.proofs.PutLaws.{puts_nothing, puts_as, puts_both, told_none, told_gone, told_kept}
use Rattle.exporter.proofs.put_told.Goals as goal

pub returns-then-step-eq0 : goal.returns-then-step-eq0
returns-then-step-eq0 c =
    puts_nothing c.args.out.now c.args.at 17 (told_none c.args.table.now.numbers c.args.table.now.states c.args.step c.args.at (omega arith))

pub returns-then-table-job-eq-ABANDONED : goal.returns-then-table-job-eq-ABANDONED
returns-then-table-job-eq-ABANDONED c =
    puts_nothing c.args.out.now c.args.at 17 (told_gone c.args.table.now.numbers c.args.table.now.states c.args.step c.args.at c.if-step-eq0.false (omega arith))

pub returns : goal.returns
returns c =
    puts_as (sym (told_kept c.args.table.now.numbers c.args.table.now.states c.args.step c.args.at c.if-step-eq0.false (λ e. omega arith))) (puts_both c.put_blank-from.ensures c.put_symbol.ensures)
