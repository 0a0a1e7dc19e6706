-- `importer::import_log` meets its contract: the text is wrong, or has too many symbols, or its log is judged and put down. Assumes nothing.
use mathlib.Core.Path.{sym, ap, ◌∙◌}
use mathlib.Core.List.{List}
use Prim.Native.Nat.{ℕ}
use native.Mathlib.Omega.{arith}
use Rattle.std.proofs.lemmas.Result.{err_from_is_err_and}
use Rattle.verdicts.specs.Logs.{read_log}
use Rattle.notation.specs.Answers.{imported}
use Rattle.importer.proofs.AnswerLaws.{import_wrong, import_long, import_says}
use Rattle.importer.proofs.import_log.Goals as goal

pub returns-in_err-count : goal.returns-in_err-count
returns-in_err-count c =
    let p = err_from_is_err_and c.from_residual.result c.from_residual.ensures.1 in
    let w = c.in_err-count.ensures in
    rw (p.1, p.2, w.1) (import_wrong c.args.text.now c.args.out.now w.2)

pub returns-then-count-gt4096 : goal.returns-then-count-gt4096
returns-then-count-gt4096 c =
    let s = c.in_ok-count.ensures in
    import_long c.args.text.now c.args.out.now s.0 s.1 (let m = s.2.many in omega arith)

pub returns : goal.returns
returns c =
    let s = c.in_ok-count.ensures in
    c.put_log.ensures
    ∙ ap (λ (l : List ℕ). imported (read_log l) l c.args.out.now) (s.2.there (omega arith))
    ∙ sym (import_says c.args.text.now c.args.out.now s.0 s.1)
