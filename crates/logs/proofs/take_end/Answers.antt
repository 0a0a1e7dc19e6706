-- `logs::take_end` meets its contract: a law of TakeLaws for each way out, where the job was found or was not. Assumes nothing.
use mathlib.Core.Path.{refl}
use mathlib.Core.Logic.{inl, inr}
use native.Mathlib.Omega.{arith}
use Rattle.std.proofs.lemmas.Result.{err_from_is_err_and}
use Rattle.tallies.specs.TableLaws.{rises}
use Rattle.tallies.specs.TakeLaws.{takes_end_ill, takes_end_unknown, takes_end_shut, takes_end}
use Rattle.logs.proofs.FoundLaws.{none_found, as_found}
use Rattle.logs.proofs.take_end.Goals as goal

pub returns-then-cell-ne0 : goal.returns-then-cell-ne0
returns-then-cell-ne0 c = λ h t. (takes_end_ill c.args.cell c.args.job c.if-cell-ne0.true, refl)

pub returns-in_err-i : goal.returns-in_err-i
returns-in_err-i c =
    let p = err_from_is_err_and c.from_residual.result c.from_residual.ensures.1 in
    let left = none_found c.in_err-i.ensures.value in
    rw (p.1, p.2, left.1) (λ h t. (takes_end_unknown t (inr (refl, (as_found _ _ _ left.0 c.find.ensures.0) (rises t.jobs))) c.if-cell-ne0.false refl, refl))

pub returns-then-stand-i-gt-WRITTEN : goal.returns-then-stand-i-gt-WRITTEN
returns-then-stand-i-gt-WRITTEN c =
    λ h t. (takes_end_shut t (inl (as_found _ _ _ c.in_ok-i.ensures.ok_part c.find.ensures.0)) c.if-cell-ne0.false (let l = (as_found _ _ _ c.in_ok-i.ensures.ok_part c.find.ensures.0).0 in λ e. omega arith) c.if-stand-i-gt-WRITTEN.true, refl)

pub returns : goal.returns
returns c =
    λ h t. takes_end t (inl (as_found _ _ _ c.in_ok-i.ensures.ok_part c.find.ensures.0)) c.if-cell-ne0.false (let l = (as_found _ _ _ c.in_ok-i.ensures.ok_part c.find.ensures.0).0 in λ e. omega arith) c.if-stand-i-gt-WRITTEN.false
    (let l = t.wide in let p = c.requires.1 in omega arith) refl (let l = t.jobs.states_padded.wide in let p = t.jobs.few in omega arith)
