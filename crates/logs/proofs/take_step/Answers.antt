-- `logs::take_step` meets its contract: a law of TakeLaws for each way out, where the job was found or was not. Assumes nothing.
use mathlib.Core.Path.{refl}
use mathlib.Core.Logic.{inl, inr}
use native.Mathlib.Omega.{arith}
use Rattle.std.proofs.lemmas.Result.{err_from_is_err_and}
use Rattle.tallies.specs.TableLaws.{rises}
use Rattle.tallies.specs.TakeLaws.{takes_step_ill, takes_step_unknown, takes_step_shut, takes_step}
use Rattle.logs.proofs.FoundLaws.{none_found, as_found}
use Rattle.logs.proofs.take_step.Goals as goal
use Rattle.logs.proofs.take_step.Goals.{then-first-ne0, else-first-ne0}

pub returns-then-cell-ge256 : goal.returns-then-cell-ge256
returns-then-cell-ge256 c = λ h k e t. (takes_step_ill k c.args.cell c.args.job c.if-cell-ge256.true, refl)

pub returns-in_err-i : goal.returns-in_err-i
returns-in_err-i c =
    let p = err_from_is_err_and c.from_residual.result c.from_residual.ensures.1 in
    let left = none_found c.in_err-i.ensures.value in
    rw (p.1, p.2, left.1) (λ h k o t. (takes_step_unknown t (inr (refl, (as_found _ _ _ left.0 c.find.ensures.0) (rises t.jobs))) k c.if-cell-ge256.false refl, refl))

pub returns-then-stand-i-gt-WRITTEN : goal.returns-then-stand-i-gt-WRITTEN
returns-then-stand-i-gt-WRITTEN c =
    λ h k o t. (takes_step_shut t (inl (as_found _ _ _ c.in_ok-i.ensures.ok_part c.find.ensures.0)) k c.if-cell-ge256.false (let l = (as_found _ _ _ c.in_ok-i.ensures.ok_part c.find.ensures.0).0 in λ e. omega arith) c.if-stand-i-gt-WRITTEN.true, refl)

pub returns : goal.returns
returns c =
    λ h k o t. takes_step t (inl (as_found _ _ _ c.in_ok-i.ensures.ok_part c.find.ensures.0)) c.if-cell-ge256.false (let l = (as_found _ _ _ c.in_ok-i.ensures.ok_part c.find.ensures.0).0 in λ e. omega arith) c.if-stand-i-gt-WRITTEN.false
    (let l = t.wide in let p = c.requires.2 in omega arith) k o (let l = t.jobs.states_padded.wide in let p = t.jobs.few in omega arith) refl
    (elim c.if-first-ne0.branch [ then-first-ne0 w ↦ inl (w.if-first-ne0.true, w.states-is) | else-first-ne0 w ↦ inr (let z = w.if-first-ne0.false in omega arith, w.states-is) ])
