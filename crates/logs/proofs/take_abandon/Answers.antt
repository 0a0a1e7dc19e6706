-- `logs::take_abandon` meets its contract: a law of TakeLaws for each way out, where the job was found or was not. Assumes nothing.
use mathlib.Core.Path.{refl}
use mathlib.Core.Logic.{inl, inr}
use native.Mathlib.Omega.{arith}
use Rattle.std.proofs.lemmas.Result.{err_from_is_err_and}
use Rattle.tallies.specs.TableLaws.{rises}
use Rattle.tallies.specs.TakeLaws.{takes_abandon_ill, takes_abandon_unknown, takes_abandon_barred, takes_abandon}
use Rattle.logs.proofs.FoundLaws.{none_found, as_found}
use Rattle.logs.proofs.take_abandon.Goals as goal

pub returns-then-cell-ne0 : goal.returns-then-cell-ne0
returns-then-cell-ne0 c = λ h told t. (takes_abandon_ill c.args.cell c.args.job c.if-cell-ne0.true, refl)

pub returns-in_err-i : goal.returns-in_err-i
returns-in_err-i c =
    let p = err_from_is_err_and c.from_residual.result c.from_residual.ensures.1 in
    let left = none_found c.in_err-i.ensures.value in
    rw (p.1, p.2, left.1) (λ h told t. (takes_abandon_unknown t (inr (refl, (as_found _ _ _ left.0 c.find.ensures.0) (rises t.jobs))) c.if-cell-ne0.false refl, refl))

pub returns-then-stand-i-ne-OPEN : goal.returns-then-stand-i-ne-OPEN
returns-then-stand-i-ne-OPEN c =
    λ h told t. (takes_abandon_barred t (inl (as_found _ _ _ c.in_ok-i.ensures.ok_part c.find.ensures.0)) c.if-cell-ne0.false (let l = (as_found _ _ _ c.in_ok-i.ensures.ok_part c.find.ensures.0).0 in λ e. omega arith) c.if-stand-i-ne-OPEN.true, refl)

pub returns : goal.returns
returns c =
    λ h told t. takes_abandon t (inl (as_found _ _ _ c.in_ok-i.ensures.ok_part c.find.ensures.0)) c.if-cell-ne0.false (let l = (as_found _ _ _ c.in_ok-i.ensures.ok_part c.find.ensures.0).0 in λ e. omega arith) c.if-stand-i-ne-OPEN.false
    (let l = t.jobs.states_padded.wide in let p = t.jobs.few in omega arith)
