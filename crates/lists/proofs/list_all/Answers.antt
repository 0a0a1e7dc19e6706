-- `lists::list_all` meets its contract: the order of the jobs, and whether each of them has a place. Assumes nothing.
use mathlib.Core.Path.{◌≡◌, refl, sym, ◌∙◌}
use Prim.Native.Nat.{ℕ}
use lib.ListN.{take}
use Rattle.std.specs.Prelude.{Option, None, Some, Result, Err, ok_or}
use Rattle.std.proofs.lemmas.Result.{err_from_is_err_and}
use Rattle.tallies.specs.PadLaws.{zeros}
use Rattle.checks.proofs.CheckLaws.{keeps_as}
use Rattle.lists.specs.declared.Refusal.{Refusal}
use Rattle.lists.proofs.SheetedLaws.{whole_order, whole_none}
use Rattle.lists.proofs.list_all.Goals as goal

-- what `ok_or` makes an error of
none_left : {r : Option ℕ} {e d : Refusal} → ◌≡◌ {A = Result ℕ Refusal} (Err e) (ok_or r d) → (r ≡ None) × (e ≡ d)
none_left {r = None} x = (refl, cc)
none_left {r = Some n} x = absurd (cc)

pub returns-in_err-ok_or : goal.returns-in_err-ok_or
returns-in_err-ok_or c =
    let o = c.list_jobs.new in
    let p = err_from_is_err_and c.from_residual.result c.from_residual.ensures.1 in
    let left = none_left c.in_err-ok_or.ensures.value in
    rw (p.1, p.2, left.1)
    (λ h jobs prec marks many.
    let l = c.list_jobs.ensures h jobs prec marks many (zeros 512) in
    whole_none l (keeps_as jobs (take l.many o.order) o.placed l.places (sym left.0 ∙ c.all_placed.ensures)))

pub returns : goal.returns
returns c =
    let o = c.list_jobs.new in
    λ h jobs prec marks many.
    let l = c.list_jobs.ensures h jobs prec marks many (zeros 512) in
    whole_order l (keeps_as jobs (take l.many o.order) o.placed l.places (sym c.in_ok-ok_or.ensures.ok_part ∙ c.all_placed.ensures))
