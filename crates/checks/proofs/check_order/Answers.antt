-- `checks::check_order` meets its contract: each way out is one of the verdict's. Assumes nothing.
use mathlib.Core.Path.{sym, ap, subst, ◌∙◌}
use Prim.Native.Nat.{ℕ}
use native.Mathlib.Omega.{arith}
use Rattle.std.proofs.lemmas.Result.{err_from_is_err_and}
use Rattle.verdicts.specs.Verdicts.{verdict}
use Rattle.tallies.specs.PadLaws.{zeros}
use Rattle.logs.specs.Logs.{Holds}
use Rattle.checks.specs.Checks.{Keeps}
use Rattle.checks.proofs.CheckLaws.{keeps_as, keeps_missing, keeps_all, none_left, log_size, check_faulty, check_bad, check_missing, check_turned, check_accepted}
use Rattle.checks.proofs.check_order.Goals as goal

pub returns-in_err-read_jobs : goal.returns-in_err-read_jobs
returns-in_err-read_jobs c =
    let p = err_from_is_err_and c.from_residual.result c.from_residual.ensures.1 in
    rw (p.1, p.2) (sym (check_faulty c.args.log.now c.args.order.now c.in_err-read_jobs.ensures.0))

pub returns-in_err-place_order : goal.returns-in_err-place_order
returns-in_err-place_order c =
    let p = err_from_is_err_and c.from_residual-in_err-place_order.result c.from_residual-in_err-place_order.ensures.1 in
    let k = c.in_ok-read_jobs.ensures.0 in
    let bad = c.in_err-place_order.ensures k.0 k.2.jobs (zeros 512) in
    rw (p.1, p.2, bad.1) (sym (check_bad c.args.log.now c.args.order.now k.0 k.1 bad.2))

pub returns-in_err-kept : goal.returns-in_err-kept
returns-in_err-kept c =
    let p = err_from_is_err_and c.from_residual-in_err-kept.result c.from_residual-in_err-kept.ensures.1 in
    let k = c.in_ok-read_jobs.ensures.0 in
    let entries = c.in_ok-place_order.ensures k.0 k.2.jobs (zeros 512) in
    let left = none_left c.in_err-kept.ensures.value in
    let keeps : Keeps k.0 c.args.order.now c.all_placed.result = keeps_as k.2.jobs c.args.order.now c.place_order.new.placed entries.1 c.all_placed.ensures in
    rw (p.1, p.2, left.1) (sym (check_missing c.args.log.now c.args.order.now k.0 k.1 entries.0 (keeps_missing k.0 c.args.order.now left.0 keeps)))

pub first_turned-requires : goal.first_turned-requires
first_turned-requires c =
    let k = c.in_ok-read_jobs.ensures.0 in
    let s = (log_size c.args.log.now k.0 k.1).short in
    omega arith

pub returns-in-Some : goal.returns-in-Some
returns-in-Some c =
    let k = c.in_ok-read_jobs.ensures.0 in
    let entries = c.in_ok-place_order.ensures k.0 k.2.jobs (zeros 512) in
    let keeps : Keeps k.0 c.args.order.now c.all_placed.result = keeps_as k.2.jobs c.args.order.now c.place_order.new.placed entries.1 c.all_placed.ensures in
    let all = keeps_all k.0 c.args.order.now c.in_ok-kept.ensures.ok_part keeps in
    let size = (log_size c.args.log.now k.0 k.1).whole in
    let pair = c.in-Some.ensures k.0 c.args.order.now (subst (λ (m : ℕ). Holds k.0 m c.read_jobs.new.table) size k.2) entries.1 entries.0 all.0 in
    sym (check_turned c.args.log.now c.args.order.now k.0 k.1 entries.0 all.0 pair)

pub returns-in-None : goal.returns-in-None
returns-in-None c =
    let k = c.in_ok-read_jobs.ensures.0 in
    let entries = c.in_ok-place_order.ensures k.0 k.2.jobs (zeros 512) in
    let keeps : Keeps k.0 c.args.order.now c.all_placed.result = keeps_as k.2.jobs c.args.order.now c.place_order.new.placed entries.1 c.all_placed.ensures in
    let all = keeps_all k.0 c.args.order.now c.in_ok-kept.ensures.ok_part keeps in
    let size = (log_size c.args.log.now k.0 k.1).whole in
    let pairs = c.in-None.ensures k.0 c.args.order.now (subst (λ (m : ℕ). Holds k.0 m c.read_jobs.new.table) size k.2) entries.1 entries.0 all.0 in
    ap (verdict 0) all.1 ∙ sym (check_accepted c.args.log.now c.args.order.now k.0 k.1 entries.0 all.0 pairs)
