-- `lists::list_sheet` meets its contract: each way out is one of the sheet's. Assumes nothing.
use mathlib.Core.Path.{subst}
use Prim.Native.Nat.{ℕ, ◌<◌}
use native.Mathlib.Omega.{arith}
use lib.ListN.{length}
use Rattle.std.proofs.lemmas.Result.{err_from_is_err_and}
use Rattle.history.specs.Events.{kept}
use Rattle.sheet.specs.Sheet.{at_rest}
use Rattle.tallies.specs.PadLaws.{zeros}
use Rattle.tallies.specs.TableLaws.{rises}
use Rattle.lists.specs.Sheets.{Picked}
use Rattle.lists.proofs.ListedLaws.{few_records, held}
use Rattle.lists.proofs.SheetedLaws.{sheet_faulty, sheet_short, sheet_none, sheet_done, entry_numbered, entry_outside}
use Rattle.lists.proofs.list_sheet.Goals as goal

pub returns-in_err-read_jobs : goal.returns-in_err-read_jobs
returns-in_err-read_jobs c =
    let p = err_from_is_err_and c.from_residual.result c.from_residual.ensures.1 in
    rw (p.1, p.2) (sheet_faulty c.args.log.now c.args.out.now c.in_err-read_jobs.ensures.0)

pub gather-requires : goal.gather-requires
gather-requires c = few_records c.args.log.now c.read_jobs.new.table c.in_ok-read_jobs.ensures.0

pub returns-then-out-rest : goal.returns-then-out-rest
returns-then-out-rest c =
    let r = c.in_ok-read_jobs.ensures.0 in
    let g = c.gather.ensures r.0 (held c.args.log.now c.read_jobs.new.table r) (zeros 4096) in
    let m = c.find_moving-rest.ensures.1 r.0 r.2.jobs g (zeros 8) in
    sheet_short c.args.log.now c.args.out.now r.0 r.1 m.0 c.if-out-rest.true

pub returns-in_err-list_all : goal.returns-in_err-list_all
returns-in_err-list_all c =
    let r = c.in_ok-read_jobs.ensures.0 in
    let g = c.gather.ensures r.0 (held c.args.log.now c.read_jobs.new.table r) (zeros 4096) in
    let m = c.find_moving-rest.ensures.1 r.0 r.2.jobs g (zeros 8) in
    let k = c.keep-kept.ensures.1 r.0 r.2.jobs (zeros 8) in
    let w = c.in_err-list_all.ensures r.0 r.2.jobs g k.1 k.0 in
    let p = err_from_is_err_and c.from_residual-in_err-list_all.result c.from_residual-in_err-list_all.ensures.1 in
    rw (p.1, p.2, w.0) (sheet_none c.args.log.now c.args.out.now r.0 r.1 m.0 (let z = m.0 in omega arith) w.1)

-- the entries of the whole order whose jobs are at rest
pub returns : goal.returns
returns c =
    let r = c.in_ok-read_jobs.ensures.0 in
    let g = c.gather.ensures r.0 (held c.args.log.now c.read_jobs.new.table r) (zeros 4096) in
    let m = c.find_moving-rest.ensures.1 r.0 r.2.jobs g (zeros 8) in
    let k = c.keep-kept.ensures.1 r.0 r.2.jobs (zeros 8) in
    let f = c.in_ok-list_all.ensures r.0 r.2.jobs g k.1 k.0 in
    let o = c.list_all.new.order in
    let picked : Picked (at_rest r.0) o (length (kept r.0)) c.pick.new.sheet =
    subst (λ (n : ℕ). Picked (at_rest r.0) o n c.pick.new.sheet) k.0
    (c.pick.ensures (at_rest r.0) (rises r.2.jobs) (λ x q. entry_numbered r.2.jobs o f x (subst (λ (n : ℕ). x < n) k.0 q))
    (λ x i q b e. entry_outside r.2.jobs o f c.find_moving-rest.new.moving m.1 x i (subst (λ (n : ℕ). x < n) k.0 q) b e)) in
    sheet_done c.args.log.now c.args.out.now r.0 r.1 m.0 (let z = m.0 in omega arith) r.2.jobs.turns o c.pick.new.sheet f picked c.copy_out.ensures
