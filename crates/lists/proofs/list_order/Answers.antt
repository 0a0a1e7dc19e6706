-- `lists::list_order` meets its contract: each way out is one of the lister's. Assumes nothing.
use Rattle.std.proofs.lemmas.Result.{err_from_is_err_and}
use Rattle.tallies.specs.PadLaws.{zeros}
use Rattle.lists.proofs.ListedLaws.{few_records, held, list_faulty, list_short, list_none, list_done}
use Rattle.lists.proofs.list_order.Goals as goal

pub returns-in_err-read_jobs : goal.returns-in_err-read_jobs
returns-in_err-read_jobs c =
    let p = err_from_is_err_and c.from_residual.result c.from_residual.ensures.1 in
    rw (p.1, p.2) (list_faulty c.args.log.now c.args.out.now c.in_err-read_jobs.ensures.0)

pub returns-then-out-kept : goal.returns-then-out-kept
returns-then-out-kept c =
    let r = c.in_ok-read_jobs.ensures.0 in
    let k = c.keep-kept.ensures.1 r.0 r.2.jobs (zeros 8) in
    list_short c.args.log.now c.args.out.now r.0 r.1 k.0 c.if-out-kept.true

pub gather-requires : goal.gather-requires
gather-requires c = few_records c.args.log.now c.read_jobs.new.table c.in_ok-read_jobs.ensures.0

pub returns-in_err-list_all : goal.returns-in_err-list_all
returns-in_err-list_all c =
    let r = c.in_ok-read_jobs.ensures.0 in
    let g = c.gather.ensures r.0 (held c.args.log.now c.read_jobs.new.table r) (zeros 4096) in
    let k = c.keep-kept.ensures.1 r.0 r.2.jobs (zeros 8) in
    let w = c.in_err-list_all.ensures r.0 r.2.jobs g k.1 k.0 in
    let p = err_from_is_err_and c.from_residual-in_err-list_all.result c.from_residual-in_err-list_all.ensures.1 in
    rw (p.1, p.2, w.0) (list_none c.args.log.now c.args.out.now r.0 r.1 k.0 c.if-out-kept.false w.1)

pub returns : goal.returns
returns c =
    let r = c.in_ok-read_jobs.ensures.0 in
    let g = c.gather.ensures r.0 (held c.args.log.now c.read_jobs.new.table r) (zeros 4096) in
    let k = c.keep-kept.ensures.1 r.0 r.2.jobs (zeros 8) in
    list_done c.args.log.now c.args.out.now r.0 r.1 k.0 c.if-out-kept.false r.2.jobs.turns c.list_all.new.order (c.in_ok-list_all.ensures r.0 r.2.jobs g k.1 k.0) c.copy_out.ensures
