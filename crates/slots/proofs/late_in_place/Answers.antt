-- `slots::late_in_place` meets its contract: a law of LateRequests for each arm, from what the function called there ensures. Assumes nothing.
use Rattle.held.specs.Held.{Held}
use Rattle.slots.specs.Lent.{lent}
use borrow.Author.Rules.{rules}
use Rattle.slots.proofs.Exits.{handed}
use Rattle.slots.proofs.LateRequests.{lates_malformed, lates_kind, lates_open, lates_read, lates_abandon}
use Rattle.slots.proofs.late_in_place.Goals as goal

pub returns-in_err-asked : goal.returns-in_err-asked
returns-in_err-asked c =
    let held : Held = lent c.args.next.now c.args.free.now c.args.numbers.now c.args.leads.now c.args.sets.now c.args.ports.now in
    let e = handed c.from_residual.result c.from_residual.ensures.1 in
    rw (e, c.in_err-asked.ensures.0) (lates_malformed {h = held} c.in_err-asked.ensures.1)

pub returns-in-Open : goal.returns-in-Open
returns-in-Open c =
    let held : Held = lent c.args.next.now c.args.free.now c.args.numbers.now c.args.leads.now c.args.sets.now c.args.ports.now in
    lates_open {h = held} c.in_ok-asked.asked c.in_ok-asked.ensures c.in-Open.is (c.open_job.ensures)

pub returns-in-Read : goal.returns-in-Read
returns-in-Read c =
    let held : Held = lent c.args.next.now c.args.free.now c.args.numbers.now c.args.leads.now c.args.sets.now c.args.ports.now in
    lates_read {h = held} c.in_ok-asked.asked c.in_ok-asked.ensures c.in-Read.is (c.step_job.ensures c.args.next.now c.args.ports.now)

pub returns-in-Abandon : goal.returns-in-Abandon
returns-in-Abandon c =
    let held : Held = lent c.args.next.now c.args.free.now c.args.numbers.now c.args.leads.now c.args.sets.now c.args.ports.now in
    lates_abandon {h = held} c.in_ok-asked.asked c.in_ok-asked.ensures c.in-Abandon.is (c.abandon_job.ensures c.args.next.now c.args.ports.now)

pub returns-in_default : goal.returns-in_default
returns-in_default c =
    let held : Held = lent c.args.next.now c.args.free.now c.args.numbers.now c.args.leads.now c.args.sets.now c.args.ports.now in
    lates_kind {h = held} c.in_ok-asked.asked c.in_ok-asked.ensures (search rules) (search rules) (search rules)
