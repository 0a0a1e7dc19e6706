-- `slots::step_in_place` meets its contract: a law of RequestLaws for each kind, from what the function called there ensures. Assumes nothing.
use Rattle.held.specs.Held.{Held}
use Rattle.slots.specs.Lent.{lent}
use Rattle.rows.specs.declared.Deed.TheVariants.{Read, Write, Add}
use Rattle.slots.proofs.Exits.{handed}
use Rattle.slots.proofs.RequestLaws.{asks_does, steps_malformed, steps_open, steps_step, steps_end, steps_abandon, steps_publish}
use Rattle.slots.proofs.step_in_place.Goals as goal

pub returns-in_err-asked : goal.returns-in_err-asked
returns-in_err-asked c =
    let held : Held = lent c.args.next.now c.args.free.now c.args.numbers.now c.args.leads.now c.args.sets.now c.args.ports.now in
    let e = handed c.from_residual.result c.from_residual.ensures.1 in
    rw (e, c.in_err-asked.ensures.0) (steps_malformed {h = held} c.in_err-asked.ensures.1)

pub returns-in-Open : goal.returns-in-Open
returns-in-Open c =
    let held : Held = lent c.args.next.now c.args.free.now c.args.numbers.now c.args.leads.now c.args.sets.now c.args.ports.now in
    steps_open {h = held} c.in_ok-asked.asked c.in_ok-asked.ensures c.in-Open.is (c.open_job.ensures)

pub returns-in-Read : goal.returns-in-Read
returns-in-Read c =
    let held : Held = lent c.args.next.now c.args.free.now c.args.numbers.now c.args.leads.now c.args.sets.now c.args.ports.now in
    steps_step {h = held} c.in_ok-asked.asked c.in_ok-asked.ensures Read c.in-Read.is (asks_does {h = held} (c.step_job.ensures c.args.next.now c.args.ports.now))

pub returns-in-Write : goal.returns-in-Write
returns-in-Write c =
    let held : Held = lent c.args.next.now c.args.free.now c.args.numbers.now c.args.leads.now c.args.sets.now c.args.ports.now in
    steps_step {h = held} c.in_ok-asked.asked c.in_ok-asked.ensures Write c.in-Write.is (asks_does {h = held} (c.step_job-in-Write.ensures c.args.next.now c.args.ports.now))

pub returns-in-End : goal.returns-in-End
returns-in-End c =
    let held : Held = lent c.args.next.now c.args.free.now c.args.numbers.now c.args.leads.now c.args.sets.now c.args.ports.now in
    steps_end {h = held} c.in_ok-asked.asked c.in_ok-asked.ensures c.in-End.is (c.end_job.ensures c.args.next.now c.args.ports.now)

pub returns-in-Abandon : goal.returns-in-Abandon
returns-in-Abandon c =
    let held : Held = lent c.args.next.now c.args.free.now c.args.numbers.now c.args.leads.now c.args.sets.now c.args.ports.now in
    steps_abandon {h = held} c.in_ok-asked.asked c.in_ok-asked.ensures c.in-Abandon.is (c.abandon_job.ensures c.args.next.now c.args.ports.now)

pub returns-in-Publish : goal.returns-in-Publish
returns-in-Publish c =
    let held : Held = lent c.args.next.now c.args.free.now c.args.numbers.now c.args.leads.now c.args.sets.now c.args.ports.now in
    steps_publish {h = held} c.in_ok-asked.asked c.in_ok-asked.ensures c.in-Publish.is (c.publish_job.ensures c.args.next.now c.args.ports.now)

pub returns-in-Add : goal.returns-in-Add
returns-in-Add c =
    let held : Held = lent c.args.next.now c.args.free.now c.args.numbers.now c.args.leads.now c.args.sets.now c.args.ports.now in
    steps_step {h = held} c.in_ok-asked.asked c.in_ok-asked.ensures Add c.in-Add.is (asks_does {h = held} (c.step_job-in-Add.ensures c.args.next.now c.args.ports.now))
