-- `locking::lock_in_place` meets its contract: put off, or what `step_in_place` ensures. Assumes nothing.
use Rattle.slots.proofs.Exits.{handed}
use Rattle.locking.proofs.LockRequests.{locks_off, locks_granted, locks_refused}
use Rattle.locking.proofs.lock_in_place.Goals as goal

pub returns-then-put_off : goal.returns-then-put_off
returns-then-put_off c = locks_off c.put_off.ensures c.if-put_off.true

pub returns-in_err-step_in_place : goal.returns-in_err-step_in_place
returns-in_err-step_in_place c =
    let e = handed c.from_residual.result c.from_residual.ensures.1 in
    rw e (locks_refused c.put_off.ensures c.if-put_off.false c.in_err-step_in_place.ensures)

pub returns : goal.returns
returns c = locks_granted c.put_off.ensures c.if-put_off.false c.in_ok-step_in_place.ensures
