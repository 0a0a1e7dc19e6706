-- `locklines::lock_lines` meets its contract, by that of `lines_by`. Assumes nothing.
use Rattle.locklines.proofs.LockRunLaws.{lock_leaves}
use Rattle.locklines.proofs.lock_lines.Goals as goal

pub returns : goal.returns
returns c = lock_leaves c.args.place c.args.input.now c.lines_by.ensures
