-- `lines::lines` meets its contract, by that of `lines_by`. Assumes nothing.
use Rattle.lines.proofs.RunLaws.{first_leaves}
use Rattle.lines.proofs.lines.Goals as goal

pub returns : goal.returns
returns c = first_leaves c.args.place c.args.input.now c.in_ok-written.ensures
