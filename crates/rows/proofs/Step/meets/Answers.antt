-- `rows::Step::meets` meets its contract: the cell's mark is tested in the words of both half rows. Assumes nothing.
use Rattle.rows.proofs.ClashLaws.{tells_met}
use Rattle.rows.proofs.Step.meets.Goals as goal

pub returns : goal.returns
returns c =
    tells_met c.args.sets.now c.args.self.cell.0 c.args.self.deed c.args.row.inside (rw c.start.ensures at c.shown-own.ensures) (rw c.start-2.ensures at c.shown-past.ensures)
    c.mark.ensures
