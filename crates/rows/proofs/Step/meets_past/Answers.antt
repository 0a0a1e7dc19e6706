-- `rows::Step::meets_past` meets its contract: the cell's mark is tested in the words of the row's past. Assumes nothing.
use Rattle.rows.proofs.ClashLaws.{tells_past}
use Rattle.rows.proofs.Step.meets_past.Goals as goal

pub returns : goal.returns
returns c =
    tells_past c.args.sets.now c.args.self.cell.0 c.args.row.at c.args.self.deed (rw c.start.ensures at c.shown.ensures) c.mark.ensures
