-- `cells::CellSet::overlaps` meets its contract: some of the four words in both is not 0. Assumes nothing.
use native.Mathlib.Omega.{arith}
use Rattle.std.proofs.lemmas.Grind.{common_steps}
use Rattle.cells.proofs.CellSet.overlaps.Goals as goal

pub returns : goal.returns
returns c = grind (arith, common_steps)
