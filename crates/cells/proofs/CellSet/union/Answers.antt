-- `cells::CellSet::union` meets its contract: each of the four words is the or of two. Assumes nothing.
use native.Mathlib.Omega.{arith}
use Rattle.std.proofs.lemmas.Grind.{common_steps}
use Rattle.cells.proofs.CellSet.union.Goals as goal

pub returns : goal.returns
returns c = grind (arith, common_steps)
