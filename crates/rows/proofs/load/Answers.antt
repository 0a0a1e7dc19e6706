-- `rows::load` meets its contract: the four words, one by one, are that part of the list, which is long enough. Assumes nothing.
use native.Mathlib.Omega.{arith}
use Rattle.std.proofs.lemmas.Grind.{common_steps}
use Rattle.rows.proofs.load.Goals as goal

pub returns : goal.returns
returns c = grind (arith, common_steps)
