-- `rows::take_over` meets its contract: the past used cells gain, and then the past altered ones. Assumes nothing.
use native.Mathlib.Omega.{arith}
use Rattle.rows.proofs.SetLaws.{taken_over}
use Rattle.rows.proofs.take_over.Goals as goal

pub returns : goal.returns
returns c =
    taken_over {l₁ = c.gain_set.new.sets} {l₂ = c.gain_set-2.new.sets} 512 c.args.sets.now c.args.row.at c.args.slot.at (omega (arith, c.args.row.inside)) (omega (arith, c.args.slot.inside))
    (rw (c.start-to.ensures, c.start-from.ensures) at c.gain_set.ensures) (rw (c.start-to.ensures, c.start-from.ensures) at c.gain_set-2.ensures)
