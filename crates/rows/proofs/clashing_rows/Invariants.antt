-- `rows::clashing_rows` meets its contract. The loop's invariant: the marks found are those of the rows passed that clash. Assumes nothing.
use mathlib.Core.Path.{◌≡◌}
use Rattle.marks.specs.Marks.{mask_of}
use Rattle.rows.specs.Rows.{kind_of, met}
use Rattle.rows.proofs.clashing_rows.Given as goal

abbrev pub invariant-loop-at : goal.invariant-loop-at
invariant-loop-at l = l.found ≡ mask_of l.at (met l.sets (kind_of l.step.deed) l.step.cell.0)
