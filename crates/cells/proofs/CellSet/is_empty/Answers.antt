-- `cells::CellSet::is_empty` meets its contract: the words are equal to four zeros exactly where each is 0. Assumes nothing.
use mathlib.Core.Path.{◌∙◌}
use borrow.Author.Rules.{rules}
use Rattle.cells.proofs.Laws.{equals_zeros}
use Rattle.cells.proofs.CellSet.is_empty.Goals as goal

pub returns : goal.returns
returns c = c.eq.ensures ∙ equals_zeros 4 c.args.self.words (search rules)
