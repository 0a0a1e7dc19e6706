-- `lists::mark_open` meets its contract. Assumes nothing.
use borrow.Author.Rules.{rules}
use lib.Dec.{ltb}
use Rattle.lists.proofs.mark_open.Goals as goal

pub returns : goal.returns
returns c = λ blank. (c.mark_where.ensures.1 (λ x. ltb x 3) (λ x r q post. search rules) blank).1
