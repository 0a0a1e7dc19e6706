-- `lists::keep` meets its contract: the jobs that are not abandoned are the kept ones (`kept_marks`). Assumes nothing.
use mathlib.Core.Bool.{not}
use borrow.Author.Rules.{rules}
use lib.Dec.{eqb}
use Rattle.lists.proofs.KeptLaws.{kept_marks}
use Rattle.lists.proofs.keep.Goals as goal

pub returns : goal.returns
returns c = (
  c.mark_where.ensures.0,
  λ h jobs blank. kept_marks jobs (c.mark_where.ensures.1 (λ x. not (eqb x 4)) (λ x r q post. search rules) blank),
)
