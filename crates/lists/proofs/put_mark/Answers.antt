-- `lists::put_mark` meets its contract: the law `puts` of MarkLaws. Assumes nothing.
use borrow.Author.Rules.{rules}
use Rattle.tallies.specs.MarkLaws.{puts}
use Rattle.lists.proofs.put_mark.Goals as goal

pub returns : goal.returns
returns c = (search rules, puts c.args.words.now c.args.at c.requires)
