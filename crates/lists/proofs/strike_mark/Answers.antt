-- `lists::strike_mark` meets its contract: the law `strikes` of MarkLaws. Assumes nothing.
use Prim.Native.Nat.{◌/◌}
use mir.Syntax.{w64}
use mir.Val.{Fits}
use lib.ListN.{get_or}
use borrow.Author.Rules.{rules}
use Rattle.tallies.specs.MarkLaws.{strikes}
use Rattle.lists.proofs.strike_mark.Goals as goal

pub returns : goal.returns
returns c = (search rules, strikes c.args.words.now c.args.at c.requires (let f : Fits w64 (get_or c.args.words.now (c.args.at / 64) 0) = search rules in f.fits))
