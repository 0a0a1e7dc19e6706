-- `rows::has_past` meets its contract: the past used and the past altered cells are taken out, and their union is tested. Assumes nothing.
use Prim.Native.Nat.{◌+◌, ◌*◌}
use borrow.Author.Rules.{rules}
use Rattle.rows.specs.Rows.{sets_only}
use Rattle.rows.proofs.SetLaws.{Part}
use Rattle.rows.proofs.PastLaws.{past_law}
use Rattle.rows.proofs.has_past.Goals as goal

pub returns : goal.returns
returns c =
    let used : Part c.args.sets.now (c.args.row.at * 16 + 8) c.load.result.words = record { four = search rules; from = rw c.start-at.ensures at c.load.ensures } in
    let altered : Part c.args.sets.now (c.args.row.at * 16 + 12) c.load-2.result.words = record { four = search rules; from = rw c.start-at.ensures at c.load-2.ensures } in
    past_law (sets_only c.args.sets.now) c.args.row.at used altered c.union.ensures c.is_empty.ensures
