-- `rows::join_own` meets its contract: four words are taken out, joined with the cells and stored back, and then the four after them. Assumes nothing.
use mathlib.Core.Path.{◌≡◌, ◌∙◌}
use Prim.Native.Nat.{◌+◌}
use lib.ListN.{length}
use borrow.Author.Rules.{rules}
use Rattle.rows.proofs.SetLaws.{joined_set, joined_both}
use Rattle.rows.proofs.join_own.Goals as goal

-- The lists and places are written out: with `_` antt would compare two tables of 512 by computing them.
pub returns : goal.returns
returns c =
    let asked : length c.args.cells.words ≡ 4 = search rules in
    let loaded : length c.load.result.words ≡ 4 = search rules in
    let loaded-next : length c.load-2.result.words ≡ 4 = search rules in
    joined_both 512 c.args.sets.now c.args.slot.at c.args.cells.words
    (rw c.start-at.ensures at (c.store.ensures
    ∙ joined_set 512 c.args.sets.now (c.start-at.result) c.args.cells.words (record { four = loaded; from = c.load.ensures }) asked c.union-used.ensures))
    (rw c.start-at.ensures at (c.store-2.ensures
    ∙ joined_set 512 c.store.new.sets (c.start-at.result + 4) c.args.cells.words (record { four = loaded-next; from = c.load-2.ensures }) asked c.union-altered.ensures))
