-- `rows::meets_some` meets its contract: the sets of the row are taken out and joined, and tested against the cells. Assumes nothing.
use mathlib.Core.Path.{◌≡◌}
use Prim.Native.Nat.{◌+◌, ◌*◌}
use borrow.Author.Rules.{rules}
use mir.Syntax.{w64}
use mir.Val.{Fits}
use lib.ListN.{length, get_or}
use Rattle.rows.proofs.SetLaws.{Part}
use Rattle.rows.proofs.PublishLaws.{Cells, meets_itself, meets_other}
use Rattle.rows.proofs.meets_some.Goals as goal

pub returns-then-row-slot : goal.returns-then-row-slot
returns-then-row-slot c =
    let asked : Cells c.args.cells.words = record { four = search rules; fits = λ i. let f : Fits w64 (get_or c.args.cells.words i 0) = search rules in f.fits } in
    let used : Part c.args.sets.now (c.args.row.at * 16 + 8) c.load.result.words = record { four = search rules; from = rw c.start-at.ensures at c.load.ensures } in
    let altered : Part c.args.sets.now (c.args.row.at * 16 + 12) c.load-2.result.words = record { four = search rules; from = rw c.start-at.ensures at c.load-2.ensures } in
    let past : Cells c.union-past.result.words = record { four = search rules; fits = λ i. let f : Fits w64 (get_or c.union-past.result.words i 0) = search rules in f.fits } in
    meets_itself c.args.sets.now c.args.row.at used altered c.union-past.ensures asked c.args.slot.at past c.if-row-slot.true c.overlaps.ensures

pub returns : goal.returns
returns c =
    let asked : Cells c.args.cells.words = record { four = search rules; fits = λ i. let f : Fits w64 (get_or c.args.cells.words i 0) = search rules in f.fits } in
    let used : Part c.args.sets.now (c.args.row.at * 16 + 8) c.load.result.words = record { four = search rules; from = rw c.start-at.ensures at c.load.ensures } in
    let altered : Part c.args.sets.now (c.args.row.at * 16 + 12) c.load-2.result.words = record { four = search rules; from = rw c.start-at.ensures at c.load-2.ensures } in
    let past : Cells c.union-past.result.words = record { four = search rules; fits = λ i. let f : Fits w64 (get_or c.union-past.result.words i 0) = search rules in f.fits } in
    let own_used : length c.load-3.result.words ≡ 4 = search rules in
    let own_altered : length c.load-4.result.words ≡ 4 = search rules in
    let own : length c.union.result.words ≡ 4 = search rules in
    let all : Cells c.union-2.result.words = record { four = search rules; fits = λ i. let f : Fits w64 (get_or c.union-2.result.words i 0) = search rules in f.fits } in
    meets_other c.args.sets.now c.args.row.at used altered c.union-past.ensures asked c.args.slot.at
    (record { four = own_used; from = rw c.start-at.ensures at c.load-3.ensures }) (record { four = own_altered; from = rw c.start-at.ensures at c.load-4.ensures }) c.union.ensures own past
    c.union-2.ensures all c.if-row-slot.false c.overlaps-2.ensures
