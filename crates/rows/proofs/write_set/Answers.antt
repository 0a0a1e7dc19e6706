-- `rows::write_set` meets its contract: a law of PublishLaws for either way out. Assumes nothing.
use mathlib.Core.Path.{◌≡◌}
use borrow.Author.Rules.{rules}
use mir.Syntax.{w64}
use mir.Val.{Fits}
use lib.ListN.{length, get_or}
use Rattle.rows.proofs.PublishLaws.{Cells, Gathered, writes_refused, writes_granted}
use Rattle.rows.proofs.SetLaws.{mark_is}
use Rattle.rows.proofs.write_set.Goals as goal

pub returns-then-leads-index-ne0 : goal.returns-then-leads-index-ne0
returns-then-leads-index-ne0 c =
    let gathered : Gathered c.args.free c.args.leads.now c.args.sets.now c.args.cells.words c.from-own.result.at c.meeting_some-meeting.result = record { fits = c.ranges.free.fits; inside = c.from-own.result.inside; gathered = c.meeting_some-meeting.ensures } in
    rw (← c.from-own.ensures) (writes_refused gathered (rw (c.index.ensures, mark_is c.mark.ensures c.from-own.result.inside) at c.if-leads-index-ne0.true))

pub returns : goal.returns
returns c =
    let asked : Cells c.args.cells.words = record { four = search rules; fits = λ i. let f : Fits w64 (get_or c.args.cells.words i 0) = search rules in f.fits } in
    let long_leads : length c.args.leads.now ≡ 32 = search rules in
    let long_sets : length c.args.sets.now ≡ 512 = search rules in
    let gathered : Gathered c.args.free c.args.leads.now c.args.sets.now c.args.cells.words c.from-own.result.at c.meeting_some-meeting.result = record { fits = c.ranges.free.fits; inside = c.from-own.result.inside; gathered = c.meeting_some-meeting.ensures } in
    rw (← c.from-own.ensures) (writes_granted gathered asked long_leads long_sets (rw (c.index.ensures, mark_is c.mark.ensures c.from-own.result.inside) at c.if-leads-index-ne0.false) c.lead_to.ensures c.join_own.ensures)
