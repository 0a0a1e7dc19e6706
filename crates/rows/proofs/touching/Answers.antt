-- `rows::touching` meets its contract: the other open slots that clash, and the slot itself where its past does. Assumes nothing.
use mathlib.Core.Path.{sym, ◌∙◌}
use mathlib.Core.Bool.{true, false}
use Rattle.rows.proofs.ClashLaws.{touched_mask}
use Rattle.rows.proofs.touching.Goals as goal

pub returns-then-meets_past : goal.returns-then-meets_past
returns-then-meets_past c =
    rw (← c.from-own.ensures)
    (touched_mask c.args.sets.now c.args.deed c.args.cell.0 true c.ranges.free.fits c.from-own.result.inside c.mark-me.ensures c.clashing_among-found.ensures (sym c.if-meets_past.true ∙ c.meets_past.ensures))

pub returns : goal.returns
returns c =
    rw (← c.from-own.ensures)
    (touched_mask c.args.sets.now c.args.deed c.args.cell.0 false c.ranges.free.fits c.from-own.result.inside c.mark-me.ensures c.clashing_among-found.ensures (sym c.if-meets_past.false ∙ c.meets_past.ensures))
