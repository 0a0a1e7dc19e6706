-- `rows::open_slot` meets its contract, by `opens`. Assumes nothing.
use Rattle.rows.specs.Rows.{links_of}
use Rattle.rows.proofs.PastLaws.{opens}
use Rattle.rows.proofs.open_slot.Goals as goal

pub returns : goal.returns
returns c =
    rw (← c.from-own.ensures)
    (opens (links_of c.args.free c.args.leads.now c.args.sets.now) c.from-own.result.at c.ranges.free.fits c.from-own.result.inside c.mark-me.ensures
    c.having_past-leaders.ensures c.strike.ensures c.lead_to.ensures c.blank.ensures)
