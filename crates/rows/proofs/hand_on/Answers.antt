-- `rows::hand_on` meets its contract, by `hands`: the slot is not among the others of the mask. Assumes nothing.
use Rattle.rows.proofs.RowLaws.{others_mask, others_own, hands}
use Rattle.rows.proofs.hand_on.Goals as goal

pub fold_sets-requires : goal.fold_sets-requires
fold_sets-requires c =
    let own = c.from-own.result in
    others_own c.args.from own.at (others_mask c.args.from own.at c.mark.ensures c.ranges.from.fits own.inside) own.inside

pub fold_leads-requires : goal.fold_leads-requires
fold_leads-requires c =
    let own = c.from-own.result in
    others_own c.args.from own.at (others_mask c.args.from own.at c.mark.ensures c.ranges.from.fits own.inside) own.inside

pub returns : goal.returns
returns c =
    let own = c.from-own.result in
    rw (← c.from-own.ensures)
    (hands c.args.free c.args.leads.now c.args.sets.now c.args.from own.at {leads₁ = c.fold_leads.new.leads} {sets₁ = c.fold_sets.new.sets}
    c.ranges.free.fits (others_mask c.args.from own.at c.mark.ensures c.ranges.from.fits own.inside) c.fold_sets.ensures c.fold_leads.ensures c.strike.ensures c.blank.ensures)
