-- `rows::end_slot` meets its contract, by `slot_ends`. Assumes nothing.
use Prim.Native.Nat.{◌%◌}
use Rattle.rows.proofs.RowLaws.{slot_ends}
use Rattle.rows.proofs.end_slot.Goals as goal

pub returns : goal.returns
returns c =
    slot_ends c.args.free c.args.numbers.now c.args.leads.now c.args.sets.now (c.args.slot.0 % 32) {from = c.leading-from.result} {r = c.vacate.result} {numbers' = c.vacate.new.numbers}
    {leads' = c.hand_on.new.leads} {sets' = c.hand_on.new.sets} c.leading-from.ensures c.hand_on.ensures c.vacate.ensures
