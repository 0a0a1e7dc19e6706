-- `rows::leave_slot` meets its contract, by `leaves`. Assumes nothing.
use Prim.Native.Nat.{◌%◌}
use Rattle.rows.proofs.RowLaws.{leaves}
use Rattle.rows.proofs.leave_slot.Goals as goal

pub returns : goal.returns
returns c =
    leaves c.args.free c.args.numbers.now c.args.leads.now c.args.sets.now (c.args.slot.0 % 32) {r = c.vacate.result} {numbers' = c.vacate.new.numbers}
    {leads' = c.hand_on.new.leads} {sets' = c.hand_on.new.sets} c.hand_on.ensures c.vacate.ensures
