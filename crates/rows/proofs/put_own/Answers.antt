-- `rows::put_own` meets its contract: one word gains the cell's mark. Assumes nothing.
use Prim.Native.Nat.{◌+◌}
use native.Mathlib.Omega.{arith}
use Rattle.rows.proofs.SetLaws.{put_mark}
use Rattle.rows.proofs.put_own.Goals as goal

pub returns : goal.returns
returns c =
    put_mark 512 c.args.sets.now c.told-sets (omega (arith, c.start.ensures, c.start-2.ensures, c.place.ensures, c.args.slot.inside))
    (λ i. c.start.ensures i + (c.start-2.ensures.place i + c.place.ensures i)) c.mark.ensures
