-- `locked::LockedSink::take` is safe: the place past the records of a part fits, as the lines were written from one that is below the most. Assumes nothing.
use Prim.Native.Nat.{◌^◌, ◌<◌}
use native.Mathlib.Omega.{arith}
use borrow.Author.Rules.{rules}
use lib.ListN.{length}
use Rattle.locklines.specs.LockLineLaws.{lock_writes_some}
use Rattle.locked.proofs.LockedSink.take.Goals as goal

pub overflow_add-self : goal.overflow_add-self
overflow_add-self g c =
    let some = lock_writes_some c.args.self.now.place c.args.part.now c.in-Some.ensures in
    let long : length c.args.part.now < 2 ^ 64 = search rules in
    record { fits = omega (arith, some.0) }
