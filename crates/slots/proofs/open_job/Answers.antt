-- `slots::open_job` meets its contract: a law of RequestLaws for each way out. The lowest mark of `free` is a slot since some mark is there. Assumes nothing.
use mathlib.Core.Path.{◌≡◌, refl}
use Prim.Native.Nat.{◌%◌, ◌^◌, ◌<◌}
use native.Mathlib.Omega.{arith}
use Rattle.marks.specs.MaskLaws.{set_tab}
use Rattle.slots.proofs.LowestLaws.{slot}
use Rattle.slots.proofs.RequestLaws.{free_inside, does_open_spent, does_open_no_port, does_open_full, does_open_port_full, does_open_granted}
use Rattle.slots.proofs.open_job.Goals as goal

pub returns-in_default : goal.returns-in_default
returns-in_default c = does_open_spent (omega arith)

pub returns-then-port-ge3 : goal.returns-then-port-ge3
returns-then-port-ge3 c = does_open_no_port (omega (arith, c.in-Ok.ensures)) c.if-port-ge3.true

pub returns-then-spare-eq0 : goal.returns-then-spare-eq0
returns-then-spare-eq0 c =
    let fits : c.args.free.now < 2 ^ 32 = omega arith in
    does_open_full (omega (arith, c.in-Ok.ensures)) fits c.if-port-ge3.false c.if-spare-eq0.true

pub returns-then-crowd-ge16 : goal.returns-then-crowd-ge16
returns-then-crowd-ge16 c =
    let fits : c.args.free.now < 2 ^ 32 = omega arith in
    does_open_port_full (omega (arith, c.in-Ok.ensures)) fits c.if-port-ge3.false c.if-spare-eq0.false c.crowd.ensures c.if-crowd-ge16.true

pub bounds-numbers-slot : goal.bounds-numbers-slot
bounds-numbers-slot c =
    let fits : c.args.free.now < 2 ^ 32 = omega arith in
    free_inside fits c.if-spare-eq0.false

pub put_under-requires : goal.put_under-requires
put_under-requires c =
    let fits : c.args.free.now < 2 ^ 32 = omega arith in
    (c.if-port-ge3.false, free_inside fits c.if-spare-eq0.false)

pub returns : goal.returns
returns c =
    let same : c.in-Ok.number ≡ c.args.next.now % 4294967296 = omega (arith, c.in-Ok.ensures) in
    let fits : c.args.free.now < 2 ^ 32 = omega arith in
    let inside : slot c.args.free.now < 32 = free_inside fits c.if-spare-eq0.false in
    rw same
    (does_open_granted fits (omega (arith, c.in-Ok.ensures)) c.if-port-ge3.false c.if-spare-eq0.false c.crowd.ensures c.if-crowd-ge16.false
    (set_tab c.args.numbers.now (slot c.args.free.now) (c.args.next.now % 4294967296) c.told-numbers inside (λ p q. refl)) c.put_under.ensures c.open_slot.ensures)
