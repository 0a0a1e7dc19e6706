-- `locking::put_off` meets its contract: a law of LockRequests for each kind, from what `held_off` ensures there. Assumes nothing.
use mathlib.Core.Path.{refl}
use mathlib.Core.List.{[]}
use Rattle.held.specs.Held.{Held}
use Rattle.rows.specs.Rows.{rows_of}
use Rattle.locking.proofs.LockRequests.{put_off_none, put_off_read, put_off_alters, put_off_rest}
use Rattle.locking.proofs.put_off.Goals as goal

pub returns-in_default : goal.returns-in_default
returns-in_default c =
    let state : Held = rows_of c.args.free c.args.numbers.now [] c.args.sets.now in
    put_off_none state c.in_default.ensures.1

pub returns-in-Read : goal.returns-in-Read
returns-in-Read c =
    let state : Held = rows_of c.args.free c.args.numbers.now [] c.args.sets.now in
    put_off_read state c.in-Ok.asked c.in-Ok.ensures c.in-Read.is c.held_off.ensures

pub returns-in-Write : goal.returns-in-Write
returns-in-Write c =
    let state : Held = rows_of c.args.free c.args.numbers.now [] c.args.sets.now in
    put_off_alters state c.in-Ok.asked c.in-Ok.ensures c.in-Write.is c.held_off-in-Write.ensures

pub returns-in-Open : goal.returns-in-Open
returns-in-Open c =
    let state : Held = rows_of c.args.free c.args.numbers.now [] c.args.sets.now in
    put_off_rest state c.in-Ok.asked c.in-Ok.ensures c.in-Open.is refl
