-- `lists::Queue::settle` meets its contract: a mark in common with what is left is a predecessor to wait for. Assumes nothing.
use mathlib.Core.Path.{refl}
use Rattle.tallies.specs.SortLaws.{settled_ready, settled_waits}
use Rattle.lists.proofs.Queue.settle.Goals as goal

pub returns-in-None : goal.returns-in-None
returns-in-None c = (refl, settled_ready c.requires c.in-None.ensures c.put_mark.ensures.1)

pub returns-in-Some : goal.returns-in-Some
returns-in-Some c = let r = c.in-Some.ensures in (refl, settled_waits c.requires c.in-Some.for_whom r.0 r.1 r.2 c.put_mark-in-Some.ensures.1)
