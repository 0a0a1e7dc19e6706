-- `locking::barring` meets its contract: each arm is the case that `alters` says. Assumes nothing.
use Rattle.locking.proofs.barring.Goals as goal

pub returns-then-alters : goal.returns-then-alters
returns-then-alters c = rw c.if-alters.true

pub returns : goal.returns
returns c = rw c.if-alters.false
