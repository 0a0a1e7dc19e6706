-- `arbiter::State::fresh` meets its contract. Assumes nothing.
use Rattle.arbiter.proofs.ReplayLaws.{fresh_law}
use Rattle.arbiter.proofs.State.fresh.Goals as goal

pub returns : goal.returns
returns c = rw c.from.ensures (fresh_law c.args.first.0)
