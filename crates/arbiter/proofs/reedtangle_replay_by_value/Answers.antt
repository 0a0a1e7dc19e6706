-- `arbiter::reedtangle_replay_by_value` meets its contract, by that of `run`. Assumes nothing.
use mathlib.Core.Path.{◌∙◌}
use Rattle.arbiter.proofs.ReplayLaws.{told_whole}
use Rattle.arbiter.proofs.reedtangle_replay_by_value.Goals as goal

pub returns : goal.returns
returns c = told_whole c.run.result c.run.new.answers c.tell.ensures ∙ c.run.ensures
