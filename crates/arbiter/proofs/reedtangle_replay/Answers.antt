-- `arbiter::reedtangle_replay` meets its contract, by that of `replay`. Assumes nothing.
use mathlib.Core.Path.{◌∙◌}
use Rattle.arbiter.proofs.ReplayLaws.{told_whole}
use Rattle.arbiter.proofs.reedtangle_replay.Goals as goal

pub returns : goal.returns
returns c = told_whole c.replay.result c.replay.new.answers c.tell.ensures ∙ c.replay.ensures
