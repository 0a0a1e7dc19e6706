-- `archive::reedtangle_coarse_step` meets its contract, by that of `coarse_in_place`. Assumes nothing.
use Rattle.archive.proofs.ArchiveLaws.{in_one}
use Rattle.archive.proofs.reedtangle_coarse_step.Goals as goal

pub returns : goal.returns
returns c = (in_one c.in_one.ensures c.coarse_in_place.ensures.0, c.coarse_in_place.ensures.1)
