-- `batch::reedtangle_batch` meets its contract, by that of `batch_in_place`. Code and place fit one number, since a place is at most 64. Assumes nothing.
use Rattle.batch.proofs.RunLaws.{packs}
use Rattle.batch.proofs.reedtangle_batch.Goals as goal

pub returns : goal.returns
returns c = λ ports. packs (c.batch_in_place.ensures ports) c.in_one.ensures
