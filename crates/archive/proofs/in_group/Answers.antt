-- `archive::in_group` meets its contract: the cell's group in two bytes, low byte first; the other bytes are those of the request. Assumes nothing.
use Rattle.archive.proofs.ArchiveLaws.{regrouped}
use Rattle.archive.proofs.in_group.Goals as goal

pub returns : goal.returns
returns c = regrouped c.args.request c.to_le_bytes-group.result c.from_le_bytes-cell.type_inv c.from_le_bytes-cell.ensures c.to_le_bytes-group.ensures
