-- `exporter::put_step` meets its contract: the cell after the letter and the job. Assumes nothing.
use Rattle.exporter.proofs.PutLaws.{puts_both}
use Rattle.exporter.proofs.put_step.Goals as goal

pub returns : goal.returns
returns c =
    puts_both c.put_job-end.ensures c.put_cell.ensures
