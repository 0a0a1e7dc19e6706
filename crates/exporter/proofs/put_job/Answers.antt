-- `exporter::put_job` meets its contract: a letter, and a number after it. Assumes nothing.
use mathlib.Core.List.{◌∷◌}
use native.Mathlib.Omega.{arith}
use Rattle.text.specs.Decimal.{decimal}
use Rattle.exporter.specs.Exporter.{PutsMost}
use Rattle.exporter.proofs.PutLaws.{job_digits, number_after}
use Rattle.exporter.proofs.put_job.Goals as goal

pub returns : goal.returns
returns c =
    let put : PutsMost c.args.at 11 (c.args.letter ∷ decimal c.args.job) c.args.out.now c.put_number.new.out c.put_number.result = number_after c.args.letter c.args.job 11 (let d = job_digits c.args.job (omega arith) in omega arith) c.requires c.put_number.ensures in
    put
