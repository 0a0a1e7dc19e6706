-- `exporter::copy_out` meets its contract. Assumes nothing.
use native.Mathlib.Omega.{arith}
use Rattle.exporter.proofs.AnswerLaws.{copy_none, copied}
use Rattle.exporter.proofs.copy_out.Goals as goal

pub returns-then-out-said : goal.returns-then-out-said
returns-then-out-said c = copy_none c.args.said.now c.args.out.now (omega arith)

pub returns : goal.returns
returns c = copied c.args.said.now c.args.out.now (omega arith) c.put_text.ensures
