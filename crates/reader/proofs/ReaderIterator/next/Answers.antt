-- The records of a reader come to an end: what is read stands inside the log, and the place then rises. Assumes nothing.
use native.Mathlib.Omega.{arith}
use Rattle.std.proofs.lemmas.Grind.{common_steps}
use Rattle.reader.proofs.Laws.{nearer_end}
use Rattle.reader.proofs.ReaderIterator.next.Goals as goal

pub returns-clause-goes : goal.returns-clause-goes
returns-clause-goes c =
    nearer_end c.args.self.now c.record_at-next.result c.record_at-next.ensures (λ l. grind (arith, common_steps, c.after-self.ensures))
