-- `blockreader::miscounted` meets its contract, test by test. Assumes nothing.
use native.Mathlib.Omega.{arith}
use Rattle.blockreader.proofs.FaultLaws.{count_before, count_many, count_full}
use Rattle.blockreader.proofs.miscounted.Goals as goal

pub returns-then-k-n : goal.returns-then-k-n
returns-then-k-n c = count_before c.args.n c.args.k c.args.count (omega arith)

pub returns-then-k-eq66 : goal.returns-then-k-eq66
returns-then-k-eq66 c = count_many c.args.n c.args.k c.args.count (omega arith) (λ e. omega arith) (omega arith)

pub returns : goal.returns
returns c = count_full c.args.n c.args.k c.args.count (omega arith) (λ e. omega arith) (λ e. omega arith)
