use Rattle.std.proofs.Common.{ℕ, ◌+◌, ap, arith}
use Rattle.text.proofs.PutLaws.{spelled_first, spelled_next, spelled_all}
use Rattle.text.proofs.put_number.Goals as goal

pub loop-i-init : goal.loop-i-init
loop-i-init c =
    let a = c.args in
    (spelled_first a.n a.at (a.at + c.places-count.result) a.out.now (ap (λ (k : ℕ). a.at + k) c.places-count.ensures.0), omega arith)

pub loop-i-preserved : goal.loop-i-preserved
loop-i-preserved c = (spelled_next c.loop-i.invariant.0 c.loop-i-test.true (omega arith), omega arith)

pub returns : goal.returns
returns c =
    let a = c.args in
    spelled_all a.n a.at (a.at + c.places-count.result) c.loop-i.invariant.0 (omega arith) (ap (λ (k : ℕ). a.at + k) c.places-count.ensures.0) (omega arith)
