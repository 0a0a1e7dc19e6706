use native.Mathlib.Omega.{arith}
use Rattle.tallies.specs.FindLaws.{halving_turn, halved_other, halved_none}
use Rattle.logs.proofs.SearchLaws.{turned_on, none_found, ends_own, ends_other, ends_past}
use Rattle.logs.proofs.halve.Goals as goal
use Rattle.logs.proofs.halve.Goals.{else-low-count-via-then-low-count+else-all-low, else-low-count-via-else-low-count}

pub loop-size-preserved : goal.loop-size-preserved
loop-size-preserved c =
    (halving_turn c.loop-size.invariant.0 _ (omega arith) (omega arith) c.go_up-low.ensures.1, turned_on c.loop-size.invariant.1 (omega arith) c.go_up-low.ensures.1)

pub returns-then-all-low : goal.returns-then-all-low
returns-then-all-low c =
    ((c.if-low-count.true, c.if-all-low.true), ends_own c.loop-size.invariant.1 c.loop-size-test.false c.if-low-count.true c.if-all-low.true)

pub returns : goal.returns
returns c =
    elim c.else-low-count.branch [ else-low-count-via-then-low-count+else-all-low w ↦ (λ r. none_found _ _ _ (halved_other c.loop-size.invariant.0 c.loop-size-test.false w.if-low-count.true w.if-all-low.false r), ends_other c.loop-size.invariant.1 c.loop-size-test.false w.if-low-count.true w.if-all-low.false) | else-low-count-via-else-low-count w ↦ (λ r. none_found _ _ _ (halved_none c.loop-size.invariant.0 w.if-low-count.false), ends_past c.loop-size.invariant.1 c.loop-size-test.false w.if-low-count.false) ]
