use Rattle.std.proofs.Common.{refl, sym, ap, ◌∙◌, not, eqb, drop, arith}
use lib.ListN.{drop_of_length-le}
use Rattle.graph.specs.Decide.{every_of}
use Rattle.sums.specs.ByteLaws.{zeros_more, zeros_end}
use Rattle.blockreader.proofs.FaultLaws.{any_used}
use Rattle.blockreader.proofs.used.Goals as goal

pub loop-i-init : goal.loop-i-init
loop-i-init c = (omega arith, refl)

pub returns-then-word_at-ne0 : goal.returns-then-word_at-ne0
returns-then-word_at-ne0 c =
    ap not (sym (c.loop-i.invariant.1 ∙ zeros_end c.args.front.now c.loop-i.i c.word_at.result (omega arith) (c.word_at.ensures.there (omega arith)) c.if-word_at-ne0.true))
    ∙ sym (any_used (drop c.args.from c.args.front.now))

pub loop-i-preserved : goal.loop-i-preserved
loop-i-preserved c =
    (omega arith, c.loop-i.invariant.1 ∙ zeros_more c.args.front.now c.loop-i.i c.word_at.result (omega arith) (c.word_at.ensures.there (omega arith)) c.if-word_at-ne0.false)

pub returns : goal.returns
returns c =
    ap not (sym (c.loop-i.invariant.1 ∙ ap (every_of (eqb 0)) (drop_of_length-le c.args.front.now {i = c.loop-i.i} (omega arith))))
    ∙ sym (any_used (drop c.args.from c.args.front.now))
