use mathlib.Core.Bool.{true}
use native.Mathlib.Omega.{arith}
use borrow.Author.Rules.{rules}
use borrow.Author.Tests.{lt-ltb}
use lib.ListN.{get_or}
use mir.Syntax.{w32}
use mir.Val.{Fits}
use Rattle.marks.specs.MarkLaws.{and_others}
use Rattle.marks.specs.MaskLaws.{count_adds, rewritten_turn, changed_end, set_tab}
use Rattle.rows.proofs.SetLaws.{mark_is}
use Rattle.rows.proofs.strike.Goals as goal

pub loop-row-preserved : goal.loop-row-preserved
loop-row-preserved c =
    let x = get_or c.loop-row.leads c.loop-row.row-index 0 in
    rw (mark_is c.mark-others.ensures c.args.slot.inside) (rewritten_turn (count_adds c.loop-row.row-index) c.loop-row.invariant (omega arith)
    (and_others 32 x c.args.slot.at (let f : Fits w32 x = search rules in f.fits) c.args.slot.inside))

pub returns : goal.returns
returns c =
    let r = c.loop-row.invariant in
    rw c.index.ensures
    (set_tab c.loop-row.leads c.args.slot.at 0 r.long c.args.slot.inside (changed_end (λ p. true) (λ p q. lt-ltb p c.loop-row.row-index (omega arith)) r.rows))
