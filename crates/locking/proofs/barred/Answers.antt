use mathlib.Core.Path.{◌≡◌, sym, ◌∙◌}
use mathlib.Core.Bool.{false}
use native.Mathlib.Omega.{arith}
use borrow.Author.Count.{below_more}
use Rattle.locking.specs.Locking.{bars}
use Rattle.locking.proofs.BarLaws.{barred_at, barred_none}
use Rattle.locking.proofs.barred.Goals as goal

pub row_bars-requires : goal.row_bars-requires
row_bars-requires c = (omega arith, omega (arith, c.place-place.ensures))

pub loop-i-preserved : goal.loop-i-preserved
loop-i-preserved c =
    below_more (λ k. bars c.args.free c.args.sets.now c.args.alters c.args.slot.0 c.place-place.result c.mark-mark.result k ≡ false) c.loop-i.i c.loop-i.invariant
    (sym c.row_bars.ensures ∙ c.if-row_bars.false)

pub returns-then-row_bars : goal.returns-then-row_bars
returns-then-row_bars c =
    barred_at c.args.free c.args.sets.now c.args.alters c.args.slot.0 c.args.cell.0 c.place-place.ensures c.mark-mark.ensures c.loop-i.i (omega arith) (sym c.row_bars.ensures ∙ c.if-row_bars.true)

pub returns : goal.returns
returns c =
    barred_none c.args.free c.args.sets.now c.args.alters c.args.slot.0 c.args.cell.0 c.place-place.ensures c.mark-mark.ensures (λ k q. c.loop-i.invariant k (omega arith))
