-- `locking::row_bars` meets its contract: a law of BarLaws for each way out. Assumes nothing.
use Rattle.locking.proofs.BarLaws.{bars_free, bars_itself, bars_other}
use Rattle.locking.proofs.row_bars.Goals as goal

pub returns-then-free-row-ne0 : goal.returns-then-free-row-ne0
returns-then-free-row-ne0 c =
    bars_free c.args.free c.requires.0 c.args.sets.now c.args.alters c.args.slot.0 c.args.place c.args.mark c.if-free-row-ne0.true

pub returns-then-row-slot : goal.returns-then-row-slot
returns-then-row-slot c =
    bars_itself c.args.free c.requires.0 c.args.sets.now c.args.alters c.args.slot.0 c.args.place c.args.mark c.if-row-slot.true

pub returns : goal.returns
returns c =
    bars_other c.args.free c.requires.0 c.args.sets.now c.args.alters c.args.slot.0 c.args.place c.args.mark c.if-free-row-ne0.false c.if-row-slot.false c.barring.ensures
