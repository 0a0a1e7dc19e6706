-- `rows::step_slot` meets its contract, by what `lead_to` and `mark_own` ensure. Assumes nothing.
use Rattle.rows.proofs.step_slot.Goals as goal

pub returns : goal.returns
returns c = rw (← c.from-own.ensures) (c.lead_to.ensures, c.mark_own.ensures)
