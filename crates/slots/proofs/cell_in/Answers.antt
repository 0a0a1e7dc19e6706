-- `slots::cell_in` meets its contract: two bytes, low byte first. Assumes nothing.
use mathlib.Core.Path.{◌∙◌}
use Rattle.history.specs.Formats.{request_of}
use Rattle.slots.proofs.cell_in.Goals as goal

pub returns : goal.returns
unfolding request_of
returns c = c.from.ensures ∙ c.from_le_bytes.ensures
