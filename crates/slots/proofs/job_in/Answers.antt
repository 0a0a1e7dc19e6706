-- `slots::job_in` meets its contract: four bytes, low byte first. Assumes nothing.
use Rattle.history.specs.Formats.{request_of}
use Rattle.slots.proofs.job_in.Goals as goal

pub returns : goal.returns
unfolding request_of
returns c = c.from_le_bytes.ensures
