-- `blockreader::size_in` meets its contract: every block but the last has 496 bytes of records, and the last has its count. Assumes nothing.
use Rattle.std.proofs.Common.{sym, arith}
use Rattle.blockreader.proofs.ReadLaws.{log_bytes}
use Rattle.blockreader.proofs.size_in.Goals as goal

pub returns-in-Some : goal.returns-in-Some
returns-in-Some c = sym (log_bytes c.args.n c.args.blocks.now c.requires c.in-Some.last (omega (arith, c.in-Some.ensures)))
