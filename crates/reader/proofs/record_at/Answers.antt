-- `reader::record_at` meets its contract: inside, the bytes read are those of the record at the place; outside there is none. Assumes nothing.
use mathlib.Core.Path.{sym}
use native.Mathlib.Omega.{arith}
use Rattle.history_laws.specs.RecordLaws.{record_none}
use Rattle.reader.proofs.Laws.{record_read}
use Rattle.reader.proofs.record_at.Goals as goal

pub returns-then-place-log : goal.returns-then-place-log
returns-then-place-log c =
    record_read c.args.log.now c.args.place c.if-place-log.true (omega (arith, c.from.ensures, c.from_le_bytes.ensures)) (omega (arith, c.from_le_bytes-then-place-log.ensures))

pub returns : goal.returns
returns c = sym (record_none c.args.log.now c.args.place c.if-place-log.false)
