-- The fields that a record of the reader stands for, and where the reader stands after it.
-- Assumes nothing.
use Rattle.std.specs.Prelude.{cond, List, ℕ, ◌+◌, ◌/◌, ltb, length}
use Rattle.std.specs.declared.option.Option as rust
use Rattle.std.specs.declared.option.Option.TheVariants.{Some, None}
use Rattle.std.proofs.Math.Option.{Option, none, some}
use Rattle.history.specs.Replies.{Request}
use Rattle.reader.specs.declared.Record.{Record}
use Rattle.reader.specs.declared.Reader.{Reader}

abbrev pub told : rust.Option Record → Option Request
told (Some r) = some (record { kind = r.kind; byte1 = r.byte1; cell = r.cell; job = r.job })
told None = none

-- the place after this one; at or past the last record it stays
abbrev pub place_after : List ℕ → ℕ → ℕ
place_after bytes n = cond (ltb n (length bytes / 8)) (n + 1) n

-- the same log, one record further
abbrev pub moved_on : Reader → Reader
moved_on r = record { log = r.log; place = place_after r.log.now r.place }
