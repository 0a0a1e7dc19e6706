-- `importer::parse` meets its contract. The loop's invariant: of the text the rest is to be read from here on, after the events that the log holds. Assumes nothing.
use mathlib.Core.Path.{◌≡◌}
use Prim.Native.Nat.{◌≤◌}
use lib.ListN.{length, drop}
use Rattle.history.specs.Events.{History}
use Rattle.notation.specs.Parse.{parse_from, parse}
use Rattle.importer.specs.Importer.{as_read, Holds}
use Rattle.importer.proofs.parse.Given as goal

abbrev pub invariant-loop-i : goal.invariant-loop-i
invariant-loop-i l = (length l.log ≡ 32768) × (l.count ≤ l.i) × ((h : History) × (parse l.text ≡ parse_from h (as_read l.s) l.i (drop l.i l.text)) × Holds h l.count l.log)
