-- `checks::place_order` meets its contract. The loop's invariant: the entries passed are good, and the jobs have their places among them (`Placing`).
-- Assumes nothing.
use mathlib.Core.Path.{◌≡◌}
use lib.ListN.{length}
use Rattle.history.specs.Events.{History}
use Rattle.tallies.specs.Jobs.{Jobs, Blank}
use Rattle.tallies.specs.PlaceLaws.{Placing}
use Rattle.checks.proofs.place_order.Given as goal

abbrev pub invariant-loop-i : goal.invariant-loop-i
invariant-loop-i l =
    (length l.placed ≡ 512) × ((h : History) → Jobs h l.table.numbers l.table.states l.table.count → Blank l.initial.placed → Placing h l.table.count l.order l.placed l.i)
