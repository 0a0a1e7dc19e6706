-- `lists::list_jobs` meets its contract. The loop's invariant: the jobs left are sorted, and so many entries of the order stand (`Underway`) and have their places. Assumes nothing.
use lib.ListN.{take}
use Rattle.history.specs.Events.{History}
use Rattle.tallies.specs.Jobs.{Jobs, Blank}
use Rattle.tallies.specs.Marks.{Preceded, KeptMarks, Sorted}
use Rattle.tallies.specs.Places.{Placed}
use Rattle.tallies.specs.ListLaws.{Underway}
use Rattle.lists.proofs.list_jobs.Given as goal

abbrev pub invariant-loop-n : goal.invariant-loop-n
invariant-loop-n l =
    Sorted l.preds l.queue.left l.queue.ready l.queue.waiting
    × ((h : History) → Jobs h l.table.numbers l.table.states l.table.count → Preceded h l.table.count l.preds → KeptMarks h l.table.count l.left → Blank l.initial.placed
    → Underway h l.table.count l.queue.left l.n l.order × Placed h l.table.count (take l.n l.order) l.placed)
