-- `lists::Queue::place` meets its contract. The loop's invariant: the jobs of the words passed of the job's row are settled. The row itself stays, as its job is not left.
-- Assumes nothing.
use mathlib.Core.Path.{◌≡◌}
use Rattle.tallies.specs.Marks.{in_row, Settled}
use Rattle.tallies.specs.SortLaws.{Passed}
use Rattle.lists.proofs.Queue.place.Given as goal

abbrev pub invariant-loop-w : goal.invariant-loop-w
invariant-loop-w l =
    (l.self.left ≡ l.initial.self.left)
    × Settled (Passed (in_row l.initial.self.waiting l.job) l.w) l.preds l.self.left l.initial.self.ready l.initial.self.waiting l.self.ready l.self.waiting
