-- `lists::Queue::sort` meets its contract. The loop's invariant: the jobs of the words passed are settled. Assumes nothing.
use mathlib.Core.Path.{◌≡◌}
use Rattle.tallies.specs.Marks.{mark, Settled}
use Rattle.tallies.specs.SortLaws.{Passed}
use Rattle.lists.proofs.Queue.sort.Given as goal

abbrev pub invariant-loop-w : goal.invariant-loop-w
invariant-loop-w l =
    (l.self.left ≡ l.initial.self.left)
    × Settled (Passed (mark l.self.left) l.w) l.preds l.self.left l.initial.self.ready l.initial.self.waiting l.self.ready l.self.waiting
