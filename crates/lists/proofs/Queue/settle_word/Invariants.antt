-- `lists::Queue::settle_word` meets its contract. The loop's invariant: the jobs of the marks passed are settled (`Settling`). The measure is what is left to do. Assumes nothing.
use mathlib.Core.Path.{◌≡◌}
use Rattle.tallies.specs.SortLaws.{Settling}
use Rattle.lists.proofs.Queue.settle_word.Given as goal

abbrev pub invariant-loop-todo : goal.invariant-loop-todo
invariant-loop-todo l = (l.self.left ≡ l.initial.self.left) × Settling l.base l.word l.todo l.preds l.self.left l.initial.self.ready l.initial.self.waiting l.self.ready l.self.waiting

abbrev pub decreases-loop-todo : goal.decreases-loop-todo
decreases-loop-todo l = l.todo
