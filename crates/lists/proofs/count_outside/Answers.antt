use mathlib.Core.Path.{ap, ◌∙◌}
use mathlib.Core.List.{List}
use Prim.Native.Nat.{ℕ}
use native.Mathlib.Omega.{arith}
use lib.ListN.{length}
use lib.Seq.{take_all}
use Rattle.graph.specs.Lists.{only}
use Rattle.lists.proofs.count_outside.Goals as goal

pub returns : goal.returns
returns c =
    (omega arith, λ p x many out. c.loop-i.invariant.1 p x many out ∙ ap (λ (y : List ℕ). length (only p y)) (take_all c.loop-i.i x (omega arith)))
