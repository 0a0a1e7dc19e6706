-- The words in which the theorems of proofs/SwapOrders.antt are said.
-- Assumes nothing.
use Rattle.std.specs.Prelude.{eqb}
use Rattle.std.proofs.Math.Bool.{cond}
use mathlib.Core.List.{List, [], ◌∷◌, ◌++◌}
use Rattle.history.specs.Events.{Event}
use Rattle.history.specs.Replies.{Request, Reply, want, event_of}

-- the events of a request that got the reply
abbrev pub granted_by : Reply → Request → List Event
granted_by a r = cond (eqb a.code 0) (event_of a.job (want r.kind) r.job r.cell) []

abbrev pub logged : List Reply → List Request → List Event
logged [] rs = []
logged (a ∷ ps) [] = []
logged (a ∷ ps) (r ∷ rs) = granted_by a r ++ logged ps rs
