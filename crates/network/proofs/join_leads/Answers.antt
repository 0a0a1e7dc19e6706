use mathlib.Core.Path.{refl}
use native.Mathlib.Omega.{arith}
use borrow.Author.Rules.{rules}
use Rattle.network.proofs.NetLaws.{filled_turn, filled_end}
use Rattle.network.proofs.join_leads.Goals as goal
use Rattle.network.proofs.join_leads.Invariants.{row}

pub loop-i-init : goal.loop-i-init
loop-i-init c = record { long = search rules; rows = λ k q. absurd (omega arith) }

pub loop-i-preserved : goal.loop-i-preserved
loop-i-preserved c = filled_turn (row c.args.stations.now) c.loop-i.invariant (omega (arith, c.loop-i.invariant.long)) refl

pub returns : goal.returns
returns c = filled_end (row c.args.stations.now) c.loop-i.invariant (omega (arith, c.loop-i.invariant.long))
