-- `network::join_leads` meets its contract. The loop's invariant: the rows passed are joined. Assumes nothing.
use mathlib.Core.List.{List}
use Prim.Native.Nat.{ℕ}
use lib.Bits.{bit_or}
use lib.ListN.{get_or}
use Rattle.network.specs.Nets.{leads_at}
use Rattle.network.specs.declared.Station.{Station}
use Rattle.network.proofs.NetLaws.{Filled}
use Rattle.network.proofs.join_leads.Given as goal

-- row k of the three, joined
abbrev pub row : List Station → ℕ → ℕ
row stations k = bit_or (get_or (leads_at stations 0) k 0) (bit_or (get_or (leads_at stations 1) k 0) (get_or (leads_at stations 2) k 0))

abbrev pub invariant-loop-i : goal.invariant-loop-i
invariant-loop-i l = Filled (row l.stations) l.i l.row-items
