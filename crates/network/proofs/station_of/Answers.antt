-- `network::station_of` meets its contract: the arms part the cells as the rule does. Assumes nothing.
use native.Mathlib.Omega.{arith}
use Rattle.network.proofs.NetLaws.{number_0, number_1, number_2}
use Rattle.network.proofs.station_of.Goals as goal

pub returns-in-0-to-84 : goal.returns-in-0-to-84
returns-in-0-to-84 c = number_0 (omega arith)

pub returns-in-0-to-169 : goal.returns-in-0-to-169
returns-in-0-to-169 c = number_1 (omega arith) (omega arith)

pub returns-in_default : goal.returns-in_default
returns-in_default c = number_2 (omega arith)
