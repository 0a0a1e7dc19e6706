-- The words in which the theorems of proofs/StationLaws.antt are said.
-- Assumes nothing.
use Rattle.std.proofs.Math.Bool.{Bool}
use Prim.Native.Nat.{ℕ, ◌<◌}
use Rattle.std.proofs.Math.Dec.{T}
use Rattle.marks.specs.Marks.{bit}
use Rattle.history.specs.Events.{Kind}
use Rattle.history.specs.Replies.{cells, most_open, numbers}
use Rattle.held.specs.Held.{open_at}
use Rattle.stations.specs.Stations.{Network, master, network_opened, network_stepped, network_left}

pub record Moves (P : Network → Type 0) (n : Network) : Type 0 where
  pub opens : (p s : ℕ) → s < most_open → T (bit n.free s) → n.next < numbers → P (network_opened n p s)
  pub steps : (k : Kind) (s c : ℕ) → s < most_open → T (open_at (master n) s) → c < cells → P (network_stepped n k s c)
  pub leaves : (t : ℕ → Bool) (s : ℕ) → s < most_open → T (open_at (master n) s) → ((i : ℕ) → T (t i) → T (open_at (master n) i)) → P (network_left n t s)
