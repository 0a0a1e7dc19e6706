-- The words in which the theorems of proofs/StationPromises.antt are said.
-- Assumes nothing.
use Rattle.std.specs.Prelude.{◌≡◌, ℕ}
use Rattle.std.proofs.Math.Option.{some}
use Rattle.history.specs.Replies.{Request, code_of}
use Rattle.history_laws.specs.ReplyLaws.{as_kind}
use Rattle.held.specs.Held.{Held, slot_of}
use Rattle.stations.specs.Stations.{Station, station_of, Network, master, view, network_facts, network_answer, network_after}

-- what every move of the one scheduler keeps, every station keeps
abbrev pub Everywhere : (Held → Type 0) → Network → Type 0
Everywhere P n = (u : Station) → P (view n u)

-- the slot of the job that asked, and that a request leaves at every station what is said of it
pub record ReachesAll (n : Network) (r : Request) (f : ℕ → Held → Held) : Type 0 where
  pub slot : ℕ
  pub its_slot : slot_of (master n) r.job ≡ some slot
  pub at_each : (u : Station) → view (network_after n r) u ≡ f slot (view n u)

-- a step leaves it at the station of its cell, and the others as they were
pub record ReachesOne (n : Network) (r : Request) (f : ℕ → Held → Held) : Type 0 where
  pub slot : ℕ
  pub its_slot : slot_of (master n) r.job ≡ some slot
  pub there : view (network_after n r) (station_of r.cell) ≡ f slot (view n (station_of r.cell))
  pub others : (u : Station) → (station_of r.cell ≡ u → ⊥) → view (network_after n r) u ≡ view n u

-- a publish (kind 6) gets the answer of the write (kind 3); granted, it leaves what the write and then the end (kind 4) leave, at the master and at every station; refused, it leaves
-- all as it was, as the write does
pub record PublishedNetwork (n : Network) (r : Request) : Type 0 where
  pub as_the_write : network_answer n (as_kind 6 r) ≡ network_answer n (as_kind 3 r)
  pub both : code_of (network_facts n) (as_kind 6 r) ≡ 0 → network_after n (as_kind 6 r) ≡ network_after (network_after n (as_kind 3 r)) (as_kind 4 r)
  pub neither : (code_of (network_facts n) (as_kind 6 r) ≡ 0 → ⊥) → (network_after n (as_kind 6 r) ≡ n) × (network_after n (as_kind 3 r) ≡ n)
