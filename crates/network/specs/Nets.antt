-- What the contracts of network say: the network that is kept, and what a request leaves of it, by the rule of the crate stations.
-- Assumes nothing.
use Rattle.std.specs.Prelude.{◌≡◌, Bool, ◌||◌, cond, List, [], ℕ, eqb, get_or, Result}
use Rattle.std.specs.Int.Bits.{bit_or}
use Rattle.marks.specs.Marks.{tab}
use Rattle.history.specs.Events.{Kind}
use Rattle.history.specs.Replies.{Request, Want, first_of, tests, job_of}
use Rattle.held.specs.Held.{chain_back, altered, stepped_at}
use Rattle.rows.specs.Rows.{links_of, sets_only}
use Rattle.slots.specs.Lent.{numbered}
use Rattle.slots.specs.declared.JobNumber.{JobNumber}
use Rattle.slots.specs.declared.Refusal.{Refusal}
use Rattle.stations.specs.Stations.{station_0, station_1, station_2, station_of, Station, Part, Network, asked, network_facts, network_stepped, network_moved, network_answer, network_after}
use Rattle.network.specs.declared.Station as Kept
use Rattle.network.specs.declared.Network as Whole

-- the number of a station, and that of the station of a cell
abbrev pub number : Station → ℕ
number station_0 = 0
number station_1 = 1
number station_2 = 2

abbrev pub number_of : ℕ → ℕ
number_of c = number (station_of c)

-- what the station of a number keeps; nothing past the last
abbrev pub at_station : List Kept.Station → ℕ → Kept.Station
at_station stations i = get_or stations i (record { leads = []; sets = [] })

abbrev pub leads_at : List Kept.Station → ℕ → List ℕ
leads_at stations i = (at_station stations i).leads

abbrev pub sets_at : List Kept.Station → ℕ → List ℕ
sets_at stations i = (at_station stations i).sets

abbrev pub part_at : List Kept.Station → ℕ → Part
part_at stations i = record { leads = leads_at stations i; sets = sets_at stations i }

-- the network that is kept
abbrev pub net : ℕ → ℕ → List ℕ → List ℕ → List Kept.Station → Network
net next free numbers ports stations =
    record { next = next; free = free; numbers = numbers; ports = ports; part_0 = part_at stations 0; part_1 = part_at stations 1; part_2 = part_at stations 2 }

abbrev pub net_of : Whole.Network → Network
net_of n = net n.next n.free n.numbers n.ports n.stations

-- the leads of the three, joined row by row
abbrev pub joined_rows : List ℕ → List ℕ → List ℕ → List ℕ
joined_rows leads0 leads1 leads2 = tab 32 (λ i. bit_or (get_or leads0 i 0) (bit_or (get_or leads1 i 0) (get_or leads2 i 0)))

-- some station knows that slot s has altered a cell
abbrev pub any_altered : List Kept.Station → ℕ → Bool
any_altered stations s = altered (sets_only (sets_at stations 0)) s || (altered (sets_only (sets_at stations 1)) s || altered (sets_only (sets_at stations 2)) s)

-- what a step leaves at a station, that is tested for a circle by the joined leads; and what it leaves of the network
pub record StepsAt (free : ℕ) (joined leads sets : List ℕ) (k : Kind) (s c : ℕ) (closed : Bool) (leads' sets' : List ℕ) : Type 0 where
  pub told : closed ≡ chain_back (links_of free joined sets) k s c
  pub left : links_of free leads' sets' ≡ cond closed (links_of free leads sets) (stepped_at (links_of free leads sets) k s c)

pub record StepsThere (n : Network) (k : Kind) (s c : ℕ) (closed : Bool) (m : Network) : Type 0 where
  pub told : closed ≡ chain_back (asked n c) k s c
  pub left : m ≡ cond closed n (network_stepped n k s c)

-- what a well-formed request for w leaves: the reply by the code that the tests give, and the network moved by a grant
unfoldable pub network_code : Network → Want → ℕ → ℕ → ℕ
network_code n w j c = first_of (tests (network_facts n) w j c)

pub record Does (n : Network) (w : Want) (j c : ℕ) (r : Result JobNumber Refusal) (m : Network) : Type 0 where
  pub answered : numbered r ≡ record { code = network_code n w j c; job = cond (eqb (network_code n w j c) 0) (job_of n.next w j) 0 }
  pub left : m ≡ cond (eqb (network_code n w j c) 0) (network_moved n w j c) n

-- what a request leaves
pub record Steps (n : Network) (q : Request) (r : Result JobNumber Refusal) (m : Network) : Type 0 where
  pub answered : numbered r ≡ network_answer n q
  pub left : m ≡ network_after n q
