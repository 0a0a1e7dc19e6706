-- One arbiter at each port (document 02, order 12): three stations, each with the cell sets of its own cells, and a master.
--
-- Station 0 holds cells 0 to 84, station 1 cells 85 to 169, station 2 cells 170 to 255. A station keeps the precedences that it knows of, as leads, and the sets, in the
-- rows of Held: of those sets only the marks of its own cells are ever there (`Home`). The master keeps the next number, the free slots, the jobs' numbers
-- and their ports, and joins the three precedences before each answer. What a master or a station does with what it keeps is what the one scheduler does (`opened_at`,
-- `stepped_at`, `left_at` of Held); what is said here is who does it, and from whose leads. An open, an end and an abandon reach every station, a step the station of its
-- cell alone. Who takes over at an end is read off the joined leads: a chain may come in at one station and go on at another, at a job that has ended.
-- The rule is total for any content.
-- Assumes nothing.
use Rattle.std.specs.Prelude.{◌≡◌, Bool, false, ◌||◌, cond, List, [], ◌∷◌, ℕ, ◌<◌, T, leb, eqb, length, get_or}
use Rattle.std.proofs.Math.Option.{Option, none, some}
use Rattle.std.specs.Int.Bits.{bit_or}
use Rattle.graph.specs.Lists.{only}
use Rattle.marks.specs.Marks.{bit, tab}
use Rattle.history.specs.Events.{Kind, write}
use Rattle.history.specs.Replies.{cells, most_open, Request, Reply, Want, an_open, a_step, an_end, an_abandon, a_publish, nothing, want, Facts, code_of, reply_of}
use Rattle.held.specs.Held.{Held, all_words, fresh_held, leads_at, port_at, open_slots, Aspect, own_at, past_at, is_some, at_slot, slot_of, chain_back, altered, opened_at, stepped_at, left_at, takes_over, free_slot}

-- ---- who keeps what

pub data Station : Type 0 where
  station_0 station_1 station_2 : Station

-- the station of a cell
unfoldable pub station_of : ℕ → Station
station_of c = cond (leb c 84) station_0 (cond (leb c 169) station_1 station_2)

-- what a station keeps: for each slot the slots that it leads to, and the words of its sets
pub record Part : Type 0 where
  pub leads : List ℕ
  pub sets : List ℕ

-- the master's, and the parts of the three stations
pub record Network : Type 0 where
  pub next : ℕ
  pub free : ℕ
  pub numbers : List ℕ
  pub ports : List ℕ
  pub part_0 : Part
  pub part_1 : Part
  pub part_2 : Part

abbrev pub part : Network → Station → Part
part n station_0 = n.part_0
part n station_1 = n.part_1
part n station_2 = n.part_2

-- a state of the one scheduler made of what the master keeps and of leads and sets
abbrev pub state : Network → List ℕ → List ℕ → Held
state n l w = record { next = n.next; free = n.free; numbers = n.numbers; leads = l; sets = w; ports = n.ports }

-- what the master has to go by alone; and what a station has, told who is open
abbrev pub master : Network → Held
master n = state n [] []

abbrev pub view : Network → Station → Held
view n u = state n (part n u).leads (part n u).sets

-- ---- the three together

-- the marks of any of the three numbers; and does one of the three pass?
abbrev pub join : (Station → ℕ) → ℕ
join f = bit_or (f station_0) (bit_or (f station_1) (f station_2))

abbrev pub any : (Station → Bool) → Bool
any f = f station_0 || (f station_1 || f station_2)

-- the joined precedences: where slot i leads to by what one station or another knows
unfoldable pub joined_leads : Network → ℕ → ℕ
joined_leads n i = join (λ u. leads_at (view n u) i)

-- leads and sets of the three in one state
unfoldable pub joined : Network → Held
joined n = state n (tab most_open (joined_leads n)) (tab all_words (λ w. join (λ u. get_or (part n u).sets w 0)))

-- ---- the facts

-- what the master puts together for a step on cell c: the joined leads, and the sets that the station of the cell has
unfoldable pub asked : Network → ℕ → Held
asked n c = state n (tab most_open (joined_leads n)) (part n (station_of c)).sets

-- who is open, how many, of which port and the next number are known to the master; that a slot has altered a cell, to the station of that cell; a circle goes by joined leads, and by
-- new ones, which the station of the cell tells
unfoldable pub network_facts : Network → Facts
network_facts n =
    record {
      is_open = λ j. is_some (slot_of (master n) j);
      has_written = λ j. at_slot (slot_of (master n) j) (λ s. any (λ u. altered (view n u) s));
      count = length (open_slots (master n));
      crowd = λ p. length (only (bit (port_at (master n) p)) (open_slots (master n)));
      next = n.next;
      closes = λ k j c. at_slot (slot_of (master n) j) (λ s. chain_back (asked n c) k s c);
    }

-- ---- the moves

-- the part of a state that a station keeps
abbrev pub kept : Held → Part
kept h = record { leads = h.leads; sets = h.sets }

-- the master and each station moved on their own
abbrev pub all_moved : (Held → Held) → Network → Network
all_moved f n =
    let m = f (master n) in
    record { next = m.next; free = m.free; numbers = m.numbers; ports = m.ports; part_0 = kept (f (view n station_0)); part_1 = kept (f (view n station_1)); part_2 = kept (f (view n station_2)) }

-- one station moved
abbrev pub one_moved : (Held → Held) → Station → Network → Network
one_moved f station_0 n = record { next = n.next; free = n.free; numbers = n.numbers; ports = n.ports; part_0 = kept (f (view n station_0)); part_1 = n.part_1; part_2 = n.part_2 }
one_moved f station_1 n = record { next = n.next; free = n.free; numbers = n.numbers; ports = n.ports; part_0 = n.part_0; part_1 = kept (f (view n station_1)); part_2 = n.part_2 }
one_moved f station_2 n = record { next = n.next; free = n.free; numbers = n.numbers; ports = n.ports; part_0 = n.part_0; part_1 = n.part_1; part_2 = kept (f (view n station_2)) }

-- a job of port p is opened in slot s: whose past a station holds leads to it there
unfoldable pub network_opened : Network → ℕ → ℕ → Network
network_opened n p s = all_moved (λ h. opened_at h p s) n

-- a step of slot s: the station of the cell does it
unfoldable pub network_stepped : Network → Kind → ℕ → ℕ → Network
network_stepped n k s c = one_moved (λ h. stepped_at h k s c) (station_of c) n

-- slot s is left, everywhere, and the rows that pass t take over what each station holds of it
unfoldable pub network_left : Network → (ℕ → Bool) → ℕ → Network
network_left n t s = all_moved (λ h. left_at h t s) n

-- at an end the open rows that lead to s by the joined leads take over; at an abandon none does
unfoldable pub network_ended : Network → ℕ → Network
network_ended n s = network_left n (takes_over (joined n) s) s

unfoldable pub network_abandoned : Network → ℕ → Network
network_abandoned n s = network_left n (λ i. false) s

-- ---- the rule

abbrev pub with_slot : Option ℕ → (ℕ → Network) → Network → Network
with_slot none f n = n
with_slot (some s) f n = f s

unfoldable pub network_moved : Network → Want → ℕ → ℕ → Network
network_moved n an_open j c = with_slot (free_slot (master n)) (λ s. network_opened n j s) n
network_moved n (a_step k) j c = with_slot (slot_of (master n) j) (λ s. network_stepped n k s c) n
network_moved n an_end j c = with_slot (slot_of (master n) j) (λ s. network_ended n s) n
network_moved n an_abandon j c = with_slot (slot_of (master n) j) (λ s. network_abandoned n s) n
network_moved n a_publish j c = with_slot (slot_of (master n) j) (λ s. network_ended (network_stepped n write s c) s) n
network_moved n nothing j c = n

-- no job, and every row blank at every station
unfoldable pub fresh_network : ℕ → Network
fresh_network first =
    let h = fresh_held first in
    record { next = h.next; free = h.free; numbers = h.numbers; ports = h.ports; part_0 = kept h; part_1 = kept h; part_2 = kept h }

unfoldable pub network_answer : Network → Request → Reply
network_answer n r = reply_of (network_facts n) r

unfoldable pub network_after : Network → Request → Network
network_after n r = cond (eqb (code_of (network_facts n) r) 0) (network_moved n (want r.kind) r.job r.cell) n

abbrev pub network_answers : Network → List Request → List Reply
network_answers n [] = []
network_answers n (r ∷ rs) = network_answer n r ∷ network_answers (network_after n r) rs

abbrev pub network_after_all : Network → List Request → Network
network_after_all n [] = n
network_after_all n (r ∷ rs) = network_after_all (network_after n r) rs

-- ---- its own cells alone

-- a cell that is marked at a station, in any row, is one of its own
pub record Home (n : Network) : Type 0 where
  pub own : (u : Station) (i : ℕ) (a : Aspect) (c : ℕ) → i < most_open → c < cells → T (own_at (view n u) i a c) → station_of c ≡ u
  pub past : (u : Station) (i : ℕ) (a : Aspect) (c : ℕ) → i < most_open → c < cells → T (past_at (view n u) i a c) → station_of c ≡ u
