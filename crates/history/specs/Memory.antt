-- The bounded memory: what is held of the open jobs, as Bool-valued tables over job numbers, and the rule that moves it.
--
-- Three tables speak of each open job. own: the cells it has touched itself. past: the cells touched by ended jobs that it leads to, with
-- nothing but ended jobs in between. leads: the open jobs that it leads to in that way. What lies behind another open job is left to that job,
-- which could still be abandoned. Tables of jobs that are not open are blank. Openings and ends stand in the tables as reads, writes and adds do, on
-- cell 0: so past has an end where the job leads to some ended job, and then it leads to every job that is opened. Beside the tables stands the port of each
-- open job; that of a job that is not open is asked by nobody.
--
-- The rule is four functions (`Rule`), so that a wrong build is another rule over the same memory (WrongBuilds of crate `refuted`).
-- Assumes nothing.
use Rattle.std.specs.Prelude.{Bool, true, false, not, ◌&&◌, ◌||◌, List, [], ◌∷◌, ◌++◌, ℕ, zero, suc, eqb, length}
use Rattle.graph.specs.Decide.{some_of}
use Rattle.graph.specs.Lists.{strike}
use Rattle.graph.specs.Reach.{reach}
use Rattle.history.specs.Events.{Kind, read, write, add, kinds, alters, Deed, does, opening, ending, deeds, clash, Event, opens, steps, ends, abandons, has}
use Rattle.history.specs.Replies.{cells, Request, Reply, Facts, reply_of, granted_of, ports_after, of_port}

-- which cells were touched, by what was done
abbrev pub Footprint : Type 0
Footprint = Deed → ℕ → Bool

pub record Memory : Type 0 where
  pub next : ℕ
  pub jobs : List ℕ
  pub own : ℕ → Footprint
  pub past : ℕ → Footprint
  pub leads : ℕ → ℕ → Bool
  pub port : ℕ → ℕ

abbrev pub fresh : ℕ → Memory
fresh first = record { next = first; jobs = []; own = λ j d c. false; past = λ j d c. false; leads = λ i j. false; port = λ j. 0 }

-- ---- the rule

-- a footprint clashes with a later deed d on cell c
unfoldable pub meets : Footprint → Deed → ℕ → Bool
meets f d c = some_of (λ e. f e c && clash e d) deeds

-- job i comes to lead to j at j's step: another job's own steps clash with it, or any job's past does, j's too
unfoldable pub touches : Memory → Deed → ℕ → ℕ → ℕ → Bool
touches m d j c i = (not (eqb i j) && meets (m.own i) d c) || meets (m.past i) d c

unfoldable pub same_kind : Kind → Kind → Bool
same_kind read read = true
same_kind read write = false
same_kind read add = false
same_kind write read = false
same_kind write write = true
same_kind write add = false
same_kind add read = false
same_kind add write = false
same_kind add add = true

unfoldable pub same_deed : Deed → Deed → Bool
same_deed (does k) (does l) = same_kind k l
same_deed (does k) opening = false
same_deed (does k) ending = false
same_deed opening (does l) = false
same_deed opening opening = true
same_deed opening ending = false
same_deed ending (does l) = false
same_deed ending opening = false
same_deed ending ending = true

-- a step of j: new leads to j, and j's own gains the cell
unfoldable pub step_in : Memory → Deed → ℕ → ℕ → Memory
step_in m d j c =
    record {
      next = m.next;
      jobs = m.jobs;
      own = λ i e c'. m.own i e c' || (eqb i j && (same_deed e d && eqb c' c));
      past = m.past;
      leads = λ i x. m.leads i x || (eqb x j && touches m d j c i);
      port = m.port;
    }

-- job j is open, and has done nothing
unfoldable pub open_in : Memory → ℕ → Memory
open_in m j = record { next = suc j; jobs = m.jobs ++ j ∷ []; own = m.own; past = m.past; leads = m.leads; port = m.port }

-- job j is open no more: its tables are blanked, and it is struck out everywhere
unfoldable pub blank : Memory → ℕ → Memory
blank m j =
    record {
      next = m.next;
      jobs = strike j m.jobs;
      own = λ i d c. not (eqb i j) && m.own i d c;
      past = λ i d c. not (eqb i j) && m.past i d c;
      leads = λ i x. not (eqb i j) && (not (eqb x j) && m.leads i x);
      port = m.port;
    }

-- what leads to j takes over j's own, past and leads
unfoldable pub fold : Memory → ℕ → Memory
fold m j =
    record {
      next = m.next;
      jobs = m.jobs;
      own = m.own;
      past = λ i d c. m.past i d c || (m.leads i j && (m.own j d c || m.past j d c));
      leads = λ i x. m.leads i x || (m.leads i j && m.leads j x);
      port = m.port;
    }

pub record Rule : Type 0 where
  pub at_open : Memory → ℕ → Memory
  pub at_step : Memory → Kind → ℕ → ℕ → Memory
  pub at_end : Memory → ℕ → Memory
  pub at_abandon : Memory → ℕ → Memory

unfoldable pub right : Rule
right =
    record {
      at_open = λ m j. step_in (open_in m j) opening j 0;
      at_step = λ m k j c. step_in m (does k) j c;
      at_end = λ m j. blank (fold (step_in m ending j 0) j) j;
      at_abandon = blank;
    }

-- ---- the machine of a rule

unfoldable pub move : Rule → Memory → Event → Memory
move u m (opens j) = u.at_open m j
move u m (steps k j c) = u.at_step m k j c
move u m (ends j) = u.at_end m j
move u m (abandons j) = u.at_abandon m j

abbrev pub move_all : Rule → Memory → List Event → Memory
move_all u m [] = m
move_all u m (e ∷ es) = move_all u (move u m e) es

-- the numbers below n
abbrev pub below : ℕ → List ℕ
below zero = []
below (suc n) = n ∷ below n

-- a step is refused when, with its leads, a chain of leads goes from its job back to it over open jobs
unfoldable pub held : Rule → Memory → Facts
held u m =
    record {
      is_open = has m.jobs;
      has_written = λ j. some_of (λ k. alters k && some_of (λ c. m.own j (does k) c) (below cells)) kinds;
      count = length m.jobs;
      crowd = λ p. length (of_port m.port p m.jobs);
      next = m.next;
      closes = λ k j c. let l = (u.at_step m k j c).leads in reach l m.jobs j j;
    }

-- a memory with other ports
abbrev pub with_port : Memory → (ℕ → ℕ) → Memory
with_port m p = record { next = m.next; jobs = m.jobs; own = m.own; past = m.past; leads = m.leads; port = p }

-- the memory after a request: the events that it grants move all but the ports, which are no part of an event
unfoldable pub held_after : Rule → Memory → Request → Memory
held_after u m r = with_port (move_all u m (granted_of (held u m) r)) (ports_after (held u m) r m.port)

-- from a memory and a list of requests: the replies, one by one
abbrev pub held_replies : Rule → Memory → List Request → List Reply
held_replies u m [] = []
held_replies u m (r ∷ rs) = reply_of (held u m) r ∷ held_replies u (held_after u m r) rs
