-- Computed tables of the three stations: the cases of the full history as they stand, all at station 0 (`network_p_cases`), and with their cells at all three stations
-- (`spread_p_cases`, `spread_own_cases`); ports (`network_port_cases`); which station has which cell (`station_cells`); what each station holds after requests of our own (`held_at`); and that
-- to fold in by a station's own leads is wrong (`joined_needed`).
-- Assumes nothing.
use Rattle.std.specs.Prelude.{◌≡◌, refl, cond, List, [], ◌∷◌, map, ℕ, ◌+◌, ◌*◌, ◌%◌, leb}
use Rattle.graph.specs.Lists.{◌∈◌, only}
use Rattle.marks.specs.Marks.{bit, without, upto}
use Rattle.history.specs.Replies.{most_open, Request, Reply, want, tests, code_of, job_of, reply_of}
use Rattle.history.specs.Cases.{open_one, reads, writes, adds, end, abandon, publishes, granted, refused, Exchange, ◌gets◌, Case, requests_of, replies_of, p_table, own_table, Ports, no_port, port_no_number, spent_no_port, port_left, rows}
use Rattle.held.specs.Held.{Held, fresh_held, number_at, leads_at, port_at, word_at, open_at, open_slots, as_used, as_altered, cell_at, own_at, past_at, slot_of, meets, touched, chain_back, altered, has_past, opened_at, stepped_at, left_at, ended_at, free_slot}
use Rattle.held.specs.Cases.{Row, bare, blank, with_own, with_past}
use Rattle.stations.specs.Stations.{station_0, station_1, station_2, station_of, Network, master, view, joined_leads, joined, asked, network_facts, kept, network_opened, network_stepped, network_left, network_ended, network_abandoned, network_moved, fresh_network, network_answer, network_after, network_answers, network_after_all}

-- ---- the cases of the full history

-- opens every definition that the rule computes with, so that a table needs to open only this one
unfoldable pub network_replies : Case → List Reply
unfolding want tests code_of job_of reply_of meets bit without
    fresh_held number_at leads_at port_at word_at open_at open_slots cell_at slot_of touched chain_back altered has_past opened_at stepped_at left_at ended_at free_slot
    station_of joined_leads joined asked network_facts network_opened network_stepped network_left network_ended network_abandoned network_moved fresh_network network_answer network_after
network_replies c = network_answers (fresh_network c.first) (requests_of c)

pub network_p_cases : (c : Case) → c ∈ p_table → network_answers (fresh_network c.first) (requests_of c) ≡ replies_of c
unfolding network_replies
network_p_cases c = rows network_replies replies_of (refl, (refl, (refl, (refl, (refl, (refl, (refl, (refl, tt))))))))

-- the cells of the cases at other stations: 5 becomes 90 at station 1, 6 becomes 176 at station 2, and 0, 7 and 8 stay at station 0, as do cells above 84 where they are. No two
-- cells become one
abbrev pub spread : ℕ → ℕ
spread c = cond (leb c 84) (c % 4 % 3 * 85 + c) c

abbrev pub elsewhere : Request → Request
elsewhere r = record { kind = r.kind; byte1 = r.byte1; cell = spread r.cell; job = r.job }

abbrev pub spread_requests : Case → List Request
spread_requests c = map elsewhere (requests_of c)

unfoldable pub spread_replies : Case → List Reply
unfolding network_replies
spread_replies c = network_answers (fresh_network c.first) (spread_requests c)

-- the answers are the same
pub spread_p_cases : (c : Case) → c ∈ p_table → network_answers (fresh_network c.first) (spread_requests c) ≡ replies_of c
unfolding spread_replies
spread_p_cases c = rows spread_replies replies_of (refl, (refl, (refl, (refl, (refl, (refl, (refl, (refl, tt))))))))

pub spread_own_cases : (c : Case) → c ∈ own_table → network_answers (fresh_network c.first) (spread_requests c) ≡ replies_of c
unfolding spread_replies
spread_own_cases c = rows spread_replies replies_of (refl, (refl, (refl, (refl, (refl, (refl, (refl, (refl, (refl, (refl, (refl, (refl, (refl, (refl, tt))))))))))))))

-- ---- ports

-- the replies, and how many open jobs each port has then
pub record Crowded : Type 0 where
  pub answered : List Reply
  pub crowds : List ℕ

abbrev pub to_crowd : Ports → Crowded
to_crowd c = record { answered = map (λ e. e.answered) c.exchanges; crowds = c.crowds }

unfoldable pub network_crowded : Ports → Crowded
unfolding network_replies
network_crowded c =
    let asked = map (λ e. e.asked) c.exchanges in
    record {
      answered = network_answers (fresh_network c.first) asked;
      crowds = map (network_facts (network_after_all (fresh_network c.first) asked)).crowd (0 ∷ 1 ∷ 2 ∷ []);
    }

-- the short ones of the cases of ports: those of 17 opens and more are computed in held
abbrev pub few_ports : List Ports
few_ports = no_port ∷ port_no_number ∷ spent_no_port ∷ port_left ∷ []

-- the master counts the jobs of a port as the one scheduler does
pub network_port_cases : (c : Ports) → c ∈ few_ports → network_crowded c ≡ to_crowd c
unfolding network_crowded
network_port_cases c = rows network_crowded to_crowd (refl, (refl, (refl, (refl, tt))))

-- ---- which station has which cell

pub station_cells : map station_of (0 ∷ 84 ∷ 85 ∷ 169 ∷ 170 ∷ 255 ∷ []) ≡ station_0 ∷ station_0 ∷ station_1 ∷ station_1 ∷ station_2 ∷ station_2 ∷ []
unfolding station_of
station_cells = refl

-- ---- what each station holds

-- requests with their answers, from the fresh network of first number 1 on; and then the rows of the lowest slots as each station has them. Only these cells are looked at
abbrev pub looked : List ℕ
looked = 5 ∷ 84 ∷ 85 ∷ 100 ∷ 169 ∷ 170 ∷ 200 ∷ []

pub record Told : Type 0 where
  pub exchanges : List Exchange
  pub slots : ℕ
  pub at_0 : List Row
  pub at_1 : List Row
  pub at_2 : List Row

pub record Rows : Type 0 where
  pub answered : List Reply
  pub at_0 : List Row
  pub at_1 : List Row
  pub at_2 : List Row

abbrev pub to_tell : Told → Rows
to_tell t = record { answered = map (λ e. e.answered) t.exchanges; at_0 = t.at_0; at_1 = t.at_1; at_2 = t.at_2 }

abbrev pub row_of : Held → ℕ → Row
row_of h i =
    record {
      number = number_at h i;
      leads = only (bit (leads_at h i)) (upto most_open);
      own_used = only (own_at h i as_used) looked;
      own_altered = only (own_at h i as_altered) looked;
      past_used = only (past_at h i as_used) looked;
      past_altered = only (past_at h i as_altered) looked;
    }

unfoldable pub told : Told → Rows
unfolding network_replies
told t =
    let asked = map (λ e. e.asked) t.exchanges in
    let n = network_after_all (fresh_network 1) asked in
    record {
      answered = network_answers (fresh_network 1) asked;
      at_0 = map (row_of (view n station_0)) (upto t.slots);
      at_1 = map (row_of (view n station_1)) (upto t.slots);
      at_2 = map (row_of (view n station_2)) (upto t.slots);
    }

-- the last cell of a station and the first of the next; a write or an add at any station bars abandoning
abbrev pub boundaries : Told
boundaries =
    record {
      exchanges =
          open_one gets granted 1 ∷ open_one gets granted 2 ∷ open_one gets granted 3
          ∷ reads 1 84 gets granted 1 ∷ reads 1 85 gets granted 1 ∷ adds 2 169 gets granted 2 ∷ writes 3 170 gets granted 3
          ∷ abandon 2 gets refused 4 ∷ abandon 3 gets refused 4 ∷ [];
      slots = 3;
      at_0 = with_own 1 [] (84 ∷ []) [] ∷ bare 2 [] ∷ bare 3 [] ∷ [];
      at_1 = with_own 1 [] (85 ∷ []) [] ∷ with_own 2 [] [] (169 ∷ []) ∷ bare 3 [] ∷ [];
      at_2 = bare 1 [] ∷ bare 2 [] ∷ with_own 3 [] (170 ∷ []) (170 ∷ []) ∷ [];
    }

-- job 1 comes before job 2 by what station 0 knows, and job 2 before job 3 by what station 1 knows; job 2 has written at station 2. When it ends, job 1 takes over at every
-- station: its leads at station 1, its write at station 2. A job opened then comes after job 1, as each station that has a past of it knows
abbrev pub end_everywhere : Told
end_everywhere =
    record {
      exchanges =
          open_one gets granted 1 ∷ open_one gets granted 2 ∷ open_one gets granted 3
          ∷ reads 1 5 gets granted 1 ∷ writes 2 5 gets granted 2
          ∷ reads 2 100 gets granted 2 ∷ writes 3 100 gets granted 3
          ∷ writes 2 200 gets granted 2 ∷ end 2 gets granted 2 ∷ [];
      slots = 3;
      at_0 = record { number = 1; leads = []; own_used = 5 ∷ []; own_altered = []; past_used = 5 ∷ []; past_altered = 5 ∷ [] } ∷ blank ∷ bare 3 [] ∷ [];
      at_1 = with_past 1 (2 ∷ []) (100 ∷ []) [] ∷ blank ∷ with_own 3 [] (100 ∷ []) (100 ∷ []) ∷ [];
      at_2 = with_past 1 [] (200 ∷ []) (200 ∷ []) ∷ blank ∷ bare 3 [] ∷ [];
    }

-- an abandon strikes its slot at every station, and hands nothing on
abbrev pub abandon_everywhere : Told
abandon_everywhere =
    record {
      exchanges =
          open_one gets granted 1 ∷ open_one gets granted 2
          ∷ writes 1 5 gets granted 1 ∷ reads 2 5 gets granted 2
          ∷ writes 1 100 gets granted 1 ∷ reads 2 100 gets granted 2
          ∷ writes 1 200 gets granted 1 ∷ reads 2 200 gets granted 2 ∷ abandon 2 gets granted 2 ∷ [];
      slots = 2;
      at_0 = with_own 1 [] (5 ∷ []) (5 ∷ []) ∷ blank ∷ [];
      at_1 = with_own 1 [] (100 ∷ []) (100 ∷ []) ∷ blank ∷ [];
      at_2 = with_own 1 [] (200 ∷ []) (200 ∷ []) ∷ blank ∷ [];
    }

-- a publish at each station: its write there, and its end everywhere. The job opened then comes after job 1 by what every station knows
abbrev pub publish_everywhere : Told
publish_everywhere =
    record {
      exchanges =
          open_one gets granted 1 ∷ open_one gets granted 2 ∷ open_one gets granted 3
          ∷ reads 1 100 gets granted 1 ∷ reads 1 200 gets granted 1
          ∷ publishes 2 100 gets granted 2 ∷ publishes 3 200 gets granted 3 ∷ open_one gets granted 4 ∷ [];
      slots = 3;
      at_0 = bare 1 [] ∷ bare 4 [] ∷ blank ∷ [];
      at_1 = record { number = 1; leads = 1 ∷ []; own_used = 100 ∷ []; own_altered = []; past_used = 100 ∷ []; past_altered = 100 ∷ [] } ∷ bare 4 [] ∷ blank ∷ [];
      at_2 = record { number = 1; leads = 1 ∷ []; own_used = 200 ∷ []; own_altered = []; past_used = 200 ∷ []; past_altered = 200 ∷ [] } ∷ bare 4 [] ∷ blank ∷ [];
    }

abbrev pub told_table : List Told
told_table = boundaries ∷ end_everywhere ∷ abandon_everywhere ∷ publish_everywhere ∷ []

-- every row of the table is answered as written, and each station holds what is written
pub held_at : (t : Told) → t ∈ told_table → told t ≡ to_tell t
unfolding told
held_at t = rows told to_tell (refl, (refl, (refl, (refl, tt))))

-- ---- by the joined precedences

-- the wrong way: at an end each station folds in by the leads that it knows itself
abbrev pub own_folded : Network → ℕ → Network
own_folded n s =
    let m = ended_at (master n) s in
    record {
      next = m.next;
      free = m.free;
      numbers = m.numbers;
      ports = m.ports;
      part_0 = kept (ended_at (view n station_0) s);
      part_1 = kept (ended_at (view n station_1) s);
      part_2 = kept (ended_at (view n station_2) s);
    }

-- requests from the fresh network on; the slot that then ends; and a request after it, with the answer by the joined leads and by each station's own
pub record Chain : Type 0 where
  pub before : List Request
  pub ends : ℕ
  pub asks : Request
  pub by_joined : Reply
  pub by_own : Reply

pub record Folded : Type 0 where
  pub by_joined : Reply
  pub by_own : Reply

abbrev pub to_fold : Chain → Folded
to_fold c = record { by_joined = c.by_joined; by_own = c.by_own }

unfoldable pub folded : Chain → Folded
unfolding network_replies
folded c =
    let n = network_after_all (fresh_network 1) c.before in
    record { by_joined = network_answer (network_ended n c.ends) c.asks; by_own = network_answer (own_folded n c.ends) c.asks }

-- station 0 knows that job 1 comes before job 2, and station 2 has job 2's write: when job 2 has ended, job 1 may not write there
abbrev pub sets_across : Chain
sets_across =
    record {
      before = open_one ∷ open_one ∷ reads 1 5 ∷ writes 2 5 ∷ writes 2 200 ∷ [];
      ends = 1;
      asks = writes 1 200;
      by_joined = refused 7;
      by_own = granted 1;
    }

-- station 0 knows that job 1 comes before job 2, station 1 that job 2 comes before job 3: when job 2 has ended, job 1 may not read what job 3 wrote
abbrev pub leads_across : Chain
leads_across =
    record {
      before = open_one ∷ open_one ∷ open_one ∷ reads 1 5 ∷ writes 2 5 ∷ reads 2 100 ∷ writes 3 100 ∷ writes 3 200 ∷ [];
      ends = 1;
      asks = reads 1 200;
      by_joined = refused 7;
      by_own = granted 1;
    }

abbrev pub chain_table : List Chain
chain_table = sets_across ∷ leads_across ∷ []

-- a chain that passes between stations at an ended job: folded in by the joined leads it is found, by each station's own it is lost
pub joined_needed : (c : Chain) → c ∈ chain_table → folded c ≡ to_fold c
unfolding folded
joined_needed c = rows folded to_fold (refl, (refl, tt))
