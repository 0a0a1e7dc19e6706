-- The P cases of document 01, P1 to P8, in one table under one statement (`p_cases`), computed from the definitions; and under another
-- (`own_cases`) histories of our own that tell apart what no P case does.
--
-- A case is a first number, the requests each with the reply expected of it, the order of the history that they leave, the places of the
-- steps, openings and ends in that order's layout, and whether it is the only order. The statement holds every reply, code and job, to what the full history
-- gives and to what the bounded memory gives. What `only_one` means is proved in Promises (`tried`).
-- After them, 6 before 5 (`numbers_before_slots`), the ports of document 02, order 9 (`port_cases`), what adds leave and show in a log and in a layout of it (`counted_log`, `counted_laid`), and the example of the rules, its bytes too (`rules_replies`, `rules_read`).
-- Assumes nothing.
use Rattle.std.specs.Prelude.{◌≡◌, refl, Bool, true, false, List, [], ◌∷◌, ◌++◌, map, ℕ, zero, suc, ◌+◌}
use Rattle.std.proofs.Common.{sym, ap, ◌∙◌}
use Rattle.std.proofs.Math.Option.{Option, none, some}
use mathlib.Core.List.Memᴰ
use Rattle.graph.specs.Lists.{◌∈◌, strike}
use Rattle.graph.specs.Reach.{circular}
use Rattle.graph.specs.Listing.{ready, lowest_first, forced}
use Rattle.history.specs.Events.{write, does, History, Step, step_at, opened, ended, abandoned, kept, open_now, all_steps, kept_steps, wrote, conflict, precedes, has_circle}
use Rattle.history.specs.Replies.{Request, Reply, want, tests, code_of, event_of, job_of, reply_of, granted_of, ports_after, full, reply, after, replies, history_of, book_of}
use Rattle.history.specs.Formats.{records}
use Rattle.history.specs.Orders.{layout, order_of}
use Rattle.history.specs.Run.{World, put, act_as, run, start, writes_at, last_write, adds_at, adds_since}
use Rattle.history.specs.Memory.{Memory, fresh, meets, touches, same_kind, same_deed, step_in, blank, fold, right, open_in, move, held, held_after, held_replies}

-- ---- requests and replies, short

-- `open_at 2`: an open of port 2; `open_one`: of port 0
abbrev pub open_at : ℕ → Request
open_at p = record { kind = 1; byte1 = 0; cell = 0; job = p }

abbrev pub open_one : Request
open_one = open_at 0

-- `reads 1 5`: job 1 reads cell 5
abbrev pub reads : ℕ → ℕ → Request
reads j c = record { kind = 2; byte1 = 0; cell = c; job = j }

abbrev pub writes : ℕ → ℕ → Request
writes j c = record { kind = 3; byte1 = 0; cell = c; job = j }

abbrev pub end : ℕ → Request
end j = record { kind = 4; byte1 = 0; cell = 0; job = j }

abbrev pub abandon : ℕ → Request
abandon j = record { kind = 5; byte1 = 0; cell = 0; job = j }

-- `adds 1 5`: job 1 adds to cell 5
abbrev pub adds : ℕ → ℕ → Request
adds j c = record { kind = 7; byte1 = 0; cell = c; job = j }

abbrev pub publishes : ℕ → ℕ → Request
publishes j c = record { kind = 6; byte1 = 0; cell = c; job = j }

-- `granted 1`: code 0, job 1; `refused 7`: code 7, job 0
abbrev pub granted : ℕ → Reply
granted j = record { code = 0; job = j }

abbrev pub refused : ℕ → Reply
refused c = record { code = c; job = 0 }

-- a request with its reply
pub record Exchange : Type 0 where
  pub asked : Request
  pub answered : Reply

infix 70 ◌gets◌
abbrev pub ◌gets◌ : Request → Reply → Exchange
r gets a = record { asked = r; answered = a }

-- n opens of port p, granted the numbers from j on
abbrev pub opens_from : ℕ → ℕ → ℕ → List Exchange
opens_from p zero j = []
opens_from p (suc n) j = open_at p gets granted j ∷ opens_from p n (suc j)

-- ---- what is expected of a case, and what is computed

pub record Case : Type 0 where
  pub first : ℕ
  pub exchanges : List Exchange
  pub order : Option (List ℕ)
  pub laid_out : List ℕ
  pub only_one : Bool

abbrev pub requests_of : Case → List Request
requests_of c = map (λ e. e.asked) c.exchanges

abbrev pub replies_of : Case → List Reply
replies_of c = map (λ e. e.answered) c.exchanges

pub record Outcome : Type 0 where
  pub by_history : List Reply
  pub by_memory : List Reply
  pub order : Option (List ℕ)
  pub laid_out : List ℕ
  pub only_one : Bool

-- is this order the only one: at each of its places, could one job only stand there?
abbrev pub is_only : History → Option (List ℕ) → Bool
is_only h none = false
is_only h (some o) = forced (precedes (kept_steps h)) (kept h) o

-- the places of the steps, openings and ends in the layout of an order
abbrev pub places : History → Option (List ℕ) → List ℕ
places h none = []
places h (some o) = map (λ a. a.at) (layout (kept_steps h) o)

abbrev pub expected : Case → Outcome
expected c = record { by_history = replies_of c; by_memory = replies_of c; order = c.order; laid_out = c.laid_out; only_one = c.only_one }

-- opens every definition that the table computes with, so that a table of cases needs to open only this one
unfoldable pub computed : Case → Outcome
unfolding reply reply_of code_of tests want job_of full after granted_of event_of ports_after
    opened ended abandoned kept open_now all_steps kept_steps wrote conflict has_circle circular strike order_of lowest_first ready
    right held held_after move open_in step_in blank fold meets touches same_kind same_deed
computed c =
    let h = history_of c.first (requests_of c) in
    record {
      by_history = replies c.first (requests_of c);
      by_memory = held_replies right (fresh c.first) (requests_of c);
      order = order_of h;
      laid_out = places h (order_of h);
      only_one = is_only h (order_of h);
    }

-- ---- the cases, each opening its jobs first where document 01 shows no opening

-- P1: all granted
abbrev pub p1 : Case
p1 =
    record {
      first = 1;
      exchanges =
          open_one gets granted 1 ∷ open_one gets granted 2
          ∷ reads 1 5 gets granted 1 ∷ reads 2 5 gets granted 2
          ∷ writes 2 5 gets granted 2 ∷ writes 1 6 gets granted 1
          ∷ end 2 gets granted 2 ∷ end 1 gets granted 1 ∷ [];
      order = some (1 ∷ 2 ∷ []);
      laid_out = 0 ∷ 2 ∷ 5 ∷ 7 ∷ 1 ∷ 3 ∷ 4 ∷ 6 ∷ [];
      only_one = true;
    }

-- P2: P1 with cell 5 in job 1's write, which would close the circle 1, 2, 1
abbrev pub p2 : Case
p2 =
    record {
      first = 1;
      exchanges =
          open_one gets granted 1 ∷ open_one gets granted 2
          ∷ reads 1 5 gets granted 1 ∷ reads 2 5 gets granted 2
          ∷ writes 2 5 gets granted 2 ∷ writes 1 5 gets refused 7
          ∷ end 2 gets granted 2 ∷ end 1 gets granted 1 ∷ [];
      order = some (1 ∷ 2 ∷ []);
      laid_out = 0 ∷ 2 ∷ 6 ∷ 1 ∷ 3 ∷ 4 ∷ 5 ∷ [];
      only_one = true;
    }

-- P3: job 2 comes before job 1, which had ended when job 3 was opened; so the write of job 2, after job 3's read, would close the circle 2, 1, 3, 2. The one
-- order there is does not follow the ends: these come as 1, 3, 2
abbrev pub p3 : Case
p3 =
    record {
      first = 1;
      exchanges =
          open_one gets granted 1 ∷ open_one gets granted 2
          ∷ reads 2 5 gets granted 2 ∷ writes 1 5 gets granted 1 ∷ end 1 gets granted 1
          ∷ open_one gets granted 3 ∷ reads 3 6 gets granted 3 ∷ end 3 gets granted 3
          ∷ writes 2 6 gets refused 7 ∷ end 2 gets granted 2 ∷ [];
      order = some (2 ∷ 1 ∷ 3 ∷ []);
      laid_out = 1 ∷ 2 ∷ 8 ∷ 0 ∷ 3 ∷ 4 ∷ 5 ∷ 6 ∷ 7 ∷ [];
      only_one = true;
    }

-- P4: a circle through job 2, which has ended
abbrev pub p4 : Case
p4 =
    record {
      first = 1;
      exchanges =
          open_one gets granted 1 ∷ open_one gets granted 2
          ∷ reads 1 5 gets granted 1
          ∷ writes 2 5 gets granted 2 ∷ writes 2 6 gets granted 2 ∷ end 2 gets granted 2
          ∷ writes 1 6 gets refused 7 ∷ writes 1 7 gets granted 1 ∷ [];
      order = some (1 ∷ 2 ∷ []);
      laid_out = 0 ∷ 2 ∷ 6 ∷ 1 ∷ 3 ∷ 4 ∷ 5 ∷ [];
      only_one = true;
    }

-- P5: a circle through jobs 2 and 3, which have both ended
abbrev pub p5 : Case
p5 =
    record {
      first = 1;
      exchanges =
          open_one gets granted 1 ∷ open_one gets granted 2 ∷ open_one gets granted 3
          ∷ reads 1 5 gets granted 1
          ∷ writes 2 5 gets granted 2 ∷ end 2 gets granted 2
          ∷ reads 3 5 gets granted 3 ∷ writes 3 8 gets granted 3 ∷ end 3 gets granted 3
          ∷ reads 1 8 gets refused 7 ∷ [];
      order = some (1 ∷ 2 ∷ 3 ∷ []);
      laid_out = 0 ∷ 3 ∷ 1 ∷ 4 ∷ 5 ∷ 2 ∷ 6 ∷ 7 ∷ 8 ∷ [];
      only_one = true;
    }

-- P6: a circle through job 2, which is open; once it is abandoned there is none
abbrev pub p6 : Case
p6 =
    record {
      first = 1;
      exchanges =
          open_one gets granted 1 ∷ open_one gets granted 2 ∷ open_one gets granted 3
          ∷ writes 1 5 gets granted 1
          ∷ reads 2 5 gets granted 2 ∷ reads 2 6 gets granted 2
          ∷ writes 3 6 gets granted 3 ∷ reads 1 6 gets refused 7
          ∷ abandon 2 gets granted 2 ∷ reads 1 6 gets granted 1 ∷ [];
      order = some (3 ∷ 1 ∷ []);
      laid_out = 2 ∷ 6 ∷ 0 ∷ 3 ∷ 8 ∷ [];
      only_one = true;
    }

-- P7: a job's own steps do not conflict; having written it cannot be abandoned
abbrev pub p7 : Case
p7 =
    record {
      first = 1;
      exchanges =
          open_one gets granted 1
          ∷ reads 1 5 gets granted 1 ∷ writes 1 5 gets granted 1 ∷ reads 1 5 gets granted 1
          ∷ abandon 1 gets refused 4 ∷ [];
      order = some (1 ∷ []);
      laid_out = 0 ∷ 1 ∷ 2 ∷ 3 ∷ [];
      only_one = true;
    }

-- P8: the last number is issued once
abbrev pub p8 : Case
p8 =
    record {
      first = 4_294_967_295;
      exchanges = open_one gets granted 4_294_967_295 ∷ open_one gets refused 6 ∷ [];
      order = some (4_294_967_295 ∷ []);
      laid_out = 0 ∷ [];
      only_one = true;
    }

-- ---- the table

abbrev pub p_table : List Case
p_table = p1 ∷ p2 ∷ p3 ∷ p4 ∷ p5 ∷ p6 ∷ p7 ∷ p8 ∷ []

-- f and g agree on each row of a table; said row by row, so that a refusal tells its row
abbrev pub Rows : {X Y : Type 0} → (X → Y) → (X → Y) → List X → Type 0
Rows f g [] = Unit {0}
Rows f g (x ∷ l) = (f x ≡ g x) × Rows f g l

pub rows : {X Y : Type 0} (f g : X → Y) {x : X} {l : List X} → Rows f g l → x ∈ l → f x ≡ g x
rows f g r (Memᴰ.head e) = ap f e ∙ (r.0 ∙ ap g (sym e))
rows f g r (Memᴰ.tail m) = rows f g r.1 m

-- every case of the table comes out as expected
pub p_cases : (c : Case) → c ∈ p_table → computed c ≡ expected c
unfolding computed
p_cases c = rows computed expected (refl, (refl, (refl, (refl, (refl, (refl, (refl, (refl, tt))))))))

-- ---- histories of our own

-- job 1 comes before job 2 and job 2 before job 3; 3 ends before 2 does, so that 1 learns of 3's write by the past of 2
abbrev pub past_of_ended : Case
past_of_ended =
    record {
      first = 1;
      exchanges =
          open_one gets granted 1 ∷ open_one gets granted 2 ∷ open_one gets granted 3
          ∷ reads 2 6 gets granted 2
          ∷ writes 3 6 gets granted 3 ∷ writes 3 7 gets granted 3 ∷ end 3 gets granted 3
          ∷ reads 1 5 gets granted 1
          ∷ writes 2 5 gets granted 2 ∷ end 2 gets granted 2
          ∷ reads 1 7 gets refused 7 ∷ [];
      order = some (1 ∷ 2 ∷ 3 ∷ []);
      laid_out = 0 ∷ 7 ∷ 1 ∷ 3 ∷ 8 ∷ 9 ∷ 2 ∷ 4 ∷ 5 ∷ 6 ∷ [];
      only_one = true;
    }

-- job 1 comes before job 2 and job 2 before job 3; 2 ends, and 1 leads to 3 by it
abbrev pub leads_of_ended : Case
leads_of_ended =
    record {
      first = 1;
      exchanges =
          open_one gets granted 1 ∷ open_one gets granted 2 ∷ open_one gets granted 3
          ∷ reads 1 5 gets granted 1
          ∷ writes 2 5 gets granted 2 ∷ reads 2 6 gets granted 2
          ∷ writes 3 6 gets granted 3 ∷ end 2 gets granted 2
          ∷ writes 3 8 gets granted 3 ∷ reads 1 8 gets refused 7 ∷ [];
      order = some (1 ∷ 2 ∷ 3 ∷ []);
      laid_out = 0 ∷ 3 ∷ 1 ∷ 4 ∷ 5 ∷ 7 ∷ 2 ∷ 6 ∷ 8 ∷ [];
      only_one = true;
    }

-- job 1 comes before job 2 and job 2 before job 3; 3 ends, then 2 is abandoned, and nothing is left between 1 and 3
abbrev pub chain_abandoned : Case
chain_abandoned =
    record {
      first = 1;
      exchanges =
          open_one gets granted 1 ∷ open_one gets granted 2 ∷ open_one gets granted 3
          ∷ writes 1 5 gets granted 1
          ∷ reads 2 5 gets granted 2 ∷ reads 2 6 gets granted 2
          ∷ writes 3 6 gets granted 3 ∷ writes 3 7 gets granted 3 ∷ end 3 gets granted 3
          ∷ abandon 2 gets granted 2 ∷ reads 1 7 gets granted 1 ∷ [];
      order = some (3 ∷ 1 ∷ []);
      laid_out = 2 ∷ 6 ∷ 7 ∷ 8 ∷ 0 ∷ 3 ∷ 10 ∷ [];
      only_one = true;
    }

-- each job reads before the other does: no conflict, and either order will do. No P case tells that reads do not clash
abbrev pub reads_alone : Case
reads_alone =
    record {
      first = 1;
      exchanges =
          open_one gets granted 1 ∷ open_one gets granted 2
          ∷ reads 1 5 gets granted 1 ∷ reads 2 5 gets granted 2
          ∷ reads 2 6 gets granted 2 ∷ reads 1 6 gets granted 1 ∷ [];
      order = some (1 ∷ 2 ∷ []);
      laid_out = 0 ∷ 2 ∷ 5 ∷ 1 ∷ 3 ∷ 4 ∷ [];
      only_one = false;
    }

-- job 1 had ended when job 3 was opened; job 2, open all the while, comes before neither, and may read what 3 wrote. No P case tells that
-- nothing precedes a job in time but a job that has ended
abbrev pub ended_apart : Case
ended_apart =
    record {
      first = 1;
      exchanges =
          open_one gets granted 1 ∷ open_one gets granted 2 ∷ end 1 gets granted 1
          ∷ open_one gets granted 3 ∷ writes 3 5 gets granted 3
          ∷ reads 2 5 gets granted 2 ∷ end 3 gets granted 3 ∷ end 2 gets granted 2 ∷ [];
      order = some (1 ∷ 3 ∷ 2 ∷ []);
      laid_out = 0 ∷ 2 ∷ 3 ∷ 4 ∷ 6 ∷ 1 ∷ 5 ∷ 7 ∷ [];
      only_one = true;
    }

-- job 1 comes before job 2, which had ended when job 3 was opened, so that job 1 may not write what 3 has read; once 3 is abandoned it may
abbrev pub time_abandoned : Case
time_abandoned =
    record {
      first = 1;
      exchanges =
          open_one gets granted 1 ∷ open_one gets granted 2
          ∷ reads 1 5 gets granted 1 ∷ writes 2 5 gets granted 2 ∷ end 2 gets granted 2
          ∷ open_one gets granted 3 ∷ reads 3 8 gets granted 3 ∷ writes 1 8 gets refused 7
          ∷ abandon 3 gets granted 3 ∷ writes 1 8 gets granted 1 ∷ [];
      order = some (1 ∷ 2 ∷ []);
      laid_out = 0 ∷ 2 ∷ 8 ∷ 1 ∷ 3 ∷ 4 ∷ [];
      only_one = true;
    }

-- openings and ends, which name no cell, do not conflict with steps on cell 0 nor, but for an end with an opening after it, with each other: jobs 2 and 3
-- come before job 1 though it is opened first, reads cell 0 first and ends first
abbrev pub cell_zero : Case
cell_zero =
    record {
      first = 1;
      exchanges =
          open_one gets granted 1 ∷ open_one gets granted 2 ∷ reads 1 0 gets granted 1 ∷ open_one gets granted 3
          ∷ reads 2 0 gets granted 2 ∷ writes 2 5 gets granted 2 ∷ writes 3 6 gets granted 3
          ∷ reads 1 5 gets granted 1 ∷ reads 1 6 gets granted 1 ∷ end 1 gets granted 1
          ∷ reads 2 0 gets granted 2 ∷ reads 3 0 gets granted 3 ∷ end 3 gets granted 3 ∷ end 2 gets granted 2 ∷ [];
      order = some (2 ∷ 3 ∷ 1 ∷ []);
      laid_out = 1 ∷ 4 ∷ 5 ∷ 10 ∷ 13 ∷ 3 ∷ 6 ∷ 11 ∷ 12 ∷ 0 ∷ 2 ∷ 7 ∷ 8 ∷ 9 ∷ [];
      only_one = false;
    }

-- two faults in one request: byte 1 before the cell, the cell before the job, a job that is not open before its write
abbrev pub two_faults : Case
two_faults =
    record {
      first = 1;
      exchanges =
          record { kind = 2; byte1 = 1; cell = 256; job = 9 } gets refused 1
          ∷ record { kind = 0; byte1 = 0; cell = 256; job = 9 } gets refused 1
          ∷ record { kind = 255; byte1 = 0; cell = 0; job = 0 } gets refused 1
          ∷ reads 9 256 gets refused 2 ∷ reads 9 255 gets refused 3 ∷ end 9 gets refused 3
          ∷ open_one gets granted 1 ∷ writes 1 255 gets granted 1 ∷ end 1 gets granted 1
          ∷ abandon 1 gets refused 3 ∷ [];
      order = some (1 ∷ []);
      laid_out = 0 ∷ 1 ∷ 2 ∷ [];
      only_one = true;
    }

-- kind 8 is none, and for a publish too byte 1 is tested first and the cell before the job. Job 2's publish comes after job 1's read, and ends job 2 before job 3 is opened. So
-- job 2's next publish gets 3, though it would close a circle too; and job 1 may not publish what 3 has read, but stays open
abbrev pub published : Case
published =
    record {
      first = 1;
      exchanges =
          record { kind = 6; byte1 = 1; cell = 256; job = 9 } gets refused 1
          ∷ record { kind = 8; byte1 = 0; cell = 256; job = 9 } gets refused 1
          ∷ publishes 9 256 gets refused 2
          ∷ open_one gets granted 1 ∷ open_one gets granted 2
          ∷ reads 1 5 gets granted 1 ∷ publishes 2 5 gets granted 2
          ∷ open_one gets granted 3 ∷ reads 3 6 gets granted 3
          ∷ publishes 2 6 gets refused 3 ∷ publishes 1 6 gets refused 7 ∷ publishes 1 7 gets granted 1 ∷ [];
      order = some (1 ∷ 2 ∷ 3 ∷ []);
      laid_out = 0 ∷ 2 ∷ 7 ∷ 8 ∷ 1 ∷ 3 ∷ 4 ∷ 5 ∷ 6 ∷ [];
      only_one = true;
    }

-- jobs 1 and 2 each add to two cells, the one first to the one, the other first to the other: no conflict, and either order will do
abbrev pub adds_alone : Case
adds_alone =
    record {
      first = 1;
      exchanges =
          open_one gets granted 1 ∷ open_one gets granted 2
          ∷ adds 1 5 gets granted 1 ∷ adds 2 5 gets granted 2
          ∷ adds 2 6 gets granted 2 ∷ adds 1 6 gets granted 1 ∷ [];
      order = some (1 ∷ 2 ∷ []);
      laid_out = 0 ∷ 2 ∷ 5 ∷ 1 ∷ 3 ∷ 4 ∷ [];
      only_one = false;
    }

-- for an add too byte 1 is tested first and the cell before the job; having added, a job cannot be abandoned
abbrev pub adds_tested : Case
adds_tested =
    record {
      first = 1;
      exchanges =
          record { kind = 7; byte1 = 1; cell = 256; job = 9 } gets refused 1
          ∷ adds 9 256 gets refused 2 ∷ adds 9 255 gets refused 3
          ∷ open_one gets granted 1 ∷ adds 1 255 gets granted 1 ∷ abandon 1 gets refused 4 ∷ [];
      order = some (1 ∷ []);
      laid_out = 0 ∷ 1 ∷ [];
      only_one = true;
    }

-- an add and another job's read conflict, whichever is first: job 2 read what 1 had added to, so 1 may not add to what 2 has read, nor read what 2 has added to
abbrev pub adds_and_reads : Case
adds_and_reads =
    record {
      first = 1;
      exchanges =
          open_one gets granted 1 ∷ open_one gets granted 2
          ∷ adds 1 5 gets granted 1 ∷ reads 2 5 gets granted 2
          ∷ reads 2 6 gets granted 2 ∷ adds 1 6 gets refused 7
          ∷ adds 2 7 gets granted 2 ∷ reads 1 7 gets refused 7 ∷ [];
      order = some (1 ∷ 2 ∷ []);
      laid_out = 0 ∷ 2 ∷ 1 ∷ 3 ∷ 4 ∷ 5 ∷ [];
      only_one = true;
    }

-- and so do an add and another job's write
abbrev pub adds_and_writes : Case
adds_and_writes =
    record {
      first = 1;
      exchanges =
          open_one gets granted 1 ∷ open_one gets granted 2
          ∷ adds 1 5 gets granted 1 ∷ writes 2 5 gets granted 2
          ∷ writes 2 6 gets granted 2 ∷ adds 1 6 gets refused 7
          ∷ adds 2 7 gets granted 2 ∷ writes 1 7 gets refused 7 ∷ [];
      order = some (1 ∷ 2 ∷ []);
      laid_out = 0 ∷ 2 ∷ 1 ∷ 3 ∷ 4 ∷ 5 ∷ [];
      only_one = true;
    }

-- the add of an ended job gets 3, though it would close a circle too
abbrev pub adds_ended : Case
adds_ended =
    record {
      first = 1;
      exchanges =
          open_one gets granted 1 ∷ open_one gets granted 2
          ∷ adds 1 5 gets granted 1 ∷ reads 2 5 gets granted 2 ∷ reads 2 6 gets granted 2
          ∷ end 1 gets granted 1 ∷ adds 1 6 gets refused 3 ∷ [];
      order = some (1 ∷ 2 ∷ []);
      laid_out = 0 ∷ 2 ∷ 5 ∷ 1 ∷ 3 ∷ 4 ∷ [];
      only_one = true;
    }

abbrev pub own_table : List Case
own_table = past_of_ended ∷ leads_of_ended ∷ chain_abandoned ∷ reads_alone ∷ ended_apart ∷ time_abandoned ∷ cell_zero ∷ two_faults ∷ published ∷ adds_alone ∷ adds_tested ∷ adds_and_reads ∷ adds_and_writes ∷ adds_ended ∷ []

pub own_cases : (c : Case) → c ∈ own_table → computed c ≡ expected c
unfolding computed
own_cases c = rows computed expected (refl, (refl, (refl, (refl, (refl, (refl, (refl, (refl, (refl, (refl, (refl, (refl, (refl, (refl, tt))))))))))))))

-- ---- 6 before 5

-- 32 opens up to the last number, 16 of port 0 and 16 of port 1, and three more: there is neither a number left nor a slot, nor room at port 0, and 3 is no port, and the answer
-- is 6
abbrev pub full_and_spent : List Exchange
full_and_spent = opens_from 0 16 4_294_967_264 ++ opens_from 1 16 4_294_967_280 ++ open_at 2 gets refused 6 ∷ open_at 0 gets refused 6 ∷ open_at 3 gets refused 6 ∷ []

-- the full history's replies are these
pub numbers_before_slots : replies 4_294_967_264 (map (λ e. e.asked) full_and_spent) ≡ map (λ e. e.answered) full_and_spent
unfolding reply reply_of code_of tests want job_of full after granted_of event_of ports_after opened ended abandoned kept open_now
numbers_before_slots = refl

-- ---- ports

-- a first number, the requests with their replies, and how many open jobs of the ports 0, 1 and 2 they leave
pub record Ports : Type 0 where
  pub first : ℕ
  pub exchanges : List Exchange
  pub crowds : List ℕ

-- the replies and the counts, of the full history and of the bounded memory
pub record Counted : Type 0 where
  pub by_history : List Reply
  pub by_memory : List Reply
  pub of_history : List ℕ
  pub of_memory : List ℕ

abbrev pub memory_from : Memory → List Request → Memory
memory_from m [] = m
memory_from m (r ∷ rs) = memory_from (held_after right m r) rs

abbrev pub to_count : Ports → Counted
to_count c =
    let answered = map (λ e. e.answered) c.exchanges in
    record { by_history = answered; by_memory = answered; of_history = c.crowds; of_memory = c.crowds }

unfoldable pub counts : Ports → Counted
unfolding computed
counts c =
    let asked = map (λ e. e.asked) c.exchanges in
    let three : List ℕ = 0 ∷ 1 ∷ 2 ∷ [] in
    record {
      by_history = replies c.first asked;
      by_memory = held_replies right (fresh c.first) asked;
      of_history = map (full (book_of c.first asked) (history_of c.first asked)).crowd three;
      of_memory = map (held right (memory_from (fresh c.first) asked)).crowd three;
    }

-- the job field of an open is its port: 3 is none, nor is a number that has 0 to 2 in its low bytes; 1 before 8. A refusal counts for no port
abbrev pub no_port : Ports
no_port =
    record {
      first = 7;
      exchanges =
          open_at 3 gets refused 8 ∷ open_at 256 gets refused 8 ∷ open_at 65_537 gets refused 8 ∷ open_at 4_294_967_295 gets refused 8
          ∷ record { kind = 1; byte1 = 1; cell = 0; job = 3 } gets refused 1
          ∷ open_at 2 gets granted 7 ∷ open_at 3 gets refused 8 ∷ [];
      crowds = 0 ∷ 0 ∷ 1 ∷ [];
    }

-- a port is not the number of a job: jobs 0, 1 and 2 have the ports 2, 0 and 0
abbrev pub port_no_number : Ports
port_no_number =
    record {
      first = 0;
      exchanges = open_at 2 gets granted 0 ∷ open_at 0 gets granted 1 ∷ open_at 0 gets granted 2 ∷ end 2 gets granted 2 ∷ [];
      crowds = 1 ∷ 0 ∷ 1 ∷ [];
    }

-- 6 before 8: the last number is left, and then it is not
abbrev pub spent_no_port : Ports
spent_no_port =
    record {
      first = 4_294_967_295;
      exchanges = open_at 3 gets refused 8 ∷ open_at 1 gets granted 4_294_967_295 ∷ open_at 3 gets refused 6 ∷ [];
      crowds = 0 ∷ 1 ∷ 0 ∷ [];
    }

-- an end, an abandon and a publish each take one from the port of their job and from no other; a step takes none, nor does a refused end
abbrev pub port_left : Ports
port_left =
    record {
      first = 1;
      exchanges =
          open_at 1 gets granted 1 ∷ open_at 1 gets granted 2 ∷ open_at 1 gets granted 3 ∷ open_at 1 gets granted 4
          ∷ open_at 0 gets granted 5 ∷ open_at 2 gets granted 6
          ∷ end 1 gets granted 1 ∷ abandon 2 gets granted 2 ∷ publishes 3 7 gets granted 3
          ∷ reads 4 5 gets granted 4 ∷ end 1 gets refused 3 ∷ [];
      crowds = 1 ∷ 1 ∷ 1 ∷ [];
    }

-- of port 0 the 17th open gets 9, while port 1 has room; after an end there is room for one, and after an abandon
abbrev pub port_full : Ports
port_full =
    record {
      first = 1;
      exchanges =
          opens_from 0 16 1 ++ open_at 0 gets refused 9
          ∷ open_at 1 gets granted 17 ∷ open_at 0 gets refused 9
          ∷ end 3 gets granted 3 ∷ open_at 0 gets granted 18 ∷ open_at 0 gets refused 9
          ∷ abandon 18 gets granted 18 ∷ open_at 0 gets granted 19 ∷ open_at 0 gets refused 9
          ∷ end 17 gets granted 17 ∷ open_at 0 gets refused 9 ∷ [];
      crowds = 16 ∷ 0 ∷ 0 ∷ [];
    }

-- 32 opens, 16 of port 0 and 16 of port 1: 8 before 5, and 5 before 9. Once a job of port 0 has ended, port 1 has no room still; one of port 2 is opened, and the next gets 5
abbrev pub ports_full : Ports
ports_full =
    record {
      first = 1;
      exchanges =
          opens_from 0 16 1 ++ opens_from 1 16 17 ++ open_at 3 gets refused 8
          ∷ open_at 0 gets refused 5 ∷ open_at 2 gets refused 5
          ∷ end 6 gets granted 6 ∷ open_at 1 gets refused 9 ∷ open_at 2 gets granted 33 ∷ open_at 2 gets refused 5 ∷ [];
      crowds = 15 ∷ 16 ∷ 1 ∷ [];
    }

abbrev pub port_table : List Ports
port_table = no_port ∷ port_no_number ∷ spent_no_port ∷ port_left ∷ port_full ∷ ports_full ∷ []

pub port_cases : (c : Ports) → c ∈ port_table → counts c ≡ to_count c
unfolding counts
port_cases c = rows counts to_count (refl, (refl, (refl, (refl, (refl, (refl, tt))))))

-- ---- adds in a run

-- job 1 adds to cell 5 and writes it, jobs 3 and 2 add to it, job 4 reads it: places 4 to 8
abbrev pub counted : History
counted = history_of 1 (open_one ∷ open_one ∷ open_one ∷ open_one ∷ adds 1 5 ∷ writes 1 5 ∷ adds 3 5 ∷ adds 2 5 ∷ reads 4 5 ∷ [])

-- of steps on cell 5: its last write, the places of the adds since, what it holds at the end and what job 4 has read, where each write and each add is of its own place as a number
pub record Shown : Type 0 where
  pub last : Option Step
  pub since : List ℕ
  pub left : ℕ
  pub sight : List ℕ

unfoldable pub shown : List Step → Shown
unfolding put act_as writes_at adds_at
shown s =
    let w : World ℕ = run ◌+◌ (λ a l. a.at) s (start (λ c. 100)) in
    record { last = last_write 5 s; since = map (λ a. a.at) (adds_since 5 s); left = w.holds 5; sight = map (λ v. v.value) (w.seen 4) }

-- the log, and its layout in the order 1, 2, 3, 4: the same write and the same adds since, in another order, and 5 + 6 + 7 in both
pub counted_log : shown (kept_steps counted) ≡ record { last = some (step_at 5 (does write) 1 5); since = 6 ∷ 7 ∷ []; left = 18; sight = 18 ∷ [] }
unfolding computed shown
counted_log = refl

pub counted_laid : shown (layout (kept_steps counted) (1 ∷ 2 ∷ 3 ∷ 4 ∷ [])) ≡ record { last = some (step_at 5 (does write) 1 5); since = 7 ∷ 6 ∷ []; left = 18; sight = 18 ∷ [] }
unfolding computed shown
counted_laid = refl

-- ---- the example of the rules, R139

-- job 1 wrote what job 2 read, so it may not read what 2 wrote, nor be abandoned; the cells of an end and an open are not looked at
abbrev pub rules_example : Case
rules_example =
    record {
      first = 1;
      exchanges =
          open_one gets granted 1 ∷ open_one gets granted 2
          ∷ writes 1 7 gets granted 1 ∷ reads 2 7 gets granted 2 ∷ writes 2 9 gets granted 2 ∷ end 2 gets granted 2
          ∷ reads 1 9 gets refused 7 ∷ abandon 1 gets refused 4
          ∷ record { kind = 4; byte1 = 0; cell = 65_535; job = 1 } gets granted 1
          ∷ reads 3 300 gets refused 2
          ∷ record { kind = 1; byte1 = 0; cell = 9; job = 0 } gets granted 3
          ∷ reads 1 0 gets refused 3 ∷ [];
      order = some (1 ∷ 2 ∷ 3 ∷ []);
      laid_out = 0 ∷ 2 ∷ 6 ∷ 1 ∷ 3 ∷ 4 ∷ 5 ∷ 7 ∷ [];
      only_one = true;
    }

pub rules_replies : computed rules_example ≡ expected rules_example
unfolding computed
rules_replies = refl

-- its bytes, with the three that are left over at the end
abbrev pub rules_bytes : List ℕ
rules_bytes =
    1 ∷ 0 ∷ 0 ∷ 0 ∷ 0 ∷ 0 ∷ 0 ∷ 0
    ∷ 1 ∷ 0 ∷ 0 ∷ 0 ∷ 0 ∷ 0 ∷ 0 ∷ 0
    ∷ 3 ∷ 0 ∷ 7 ∷ 0 ∷ 1 ∷ 0 ∷ 0 ∷ 0
    ∷ 2 ∷ 0 ∷ 7 ∷ 0 ∷ 2 ∷ 0 ∷ 0 ∷ 0
    ∷ 3 ∷ 0 ∷ 9 ∷ 0 ∷ 2 ∷ 0 ∷ 0 ∷ 0
    ∷ 4 ∷ 0 ∷ 0 ∷ 0 ∷ 2 ∷ 0 ∷ 0 ∷ 0
    ∷ 2 ∷ 0 ∷ 9 ∷ 0 ∷ 1 ∷ 0 ∷ 0 ∷ 0
    ∷ 5 ∷ 0 ∷ 0 ∷ 0 ∷ 1 ∷ 0 ∷ 0 ∷ 0
    ∷ 4 ∷ 0 ∷ 255 ∷ 255 ∷ 1 ∷ 0 ∷ 0 ∷ 0
    ∷ 2 ∷ 0 ∷ 44 ∷ 1 ∷ 3 ∷ 0 ∷ 0 ∷ 0
    ∷ 1 ∷ 0 ∷ 9 ∷ 0 ∷ 0 ∷ 0 ∷ 0 ∷ 0
    ∷ 2 ∷ 0 ∷ 0 ∷ 0 ∷ 1 ∷ 0 ∷ 0 ∷ 0
    ∷ 1 ∷ 0 ∷ 0
    ∷ []

pub rules_read : records rules_bytes ≡ requests_of rules_example
rules_read = refl
