-- Computed tables of the second profile: exchanges, each with the reply expected of it, held to what the full history gives and to what the slots give, and the order of the log
-- that they leave, with the jobs still open taken out (`late_cases`); what the first profile's rule says of two of them (`first_rule`); the log of a publish
-- (`publish_log`); states that no requests give (`made_up_publishes`).
-- Assumes nothing.
use Rattle.std.specs.Prelude.{◌≡◌, refl, Bool, true, List, [], ◌∷◌, ◌++◌, map, ℕ, zero, suc, take}
use Rattle.std.proofs.Math.Option.{Option, some}
use Rattle.graph.specs.Lists.{◌∈◌}
use Rattle.marks.specs.Marks.{upto}
use Rattle.marks.specs.Words.{marked}
use Rattle.history.specs.Events.{read, write, Event, opens, steps, ends, kept_steps, has_circle}
use Rattle.history.specs.Replies.{Reply}
use Rattle.history.specs.Orders.{order_of}
use Rattle.history.specs.Cases.{granted, refused, rows, computed}
use Rattle.held.specs.Held.{Held, fresh_held}
use Rattle.held.specs.Cases.{held_answers, request, set_of, State, state, ported, held_of, first_rows, bare, blank, with_own, with_past}
use Rattle.late.specs.Late.{Ask, asks, publishes, named, published, ended_steps, closes_circle, publish_code, full_code, late_reply, late_granted, late_after, late_book, late_replies, late_history, closed}
use Rattle.late.specs.LateHeld.{leads_back, held_code, late_answer, late_next, late_answers}

-- ---- what is asked, short

-- `open_at 2`: an open of port 2; `open_one`: of port 0
abbrev pub open_at : ℕ → Ask
open_at p = asks (request 1 0 0 p)

abbrev pub open_one : Ask
open_one = open_at 0

abbrev pub reads : ℕ → ℕ → Ask
reads j c = asks (request 2 0 c j)

abbrev pub abandon : ℕ → Ask
abandon j = asks (request 5 0 0 j)

-- `publish 1 (9 ∷ 4 ∷ [])`: job 1 publishes the cells 4 and 9
abbrev pub publish : ℕ → List ℕ → Ask
publish j cs = publishes j (set_of cs)

pub record Exchange : Type 0 where
  pub asked : Ask
  pub answered : Reply

infix 70 ◌gets◌
abbrev pub ◌gets◌ : Ask → Reply → Exchange
a gets r = record { asked = a; answered = r }

-- n opens of port p, granted the numbers from j on
abbrev pub opens_from : ℕ → ℕ → ℕ → List Exchange
opens_from p zero j = []
opens_from p (suc n) j = open_at p gets granted j ∷ opens_from p n (suc j)

-- ---- the cases

-- the first number is 1; the order is that of the log with the jobs still open taken out
pub record Case : Type 0 where
  pub exchanges : List Exchange
  pub order : Option (List ℕ)

pub record Outcome : Type 0 where
  pub by_history : List Reply
  pub by_slots : List Reply
  pub order : Option (List ℕ)

abbrev pub asked_of : Case → List Ask
asked_of c = map (λ e. e.asked) c.exchanges

abbrev pub expected : Case → Outcome
expected c = let r = map (λ e. e.answered) c.exchanges in record { by_history = r; by_slots = r; order = c.order }

-- opens every definition that the table computes with
unfoldable pub tried : Case → Outcome
unfolding computed held_answers marked
    named published ended_steps closes_circle publish_code full_code late_reply late_granted late_after late_book closed
    leads_back held_code late_answer late_next
tried c =
    record {
      by_history = late_replies 1 (asked_of c);
      by_slots = late_answers (fresh_held 1) (asked_of c);
      order = order_of (closed (late_history 1 (asked_of c)));
    }

-- both have read the cell that both publish: the first is not barred by its own read, the second gets 7, writes nothing and stays open
abbrev pub both_publish : Case
both_publish =
    record {
      exchanges =
          open_one gets granted 1 ∷ open_one gets granted 2
          ∷ reads 1 5 gets granted 1 ∷ reads 2 5 gets granted 2
          ∷ publish 1 (5 ∷ []) gets granted 1 ∷ publish 2 (5 ∷ []) gets refused 7
          ∷ reads 2 6 gets granted 2 ∷ abandon 2 gets granted 2 ∷ [];
      order = some (1 ∷ []);
    }

-- the second may publish another cell, and comes before the first
abbrev pub other_cell : Case
other_cell =
    record {
      exchanges =
          open_one gets granted 1 ∷ open_one gets granted 2
          ∷ reads 1 5 gets granted 1 ∷ reads 2 5 gets granted 2
          ∷ publish 1 (5 ∷ []) gets granted 1 ∷ publish 2 (5 ∷ 255 ∷ []) gets refused 7 ∷ publish 2 (255 ∷ []) gets granted 2 ∷ [];
      order = some (2 ∷ 1 ∷ []);
    }

-- job 1 comes before job 2 by cell 5, and may still read cell 6, which 2 wrote; then whatever it publishes gets 7, no cells too, and it can be abandoned
abbrev pub read_granted : Case
read_granted =
    record {
      exchanges =
          open_one gets granted 1 ∷ open_one gets granted 2
          ∷ reads 1 5 gets granted 1 ∷ publish 2 (5 ∷ 6 ∷ []) gets granted 2 ∷ reads 1 6 gets granted 1
          ∷ publish 1 [] gets refused 7 ∷ publish 1 (7 ∷ []) gets refused 7 ∷ abandon 1 gets granted 1 ∷ [];
      order = some (2 ∷ []);
    }

-- job 3 comes before 2, 2 before 1, and 1 before 3: while 1 is open it is left out, and 3 may publish; then 1 may not, not even no cells
abbrev pub open_left_out : Case
open_left_out =
    record {
      exchanges =
          open_one gets granted 1 ∷ open_one gets granted 2 ∷ open_one gets granted 3
          ∷ reads 1 5 gets granted 1 ∷ reads 3 6 gets granted 3
          ∷ publish 2 (6 ∷ 7 ∷ []) gets granted 2 ∷ reads 1 7 gets granted 1
          ∷ publish 3 (5 ∷ []) gets granted 3 ∷ publish 1 [] gets refused 7 ∷ [];
      order = some (3 ∷ 2 ∷ []);
    }

-- the same with a publish of 1 first: now 3 may not
abbrev pub ended_counted : Case
ended_counted =
    record {
      exchanges =
          open_one gets granted 1 ∷ open_one gets granted 2 ∷ open_one gets granted 3
          ∷ reads 1 5 gets granted 1 ∷ reads 3 6 gets granted 3
          ∷ publish 2 (6 ∷ 7 ∷ []) gets granted 2 ∷ reads 1 7 gets granted 1
          ∷ publish 1 [] gets granted 1 ∷ publish 3 (5 ∷ []) gets refused 7 ∷ [];
      order = some (2 ∷ 1 ∷ []);
    }

-- and with 1 abandoned: it does not count
abbrev pub abandoned_left_out : Case
abandoned_left_out =
    record {
      exchanges =
          open_one gets granted 1 ∷ open_one gets granted 2 ∷ open_one gets granted 3
          ∷ reads 1 5 gets granted 1 ∷ reads 3 6 gets granted 3
          ∷ publish 2 (6 ∷ 7 ∷ []) gets granted 2 ∷ reads 1 7 gets granted 1
          ∷ abandon 1 gets granted 1 ∷ publish 3 (5 ∷ []) gets granted 3 ∷ [];
      order = some (3 ∷ 2 ∷ []);
    }

-- real time through an ended job: 2 comes before 1 by cell 5, 1 had ended when 3 was opened, 3 comes before 2 by cell 6
abbrev pub in_time : Case
in_time =
    record {
      exchanges =
          open_one gets granted 1 ∷ open_one gets granted 2
          ∷ reads 2 5 gets granted 2 ∷ publish 1 (5 ∷ []) gets granted 1
          ∷ open_one gets granted 3 ∷ publish 3 (6 ∷ []) gets granted 3
          ∷ reads 2 6 gets granted 2 ∷ publish 2 [] gets refused 7 ∷ [];
      order = some (1 ∷ 3 ∷ []);
    }

-- kinds other than 1, 2, 5 get 1, an add too, and so does a byte 1 that is not zero
abbrev pub kinds_refused : Case
kinds_refused =
    record {
      exchanges =
          open_one gets granted 1
          ∷ asks (request 3 0 5 1) gets refused 1 ∷ asks (request 4 0 0 1) gets refused 1 ∷ asks (request 6 0 5 1) gets refused 1
          ∷ asks (request 0 0 5 1) gets refused 1 ∷ asks (request 7 0 5 1) gets refused 1
          ∷ asks (request 1 1 0 0) gets refused 1 ∷ asks (request 2 1 5 1) gets refused 1 ∷ asks (request 5 1 0 1) gets refused 1
          ∷ publish 1 [] gets granted 1 ∷ [];
      order = some (1 ∷ []);
    }

-- 2 before 3 for a read; 3 for an abandon; 3 before 7 for a publish: job 1 has ended when it publishes again, after job 2 read what it wrote, and this would close a circle
abbrev pub codes_in_order : Case
codes_in_order =
    record {
      exchanges =
          reads 9 256 gets refused 2 ∷ reads 9 255 gets refused 3 ∷ abandon 9 gets refused 3 ∷ publish 9 (5 ∷ []) gets refused 3
          ∷ open_one gets granted 1 ∷ open_one gets granted 2
          ∷ reads 1 256 gets refused 2 ∷ publish 1 (255 ∷ []) gets granted 1 ∷ reads 2 255 gets granted 2 ∷ publish 2 [] gets granted 2
          ∷ publish 1 (255 ∷ []) gets refused 3 ∷ abandon 2 gets refused 3 ∷ [];
      order = some (1 ∷ 2 ∷ []);
    }

-- a port is 0, 1 or 2, and 1 comes before 8; a refusal counts for no port
abbrev pub no_port : Case
no_port =
    record {
      exchanges =
          open_at 3 gets refused 8 ∷ asks (request 1 1 0 3) gets refused 1 ∷ open_at 256 gets refused 8
          ∷ open_at 2 gets granted 1 ∷ publish 1 [] gets granted 1 ∷ [];
      order = some (1 ∷ []);
    }

-- of port 1 the 17th open gets 9, while port 0 has room; a publish leaves room for one, an abandon too
abbrev pub port_full : Case
port_full =
    record {
      exchanges =
          opens_from 1 16 1 ++ open_at 1 gets refused 9
          ∷ open_at 0 gets granted 17 ∷ open_at 1 gets refused 9
          ∷ publish 2 [] gets granted 2 ∷ open_at 1 gets granted 18 ∷ open_at 1 gets refused 9
          ∷ abandon 17 gets granted 17 ∷ open_at 1 gets refused 9
          ∷ abandon 18 gets granted 18 ∷ open_at 1 gets granted 19 ∷ [];
      order = some (2 ∷ []);
    }

-- 16 jobs of port 0 and 16 of port 1 are open: 8 before 5, and 5 before 9
abbrev pub ports_full : Case
ports_full =
    record {
      exchanges =
          opens_from 0 16 1 ++ opens_from 1 16 17 ++ open_at 3 gets refused 8 ∷ open_at 0 gets refused 5 ∷ open_at 2 gets refused 5
          ∷ publish 6 [] gets granted 6 ∷ open_at 1 gets refused 9 ∷ open_at 2 gets granted 33 ∷ open_at 2 gets refused 5 ∷ [];
      order = some (6 ∷ []);
    }

abbrev pub late_table : List Case
late_table =
    both_publish ∷ other_cell ∷ read_granted ∷ open_left_out ∷ ended_counted ∷ abandoned_left_out ∷ in_time ∷ kinds_refused ∷ codes_in_order
    ∷ no_port ∷ port_full ∷ ports_full ∷ []

pub late_cases : (c : Case) → c ∈ late_table → tried c ≡ expected c
unfolding tried
late_cases c = rows tried expected (refl, (refl, (refl, (refl, (refl, (refl, (refl, (refl, (refl, (refl, (refl, (refl, tt))))))))))))

-- ---- what the first profile's rule says

-- a case up to its nth exchange, and what comes then: with it the kept history has a circle
pub record Then : Type 0 where
  pub case : Case
  pub after : ℕ
  pub more : List Event

unfoldable pub circle_then : Then → Bool
unfolding tried
circle_then t = has_circle (kept_steps (late_history 1 (take t.after (asked_of t.case)) ++ t.more))

-- the first profile would refuse the read of read-granted and the publish of open-left-out
abbrev pub first_table : List Then
first_table = record { case = read_granted; after = 4; more = steps read 1 6 ∷ [] } ∷ record { case = open_left_out; after = 7; more = steps write 3 5 ∷ ends 3 ∷ [] } ∷ []

pub first_rule : (t : Then) → t ∈ first_table → circle_then t ≡ true
unfolding circle_then
first_rule t = rows circle_then (λ t. true) (refl, (refl, tt))

-- ---- the log of a publish

-- one write for each cell, the lowest first, then the end
pub publish_log : late_history 1 (open_one ∷ publish 1 (9 ∷ 4 ∷ 200 ∷ []) ∷ []) ≡ opens 1 ∷ steps write 1 4 ∷ steps write 1 9 ∷ steps write 1 200 ∷ ends 1 ∷ []
unfolding tried
publish_log = refl

-- ---- states that no requests give

-- a state, a publish or an open, the answer to it and the next state
pub record MadeUp : Type 0 where
  pub before : State
  pub asked : Ask
  pub answered : Reply
  pub left : State

pub record Left : Type 0 where
  pub answered : Reply
  pub left : Held

-- the next state as far as the words of the first six rows
unfoldable pub made_up : MadeUp → Left
unfolding tried
made_up m = let h = held_of m.before in record { answered = late_answer h m.asked; left = first_rows (late_next h m.asked) }

abbrev pub written_out : MadeUp → Left
written_out m = record { answered = m.answered; left = first_rows (held_of m.left) }

-- the lower of the two open slots with the number publishes. Slot 2, another job with the same number, has read cell 5, and slot 3 has cell 70 in its past: both come to lead to slot 1
-- and take over what it has used and altered; slot 4 has read neither; slot 5 has read cell 5 and is not open. The ports keep their slots
abbrev pub publish_hands_on : MadeUp
publish_hands_on =
    record {
      before =
          ported (1 ∷ 2 ∷ []) (3 ∷ 4 ∷ 5 ∷ []) (1 ∷ [])
          (state 9 (1 ∷ 2 ∷ 3 ∷ 4 ∷ [])
          (bare 7 [] ∷ with_own 7 (4 ∷ []) (5 ∷ []) [] ∷ with_own 7 [] (5 ∷ []) [] ∷ with_past 8 [] [] (70 ∷ []) ∷ with_own 6 [] (6 ∷ []) [] ∷ with_own 5 [] (5 ∷ []) [] ∷ []));
      asked = publish 7 (70 ∷ 5 ∷ []);
      answered = granted 7;
      left =
          ported (1 ∷ 2 ∷ []) (3 ∷ 4 ∷ 5 ∷ []) (1 ∷ [])
          (state 9 (2 ∷ 3 ∷ 4 ∷ [])
          (
          bare 7 [] ∷ blank
          ∷ record { number = 7; leads = 4 ∷ []; own_used = 5 ∷ []; own_altered = []; past_used = 5 ∷ 70 ∷ []; past_altered = 5 ∷ 70 ∷ [] }
          ∷ with_past 8 (4 ∷ []) (5 ∷ 70 ∷ []) (5 ∷ 70 ∷ []) ∷ with_own 6 [] (6 ∷ []) [] ∷ with_own 5 [] (5 ∷ []) [] ∷ []
          ));
    }

-- a slot that is held to lead to itself publishes nothing; nor one whose past has the cell, and slot 1, which has read it, does not come to lead to it
abbrev pub leads_to_itself : MadeUp
leads_to_itself = let s = state 9 (0 ∷ []) (bare 7 (0 ∷ []) ∷ []) in record { before = s; asked = publish 7 []; answered = refused 7; left = s }

abbrev pub past_bars : MadeUp
past_bars =
    let s = state 9 (0 ∷ 1 ∷ []) (with_past 7 [] (200 ∷ []) [] ∷ with_own 8 [] (200 ∷ []) [] ∷ []) in
    record { before = s; asked = publish 7 (3 ∷ 200 ∷ []); answered = refused 7; left = s }

-- leads of open slots to each other and back are no bar, as other open jobs are left out
abbrev pub others_no_bar : MadeUp
others_no_bar =
    record {
      before = state 9 (0 ∷ 1 ∷ []) (bare 7 (1 ∷ []) ∷ bare 8 (0 ∷ []) ∷ []);
      asked = publish 7 (3 ∷ []);
      answered = granted 7;
      left = state 9 (1 ∷ []) (blank ∷ with_past 8 (1 ∷ []) (3 ∷ []) (3 ∷ []) ∷ []);
    }

-- 6 before 8; and the last number is issued, of port 1, whose slots are open no more
abbrev pub spent : MadeUp
spent = let s = state 4_294_967_296 [] [] in record { before = s; asked = open_at 3; answered = refused 6; left = s }

abbrev pub last_number : MadeUp
last_number =
    record {
      before = ported (0 ∷ []) (upto 32) [] (state 4_294_967_295 [] []);
      asked = open_at 1;
      answered = granted 4_294_967_295;
      left = ported [] (upto 32) [] (state 4_294_967_296 (0 ∷ []) (bare 4_294_967_295 [] ∷ []));
    }

abbrev pub made_up_table : List MadeUp
made_up_table = publish_hands_on ∷ leads_to_itself ∷ past_bars ∷ others_no_bar ∷ spent ∷ last_number ∷ []

pub made_up_publishes : (m : MadeUp) → m ∈ made_up_table → made_up m ≡ written_out m
unfolding made_up
made_up_publishes m = rows made_up written_out (refl, (refl, (refl, (refl, (refl, (refl, tt))))))
