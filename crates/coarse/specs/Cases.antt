-- Computed tables of the coarse mode: exchanges, each with the reply expected of it, held to what the full history gives, the log that they leave, with its true cells, and its
-- order by these (`coarse_cases`); the same replies of the slots (`slot_cases`); what the exact mode says to the same requests (`exact_says`); circles by true cells and by groups
-- (`closed_by_cells`).
-- Assumes nothing.
use Rattle.std.specs.Prelude.{◌≡◌, refl, Bool, true, false, List, [], ◌∷◌, map, ℕ}
use Rattle.std.proofs.Math.Option.{Option, some}
use Rattle.graph.specs.Lists.{◌∈◌}
use Rattle.history.specs.Events.{read, write, add, opens, steps, ends, abandons, History, kept_steps, has_circle}
use Rattle.history.specs.Replies.{Request, Reply, replies}
use Rattle.history.specs.Orders.{order_of}
use Rattle.history.specs.Cases.{open_one, reads, writes, adds, end, abandon, publishes, granted, refused, Exchange, ◌gets◌, rows, computed}
use Rattle.held.specs.Held.{fresh_held}
use Rattle.held.specs.Cases.{held_answers, request}
use Rattle.coarse.specs.Coarse.{group, grouped, with_step, coarse_reply, coarse_granted, coarse_after, coarse_replies, coarse_history}
use Rattle.coarse.specs.CoarseHeld.{coarse_answer, coarse_next, coarse_answers}

-- ---- the cases

-- the first number is 1
pub record Case : Type 0 where
  pub exchanges : List Exchange
  pub log : History
  pub order : Option (List ℕ)

pub record Outcome : Type 0 where
  pub answered : List Reply
  pub log : History
  pub order : Option (List ℕ)

abbrev pub asked_of : Case → List Request
asked_of c = map (λ e. e.asked) c.exchanges

abbrev pub answered_of : Case → List Reply
answered_of c = map (λ e. e.answered) c.exchanges

abbrev pub expected : Case → Outcome
expected c = record { answered = answered_of c; log = c.log; order = c.order }

-- opens every definition that the table computes with
unfoldable pub tried : Case → Outcome
unfolding computed group coarse_reply coarse_granted coarse_after
tried c =
    let h = coarse_history group 1 (asked_of c) in
    record { answered = coarse_replies group 1 (asked_of c); log = h; order = order_of h }

-- 0 and 15 are of one group, 16 is of the next: job 1 comes before job 2 by the group of 0 and 15, and may not read what 2 wrote there; 16 it may read
abbrev pub one_group : Case
one_group =
    record {
      exchanges =
          open_one gets granted 1 ∷ open_one gets granted 2
          ∷ reads 1 0 gets granted 1 ∷ writes 2 15 gets granted 2
          ∷ reads 1 15 gets refused 7 ∷ reads 1 16 gets granted 1 ∷ [];
      log = opens 1 ∷ opens 2 ∷ steps read 1 0 ∷ steps write 2 15 ∷ steps read 1 16 ∷ [];
      order = some (1 ∷ 2 ∷ []);
    }

-- 15 and 16 are of two groups, and so are 37 and 53, which leave the same remainder: job 1 may read 16 and 53, which job 2 wrote. Then 2 comes before 1, and may write neither the cell that 1 read
-- nor another of its group
abbrev pub two_groups : Case
two_groups =
    record {
      exchanges =
          open_one gets granted 1 ∷ open_one gets granted 2
          ∷ reads 1 15 gets granted 1 ∷ writes 2 16 gets granted 2 ∷ reads 1 16 gets granted 1
          ∷ reads 1 37 gets granted 1 ∷ writes 2 53 gets granted 2 ∷ reads 1 53 gets granted 1
          ∷ writes 2 15 gets refused 7 ∷ writes 2 14 gets refused 7 ∷ [];
      log =
          opens 1 ∷ opens 2 ∷ steps read 1 15 ∷ steps write 2 16 ∷ steps read 1 16
          ∷ steps read 1 37 ∷ steps write 2 53 ∷ steps read 1 53 ∷ [];
      order = some (2 ∷ 1 ∷ []);
    }

-- 4,095 is the last cell: 4,096 and 65,535 get 2, and before 3
abbrev pub beyond : Case
beyond = record { exchanges = reads 9 4096 gets refused 2 ∷ writes 9 65535 gets refused 2 ∷ reads 9 4095 gets refused 3 ∷ []; log = []; order = some [] }

-- of an open job too, whatever the kind of the step, and for a publish; code 1 comes before 2. 4,080 is of the group of 4,095. The cells of an end and an open are not looked at, and the
-- port of an open is no cell
abbrev pub last_cell : Case
last_cell =
    record {
      exchanges =
          open_one gets granted 1 ∷ open_one gets granted 2
          ∷ reads 1 4095 gets granted 1 ∷ writes 1 256 gets granted 1
          ∷ reads 1 4096 gets refused 2 ∷ writes 1 65535 gets refused 2 ∷ adds 1 4096 gets refused 2 ∷ publishes 1 4096 gets refused 2
          ∷ request 2 1 4096 1 gets refused 1 ∷ request 8 0 4096 1 gets refused 1
          ∷ writes 2 4080 gets granted 2 ∷ reads 1 4094 gets refused 7 ∷ abandon 1 gets refused 4
          ∷ request 4 0 65535 1 gets granted 1 ∷ request 1 0 65535 2 gets granted 3 ∷ request 1 0 0 16 gets refused 8 ∷ [];
      log = opens 1 ∷ opens 2 ∷ steps read 1 4095 ∷ steps write 1 256 ∷ steps write 2 4080 ∷ ends 1 ∷ opens 3 ∷ [];
      order = some (1 ∷ 2 ∷ 3 ∷ []);
    }

-- a publish is by groups too: that of job 2 comes after the read of job 1, on another cell of the group, and job 1 may not read or publish a third one. Abandoned, job 1 counts no more
abbrev pub published : Case
published =
    record {
      exchanges =
          open_one gets granted 1 ∷ open_one gets granted 2
          ∷ reads 1 32 gets granted 1 ∷ publishes 2 47 gets granted 2
          ∷ reads 1 40 gets refused 7 ∷ publishes 1 33 gets refused 7
          ∷ abandon 1 gets granted 1 ∷ open_one gets granted 3 ∷ publishes 3 33 gets granted 3 ∷ [];
      log = opens 1 ∷ opens 2 ∷ steps read 1 32 ∷ steps write 2 47 ∷ ends 2 ∷ abandons 1 ∷ opens 3 ∷ steps write 3 33 ∷ ends 3 ∷ [];
      order = some (2 ∷ 3 ∷ []);
    }

-- adds to the cells of one group change places as adds to one cell do; a read in the group comes after them, and bars a further add of job 1 there, and not in the next group
abbrev pub added : Case
added =
    record {
      exchanges =
          open_one gets granted 1 ∷ open_one gets granted 2
          ∷ adds 1 100 gets granted 1 ∷ adds 2 101 gets granted 2 ∷ adds 1 101 gets granted 1
          ∷ reads 2 102 gets granted 2 ∷ adds 1 96 gets refused 7 ∷ adds 1 112 gets granted 1 ∷ [];
      log = opens 1 ∷ opens 2 ∷ steps add 1 100 ∷ steps add 2 101 ∷ steps add 1 101 ∷ steps read 2 102 ∷ steps add 1 112 ∷ [];
      order = some (1 ∷ 2 ∷ []);
    }

-- a circle by true cells: job 1 comes before job 2 by cell 1,000 and may not read cell 2,000, which 2 wrote
abbrev pub true_circle : Case
true_circle =
    record {
      exchanges =
          open_one gets granted 1 ∷ open_one gets granted 2
          ∷ reads 1 1000 gets granted 1 ∷ writes 2 1000 gets granted 2 ∷ writes 2 2000 gets granted 2
          ∷ reads 1 2000 gets refused 7 ∷ end 2 gets granted 2 ∷ [];
      log = opens 1 ∷ opens 2 ∷ steps read 1 1000 ∷ steps write 2 1000 ∷ steps write 2 2000 ∷ ends 2 ∷ [];
      order = some (1 ∷ 2 ∷ []);
    }

abbrev pub coarse_table : List Case
coarse_table = one_group ∷ two_groups ∷ beyond ∷ last_cell ∷ published ∷ added ∷ true_circle ∷ []

pub coarse_cases : (c : Case) → c ∈ coarse_table → tried c ≡ expected c
unfolding tried
coarse_cases c = rows tried expected (refl, (refl, (refl, (refl, (refl, (refl, (refl, tt)))))))

-- the slots give the same replies
unfoldable pub by_slots : Case → List Reply
unfolding tried held_answers coarse_answer coarse_next
by_slots c = coarse_answers (fresh_held 1) (asked_of c)

pub slot_cases : (c : Case) → c ∈ coarse_table → by_slots c ≡ answered_of c
unfolding by_slots
slot_cases c = rows by_slots answered_of (refl, (refl, (refl, (refl, (refl, (refl, (refl, tt)))))))

-- ---- what the exact mode says

-- a case whose cells are all below 256, and the exact mode's replies to the same requests
pub record Beside : Type 0 where
  pub case : Case
  pub exact : List Reply

unfoldable pub by_exact : Beside → List Reply
unfolding tried
by_exact b = replies 1 (asked_of b.case)

-- by true cells job 1's read of 15 closes no circle, nor does its publish of 33, nor its add to 96
abbrev pub exact_table : List Beside
exact_table =
    record { case = one_group; exact = granted 1 ∷ granted 2 ∷ granted 1 ∷ granted 2 ∷ granted 1 ∷ granted 1 ∷ [] }
    ∷ record { case = published; exact = granted 1 ∷ granted 2 ∷ granted 1 ∷ granted 2 ∷ granted 1 ∷ granted 1 ∷ refused 3 ∷ granted 3 ∷ granted 3 ∷ [] }
    ∷ record { case = added; exact = granted 1 ∷ granted 2 ∷ granted 1 ∷ granted 2 ∷ granted 1 ∷ granted 2 ∷ granted 1 ∷ granted 1 ∷ [] }
    ∷ []

pub exact_says : (b : Beside) → b ∈ exact_table → by_exact b ≡ b.exact
unfolding by_exact
exact_says b = rows by_exact (λ b. b.exact) (refl, (refl, (refl, tt)))

-- ---- circles by true cells and by groups

-- a log and a request for a read: is there a circle with it, by true cells and by groups?
pub record Closing : Type 0 where
  pub log : History
  pub asked : Request
  pub by_cells : Bool
  pub by_groups : Bool

pub record Closed : Type 0 where
  pub by_cells : Bool
  pub by_groups : Bool

unfoldable pub closing : Closing → Closed
unfolding tried
closing c =
    let h = with_step c.log read c.asked in
    record { by_cells = has_circle (kept_steps h); by_groups = has_circle (kept_steps (grouped group h)) }

abbrev pub said : Closing → Closed
said c = record { by_cells = c.by_cells; by_groups = c.by_groups }

-- a circle by true cells is one by groups; 15 after 0 makes one by groups alone; 16 none
abbrev pub closing_table : List Closing
closing_table =
    record { log = true_circle.log; asked = reads 1 2000; by_cells = true; by_groups = true }
    ∷ record { log = one_group.log; asked = reads 1 15; by_cells = false; by_groups = true }
    ∷ record { log = one_group.log; asked = reads 1 16; by_cells = false; by_groups = false }
    ∷ []

pub closed_by_cells : (c : Closing) → c ∈ closing_table → closing c ≡ said c
unfolding closing
closed_by_cells c = rows closing said (refl, (refl, (refl, tt)))
