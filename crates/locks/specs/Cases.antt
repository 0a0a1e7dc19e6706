-- Computed tables of the run by locks: exchanges, each with the reply expected of it, held to what the full history gives, with the number put off (`lock_cases`), and to what the slots
-- give (`slot_cases`), and the order of the log that they leave (`order_cases`); the same requests by locks and by the first profile (`compared`); states that no requests give (`made_up_steps`).
-- Assumes nothing.
use Rattle.std.specs.Prelude.{◌≡◌, refl, List, [], ◌∷◌, map, ℕ}
use Rattle.std.proofs.Math.Option.{Option, some}
use Rattle.graph.specs.Lists.{◌∈◌}
use Rattle.history.specs.Events.{opened, ended, abandoned, kept, open_now, all_steps, wrote}
use Rattle.history.specs.Replies.{Request, Reply, want, tests, code_of, job_of, reply_of, granted_of, event_of, ports_after, full, replies}
use Rattle.history.specs.Orders.{order_of}
use Rattle.history.specs.Cases.{open_at, open_one, reads, writes, adds, end, abandon, publishes, granted, refused, Exchange, ◌gets◌, rows, computed}
use Rattle.held.specs.Held.{Held, fresh_held}
use Rattle.held.specs.Cases.{held_answers, request, State, state, held_of, first_rows, bare, with_own, with_past}
use Rattle.locks.specs.Locks.{held_up, locked, lock_reply, lock_granted, lock_after, lock_replies, lock_history, put_off}
use Rattle.locks.specs.LocksHeld.{barred, put_off_at, lock_answer, lock_next, lock_answers}

-- ---- the cases

-- the first number is 1
pub record Case : Type 0 where
  pub exchanges : List Exchange
  pub off : ℕ
  pub order : Option (List ℕ)

abbrev pub asked_of : Case → List Request
asked_of c = map (λ e. e.asked) c.exchanges

abbrev pub answered_of : Case → List Reply
answered_of c = map (λ e. e.answered) c.exchanges

-- by the full history: the replies, and how many of them are 10
pub record Replied : Type 0 where
  pub replied : List Reply
  pub off : ℕ

abbrev pub expected : Case → Replied
expected c = record { replied = answered_of c; off = c.off }

unfoldable pub tried : Case → Replied
unfolding want tests code_of job_of reply_of granted_of event_of ports_after full opened ended abandoned kept open_now all_steps wrote held_up locked lock_reply lock_granted lock_after
tried c = let r = lock_replies 1 (asked_of c) in record { replied = r; off = put_off r }

-- by the slots: the answers
unfoldable pub tried_slots : Case → List Reply
unfolding held_answers barred put_off_at lock_answer lock_next
tried_slots c = lock_answers (fresh_held 1) (asked_of c)

-- and the order of the log that is left
unfoldable pub tried_order : Case → Option (List ℕ)
unfolding computed tried
tried_order c = order_of (lock_history 1 (asked_of c))

-- reads share; a write and an add of a cell that another reads are put off
abbrev pub reads_share : Case
reads_share =
    record {
      exchanges =
          open_one gets granted 1 ∷ open_one gets granted 2
          ∷ reads 1 5 gets granted 1 ∷ reads 2 5 gets granted 2 ∷ writes 2 5 gets refused 10 ∷ adds 1 5 gets refused 10 ∷ [];
      off = 2;
      order = some (1 ∷ 2 ∷ []);
    }

-- and after the other's end they are not
abbrev pub end_frees : Case
end_frees =
    record {
      exchanges =
          open_one gets granted 1 ∷ open_one gets granted 2
          ∷ reads 1 5 gets granted 1 ∷ end 1 gets granted 1 ∷ writes 2 5 gets granted 2 ∷ [];
      off = 0;
      order = some (1 ∷ 2 ∷ []);
    }

-- what a job holds itself does not bar it
abbrev pub own_no_bar : Case
own_no_bar =
    record {
      exchanges =
          open_one gets granted 1
          ∷ reads 1 5 gets granted 1 ∷ writes 1 5 gets granted 1 ∷ adds 1 5 gets granted 1 ∷ reads 1 5 gets granted 1
          ∷ publishes 1 5 gets granted 1 ∷ [];
      off = 0;
      order = some (1 ∷ []);
    }

-- a written cell is held alone, until the end; cell 4 is another
abbrev pub write_alone : Case
write_alone =
    record {
      exchanges =
          open_one gets granted 1 ∷ open_one gets granted 2
          ∷ writes 1 5 gets granted 1
          ∷ reads 2 5 gets refused 10 ∷ writes 2 5 gets refused 10 ∷ adds 2 5 gets refused 10 ∷ writes 2 4 gets granted 2
          ∷ end 1 gets granted 1 ∷ reads 2 5 gets granted 2 ∷ [];
      off = 3;
      order = some (1 ∷ 2 ∷ []);
    }

-- and so is a cell that is added to, though two adds can change places
abbrev pub add_alone : Case
add_alone =
    record {
      exchanges =
          open_one gets granted 1 ∷ open_one gets granted 2
          ∷ adds 1 5 gets granted 1
          ∷ adds 2 5 gets refused 10 ∷ reads 2 5 gets refused 10 ∷ writes 2 5 gets refused 10
          ∷ end 1 gets granted 1 ∷ adds 2 5 gets granted 2 ∷ [];
      off = 3;
      order = some (1 ∷ 2 ∷ []);
    }

-- what was put off is not held: job 2 can be abandoned, and job 1 may write the cell it reads. An abandoned job holds nothing
abbrev pub abandon_frees : Case
abandon_frees =
    record {
      exchanges =
          open_one gets granted 1 ∷ open_one gets granted 2
          ∷ reads 1 5 gets granted 1 ∷ writes 2 5 gets refused 10 ∷ reads 2 6 gets granted 2
          ∷ writes 1 5 gets granted 1 ∷ writes 1 6 gets refused 10
          ∷ abandon 2 gets granted 2 ∷ writes 1 6 gets granted 1 ∷ abandon 1 gets refused 4 ∷ [];
      off = 2;
      order = some (1 ∷ []);
    }

-- a publish is put off when its write is, and its job stays open; granted, it holds nothing more
abbrev pub publish_off : Case
publish_off =
    record {
      exchanges =
          open_one gets granted 1 ∷ open_one gets granted 2
          ∷ reads 1 5 gets granted 1 ∷ publishes 2 5 gets refused 10
          ∷ reads 2 6 gets granted 2 ∷ publishes 1 6 gets refused 10 ∷ publishes 1 5 gets granted 1
          ∷ publishes 2 5 gets granted 2 ∷ reads 2 6 gets refused 3 ∷ [];
      off = 2;
      order = some (1 ∷ 2 ∷ []);
    }

-- 1 before 2 before 3 before 10; 3 and 4 for an abandon, 3 for an end and 8 for an open, as in the first profile
abbrev pub codes_in_order : Case
codes_in_order =
    record {
      exchanges =
          open_one gets granted 1 ∷ open_one gets granted 2 ∷ writes 1 255 gets granted 1 ∷ writes 1 0 gets granted 1
          ∷ request 2 1 255 2 gets refused 1 ∷ request 8 0 255 2 gets refused 1 ∷ request 6 9 255 2 gets refused 1
          ∷ writes 2 256 gets refused 2 ∷ publishes 2 256 gets refused 2 ∷ reads 9 256 gets refused 2
          ∷ reads 9 255 gets refused 3 ∷ publishes 9 255 gets refused 3 ∷ adds 2 255 gets refused 10
          ∷ end 9 gets refused 3 ∷ abandon 9 gets refused 3 ∷ abandon 1 gets refused 4
          ∷ end 2 gets granted 2 ∷ adds 2 255 gets refused 3 ∷ open_at 3 gets refused 8 ∷ open_at 2 gets granted 3 ∷ [];
      off = 1;
      order = some (1 ∷ 2 ∷ 3 ∷ []);
    }

-- job 3 takes the slot of job 1, and not what it held
abbrev pub slot_again : Case
slot_again =
    record {
      exchanges =
          open_one gets granted 1 ∷ open_one gets granted 2
          ∷ writes 1 5 gets granted 1 ∷ end 1 gets granted 1 ∷ open_one gets granted 3
          ∷ writes 2 5 gets granted 2 ∷ reads 3 5 gets refused 10 ∷ end 2 gets granted 2 ∷ reads 3 5 gets granted 3 ∷ [];
      off = 1;
      order = some (1 ∷ 2 ∷ 3 ∷ []);
    }

abbrev pub lock_table : List Case
lock_table = reads_share ∷ end_frees ∷ own_no_bar ∷ write_alone ∷ add_alone ∷ abandon_frees ∷ publish_off ∷ codes_in_order ∷ slot_again ∷ []

pub lock_cases : (c : Case) → c ∈ lock_table → tried c ≡ expected c
unfolding tried
lock_cases c = rows tried expected (refl, (refl, (refl, (refl, (refl, (refl, (refl, (refl, (refl, tt)))))))))

pub slot_cases : (c : Case) → c ∈ lock_table → tried_slots c ≡ answered_of c
unfolding tried_slots
slot_cases c = rows tried_slots answered_of (refl, (refl, (refl, (refl, (refl, (refl, (refl, (refl, (refl, tt)))))))))

pub order_cases : (c : Case) → c ∈ lock_table → tried_order c ≡ c.order
unfolding tried_order
order_cases c = rows tried_order (λ c. c.order) (refl, (refl, (refl, (refl, (refl, (refl, (refl, (refl, (refl, tt)))))))))

-- ---- by locks and by the first profile

-- requests with the code that each gets by locks, and by the first profile
pub record Both : Type 0 where
  pub asked : List Request
  pub by_locks : List ℕ
  pub by_first : List ℕ

pub record Codes : Type 0 where
  pub by_locks : List ℕ
  pub by_first : List ℕ

abbrev codes : List Reply → List ℕ
codes l = map (λ a. a.code) l

unfoldable pub run_both : Both → Codes
unfolding computed tried
run_both x = record { by_locks = codes (lock_replies 1 x.asked); by_first = codes (replies 1 x.asked) }

abbrev pub codes_of : Both → Codes
codes_of x = record { by_locks = x.by_locks; by_first = x.by_first }

-- the first profile lets job 2 write what job 1 has read, and raise the counter with it; locks put both off
abbrev pub first_grants : Both
first_grants =
    record {
      asked = open_one ∷ open_one ∷ reads 1 5 ∷ writes 2 5 ∷ adds 1 6 ∷ adds 2 6 ∷ end 2 ∷ end 1 ∷ [];
      by_locks = 0 ∷ 0 ∷ 0 ∷ 10 ∷ 0 ∷ 10 ∷ 0 ∷ 0 ∷ [];
      by_first = 0 ∷ 0 ∷ 0 ∷ 0 ∷ 0 ∷ 0 ∷ 0 ∷ 0 ∷ [];
    }

-- the write of cell 6 by job 2 and its read by job 1 would close a circle with cell 5. Locks have put off the write of cell 5, and grant the read
abbrev pub circle_kept_off : Both
circle_kept_off =
    record {
      asked = open_one ∷ open_one ∷ reads 1 5 ∷ writes 2 5 ∷ writes 2 6 ∷ end 2 ∷ reads 1 6 ∷ end 1 ∷ [];
      by_locks = 0 ∷ 0 ∷ 0 ∷ 10 ∷ 0 ∷ 0 ∷ 0 ∷ 0 ∷ [];
      by_first = 0 ∷ 0 ∷ 0 ∷ 0 ∷ 0 ∷ 0 ∷ 7 ∷ 0 ∷ [];
    }

-- real time: 2 comes before 1 by cell 5, 1 had ended when 3 was opened, so that 3 may not come before 2. Locks have put off job 1's write, and grant the read
abbrev pub in_time : Both
in_time =
    record {
      asked = open_one ∷ open_one ∷ reads 2 5 ∷ writes 1 5 ∷ end 1 ∷ open_one ∷ publishes 3 6 ∷ reads 2 6 ∷ [];
      by_locks = 0 ∷ 0 ∷ 0 ∷ 10 ∷ 0 ∷ 0 ∷ 0 ∷ 0 ∷ [];
      by_first = 0 ∷ 0 ∷ 0 ∷ 0 ∷ 0 ∷ 0 ∷ 0 ∷ 7 ∷ [];
    }

abbrev pub both_table : List Both
both_table = first_grants ∷ circle_kept_off ∷ in_time ∷ []

pub compared : (x : Both) → x ∈ both_table → run_both x ≡ codes_of x
unfolding run_both
compared x = rows run_both codes_of (refl, (refl, (refl, tt)))

-- ---- states that no requests give

-- a state, a request, the answer to it and the next state
pub record MadeUp : Type 0 where
  pub before : State
  pub asked : Request
  pub answered : Reply
  pub left : State

pub record Left : Type 0 where
  pub answered : Reply
  pub left : Held

-- the next state as far as the words of the first six rows
unfoldable pub made_up : MadeUp → Left
unfolding tried_slots
made_up m = let h = held_of m.before in record { answered = lock_answer h m.asked; left = first_rows (lock_next h m.asked) }

abbrev pub written_out : MadeUp → Left
written_out m = record { answered = m.answered; left = first_rows (held_of m.left) }

-- of two open slots with the number the lower steps, and the other bars it: it is another slot
abbrev pub same_number_bars : MadeUp
same_number_bars =
    let s = state 9 (0 ∷ 1 ∷ []) (bare 7 [] ∷ with_own 7 [] [] (5 ∷ []) ∷ []) in
    record { before = s; asked = reads 7 5; answered = refused 10; left = s }

-- neither a slot that is not open nor a past bars
abbrev pub closed_and_past : MadeUp
closed_and_past =
    record {
      before = state 9 (0 ∷ 2 ∷ []) (bare 7 [] ∷ with_own 8 [] (5 ∷ []) (5 ∷ []) ∷ with_past 6 [] (5 ∷ []) (5 ∷ []) ∷ []);
      asked = adds 7 5;
      answered = granted 7;
      left = state 9 (0 ∷ 2 ∷ []) (with_own 7 [] [] (5 ∷ []) ∷ with_own 8 [] (5 ∷ []) (5 ∷ []) ∷ with_past 6 (0 ∷ []) (5 ∷ []) (5 ∷ []) ∷ []);
    }

-- a chain of leads that requests by locks never leave: what is not barred is answered as in the first profile
abbrev pub chain_refuses : MadeUp
chain_refuses =
    let s = state 9 (0 ∷ []) (with_past 7 [] (200 ∷ []) [] ∷ []) in
    record { before = s; asked = publishes 7 200; answered = refused 7; left = s }

abbrev pub made_up_table : List MadeUp
made_up_table = same_number_bars ∷ closed_and_past ∷ chain_refuses ∷ []

pub made_up_steps : (m : MadeUp) → m ∈ made_up_table → made_up m ≡ written_out m
unfolding made_up
made_up_steps m = rows made_up written_out (refl, (refl, (refl, tt)))
