-- Computed tables of the held rule: the cases of the full history (`held_p_cases` and `held_own_cases`, which `held_cases` of proofs/CaseLaws.antt joins, and those of ports, `held_port_cases`); histories of our own that show the slots and the order of the
-- codes (`own_histories`); states that no requests give, with the answer to a request (`made_up_answers`) and, for some, the next state (`made_up_rows`; of
-- all, to the last word, in crate `made`).
--
-- A made-up state is written as what it means: the next number, the open slots, the slots of each port, open or not, and for the lowest slots a row, open or not, of a number,
-- the slots led to and the cells of the four sets; the rows of the other slots are blank.
-- Assumes nothing.
use Rattle.std.specs.Prelude.{◌≡◌, refl, not, cond, List, [], ◌∷◌, ◌++◌, map, ℕ, ◌+◌, ◌-◌, ◌*◌, ◌/◌, ◌%◌, ◌^◌, eqb, length, replicate, take}
use Rattle.std.proofs.Math.Option.{Option, none, some}
use Rattle.std.specs.Int.Bits.{bit_or}
use Rattle.graph.specs.Lists.{◌∈◌}
use Rattle.marks.specs.Marks.{bit, mask_of, without, tab, upto}
use Rattle.history.specs.Events.{has}
use Rattle.history.specs.Replies.{most_open, Request, Reply, want, tests, code_of, job_of, reply_of}
use Rattle.history.specs.Cases.{open_one, reads, writes, adds, end, abandon, publishes, granted, refused, Exchange, ◌gets◌, opens_from, Case, requests_of, replies_of, p_table, own_table, Ports, port_table, rows}
use Rattle.held.specs.Held.{Held, word_marks, set_words, row_words, all_words, fresh_held, number_at, leads_at, port_at, word_at, open_at, open_slots, cell_at, slot_of, meets, touched, chain_back, altered, facts, has_past, opened_at, stepped_at, left_at, ended_at, abandoned_at, free_slot, moved, answer_to, after, answers, after_all}

-- ---- the cases of the full history

-- opens every definition that the rule computes with, so that a table needs to open only this one
unfoldable pub held_answers : Case → List Reply
unfolding want tests code_of job_of reply_of meets bit without
    fresh_held number_at leads_at port_at word_at open_at open_slots cell_at slot_of touched chain_back altered facts
    has_past opened_at stepped_at left_at ended_at abandoned_at free_slot moved answer_to after
held_answers c = answers (fresh_held c.first) (requests_of c)

-- in every case of the full history the held rule gives its replies, one by one
pub held_p_cases : (c : Case) → c ∈ p_table → answers (fresh_held c.first) (requests_of c) ≡ replies_of c
unfolding held_answers
held_p_cases c = rows held_answers replies_of (refl, (refl, (refl, (refl, (refl, (refl, (refl, (refl, tt))))))))

pub held_own_cases : (c : Case) → c ∈ own_table → answers (fresh_held c.first) (requests_of c) ≡ replies_of c
unfolding held_answers
held_own_cases c = rows held_answers replies_of (refl, (refl, (refl, (refl, (refl, (refl, (refl, (refl, (refl, (refl, (refl, (refl, (refl, (refl, tt))))))))))))))

-- and so in every case of ports
unfoldable pub port_answers : Ports → List Reply
unfolding held_answers
port_answers c = answers (fresh_held c.first) (map (λ e. e.asked) c.exchanges)

pub held_port_cases : (c : Ports) → c ∈ port_table → answers (fresh_held c.first) (map (λ e. e.asked) c.exchanges) ≡ map (λ e. e.answered) c.exchanges
unfolding port_answers
held_port_cases c = rows port_answers (λ c. map (λ e. e.answered) c.exchanges) (refl, (refl, (refl, (refl, (refl, (refl, tt))))))

-- ---- histories of our own

-- an open of port p
abbrev pub open_of : ℕ → Request
open_of p = Rattle.history.specs.Cases.open_at p

-- a first number, the exchanges, and then for some job numbers the slot that is meant by each
pub record Tried : Type 0 where
  pub first : ℕ
  pub exchanges : List Exchange
  pub jobs : List ℕ
  pub slots : List (Option ℕ)

pub record Seen : Type 0 where
  pub answered : List Reply
  pub slots : List (Option ℕ)

abbrev pub to_see : Tried → Seen
to_see t = record { answered = map (λ e. e.answered) t.exchanges; slots = t.slots }

unfoldable pub seen : Tried → Seen
unfolding held_answers
seen t =
    let asked = map (λ e. e.asked) t.exchanges in
    let h = after_all (fresh_held t.first) asked in
    record { answered = answers (fresh_held t.first) asked; slots = map (slot_of h) t.jobs }

-- any four fields as a request
abbrev pub request : ℕ → ℕ → ℕ → ℕ → Request
request k b c j = record { kind = k; byte1 = b; cell = c; job = j }

-- the slot of job 1, of port 0, goes to a job of port 1, and counts for port 1 alone: port 0 has room for one more, in a slot of its own
abbrev pub slot_changes_port : Tried
slot_changes_port =
    record {
      first = 1;
      exchanges =
          opens_from 0 16 1 ++ open_of 0 gets refused 9
          ∷ end 1 gets granted 1 ∷ open_of 1 gets granted 17 ∷ open_of 0 gets granted 18 ∷ open_of 0 gets refused 9 ∷ [];
      jobs = 1 ∷ 2 ∷ 17 ∷ 18 ∷ [];
      slots = none ∷ some 1 ∷ some 0 ∷ some 16 ∷ [];
    }

-- 32 opens, 16 of port 0 and 16 of port 1, take the slots in order and the 33rd is refused; the slot of job 6 is free when it has ended, and the next job takes it
abbrev pub all_slots : Tried
all_slots =
    record {
      first = 1;
      exchanges =
          opens_from 0 16 1 ++ opens_from 1 16 17 ++ open_of 2 gets refused 5
          ∷ end 6 gets granted 6 ∷ open_of 2 gets granted 33 ∷ open_of 2 gets refused 5 ∷ [];
      jobs = 1 ∷ 5 ∷ 6 ∷ 7 ∷ 32 ∷ 33 ∷ 34 ∷ [];
      slots = some 0 ∷ some 4 ∷ none ∷ some 6 ∷ some 31 ∷ some 5 ∷ none ∷ [];
    }

-- of two free slots the lower is taken, though the other was free before it; an abandoned job's slot is free too
abbrev pub lowest_taken : Tried
lowest_taken =
    record {
      first = 1;
      exchanges =
          opens_from 0 4 1 ++ end 3 gets granted 3 ∷ abandon 1 gets granted 1
          ∷ open_one gets granted 5 ∷ open_one gets granted 6 ∷ open_one gets granted 7 ∷ [];
      jobs = 1 ∷ 2 ∷ 3 ∷ 4 ∷ 5 ∷ 6 ∷ 7 ∷ [];
      slots = none ∷ some 1 ∷ none ∷ some 3 ∷ some 0 ∷ some 2 ∷ some 4 ∷ [];
    }

-- 6 before 5: after 32 opens there is neither a number left nor a slot; 6 also when a slot is free again
abbrev pub last_number : Tried
last_number =
    record {
      first = 4_294_967_264;
      exchanges =
          opens_from 0 16 4_294_967_264 ++ opens_from 1 16 4_294_967_280 ++ open_of 2 gets refused 6
          ∷ end 4_294_967_295 gets granted 4_294_967_295 ∷ open_of 2 gets refused 6 ∷ [];
      jobs = 4_294_967_264 ∷ 4_294_967_294 ∷ 4_294_967_295 ∷ [];
      slots = some 0 ∷ some 30 ∷ none ∷ [];
    }

-- 1 before all: a kind that is not 1 to 7, or byte 1 not zero, whatever else is wrong or right
abbrev pub code_one : Tried
code_one =
    record {
      first = 1;
      exchanges =
          open_one gets granted 1
          ∷ request 0 0 5 1 gets refused 1 ∷ request 8 0 5 1 gets refused 1 ∷ request 255 0 5 1 gets refused 1
          ∷ request 9 1 5 1 gets refused 1 ∷ request 2 1 256 8 gets refused 1
          ∷ request 1 1 0 0 gets refused 1 ∷ request 3 128 5 1 gets refused 1
          ∷ request 4 1 0 1 gets refused 1 ∷ request 5 255 0 1 gets refused 1 ∷ [];
      jobs = 1 ∷ 2 ∷ [];
      slots = some 0 ∷ none ∷ [];
    }

-- 2 before 3 for a step, 3 before 4 for an abandon; cell 255 is a cell; the 0 of a blank row is no job; the cell of an open is not looked at, nor
-- is that of an end or an abandon
abbrev pub codes_in_order : Tried
codes_in_order =
    record {
      first = 1;
      exchanges =
          request 1 0 256 2 gets granted 1 ∷ open_one gets granted 2
          ∷ reads 1 255 gets granted 1 ∷ reads 1 256 gets refused 2
          ∷ reads 8 256 gets refused 2 ∷ writes 8 65535 gets refused 2 ∷ reads 8 255 gets refused 3
          ∷ reads 0 5 gets refused 3 ∷ end 0 gets refused 3 ∷ abandon 0 gets refused 3
          ∷ writes 2 255 gets granted 2 ∷ abandon 2 gets refused 4 ∷ writes 1 255 gets refused 7
          ∷ request 4 0 256 2 gets granted 2 ∷ abandon 2 gets refused 3 ∷ end 2 gets refused 3
          ∷ request 5 0 65535 1 gets granted 1 ∷ abandon 1 gets refused 3 ∷ [];
      jobs = 0 ∷ 1 ∷ 2 ∷ [];
      slots = none ∷ none ∷ none ∷ [];
    }

-- job 0 is a job like any other once it is issued, though a refusal answers 0 too
abbrev pub job_zero : Tried
job_zero =
    record {
      first = 0;
      exchanges =
          reads 0 5 gets refused 3 ∷ open_one gets granted 0 ∷ reads 0 5 gets granted 0 ∷ reads 0 256 gets refused 2
          ∷ end 0 gets granted 0 ∷ end 0 gets refused 3 ∷ [];
      jobs = 0 ∷ [];
      slots = none ∷ [];
    }

abbrev pub tried_table : List Tried
tried_table = lowest_taken ∷ slot_changes_port ∷ all_slots ∷ last_number ∷ code_one ∷ codes_in_order ∷ job_zero ∷ []

-- every history of the table is answered as written, and the jobs stand in the slots as written
pub own_histories : (t : Tried) → t ∈ tried_table → seen t ≡ to_see t
unfolding seen
own_histories t = rows seen to_see (refl, (refl, (refl, (refl, (refl, (refl, (refl, tt)))))))

-- ---- states written as what they mean

pub record Row : Type 0 where
  pub number : ℕ
  pub leads : List ℕ
  pub own_used : List ℕ
  pub own_altered : List ℕ
  pub past_used : List ℕ
  pub past_altered : List ℕ

pub record State : Type 0 where
  pub next : ℕ
  pub slots : List ℕ
  pub ports : List (List ℕ)
  pub rows : List Row

-- four words for the cells of a set: each cell's mark stands in its word
abbrev pub marks_in : ℕ → List ℕ → ℕ
marks_in w [] = 0
marks_in w (c ∷ cs) = cond (eqb (c / word_marks) w) (bit_or (2 ^ (c % word_marks)) (marks_in w cs)) (marks_in w cs)

abbrev pub set_of : List ℕ → List ℕ
set_of cs = tab set_words (λ w. marks_in w cs)

-- the words of rows, each own before past and used before altered
abbrev pub words_of : List Row → List ℕ
words_of [] = []
words_of (r ∷ rs) = set_of r.own_used ++ (set_of r.own_altered ++ (set_of r.past_used ++ (set_of r.past_altered ++ words_of rs)))

abbrev pub held_of : State → Held
held_of s =
    let n = length s.rows in
    record {
      next = s.next;
      free = mask_of most_open (λ i. not (has s.slots i));
      numbers = map (λ r. r.number) s.rows ++ replicate (most_open - n) 0;
      leads = map (λ r. mask_of most_open (has r.leads)) s.rows ++ replicate (most_open - n) 0;
      sets = words_of s.rows ++ replicate (all_words - n * row_words) 0;
      ports = map (λ l. mask_of most_open (has l)) s.ports;
    }

-- ---- states that no requests give

-- a state, a request, the answer to it and the next state
pub record MadeUp : Type 0 where
  pub before : State
  pub asked : Request
  pub answered : Reply
  pub left : State

unfoldable pub made_up_answer : MadeUp → Reply
unfolding held_answers
made_up_answer m = answer_to (held_of m.before) m.asked

unfoldable pub made_up_next : MadeUp → Held
unfolding held_answers
made_up_next m = after (held_of m.before) m.asked

-- a state cut down to the words of its first six rows
abbrev pub first_rows : Held → Held
first_rows h = record { next = h.next; free = h.free; numbers = h.numbers; leads = h.leads; sets = take (6 * row_words) h.sets; ports = h.ports }

-- a refusal leaves the state
abbrev pub refusal : State → Request → ℕ → MadeUp
refusal s r c = record { before = s; asked = r; answered = refused c; left = s }

-- a row with no cells: `bare 7 (1 ∷ [])` is job 7, leading to slot 1
abbrev pub bare : ℕ → List ℕ → Row
bare n l = record { number = n; leads = l; own_used = []; own_altered = []; past_used = []; past_altered = [] }

abbrev pub blank : Row
blank = bare 0 []

-- a row whose job has used and altered cells itself, one that only has a past
abbrev pub with_own : ℕ → List ℕ → List ℕ → List ℕ → Row
with_own n l us vs = record { number = n; leads = l; own_used = us; own_altered = vs; past_used = []; past_altered = [] }

abbrev pub with_past : ℕ → List ℕ → List ℕ → List ℕ → Row
with_past n l us vs = record { number = n; leads = l; own_used = []; own_altered = []; past_used = us; past_altered = vs }

-- no slot has a port; and the same with slots of the ports 0, 1 and 2
abbrev pub state : ℕ → List ℕ → List Row → State
state n o rs = record { next = n; slots = o; ports = [] ∷ [] ∷ [] ∷ []; rows = rs }

abbrev pub ported : List ℕ → List ℕ → List ℕ → State → State
ported a b c s = record { next = s.next; slots = s.slots; ports = a ∷ b ∷ c ∷ []; rows = s.rows }

-- one number in three slots, the lowest of them not open: the lower open slot, 1, is meant. Slot 2 is another job though it has the same number:
-- it has read the cell, so it comes to lead to slot 1. The write marks both sets
abbrev pub one_number_twice : MadeUp
one_number_twice =
    record {
      before = state 9 (1 ∷ 2 ∷ []) (bare 7 [] ∷ bare 7 [] ∷ with_own 7 [] (5 ∷ []) [] ∷ []);
      asked = writes 7 5;
      answered = granted 7;
      left = state 9 (1 ∷ 2 ∷ []) (bare 7 [] ∷ with_own 7 [] (5 ∷ []) (5 ∷ []) ∷ with_own 7 (1 ∷ []) (5 ∷ []) [] ∷ []);
    }

-- and an end of that number leaves the higher slot open
abbrev pub one_number_ended : MadeUp
one_number_ended =
    record {
      before = state 9 (1 ∷ 2 ∷ []) (bare 7 [] ∷ bare 7 [] ∷ bare 7 [] ∷ []);
      asked = end 7;
      answered = granted 7;
      left = state 9 (2 ∷ []) (bare 7 [] ∷ blank ∷ bare 7 [] ∷ []);
    }

-- and a publish of it writes and ends the lower: the higher slot comes to lead to it, and takes its write over
abbrev pub one_number_published : MadeUp
one_number_published =
    record {
      before = state 9 (1 ∷ 2 ∷ []) (bare 7 [] ∷ bare 7 [] ∷ with_own 7 [] (5 ∷ []) [] ∷ []);
      asked = publishes 7 5;
      answered = granted 7;
      left = state 9 (2 ∷ []) (bare 7 [] ∷ blank ∷ record { number = 7; leads = []; own_used = 5 ∷ []; own_altered = []; past_used = 5 ∷ []; past_altered = 5 ∷ [] } ∷ []);
    }

-- a number held only by a slot that is not open
abbrev pub number_not_open : MadeUp
number_not_open = refusal (state 9 (1 ∷ []) (bare 7 [] ∷ bare 8 [] ∷ [])) (end 7) 3

-- a row that leads to itself gives 7 when asked, though the read adds nothing; but the cell is looked at first, and an end is granted
abbrev pub leads_to_itself : MadeUp
leads_to_itself = refusal (state 9 (0 ∷ 1 ∷ []) (bare 7 (0 ∷ []) ∷ bare 8 [] ∷ [])) (reads 7 5) 7

abbrev pub leads_to_itself_cell : MadeUp
leads_to_itself_cell = refusal (state 9 (0 ∷ 1 ∷ []) (bare 7 (0 ∷ []) ∷ bare 8 [] ∷ [])) (reads 7 256) 2

abbrev pub leads_to_itself_ends : MadeUp
leads_to_itself_ends =
    record {
      before = state 9 (0 ∷ 1 ∷ []) (bare 7 (0 ∷ []) ∷ bare 8 [] ∷ []);
      asked = end 7;
      answered = granted 7;
      left = state 9 (1 ∷ []) (blank ∷ bare 8 [] ∷ []);
    }

-- and a publish is refused as its write is: the slot stays open
abbrev pub leads_to_itself_publishes : MadeUp
leads_to_itself_publishes = refusal (state 9 (0 ∷ 1 ∷ []) (bare 7 (0 ∷ []) ∷ bare 8 [] ∷ [])) (publishes 7 5) 7

-- an old circle through the asking slot gives 7 though the read adds nothing
abbrev pub old_circle : MadeUp
old_circle = refusal (state 9 (0 ∷ 1 ∷ 2 ∷ []) (bare 6 (1 ∷ []) ∷ bare 7 (2 ∷ []) ∷ bare 8 (0 ∷ []) ∷ [])) (reads 7 5) 7

-- old circles that the asking slot leads to, and that do not pass it, do not
abbrev pub circle_beside : MadeUp
circle_beside =
    record {
      before = state 9 (0 ∷ 1 ∷ 2 ∷ []) (bare 6 (1 ∷ []) ∷ bare 7 (1 ∷ 2 ∷ []) ∷ bare 8 (1 ∷ []) ∷ []);
      asked = reads 6 5;
      answered = granted 6;
      left = state 9 (0 ∷ 1 ∷ 2 ∷ []) (with_own 6 (1 ∷ []) (5 ∷ []) [] ∷ bare 7 (1 ∷ 2 ∷ []) ∷ bare 8 (1 ∷ []) ∷ []);
    }

-- a held lead that no held step accounts for is taken as it is: with the new lead back it gives 7
abbrev pub held_and_new : MadeUp
held_and_new = refusal (state 9 (0 ∷ 1 ∷ []) (bare 6 (1 ∷ []) ∷ with_own 7 [] [] (5 ∷ []) ∷ [])) (reads 6 5) 7

-- and so is a past: a step that clashes with the asking slot's own past gives 7
abbrev pub past_of_asker : MadeUp
past_of_asker = refusal (state 9 (0 ∷ []) (with_past 6 [] (5 ∷ []) [] ∷ [])) (writes 6 5) 7

-- an open slot whose past clashes comes to lead to the asking slot; one whose steps do not clash does not
abbrev pub past_of_other : MadeUp
past_of_other =
    record {
      before = state 9 (0 ∷ 1 ∷ 2 ∷ []) (bare 6 [] ∷ with_past 7 [] [] (255 ∷ []) ∷ with_own 8 [] (255 ∷ []) [] ∷ []);
      asked = reads 6 255;
      answered = granted 6;
      left = state 9 (0 ∷ 1 ∷ 2 ∷ []) (with_own 6 [] (255 ∷ []) [] ∷ with_past 7 (0 ∷ []) [] (255 ∷ []) ∷ with_own 8 [] (255 ∷ []) [] ∷ []);
    }

-- adds of other slots, and those in a past, do not make them lead to a slot that adds; the add marks the altered set alone
abbrev pub adds_beside : MadeUp
adds_beside =
    record {
      before = state 9 (0 ∷ 1 ∷ 2 ∷ []) (with_past 6 [] [] (70 ∷ []) ∷ with_own 7 [] [] (70 ∷ []) ∷ with_past 8 [] [] (70 ∷ []) ∷ []);
      asked = adds 6 70;
      answered = granted 6;
      left =
          state 9 (0 ∷ 1 ∷ 2 ∷ [])
          (record { number = 6; leads = []; own_used = []; own_altered = 70 ∷ []; past_used = []; past_altered = 70 ∷ [] } ∷ with_own 7 [] [] (70 ∷ []) ∷ with_past 8 [] [] (70 ∷ []) ∷ []);
    }

-- reads do, and reads in a past: they used the cell. And writes, which used it too
abbrev pub add_after_read : MadeUp
add_after_read =
    record {
      before = state 9 (0 ∷ 1 ∷ 2 ∷ 3 ∷ []) (bare 6 [] ∷ with_own 7 [] (70 ∷ []) [] ∷ with_past 8 [] (70 ∷ []) [] ∷ with_own 5 [] (70 ∷ []) (70 ∷ []) ∷ []);
      asked = adds 6 70;
      answered = granted 6;
      left =
          state 9 (0 ∷ 1 ∷ 2 ∷ 3 ∷ [])
          (with_own 6 [] [] (70 ∷ []) ∷ with_own 7 (0 ∷ []) (70 ∷ []) [] ∷ with_past 8 (0 ∷ []) (70 ∷ []) [] ∷ with_own 5 (0 ∷ []) (70 ∷ []) (70 ∷ []) ∷ []);
    }

-- slots that are not open are ignored: neither the chain by way of slot 1 nor the sets and the lead of slots 1 and 2 count, and they stay
abbrev pub not_open_ignored : MadeUp
not_open_ignored =
    record {
      before = state 9 (0 ∷ []) (bare 6 (1 ∷ []) ∷ with_own 7 (0 ∷ []) [] (5 ∷ []) ∷ with_past 8 [] [] (5 ∷ []) ∷ []);
      asked = reads 6 5;
      answered = granted 6;
      left = state 9 (0 ∷ []) (with_own 6 (1 ∷ []) (5 ∷ []) [] ∷ with_own 7 (0 ∷ []) [] (5 ∷ []) ∷ with_past 8 [] [] (5 ∷ []) ∷ []);
    }

-- a next number of 2 ^ 32 or more gives 6
abbrev pub past_last_number : MadeUp
past_last_number = refusal (state 4_294_967_301 (0 ∷ []) (bare 6 [] ∷ [])) open_one 6

-- an open blanks its row but for the number, and strikes its mark in every row, open or not; nothing else changes. No row that is open has a past
abbrev pub open_blanks : MadeUp
open_blanks =
    record {
      before =
          state 9 (0 ∷ 2 ∷ [])
          (
          with_own 6 (0 ∷ 1 ∷ 2 ∷ 3 ∷ []) (5 ∷ []) []
          ∷ record { number = 6; leads = 0 ∷ 1 ∷ 3 ∷ []; own_used = 0 ∷ []; own_altered = 64 ∷ []; past_used = 128 ∷ []; past_altered = 255 ∷ [] }
          ∷ bare 8 (1 ∷ []) ∷ with_past 4 (1 ∷ 2 ∷ []) (5 ∷ []) (6 ∷ []) ∷ []
          );
      asked = open_one;
      answered = granted 9;
      left = ported (1 ∷ []) [] [] (state 10 (0 ∷ 1 ∷ 2 ∷ []) (with_own 6 (0 ∷ 2 ∷ 3 ∷ []) (5 ∷ []) [] ∷ bare 9 [] ∷ bare 8 [] ∷ with_past 4 (2 ∷ []) (5 ∷ []) (6 ∷ []) ∷ []));
    }

-- an open slot that has a past, used or altered, comes to lead to the new job and keeps its other leads, slots 0 and 2. Slot 3 has steps of its own alone and slot 4 is
-- not open: they do not, and a mark that they had is struck
abbrev pub open_led_to : MadeUp
open_led_to =
    record {
      before =
          state 9 (0 ∷ 2 ∷ 3 ∷ [])
          (
          with_past 5 [] (0 ∷ []) [] ∷ with_past 6 (0 ∷ []) (7 ∷ []) []
          ∷ with_past 7 (0 ∷ 1 ∷ 4 ∷ []) [] (255 ∷ []) ∷ with_own 8 (1 ∷ 2 ∷ []) (5 ∷ []) (6 ∷ []) ∷ with_past 4 (0 ∷ 1 ∷ []) (5 ∷ []) (6 ∷ []) ∷ []
          );
      asked = open_of 2;
      answered = granted 9;
      left =
          ported [] [] (1 ∷ [])
          (state 10 (0 ∷ 1 ∷ 2 ∷ 3 ∷ [])
          (
          with_past 5 (1 ∷ []) (0 ∷ []) [] ∷ bare 9 []
          ∷ with_past 7 (0 ∷ 1 ∷ 4 ∷ []) [] (255 ∷ []) ∷ with_own 8 (2 ∷ []) (5 ∷ []) (6 ∷ []) ∷ with_past 4 (0 ∷ []) (5 ∷ []) (6 ∷ []) ∷ []
          ));
    }

-- an end hands own, past and the leads to open slots on to the open slots that lead to it, 1 and 4, and to no other; its mark is struck in every
-- row, open or not. Slot 3 is not open: it takes nothing over, its mark is not handed on, and where it was held before it stays. The ports keep their slots, the one that is left too
abbrev pub end_hands_on : MadeUp
end_hands_on =
    record {
      before =
          ported (0 ∷ 1 ∷ []) (0 ∷ 3 ∷ []) (2 ∷ 4 ∷ [])
          (state 9 (0 ∷ 1 ∷ 2 ∷ 4 ∷ [])
          (
          record { number = 5; leads = 0 ∷ 1 ∷ 2 ∷ 3 ∷ []; own_used = 5 ∷ []; own_altered = 6 ∷ []; past_used = 70 ∷ []; past_altered = 255 ∷ [] }
          ∷ record { number = 6; leads = 0 ∷ []; own_used = 1 ∷ []; own_altered = []; past_used = 2 ∷ []; past_altered = [] }
          ∷ with_own 7 (1 ∷ []) [] (4 ∷ []) ∷ with_own 8 (0 ∷ 2 ∷ []) [] (3 ∷ []) ∷ bare 5 (0 ∷ 3 ∷ []) ∷ []
          ));
      asked = end 5;
      answered = granted 5;
      left =
          ported (0 ∷ 1 ∷ []) (0 ∷ 3 ∷ []) (2 ∷ 4 ∷ [])
          (state 9 (1 ∷ 2 ∷ 4 ∷ [])
          (
          blank
          ∷ record { number = 6; leads = 1 ∷ 2 ∷ []; own_used = 1 ∷ []; own_altered = []; past_used = 2 ∷ 5 ∷ 70 ∷ []; past_altered = 6 ∷ 255 ∷ [] }
          ∷ with_own 7 (1 ∷ []) [] (4 ∷ []) ∷ with_own 8 (2 ∷ []) [] (3 ∷ [])
          ∷ with_past 5 (1 ∷ 2 ∷ 3 ∷ []) (5 ∷ 70 ∷ []) (6 ∷ 255 ∷ []) ∷ []
          ));
    }

-- a publish hands on what its slot has after the write, to the slots that lead to it after the write: slot 1 has read the cell, and slot 3, not open, takes nothing over
abbrev pub publish_hands_on : MadeUp
publish_hands_on =
    record {
      before =
          state 9 (0 ∷ 1 ∷ 2 ∷ [])
          (
          record { number = 5; leads = 2 ∷ []; own_used = 5 ∷ []; own_altered = []; past_used = []; past_altered = 255 ∷ [] }
          ∷ with_own 6 [] (6 ∷ []) [] ∷ bare 7 [] ∷ with_own 8 [] (6 ∷ []) [] ∷ []
          );
      asked = publishes 5 6;
      answered = granted 5;
      left =
          state 9 (1 ∷ 2 ∷ [])
          (
          blank
          ∷ record { number = 6; leads = 2 ∷ []; own_used = 6 ∷ []; own_altered = []; past_used = 5 ∷ 6 ∷ []; past_altered = 6 ∷ 255 ∷ [] }
          ∷ bare 7 [] ∷ with_own 8 [] (6 ∷ []) [] ∷ []
          );
    }

-- an abandon hands nothing on, and strikes its mark in every row, open or not; neither a cell it has used nor a past of altered ones bars it
abbrev pub abandon_strikes : MadeUp
abandon_strikes =
    record {
      before =
          state 9 (0 ∷ 1 ∷ [])
          (
          record { number = 6; leads = 0 ∷ 1 ∷ []; own_used = 5 ∷ []; own_altered = []; past_used = []; past_altered = 6 ∷ [] }
          ∷ bare 7 (0 ∷ 1 ∷ []) ∷ bare 8 (0 ∷ 1 ∷ []) ∷ []
          );
      asked = abandon 6;
      answered = granted 6;
      left = state 9 (1 ∷ []) (blank ∷ bare 7 (1 ∷ []) ∷ bare 8 (1 ∷ []) ∷ []);
    }

-- any mark among the cells that it has altered does: an add alone leaves such a row
abbrev pub abandon_barred : MadeUp
abandon_barred = refusal (state 9 (0 ∷ []) (with_own 6 [] [] (255 ∷ []) ∷ [])) (abandon 6) 4

-- an open slot counts for every port that has it: slots 8 to 15 count for ports 0 and 1, and of 24 open slots each has 16. Port 2 has 15, and then one more
abbrev pub of_two_ports : State
of_two_ports = ported (upto 16) (tab 16 (λ i. i + 8)) (tab 15 (λ i. i + 2)) (state 9 (upto 24) [])

abbrev pub two_ports_first : MadeUp
two_ports_first = refusal of_two_ports (open_of 0) 9

abbrev pub two_ports_second : MadeUp
two_ports_second = refusal of_two_ports (open_of 1) 9

-- a slot that is not open counts for none: of the 32 slots of port 1, 15 are open, and the job is opened in slot 0. The slot is of port 1 then and of no other: ports 0 and 2 had
-- it, and keep slot 3
abbrev pub not_open_counts_not : MadeUp
not_open_counts_not =
    record {
      before = ported (0 ∷ 3 ∷ []) (upto 32) (0 ∷ 3 ∷ []) (state 9 (tab 15 (λ i. i + 1)) []);
      asked = open_of 1;
      answered = granted 9;
      left = ported (3 ∷ []) (upto 32) (3 ∷ []) (state 10 (upto 16) (bare 9 [] ∷ []));
    }

-- 8 before 5, and 5 before 9: every slot is open, and of port 0
abbrev pub all_of_one_port : State
all_of_one_port = ported (upto 32) [] [] (state 9 (upto 32) [])

abbrev pub no_port_no_slot : MadeUp
no_port_no_slot = refusal all_of_one_port (open_of 3) 8

abbrev pub no_slot_port_full : MadeUp
no_slot_port_full = refusal all_of_one_port (open_of 0) 5

abbrev pub made_up_table : List MadeUp
made_up_table =
    one_number_twice ∷ one_number_ended ∷ one_number_published ∷ number_not_open
    ∷ leads_to_itself ∷ leads_to_itself_cell ∷ leads_to_itself_ends ∷ leads_to_itself_publishes ∷ old_circle ∷ circle_beside
    ∷ held_and_new ∷ past_of_asker ∷ past_of_other ∷ adds_beside ∷ add_after_read ∷ not_open_ignored
    ∷ past_last_number ∷ open_blanks ∷ open_led_to ∷ end_hands_on ∷ publish_hands_on ∷ abandon_strikes ∷ abandon_barred
    ∷ two_ports_first ∷ two_ports_second ∷ not_open_counts_not ∷ no_port_no_slot ∷ no_slot_port_full ∷ []

-- every made-up state of the table gives the answer as written
pub made_up_answers : (m : MadeUp) → m ∈ made_up_table → answer_to (held_of m.before) m.asked ≡ m.answered
unfolding made_up_answer
made_up_answers m = rows made_up_answer (λ m. m.answered) (refl, (refl, (refl, (refl, (refl, (refl, (refl, (refl, (refl, (refl, (refl, (refl, (refl, (refl, (refl, (refl, (refl, (refl, (refl, (refl, (refl, (refl, (refl, (refl, (refl, (refl, (refl, (refl, tt))))))))))))))))))))))))))))

-- the rows whose next state is compared here: those by which a wrong move is told that no answer of the tables above tells
abbrev pub moved_table : List MadeUp
moved_table = one_number_ended ∷ adds_beside ∷ add_after_read ∷ not_open_ignored ∷ open_blanks ∷ open_led_to ∷ end_hands_on ∷ two_ports_first ∷ not_open_counts_not ∷ []

-- they leave the next state as written: the next number, the free slots, the slots of each port, every number, every lead, and the words of the first six rows. No row of the
-- table has words above row 4. All rows of the whole table are compared in crate `made` (`made_up_states`), with the whole 512 words, apart, so that an edit of the rule is refused sooner
pub made_up_rows : (m : MadeUp) → m ∈ moved_table → first_rows (after (held_of m.before) m.asked) ≡ first_rows (held_of m.left)
unfolding made_up_next
made_up_rows m = rows (λ m. first_rows (made_up_next m)) (λ m. first_rows (held_of m.left)) (refl, (refl, (refl, (refl, (refl, (refl, (refl, (refl, (refl, tt)))))))))
