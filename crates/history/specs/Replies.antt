-- The reply of the full history to a request: the codes 0 to 9 with the order in which they are tested, for any first number.
--
-- The codes ask six things of whoever answers (`Facts`): is the job open, has it a granted write or add, how many jobs are open, how many of
-- them are of a port, which number is next, would the step close a circle. The order of the tests stands here once, over any facts; the full history, the
-- bounded memory and the code differ only in where their facts come from.
-- Assumes nothing.
use Rattle.std.specs.Prelude.{Bool, true, not, cond, List, [], ◌∷◌, ◌++◌, ℕ, ◌+◌, leb, eqb, length}
use Rattle.graph.specs.Lists.{only}
use Rattle.history.specs.Events.{Kind, read, write, add, Event, opens, steps, ends, abandons, History, has, opened, open_now, wrote, kept_steps, has_circle}

-- ---- requests and replies

-- four raw fields
pub record Request : Type 0 where
  pub kind : ℕ
  pub byte1 : ℕ
  pub cell : ℕ
  pub job : ℕ

pub record Reply : Type 0 where
  pub code : ℕ
  pub job : ℕ

-- 256 cells; 32 jobs open at the most; 2^32 job numbers, from 0 on
abbrev pub cells : ℕ
cells = 256

abbrev pub most_open : ℕ
most_open = 32

abbrev pub numbers : ℕ
numbers = 4294967296

-- three ports, 0 to 2; 16 jobs of a port open at the most
abbrev pub port_count : ℕ
port_count = 3

abbrev pub most_of_port : ℕ
most_of_port = 16

-- ---- what a request asks for

pub data Want : Type 0 where
  an_open : Want
  a_step : Kind → Want
  an_end : Want
  an_abandon : Want
  a_publish : Want
  nothing : Want

-- the kinds 1 to 7; the sixth, a publish, is a write of one cell and the end of its job in one request; the seventh is an add
unfoldable pub want : ℕ → Want
want n = cond (eqb n 1) an_open (cond (eqb n 2) (a_step read) (cond (eqb n 3) (a_step write) (cond (eqb n 4) an_end (cond (eqb n 5) an_abandon (cond (eqb n 6) a_publish (cond (eqb n 7) (a_step add) nothing))))))

-- ---- the codes

-- what the codes ask
pub record Facts : Type 0 where
  pub is_open : ℕ → Bool
  pub has_written : ℕ → Bool
  pub count : ℕ
  pub crowd : ℕ → ℕ
  pub next : ℕ
  pub closes : Kind → ℕ → ℕ → Bool

-- a test and the code that is given where it holds
pub record Test : Type 0 where
  pub holds : Bool
  pub code : ℕ

infix 3 ◌gives◌
abbrev pub ◌gives◌ : Bool → ℕ → Test
b gives n = record { holds = b; code = n }

-- the code of the earliest test that holds, or 0 if all fail
abbrev pub first_of : List Test → ℕ
first_of [] = 0
first_of (t ∷ ts) = cond t.holds t.code (first_of ts)

-- a step is tested for 2, then 3, then 7
abbrev pub step_tests : Facts → Kind → ℕ → ℕ → List Test
step_tests f k j c = (leb cells c gives 2) ∷ (not (f.is_open j) gives 3) ∷ (f.closes k j c gives 7) ∷ []

-- an end for 3; an abandon for 3, then 4; an open, whose job field names the port, for 6, then 8, then 5, then 9; a publish as its write is
unfoldable pub tests : Facts → Want → ℕ → ℕ → List Test
tests f an_open j c = (leb numbers f.next gives 6) ∷ (leb port_count j gives 8) ∷ (leb most_open f.count gives 5) ∷ (leb most_of_port (f.crowd j) gives 9) ∷ []
tests f (a_step k) j c = step_tests f k j c
tests f an_end j c = (not (f.is_open j) gives 3) ∷ []
tests f an_abandon j c = (not (f.is_open j) gives 3) ∷ (f.has_written j gives 4) ∷ []
tests f a_publish j c = step_tests f write j c
tests f nothing j c = (true gives 1) ∷ []

-- 1 before all: a byte 1 that is not zero, or a kind that is not 1 to 7
unfoldable pub code_of : Facts → Request → ℕ
code_of f r = first_of ((not (eqb r.byte1 0) gives 1) ∷ tests f (want r.kind) r.job r.cell)

-- ---- the answer

-- the event that a granted request is; of a publish the two, its write and its end
unfoldable pub event_of : ℕ → Want → ℕ → ℕ → List Event
event_of n an_open j c = opens n ∷ []
event_of n (a_step k) j c = steps k j c ∷ []
event_of n an_end j c = ends j ∷ []
event_of n an_abandon j c = abandons j ∷ []
event_of n a_publish j c = steps write j c ∷ ends j ∷ []
event_of n nothing j c = []

-- the job that a grant names: for an open the number just issued, otherwise the job that asked
unfoldable pub job_of : ℕ → Want → ℕ → ℕ
job_of n an_open j = n
job_of n (a_step k) j = j
job_of n an_end j = j
job_of n an_abandon j = j
job_of n a_publish j = j
job_of n nothing j = j

-- a refusal names job 0, and the history stays
unfoldable pub reply_of : Facts → Request → Reply
reply_of f r = record { code = code_of f r; job = cond (eqb (code_of f r) 0) (job_of f.next (want r.kind) r.job) 0 }

unfoldable pub granted_of : Facts → Request → List Event
granted_of f r = cond (eqb (code_of f r) 0) (event_of f.next (want r.kind) r.job r.cell) []

-- the port of each job, once the request is answered: a granted open puts its port down under the number just issued
abbrev pub entered : Want → ℕ → ℕ → (ℕ → ℕ) → ℕ → ℕ
entered an_open n p port = λ j. cond (eqb j n) p (port j)
entered (a_step k) n p port = port
entered an_end n p port = port
entered an_abandon n p port = port
entered a_publish n p port = port
entered nothing n p port = port

unfoldable pub ports_after : Facts → Request → (ℕ → ℕ) → ℕ → ℕ
ports_after f r port = cond (eqb (code_of f r) 0) (entered (want r.kind) f.next r.job port) port

-- of a list of jobs, those of port p
abbrev pub of_port : (ℕ → ℕ) → ℕ → List ℕ → List ℕ
of_port port p l = only (λ j. eqb (port j) p) l

-- ---- the full history's

-- what is known beside the history, which holds no ports: the first number, and the port of each job as its open gave it (0 for a number not issued)
pub record Book : Type 0 where
  pub first : ℕ
  pub port : ℕ → ℕ

abbrev pub blank_book : ℕ → Book
blank_book first = record { first = first; port = λ j. 0 }

-- numbers are issued one after the other from the first; a step would close a circle when with it the kept history has one
unfoldable pub full : Book → History → Facts
full b h =
    record {
      is_open = has (open_now h);
      has_written = wrote h;
      count = length (open_now h);
      crowd = λ p. length (of_port b.port p (open_now h));
      next = b.first + length (opened h);
      closes = λ k j c. has_circle (kept_steps (h ++ steps k j c ∷ []));
    }

unfoldable pub reply : Book → History → Request → Reply
reply b h r = reply_of (full b h) r

unfoldable pub after : Book → History → Request → History
after b h r = h ++ granted_of (full b h) r

abbrev pub book_after : Book → History → Request → Book
book_after b h r = record { first = b.first; port = ports_after (full b h) r b.port }

-- from a first number and a list of requests: the replies, one by one, the history that they leave, and the book
abbrev pub replies_from : Book → History → List Request → List Reply
replies_from b h [] = []
replies_from b h (r ∷ rs) = reply b h r ∷ replies_from (book_after b h r) (after b h r) rs

abbrev pub history_from : Book → History → List Request → History
history_from b h [] = h
history_from b h (r ∷ rs) = history_from (book_after b h r) (after b h r) rs

abbrev pub book_from : Book → History → List Request → Book
book_from b h [] = b
book_from b h (r ∷ rs) = book_from (book_after b h r) (after b h r) rs

abbrev pub replies : ℕ → List Request → List Reply
replies first rs = replies_from (blank_book first) [] rs

abbrev pub history_of : ℕ → List Request → History
history_of first rs = history_from (blank_book first) [] rs

abbrev pub book_of : ℕ → List Request → Book
book_of first rs = book_from (blank_book first) [] rs
