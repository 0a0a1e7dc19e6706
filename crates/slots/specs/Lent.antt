-- What the contracts of slots and arbiter say: the state that lent lists make, the reply that an answer is, and what a step leaves, by the rule of the crate held.
-- Assumes nothing.
use Rattle.std.specs.Prelude.{◌≡◌, Bool, cond, List, ℕ, ◌+◌, ◌*◌, ◌^◌, eqb, length, get_or, Result, Ok, Err}
use Rattle.std.specs.Int.Bits.{bit_or}
use Rattle.graph.specs.Lists.{only}
use Rattle.marks.specs.Marks.{bit, without, tab, upto}
use Rattle.history.specs.Events.{Kind}
use Rattle.history.specs.Replies.{Request, Reply, Want, a_step, first_of, tests, job_of}
use Rattle.held.specs.Held.{Held, facts, moved, answer_to, after}
use Rattle.late.specs.Late.{Ask, untested}
use Rattle.late.specs.LateHeld.{late_answer, late_next}
use Rattle.rows.specs.Rows.{is_open}
use Rattle.slots.specs.declared.JobNumber.{JobNumber}
use Rattle.slots.specs.declared.Refusal.{Refusal}
use Rattle.slots.specs.declared.Refusal.TheVariants.{Malformed, NoCell, NotOpen, HasWritten, Full, Spent, Circle, NoPort, PortFull}

-- the state whose arrays are lent
abbrev pub lent : ℕ → ℕ → List ℕ → List ℕ → List ℕ → List ℕ → Held
lent next free numbers leads sets ports = record { next = next; free = free; numbers = numbers; leads = leads; sets = sets; ports = ports }

-- how many open slots port p has, and the ports once slot s is under p alone
abbrev pub crowd_of : ℕ → List ℕ → ℕ → ℕ
crowd_of free ports p = length (only (bit (get_or ports p 0)) (only (is_open free) (upto 32)))

abbrev pub under : List ℕ → ℕ → ℕ → List ℕ
under ports p s = tab 3 (λ q. let n = without (get_or ports q 0) s in cond (eqb q p) (bit_or n (2 ^ s)) n)

-- the code of each refusal: document 01's, and of document 02 those of ports
abbrev pub refusal_code : Refusal → ℕ
refusal_code Malformed = 1
refusal_code NoCell = 2
refusal_code NotOpen = 3
refusal_code HasWritten = 4
refusal_code Full = 5
refusal_code Spent = 6
refusal_code Circle = 7
refusal_code NoPort = 8
refusal_code PortFull = 9

-- the code and the job number of each answer, by the codes of its refusals
abbrev pub reply_by : {E : Type 0} → (E → ℕ) → Result JobNumber E → Reply
reply_by code (Ok j) = record { code = 0; job = j.0 }
reply_by code (Err e) = record { code = code e; job = 0 }

abbrev pub numbered : Result JobNumber Refusal → Reply
numbered = reply_by refusal_code

-- a reply in one number: its code times 2^32 plus its job, which is below that
unfoldable pub packed : Reply → ℕ
packed a = a.code * 4294967296 + a.job

-- what a well-formed request for w leaves that gets code n: the reply, and the state g, moved by a grant
pub record Gets (n : ℕ) (h : Held) (w : Want) (j c : ℕ) (r : Result JobNumber Refusal) (g : Held) : Type 0 where
  pub answered : numbered r ≡ record { code = n; job = cond (eqb n 0) (job_of h.next w j) 0 }
  pub left : g ≡ cond (eqb n 0) (moved h w j c) h

-- by the code that the tests give
unfoldable pub code_for : Held → Want → ℕ → ℕ → ℕ
code_for h w j c = first_of (tests (facts h) w j c)

abbrev pub Does : Held → Want → ℕ → ℕ → Result JobNumber Refusal → Held → Type 0
Does h w j c r g = Gets (code_for h w j c) h w j c r g

-- a step, that is tested for a circle where it is asked: in the second profile it is not
unfoldable pub code_asked : Held → Bool → Kind → ℕ → ℕ → ℕ
code_asked h asked k j c = first_of (tests (cond asked (facts h) (untested (facts h))) (a_step k) j c)

abbrev pub Asks : Held → Bool → Kind → ℕ → ℕ → Result JobNumber Refusal → Held → Type 0
Asks h asked k j c r g = Gets (code_asked h asked k j c) h (a_step k) j c r g

-- what a request leaves
pub record Steps (h : Held) (q : Request) (r : Result JobNumber Refusal) (g : Held) : Type 0 where
  pub answered : numbered r ≡ answer_to h q
  pub left : g ≡ after h q

-- what is asked in the second profile leaves, by the rule of the crate late
pub record Lates (h : Held) (a : Ask) (r : Result JobNumber Refusal) (g : Held) : Type 0 where
  pub answered : numbered r ≡ late_answer h a
  pub left : g ≡ late_next h a
