-- The second profile: every read of an open job on a real cell is granted, and a job writes and ends by one publish, which is tested then.
--
-- A publish names a job and a cell set, four words of 64 marks. It would close a circle when the graph over the ended jobs and this one, with its writes, has
-- one: the other open jobs are left out, the abandoned ones are not kept. Precedence and circle are those of Events, the codes and their order those of
-- Replies; what is said here is which requests there are, and what a publish is tested for.
-- Assumes nothing.
use Rattle.std.specs.Prelude.{Bool, false, not, cond, List, [], ◌∷◌, ◌++◌, ℕ, eqb}
use Rattle.graph.specs.Lists.{only}
use Rattle.marks.specs.Marks.{upto}
use Rattle.marks.specs.Words.{marked}
use Rattle.history.specs.Events.{write, Event, opens, steps, ends, abandons, History, Step, has, ended, open_now, kept_steps, has_circle}
use Rattle.history.specs.Replies.{cells, Request, Reply, Facts, ◌gives◌, first_of, reply_of, granted_of, ports_after, Book, blank_book, full}
use Rattle.held.specs.Held.{word_marks}

-- ---- what is asked

-- a request record, or a publish: a job, and a cell set as its words
pub data Ask : Type 0 where
  asks : Request → Ask
  publishes : ℕ → List ℕ → Ask

-- the cells of a set, the lowest first
unfoldable pub named : List ℕ → List ℕ
named ws = only (marked word_marks ws) (upto cells)

-- a publish in the history: a write of each cell, in this order, and the end
abbrev pub written : ℕ → List ℕ → List Event
written j [] = []
written j (c ∷ cs) = steps write j c ∷ written j cs

unfoldable pub published : ℕ → List ℕ → List Event
published j cs = written j cs ++ ends j ∷ []

-- ---- what a publish is tested for

-- the kept steps of the jobs that have ended
unfoldable pub ended_steps : History → List Step
ended_steps h = only (λ s. has (ended h) s.job) (kept_steps h)

-- with the publish of these cells the graph over the ended jobs, its job among them, has a circle
unfoldable pub closes_circle : History → ℕ → List ℕ → Bool
closes_circle h j cs = has_circle (ended_steps (h ++ published j cs))

-- ---- the codes

-- of the kinds 1 to 7 there are 1, 2 and 5, an open, a read and an abandon; any other is turned into 0, which is none
abbrev pub late_kind : ℕ → ℕ
late_kind n = cond (eqb n 1) 1 (cond (eqb n 2) 2 (cond (eqb n 5) 5 0))

abbrev pub in_profile : Request → Request
in_profile r = record { kind = late_kind r.kind; byte1 = r.byte1; cell = r.cell; job = r.job }

-- the same facts, but no step is said to close a circle: a read is tested for 2 and 3 alone
abbrev pub untested : Facts → Facts
untested f = record { is_open = f.is_open; has_written = f.has_written; count = f.count; crowd = f.crowd; next = f.next; closes = λ k j c. false }

-- a publish is tested for 3, then 7
unfoldable pub publish_code : Bool → Bool → ℕ
publish_code is_open closes = first_of ((not is_open gives 3) ∷ (closes gives 7) ∷ [])

-- granted, it names its job; refused, job 0
abbrev pub publish_answer : ℕ → ℕ → Reply
publish_answer code j = record { code = code; job = cond (eqb code 0) j 0 }

-- ---- the full history's replies

unfoldable pub full_code : History → ℕ → List ℕ → ℕ
full_code h j cs = publish_code (has (open_now h) j) (closes_circle h j cs)

unfoldable pub late_reply : Book → History → Ask → Reply
late_reply b h (asks r) = reply_of (untested (full b h)) (in_profile r)
late_reply b h (publishes j ws) = publish_answer (full_code h j (named ws)) j

-- a refusal leaves the history as it was
unfoldable pub late_granted : Book → History → Ask → List Event
late_granted b h (asks r) = granted_of (untested (full b h)) (in_profile r)
late_granted b h (publishes j ws) = cond (eqb (full_code h j (named ws)) 0) (published j (named ws)) []

unfoldable pub late_after : Book → History → Ask → History
late_after b h a = h ++ late_granted b h a

-- a publish opens no job
unfoldable pub late_book : Book → History → Ask → Book
late_book b h (asks r) = record { first = b.first; port = ports_after (untested (full b h)) (in_profile r) b.port }
late_book b h (publishes j ws) = b

-- from a first number and a list of what is asked: the replies, one by one, the history that they leave, and the book
abbrev pub late_replies_from : Book → History → List Ask → List Reply
late_replies_from b h [] = []
late_replies_from b h (a ∷ l) = late_reply b h a ∷ late_replies_from (late_book b h a) (late_after b h a) l

abbrev pub late_history_from : Book → History → List Ask → History
late_history_from b h [] = h
late_history_from b h (a ∷ l) = late_history_from (late_book b h a) (late_after b h a) l

abbrev pub late_book_from : Book → History → List Ask → Book
late_book_from b h [] = b
late_book_from b h (a ∷ l) = late_book_from (late_book b h a) (late_after b h a) l

abbrev pub late_replies : ℕ → List Ask → List Reply
late_replies first l = late_replies_from (blank_book first) [] l

abbrev pub late_history : ℕ → List Ask → History
late_history first l = late_history_from (blank_book first) [] l

abbrev pub late_book_of : ℕ → List Ask → Book
late_book_of first l = late_book_from (blank_book first) [] l

-- ---- the log with the jobs still open taken out

abbrev pub job_by : Event → ℕ
job_by (opens j) = j
job_by (steps k j c) = j
job_by (ends j) = j
job_by (abandons j) = j

unfoldable pub closed : History → History
closed h = only (λ e. not (has (open_now h) (job_by e))) h
