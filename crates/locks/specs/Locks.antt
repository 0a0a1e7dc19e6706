-- Plain locks: the requests of the first profile run by a second rule. A read shares its cell with other reads until its job ends or is abandoned; a write
-- holds its cell alone, and so does an add. A step that cannot share with what another open job holds is put off with code 10, and the run goes on with the
-- next request. A publish is put off when its write is. All else is the first profile's: the requests, the events, the codes and their order, with 10 in the
-- place of 7.
-- Assumes nothing.
use Rattle.std.specs.Prelude.{◌≡◌, Bool, true, false, not, ◌&&◌, cond, List, [], ◌∷◌, ◌++◌, ℕ, T, eqb, length}
use Rattle.graph.specs.Decide.{some_of}
use Rattle.graph.specs.Lists.{◌∈◌, only}
use Rattle.history.specs.Events.{Kind, read, write, add, Deed, does, opening, ending, Event, History, has, open_now, Step, all_steps}
use Rattle.history.specs.Replies.{Request, Reply, Want, an_open, a_step, an_end, an_abandon, a_publish, nothing, Facts, reply_of, granted_of, ports_after, Book, blank_book, full}

-- ---- what is held

-- may two jobs hold a cell at once, by steps of these kinds? Only two reads may
abbrev pub shares : Kind → Kind → Bool
shares read read = true
shares read write = false
shares read add = false
shares write read = false
shares write write = false
shares write add = false
shares add read = false
shares add write = false
shares add add = false

-- what was done bars a step of kind k: an opening and an end hold no cell
abbrev pub bars : Deed → Kind → Bool
bars (does l) k = not (shares l k)
bars opening k = false
bars ending k = false

-- a step of kind k of job j on cell c is held up: another job that is open now has done a step on the cell that cannot share with it
pub record HeldUp (h : History) (k : Kind) (j c : ℕ) : Type 0 where
  pub step : Step
  pub granted : step ∈ all_steps h
  pub still_open : step.job ∈ open_now h
  pub another : step.job ≡ j → ⊥
  pub same_cell : step.cell ≡ c
  pub unshared : T (bars step.deed k)

unfoldable pub held_up : History → Kind → ℕ → ℕ → Bool
held_up h k j c = some_of (λ s. has (open_now h) s.job && (not (eqb s.job j) && (eqb s.cell c && bars s.deed k))) (all_steps h)

-- what is asked for is a step, or a publish, whose step is a write, and it passes the test
abbrev pub of_step : (Kind → Bool) → Want → Bool
of_step f an_open = false
of_step f (a_step k) = f k
of_step f an_end = false
of_step f an_abandon = false
of_step f a_publish = f write
of_step f nothing = false

-- ---- the codes

-- the same facts with another test of steps
abbrev pub tested_by : (Kind → ℕ → ℕ → Bool) → Facts → Facts
tested_by t f = record { is_open = f.is_open; has_written = f.has_written; count = f.count; crowd = f.crowd; next = f.next; closes = t }

unfoldable pub locked : Book → History → Facts
locked b h = tested_by (held_up h) (full b h)

-- 10 takes the place of 7
abbrev pub ten_for_seven : ℕ → ℕ
ten_for_seven n = cond (eqb n 7) 10 n

-- ---- the full history's replies

unfoldable pub lock_reply : Book → History → Request → Reply
lock_reply b h r = let a = reply_of (locked b h) r in record { code = ten_for_seven a.code; job = a.job }

unfoldable pub lock_granted : Book → History → Request → List Event
lock_granted b h r = granted_of (locked b h) r

unfoldable pub lock_after : Book → History → Request → History
lock_after b h r = h ++ lock_granted b h r

abbrev pub lock_book_after : Book → History → Request → Book
lock_book_after b h r = record { first = b.first; port = ports_after (locked b h) r b.port }

-- from a first number and a list of requests: the replies, one by one, the history that they leave, and the book
abbrev pub lock_replies_from : Book → History → List Request → List Reply
lock_replies_from b h [] = []
lock_replies_from b h (r ∷ rs) = lock_reply b h r ∷ lock_replies_from (lock_book_after b h r) (lock_after b h r) rs

abbrev pub lock_history_from : Book → History → List Request → History
lock_history_from b h [] = h
lock_history_from b h (r ∷ rs) = lock_history_from (lock_book_after b h r) (lock_after b h r) rs

abbrev pub lock_book_from : Book → History → List Request → Book
lock_book_from b h [] = b
lock_book_from b h (r ∷ rs) = lock_book_from (lock_book_after b h r) (lock_after b h r) rs

abbrev pub lock_replies : ℕ → List Request → List Reply
lock_replies first rs = lock_replies_from (blank_book first) [] rs

abbrev pub lock_history : ℕ → List Request → History
lock_history first rs = lock_history_from (blank_book first) [] rs

abbrev pub lock_book : ℕ → List Request → Book
lock_book first rs = lock_book_from (blank_book first) [] rs

-- how many were put off
abbrev pub put_off : List Reply → ℕ
put_off l = length (only (λ a. eqb a.code 10) l)
