-- The promises: what the definitions of this crate and of graph give, one page. Each is proved in the file that its proof cites.
--
-- To be believed for them: Events (events, conflict, precedence, circle), Replies (the full history's replies), Memory (the bounded memory),
-- Tables (what its tables mean), Turns, Orders (layout, accepted), Run (what jobs read and leave), and of graph Walk, Lists and Listing.
-- In order: precedence and circles; replies; the bounded memory; orders; real time; what the auditor asked; the lowest-first order; granted histories; ports;
-- the table of cases.
-- Assumes nothing.
use Rattle.std.specs.Prelude.{◌≡◌, ◌↔◌, Bool, not, cond, List, [], ◌∷◌, ◌++◌, ℕ, ◌≤◌, ◌<◌, T, eqb, length}
use Rattle.std.proofs.Math.Path.{refl, sym}
use Rattle.std.proofs.Common.{ap, ◌∙◌, subst, ⊎_elim, append-nil, append_assoc, arith}
use Rattle.std.proofs.Math.Option.{Option, none, some}
use Rattle.graph.specs.Decide.{Decides, answer, test_true, test_false, eq_test, le_test}
use Rattle.graph.specs.Lists.{◌∈◌, Before}
use Rattle.graph.specs.Listing.{Forward, LowestFirst}
use Rattle.graph.proofs.ListingLaws.{lowest_only, forced_only}
use Rattle.history.specs.Events.{Kind, write, add, kinds_clash, Deed, does, opening, ending, clash, opens, steps, ends, History, has, open_now, kept, Step, step_at, all_steps, kept_steps, Precedes, Circular, has_circle}
use Rattle.history.specs.Replies.{cells, most_open, port_count, most_of_port, Request, Reply, an_open, a_step, an_end, a_publish, want, tests, code_of, event_of, job_of, reply_of, granted_of, of_port, Book, full, reply, after, book_after, replies, history_of, book_of}
use Rattle.history_laws.specs.ReplyLaws.{reply_for, OpenReply, open_reply, as_kind, publish_reply, after_granted, Alike, alike_reply, alike_granted, alike_ports}
use Rattle.history.specs.Turns.{Turns}
use Rattle.history.specs.Memory.{fresh, right, move_all, held_replies}
use Rattle.history.specs.Tables.{Tells}
use Rattle.history.specs.Orders.{layout, Keeps, Accepted, order_of}
use Rattle.history.specs.Run.{Program, Raise, AnyOrder, run, start, last_write, SameSources}
use Rattle.history.specs.Arbiters.{Arbiter, Exact, answers, of_memory, memory_answers}
use Rattle.history.specs.Cases.{Case, requests_of, replies_of, is_only, computed, expected, Outcome, p_table, p_cases}
use Rattle.history_laws.specs.EventLaws.{precedes_test}
use Rattle.history_laws.specs.CircleLaws.{has_circle_test}
use Rattle.history_laws.specs.TurnLaws.{has_test, kept_step, open_not_abandoned}
use Rattle.history_laws.specs.MemoryLaws.{calm_last}
use Rattle.history_laws.specs.MemoryTells.{tables_tell}
use Rattle.history_laws.specs.Granted.{passed, undenied, proper_step, still_open, is_open_now, granted_sound}
use Rattle.history_laws.specs.PortLaws.{granted_ported, port_given}
use Rattle.history_laws.specs.Exact.{exact}
use Rattle.history_laws.specs.LayoutLaws.{Onward, keeps_forward, forward_keeps}
use Rattle.history_laws.specs.OrderLaws.{accepted_forward, forward_accepted, same_sources, same_read, same_write, same_cells, same_sights, accepted_no_circle, order_lowest, lowest_order, order_accepted, no_order_circle, order_exists, order_least}
use Rattle.history_laws.specs.TimeLaws.{GoesKept, precedes_goes, goes_precedes, time_kept}

-- ---- precedence and circles

-- a job precedes another exactly when neither is abandoned and, in the history as it was granted, a read, write or add of the one stands before a conflicting one of
-- the other (`by_steps` of Goes), or the one's end stands before the other's opening (`by_time`)
pub precedes_exactly : (h : History) (i j : ℕ) → Precedes (kept_steps h) i j ↔ GoesKept h i j
precedes_exactly h i j = (precedes_goes h, goes_precedes h)

-- the test holds exactly when there is a circle: a test that holds yields the circle, a circle makes it hold
pub circle_decided : (s : List Step) → Decides (has_circle s) (Circular s)
circle_decided = has_circle_test

-- ---- replies

-- a well-formed step of an open job on a real cell is granted exactly when with it the kept history has no circle, and else gets 7
pub record StepReply (b : Book) (h : History) (k : Kind) (r : Request) : Type 0 where
  pub granted : (Circular (kept_steps (h ++ steps k r.job r.cell ∷ [])) → ⊥) ↔ ((reply b h r).code ≡ 0)
  pub refused : Circular (kept_steps (h ++ steps k r.job r.cell ∷ [])) ↔ ((reply b h r).code ≡ 7)

step_code : (b : Book) (h : History) (k : Kind) (r : Request) → want r.kind ≡ a_step k → r.byte1 ≡ 0 → r.job ∈ open_now h → r.cell < cells
    → (reply b h r).code ≡ cond (has_circle (kept_steps (h ++ steps k r.job r.cell ∷ []))) 7 0
unfolding tests full
step_code b h k r asks zero_byte is_open real =
    let c = has_circle (kept_steps (h ++ steps k r.job r.cell ∷ [])) in
    ap (λ (a : Reply). a.code) (reply_for b h r (a_step k) asks zero_byte)
    ∙ ap (λ (q : Bool). cond q 2 (cond (not (has (open_now h) r.job)) 3 (cond c 7 0))) (test_false (le_test cells r.cell) (λ q. omega arith))
    ∙ ap (λ (q : Bool). cond (not q) 3 (cond c 7 0)) (test_true (has_test (open_now h) r.job) is_open)

pub step_reply : (b : Book) (h : History) (k : Kind) (r : Request) → want r.kind ≡ a_step k → r.byte1 ≡ 0 → r.job ∈ open_now h → r.cell < cells → StepReply b h k r
step_reply b h k r asks zero_byte is_open real =
    let d = has_circle_test (kept_steps (h ++ steps k r.job r.cell ∷ [])) in
    let code = step_code b h k r asks zero_byte is_open real in
    record {
      granted = (λ free. code ∙ ap (λ (q : Bool). cond q 7 0) (test_false d free), λ e z. let q : ◌≡◌ {A = ℕ} 7 0 = sym (code ∙ ap (λ (q : Bool). cond q 7 0) (test_true d z)) ∙ e in omega arith);
      refused = (
        λ z. code ∙ ap (λ (q : Bool). cond q 7 0) (test_true d z),
        λ e. ⊎_elim (λ z. z) (λ free. absurd (let q : ◌≡◌ {A = ℕ} 0 7 = sym (code ∙ ap (λ (q : Bool). cond q 7 0) (test_false d free)) ∙ e in omega arith)) (answer d),
      );
    }

-- an open: 6 once the last number is issued, else 8 for a port that is none of the three, else 5 while 32 jobs are open, else 9 while 16 of its port are, else granted with
-- the next number
pub open_answered : (b : Book) (h : History) (r : Request) → want r.kind ≡ an_open → r.byte1 ≡ 0 → OpenReply b h r
open_answered = open_reply

-- an end of an open job is never refused: code 0 and the job, whatever its cell field
pub end_granted : (b : Book) (h : History) (r : Request) → want r.kind ≡ an_end → r.byte1 ≡ 0 → r.job ∈ open_now h → reply b h r ≡ record { code = 0; job = r.job }
unfolding tests full job_of
end_granted b h r asks zero_byte is_open =
    let said : Bool → Reply = λ q. record { code = cond (not q) 3 0; job = cond (eqb (cond (not q) 3 0) 0) r.job 0 } in
    let by_test : reply b h r ≡ said (has (open_now h) r.job) = reply_for b h r an_end asks zero_byte in
    by_test ∙ ap said (test_true (has_test (open_now h) r.job) is_open)

-- a refusal changes nothing: the history stays
pub refusal_stays : (b : Book) (h : History) (r : Request) → ((reply b h r).code ≡ 0 → ⊥) → after b h r ≡ h
unfolding reply reply_of after granted_of
refusal_stays b h r refused =
    ap (λ (q : Bool). h ++ cond q (event_of (full b h).next (want r.kind) r.job r.cell) []) (test_false (eq_test (code_of (full b h) r) 0) refused)
    ∙ append-nil h

-- a publish (kind 6) gets the reply that the write (kind 3) of that cell by that job gets, code and job, whatever its byte 1: it is granted exactly when the write is
pub publish_granted : (b : Book) (h : History) (r : Request) → reply b h (as_kind 6 r) ≡ reply b h (as_kind 3 r)
unfolding reply
publish_granted b h r = publish_reply (full b h) r

-- granted, it leaves the history that the write and then the end (kind 4) leave, and the end is never refused there; refused, it leaves the history as it was, as the
-- write does
pub record Published (b : Book) (h : History) (r : Request) : Type 0 where
  pub end_next : (reply b h (as_kind 6 r)).code ≡ 0 → reply b (after b h (as_kind 3 r)) (as_kind 4 r) ≡ record { code = 0; job = r.job }
  pub both : (reply b h (as_kind 6 r)).code ≡ 0 → after b h (as_kind 6 r) ≡ after b (after b h (as_kind 3 r)) (as_kind 4 r)
  pub neither : ((reply b h (as_kind 6 r)).code ≡ 0 → ⊥) → (after b h (as_kind 6 r) ≡ h) × (after b h (as_kind 3 r) ≡ h)

module _ (b : Book) (h : History) (r : Request) (z : (reply b h (as_kind 6 r)).code ≡ 0) where
  abbrev written : History
  written = h ++ steps write r.job r.cell ∷ []

  write_left : after b h (as_kind 3 r) ≡ written
  unfolding event_of
  write_left = after_granted b h (as_kind 3 r) (a_step write) (unfold want in refl) (ap (λ (a : Reply). a.code) (sym (publish_granted b h r)) ∙ z)

  ends_next : reply b written (as_kind 4 r) ≡ record { code = 0; job = r.job }
  unfolding reply reply_of code_of tests want
  ends_next =
      let p = passed (not (eqb r.byte1 0)) 0 _ z in
      let open_job = still_open b h write r.job r.cell (proper_step (full b h) write r.job r.cell p.1).0 in
      end_granted b written (as_kind 4 r) refl ((eq_test r.byte1 0).holds (undenied (eqb r.byte1 0) p.0)) (is_open_now b written r.job open_job)

  publish_left : after b h (as_kind 6 r) ≡ after b written (as_kind 4 r)
  unfolding event_of
  publish_left =
      after_granted b h (as_kind 6 r) a_publish (unfold want in refl) z
      ∙ sym (append_assoc h (steps write r.job r.cell ∷ []) (ends r.job ∷ []))
      ∙ sym (after_granted b written (as_kind 4 r) an_end (unfold want in refl) (ap (λ (a : Reply). a.code) ends_next))

pub publish_is_both : (b : Book) (h : History) (r : Request) → Published b h r
publish_is_both b h r =
    record {
      end_next = λ z. ap (λ (x : History). reply b x (as_kind 4 r)) (write_left b h r z) ∙ ends_next b h r z;
      both = λ z. publish_left b h r z ∙ ap (λ (x : History). after b x (as_kind 4 r)) (sym (write_left b h r z));
      neither = λ n. (refusal_stays b h (as_kind 6 r) n, refusal_stays b h (as_kind 3 r) (λ z. n (ap (λ (a : Reply). a.code) (publish_granted b h r) ∙ z)));
    }

-- the cell of an open, an end or an abandon is not looked at: requests that differ in nothing else (`Alike` of ReplyLaws) get the same reply and leave the same history
-- and the same book
pub fields_ignored : (b : Book) (h : History) (r s : Request) → Alike r s → (reply b h r ≡ reply b h s) × (after b h r ≡ after b h s) × (book_after b h r ≡ book_after b h s)
unfolding reply after
fields_ignored b h r s a =
    let f = full b h in
    (alike_reply f a, ap (λ (l : History). h ++ l) (alike_granted f a), ap (λ (p : ℕ → ℕ). record { first = b.first; port = p }) (alike_ports f a b.port))

-- ---- the bounded memory

-- after every list of events in turn, circle or none, its tables are what the history says
pub memory_tells : (first : ℕ) (h : History) → Turns h → Tells h (move_all right (fresh first) h)
memory_tells = tables_tell

-- from the fresh memory through any list of requests: the replies of the full history, one by one
pub memory_exact : (first : ℕ) (rs : List Request) → held_replies right (fresh first) rs ≡ replies first rs
memory_exact = exact

-- so the bounded memory is an arbiter that meets demand 2 (`Exact` of Arbiters), and any two that meet it give the same answers to any list of requests. WrongBuilds of
-- crate `refuted` has five sorts of arbiter that do not meet it
pub memory_meets : Exact of_memory
memory_meets first rs = memory_answers (fresh first) rs ∙ exact first rs

pub exact_alike : (a b : Arbiter) → Exact a → Exact b → (first : ℕ) (rs : List Request) → answers a (a.fresh first) rs ≡ answers b (b.fresh first) rs
exact_alike a b p q first rs = p first rs ∙ sym (q first rs)

-- ---- orders

-- a layout keeps every conflicting pair exactly when every precedence goes forward in the order
pub keeps_exactly : (s : List Step) (o : List ℕ) → Keeps s (layout s o) ↔ Onward s o
keeps_exactly s o = (keeps_forward, forward_keeps)

-- an order of a history in turn is accepted exactly when it names each kept job once and every precedence goes forward in it
pub accepted_exactly : (h : History) → Turns h → (o : List ℕ) → Accepted h o ↔ Forward (Precedes (kept_steps h)) (kept h) o
accepted_exactly h t o = (accepted_forward h t, forward_accepted h t)

-- then wherever a kept read or write r stands, in the log after p and in the layout after q, the last write of its cell is the same one, or none in both, and the
-- adds since are the same steps, in any order
pub same_reads : (h : History) → Turns h → (o : List ℕ) → Accepted h o → (r : Step) (k : Kind) → r.deed ≡ does k → (k ≡ add → ⊥) → (p p' q q' : List Step)
    → kept_steps h ≡ p ++ r ∷ p' → layout (kept_steps h) o ≡ q ++ r ∷ q' → SameSources r.cell p q
same_reads h t o a r k is n p p' q q' = same_read h t a r is n p p' q q'

-- of an add, as of a read or write, the last write before it is the same one; which adds stand between the two may differ, as adds change places
pub same_before : (h : History) → Turns h → (o : List ℕ) → Accepted h o → (r : Step) (k : Kind) → r.deed ≡ does k → (p p' q q' : List Step)
    → kept_steps h ≡ p ++ r ∷ p' → layout (kept_steps h) o ≡ q ++ r ∷ q' → last_write r.cell p ≡ last_write r.cell q
same_before h t o a r k is p p' q q' = same_write h t a r is p p' q q'

-- and each cell ends with the same write and the same adds since
pub same_ends : (h : History) → Turns h → (o : List ℕ) → Accepted h o → (c : ℕ) → SameSources c (kept_steps h) (layout (kept_steps h) o)
same_ends h t o a c = same_sources h t a c

-- ---- real time

-- in an accepted order a job stands before every kept job that was opened after its end
pub real_time : (h : History) → Turns h → (o : List ℕ) → Accepted h o → (i j : ℕ) → j ∈ kept h → Before (ends i) (opens j) h → Before i j o
real_time h t o a i j = time_kept h t a

-- ---- what the auditor asked

-- whatever the jobs compute from what they have read, over values of any type and from any cells, and however an add raises a value, if two raises can change places:
-- run one at a time in an accepted order, the jobs leave every cell as running the log did, and every read of a kept job shows the same value
pub record AsTheLog {ℓ} (X : Type ℓ) (raise : Raise X) (f : Program X) (g : ℕ → X) (h : History) (o : List ℕ) : Type ℓ where
  pub cells : (c : ℕ) → (run raise f (layout (kept_steps h) o) (start g)).holds c ≡ (run raise f (all_steps h) (start g)).holds c
  pub sights : (j : ℕ) → j ∈ kept h → (run raise f (layout (kept_steps h) o) (start g)).seen j ≡ (run raise f (all_steps h) (start g)).seen j

pub one_at_a_time {ℓ} : (h : History) → Turns h → (o : List ℕ) → Accepted h o → (X : Type ℓ) (raise : Raise X) → AnyOrder raise → (f : Program X) (g : ℕ → X) → AsTheLog X raise f g h o
one_at_a_time h t o a X raise law f g = record { cells = same_cells h t a raise law f g; sights = same_sights h t a raise law f g }

-- ---- the lowest-first order

-- the order computed is the lowest-first one, and nothing else has that property
pub order_is : (h : History) → Turns h → (o : List ℕ) → (order_of h ≡ some o) ↔ LowestFirst (Precedes (kept_steps h)) (kept h) o
order_is h t o = (order_lowest h t, lowest_order h t)

pub order_only : (h : History) (o o' : List ℕ) → LowestFirst (Precedes (kept_steps h)) (kept h) o → LowestFirst (Precedes (kept_steps h)) (kept h) o' → o ≡ o'
order_only h o o' = lowest_only

-- it is accepted; it exists exactly when there is no circle, and then some accepted order exists; where there is none, a circle is shown
pub order_good : (h : History) → Turns h → (o : List ℕ) → order_of h ≡ some o → Accepted h o
order_good h t o = order_accepted h t

pub order_there : (h : History) → Turns h → (Circular (kept_steps h) → ⊥) ↔ ((o : List ℕ) × (order_of h ≡ some o))
order_there h t = (order_exists h t, λ r. accepted_no_circle h t (order_accepted h t r.1))

pub order_if_any : (h : History) → Turns h → (o : List ℕ) → Accepted h o → (p : List ℕ) × (order_of h ≡ some p)
order_if_any h t o a = order_exists h t (accepted_no_circle h t a)

pub order_stuck : (h : History) → Turns h → order_of h ≡ none → Circular (kept_steps h)
order_stuck h t = no_order_circle h t

-- where it first differs from another accepted order, its job is the lower
pub order_first : (h : History) → Turns h → (p q r : List ℕ) (i j : ℕ) → order_of h ≡ some (p ++ i ∷ q) → Accepted h (p ++ j ∷ r) → (i ≡ j → ⊥) → i < j
order_first h t p q r i j = order_least h t p q r

-- ---- granted histories

-- every history of granted requests is in turn, has no circle, and so has an order, which keeps real time as every accepted order does
pub granted_order : (first : ℕ) (rs : List Request) → (o : List ℕ) × (order_of (history_of first rs) ≡ some o) × Accepted (history_of first rs) o
granted_order first rs =
    let s = granted_sound first rs in
    let r = order_exists (history_of first rs) s.turns s.no_circle in
    (r.0, r.1, order_accepted (history_of first rs) s.turns r.1)

-- an add is never refused for adds: an open job's add to a real cell on which the other kept jobs have done nothing but adds is granted
module _ (first : ℕ) (rs : List Request) (r : Request) (asks : want r.kind ≡ a_step add) (zero_byte : r.byte1 ≡ 0) where
  abbrev so_far : History
  so_far = history_of first rs

  abbrev so_booked : Book
  so_booked = book_of first rs

  abbrev OnlyAdds : Type 0
  OnlyAdds = (a : Step) → a ∈ kept_steps so_far → (a.job ≡ r.job → ⊥) → a.cell ≡ r.cell → (k : Kind) → a.deed ≡ does k → k ≡ add

  pub add_granted : r.job ∈ open_now so_far → r.cell < cells → OnlyAdds → (reply so_booked so_far r).code ≡ 0
  add_granted is_open real only_adds =
      (step_reply so_booked so_far add r asks zero_byte is_open real).granted.0
      (λ z. (granted_sound first rs).no_circle
      (calm_last (kept_steps so_far) (step_at (length so_far) (does add) r.job r.cell) (λ x m c. apart x x.deed refl (λ k. only_adds x m c.others c.same_cell k) c.clashes)
      (subst Circular (kept_step so_far r.job add r.cell (open_not_abandoned so_far is_open)) z)))
    where
      apart : (x : Step) (d : Deed) → x.deed ≡ d → ((k : Kind) → x.deed ≡ does k → k ≡ add) → T (clash d (does add)) → ⊥
      apart x (does k) e f t = subst (λ (l : Kind). T (kinds_clash l add)) (f k e) t
      apart x opening e f t = t
      apart x ending e f t = t

-- and never more than 32 jobs are open
pub never_over : (first : ℕ) (rs : List Request) → length (open_now (history_of first rs)) ≤ most_open
never_over first rs = (granted_sound first rs).few

-- ---- ports

-- from any first number, after any requests: at most 16 open jobs have any one port by the book
pub never_over_port : (first : ℕ) (rs : List Request) (p : ℕ) → length (of_port (book_of first rs).port p (open_now (history_of first rs))) ≤ most_of_port
never_over_port first rs = (granted_ported first rs).few

-- and every open job has one of the three ports
pub real_port : (first : ℕ) (rs : List Request) (j : ℕ) → j ∈ open_now (history_of first rs) → (book_of first rs).port j < port_count
real_port first rs = (granted_ported first rs).real

-- the port of a job is the one that its open named: where, after any requests, an open is granted, its job has that port in the book, whatever is requested then
pub port_is_given : (first : ℕ) (rs : List Request) (r : Request) (more : List Request) → want r.kind ≡ an_open → (reply (book_of first rs) (history_of first rs) r).code ≡ 0
    → (book_of first (rs ++ r ∷ more)).port (reply (book_of first rs) (history_of first rs) r).job ≡ r.job
port_is_given = port_given

-- ---- the table of cases

-- every reply of the case, its order, and, where it says so, that there is no other
pub record Tried (c : Case) : Type 0 where
  pub answers : replies c.first (requests_of c) ≡ replies_of c
  pub order : order_of (history_of c.first (requests_of c)) ≡ c.order
  pub only_one : T c.only_one → (o : List ℕ) → Accepted (history_of c.first (requests_of c)) o → c.order ≡ some o

only_order : (h : History) → Turns h → (a : Option (List ℕ)) → T (is_only h a) → (o : List ℕ) → Accepted h o → a ≡ some o
only_order h t none x o a = absurd x
only_order h t (some p) x o a = ap some (sym (forced_only (precedes_test (kept_steps h)) x (accepted_forward h t a)))

pub tried : (c : Case) → c ∈ p_table → Tried c
unfolding computed
tried c m =
    let e : computed c ≡ expected c = p_cases c m in
    let h = history_of c.first (requests_of c) in
    record {
      answers = ap (λ (x : Outcome). x.by_history) e;
      order = ap (λ (x : Outcome). x.order) e;
      only_one = λ y o a. sym (ap (λ (x : Outcome). x.order) e)
          ∙ only_order h (granted_sound c.first (requests_of c)).turns (order_of h) (subst T (sym (ap (λ (x : Outcome). x.only_one) e)) y) o a;
    }
