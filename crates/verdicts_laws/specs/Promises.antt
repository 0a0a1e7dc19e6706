-- The promises of demand 3, on bytes and lists. Each is proved in the file that its proof cites.
--
-- To be believed for them: Logs (records, faults, the reading of a log), Verdicts (the checker's verdict, the lister's answer), and what the
-- promises of history need.
-- Assumes nothing.
use Rattle.std.specs.Prelude.{◌≡◌, refl, ◌↔◌, List, [], ◌∷◌, ◌++◌, ℕ, ◌+◌, ◌*◌, ◌≤◌, length}
use Rattle.std.proofs.Common.{sym, ◌∙◌, arith}
use Rattle.std.proofs.Math.Path.{ap}
use Rattle.graph.specs.Lists.{◌∈◌, Before}
use Rattle.history.specs.Events.{Kind, write, add, does, Event, History, opened, kept, Step, kept_steps}
use Rattle.history.specs.Replies.{Request, a_publish, want, event_of, Book, reply, after, history_of}
use Rattle.history_laws.specs.ReplyLaws.{as_kind, after_granted}
use Rattle.history.specs.Turns.{Turns}
use Rattle.history.specs.Orders.{layout, Accepted}
use Rattle.history.specs.Run.{Program, Raise, AnyOrder, last_write, SameSources}
use Rattle.history_laws.specs.OrderLaws.{accepted_no_circle}
use Rattle.history_laws.specs.Promises.{AsTheLog, one_at_a_time, same_reads, same_before, same_ends, real_time, granted_order}
use Rattle.verdicts.specs.Logs.{Reading, faulty, events, most_jobs, read_log, record_of, log_of}
use Rattle.verdicts.specs.Verdicts.{Verdict, check, Listed, listed, list_of, list_order}
use Rattle.verdicts_laws.specs.LogLaws.{Fault, faults, read_turns, log_append, read_back, Sized, granted_read}
use Rattle.verdicts_laws.specs.VerdictLaws.{Checked, check_right, checked_only, check_exactly, ListedAs, no_room, no_order, an_order, listed_right, Answered, log_faulty, log_read, list_right, answered_only}
use Rattle.verdicts_laws.specs.SizeLaws.{check_small, list_small, check_apart, list_apart}

-- ---- the checker

-- the verdict on any bytes and any list, code by code and place by place
pub verdict_means : (bytes order : List ℕ) → Checked bytes order (check bytes order)
verdict_means = check_right

-- and no other verdict means that: a checker that keeps this promise is `check` (WrongVerdicts of the crate refuted has builds that do not)
pub verdict_only : (bytes order : List ℕ) (v : Verdict) → Checked bytes order v → v ≡ check bytes order
verdict_only bytes order v = checked_only bytes order

-- accepted exactly when the log has no fault, and the order names each kept job once and its layout keeps every conflicting pair
pub accepts_exactly : (bytes order : List ℕ) → ((check bytes order).code ≡ 0) ↔ ((h : History) × (read_log bytes ≡ events h) × Accepted h order)
accepts_exactly = check_exactly

-- what an accepted order of a log is good for: each kept read follows the same last write and the same adds since, in any order, and so does each kept write; a kept add follows the same
-- last write; each cell ends with the same write and the same adds since; whatever the jobs compute, and however a value is raised, if two raises can change places, one at a time in that
-- order they read and leave the same; and a job stands before every kept job that was opened after its end
pub record GoodFor (h : History) (order : List ℕ) : Type 1 where
  pub reads : (r : Step) (k : Kind) → r.deed ≡ does k → (k ≡ add → ⊥) → (p p' q q' : List Step) → kept_steps h ≡ p ++ r ∷ p' → layout (kept_steps h) order ≡ q ++ r ∷ q' → SameSources r.cell p q
  pub before : (r : Step) (k : Kind) → r.deed ≡ does k → (p p' q q' : List Step) → kept_steps h ≡ p ++ r ∷ p' → layout (kept_steps h) order ≡ q ++ r ∷ q' → last_write r.cell p ≡ last_write r.cell q
  pub ends : (c : ℕ) → SameSources c (kept_steps h) (layout (kept_steps h) order)
  pub whatever : (X : Type 0) (raise : Raise X) → AnyOrder raise → (f : Program X) (g : ℕ → X) → AsTheLog X raise f g h order
  pub in_time : (i j : ℕ) → j ∈ kept h → Before (Event.ends i) (Event.opens j) h → Before i j order

pub accepted_good : (bytes order : List ℕ) → (check bytes order).code ≡ 0 → (h : History) × (read_log bytes ≡ events h) × GoodFor h order
accepted_good bytes order z =
    let r = (check_exactly bytes order).0 z in
    let t = read_turns bytes r.0 r.1 in (
      r.0,
      r.1,
      record { reads = same_reads r.0 t order r.2; before = same_before r.0 t order r.2; ends = same_ends r.0 t order r.2; whatever = one_at_a_time r.0 t order r.2; in_time = real_time r.0 t order r.2 },
    )

-- ---- the lister

-- the answer on any bytes and any lent list, code by code, with what then stands in the list
pub answer_means : (bytes lent : List ℕ) → Answered bytes lent (list_order bytes lent)
answer_means = list_right

-- and no other answer means that
pub answer_only : (bytes lent : List ℕ) (a : Listed) → Answered bytes lent a → a ≡ list_order bytes lent
answer_only bytes lent a = answered_only bytes lent

module _ (bytes lent : List ℕ) (h : History) (reads : read_log bytes ≡ events h) (room : length (kept h) ≤ length lent) where
  of_log : list_order bytes lent ≡ listed h lent
  unfolding list_order
  of_log = ap (λ (g : Reading). list_of g lent) reads

  -- where there is room: an order is given exactly when one is accepted, and 17 exactly when none is
  pub gives_exactly : ((list_order bytes lent).code ≡ 0) ↔ ((order : List ℕ) × Accepted h order)
  gives_exactly = (λ z. yields (listed_right h (read_turns bytes h reads) lent) (ap (λ (a : Listed). a.code) (sym of_log) ∙ z), λ r. ap (λ (a : Listed). a.code) of_log ∙ given r.1 (listed_right h (read_turns bytes h reads) lent))
    where
      yields : {a : Listed} → ListedAs h lent a → a.code ≡ 0 → (order : List ℕ) × Accepted h order
      yields (no_room l) z = absurd (omega arith)
      yields (no_order l c) z = absurd (let y : ◌≡◌ {A = ℕ} 17 0 = z in omega arith)
      yields (an_order {o = o} l e a n) z = (o, a)

      given : {order : List ℕ} → Accepted h order → {a : Listed} → ListedAs h lent a → a.code ≡ 0
      given a (no_room l) = absurd (omega arith)
      given a (no_order l c) = absurd (accepted_no_circle h (read_turns bytes h reads) a c)
      given a (an_order l e b n) = refl

  pub seventeen_exactly : ((list_order bytes lent).code ≡ 17) ↔ ((order : List ℕ) → Accepted h order → ⊥)
  seventeen_exactly = (λ z order a. denied a (listed_right h (read_turns bytes h reads) lent) (ap (λ (a : Listed). a.code) (sym of_log) ∙ z), λ f. ap (λ (a : Listed). a.code) of_log ∙ none_left f (listed_right h (read_turns bytes h reads) lent))
    where
      denied : {order : List ℕ} → Accepted h order → {a : Listed} → ListedAs h lent a → a.code ≡ 17 → ⊥
      denied a (no_room l) z = omega arith
      denied a (no_order l c) z = accepted_no_circle h (read_turns bytes h reads) a c
      denied a (an_order l e b n) z = let y : ◌≡◌ {A = ℕ} 0 17 = z in omega arith

      none_left : ((order : List ℕ) → Accepted h order → ⊥) → {a : Listed} → ListedAs h lent a → a.code ≡ 17
      none_left f (no_room l) = absurd (omega arith)
      none_left f (no_order l c) = refl
      none_left f (an_order {o = o} l e b n) = absurd (f o b)

-- a refusal leaves the lent list as it was
pub refusal_leaves : (bytes lent : List ℕ) → ((list_order bytes lent).code ≡ 0 → ⊥) → (list_order bytes lent).list ≡ lent
refusal_leaves bytes lent f = kept_list (list_right bytes lent) f
  where
    same : {h : History} {a : Listed} → ListedAs h lent a → (a.code ≡ 0 → ⊥) → a.list ≡ lent
    same (no_room l) g = refl
    same (no_order l c) g = refl
    same (an_order l e b n) g = absurd (g refl)

    kept_list : {a : Listed} → Answered bytes lent a → (a.code ≡ 0 → ⊥) → a.list ≡ lent
    kept_list (log_faulty e) g = refl
    kept_list (log_read e t l) g = same l g

-- ---- places are small

-- the place of any verdict and of any answer is at most 4,095
pub verdict_small : (bytes order : List ℕ) → (check bytes order).place ≤ 4095
verdict_small bytes order = (check_small bytes order).place_small

pub answer_small : (bytes lent : List ℕ) → (list_order bytes lent).place ≤ 4095
answer_small bytes lent = (list_small bytes lent).place_small

-- so the code times 2 ^ 32 plus the place, in one number, tells both: verdicts with the same number are the same, and answers have the same code and place
pub packed_apart : (bytes order bytes' order' : List ℕ)
    → (check bytes order).code * 4294967296 + (check bytes order).place ≡ (check bytes' order').code * 4294967296 + (check bytes' order').place
    → check bytes order ≡ check bytes' order'
packed_apart = check_apart

pub packed_answers_apart : (bytes lent bytes' lent' : List ℕ)
    → (list_order bytes lent).code * 4294967296 + (list_order bytes lent).place ≡ (list_order bytes' lent').code * 4294967296 + (list_order bytes' lent').place
    → ((list_order bytes lent).code ≡ (list_order bytes' lent').code) × ((list_order bytes lent).place ≡ (list_order bytes' lent').place)
packed_answers_apart = list_apart

-- ---- logs

-- a log that is refused has the wrong length, or its lowest faulty record stands at the place reported, with the code of its first fault
pub fault_means : (bytes : List ℕ) (c p : ℕ) → read_log bytes ≡ faulty c p → Fault bytes c p
fault_means = faults

-- the log of what was granted, within the sizes, is read without a fault, and with room is never answered 17
pub granted_listed : (first : ℕ) (rs : List Request) (lent : List ℕ) → length (history_of first rs) ≤ 4096 → length (opened (history_of first rs)) ≤ most_jobs
    → length (kept (history_of first rs)) ≤ length lent → (list_order (log_of (history_of first rs)) lent).code ≡ 0
granted_listed first rs lent few few_jobs room =
    let h = history_of first rs in
    let r = granted_order first rs in
    (gives_exactly (log_of h) lent h (granted_read first rs few few_jobs) room).1 (r.0, r.2)

-- a publish (kind 6) that is granted stands in the log as its two records, the write of its cell and the end of its job
pub publish_logged : (b : Book) (h : History) (r : Request) → (reply b h (as_kind 6 r)).code ≡ 0
    → log_of (after b h (as_kind 6 r)) ≡ log_of h ++ (record_of (Event.steps write r.job r.cell) ++ record_of (Event.ends r.job))
unfolding event_of
publish_logged b h r z =
    ap log_of (after_granted b h (as_kind 6 r) a_publish (unfold want in refl) z) ∙ log_append h (Event.steps write r.job r.cell ∷ Event.ends r.job ∷ [])

-- a log read back: the bytes of a history in turn, within the sizes, are that history
pub log_reads_back : (h : History) → Turns h → Sized h → read_log (log_of h) ≡ events h
log_reads_back = read_back
