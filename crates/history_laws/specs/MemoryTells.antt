-- The tables of the bounded memory over a whole history. After every list of events in turn they are what the history says (`tables_tell`),
-- circle or none; and while there is no circle, the memory refuses a step exactly when the history with that step has one (`closes_test`).
-- Assumes nothing.
use Rattle.std.specs.Prelude.{◌≡◌, refl, ◌⊎◌, ℕ, ◌<◌, length}
use Rattle.std.proofs.Math.Path.{sym, subst, subst₃}
use Rattle.std.proofs.Common.{◌∙◌, inl, inr}
use Rattle.std.proofs.Math.Logic.{⊎_elim}
use mathlib.Core.List.Memᴰ
use mathlib.Core.List.{List, [], ◌∷◌, ◌++◌, append-nil, append_assoc}
use native.Mathlib.Omega.{arith}
use Rattle.graph.specs.Decide.{Decides, read_as, answer}
use Rattle.graph.specs.Lists.{◌∈◌, here, before_right}
use Rattle.graph.specs.Walk.{Via, one, step, Any, carry, relax, split, merge, circle_passes}
use Rattle.graph.specs.Reach.{reach_test}
use Rattle.history.specs.Events.{Kind, does, opening, ending, Event, opens, steps, ends, abandons, History, opened, ended, abandoned, kept, open_now, Step, step_at, all_steps, kept_steps, Precedes, Circular}
use Rattle.history.specs.Replies.{cells}
use Rattle.history.specs.Turns.{InTurn, InTurnAfter, Turns}
use Rattle.history.specs.Memory.{Memory, fresh, right, step_in, move, move_all, held}
use Rattle.history.specs.Tables.{Led, Leads, TellsOf, Tells}
use Rattle.history_laws.specs.TurnLaws.{ended_grows, stays, has_test, kept_if, open_from, open_if, open_not_abandoned, open_opens, open_steps, open_ends, open_abandons, kept_opens, kept_ends, kept_step, kept_abandons, kept_steps_from, Orderly, orderly_start, orderly_next}
use Rattle.history_laws.specs.MemoryLaws.{precedes_last, tells_open, tells_step, tells_end, tells_abandon}

-- ---- the tables after each event

retell : {s s' : List Step} {gone gone' now now' : List ℕ} {m : Memory} → s' ≡ s → gone' ≡ gone → now' ≡ now → TellsOf s gone now m → TellsOf s' gone' now' m
retell {m = m} p q r t = subst₃ (λ (s : List Step) (gone now : List ℕ). TellsOf s gone now m) (sym p) (sym q) (sym r) t

module _ {h : History} {m : Memory} (o : Orderly h) (t : Tells h m) where
  apart : (i : ℕ) → i ∈ open_now h → i ∈ ended h → ⊥
  apart i n = (open_from h n).1

  pub tells_next : (e : Event) → InTurn h e → Tells (h ++ e ∷ []) (move right m e)
  unfolding move right
  tells_next (opens j) turn =
      let new : (j ∈ opened h) → ⊥ = λ n. let q = turn j n in omega arith in
      let not_ended : (j ∈ ended h) → ⊥ = λ n. new (o.ended_opened j n) in
      let not_abandoned : (j ∈ abandoned h) → ⊥ = λ n. new (o.abandoned_opened j n) in
      retell (kept_opens h j not_abandoned) (stays (ended_grows h (opens j))) (open_opens h j not_abandoned not_ended)
      (tells_step (tells_open t apart j (λ a n e. new (Memᴰ.cast (sym e) (o.stepped a (kept_steps_from h n).0))))
      (λ i n g. ⊎_elim (λ m. apart i m g) (λ m. not_ended (Memᴰ.cast (sym (Memᴰ.eq_of_singleton m)) g)) (Memᴰ.append_cases (open_now h) n))
      (step_at (length h) opening j 0) (Memᴰ.append_right (open_now h) here))
  tells_next (steps k j c) turn =
      retell (kept_step h j k c (open_not_abandoned h turn.0)) (stays (ended_grows h (steps k j c))) (open_steps h j k c)
      (tells_step t apart (step_at (length h) (does k) j c) turn.0)
  tells_next (ends j) turn =
      retell (kept_ends h j (open_not_abandoned h turn)) (ended_grows h (ends j)).joined (open_ends h j)
      (tells_end (tells_step t apart (step_at (length h) ending j 0) turn) apart j turn)
  tells_next (abandons j) turn = retell (kept_abandons h j) (stays (ended_grows h (abandons j))) (open_abandons h j) (tells_abandon t apart j turn.0)

pub fresh_tells : (first : ℕ) → Tells [] (fresh first)
unfolding kept_steps all_steps ended open_now kept opened
fresh_tells first =
    record {
      jobs = refl;
      own = λ j d c. record { holds = λ x. absurd x; shows = λ r. Memᴰ.not-nil r.is_open };
      past = λ i d c. record { holds = λ x. absurd x; shows = λ r. Memᴰ.not-nil r.is_open };
      leads = λ i j. record { holds = λ x. absurd x; shows = λ r. Memᴰ.not-nil r.from_open };
    }

tells_after : {h : History} {m : Memory} (es : List Event) → Orderly h → Tells h m → InTurnAfter h es → Tells (h ++ es) (move_all right m es)
tells_after {h} {m} [] o t turns = subst (λ (x : History). Tells x m) (sym (append-nil h)) t
tells_after {h} {m} (e ∷ es) o t turns =
    subst (λ (x : History). Tells x (move_all right (move right m e) es)) (append_assoc h (e ∷ []) es)
    (tells_after {h = h ++ e ∷ []} es (orderly_next e o turns.0) (tells_next o t e turns.0) turns.1)

-- after every list of events in turn the tables are what the history says
pub tables_tell : (first : ℕ) (h : History) → Turns h → Tells h (move_all right (fresh first) h)
tables_tell first h turns = tells_after h orderly_start (fresh_tells first) turns

-- ---- refusals

-- whoever stands in a precedence is open or ended
stands : {h : History} → Orderly h → (i j : ℕ) → Precedes (kept_steps h) i j → (j ∈ ended h) ⊎ (j ∈ open_now h)
stands {h} o i j p =
    let m = kept_steps_from h (before_right p.in_order) in
    let k : j ∈ kept h = Memᴰ.cast (sym p.later_job) (kept_if h (o.stepped p.later m.0) m.1) in
    ⊎_elim inl (λ n. inr (open_if h k n)) (answer (has_test (ended h) j))

module _ {s : List Step} {gone now : List ℕ} where
  leads_walk : {i j : ℕ} → i ∈ now → j ∈ now → Via (Led s gone) (λ x. x ∈ now) i j → Via (Leads s gone now) (λ x. x ∈ now) i j
  leads_walk a b (one w) = one (record { from_open = a; to_open = b; walk = w })
  leads_walk a b (step w n v) = step (record { from_open = a; to_open = n; walk = w }) n (leads_walk n b v)

-- a chain of leads from an open job back to it is a circle through it, and the other way round
module _ {h : History} (o : Orderly h) {j : ℕ} (open_job : j ∈ open_now h) where
  pub chain_circle : Via (Leads (kept_steps h) (ended h) (open_now h)) (λ x. x ∈ open_now h) j j → Via (Precedes (kept_steps h)) Any j j
  chain_circle w = relax (λ x n. tt) (merge (carry (λ a b l. l.walk) (λ x n. n) w))

  pub circle_chain : Via (Precedes (kept_steps h)) Any j j → Via (Leads (kept_steps h) (ended h) (open_now h)) (λ x. x ∈ open_now h) j j
  circle_chain w = leads_walk open_job open_job (split (sorted w))
    where
      sorted : {p q : ℕ} → Via (Precedes (kept_steps h)) Any p q → Via (Precedes (kept_steps h)) (λ x. (x ∈ ended h) ⊎ (x ∈ open_now h)) p q
      sorted (one e) = one e
      sorted (step {p = p} {m = x} e n v) = step e (stands o p x e) (sorted v)

module _ {h : History} {m : Memory} (o : Orderly h) (t : Tells h m) (none : Circular (kept_steps h) → ⊥) where
  -- the memory refuses a step exactly when the history with that step has a circle
  pub closes_test : (k : Kind) (j c : ℕ) → j ∈ open_now h → c < cells → Decides ((held right m).closes k j c) (Circular (kept_steps (h ++ steps k j c ∷ [])))
  unfolding held right move
  closes_test k j c open_job real =
      let e = steps k j c in
      let a : Step = step_at (length h) (does k) j c in
      let o' : Orderly (h ++ e ∷ []) = orderly_next e o (open_job, real) in
      let t' : Tells (h ++ e ∷ []) (step_in m (does k) j c) = tells_next o t e (open_job, real) in
      let same : open_now (h ++ e ∷ []) ≡ open_now h = open_steps h j k c in
      let open' : j ∈ open_now (h ++ e ∷ []) = subst (λ (l : List ℕ). j ∈ l) (sym same) open_job in
      let held_jobs : m.jobs ≡ open_now (h ++ e ∷ []) = t.jobs ∙ sym same in
      let grown : kept_steps (h ++ e ∷ []) ≡ kept_steps h ++ a ∷ [] = kept_step h j k c (open_not_abandoned h open_job) in
      read_as (reach_test (λ i x. t'.leads i x) m.jobs j j)
      (λ w. (j, chain_circle o' open' (relax (λ x n. subst (λ (l : List ℕ). x ∈ l) held_jobs n) w)))
      (λ z. relax (λ x n. subst (λ (l : List ℕ). x ∈ l) (sym held_jobs) n) (circle_chain o' open'
      (⊎_elim (λ old. absurd (none old)) (λ w. subst (λ (l : List Step). Via (Precedes l) Any j j) (sym grown) w)
      (circle_passes (precedes_last (kept_steps h) a) (subst Circular grown z)))))
