-- The graph over the ended jobs, and the log with the open jobs taken out.
--
-- In order: precedence among some of the jobs; no event but an end changes the steps of the ended jobs (`ended_opens`, `ended_step`, `ended_abandons`); while their graph has no
-- circle, an end closes one exactly when its job leads to itself (`end_test`); events taken out job by job leave events in turn (`thin_turns`), and the closed log is in
-- turn and has no circle (`closed_turns`, `closed_free`), and has the ended jobs and no other kept (`closed_kept`).
-- Assumes nothing.
use Rattle.std.specs.Prelude.{◌≡◌, refl, ◌⊎◌, Bool, true, false, ◌&&◌, cond, eqb, length}
use Rattle.std.proofs.Common.{sym, ◌∙◌, inl, inr, arith}
use Rattle.std.proofs.Math.Path.{ap, ap₂, subst}
use Rattle.std.proofs.Math.Logic.{⊎_elim}
use Rattle.std.proofs.Math.Bool.{not}
use mathlib.Core.List.Memᴰ
use mathlib.Core.List.{List, [], ◌∷◌, ◌++◌, append-nil}
use Prim.Native.Nat.{ℕ}
use Rattle.std.proofs.Math.Dec.{T}
use Rattle.graph.specs.Decide.{Decides, and_test, not_test, eq_test, own_test, read_as, same_test, some_test, true_is, test_false, answer}
use Rattle.graph.specs.Lists.{◌∈◌, here, only, only_yes, only_no, only_append, only_keeps, only_from, only_same, only_only, before_left, before_right, before_only, before_from_only}
use Rattle.graph.specs.Walk.{Via, one, step, Any, join, cut}
use Rattle.history.specs.Events.{Kind, Deed, does, ending, alters_by, Event, opens, steps, ends, abandons, History, gather, opened_by, ended_by, abandoned_by, has, opened, ended, abandoned, kept, open_now, Step, step_at, all_steps, kept_steps, wrote, Precedes, Circular}
use Rattle.history.specs.Turns.{InTurn, InTurnAfter, Turns}
use Rattle.history.specs.Memory.{Memory}
use Rattle.history.specs.Tables.{Led, Tells}
use Rattle.history_laws.specs.EventLaws.{altering, ending_calm, precedes_in}
use Rattle.history_laws.specs.TurnLaws.{ended_grows, stays, which_in, has_test, kept_from, kept_if, open_from, open_if, open_opened, open_not_abandoned, kept_opens, kept_step, kept_ends, kept_abandons, Orderly, orderly, wrote_if}
use Rattle.history_laws.specs.MemoryLaws.{precedes_old, precedes_last}
use Rattle.history_laws.specs.OrderLaws.{ends_kept}
use Rattle.history_laws.specs.TimeLaws.{event_by, steps_in, events_in, Goes, by_steps, by_time, precedes_goes, goes_precedes}
use Rattle.late.specs.Late.{ended_steps, job_by, closed}

-- ---- precedence among some of the jobs

module _ (p : ℕ → Bool) where
  precedes_among : {s : List Step} {i j : ℕ} → T (p i) → T (p j) → Precedes s i j → Precedes (only (λ a. p a.job) s) i j
  precedes_among a b r =
      precedes_in r (before_only (λ x. p x.job) (subst (λ (n : ℕ). T (p n)) (sym r.earlier_job) a) (subst (λ (n : ℕ). T (p n)) (sym r.later_job) b) r.in_order)

  among_precedes : (s : List Step) {i j : ℕ} → Precedes (only (λ a. p a.job) s) i j → Precedes s i j × (T (p i) × T (p j))
  among_precedes s r =
      let f : Step → Bool = λ x. p x.job in (
        precedes_in r (before_from_only f s r.in_order),
        (
          subst (λ (n : ℕ). T (p n)) r.earlier_job (only_from f s (before_left r.in_order)).1,
          subst (λ (n : ℕ). T (p n)) r.later_job (only_from f s (before_right r.in_order)).1,
        ),
      )

-- a walk all of whose jobs meet Q, over edges that hold between such jobs
within : {E F : ℕ → ℕ → Type 0} {P Q : ℕ → Type 0} → ((a b : ℕ) → Q a → Q b → E a b → F a b) → ((a : ℕ) → P a → Q a) → {i j : ℕ} → Q i → Q j → Via E P i j → Via F Any i j
within f g a b (one {p = p} {q = q} e) = one (f p q a b e)
within f g a b (step {p = p} {m = m} e n w) = step (f p m a (g m n) e) tt (within f g (g m n) b w)

-- ---- no event but an end changes the steps of the ended jobs

module _ (h : History) where
  abbrev is_ended : Step → Bool
  is_ended x = has (ended h) x.job

  ended_more : (e : Event) (a : Step) → kept_steps (h ++ e ∷ []) ≡ kept_steps h ++ a ∷ [] → ended (h ++ e ∷ []) ≡ ended h → (a.job ∈ ended h → ⊥)
      → ended_steps (h ++ e ∷ []) ≡ ended_steps h
  unfolding ended_steps
  ended_more e a q r ne =
      ap₂ (λ (l : List Step) (g : List ℕ). only (λ x. has g x.job) l) q r
      ∙ only_append is_ended (kept_steps h) (a ∷ [])
      ∙ ap (λ (l : List Step). only is_ended (kept_steps h) ++ l) (only_no is_ended a [] (test_false (has_test (ended h) a.job) ne))
      ∙ append-nil (only is_ended (kept_steps h))

  pub ended_opens : Orderly h → (j : ℕ) → InTurn h (opens j) → ended_steps (h ++ opens j ∷ []) ≡ ended_steps h
  ended_opens o j turn =
      let new : (j ∈ opened h) → ⊥ = λ n. let q = turn j n in omega arith in
      ended_more (opens j) _ (kept_opens h j (λ n. new (o.abandoned_opened j n))) (stays (ended_grows h (opens j))) (λ n. new (o.ended_opened j n))

  pub ended_step : (k : Kind) (j c : ℕ) → j ∈ open_now h → ended_steps (h ++ steps k j c ∷ []) ≡ ended_steps h
  ended_step k j c n = ended_more (steps k j c) _ (kept_step h j k c (open_not_abandoned h n)) (stays (ended_grows h (steps k j c))) (open_from h n).1

  pub ended_abandons : (j : ℕ) → j ∈ open_now h → ended_steps (h ++ abandons j ∷ []) ≡ ended_steps h
  unfolding ended_steps
  ended_abandons j n =
      ap₂ (λ (l : List Step) (g : List ℕ). only (λ x. has g x.job) l) (kept_abandons h j) (stays (ended_grows h (abandons j)))
      ∙ only_only is_ended (λ x. not (eqb x.job j)) (kept_steps h)
      ∙ only_same (λ x. not (eqb x.job j) && is_ended x) is_ended (kept_steps h) (λ x m.
      same_test (and_test (not_test (eq_test x.job j)) (has_test (ended h) x.job)) (has_test (ended h) x.job) (λ r. r.1)
      (λ g. (λ e. (open_from h n).1 (Memᴰ.cast (sym e) g), g)))

-- ---- an end closes a circle exactly when its job leads to itself

module _ (h : History) (j : ℕ) (open_job : j ∈ open_now h) where
  abbrev then : List ℕ
  then = ended (h ++ ends j ∷ [])

  abbrev last : Step
  last = step_at (length h) ending j 0

  grown : kept_steps (h ++ ends j ∷ []) ≡ kept_steps h ++ last ∷ []
  grown = kept_ends h j (open_not_abandoned h open_job)

  old_or_new : {x : ℕ} → T (has then x) → (x ∈ ended h) ⊎ (x ≡ j)
  old_or_new {x} t = ⊎_elim inl (λ n. inr (Memᴰ.eq_of_singleton n)) (which_in (ended_grows h (ends j)) ((has_test then x).holds t))

  was_ended : (x : ℕ) → x ∈ ended h → T (has then x)
  was_ended x m = (has_test then x).shows (subst (λ (l : List ℕ). x ∈ l) (sym (ended_grows h (ends j)).joined) (Memᴰ.append_left (j ∷ []) m))

  is_new : T (has then j)
  is_new = (has_test then j).shows (subst (λ (l : List ℕ). j ∈ l) (sym (ended_grows h (ends j)).joined) (Memᴰ.append_right (ended h) here))

  -- the edges of the new graph are the edges between the ended jobs and this one: no step conflicts with an end after it
  edge_then : (a b : ℕ) → T (has then a) → T (has then b) → Precedes (kept_steps h) a b → Precedes (ended_steps (h ++ ends j ∷ [])) a b
  unfolding ended_steps
  edge_then a b p q r = precedes_among (has then) p q (subst (λ (l : List Step). Precedes l a b) (sym grown) (precedes_old (kept_steps h) last r))

  edge_now : {a b : ℕ} → Precedes (ended_steps (h ++ ends j ∷ [])) a b → Precedes (kept_steps h) a b × (((a ∈ ended h) ⊎ (a ≡ j)) × ((b ∈ ended h) ⊎ (b ≡ j)))
  unfolding ended_steps
  edge_now {a} {b} r =
      let f = among_precedes (has then) (kept_steps (h ++ ends j ∷ [])) r in (
        ⊎_elim (λ old. old) (λ new. absurd (ending_calm new.1.step.deed new.1.conflicting.clashes))
            (precedes_last (kept_steps h) last a b (subst (λ (l : List Step). Precedes l a b) grown f.0)),
        (old_or_new f.1.0, old_or_new f.1.1),
      )

  abbrev Mixed : ℕ → ℕ → Type 0
  Mixed = Via (Precedes (kept_steps h)) (λ x. (x ∈ ended h) ⊎ (x ≡ j))

  sorted : {a b : ℕ} → Via (Precedes (ended_steps (h ++ ends j ∷ []))) Any a b → ((a ∈ ended h) ⊎ (a ≡ j)) × Mixed a b
  sorted (one e) = let r = edge_now e in (r.1.0, one r.0)
  sorted (step e n w) = let r = edge_now e in (r.1.0, step r.0 r.1.1 (sorted w).1)

  -- a chain from the job back to it by ended jobs is a circle of the new graph, and without an old circle there is no other
  led_circle : Led (kept_steps h) (ended h) j j → Circular (ended_steps (h ++ ends j ∷ []))
  led_circle w = (j, within edge_then was_ended is_new is_new w)

  circle_led : (Circular (ended_steps h) → ⊥) → Circular (ended_steps (h ++ ends j ∷ [])) → Led (kept_steps h) (ended h) j j
  unfolding ended_steps
  circle_led none (z, w) = by (sorted w).0 (cut (sorted w).1)
    where
      L : ℕ → ℕ → Type 0
      L = Led (kept_steps h) (ended h)

      by : (z ∈ ended h) ⊎ (z ≡ j) → L z z ⊎ (L z j × L j z) → L j j
      by (inl g) (inl v) =
          absurd (none (z, within {Q = λ x. x ∈ ended h} (λ a b p q r. precedes_among (has (ended h)) ((has_test (ended h) a).shows p) ((has_test (ended h) b).shows q) r) (λ x m. m) g g v))
      by (inl g) (inr v) = join v.1 g v.0
      by (inr e) (inl v) = subst (λ (x : ℕ). L x x) e v
      by (inr e) (inr v) = subst (λ (x : ℕ). L x j) e v.0

  pub end_test : {m : Memory} → Tells h m → (Circular (ended_steps h) → ⊥) → Decides (m.leads j j) (Circular (ended_steps (h ++ ends j ∷ [])))
  end_test t none = read_as (t.leads j j) (λ r. led_circle r.walk) (λ z. record { from_open = open_job; to_open = open_job; walk = circle_led none z })

-- ---- events taken out job by job

-- what the events of a history give, event by event
gather_in : (f : Event → List ℕ) {e : Event} {h : History} {x : ℕ} → e ∈ h → x ∈ f e → x ∈ gather f h
gather_in f {x = x} (Memᴰ.head {xs = h} q) n = Memᴰ.append_left (gather f h) (subst (λ (y : Event). x ∈ f y) q n)
gather_in f (Memᴰ.tail {x = y} m) n = Memᴰ.append_right (f y) (gather_in f m n)

gather_from : (f : Event → List ℕ) (h : History) {x : ℕ} → x ∈ gather f h → (e : Event) × (e ∈ h) × (x ∈ f e)
gather_from f [] m = absurd (Memᴰ.not-nil m)
gather_from f (e ∷ h) m = ⊎_elim (λ n. (e, here, n)) (λ n. let r = gather_from f h n in (r.0, Memᴰ.tail r.1, r.2)) (Memᴰ.append_cases (f e) m)

-- the job of an event is the one that it opens, ends or abandons
opened_job : (e : Event) {j : ℕ} → j ∈ opened_by e → j ≡ job_by e
opened_job (opens i) m = Memᴰ.eq_of_singleton m
opened_job (steps k i c) m = absurd (Memᴰ.not-nil m)
opened_job (ends i) m = absurd (Memᴰ.not-nil m)
opened_job (abandons i) m = absurd (Memᴰ.not-nil m)

abandoned_job : (e : Event) {j : ℕ} → j ∈ abandoned_by e → j ≡ job_by e
abandoned_job (opens i) m = absurd (Memᴰ.not-nil m)
abandoned_job (steps k i c) m = absurd (Memᴰ.not-nil m)
abandoned_job (ends i) m = absurd (Memᴰ.not-nil m)
abandoned_job (abandons i) m = Memᴰ.eq_of_singleton m

module _ (p : ℕ → Bool) where
  -- the events of the jobs that pass
  abbrev thin : History → History
  thin h = only (λ e. p (job_by e)) h

  module _ (f : Event → List ℕ) (h : History) where
    thin_gives : {x : ℕ} → x ∈ gather f (thin h) → x ∈ gather f h
    thin_gives m = let r = gather_from f (thin h) m in gather_in f (only_from (λ e. p (job_by e)) h r.1).0 r.2

    thin_has : ((e : Event) (x : ℕ) → x ∈ f e → x ≡ job_by e) → (x : ℕ) → x ∈ gather f h → T (p x) → x ∈ gather f (thin h)
    thin_has its x m t =
        let r = gather_from f h m in
        gather_in f (only_keeps (λ e. p (job_by e)) r.1 (subst (λ (n : ℕ). T (p n)) (its r.0 x r.2) t)) r.2

  module _ (h : History) {j : ℕ} where
    thin_opened : j ∈ opened (thin h) → j ∈ opened h
    unfolding opened
    thin_opened = thin_gives opened_by h

    opened_thin : j ∈ opened h → T (p j) → j ∈ opened (thin h)
    unfolding opened
    opened_thin = thin_has opened_by h (λ e x. opened_job e) j

    thin_ended : j ∈ ended (thin h) → j ∈ ended h
    unfolding ended
    thin_ended = thin_gives ended_by h

    thin_abandoned : j ∈ abandoned (thin h) → j ∈ abandoned h
    unfolding abandoned
    thin_abandoned = thin_gives abandoned_by h

    abandoned_thin : j ∈ abandoned h → T (p j) → j ∈ abandoned (thin h)
    unfolding abandoned
    abandoned_thin = thin_has abandoned_by h (λ e x. abandoned_job e) j

    open_thin : j ∈ open_now h → T (p j) → j ∈ open_now (thin h)
    open_thin m t =
        open_if (thin h) (kept_if (thin h) (opened_thin (open_opened h m) t) (λ n. open_not_abandoned h m (thin_abandoned n))) (λ n. (open_from h m).1 (thin_ended n))

  thin_wrote : (h : History) (j : ℕ) → T (wrote (thin h) j) → T (wrote h j)
  unfolding wrote all_steps
  thin_wrote h j t =
      let r = (some_test (λ (x : Step). and_test (eq_test x.job j) (own_test (alters_by x.deed))) (all_steps (thin h))).holds t in
      let a = r.0 in
      let k = altering a.deed r.2.1 in
      let e : Event = steps k.0 a.job a.cell in
      let m : e ∈ thin h = subst (λ (x : Event). x ∈ thin h) (ap (λ (d : Deed). event_by d a.job a.cell) k.1) (steps_in 0 (thin h) r.1) in
      let q = events_in 0 (only_from (λ e. p (job_by e)) h m).0 in
      subst (λ (n : ℕ). T (wrote h n)) r.2.0 (wrote_if h (step_at q.0 (does k.0) a.job a.cell) (q.1 _ here) k.2)

  in_turn : (h : History) (e : Event) → T (p (job_by e)) → InTurn h e → InTurn (thin h) e
  in_turn h (opens j) t q = λ i m. q i (thin_opened h m)
  in_turn h (steps k j c) t q = (open_thin h q.0 t, q.1)
  in_turn h (ends j) t q = open_thin h q t
  in_turn h (abandons j) t q = (open_thin h q.0 t, λ w. q.1 (thin_wrote h j w))

  -- what is left is in turn
  pub thin_turns : (g : History) (es : List Event) → InTurnAfter g es → InTurnAfter (thin g) (thin es)
  thin_turns g [] t = tt
  thin_turns g (e ∷ es) t = go (p (job_by e)) refl (thin_turns (g ++ e ∷ []) es t.1)
    where
      f : Event → Bool
      f x = p (job_by x)

      go : (b : Bool) → p (job_by e) ≡ b → InTurnAfter (thin (g ++ e ∷ [])) (thin es) → InTurnAfter (thin g) (cond b (e ∷ thin es) (thin es))
      go true q r = (
        in_turn g e (true_is q) t.0,
        subst (λ (x : History). InTurnAfter x (thin es)) (only_append f g (e ∷ []) ∙ ap (λ (l : History). thin g ++ l) (only_yes f e [] q)) r,
      )
      go false q r = subst (λ (x : History). InTurnAfter x (thin es)) (only_append f g (e ∷ []) ∙ ap (λ (l : History). thin g ++ l) (only_no f e [] q) ∙ append-nil (thin g)) r

-- ---- the log with the open jobs taken out

module _ (h : History) (turns : Turns h) where
  abbrev shut : ℕ → Bool
  shut j = not (has (open_now h) j)

  pub closed_turns : Turns (closed h)
  unfolding closed
  closed_turns = thin_turns shut [] h turns

  -- whoever is kept and not open has ended
  shut_ended : {j : ℕ} → j ∈ kept h → T (shut j) → j ∈ ended h
  shut_ended {j} k t = ⊎_elim (λ m. m) (λ n. absurd ((not_test (has_test (open_now h) j)).holds t (open_if h k n))) (answer (has_test (ended h) j))

  ended_shut : {j : ℕ} → j ∈ ended h → T (shut j)
  ended_shut {j} m = (not_test (has_test (open_now h) j)).shows (λ n. (open_from h n).1 m)

  -- the kept jobs of what is left are the ended ones
  pub closed_kept : (j : ℕ) → (j ∈ kept (closed h) → j ∈ ended h) × (j ∈ ended h → j ∈ kept (closed h))
  unfolding closed opened
  closed_kept j = (
    λ m.
        let r = kept_from (thin shut h) m in
        let g = gather_from opened_by (thin shut h) r.0 in
        let t : T (shut j) = subst (λ (n : ℕ). T (shut n)) (sym (opened_job g.0 g.2)) (only_from (λ e. shut (job_by e)) h g.1).1 in
        shut_ended (kept_if h (thin_opened shut h r.0) (λ n. r.1 (abandoned_thin shut h n t))) t,
    λ m.
        let o = orderly h turns in
        kept_if (thin shut h) (opened_thin shut h (o.ended_opened j m) (ended_shut m)) (λ n. o.ended_kept j m (thin_abandoned shut h n)),
  )

  thin_goes : {i j : ℕ} → Goes (thin shut h) i j → Goes h i j × (T (shut i) × T (shut j))
  thin_goes (by_steps t b) =
      let f : Event → Bool = λ e. shut (job_by e) in
      (by_steps t (before_from_only f h b), ((only_from f h (before_left b)).1, (only_from f h (before_right b)).1))
  thin_goes (by_time b) =
      let f : Event → Bool = λ e. shut (job_by e) in
      (by_time (before_from_only f h b), ((only_from f h (before_left b)).1, (only_from f h (before_right b)).1))

  -- its precedences are those of the graph over the ended jobs
  closed_edge : (i j : ℕ) → Precedes (kept_steps (closed h)) i j → Precedes (ended_steps h) i j
  unfolding closed ended_steps
  closed_edge i j r =
      let g = precedes_goes (thin shut h) r in
      let f = thin_goes g.goes in
      let e : Precedes (kept_steps h) i j =
      goes_precedes h (record {
        others = g.others;
        first_kept = λ n. g.first_kept (abandoned_thin shut h n f.1.0);
        second_kept = λ n. g.second_kept (abandoned_thin shut h n f.1.1);
        goes = f.0;
      }) in
      let k = ends_kept h turns i j e in
      precedes_among (has (ended h)) ((has_test (ended h) i).shows (shut_ended k.0 f.1.0)) ((has_test (ended h) j).shows (shut_ended k.1 f.1.1)) e

  pub closed_free : (Circular (ended_steps h) → ⊥) → Circular (kept_steps (closed h)) → ⊥
  closed_free none (z, w) = none (z, within {P = Any} {Q = Any} (λ a b p q. closed_edge a b) (λ x u. u) tt tt w)
