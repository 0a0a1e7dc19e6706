-- Laws of the jobs at rest. In order: the tests are right (`leads_test`, `rest_test`), and `resting` has the jobs at rest, each once (`resting_exactly`, `resting_once`); whoever
-- precedes a job at rest is at rest (`rest_before`); the jobs at rest are those outside a set that is closed job by job (`Moving`, `rest_unmoved`); where no job is open, every kept job is
-- at rest (`all_rest`). Of a history that goes on: what precedes a job that had ended did so then (`comes_before`), so a job at rest stays at rest (`rest_stays`), and an order
-- of the jobs at rest can be followed by an order of the others (`sheet_first`).
-- Assumes nothing.
use Rattle.std.specs.Prelude.{◌≡◌, ◌↔◌, not, ℕ}
use Rattle.std.proofs.Common.{sym, ⊎_elim, arith}
use Rattle.std.proofs.Math.Path.{subst}
use Rattle.std.proofs.Math.Option.{some}
use mathlib.Core.List.Memᴰ
use mathlib.Core.List.{List, [], ◌∷◌, ◌++◌, append-nil, append_assoc}
use Rattle.graph.specs.Decide.{Decides, and_test, not_test, read_as, some_test, answer}
use Rattle.graph.specs.Lists.{◌∈◌, only, only_keeps, only_from, only_all, Before, before_right, before_in_left, before_in_right, before_across, before_append, Once, once_if, once_irreflexive, once_only}
use Rattle.graph.specs.Listing.{Forward}
use Rattle.graph.proofs.ListingLaws.{lowest_forward, lowest_first_some, lowest_first_exists}
use Rattle.graph.specs.Reach.{reach_test}
use Rattle.graph.specs.Walk.{Via, one, step, join, relax}
use Rattle.history.specs.Events.{Kind, Event, opens, steps, History, gather, ended_by, abandoned_by, has, ended, abandoned, kept, open_now, kept_steps, Precedes, Circular, acting}
use Rattle.history.specs.Turns.{InTurn, InTurnAfter, Turns}
use Rattle.history.specs.Orders.{Accepted}
use Rattle.history_laws.specs.EventLaws.{precedes_test}
use Rattle.history_laws.specs.CircleLaws.{acts}
use Rattle.history_laws.specs.TurnLaws.{gather_append, ended_grows, old_in, has_test, kept_if, open_from, open_if, Orderly, orderly, orderly_next}
use Rattle.history_laws.specs.OrderLaws.{ends_kept, forward_accepted}
use Rattle.history_laws.specs.TimeLaws.{Goes, by_steps, by_time, precedes_goes, goes_precedes}
use Rattle.verdicts_laws.specs.VerdictLaws.{kept_once}
use Rattle.sheet.specs.Sheet.{Leads, AtRest, leads, at_rest, resting, sheet_of}
use Rattle.sheet.specs.RestLaws.{Moving}

-- ---- the tests are right

module _ (h : History) where
  -- the inner jobs of a chain have steps
  by_acting : {i j : ℕ} → Leads h i j → Via (Precedes (kept_steps h)) (λ m. m ∈ acting (kept_steps h)) i j
  by_acting (one p) = one p
  by_acting (step p n w) = step p (Memᴰ.cast (sym p.later_job) (acts (before_right p.in_order))) (by_acting w)

  pub leads_test : (i j : ℕ) → Decides (leads h i j) (Leads h i j)
  unfolding leads
  leads_test i j = read_as (reach_test (precedes_test (kept_steps h)) (acting (kept_steps h)) i j) (λ w. relax (λ m n. tt) w) by_acting

  pub rest_test : (j : ℕ) → Decides (at_rest h j) (AtRest h j)
  unfolding at_rest
  rest_test j =
      read_as (and_test (has_test (ended h) j) (not_test (some_test (λ i. leads_test i j) (open_now h))))
      (λ r. record { has_ended = r.0; unled = λ i m w. r.1 (i, m, w) })
      (λ r. (r.has_ended, λ l. r.unled l.0 l.1 l.2))

module _ (h : History) (turns : Turns h) where
  -- an ended job is kept
  pub rest_kept : {j : ℕ} → AtRest h j → j ∈ kept h
  rest_kept {j} r = kept_if h ((orderly h turns).ended_opened j r.has_ended) ((orderly h turns).ended_kept j r.has_ended)

  pub resting_exactly : (j : ℕ) → (j ∈ resting h) ↔ AtRest h j
  unfolding resting
  resting_exactly j = (λ m. (rest_test h j).holds (only_from (at_rest h) (kept h) m).1, λ r. only_keeps (at_rest h) (rest_kept r) ((rest_test h j).shows r))

  pub resting_once : Once (resting h)
  unfolding resting
  resting_once = once_only (at_rest h) (kept_once h turns)

  -- whoever precedes a job at rest is at rest: it is not open, and what leads to it leads on
  pub rest_before : {i j : ℕ} → AtRest h j → Precedes (kept_steps h) i j → AtRest h i
  rest_before {i} {j} r p =
      record {
        has_ended = ⊎_elim (λ m. m) (λ n. absurd (r.unled i (open_if h (ends_kept h turns i j p).0 n) (one p))) (answer (has_test (ended h) i));
        unled = λ k m w. r.unled k m (join w tt (one p));
      }

-- the kept jobs that are not in it are those at rest
pub rest_unmoved : {h : History} {M : ℕ → Type 0} → Moving h M → (j : ℕ) → j ∈ kept h → AtRest h j ↔ (M j → ⊥)
rest_unmoved {h} {M} v j m = (
  λ r k. ⊎_elim (λ n. (open_from h n).1 r.has_ended) (λ l. r.unled l.0 l.1 l.2) (v.no_more j k),
  λ f. record { has_ended = ⊎_elim (λ n. n) (λ n. absurd (f (v.open_in j (open_if h m n)))) (answer (has_test (ended h) j)); unled = λ i n w. f (along (v.open_in i n) w) },
)
  where
    along : {i j : ℕ} → M i → Leads h i j → M j
    along {i} {j} k (one p) = v.passes_on i j k p
    along {i} k (step {m = x} p n w) = along (v.passes_on i x k p) w

-- ---- a history that goes on

-- where no job is open, every kept job is at rest
pub all_rest : (h : History) → open_now h ≡ [] → resting h ≡ kept h
unfolding resting
all_rest h none_open = only_all (at_rest h) (kept h) (λ j m. (rest_test h j).shows (record { has_ended = has_ended j m; unled = λ i n w. is_open n }))
  where
    is_open : {i : ℕ} → i ∈ open_now h → ⊥
    is_open {i} n = Memᴰ.not-nil (subst (λ (l : List ℕ). i ∈ l) none_open n)

    has_ended : (j : ℕ) → j ∈ kept h → j ∈ ended h
    has_ended j m = ⊎_elim (λ n. n) (λ n. absurd (is_open (open_if h m n))) (answer (has_test (ended h) j))

module _ (h : History) (es : List Event) where
  pub ended_on : {j : ℕ} → j ∈ ended h → j ∈ ended (h ++ es)
  unfolding ended
  ended_on {j} m = subst (λ (l : List ℕ). j ∈ l) (sym (gather_append ended_by h es)) (Memᴰ.append_left (gather ended_by es) m)

  abandoned_on : {j : ℕ} → j ∈ abandoned h → j ∈ abandoned (h ++ es)
  unfolding abandoned
  abandoned_on {j} m = subst (λ (l : List ℕ). j ∈ l) (sym (gather_append abandoned_by h es)) (Memᴰ.append_left (gather abandoned_by es) m)

-- events in turn, and the others in turn after them
pub turns_split : (g h es : List Event) → InTurnAfter g (h ++ es) → InTurnAfter g h × InTurnAfter (g ++ h) es
turns_split g [] es t = (tt, subst (λ (x : History). InTurnAfter x es) (sym (append-nil g)) t)
turns_split g (e ∷ h) es t =
    let r = turns_split (g ++ e ∷ []) h es t.1 in
    ((t.0, r.0), subst (λ (x : History). InTurnAfter x es) (append_assoc g (e ∷ []) h) r.1)

-- a job that has ended takes no step and is not opened
no_step : (h : History) (es : List Event) → InTurnAfter h es → {j : ℕ} → j ∈ ended h → (k : Kind) (c : ℕ) → steps k j c ∈ es → ⊥
no_step h [] t m k c n = Memᴰ.not-nil n
no_step h (e ∷ es) t {j} m k c n =
    ⊎_elim (λ q. let r : InTurn h (steps k j c) = subst (InTurn h) (sym q) t.0 in (open_from h r.0).1 m)
    (no_step (h ++ e ∷ []) es t.1 (old_in (ended_grows h e) m) k c) (Memᴰ.cases_cons n)

not_opened : (h : History) (es : List Event) → Orderly h → InTurnAfter h es → {j : ℕ} → j ∈ ended h → opens j ∈ es → ⊥
not_opened h [] o t m n = Memᴰ.not-nil n
not_opened h (e ∷ es) o t {j} m n =
    ⊎_elim (λ q. let r : InTurn h (opens j) = subst (InTurn h) (sym q) t.0 in let b = r j (o.ended_opened j m) in omega arith)
    (not_opened (h ++ e ∷ []) es (orderly_next e o t.0) t.1 (old_in (ended_grows h e) m)) (Memᴰ.cases_cons n)

in_front : (h : History) {es : List Event} {a b : Event} → (b ∈ es → ⊥) → Before a b (h ++ es) → Before a b h
in_front h f r = ⊎_elim (λ q. q) (⊎_elim (λ q. absurd (f q.1)) (λ q. absurd (f (before_right q)))) (before_append h r)

-- ---- the sheet first

module _ (h : History) (es : List Event) (turns : Turns (h ++ es)) where
  pub front : Turns h
  front = (turns_split [] h es turns).0

  -- what precedes an ended job does so by what stood there when it ended
  pub comes_before : {i j : ℕ} → j ∈ ended h → Precedes (kept_steps (h ++ es)) i j → Precedes (kept_steps h) i j
  comes_before {i} {j} m p =
      let g = precedes_goes (h ++ es) p in
      goes_precedes h (record { others = g.others; first_kept = λ n. g.first_kept (abandoned_on h es n); second_kept = λ n. g.second_kept (abandoned_on h es n); goes = by g.goes })
    where
      rest : InTurnAfter h es
      rest = (turns_split [] h es turns).1

      by : Goes (h ++ es) i j → Goes h i j
      by (by_steps {l = l} {c = c} t r) = by_steps t (in_front h (no_step h es rest m l c) r)
      by (by_time r) = by_time (in_front h (not_opened h es (orderly h front) rest m) r)

  -- so all that leads to a job at rest has been at rest since then
  led_by_rest : {i j : ℕ} → AtRest h j → Leads (h ++ es) i j → AtRest h i
  led_by_rest r (one p) = rest_before h front r (comes_before r.has_ended p)
  led_by_rest r (step p n w) = let s = led_by_rest r w in rest_before h front s (comes_before s.has_ended p)

  -- and a job at rest stays at rest
  pub rest_stays : {j : ℕ} → AtRest h j → AtRest (h ++ es) j
  rest_stays r = record { has_ended = ended_on h es r.has_ended; unled = λ i m w. (open_from (h ++ es) m).1 (ended_on h es (led_by_rest r w).has_ended) }

-- the jobs of l that are not in c
abbrev others : List ℕ → List ℕ → List ℕ
others c l = only (λ j. not (has c j)) l

-- an order of some jobs, then one of the others, is an order of all, where whoever precedes one of the first jobs is among them and did so in their order
module _ {E F : ℕ → ℕ → Type 0} {l c : List ℕ} (within : (j : ℕ) → j ∈ c → j ∈ l) (closed : (i j : ℕ) → j ∈ c → F i j → (i ∈ c) × E i j) where
  left_out : {j : ℕ} → j ∈ others c l → (j ∈ l) × (j ∈ c → ⊥)
  left_out {j} m = let r = only_from (λ i. not (has c i)) l m in (r.0, (not_test (has_test c j)).holds r.1)

  put_in : {j : ℕ} → j ∈ l → (j ∈ c → ⊥) → j ∈ others c l
  put_in {j} m n = only_keeps (λ i. not (has c i)) m ((not_test (has_test c j)).shows n)

  forward_join : {s r : List ℕ} → Forward E c s → Forward F (others c l) r → Forward F l (s ++ r)
  forward_join {s} {r} f g =
      record {
        once = once_if (s ++ r) (λ j b. ⊎_elim (once_irreflexive f.once) (⊎_elim (λ q. (left_out (g.named j q.1)).1 (f.named j q.0)) (once_irreflexive g.once)) (before_append s b));
        names = λ j m. ⊎_elim (λ n. Memᴰ.append_left r (f.names j n)) (λ n. Memᴰ.append_right s (g.names j (put_in m n))) (answer (has_test c j));
        named = λ j m. ⊎_elim (λ n. within j (f.named j n)) (λ n. (left_out (g.named j n)).0) (Memᴰ.append_cases s m);
        forward = λ i j m n e. ⊎_elim
            (λ jc. let q = closed i j jc e in before_in_left r (f.forward i j q.0 jc q.1))
            (λ jn. ⊎_elim (λ ic. before_across (f.names i ic) (g.names j (put_in n jn))) (λ im. before_in_right s (g.forward i j (put_in m im) (put_in n jn) e)) (answer (has_test c i)))
            (answer (has_test c j));
      }

-- the order of the jobs at rest begins an accepted order of every longer history without a circle
pub sheet_first : (h : History) (es : List Event) → Turns (h ++ es) → (Circular (kept_steps (h ++ es)) → ⊥) → {s : List ℕ} → sheet_of h ≡ some s
    → (rest : List ℕ) × Accepted (h ++ es) (s ++ rest)
unfolding sheet_of
sheet_first h es turns none {s} e =
    let f : Forward (Precedes (kept_steps h)) (resting h) s = lowest_forward (lowest_first_some (precedes_test (kept_steps h)) e) in
    let later = kept_steps (h ++ es) in
    let r = lowest_first_exists (precedes_test later) none (others (resting h) (kept (h ++ es))) in
    let at_rest_in : (j : ℕ) → j ∈ resting h → AtRest h j = λ j m. (resting_exactly h (front h es turns) j).0 m in (
      r.0,
      forward_accepted (h ++ es) turns (forward_join
          (λ j m. rest_kept (h ++ es) turns (rest_stays h es turns (at_rest_in j m)))
          (λ i j m p.
          let q = at_rest_in j m in
          let b = comes_before h es turns q.has_ended p in
          ((resting_exactly h (front h es turns) i).1 (rest_before h (front h es turns) q b), b))
          f (lowest_forward (lowest_first_some (precedes_test later) r.1))),
    )
