-- The laws of groups, over any grouping: a history and the same one with each cell replaced by its group have the same jobs, opened, ended, abandoned, kept and open,
-- and their steps stand in the same places (`kept_grouped`); so a precedence by cells is one by groups, and a circle is one (`group_precedes`, `group_circle`). Of `group`:
-- the bound of the groups is that of the cells (`group_bound`).
-- Assumes nothing.
use Rattle.std.specs.Prelude.{◌≡◌, refl, Bool, true, false, ◌&&◌, ◌||◌, cond, leb}
use Rattle.std.proofs.Common.{sym, ◌∙◌, subst, arith, div-lt_iff_lt-mul}
use Rattle.std.proofs.Math.Path.{ap, ap₂}
use Rattle.std.proofs.Math.Bool.{not}
use mathlib.Core.List.Memᴰ
use mathlib.Core.List.{List, [], ◌∷◌, ◌++◌, map, map-append}
use Prim.Native.Nat.{ℕ, zero, suc, ◌≤◌, ◌<◌}
use Rattle.std.proofs.Math.Dec.{eqb}
use Rattle.graph.specs.Decide.{some_of, same_test, le_test}
use Rattle.graph.specs.Lists.{◌∈◌, later, only, Before, first, after}
use Rattle.graph.specs.Walk.{carry}
use Rattle.history.specs.Events.{Deed, does, opening, ending, alters_by, Event, opens, steps, ends, abandons, History, gather, opened_by, ended_by, abandoned_by, has, opened, ended, abandoned, kept, open_now, Step, step_at, step_by, steps_from, all_steps, kept_steps, wrote, Conflict, Precedes, Circular}
use Rattle.history.specs.Replies.{cells}
use Rattle.history_laws.specs.EventLaws.{Clashing, as_steps, in_time, clash_parts}
use Rattle.coarse.specs.Coarse.{coarse_cells, group, grouped_event, grouped}

-- ---- lists

pub map_in : {X Y : Type 0} (f : X → Y) {x : X} {l : List X} → x ∈ l → f x ∈ map f l
map_in f (Memᴰ.head e) = Memᴰ.head (ap f e)
map_in f (Memᴰ.tail m) = later (map_in f m)

pub map_before : {X Y : Type 0} (f : X → Y) {a b : X} {l : List X} → Before a b l → Before (f a) (f b) (map f l)
map_before f (first e m) = first (ap f e) (map_in f m)
map_before f (after r) = after (map_before f r)

-- what passes after a change is what passes a test of the changed, changed
only_map : {X Y : Type 0} (f : X → Y) (p : Y → Bool) (l : List X) → only p (map f l) ≡ map f (only (λ x. p (f x)) l)
only_map f p [] = refl
only_map f p (x ∷ l) = go (p (f x)) (only_map f p l)
  where
    go : (b : Bool) → only p (map f l) ≡ map f (only (λ x. p (f x)) l) → cond b (f x ∷ only p (map f l)) (only p (map f l)) ≡ map f (cond b (x ∷ only (λ x. p (f x)) l) (only (λ x. p (f x)) l))
    go true e = ap (λ (r : List _). f x ∷ r) e
    go false e = e

some_map : {X Y : Type 0} (f : X → Y) (p : Y → Bool) (l : List X) → some_of p (map f l) ≡ some_of (λ x. p (f x)) l
some_map f p [] = refl
some_map f p (x ∷ l) = ap (λ (b : Bool). p (f x) || b) (some_map f p l)

-- ---- the bound

-- a group above 255 is a cell above 4,095
pub group_below : (c : ℕ) → (c < coarse_cells → group c < cells) × (group c < cells → c < coarse_cells)
unfolding group
group_below c = let q = div-lt_iff_lt-mul {k = 16} {x = c} {y = 256} (omega arith) in (λ h. q.1 h, λ h. q.0 h)

pub group_bound : (c : ℕ) → leb cells (group c) ≡ leb coarse_cells c
group_bound c =
    same_test (le_test cells (group c)) (le_test coarse_cells c)
    (λ p. by_contra (λ q. let z = (group_below c).0 q in omega arith))
    (λ p. by_contra' (λ q. let z = (group_below c).1 q in omega arith))
  where
    by_contra : (c < coarse_cells → ⊥) → coarse_cells ≤ c
    by_contra n = omega arith

    by_contra' : (group c < cells → ⊥) → cells ≤ group c
    by_contra' n = omega arith

-- ---- the jobs of a grouped history

module _ (g : ℕ → ℕ) where
  gather_grouped : {X : Type 0} (f : Event → List X) → ((e : Event) → f (grouped_event g e) ≡ f e) → (h : History) → gather f (grouped g h) ≡ gather f h
  gather_grouped f same [] = refl
  gather_grouped f same (e ∷ h) = ap₂ ◌++◌ (same e) (gather_grouped f same h)

  same_opened : (e : Event) → opened_by (grouped_event g e) ≡ opened_by e
  same_opened (opens j) = refl
  same_opened (steps k j c) = refl
  same_opened (ends j) = refl
  same_opened (abandons j) = refl

  same_ended : (e : Event) → ended_by (grouped_event g e) ≡ ended_by e
  same_ended (opens j) = refl
  same_ended (steps k j c) = refl
  same_ended (ends j) = refl
  same_ended (abandons j) = refl

  same_abandoned : (e : Event) → abandoned_by (grouped_event g e) ≡ abandoned_by e
  same_abandoned (opens j) = refl
  same_abandoned (steps k j c) = refl
  same_abandoned (ends j) = refl
  same_abandoned (abandons j) = refl

  pub opened_grouped : (h : History) → opened (grouped g h) ≡ opened h
  unfolding opened
  opened_grouped h = gather_grouped opened_by same_opened h

  pub ended_grouped : (h : History) → ended (grouped g h) ≡ ended h
  unfolding ended
  ended_grouped h = gather_grouped ended_by same_ended h

  pub abandoned_grouped : (h : History) → abandoned (grouped g h) ≡ abandoned h
  unfolding abandoned
  abandoned_grouped h = gather_grouped abandoned_by same_abandoned h

  pub kept_jobs_grouped : (h : History) → kept (grouped g h) ≡ kept h
  unfolding kept
  kept_jobs_grouped h = ap₂ (λ (a o : List ℕ). only (λ j. not (has a j)) o) (abandoned_grouped h) (opened_grouped h)

  pub open_grouped : (h : History) → open_now (grouped g h) ≡ open_now h
  unfolding open_now
  open_grouped h = ap₂ (λ (e k : List ℕ). only (λ j. not (has e j)) k) (ended_grouped h) (kept_jobs_grouped h)

  -- ---- its steps

  -- an opening and an end name no cell, and keep their 0
  abbrev cell_by : Deed → ℕ → ℕ
  cell_by (does k) c = g c
  cell_by opening c = c
  cell_by ending c = c

  abbrev pub grouped_step : Step → Step
  grouped_step a = step_at a.at a.deed a.job (cell_by a.deed a.cell)

  step_grouped : (n : ℕ) (e : Event) → step_by n (grouped_event g e) ≡ map grouped_step (step_by n e)
  step_grouped n (opens j) = refl
  step_grouped n (steps k j c) = refl
  step_grouped n (ends j) = refl
  step_grouped n (abandons j) = refl

  steps_grouped : (n : ℕ) (h : History) → steps_from n (grouped g h) ≡ map grouped_step (steps_from n h)
  steps_grouped n [] = refl
  steps_grouped n (e ∷ h) = ap₂ ◌++◌ (step_grouped n e) (steps_grouped (suc n) h) ∙ sym (map-append grouped_step (step_by n e) (steps_from (suc n) h))

  pub all_grouped : (h : History) → all_steps (grouped g h) ≡ map grouped_step (all_steps h)
  unfolding all_steps
  all_grouped h = steps_grouped zero h

  pub kept_grouped : (h : History) → kept_steps (grouped g h) ≡ map grouped_step (kept_steps h)
  unfolding kept_steps
  kept_grouped h =
      ap₂ (λ (a : List ℕ) (s : List Step). only (λ x. not (has a x.job)) s) (abandoned_grouped h) (all_grouped h)
      ∙ only_map grouped_step (λ x. not (has (abandoned h) x.job)) (all_steps h)

  pub wrote_grouped : (h : History) (j : ℕ) → wrote (grouped g h) j ≡ wrote h j
  unfolding wrote
  wrote_grouped h j =
      ap (some_of (λ s. eqb s.job j && alters_by s.deed)) (all_grouped h) ∙ some_map grouped_step (λ s. eqb s.job j && alters_by s.deed) (all_steps h)

  -- ---- precedence and circles

  -- a conflict by cells is one by groups: an end and an opening have no cell, and two steps on one cell are on one group
  conflict_grouped : {a b : Step} → Conflict a b → Conflict (grouped_step a) (grouped_step b)
  conflict_grouped {a} {b} c = record { others = c.others; same_cell = together (clash_parts a.deed b.deed c.clashes); clashes = c.clashes }
    where
      together : {d e : Deed} → Clashing d e → cell_by d a.cell ≡ cell_by e b.cell
      together (as_steps t) = ap g c.same_cell
      together in_time = c.same_cell

  pub group_precedes : (h : History) (i j : ℕ) → Precedes (kept_steps h) i j → Precedes (kept_steps (grouped g h)) i j
  group_precedes h i j p =
      record {
        earlier = grouped_step p.earlier;
        later = grouped_step p.later;
        in_order = subst (Before (grouped_step p.earlier) (grouped_step p.later)) (sym (kept_grouped h)) (map_before grouped_step p.in_order);
        conflicting = conflict_grouped p.conflicting;
        earlier_job = p.earlier_job;
        later_job = p.later_job;
      }

  pub group_circle : (h : History) → Circular (kept_steps h) → Circular (kept_steps (grouped g h))
  group_circle h z = (z.0, carry (group_precedes h) (λ i n. n) z.1)
