-- The circle test is right, both ways and with the circle as witness; and a circle has two jobs or more.
-- Assumes nothing.
use Rattle.std.specs.Prelude.{◌≡◌, List, ℕ}
use Rattle.std.proofs.Common.{sym, ap, ◌∙◌, ⊎_elim}
use mathlib.Core.List.Memᴰ
use Rattle.graph.specs.Decide.{Decides, eq_test, answer}
use Rattle.graph.specs.Lists.{◌∈◌, later, before_left, before_right, strike_keeps}
use Rattle.graph.specs.Walk.{Via, one, step, Any}
use Rattle.graph.specs.Reach.{circle_test}
use Rattle.history.specs.Events.{Step, Precedes, Circular, acting, has_circle}
use Rattle.history_laws.specs.EventLaws.{precedes_test}

-- whoever has a step is among the jobs that have steps
pub acts : {a : Step} {s : List Step} → a ∈ s → a.job ∈ acting s
acts (Memᴰ.head e) = Memᴰ.head (ap (λ (x : Step). x.job) e)
acts {a} (Memᴰ.tail {x = b} m) = ⊎_elim (λ e. Memᴰ.head e) (λ ne. later (strike_keeps (acts m) ne)) (answer (eq_test a.job b.job))

-- the circle test is right, with the circle as witness
pub has_circle_test : (s : List Step) → Decides (has_circle s) (Circular s)
unfolding has_circle
has_circle_test s =
    circle_test (precedes_test s) (acting s)
    (λ i j p. (Memᴰ.cast (sym p.earlier_job) (acts (before_left p.in_order)), Memᴰ.cast (sym p.later_job) (acts (before_right p.in_order))))

-- a circle has two jobs or more: the second job of a walk is another than the first
pub circle_two : {s : List Step} → Circular s → (i : ℕ) × (j : ℕ) × Precedes s i j × (i ≡ j → ⊥)
circle_two {s} c = second c.1
  where
    apart : {i j : ℕ} → Precedes s i j → (i : ℕ) × (j : ℕ) × Precedes s i j × (i ≡ j → ⊥)
    apart {i} {j} p = (i, j, p, λ e. p.conflicting.others (p.earlier_job ∙ (e ∙ sym p.later_job)))

    second : {i j : ℕ} → Via (Precedes s) Any i j → (i : ℕ) × (j : ℕ) × Precedes s i j × (i ≡ j → ⊥)
    second (one p) = apart p
    second (step p h w) = apart p
