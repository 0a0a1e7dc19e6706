-- The laws of events: which pairs clash, no job precedes itself, and the tests of conflict and of precedence decide them.
--
-- In order: `altering`; what writes and adds clash with (`write_before` to `add_after`); `clash_parts`, `ending_calm`; `conflict_test`; a precedence from its two steps, and in another list of steps; `no_self`, `precedes_test`.
-- Assumes nothing.
use Rattle.std.specs.Prelude.{◌≡◌, refl, ◌⊎◌, List, [], ◌∷◌, ℕ, T}
use Rattle.std.proofs.Common.{sym, ap, ◌∙◌, subst, inl, inr, ⊎_elim}
use Rattle.graph.specs.Decide.{Decides, and_test, or_test, not_test, read_as, eq_test, own_test, some_test}
use Rattle.graph.specs.Lists.{◌∈◌, Before, first, after, before_nil, before_cons}
use Rattle.history.specs.Events.{Kind, read, write, add, Deed, does, opening, ending, alters, alters_by, kinds_clash, clash, Step, Conflict, conflict, Precedes, precedes}

-- ---- conflict

-- only a step of a kind alters its cell
pub altering : (d : Deed) → T (alters_by d) → (k : Kind) × (d ≡ does k) × T (alters k)
altering (does k) t = (k, refl, t)
altering opening t = absurd t
altering ending t = absurd t

-- a write clashes with every read, write and add, before them and after them
pub write_before : (k : Kind) → T (kinds_clash write k)
write_before read = tt
write_before write = tt
write_before add = tt

pub write_after : (k : Kind) → T (kinds_clash k write)
write_after read = tt
write_after write = tt
write_after add = tt

-- and an add with all but adds
pub add_before : (k : Kind) → (k ≡ add → ⊥) → T (kinds_clash add k)
add_before read n = tt
add_before write n = tt
add_before add n = absurd (n refl)

pub add_after : (k : Kind) → (k ≡ add → ⊥) → T (kinds_clash k add)
add_after read n = tt
add_after write n = tt
add_after add n = absurd (n refl)

-- two deeds clash by their kinds, or as an end and an opening
pub data Clashing : Deed → Deed → Type 0 where
  as_steps : {k l : Kind} → T (kinds_clash k l) → Clashing (does k) (does l)
  in_time : Clashing ending opening

pub clash_parts : (d e : Deed) → T (clash d e) → Clashing d e
clash_parts (does k) (does l) t = as_steps t
clash_parts (does k) opening t = absurd t
clash_parts (does k) ending t = absurd t
clash_parts opening (does l) t = absurd t
clash_parts opening opening t = absurd t
clash_parts opening ending t = absurd t
clash_parts ending (does l) t = absurd t
clash_parts ending opening t = in_time
clash_parts ending ending t = absurd t

-- nothing clashes with a later end
pub ending_calm : (d : Deed) → T (clash d ending) → ⊥
ending_calm (does k) t = t
ending_calm opening t = t
ending_calm ending t = t

-- the test of conflict is right
pub conflict_test : (a b : Step) → Decides (conflict a b) (Conflict a b)
unfolding conflict
conflict_test a b =
    read_as (and_test (not_test (eq_test a.job b.job)) (and_test (eq_test a.cell b.cell) (own_test (clash a.deed b.deed))))
    (λ r. record { others = r.0; same_cell = r.1.0; clashes = r.1.1 })
    (λ c. (c.others, (c.same_cell, c.clashes)))

-- ---- precedence

-- a conflicting pair makes the job of the one precede the job of the other
pub precedes_of : {s : List Step} {a b : Step} → Before a b s → Conflict a b → Precedes s a.job b.job
precedes_of {s} {a} {b} r c = record { earlier = a; later = b; in_order = r; conflicting = c; earlier_job = refl; later_job = refl }

-- a job precedes another in any list in which a conflicting pair of theirs stands the same way, so also with one step more in front
pub precedes_in : {s t : List Step} {i j : ℕ} (p : Precedes s i j) → Before p.earlier p.later t → Precedes t i j
precedes_in p r = record { earlier = p.earlier; later = p.later; in_order = r; conflicting = p.conflicting; earlier_job = p.earlier_job; later_job = p.later_job }

pub precedes_past : {a : Step} {s : List Step} {i j : ℕ} → Precedes s i j → Precedes (a ∷ s) i j
precedes_past p = precedes_in p (after p.in_order)

-- no job precedes itself, so a circle has two jobs or more
pub no_self : {s : List Step} {i : ℕ} → Precedes s i i → ⊥
no_self p = p.conflicting.others (p.earlier_job ∙ sym p.later_job)

-- the test of precedence is right
pub precedes_test : (s : List Step) (i j : ℕ) → Decides (precedes s i j) (Precedes s i j)
precedes_test [] i j = record { holds = λ t. absurd t; shows = λ p. before_nil p.in_order }
precedes_test (a ∷ s) i j =
    read_as (or_test (and_test (eq_test a.job i) (some_test (λ b. and_test (eq_test b.job j) (conflict_test a b)) s)) (precedes_test s i j)) joins parts
  where
    Here : Type 0
    Here = (a.job ≡ i) × ((b : Step) × (b ∈ s) × ((b.job ≡ j) × Conflict a b))

    joins : Here ⊎ Precedes s i j → Precedes (a ∷ s) i j
    joins (inl (e, (b, m, (f, c)))) = record { earlier = a; later = b; in_order = first refl m; conflicting = c; earlier_job = e; later_job = f }
    joins (inr p) = precedes_past p

    parts : Precedes (a ∷ s) i j → Here ⊎ Precedes s i j
    parts p =
        ⊎_elim
        (λ r. inl (ap (λ (x : Step). x.job) (sym r.0) ∙ p.earlier_job, (p.later, r.1, (p.later_job, subst (λ x. Conflict x p.later) r.0 p.conflicting))))
        (λ r. inr (precedes_in p r))
        (before_cons p.in_order)
