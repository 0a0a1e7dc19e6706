-- Code 17 speaks of conflicting pairs only (R143): a log that has no order, and still an order in which the jobs, run one at a time, read and leave the same.
-- Assumes nothing.
use Rattle.std.specs.Prelude.{◌≡◌, refl, Bool, true, false, ◌&&◌, ◌||◌, cond, List, [], ◌∷◌, ℕ, eqb}
use Rattle.std.proofs.Common.{sym, ◌∙◌, subst, true≢false}
use Rattle.graph.specs.Decide.{some_of}
use Rattle.history.specs.Events.{read, write, opens, steps, History, Step, all_steps, kept_steps}
use Rattle.history.specs.Orders.{layout}
use Rattle.history.specs.Run.{Program, Raise, put, act_as, run, start, writes_at, last_write, adds_by, adds_at, is_none, adds_since, SameSteps, SameSources}
use Rattle.history_laws.specs.Promises.{AsTheLog}
use Rattle.verdicts.specs.Logs.{events, read_log}
use Rattle.verdicts.specs.Verdicts.{verdict, check, refused, list_order}
use Rattle.verdicts.specs.Cases.{log, overwritten, checked, answered}

-- the events of `overwritten`, and the order
abbrev pub blind : History
blind =
    opens 1 ∷ opens 2 ∷ opens 3 ∷ opens 4
    ∷ steps write 1 5 ∷ steps write 2 5 ∷ steps write 2 6 ∷ steps write 1 6
    ∷ steps write 3 5 ∷ steps write 3 6 ∷ steps read 4 5 ∷ steps read 4 6 ∷ []

abbrev pub one_after_the_other : List ℕ
one_after_the_other = 1 ∷ 2 ∷ 3 ∷ 4 ∷ []

-- the log gets 17, and the order 16; but each cell ends with the same write and no adds since, and whatever the jobs compute, they read and leave the same. Of values that name the
-- write that put them down this says that each read follows the same write
pub record SameAnyway (bytes lent order : List ℕ) (h : History) : Type 1 where
  pub reading : read_log bytes ≡ events h
  pub no_order : list_order bytes lent ≡ refused 17 0 lent
  pub turned : check bytes order ≡ verdict 16 7
  pub ends : (c : ℕ) → SameSources c (kept_steps h) (layout (kept_steps h) order)
  pub whatever : (X : Type 0) (raise : Raise X) (f : Program X) (g : ℕ → X) → AsTheLog X raise f g h order

-- by whether the cell is 5, whether it is 6, and whether it is 0, with which the openings stand
blind_lasts : (c : ℕ) → last_write c (kept_steps blind) ≡ last_write c (layout (kept_steps blind) one_after_the_other)
unfolding checked writes_at
blind_lasts c = go (eqb 5 c) (eqb 6 c) (eqb 0 c) refl refl refl
  where
    go : (a b z : Bool) → eqb 5 c ≡ a → eqb 6 c ≡ b → eqb 0 c ≡ z → last_write c (kept_steps blind) ≡ last_write c (layout (kept_steps blind) one_after_the_other)
    go true true true p q r = rw (p, q, r)
    go true true false p q r = rw (p, q, r)
    go true false true p q r = rw (p, q, r)
    go true false false p q r = rw (p, q, r)
    go false true true p q r = rw (p, q, r)
    go false true false p q r = rw (p, q, r)
    go false false true p q r = rw (p, q, r)
    go false false false p q r = rw (p, q, r)

-- where no step is an add, there are no adds since
no_adds : (c : ℕ) (s : List Step) → some_of (λ a. adds_by a.deed) s ≡ false → adds_since c s ≡ []
unfolding adds_at
no_adds c [] e = refl
no_adds c (a ∷ s) e = go (adds_by a.deed) (eqb a.cell c) (some_of (λ x. adds_by x.deed) s) e (no_adds c s)
  where
    go : (b d x : Bool) → b || x ≡ false → (x ≡ false → adds_since c s ≡ []) → cond ((d && b) && is_none (last_write c s)) (a ∷ adds_since c s) (adds_since c s) ≡ []
    go true d x q f = absurd (true≢false q)
    go false true x q f = f q
    go false false x q f = f q

blind_adds : (c : ℕ) → adds_since c (kept_steps blind) ≡ adds_since c (layout (kept_steps blind) one_after_the_other)
unfolding checked
blind_adds c = no_adds c (kept_steps blind) refl ∙ sym (no_adds c (layout (kept_steps blind) one_after_the_other) refl)

blind_ends : (c : ℕ) → SameSources c (kept_steps blind) (layout (kept_steps blind) one_after_the_other)
blind_ends c = record { last = blind_lasts c; since = subst (SameSteps (adds_since c (kept_steps blind))) (blind_adds c) (record { there = λ a m. m; back = λ a m. m }) }

blind_run : (X : Type 0) (raise : Raise X) (f : Program X) (g : ℕ → X) → AsTheLog X raise f g blind one_after_the_other
unfolding checked put act_as
blind_run X raise f g = record { cells = λ c. go c (eqb c 5) (eqb c 6) refl refl; sights = λ j m. refl }
  where
    go : (c : ℕ) (a b : Bool) → eqb c 5 ≡ a → eqb c 6 ≡ b → (run raise f (layout (kept_steps blind) one_after_the_other) (start g)).holds c ≡ (run raise f (all_steps blind) (start g)).holds c
    go c true true p q = rw (p, q)
    go c true false p q = rw (p, q)
    go c false true p q = rw (p, q)
    go c false false p q = rw (p, q)

pub same_anyway : SameAnyway (log overwritten) (7 ∷ 8 ∷ 9 ∷ 9 ∷ []) one_after_the_other blind
unfolding checked answered
same_anyway = record { reading = refl; no_order = refl; turned = refl; ends = blind_ends; whatever = blind_run }
