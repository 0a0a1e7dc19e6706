-- Orders of a history in turn: an order is accepted exactly when every precedence goes forward in it; an accepted order shows every read
-- the same last write and the same adds since and leaves every cell with the same ones; whatever the jobs compute, it shows every read the same value and leaves every
-- cell the same, where raises can change places; an order exists exactly when there is no circle, and the lowest-first one is the least.
-- Assumes nothing.
use Rattle.std.specs.Prelude.{◌≡◌, Bool, List, ◌∷◌, ◌++◌, ℕ, ◌<◌}
use Rattle.std.proofs.Common.{sym, ap, ◌∙◌, arith}
use Rattle.std.proofs.Math.Bool.{true, false, not}
use Rattle.std.proofs.Math.Option.{none, some}
use mathlib.Core.List.Memᴰ
use Rattle.std.proofs.Math.Dec.{T}
use Rattle.graph.specs.Decide.{not_test, is_false}
use Rattle.graph.specs.Lists.{◌∈◌, before_left, before_right, before_from_only, Once, once_if}
use Rattle.graph.specs.Listing.{Forward, LowestFirst}
use Rattle.graph.proofs.ListingLaws.{lowest_forward, lowest_least, forward_no_circle, lowest_first_some, lowest_first_none, lowest_first_exists, lowest_first_is}
use Rattle.history.specs.Events.{Kind, add, does, History, Step, has, abandoned, kept, all_steps, kept_steps, Precedes, Circular}
use Rattle.history.specs.Turns.{Turns}
use Rattle.history.specs.Orders.{layout, Accepted, order_of}
use Rattle.history.specs.Run.{World, Program, Raise, AnyOrder, run, start, last_write, SameSources}
use Rattle.history_laws.specs.EventLaws.{precedes_test}
use Rattle.history_laws.specs.TurnLaws.{orderly, has_test, kept_from, kept_if, kept_steps_from}
use Rattle.history_laws.specs.LayoutLaws.{keeps_forward, forward_keeps, Rearranged, layout_rearranged}
use Rattle.history_laws.specs.RunLaws.{run_rearranged, sources_rearranged, follows_write, follows_sources, run_kept}

module _ (h : History) (turns : Turns h) where
  -- a kept step's job is kept, and so both jobs of a precedence are
  pub step_kept : (a : Step) → a ∈ kept_steps h → a.job ∈ kept h
  step_kept a m = let r = kept_steps_from h m in kept_if h ((orderly h turns).stepped a r.0) r.1

  pub ends_kept : (i j : ℕ) → Precedes (kept_steps h) i j → (i ∈ kept h) × (j ∈ kept h)
  ends_kept i j p = (
    Memᴰ.cast (sym p.earlier_job) (step_kept p.earlier (before_left p.in_order)),
    Memᴰ.cast (sym p.later_job) (step_kept p.later (before_right p.in_order)),
  )

  -- no step stands twice, as each has its own place
  pub steps_once : Once (kept_steps h)
  unfolding kept_steps
  steps_once = once_if (kept_steps h) (λ a r. let q = (orderly h turns).in_places a a (before_from_only (λ x. not (has (abandoned h) x.job)) (all_steps h) r) in omega arith)

  -- ---- accepted exactly when forward

  pub accepted_forward : {o : List ℕ} → Accepted h o → Forward (Precedes (kept_steps h)) (kept h) o
  accepted_forward a = record { once = a.once; names = a.names; named = a.named; forward = λ i j m n p. keeps_forward a.keeps i j p }

  pub forward_accepted : {o : List ℕ} → Forward (Precedes (kept_steps h)) (kept h) o → Accepted h o
  forward_accepted f =
      record { once = f.once; names = f.names; named = f.named; keeps = forward_keeps (λ i j p. let m = ends_kept i j p in f.forward i j m.0 m.1 p) }

  -- ---- what an accepted order keeps

  module _ {o : List ℕ} (a : Accepted h o) where
    -- its layout is the kept steps with some moved past others that they do not conflict with
    pub laid_out : Rearranged (kept_steps h) (layout (kept_steps h) o)
    laid_out = layout_rearranged a.once (λ x m. a.names x.job (step_kept x m)) (keeps_forward a.keeps)

    pub same_sources : (c : ℕ) → SameSources c (kept_steps h) (layout (kept_steps h) o)
    same_sources c = sources_rearranged laid_out c

    pub same_read : (r : Step) {k : Kind} → r.deed ≡ does k → (k ≡ add → ⊥) → (p q p' q' : List Step) → kept_steps h ≡ p ++ r ∷ q → layout (kept_steps h) o ≡ p' ++ r ∷ q' → SameSources r.cell p p'
    same_read r is n p q p' q' e e' = follows_sources steps_once laid_out r is n p q p' q' e e'

    pub same_write : (r : Step) {k : Kind} → r.deed ≡ does k → (p q p' q' : List Step) → kept_steps h ≡ p ++ r ∷ q → layout (kept_steps h) o ≡ p' ++ r ∷ q' → last_write r.cell p ≡ last_write r.cell p'
    same_write r is p q p' q' e e' = follows_write steps_once laid_out r is p q p' q' e e'

    module _ {ℓ} {X : Type ℓ} (raise : Raise X) (law : AnyOrder raise) (f : Program X) (g : ℕ → X) where
      -- abandoned jobs only read, so the kept steps alone leave what the log leaves
      log_kept : ((c : ℕ) → (run raise f (kept_steps h) (start g)).holds c ≡ (run raise f (all_steps h) (start g)).holds c) × ((j : ℕ) → T (not (has (abandoned h) j)) → (run raise f (kept_steps h) (start g)).seen j ≡ (run raise f (all_steps h) (start g)).seen j)
      unfolding kept_steps
      log_kept =
          run_kept (λ j. not (has (abandoned h) j)) (all_steps h)
          (λ x m t. is_false ((orderly h turns).only_read x m ((has_test (abandoned h) x.job).holds (denied (has (abandoned h) x.job) t)))) raise f (start g)
        where
          denied : (b : Bool) → T (not (not b)) → T b
          denied true t = tt
          denied false t = t

      pub same_cells : (c : ℕ) → (run raise f (layout (kept_steps h) o) (start g)).holds c ≡ (run raise f (all_steps h) (start g)).holds c
      same_cells c = ap (λ (w : World X). w.holds c) (sym (run_rearranged laid_out raise law f (start g))) ∙ log_kept.0 c

      pub same_sights : (j : ℕ) → j ∈ kept h → (run raise f (layout (kept_steps h) o) (start g)).seen j ≡ (run raise f (all_steps h) (start g)).seen j
      same_sights j m =
          ap (λ (w : World X). w.seen j) (sym (run_rearranged laid_out raise law f (start g)))
          ∙ log_kept.1 j ((not_test (has_test (abandoned h) j)).shows (kept_from h m).1)

  -- ---- which orders there are

  -- an accepted order excludes circles
  pub accepted_no_circle : {o : List ℕ} → Accepted h o → Circular (kept_steps h) → ⊥
  accepted_no_circle a = forward_no_circle ends_kept (accepted_forward a)

  pub order_lowest : {o : List ℕ} → order_of h ≡ some o → LowestFirst (Precedes (kept_steps h)) (kept h) o
  unfolding order_of
  order_lowest e = lowest_first_some (precedes_test (kept_steps h)) e

  pub lowest_order : {o : List ℕ} → LowestFirst (Precedes (kept_steps h)) (kept h) o → order_of h ≡ some o
  unfolding order_of
  lowest_order w = lowest_first_is (precedes_test (kept_steps h)) ends_kept w

  pub order_accepted : {o : List ℕ} → order_of h ≡ some o → Accepted h o
  order_accepted e = forward_accepted (lowest_forward (order_lowest e))

  pub no_order_circle : order_of h ≡ none → Circular (kept_steps h)
  unfolding order_of
  no_order_circle e = lowest_first_none (precedes_test (kept_steps h)) (kept h) e

  pub order_exists : (Circular (kept_steps h) → ⊥) → (o : List ℕ) × (order_of h ≡ some o)
  unfolding order_of
  order_exists no_circle = lowest_first_exists (precedes_test (kept_steps h)) no_circle (kept h)

  -- where it first differs from another accepted order, its job is the lower
  pub order_least : (p q r : List ℕ) {i j : ℕ} → order_of h ≡ some (p ++ i ∷ q) → Accepted h (p ++ j ∷ r) → (i ≡ j → ⊥) → i < j
  order_least p q r e a differ = lowest_least p q r (order_lowest e) (accepted_forward a) differ
