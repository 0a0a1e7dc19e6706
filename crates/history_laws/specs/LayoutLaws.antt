-- The laws of layouts: what stands in the layout of an order, when it keeps the conflicting pairs, and how it comes from the steps.
--
-- In order: the members of a layout; `keeps_forward` and `forward_keeps`: a layout keeps every conflicting pair exactly when every
-- precedence goes forward in the order; `Rearranged s t`: t comes from s by moving steps to behind steps of other jobs that they do not
-- conflict with; `layout_rearranged`: such a layout is a rearrangement of the steps.
-- Assumes nothing.
use Rattle.std.specs.Prelude.{◌≡◌, refl, List, [], ◌∷◌, ◌++◌, ℕ, eqb}
use Rattle.std.proofs.Common.{sym, ap, ap₂, ◌∙◌, subst, subst₂, ⊎_elim, append_assoc}
use mathlib.Core.List.Memᴰ
use Rattle.graph.specs.Decide.{eq_test, is_true, is_false}
use Rattle.graph.specs.Lists.{◌∈◌, here, later, only_yes, only_no, only_keeps, only_from, Before, first, after, before_nil, before_left, before_right, before_in_right, before_across, before_append, Once, once_one_way, once_irreflexive}
use Rattle.history.specs.Events.{Step, Conflict, Precedes}
use Rattle.history_laws.specs.EventLaws.{precedes_of, precedes_past}
use Rattle.history.specs.Orders.{of_job, layout, Keeps}

-- ---- members and pairs

module _ (s : List Step) where
  -- the steps of a job are the steps whose job it is
  of_job_from : {a : Step} (j : ℕ) → a ∈ of_job j s → (a ∈ s) × (a.job ≡ j)
  of_job_from {a} j m = let r = only_from (λ x. eqb x.job j) s m in (r.0, (eq_test a.job j).holds r.1)

  of_job_has : {a : Step} {j : ℕ} → a ∈ s → a.job ≡ j → a ∈ of_job j s
  of_job_has {a} {j} m e = only_keeps (λ x. eqb x.job j) m ((eq_test a.job j).shows e)

  -- a layout has only steps that were there, of jobs of its order
  pub layout_member : {a : Step} (order : List ℕ) → a ∈ layout s order → (a ∈ s) × (a.job ∈ order)
  layout_member [] m = absurd (Memᴰ.not-nil m)
  layout_member (j ∷ order) m =
      ⊎_elim
      (λ n. let r = of_job_from j n in (r.0, Memᴰ.head r.1))
      (λ n. let r = layout_member order n in (r.0, later r.1))
      (Memᴰ.append_cases (of_job j s) m)

  -- and it has every step of a job of its order
  pub layout_has : {a : Step} {order : List ℕ} → a ∈ s → a.job ∈ order → a ∈ layout s order
  layout_has m (Memᴰ.head {xs = order} e) = Memᴰ.append_left (layout s order) (of_job_has m e)
  layout_has m (Memᴰ.tail {x = j} n) = Memᴰ.append_right (of_job j s) (layout_has m n)

  -- steps of different jobs stand in a layout only as their jobs stand in the order
  pub layout_before : {a b : Step} (order : List ℕ) → (a.job ≡ b.job → ⊥) → Before a b (layout s order) → Before a.job b.job order
  layout_before [] h r = absurd (before_nil r)
  layout_before (j ∷ order) h r =
      ⊎_elim
      (λ n. absurd (h ((of_job_from j (before_left n)).1 ∙ sym (of_job_from j (before_right n)).1)))
      (⊎_elim (λ n. first (of_job_from j n.0).1 (layout_member order n.1).1) (λ n. after (layout_before order h n)))
      (before_append (of_job j s) r)

  -- and they stand in it as their jobs do
  pub before_layout : {a b : Step} {order : List ℕ} → a ∈ s → b ∈ s → Before a.job b.job order → Before a b (layout s order)
  before_layout m n (first e k) = before_across (of_job_has m e) (layout_has n k)
  before_layout m n (after {x = j} r) = before_in_right (of_job j s) (before_layout m n r)

-- every precedence goes forward in the order
abbrev pub Onward : List Step → List ℕ → Type 0
Onward s order = (i j : ℕ) → Precedes s i j → Before i j order

module _ {s : List Step} {order : List ℕ} where
  -- where a layout keeps every conflicting pair, every precedence goes forward in its order
  pub keeps_forward : Keeps s (layout s order) → Onward s order
  keeps_forward k i j p =
      let r = layout_before s order p.conflicting.others (k p.earlier p.later p.in_order p.conflicting) in
      subst₂ (λ x y. Before x y order) p.earlier_job p.later_job r

  -- and the other way round: an order along the precedences is all that keeping the conflicting pairs asks
  pub forward_keeps : Onward s order → Keeps s (layout s order)
  forward_keeps f a b r c = before_layout s (before_left r) (before_right r) (f a.job b.job (precedes_of r c))

-- ---- rearranged

-- two steps of different jobs, of which the first does not conflict with the second after it
pub record Apart (a b : Step) : Type 0 where
  pub others : a.job ≡ b.job → ⊥
  pub calm : Conflict a b → ⊥

-- `Rearranged s t`: t has the steps of s, each moved only to behind steps that it is apart from
pub data Rearranged : List Step → List Step → Type 0 where
  done : Rearranged [] []
  take : {a : Step} {s t : List Step} (u v : List Step) → ((x : Step) → x ∈ u → Apart a x) → Rearranged s (u ++ v) → t ≡ u ++ a ∷ v → Rearranged (a ∷ s) t

-- ---- a layout is a rearrangement

-- a list that has x is a list with x in the middle
cut_at : {X : Type 0} {x : X} (P : List X → Type 0) {l : List X} → x ∈ l → ((p q : List X) → P (p ++ x ∷ q)) → P l
cut_at P (Memᴰ.head {x = y} {xs = l} e) f = subst (λ z. P (z ∷ l)) e (f [] l)
cut_at P (Memᴰ.tail {x = y} m) f = cut_at (λ l. P (y ∷ l)) m (λ p q. f (y ∷ p) q)

-- the layout of two orders end to end
layout_append : (s : List Step) (p q : List ℕ) → layout s (p ++ q) ≡ layout s p ++ layout s q
layout_append s [] q = refl
layout_append s (j ∷ p) q = ap (λ l. of_job j s ++ l) (layout_append s p q) ∙ sym (append_assoc (of_job j s) (layout s p) (layout s q))

-- a step of a job that an order does not name is not in its layout
layout_skips : (a : Step) (s : List Step) (order : List ℕ) → (a.job ∈ order → ⊥) → layout (a ∷ s) order ≡ layout s order
layout_skips a s [] h = refl
layout_skips a s (j ∷ order) h =
    ap₂ ◌++◌ (only_no (λ x. eqb x.job j) a s (is_false (λ t. h (Memᴰ.head ((eq_test a.job j).holds t))))) (layout_skips a s order (λ m. h (later m)))

-- a new first step stands in the layout right after the steps of the jobs before its own
layout_puts : (a : Step) (s : List Step) (p q : List ℕ) → Once (p ++ a.job ∷ q) → layout (a ∷ s) (p ++ a.job ∷ q) ≡ layout s p ++ a ∷ layout s (a.job ∷ q)
layout_puts a s p q o =
    layout_append (a ∷ s) p (a.job ∷ q)
    ∙ ap₂ ◌++◌ (layout_skips a s p (λ m. once_irreflexive o (before_across m here))) (ap₂ ◌++◌ own (layout_skips a s q (λ m. once_irreflexive o (before_in_right p (first refl m)))))
  where
    own : of_job a.job (a ∷ s) ≡ a ∷ of_job a.job s
    own = only_yes (λ x. eqb x.job a.job) a s (is_true ((eq_test a.job a.job).shows refl))

-- nothing comes before a first step in the layout but steps that are apart from it
layout_apart : (a : Step) (s : List Step) (p q : List ℕ) → Once (p ++ a.job ∷ q) → Onward (a ∷ s) (p ++ a.job ∷ q) → (x : Step) → x ∈ layout s p → Apart a x
layout_apart a s p q o f x m = let r = layout_member s p m in record {
  others = λ e. once_irreflexive o (before_across (Memᴰ.cast e r.1) here);
  calm = λ c. once_one_way o (f a.job x.job (precedes_of (first refl r.0) c)) (before_across r.1 here);
}

-- no steps, laid out, are no steps
layout_nothing : (order : List ℕ) → Rearranged [] (layout [] order)
layout_nothing [] = done
layout_nothing (j ∷ order) = layout_nothing order

-- a layout in which every precedence goes forward is a rearrangement of the steps: what no rearrangement changes, it keeps
pub layout_rearranged : {s : List Step} {order : List ℕ} → Once order → ((a : Step) → a ∈ s → a.job ∈ order) → Onward s order → Rearranged s (layout s order)
layout_rearranged {s = []} {order} o n f = layout_nothing order
layout_rearranged {s = a ∷ s} {order} o n f = cut_at Grows (n a here) next o f (layout_rearranged o (λ x m. n x (later m)) (λ i j p. f i j (precedes_past p)))
  where
    Grows : List ℕ → Type 0
    Grows l = Once l → Onward (a ∷ s) l → Rearranged s (layout s l) → Rearranged (a ∷ s) (layout (a ∷ s) l)

    next : (p q : List ℕ) → Grows (p ++ a.job ∷ q)
    next p q o f r = take (layout s p) (layout s (a.job ∷ q)) (layout_apart a s p q o f) (subst (Rearranged s) (layout_append s p (a.job ∷ q)) r) (layout_puts a s p q o)
