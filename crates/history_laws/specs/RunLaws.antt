-- The laws of runs: what a rearrangement of steps does not change, and what leaving out reads does not change.
--
-- In order: `swaps`: what holds of every swap of two first steps that are apart holds of every rearrangement; what it does not change:
-- `run_rearranged`: the run, where raises can change places; `last_write_rearranged`: the last write of a cell; `sources_rearranged`: the adds since too; `since_none` and
-- `since_write`: these are all adds, or those after the last write; `follows_write`: the last write, before a step, of the cell
-- that the step names, where it is a read, write or add; `follows_sources`: the adds since too, where it is a read or write. Then `run_kept`: a run without the steps of jobs that only read.
-- Assumes nothing.
use Rattle.std.specs.Prelude.{◌≡◌, Bool, not, ◌&&◌, List, [], ◌∷◌, ◌++◌, ℕ}
use Rattle.std.proofs.Math.Path.{refl, sym, ap, fun_ext}
use Rattle.std.proofs.Common.{◌∙◌, subst, subst₂, ⊎_elim, true≢false}
use Rattle.std.proofs.Math.Bool.{true, false, cond}
use Rattle.std.proofs.Math.Option.{Option, none, some}
use mathlib.Core.List.Memᴰ
use Rattle.std.proofs.Math.Dec.{T, eqb, not_T}
use Rattle.graph.specs.Decide.{eq_test, and_test, own_test, answer, is_true, is_false, true_is, false_is}
use Rattle.graph.specs.Lists.{◌∈◌, here, later, only, Once, once_head, once_tail}
use Rattle.history.specs.Events.{Kind, read, write, add, Deed, does, opening, ending, alters_by, kinds_clash, clash, Step}
use Rattle.history_laws.specs.EventLaws.{write_before, write_after, add_before, add_after}
use Rattle.history_laws.specs.LayoutLaws.{Apart, Rearranged, done, take}
use Rattle.history.specs.Run.{Sight, World, Program, Raise, AnyOrder, put, act_as, run, or_before, writes_by, writes_at, last_write, adds_by, adds_at, is_none, adds_since, SameSteps, SameSources}

-- ---- rearranged by swaps

-- steady: a relation of lists of steps that holds where two first steps that are apart are swapped, goes under one step more, and chains
record Steady {ℓ} (R : List Step → List Step → Type ℓ) : Type ℓ where
  same : {s : List Step} → R s s
  chain : {s t u : List Step} → R s t → R t u → R s u
  under : (x : Step) {s t : List Step} → R s t → R (x ∷ s) (x ∷ t)
  swap : {a x : Step} (s : List Step) → Apart a x → R (a ∷ x ∷ s) (x ∷ a ∷ s)

-- a steady relation holds of every rearrangement
module _ {ℓ} {R : List Step → List Step → Type ℓ} (k : Steady R) where
  takes : {a : Step} (u v : List Step) → ((x : Step) → x ∈ u → Apart a x) → R (a ∷ u ++ v) (u ++ a ∷ v)
  takes [] v h = k.same
  takes (x ∷ u) v h = k.chain (k.swap (u ++ v) (h x here)) (k.under x (takes u v (λ y m. h y (later m))))

  swaps : {s t : List Step} → Rearranged s t → R s t
  swaps done = k.same
  swaps (take {a = a} {s = s} u v h r e) = subst (R (a ∷ s)) (sym e) (k.chain (k.under a (swaps r)) (takes u v h))

-- ---- the run

module _ {ℓ} {X : Type ℓ} where
  -- an entry that was not changed, and one that was
  put_other : (i : ℕ) (x : X) (g : ℕ → X) {n : ℕ} → (n ≡ i → ⊥) → put i x g n ≡ g n
  unfolding put
  put_other i x g {n} h = ap (λ (b : Bool). cond b x (g n)) {x = eqb n i} (is_false (λ t. h ((eq_test n i).holds t)))

  put_same : (i : ℕ) (x : X) (g : ℕ → X) → put i x g i ≡ x
  unfolding put
  put_same i x g = ap (λ (b : Bool). cond b x (g i)) {x = eqb i i} (is_true ((eq_test i i).shows refl))

  -- two entries changed, the one first or the other
  puts_swap : {i j : ℕ} → (i ≡ j → ⊥) → (x y : X) (g : ℕ → X) → put j y (put i x g) ≡ put i x (put j y g)
  unfolding put
  puts_swap {i} {j} h x y g = fun_ext (λ n. go (eqb n j) (eqb n i) (g n) (λ t u. h (sym ((eq_test n i).holds u) ∙ (eq_test n j).holds t)))
    where
      go : (b c : Bool) (z : X) → (T b → T c → ⊥) → cond b y (cond c x z) ≡ cond c x (cond b y z)
      go true true z f = absurd (f tt tt)
      go true false z f = refl
      go false true z f = refl
      go false false z f = refl

  -- one entry changed twice
  puts_again : (i : ℕ) (x y : X) (g : ℕ → X) → put i y (put i x g) ≡ put i y g
  unfolding put
  puts_again i x y g = fun_ext (λ n. go (eqb n i) (g n))
    where
      go : (b : Bool) (z : X) → cond b y (cond b x z) ≡ cond b y z
      go true z = refl
      go false z = refl

  -- the same where each is changed by what stood there
  changes_swap : {i j : ℕ} → (i ≡ j → ⊥) → (p q : X → X) (g : ℕ → X)
      → put j (q (put i (p (g i)) g j)) (put i (p (g i)) g) ≡ put i (p (put j (q (g j)) g i)) (put j (q (g j)) g)
  changes_swap {i} {j} h p q g =
      ap (λ x. put j (q x) (put i (p (g i)) g)) (put_other i (p (g i)) g (λ e. h (sym e)))
      ∙ puts_swap h (p (g i)) (q (g j)) g
      ∙ ap (λ x. put i (p x) (put j (q (g j)) g)) (sym (put_other j (q (g j)) g h))

  -- and in one entry, where the changes can change places
  change_again : (i : ℕ) (p q : X → X) (g : ℕ → X) → put i (q (put i (p (g i)) g i)) (put i (p (g i)) g) ≡ put i (q (p (g i))) g
  change_again i p q g = ap (λ x. put i (q x) (put i (p (g i)) g)) (put_same i (p (g i)) g) ∙ puts_again i (p (g i)) (q (p (g i))) g

  changes_any : (i j : ℕ) (p q : X → X) (g : ℕ → X) → ((x : X) → q (p x) ≡ p (q x))
      → put j (q (put i (p (g i)) g j)) (put i (p (g i)) g) ≡ put i (p (put j (q (g j)) g i)) (put j (q (g j)) g)
  changes_any i j p q g law =
      ⊎_elim
      (λ e. subst (λ (n : ℕ). put n (q (put i (p (g i)) g n)) (put i (p (g i)) g) ≡ put i (p (put n (q (g n)) g i)) (put n (q (g n)) g)) e
      (change_again i p q g ∙ ap (λ x. put i x g) (law (g i)) ∙ sym (change_again i q p g)))
      (λ h. changes_swap h p q g)
      (answer (eq_test i j))

-- a step, by what it does
abbrev act {ℓ} : {X : Type ℓ} → Raise X → Program X → Step → World X → World X
act raise f a w = act_as a.deed raise f a w

-- what a job has read, with one read more
abbrev and_saw {ℓ} : {X : Type ℓ} → Step → X → List (Sight X) → List (Sight X)
and_saw a x l = l ++ record { step = a; value = x } ∷ []

-- a cell changed by what stood there and by what the job has read, as a write and an add change it
abbrev change {ℓ} : {X : Type ℓ} → (X → List (Sight X) → X) → Step → World X → World X
change v a w = record { holds = put a.cell (v (w.holds a.cell) (w.seen a.job)) w.holds; seen = w.seen }

module _ {ℓ} {X : Type ℓ} (raise : Raise X) (law : AnyOrder raise) (f : Program X) where
  -- a read and a change of different jobs on different cells, the one first or the other
  read_change : (v : X → List (Sight X) → X) (a b : Step) → (a.job ≡ b.job → ⊥) → (a.cell ≡ b.cell → ⊥) → (w : World X)
      → change v b (act_as (does read) raise f a w) ≡ act_as (does read) raise f a (change v b w)
  unfolding act_as
  read_change v a b h c w = λ i. record {
    holds = put b.cell (v (w.holds b.cell) (put_other a.job (and_saw a (w.holds a.cell) (w.seen a.job)) w.seen (λ e. h (sym e)) i)) w.holds;
    seen = put a.job (and_saw a (sym (put_other b.cell (v (w.holds b.cell) (w.seen b.job)) w.holds c) i) (w.seen a.job)) w.seen;
  }

  -- two changes of different cells
  change_change : (u v : X → List (Sight X) → X) (a b : Step) → (a.cell ≡ b.cell → ⊥) → (w : World X) → change v b (change u a w) ≡ change u a (change v b w)
  change_change u v a b c w = λ i. record { holds = changes_swap c (λ x. u x (w.seen a.job)) (λ x. v x (w.seen b.job)) w.holds i; seen = w.seen }

  -- what a write and an add put down
  abbrev puts : Step → X → List (Sight X) → X
  puts a x l = f a l

  abbrev raises : Step → X → List (Sight X) → X
  raises a x l = raise x (f a l)

  -- any two steps of different jobs, on different cells if their deeds clash
  acts_swap : (d e : Deed) (a b : Step) → (a.job ≡ b.job → ⊥) → (T (clash d e) → a.cell ≡ b.cell → ⊥) → (w : World X)
      → act_as e raise f b (act_as d raise f a w) ≡ act_as d raise f a (act_as e raise f b w)
  unfolding act_as
  acts_swap (does read) (does read) a b h c w = λ i. record { holds = w.holds; seen = changes_swap h (and_saw a (w.holds a.cell)) (and_saw b (w.holds b.cell)) w.seen i }
  acts_swap (does read) (does write) a b h c w = read_change (puts b) a b h (c tt) w
  acts_swap (does read) (does add) a b h c w = read_change (raises b) a b h (c tt) w
  acts_swap (does write) (does read) a b h c w = sym (read_change (puts a) b a (λ e. h (sym e)) (λ e. c tt (sym e)) w)
  acts_swap (does write) (does write) a b h c w = change_change (puts a) (puts b) a b (c tt) w
  acts_swap (does write) (does add) a b h c w = change_change (puts a) (raises b) a b (c tt) w
  acts_swap (does add) (does read) a b h c w = sym (read_change (raises a) b a (λ e. h (sym e)) (λ e. c tt (sym e)) w)
  acts_swap (does add) (does write) a b h c w = change_change (raises a) (puts b) a b (c tt) w
  acts_swap (does add) (does add) a b h c w = λ i. record {
    holds = changes_any a.cell b.cell (λ x. raise x (f a (w.seen a.job))) (λ x. raise x (f b (w.seen b.job))) w.holds (λ x. law x (f a (w.seen a.job)) (f b (w.seen b.job))) i;
    seen = w.seen;
  }
  acts_swap (does k) opening a b h c w = refl
  acts_swap (does k) ending a b h c w = refl
  acts_swap opening e a b h c w = refl
  acts_swap ending e a b h c w = refl

  -- steps that are apart do the same one first or the other
  apart_swap : {a b : Step} → Apart a b → (w : World X) → act raise f b (act raise f a w) ≡ act raise f a (act raise f b w)
  apart_swap {a} {b} p w = acts_swap a.deed b.deed a b p.others (λ t e. p.calm (record { others = p.others; same_cell = e; clashes = t })) w

  -- so the run is left as it is by a swap
  run_steady : Steady (λ s t. (w : World X) → run raise f s w ≡ run raise f t w)
  run_steady = record {
    same = λ w. refl;
    chain = λ p q w. p w ∙ q w;
    under = λ x p w. p (act raise f x w);
    swap = λ s p w. ap (run raise f s) (apart_swap p w);
  }

-- a rearrangement leaves the same in the cells and shows each job the same, where raises can change places
pub run_rearranged {ℓ} : {X : Type ℓ} {s t : List Step} → Rearranged s t → (raise : Raise X) → AnyOrder raise → (f : Program X) (w : World X) → run raise f s w ≡ run raise f t w
run_rearranged r raise law f w = swaps (run_steady raise law f) r w

-- ---- the last write

writing : (d : Deed) → T (writes_by d) → d ≡ does write
writing (does read) t = absurd t
writing (does write) t = refl
writing (does add) t = absurd t
writing opening t = absurd t
writing ending t = absurd t

adding : (d : Deed) → T (adds_by d) → d ≡ does add
adding (does read) t = absurd t
adding (does write) t = absurd t
adding (does add) t = refl
adding opening t = absurd t
adding ending t = absurd t

-- a step writes a cell, or adds to it: it names the cell, and it is a write, or an add
written : (c : ℕ) (a : Step) → T (writes_at c a) → (a.cell ≡ c) × (a.deed ≡ does write)
unfolding writes_at
written c a t = let r = (and_test (eq_test a.cell c) (own_test (writes_by a.deed))).holds t in (r.0, writing a.deed r.1)

added : (c : ℕ) (a : Step) → T (adds_at c a) → (a.cell ≡ c) × (a.deed ≡ does add)
unfolding adds_at
added c a t = let r = (and_test (eq_test a.cell c) (own_test (adds_by a.deed))).holds t in (r.0, adding a.deed r.1)

-- two steps that are apart do not clash on one cell
module _ {a b : Step} (p : Apart a b) where
  not_both : {k l : Kind} → a.deed ≡ does k → b.deed ≡ does l → a.cell ≡ b.cell → T (kinds_clash k l) → ⊥
  not_both q r e t = p.calm (record { others = p.others; same_cell = e; clashes = subst₂ (λ (d e : Deed). T (clash d e)) (sym q) (sym r) t })

  -- if the second names the cell c, the first does not write it, and adds to it only before an add; the same if the first names it
  module _ (c : ℕ) {k : Kind} where
    no_write_before : b.cell ≡ c → b.deed ≡ does k → T (writes_at c a) → ⊥
    no_write_before e q t = let w = written c a t in not_both w.1 q (w.0 ∙ sym e) (write_before k)

    no_write_after : a.cell ≡ c → a.deed ≡ does k → T (writes_at c b) → ⊥
    no_write_after e q t = let w = written c b t in not_both q w.1 (e ∙ sym w.0) (write_after k)

    no_add_before : b.cell ≡ c → b.deed ≡ does k → (k ≡ add → ⊥) → T (adds_at c a) → ⊥
    no_add_before e q n t = let w = added c a t in not_both w.1 q (w.0 ∙ sym e) (add_before k n)

    no_add_after : a.cell ≡ c → a.deed ≡ does k → (k ≡ add → ⊥) → T (adds_at c b) → ⊥
    no_add_after e q n t = let w = added c b t in not_both q w.1 (e ∙ sym w.0) (add_after k n)

-- of two steps that are apart one at most writes the cell, so the last write is left as it is by a swap
last_write_swap : (c : ℕ) {a x : Step} (s : List Step) → Apart a x → last_write c (a ∷ x ∷ s) ≡ last_write c (x ∷ a ∷ s)
last_write_swap c {a} {x} s p =
    go (last_write c s) (writes_at c a) (writes_at c x)
    (λ t u. let v = written c x u in no_write_before p c v.0 v.1 t)
  where
    go : (o : Option Step) (b d : Bool) → (T b → T d → ⊥)
        → or_before (or_before o (cond d (some x) none)) (cond b (some a) none) ≡ or_before (or_before o (cond b (some a) none)) (cond d (some x) none)
    go (some y) b d h = refl
    go none true true h = absurd (h tt tt)
    go none true false h = refl
    go none false true h = refl
    go none false false h = refl

last_write_steady : (c : ℕ) → Steady (λ s t. last_write c s ≡ last_write c t)
last_write_steady c = record {
  same = refl;
  chain = λ p q. p ∙ q;
  under = λ x p. ap (λ o. or_before o (cond (writes_at c x) (some x) none)) p;
  swap = λ s p. last_write_swap c s p;
}

-- the last write of a cell, by which job and where, is the same in a rearrangement
pub last_write_rearranged : {s t : List Step} → Rearranged s t → (c : ℕ) → last_write c s ≡ last_write c t
last_write_rearranged r c = swaps (last_write_steady c) r

-- ---- the adds since

steps_same : {s : List Step} → SameSteps s s
steps_same = record { there = λ a m. m; back = λ a m. m }

steps_chain : {s t u : List Step} → SameSteps s t → SameSteps t u → SameSteps s u
steps_chain p q = record { there = λ a m. q.there a (p.there a m); back = λ a m. p.back a (q.back a m) }

-- one step more in front of both, or in front of neither
steps_under : (b : Bool) (x : Step) {s t : List Step} → SameSteps s t → SameSteps (cond b (x ∷ s) s) (cond b (x ∷ t) t)
steps_under true x {s} {t} p = record { there = λ a m. go (p.there a) m; back = λ a m. go (p.back a) m }
  where
    go : {a : Step} {u v : List Step} → (a ∈ u → a ∈ v) → a ∈ x ∷ u → a ∈ x ∷ v
    go f (Memᴰ.head e) = Memᴰ.head e
    go f (Memᴰ.tail m) = later (f m)
steps_under false x p = p

steps_swap : {a x : Step} {s : List Step} → SameSteps (a ∷ x ∷ s) (x ∷ a ∷ s)
steps_swap = record { there = λ y m. go m; back = λ y m. go m }
  where
    go : {y a x : Step} {s : List Step} → y ∈ a ∷ x ∷ s → y ∈ x ∷ a ∷ s
    go (Memᴰ.head e) = later (Memᴰ.head e)
    go (Memᴰ.tail (Memᴰ.head e)) = Memᴰ.head e
    go (Memᴰ.tail (Memᴰ.tail m)) = later (later m)

-- of two steps that are apart, if the one adds to the cell the other does not write it, so the adds since stay the same steps in a swap
since_swap : (c : ℕ) {a x : Step} (s : List Step) → Apart a x → SameSteps (adds_since c (a ∷ x ∷ s)) (adds_since c (x ∷ a ∷ s))
since_swap c {a} {x} s p =
    go (last_write c s) (adds_at c a) (adds_at c x) (writes_at c a) (writes_at c x)
    (λ t u. let v = added c x u in no_write_before p c v.0 v.1 t)
    (λ t u. let v = added c a t in no_write_after p c v.0 v.1 u)
  where
    l : List Step
    l = adds_since c s

    go : (o : Option Step) (aa ax wa wx : Bool) → (T wa → T ax → ⊥) → (T aa → T wx → ⊥)
        → SameSteps (cond (aa && is_none (or_before o (cond wx (some x) none))) (a ∷ cond (ax && is_none o) (x ∷ l) l) (cond (ax && is_none o) (x ∷ l) l))
        (cond (ax && is_none (or_before o (cond wa (some a) none))) (x ∷ cond (aa && is_none o) (a ∷ l) l) (cond (aa && is_none o) (a ∷ l) l))
    go (some y) true true wa wx h k = steps_same
    go (some y) true false wa wx h k = steps_same
    go (some y) false true wa wx h k = steps_same
    go (some y) false false wa wx h k = steps_same
    go none true true true wx h k = absurd (h tt tt)
    go none true true false true h k = absurd (k tt tt)
    go none true true false false h k = steps_swap
    go none true false wa true h k = absurd (k tt tt)
    go none true false wa false h k = steps_same
    go none false true true wx h k = absurd (h tt tt)
    go none false true false wx h k = steps_same
    go none false false wa wx h k = steps_same

sources_steady : (c : ℕ) → Steady (SameSources c)
sources_steady c = record {
  same = record { last = refl; since = steps_same };
  chain = λ p q. record { last = p.last ∙ q.last; since = steps_chain p.since q.since };
  under = λ x {s = s} {t = t} p. record {
    last = (last_write_steady c).under x {s = s} {t = t} p.last;
    since = subst (λ (o : Option Step). SameSteps (adds_since c (x ∷ s)) (cond (adds_at c x && is_none o) (x ∷ adds_since c t) (adds_since c t))) p.last (steps_under (adds_at c x && is_none (last_write c s)) x p.since);
  };
  swap = λ s p. record { last = last_write_swap c s p; since = since_swap c s p };
}

-- the last write of a cell and the adds since, by which jobs and where, are the same in a rearrangement
pub sources_rearranged : {s t : List Step} → Rearranged s t → (c : ℕ) → SameSources c s t
sources_rearranged r c = swaps (sources_steady c) r

-- where a cell is not written, the adds since are all adds on it
pub since_none : (c : ℕ) (s : List Step) → last_write c s ≡ none → adds_since c s ≡ only (adds_at c) s
since_none c [] e = refl
since_none c (a ∷ s) e = go (last_write c s) (adds_at c a) e (since_none c s)
  where
    go : (o : Option Step) (b : Bool) → or_before o (cond (writes_at c a) (some a) none) ≡ none → (o ≡ none → adds_since c s ≡ only (adds_at c) s)
        → cond (b && is_none o) (a ∷ adds_since c s) (adds_since c s) ≡ cond b (a ∷ only (adds_at c) s) (only (adds_at c) s)
    go (some y) b q f = absurd (true≢false (ap is_none (sym q)))
    go none true q f = ap (λ (l : List Step). a ∷ l) (f refl)
    go none false q f = f refl

-- after its last write, all adds that come after that
pub since_write : (c : ℕ) (p : List Step) (a : Step) (q : List Step) → T (writes_at c a) → last_write c q ≡ none → adds_since c (p ++ a ∷ q) ≡ only (adds_at c) q
since_write c [] a q t e = go (adds_at c a) (λ u. let z : does write ≡ does add = sym (written c a t).1 ∙ (added c a u).1 in true≢false (ap writes_by z)) ∙ since_none c q e
  where
    go : (b : Bool) → (T b → ⊥) → cond (b && is_none (last_write c q)) (a ∷ adds_since c q) (adds_since c q) ≡ adds_since c q
    go true f = absurd (f tt)
    go false f = refl
since_write c (x ∷ p) a q t e = go (adds_at c x) (is_none (last_write c (p ++ a ∷ q))) (some_left p) ∙ since_write c p a q t e
  where
    either : (o : Option Step) (b : Bool) → T b → is_none (or_before o (cond b (some a) none)) ≡ false
    either (some y) b u = refl
    either none true u = refl
    either none false u = absurd u

    longer : (o : Option Step) (y : Option Step) → is_none o ≡ false → is_none (or_before o y) ≡ false
    longer (some z) y h = refl
    longer none y h = absurd (true≢false h)

    some_left : (l : List Step) → is_none (last_write c (l ++ a ∷ q)) ≡ false
    some_left [] = either (last_write c q) (writes_at c a) t
    some_left (y ∷ l) = longer (last_write c (l ++ a ∷ q)) (cond (writes_at c y) (some y) none) (some_left l)

    go : (b d : Bool) → d ≡ false → cond (b && d) (x ∷ adds_since c (p ++ a ∷ q)) (adds_since c (p ++ a ∷ q)) ≡ adds_since c (p ++ a ∷ q)
    go true true h = absurd (true≢false h)
    go true false h = refl
    go false d h = refl

-- ---- before a step

-- `Place r p s`: r stands in s right after p
data Place (r : Step) : List Step → List Step → Type 0 where
  found : {x : Step} {s : List Step} → x ≡ r → Place r [] (x ∷ s)
  past : {x : Step} {p s : List Step} → Place r p s → Place r (x ∷ p) (x ∷ s)

module _ {r : Step} where
  -- a place read off, and in a list with every step once there is one place only
  place : (p q : List Step) → Place r p (p ++ r ∷ q)
  place [] q = found refl
  place (x ∷ p) q = past (place p q)

  place_in : {p s : List Step} → Place r p s → r ∈ s
  place_in (found e) = Memᴰ.head (sym e)
  place_in (past m) = later (place_in m)

  place_one : {p q s : List Step} → Once s → Place r p s → Place r q s → p ≡ q
  place_one o (found e) (found d) = refl
  place_one o (found e) (past n) = absurd (once_head o (Memᴰ.cast e (place_in n)))
  place_one o (past m) (found e) = absurd (once_head o (Memᴰ.cast e (place_in m)))
  place_one o (past {x = x} m) (past n) = ap (λ l. x ∷ l) (place_one (once_tail o) m n)

-- a steady relation, by which a step that is apart from r, before it or after it, is as none
module _ {R : List Step → List Step → Type 0} (k : Steady R) (r : Step) (front : (a : Step) → Apart a r → R (a ∷ []) []) (back : (a : Step) → Apart r a → R [] (a ∷ [])) where
  -- wherever r stands in t, it stands in s, and what comes before it is as it is in t
  abbrev Follows : List Step → List Step → Type 0
  Follows s t = (q : List Step) → Place r q t → (p : List Step) × Place r p s × R p q

  -- so it does with one step more in front of both
  follows_under : (x : Step) {s t : List Step} → Follows s t → Follows (x ∷ s) (x ∷ t)
  follows_under x f q (found e) = ([], found e, k.same)
  follows_under x f q (past {p = l} m) = let (p, n, e) = f l m in (x ∷ p, past n, k.under x e)

  -- and before a swap and after it
  follows_swap : {a x : Step} (s : List Step) → Apart a x → Follows (a ∷ x ∷ s) (x ∷ a ∷ s)
  follows_swap {a} {x} s p q (found e) = (a ∷ [], past (found e), front a (subst (λ (z : Step). Apart a z) e p))
  follows_swap {a} {x} s p q (past (found e)) = ([], found e, back x (subst (λ (z : Step). Apart z x) e p))
  follows_swap {a} {x} s p q (past (past {p = l} m)) = (a ∷ x ∷ l, past (past m), k.swap l p)

  follows_steady : Steady Follows
  follows_steady = record {
    same = λ q m. (q, m, k.same);
    chain = λ f g q m. let (l, n, e) = g q m in let (p, j, d) = f l n in (p, j, k.chain d e);
    under = follows_under;
    swap = follows_swap;
  }

  -- so before r the relation holds of every rearrangement
  follows : {s t : List Step} → Once s → Rearranged s t → (p q p' q' : List Step) → s ≡ p ++ r ∷ q → t ≡ p' ++ r ∷ q' → R p p'
  follows o w p q p' q' e d =
      let (l, m, z) = swaps follows_steady w p' (subst (Place r p') (sym d) (place p' q')) in
      subst (λ (x : List Step). R x p') (sym (place_one o (subst (Place r p) (sym e) (place p q)) m)) z

-- a step that does not write the cell is as none to its last write, and one that does not add to it either is as none to the adds since
no_last : (c : ℕ) (a : Step) → (T (writes_at c a) → ⊥) → last_write c (a ∷ []) ≡ none
no_last c a f = ap (λ (b : Bool). cond b (some a) none) {x = writes_at c a} (is_false f)

no_sources : (c : ℕ) (a : Step) → (T (writes_at c a) → ⊥) → (T (adds_at c a) → ⊥) → SameSources c (a ∷ []) []
no_sources c a f g = record { last = no_last c a f; since = subst (λ (l : List Step). SameSteps l []) (sym (ap (λ (b : Bool). cond (b && true) (a ∷ []) []) {x = adds_at c a} (is_false g))) steps_same }

sources_sym : {c : ℕ} {s t : List Step} → SameSources c s t → SameSources c t s
sources_sym p = record { last = sym p.last; since = record { there = p.since.back; back = p.since.there } }

module _ {s t : List Step} (o : Once s) (w : Rearranged s t) (r : Step) {k : Kind} (is : r.deed ≡ does k) where
  -- each read, write and add follows the same write in a rearrangement: the last write of its cell before it is the same
  pub follows_write : (p q p' q' : List Step) → s ≡ p ++ r ∷ q → t ≡ p' ++ r ∷ q' → last_write r.cell p ≡ last_write r.cell p'
  follows_write =
      follows (last_write_steady r.cell) r (λ a p. no_last r.cell a (no_write_before p r.cell refl is))
      (λ a p. sym (no_last r.cell a (no_write_after p r.cell refl is))) o w

  -- each read and write follows the same adds since, too
  pub follows_sources : (k ≡ add → ⊥) → (p q p' q' : List Step) → s ≡ p ++ r ∷ q → t ≡ p' ++ r ∷ q' → SameSources r.cell p p'
  follows_sources n =
      follows (sources_steady r.cell) r (λ a p. no_sources r.cell a (no_write_before p r.cell refl is) (no_add_before p r.cell refl is n))
      (λ a p. sources_sym (no_sources r.cell a (no_write_after p r.cell refl is) (no_add_after p r.cell refl is n))) o w

-- ---- reads left out

-- the same in the cells, and the same shown to the jobs of g
record Alike {ℓ} {X : Type ℓ} (g : ℕ → Bool) (w w' : World X) : Type ℓ where
  cells : (c : ℕ) → w.holds c ≡ w'.holds c
  shown : (j : ℕ) → T (g j) → w.seen j ≡ w'.seen j

-- the steps of the jobs of g
abbrev of_jobs : (ℕ → Bool) → List Step → List Step
of_jobs g s = only (λ a. g a.job) s

-- the other jobs only read
abbrev OthersRead : (ℕ → Bool) → List Step → Type 0
OthersRead g s = (a : Step) → a ∈ s → T (not (g a.job)) → alters_by a.deed ≡ false

module _ {ℓ} {X : Type ℓ} (g : ℕ → Bool) (raise : Raise X) (f : Program X) where
  -- a step of a job of g does the same in both worlds
  alike_act : (d : Deed) (a : Step) {w w' : World X} → T (g a.job) → Alike g w w' → Alike g (act_as d raise f a w) (act_as d raise f a w')
  unfolding act_as put
  alike_act (does read) a t h =
      record { cells = h.cells; shown = λ j u i. cond (eqb j a.job) (and_saw a (h.cells a.cell i) (h.shown a.job t i)) (h.shown j u i) }
  alike_act (does write) a t h = record { cells = λ c i. cond (eqb c a.cell) (f a (h.shown a.job t i)) (h.cells c i); shown = h.shown }
  alike_act (does add) a t h = record { cells = λ c i. cond (eqb c a.cell) (raise (h.cells a.cell i) (f a (h.shown a.job t i))) (h.cells c i); shown = h.shown }
  alike_act opening a t h = h
  alike_act ending a t h = h

  -- and a step of another job, which is no write and no add, does nothing that counts
  alike_skip : (d : Deed) (a : Step) {w w' : World X} → g a.job ≡ false → alters_by d ≡ false → Alike g w w' → Alike g w (act_as d raise f a w')
  unfolding act_as
  alike_skip (does read) a {w} {w'} n e h =
      let new = and_saw a (w'.holds a.cell) (w'.seen a.job) in
      record { cells = h.cells; shown = λ j u. h.shown j u ∙ sym (put_other a.job new w'.seen (λ d. false_is n (subst (λ (z : ℕ). T (g z)) d u))) }
  alike_skip (does write) a n e h = absurd (true≢false e)
  alike_skip (does add) a n e h = absurd (true≢false e)
  alike_skip opening a n e h = h
  alike_skip ending a n e h = h

  -- so two worlds alike stay alike, where one runs without the steps of the other jobs
  alike_run : (s : List Step) → OthersRead g s → (w w' : World X) → Alike g w w' → Alike g (run raise f (of_jobs g s) w) (run raise f s w')
  alike_run [] k w w' h = h
  alike_run (a ∷ s) k w w' h = go (g a.job) refl (λ v. alike_run s (λ x m. k x (later m)) v (act raise f a w'))
    where
      go : (b : Bool) → g a.job ≡ b → ((v : World X) → Alike g v (act raise f a w') → Alike g (run raise f (of_jobs g s) v) (run raise f s (act raise f a w')))
          → Alike g (run raise f (cond b (a ∷ of_jobs g s) (of_jobs g s)) w) (run raise f s (act raise f a w'))
      go true e rest = rest (act raise f a w) (alike_act a.deed a (true_is e) h)
      go false e rest = rest w (alike_skip a.deed a e (k a here (not_T (g a.job) (false_is e))) h)

-- leaving out the steps of some jobs, all of them reads, changes neither the cells nor what the jobs that are kept see
pub run_kept {ℓ} : {X : Type ℓ} (g : ℕ → Bool) (s : List Step) → OthersRead g s → (raise : Raise X) (f : Program X) (w : World X)
    → ((c : ℕ) → (run raise f (of_jobs g s) w).holds c ≡ (run raise f s w).holds c) × ((j : ℕ) → T (g j) → (run raise f (of_jobs g s) w).seen j ≡ (run raise f s w).seen j)
run_kept g s k raise f w = let r = alike_run g raise f s k w w (record { cells = λ c. refl; shown = λ j t. refl }) in (r.cells, r.shown)
