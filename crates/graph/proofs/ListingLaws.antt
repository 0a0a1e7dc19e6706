-- Laws of the orders of Listing.antt.
--
-- `Preceded E l j`: some job of l precedes j. In order: a list each of whose jobs is preceded in it has a circle (`stuck`); a forward
-- order, its first place taken off and put back (`forward_head`, `forward_tail`, `forward_cons`); a forward order excludes circles
-- (`forward_no_circle`); lowest-first is forward (`lowest_forward`), is the only list with its property (`lowest_only`), and has the lower
-- job where it first differs from another forward order (`lowest_least`); `lowest_first` computes the lowest-first order, or there is a
-- circle (`listed`, and `lowest-first-…` for each use of it); an order at each of whose places one job only could stand is the only forward
-- one (`forced_only`).
-- Assumes nothing.
use Rattle.std.specs.Prelude.{◌≡◌, refl, Bool, not, cond, ℕ, zero, suc, ◌≤◌, ◌<◌, T, length}
use Rattle.std.proofs.Common.{sym, ap, ap₂, ◌∙◌, subst, ⊎_elim, le_refl, le_trans, le_antisymm, le_of_suc-le-suc, not-suc-le-zero, arith}
use Rattle.std.proofs.Math.Option.{Option, none, some}
use mathlib.Core.List.Memᴰ
use mathlib.Core.List.{List, [], ◌∷◌, ◌++◌}
use Rattle.graph.specs.Decide.{Decides, and_test, or_test, not_test, eq_test, le_test, own_test, by_test, read_as, answer, some_test, every_test}
use Rattle.graph.specs.Lists.{other, each, ◌∈◌, here, later, Before, first, after, before_cons, before_right, Once, more, once_head, once_tail, once_irreflexive, once_transitive, strike, strike_keeps, strike_from, strike_shorter, mem_test}
use Rattle.graph.specs.Walk.{Via, one, step, Any, Circle, join}
use Rattle.graph.specs.Listing.{Ready, Forward, LowestFirst, done, next, ready, lower, lowest_ready, prepend, place, listing, lowest_first, forced}
use Rattle.graph.specs.ListingLaws.{Listed, Preceded, found, stuck_at}

-- ---- jobs that are preceded

-- ready is not preceded, with `F i` for `E i j`
is_ready : {F : ℕ → Type 0} {l : List ℕ} → ((i : ℕ) × (i ∈ l) × F i → ⊥) → (i : ℕ) → i ∈ l → F i → ⊥
is_ready f i m e = f (i, m, e)

not_ready : {F : ℕ → Type 0} {l : List ℕ} → (i : ℕ) × (i ∈ l) × F i → ((i : ℕ) → i ∈ l → F i → ⊥) → ⊥
not_ready p r = r p.0 p.1 p.2

-- ---- what is computed

module _ {E : ℕ → ℕ → Type 0} where
  start_at : {i k j : ℕ} → i ≡ k → Via E Any i j → Via E Any k j
  start_at {j = j} q w = subst (λ (i : ℕ). Via E Any i j) q w

  -- why a listing gets stuck: where each job of a list is preceded in it, by a walk, there is a circle
  pub stuck : (x : ℕ) (l : List ℕ) → ((j : ℕ) → j ∈ x ∷ l → Preceded (Via E Any) (x ∷ l) j) → Circle E
  stuck x [] h = let r = h x here in (x, start_at (Memᴰ.eq_of_singleton r.1) r.2)
  stuck x (y ∷ l) h =
      let r = h x here in
      ⊎_elim
      (λ q. (x, start_at q r.2))
      (λ m. stuck y l (λ j n. let s = h j (later n) in ⊎_elim (λ q. (r.0, m, join r.2 tt (start_at q s.2))) (λ k. (s.0, k, s.2)) (Memᴰ.cases_cons s.1)))
      (Memᴰ.cases_cons r.1)

  -- ---- forward orders, by their first place

  -- whatever stands first was free to: nothing that is left precedes it
  pub forward_head : {x : ℕ} {l o : List ℕ} → Forward E l (x ∷ o) → (x ∈ l) × Ready E l x
  forward_head {x} f =
      let m = f.named x here in
      (m, λ i n e. once_head f.once (⊎_elim (λ r. r.1) before_right (before_cons (f.forward i x n m e))))

  -- the rest of an order is an order of the jobs that are left
  pub forward_tail : {x : ℕ} {l o : List ℕ} → Forward E l (x ∷ o) → Forward E (strike x l) o
  forward_tail {x} {l} f =
      record {
        once = once_tail f.once;
        names = λ j m. let s = strike_from x l m in other s.1 (Memᴰ.cases_cons (f.names j s.0));
        named = λ j m. strike_keeps (f.named j (later m)) (λ q. once_head f.once (Memᴰ.cast (sym q) m));
        forward = λ i j m n e. let s = strike_from x l m in other (λ r. s.1 r.0) (before_cons (f.forward i j s.0 (strike_from x l n).0 e));
      }

  -- a ready job may be put before any order of the others
  pub forward_cons : {x : ℕ} {l o : List ℕ} → x ∈ l → Ready E l x → Forward E (strike x l) o → Forward E l (x ∷ o)
  forward_cons {x} {l} m r f =
      record {
        once = more (λ n. (strike_from x l (f.named x n)).1 refl) f.once;
        names = λ j n. ⊎_elim Memᴰ.head (λ q. later (f.names j (strike_keeps n q))) (answer (eq_test j x));
        named = each m (λ j n. (strike_from x l (f.named j n)).0);
        forward = λ i j n k e.
            let kept : j ∈ strike x l = strike_keeps k (λ q. r i n (subst (E i) q e)) in
            ⊎_elim (λ q. first q (f.names j kept)) (λ q. after (f.forward i j (strike_keeps n q) kept e)) (answer (eq_test i x));
      }

  -- no order is forward where jobs precede each other in a circle
  pub forward_no_circle : {l o : List ℕ} → ((i j : ℕ) → E i j → (i ∈ l) × (j ∈ l)) → Forward E l o → Circle E → ⊥
  forward_no_circle {o = o} ends f c = once_irreflexive f.once (along c.1)
    where
      edge : (i j : ℕ) → E i j → Before i j o
      edge i j e = f.forward i j (ends i j e).0 (ends i j e).1 e

      along : {i j : ℕ} → Via E Any i j → Before i j o
      along (one {p = i} {q = j} e) = edge i j e
      along (step {p = i} {m = m} e h w) = once_transitive f.once (edge i m e) (along w)

  -- ---- the lowest-first order among them

  -- the lowest-first order is an order: each job once, after the jobs that precede it
  pub lowest_forward : {l o : List ℕ} → LowestFirst E l o → Forward E l o
  lowest_forward done = record { once = Once.none; names = λ j m. m; named = λ j m. m; forward = λ i j m n e. absurd (Memᴰ.not-nil m) }
  lowest_forward (next m r low w) = forward_cons m r (lowest_forward w)

  -- why it is the lowest-first order: the property leaves no choice
  pub lowest_only : {l o o' : List ℕ} → LowestFirst E l o → LowestFirst E l o' → o ≡ o'
  lowest_only done done = refl
  lowest_only done (next m r low w) = absurd (Memᴰ.not-nil m)
  lowest_only (next m r low w) done = absurd (Memᴰ.not-nil m)
  lowest_only (next {j = j} {l = l} m r low w) (next {j = k} {o = o} n s under v) =
      let same : j ≡ k = le_antisymm (low k n s) (under j m r) in
      ap₂ ◌∷◌ same (lowest_only w (subst (λ (i : ℕ). LowestFirst E (strike i l) o) (sym same) v))

  -- why its name: at the first place where it differs from another forward order, its job is the lower
  pub lowest_least : (p q r : List ℕ) {a b : ℕ} {l : List ℕ} → LowestFirst E l (p ++ a ∷ q) → Forward E l (p ++ b ∷ r) → (a ≡ b → ⊥) → a < b
  lowest_least [] q r {a} {b} (next m s low w) f differ = let h = forward_head f in let le : a ≤ b = low b h.0 h.1 in omega arith
  lowest_least (x ∷ p) q r (next m s low w) f differ = lowest_least p q r w (forward_tail f) differ

-- what `lowest_ready` finds among js: none, as each is preceded, or the lowest that is ready
data Lowest (E : ℕ → ℕ → Type 0) (l js : List ℕ) : Option ℕ → Type 0 where
  no_job : ((j : ℕ) → j ∈ js → Preceded E l j) → Lowest E l js none
  job : {j : ℕ} → j ∈ js → Ready E l j → ((i : ℕ) → i ∈ js → Ready E l i → j ≤ i) → Lowest E l js (some j)

module _ {E : ℕ → ℕ → Type 0} {l js : List ℕ} {j : ℕ} where
  -- one more job to look at: a preceded one, or a ready one
  pass : {o : Option ℕ} → Preceded E l j → Lowest E l js o → Lowest E l (j ∷ js) o
  pass p (no_job h) = no_job (each p h)
  pass p (job m r low) = job (later m) r (each (λ s. absurd (not_ready p s)) low)

  take : {o : Option ℕ} → Ready E l j → Lowest E l js o → Lowest E l (j ∷ js) (some (lower j o))
  take r (no_job h) = job here r (each (λ s. le_refl j) (λ i m s. absurd (not_ready (h i m) s)))
  take r (job {j = k} m s low) =
      by_test (λ b. Lowest E l (j ∷ js) (some (cond b j k))) (le_test j k)
      (λ h. job here r (each (λ t. le_refl j) (λ i n t. le_trans h (low i n t))))
      (λ h. job (later m) s (each (λ t. omega arith) low))

module _ {E : ℕ → ℕ → Type 0} {l : List ℕ} where
  -- what is found for the jobs that are left, with j put first
  placed : {j : ℕ} {o : Option (List ℕ)} → ((p : List ℕ) → LowestFirst E (strike j l) p → LowestFirst E l (j ∷ p)) → Listed E (strike j l) o → Listed E l (prepend j o)
  placed f (found {o = p} w) = found (f p w)
  placed f (stuck_at c) = stuck_at c

  -- each answer, read back
  of_some : {o : List ℕ} → Listed E l (some o) → LowestFirst E l o
  of_some (found w) = w

  of_none : Listed E l none → Circle E
  of_none (stuck_at c) = c

  is_some : {o : Option (List ℕ)} → (Circle E → ⊥) → Listed E l o → (p : List ℕ) × (o ≡ some p)
  is_some f (found {o = p} w) = (p, refl)
  is_some f (stuck_at c) = absurd (f c)

module _ {E : ℕ → ℕ → Type 0} {e : ℕ → ℕ → Bool} (d : (p q : ℕ) → Decides (e p q) (E p q)) where
  lowest_of : (l js : List ℕ) → Lowest E l js (lowest_ready e l js)
  unfolding ready
  lowest_of l [] = no_job (λ j m. absurd (Memᴰ.not-nil m))
  lowest_of l (j ∷ js) =
      let o = lowest_ready e l js in
      by_test (λ b. Lowest E l (j ∷ js) (cond (not b) (some (lower j o)) o)) (some_test (λ i. d i j) l)
      (λ p. pass p (lowest_of l js)) (λ f. take (is_ready f) (lowest_of l js))

  listing_of : (n : ℕ) (l : List ℕ) → length l ≤ n → Listed E l (listing e n l)
  listing_of zero [] h = found done
  listing_of zero (x ∷ l) h = absurd (not-suc-le-zero h)
  listing_of (suc n) [] h = found done
  listing_of (suc n) (x ∷ l) h = go (lowest_of (x ∷ l) (x ∷ l)) (λ j m. listing_of n (strike j (x ∷ l)) (le_of_suc-le-suc (le_trans (strike_shorter m) h)))
    where
      rest : ℕ → Option (List ℕ)
      rest j = listing e n (strike j (x ∷ l))

      go : {o : Option ℕ} → Lowest E (x ∷ l) (x ∷ l) o → ((j : ℕ) → j ∈ x ∷ l → Listed E (strike j (x ∷ l)) (rest j)) → Listed E (x ∷ l) (place o rest)
      go (no_job h) f = stuck_at (stuck x l (λ j m. let p = h j m in (p.0, p.1, one p.2)))
      go (job {j = j} m r low) f = placed (λ o w. next m r low w) (f j m)

  -- the answer of `lowest_first` can be trusted, whichever it is
  pub listed : (l : List ℕ) → Listed E l (lowest_first e l)
  unfolding lowest_first
  listed l = listing_of (length l) l (le_refl (length l))

  -- an order that it gives is the lowest-first one
  pub lowest_first_some : {l o : List ℕ} → lowest_first e l ≡ some o → LowestFirst E l o
  lowest_first_some {l} q = of_some (subst (Listed E l) q (listed l))

  -- where it gives none there is a circle to blame
  pub lowest_first_none : (l : List ℕ) → lowest_first e l ≡ none → Circle E
  lowest_first_none l q = of_none (subst (Listed E l) q (listed l))

  -- jobs without a circle always have an order
  pub lowest_first_exists : (Circle E → ⊥) → (l : List ℕ) → (o : List ℕ) × (lowest_first e l ≡ some o)
  lowest_first_exists f l = is_some f (listed l)

  -- the lowest-first order, however it was come by, is the one that is computed
  pub lowest_first_is : {l o : List ℕ} → ((i j : ℕ) → E i j → (i ∈ l) × (j ∈ l)) → LowestFirst E l o → lowest_first e l ≡ some o
  lowest_first_is {l} ends w =
      let r = lowest_first_exists (forward_no_circle ends (lowest_forward w)) l in
      r.1 ∙ ap some (lowest_only (lowest_first_some r.1) w)

  -- ---- an order that is forced

  ready_test : (l : List ℕ) (j : ℕ) → Decides (ready e l j) (Ready E l j)
  unfolding ready
  ready_test l j = read_as (not_test (some_test (λ i. d i j) l)) is_ready (λ r p. not_ready p r)

  -- what the test says of the first place, and of the rest
  forced_first : (l : List ℕ) (j : ℕ) (o : List ℕ) → T (forced e l (j ∷ o)) → (j ∈ l) × ((i : ℕ) → i ∈ l → Ready E l i → i ≡ j) × T (forced e (strike j l) o)
  forced_first l j o t =
      let r = (and_test (mem_test j l) (and_test (every_test (λ i. or_test (not_test (ready_test l i)) (eq_test i j)) l) (own_test (forced e (strike j l) o)))).holds t in
      (r.0, λ i m s. other (λ f. f s) (r.1.0 i m), r.1.1)

  -- an order may be called the only one where at each place one job only could stand
  pub forced_only : {l o o' : List ℕ} → T (forced e l o) → Forward E l o' → o' ≡ o
  forced_only {l = []} {o = []} {o' = []} t f = refl
  forced_only {l = []} {o = []} {o' = x ∷ r} t f = absurd (Memᴰ.not-nil (f.named x here))
  forced_only {l = x ∷ l} {o = []} t f = absurd t
  forced_only {l} {o = j ∷ o} {o' = []} t f = absurd (Memᴰ.not-nil (f.names j (forced_first l j o t).0))
  forced_only {l} {o = j ∷ o} {o' = x ∷ r} t f =
      let s = forced_first l j o t in
      let h = forward_head f in
      let same : x ≡ j = s.1 x h.0 h.1 in
      ap₂ ◌∷◌ same (forced_only {l = strike j l} {o = o} s.2 (subst (λ (i : ℕ). Forward E (strike i l) r) same (forward_tail f)))
