-- The places of an order. In order: the place of a job in a list, and in one with an entry more; the entries one after the other, up to the first bad one
-- (`Placing`); the opened jobs one after the other, up to the first kept one that is not named (`Counted`).
-- Assumes nothing.
use Rattle.std.specs.Prelude.{◌≡◌, refl, ◌⊎◌, Bool, true, false, not, ◌||◌, cond, ℕ, zero, suc, ◌+◌, ◌<◌, eqb, get_or, drop, set}
use Rattle.std.proofs.Common.{sym, ◌∙◌, subst, inl, inr, ⊎_elim, add-one, arith, eq-eqb, ne_eqb, lt-ltb, le-ltb, length-append, take-suc, drop-cons, length-take-le, get_or-set_same, get_or-set_other}
use Rattle.std.proofs.Math.Path.{ap}
use Rattle.std.proofs.Math.Option.{none, some}
use mathlib.Core.List.Memᴰ
use mathlib.Core.List.{List, [], ◌∷◌, ◌++◌, append-nil}
use Rattle.std.proofs.Math.ListN.{length, take}
use Rattle.std.proofs.Math.Seq.{take_all, take-length, drop-length}
use Rattle.graph.specs.Decide.{Decides, eq_test, not_test, or_test, by_test, answer, test_true, test_false}
use Rattle.graph.specs.Lists.{◌∈◌, later, only, only_append}
use Rattle.history.specs.Events.{History, has, opened, abandoned, kept}
use Rattle.history_laws.specs.TurnLaws.{has_test}
use Rattle.verdicts.specs.Verdicts.{first_bad, missing}
use Rattle.verdicts_laws.specs.VerdictLaws.{missing_test}
use Rattle.tallies.specs.Jobs.{status, Jobs, Finds}
use Rattle.tallies.specs.Places.{one_on, place_in, Placed, found_at}
use Rattle.tallies.specs.TableLaws.{same_entry, found_opened, not_found, found_state, at_member, status_gone, status_kept, kept_status}

-- ---- the place of a job in a list

one_on_zero : {n : ℕ} → one_on n ≡ 0 → n ≡ 0
one_on_zero {n = zero} e = refl
one_on_zero {n = suc n} e = absurd (omega arith)

-- 0 is the place of what is not in the list
pub place_none : (order : List ℕ) (j : ℕ) → (j ∈ order → ⊥) → place_in order j ≡ 0
place_none [] j f = refl
place_none (x ∷ order) j f =
    by_test (λ b. cond b 1 (one_on (place_in order j)) ≡ 0) (eq_test x j) (λ e. absurd (f (Memᴰ.head (sym e)))) (λ g. ap one_on (place_none order j (λ m. f (later m))))

pub place_some : (order : List ℕ) (j : ℕ) → place_in order j ≡ 0 → j ∈ order → ⊥
place_some [] j e m = Memᴰ.not-nil m
place_some (x ∷ order) j e m =
    by_test (λ b. cond b 1 (one_on (place_in order j)) ≡ 0 → ⊥) (eq_test x j) (λ q z. let y : ◌≡◌ {A = ℕ} 1 0 = z in omega arith)
    (λ f z. place_some order j (one_on_zero z) (⊎_elim (λ q. absurd (f (sym q))) (λ n. n) (Memᴰ.cases_cons m))) e

pub place_in_list : (order : List ℕ) (j : ℕ) → (place_in order j ≡ 0 → ⊥) → j ∈ order
place_in_list order j f = ⊎_elim (λ m. m) (λ n. absurd (f (place_none order j n))) (answer (has_test order j))

-- an entry more at the end leaves the places of the others
pub place_other : (front : List ℕ) (i j : ℕ) → (i ≡ j → ⊥) → place_in (front ++ j ∷ []) i ≡ place_in front i
place_other [] i j f = ap (λ (b : Bool). cond b 1 0) (ne_eqb j i (λ e. f (sym e)))
place_other (x ∷ front) i j f = ap (λ (n : ℕ). cond (eqb x i) 1 (one_on n)) (place_other front i j f)

-- and its own is the last
pub place_new : (front : List ℕ) (j : ℕ) → (j ∈ front → ⊥) → place_in (front ++ j ∷ []) j ≡ suc (length front)
place_new [] j f = ap (λ (b : Bool). cond b 1 0) (eq-eqb j j refl)
place_new (x ∷ front) j f =
    ap (λ (b : Bool). cond b 1 (one_on (place_in (front ++ j ∷ []) j))) (ne_eqb x j (λ e. f (Memᴰ.head (sym e)))) ∙ ap one_on (place_new front j (λ m. f (later m)))

-- an entry more at the end, and its place noted: each job has its place
module _ {h : History} {numbers states : List ℕ} {count : ℕ} (jobs : Jobs h numbers states count) where
  pub placed_more : (front places : List ℕ) (j k n : ℕ) → Placed h count front places → k < count → get_or numbers k 0 ≡ j → (j ∈ front → ⊥) → length front ≡ n → k < length places
      → Placed h count (front ++ j ∷ []) (set places k (n + 1))
  placed_more front places j k n placed inside at new size long i r = go (answer (eq_test i k))
    where
      go : (i ≡ k) ⊎ (i ≡ k → ⊥) → get_or (set places k (n + 1)) i 0 ≡ place_in (front ++ j ∷ []) (get_or (opened h) i 0)
      go (inl e) =
          let own : get_or (opened h) i 0 ≡ j = sym (jobs.named i r) ∙ ap (λ (m : ℕ). get_or numbers m 0) e ∙ at in
          ap (λ (m : ℕ). get_or (set places k (n + 1)) m 0) e ∙ get_or-set_same places k (n + 1) 0 long ∙ add-one n ∙ ap suc (sym size) ∙ sym (place_new front j new) ∙ ap (place_in (front ++ j ∷ [])) (sym own)
      go (inr f) =
          get_or-set_other places k i (n + 1) 0 f ∙ placed i r
          ∙ sym (place_other front (get_or (opened h) i 0) j (λ e. f (same_entry jobs i k r inside (jobs.named i r ∙ e ∙ sym at))))

-- ---- the entries of an order, one after the other

-- what is found stands in the table
pub found_in : {count : ℕ} (l : List ℕ) {j r : ℕ} → Finds count l j r → (r ≡ count → ⊥) → (r < count) × (get_or l r 0 ≡ j)
found_in l w f = ⊎_elim (λ x. x) (λ x. absurd (f x.0)) w

-- the first n entries are good, and placed
pub record Placing (h : History) (count : ℕ) (order places : List ℕ) (n : ℕ) : Type 0 where
  pub before : List ℕ
  -- `before` has the entries passed, in whatever order
  pub passed : (j : ℕ) → j ∈ before → j ∈ take n order
  pub first : (j : ℕ) → j ∈ take n order → j ∈ before
  pub rest : first_bad (kept h) [] 0 order ≡ first_bad (kept h) before n (drop n order)
  pub placed : Placed h count (take n order) places

pub placing_start : (h : History) (count : ℕ) (order places : List ℕ) → ((i : ℕ) → get_or places i 0 ≡ 0) → Placing h count order places 0
placing_start h count order places blank =
    record {
      before = [];
      passed = λ j m. m;
      first = λ j m. m;
      rest = refl;
      placed = λ i q. blank i;
    }

-- all entries are good
pub placing_end : {h : History} {count : ℕ} {order places : List ℕ} {n : ℕ} → Placing h count order places n → n ≡ length order
    → (first_bad (kept h) [] 0 order ≡ found_at n (length order)) × (n ≡ length order → Placed h count order places)
placing_end {h} {count} {order} {places} {n} p e = (
  p.rest ∙ ap (first_bad (kept h) p.before n) (ap (λ (k : ℕ). drop k order) e ∙ drop-length order) ∙ sym (ap (λ (b : Bool). cond b (some n) none) (le-ltb n (length order) (omega arith))),
  λ q i r. p.placed i r ∙ ap (λ (l : List ℕ). place_in l (get_or (opened h) i 0)) (ap (λ (k : ℕ). take k order) e ∙ take-length order),
)

module _ {h : History} {numbers states : List ℕ} {count : ℕ} (jobs : Jobs h numbers states count)
    {order places : List ℕ} {n : ℕ} (p : Placing h count order places n) (q : n < length order) where
  -- what is found from this entry on
  look : first_bad (kept h) [] 0 order
      ≡ cond (not (has (kept h) (get_or order n 0)) || has p.before (get_or order n 0)) (some n) (first_bad (kept h) (get_or order n 0 ∷ p.before) (suc n) (drop (suc n) order))
  look = p.rest ∙ ap (first_bad (kept h) p.before n) (drop-cons order n 0 q)

  bad_test : Decides (not (has (kept h) (get_or order n 0)) || has p.before (get_or order n 0)) ((get_or order n 0 ∈ kept h → ⊥) ⊎ (get_or order n 0 ∈ p.before))
  bad_test = or_test (not_test (has_test (kept h) (get_or order n 0))) (has_test p.before (get_or order n 0))

  -- this entry is bad: it is the first bad one, and not past the end, so that what is asked for there does not matter
  stops : {A : Type 0} → (get_or order n 0 ∈ kept h → ⊥) ⊎ (get_or order n 0 ∈ p.before) → (first_bad (kept h) [] 0 order ≡ found_at n (length order)) × (n ≡ length order → A)
  stops b = (
    look ∙ ap (λ (c : Bool). cond c (some n) (first_bad (kept h) (get_or order n 0 ∷ p.before) (suc n) (drop (suc n) order))) (test_true bad_test b)
        ∙ sym (ap (λ (c : Bool). cond c (some n) none) (lt-ltb n (length order) q)),
    λ e. absurd (omega arith),
  )

  -- the job is not in the table
  pub stops_unknown : {A : Type 0} → ((i : ℕ) → i < count → get_or numbers i 0 ≡ get_or order n 0 → ⊥) → (first_bad (kept h) [] 0 order ≡ found_at n (length order)) × (n ≡ length order → A)
  stops_unknown f = stops (inl (λ m. not_found jobs (get_or order n 0) f (kept_status h (get_or order n 0) m).0))

  module _ {k : ℕ} (inside : k < count) (at : get_or numbers k 0 ≡ get_or order n 0) where
    -- it is abandoned
    pub stops_gone : {A : Type 0} → get_or states k 0 ≡ 4 → (first_bad (kept h) [] 0 order ≡ found_at n (length order)) × (n ≡ length order → A)
    stops_gone e = stops (inl (λ m. (kept_status h (get_or order n 0) m).1 (sym (found_state jobs k (get_or order n 0) inside at) ∙ e)))

    -- the job's place so far
    so_far : get_or places k 0 ≡ place_in (take n order) (get_or order n 0)
    so_far = p.placed k inside ∙ ap (place_in (take n order)) (sym (jobs.named k inside) ∙ at)

    -- it was named before
    pub stops_twice : {A : Type 0} → (get_or places k 0 ≡ 0 → ⊥) → (first_bad (kept h) [] 0 order ≡ found_at n (length order)) × (n ≡ length order → A)
    stops_twice f = stops (inr (p.first (get_or order n 0) (place_in_list (take n order) (get_or order n 0) (λ e. f (so_far ∙ e)))))

    -- a good entry: its place is noted
    pub goes_on : k < length places → (get_or states k 0 ≡ 4 → ⊥) → get_or places k 0 ≡ 0 → Placing h count order (set places k (n + 1)) (n + 1)
    goes_on long stays unnamed =
        let j = get_or order n 0 in
        let new : j ∈ take n order → ⊥ = place_some (take n order) j (sym so_far ∙ unnamed) in
        let more : take (n + 1) order ≡ take n order ++ j ∷ [] = ap (λ (m : ℕ). take m order) (add-one n) ∙ take-suc order n 0 q in
        let known : j ∈ opened h = found_opened jobs k j inside at in
        let good : (j ∈ kept h → ⊥) ⊎ (j ∈ p.before) → ⊥ =
        ⊎_elim (λ f. f (status_kept h j known (λ e. stays (found_state jobs k j inside at ∙ e)))) (λ m. new (p.passed j m)) in
        record {
          before = j ∷ p.before;
          passed = λ i m. subst (λ (l : List ℕ). i ∈ l) (sym more) (⊎_elim (λ e. Memᴰ.append_right (take n order) (Memᴰ.head e)) (λ r. Memᴰ.append_left (j ∷ []) (p.passed i r)) (Memᴰ.cases_cons m));
          first = λ i m. ⊎_elim (λ r. later (p.first i r)) (λ r. Memᴰ.head (Memᴰ.eq_of_singleton r)) (Memᴰ.append_cases (take n order) (subst (λ (l : List ℕ). i ∈ l) more m));
          rest = look
              ∙ ap (λ (c : Bool). cond c (some n) (first_bad (kept h) (j ∷ p.before) (suc n) (drop (suc n) order))) (test_false bad_test good)
              ∙ ap (λ (m : ℕ). first_bad (kept h) (j ∷ p.before) m (drop m order)) (sym (add-one n));
          placed =
              subst (λ (l : List ℕ). Placed h count l (set places k (n + 1))) (sym more)
              (placed_more jobs (take n order) places j k n p.placed inside at new (length-take-le n order (omega arith)) long);
        }

-- ---- the opened jobs, one after the other

-- is the job not abandoned?
abbrev stays : History → ℕ → Bool
stays h j = not (has (abandoned h) j)

stays_test : (h : History) (j : ℕ) → Decides (stays h j) (j ∈ abandoned h → ⊥)
stays_test h j = not_test (has_test (abandoned h) j)

-- of the first n opened jobs, the kept ones are so many, and all named
pub record Counted (h : History) (order : List ℕ) (n many : ℕ) : Type 0 where
  pub counted : many ≡ length (only (stays h) (take n (opened h)))
  pub named : (j : ℕ) → j ∈ only (stays h) (take n (opened h)) → j ∈ order

pub counted_start : (h : History) (order : List ℕ) → Counted h order 0 0
counted_start h order = record { counted = refl; named = λ j m. absurd (Memᴰ.not-nil m) }

module _ {h : History} {numbers states : List ℕ} {count : ℕ} (jobs : Jobs h numbers states count) (order places : List ℕ) (placed : Placed h count order places) where
  -- all are passed
  pub counted_end : {n many : ℕ} → Counted h order n many → n ≡ count → (missing (kept h) order ≡ false) × (many ≡ length (kept h))
  unfolding kept
  counted_end {n} c e =
      let all : take n (opened h) ≡ opened h = take_all n (opened h) (omega (arith, jobs.many)) in (
        test_false (missing_test (kept h) order) (λ f. f (λ j m. c.named j (subst (λ (l : List ℕ). j ∈ only (stays h) l) (sym all) m))),
        c.counted ∙ ap (λ (l : List ℕ). length (only (stays h) l)) all,
      )

  module _ {n : ℕ} (q : n < count) where
    -- how the job stands
    own_state : get_or states n 0 ≡ status h (get_or (opened h) n 0)
    own_state = jobs.stated n q

    inside : n < length (opened h)
    inside = omega (arith, jobs.many)

    -- a kept job without a place is missing
    pub one_missing : (get_or states n 0 ≡ 4 → ⊥) → get_or places n 0 ≡ 0 → missing (kept h) order ≡ true
    one_missing f e =
        let j = get_or (opened h) n 0 in
        test_true (missing_test (kept h) order)
        (λ all. place_some order j (sym (placed n q) ∙ e) (all j (status_kept h j (at_member (opened h) n inside) (λ s. f (own_state ∙ s)))))

    one_more : only (stays h) (take (n + 1) (opened h)) ≡ only (stays h) (take n (opened h)) ++ only (stays h) (get_or (opened h) n 0 ∷ [])
    one_more = ap (only (stays h)) (ap (λ (m : ℕ). take m (opened h)) (add-one n) ∙ take-suc (opened h) n 0 inside) ∙ only_append (stays h) (take n (opened h)) (get_or (opened h) n 0 ∷ [])

    -- a kept job with a place is one more
    pub counts_one : {many : ℕ} → Counted h order n many → (get_or states n 0 ≡ 4 → ⊥) → (get_or places n 0 ≡ 0 → ⊥) → Counted h order (n + 1) (many + 1)
    counts_one {many} c f g =
        let j = get_or (opened h) n 0 in
        let more : only (stays h) (take (n + 1) (opened h)) ≡ only (stays h) (take n (opened h)) ++ j ∷ [] =
        one_more ∙ ap (λ (b : Bool). only (stays h) (take n (opened h)) ++ cond b (j ∷ []) []) (test_true (stays_test h j) (λ m. f (own_state ∙ (status_gone h j).1 m))) in
        record {
          counted = ap (λ (m : ℕ). m + 1) c.counted ∙ sym (length-append (only (stays h) (take n (opened h))) (j ∷ [])) ∙ ap length (sym more);
          named = λ i m.
              ⊎_elim (c.named i) (λ r. Memᴰ.cast (Memᴰ.eq_of_singleton r) (place_in_list order j (λ e. g (placed n q ∙ e))))
              (Memᴰ.append_cases (only (stays h) (take n (opened h))) (subst (λ (l : List ℕ). i ∈ l) more m));
        }

    -- an abandoned job is passed over
    pub counts_none : {many : ℕ} → Counted h order n many → get_or states n 0 ≡ 4 → Counted h order (n + 1) many
    counts_none {many} c e =
        let j = get_or (opened h) n 0 in
        let same : only (stays h) (take (n + 1) (opened h)) ≡ only (stays h) (take n (opened h)) ++ [] =
        one_more ∙ ap (λ (b : Bool). only (stays h) (take n (opened h)) ++ cond b (j ∷ []) []) (test_false (stays_test h j) (λ f. f ((status_gone h j).0 (sym own_state ∙ e)))) in
        let equal = same ∙ append-nil (only (stays h) (take n (opened h))) in
        record {
          counted = c.counted ∙ ap length (sym equal);
          named = λ i m. c.named i (subst (λ (l : List ℕ). i ∈ l) equal m);
        }
