-- The jobs at rest are the kept jobs outside the set that the open jobs lead to (`outside_rest`), and as many (`resting_many`).
-- Assumes nothing.
use mathlib.Core.Path.{◌≡◌, refl, sym, ap, subst, subst₂, ◌∙◌}
use mathlib.Core.Logic.{◌⊎◌, inl, inr, ⊎_elim}
use mathlib.Core.Bool.{true, false, not, ◌&&◌, ◌||◌}
use mathlib.Core.List.Memᴰ
use mathlib.Core.List.{List}
use Prim.Native.Nat.{ℕ, ◌<◌}
use native.Mathlib.Omega.{arith}
use lib.Dec.{ltb}
use lib.ListN.{length, get_or}
use Rattle.graph.specs.Decide.{Decides, is_true, true_is, own_test, eq_test, lt_test, and_test, or_test, not_test, some_test, some_of, same_test, test_true}
use Rattle.graph.specs.Lists.{◌∈◌, only, only_only, only_same}
use Rattle.graph.specs.Walk.{one, join}
use Rattle.history.specs.Events.{History, has, opened, abandoned, kept, open_now, kept_steps, Precedes, precedes}
use Rattle.history_laws.specs.EventLaws.{precedes_test}
use Rattle.history_laws.specs.OrderLaws.{ends_kept}
use Rattle.history.specs.Turns.{Turns}
use Rattle.history_laws.specs.TurnLaws.{has_test, kept_from, open_from}
use Rattle.sheet.specs.Sheet.{Leads, leads, at_rest, resting}
use Rattle.sheet.specs.RestLaws.{Moving}
use Rattle.sheet.proofs.RestLaws.{leads_test, rest_test, rest_kept, rest_unmoved}
use Rattle.tallies.specs.Jobs.{Jobs}
use Rattle.tallies.specs.Marks.{mark, in_row, Preceded}
use Rattle.tallies.specs.MarkLaws.{Marking}
use Rattle.tallies.specs.TableLaws.{at_member, member_at, same_entry, status_open, status_kept, kept_status}
use Rattle.lists.specs.Sheets.{Leading, Outside}

module _ {h : History} {numbers states : List ℕ} {count : ℕ} (jobs : Jobs h numbers states count) where
  -- the job at a place of the table, and the place of a job
  job_at : (i : ℕ) → i < count → get_or (opened h) i 0 ∈ opened h
  job_at i q = at_member (opened h) i (let m = jobs.many in omega arith)

  place_of : {j : ℕ} → j ∈ opened h → (i : ℕ) × (i < count) × (get_or (opened h) i 0 ≡ j)
  place_of {j} m = let r = member_at (opened h) j m in let q = r.1 in (r.0, (let n = jobs.many in omega arith), r.2)

  same_place : (i k : ℕ) → i < count → k < count → get_or (opened h) i 0 ≡ get_or (opened h) k 0 → i ≡ k
  same_place i k p q e = same_entry jobs i k p q (jobs.named i p ∙ e ∙ sym (jobs.named k q))

  module _ (preds : List ℕ) (prec : Preceded h count preds) {first moving : List ℕ} (marks : Marking (λ i. ltb (get_or states i 0) 3) count first) (l : Leading preds count count first moving false) where
    InSet : ℕ → Type 0
    InSet j = (i : ℕ) × (i < count) × (get_or (opened h) i 0 ≡ j) × (mark moving i ≡ true)

    -- the marks that were there first are those of the open jobs
    first_test : (i : ℕ) → Decides (ltb i count && ltb (get_or states i 0) 3) ((i < count) × (get_or states i 0 < 3))
    first_test i = and_test (lt_test i count) (lt_test (get_or states i 0) 3)

    precedes_at : (j i : ℕ) → Decides (ltb i count && precedes (kept_steps h) (get_or (opened h) i 0) (get_or (opened h) j 0)) ((i < count) × Precedes (kept_steps h) (get_or (opened h) i 0) (get_or (opened h) j 0))
    precedes_at j i = and_test (lt_test i count) (precedes_test (kept_steps h) (get_or (opened h) i 0) (get_or (opened h) j 0))

    few : {i : ℕ} → i < count → i < 512
    few {i} q = let f = jobs.few in omega arith

    open_in : (j : ℕ) → j ∈ open_now h → InSet j
    unfolding InSet
    open_in j m =
        let r = place_of (kept_from h (open_from h m).0).0 in
        let i = r.0 in
        let q = r.1 in
        let n : get_or (opened h) i 0 ∈ open_now h = Memᴰ.cast r.2 m in
        let s = (status_open h (get_or (opened h) i 0) (job_at i q)).1 n in
        let e = jobs.stated i q in
        (i, q, r.2, l.stays i (few q) (marks.at i (few q) ∙ test_true (first_test i) (q, omega arith)))

    passes_on : (i j : ℕ) → InSet i → Precedes (kept_steps h) i j → InSet j
    unfolding InSet
    passes_on i j s p =
        let r = place_of (kept_from h (ends_kept h jobs.turns i j p).1).0 in
        let e : Precedes (kept_steps h) (get_or (opened h) s.0 0) (get_or (opened h) r.0 0) = subst₂ (Precedes (kept_steps h)) (sym s.2) (sym r.2) p in
        (r.0, r.1, r.2, l.closed refl r.0 s.0 r.1 (few s.1) s.3 (prec r.0 s.0 r.1 (few s.1) ∙ test_true (precedes_at r.0 s.0) (s.1, e)))

    -- open, or led to by an open one
    led_test : (j : ℕ) → Decides (has (open_now h) j || some_of (λ i. leads h i j) (open_now h)) ((j ∈ open_now h) ⊎ ((i : ℕ) × (i ∈ open_now h) × Leads h i j))
    led_test j = or_test (has_test (open_now h) j) (some_test (λ i. leads_test h i j) (open_now h))

    no_more : (j : ℕ) → InSet j → (j ∈ open_now h) ⊎ ((i : ℕ) × (i ∈ open_now h) × Leads h i j)
    unfolding InSet
    no_more j s =
        subst (λ (x : ℕ). (x ∈ open_now h) ⊎ ((i : ℕ) × (i ∈ open_now h) × Leads h i x)) s.2
        ((led_test (get_or (opened h) s.0 0)).holds (true_is (l.least (λ i. has (open_now h) (get_or (opened h) i 0) || some_of (λ k. leads h k (get_or (opened h) i 0)) (open_now h)) starts goes s.0 (few s.1) s.3)))
      where
        starts : (i : ℕ) → i < 512 → mark first i ≡ true → has (open_now h) (get_or (opened h) i 0) || some_of (λ k. leads h k (get_or (opened h) i 0)) (open_now h) ≡ true
        starts i q m =
            let r = (first_test i).holds (true_is (sym (marks.at i q) ∙ m)) in
            let e = jobs.stated i r.0 in
            let z = r.1 in
            test_true (led_test (get_or (opened h) i 0)) (inl ((status_open h (get_or (opened h) i 0) (job_at i r.0)).0 (omega arith)))

        goes : (j i : ℕ) → j < count → i < 512 → has (open_now h) (get_or (opened h) i 0) || some_of (λ k. leads h k (get_or (opened h) i 0)) (open_now h) ≡ true → in_row preds j i ≡ true
            → has (open_now h) (get_or (opened h) j 0) || some_of (λ k. leads h k (get_or (opened h) j 0)) (open_now h) ≡ true
        goes j i p q e d =
            let r = (precedes_at j i).holds (true_is (sym (prec j i p q) ∙ d)) in
            test_true (led_test (get_or (opened h) j 0))
            (inr (⊎_elim (λ m. (get_or (opened h) i 0, m, one r.1)) (λ w. (w.0, w.1, join w.2 tt (one r.1))) ((led_test (get_or (opened h) i 0)).holds (true_is e))))

    moves : Moving h InSet
    moves = record { open_in = open_in; passes_on = passes_on; no_more = no_more }

    pub outside_rest : Outside (at_rest h) (opened h) count states moving
    unfolding InSet
    outside_rest i q =
        let j = get_or (opened h) i 0 in
        same_test (rest_test h j) (and_test (not_test (eq_test (get_or states i 0) 4)) (not_test (own_test (mark moving i))))
        (λ r.
        let k = rest_kept h jobs.turns r in
        (λ e. (kept_status h j k).1 (sym (jobs.stated i q) ∙ e), λ t. (rest_unmoved moves j k).0 r (i, q, refl, is_true {b = mark moving i} t)))
        (λ r.
        (rest_unmoved moves j (status_kept h j (job_at i q) (λ e. r.0 (jobs.stated i q ∙ e)))).1
        (λ s. r.1 (true_is (ap (mark moving) (sym (same_place s.0 i s.1 q s.2)) ∙ s.3))))

-- the jobs at rest are kept
pub resting_many : (h : History) → Turns h → length (only (at_rest h) (opened h)) ≡ length (resting h)
unfolding resting kept
resting_many h turns =
    sym (ap length (only_only (at_rest h) (λ j. not (has (abandoned h) j)) (opened h) ∙ only_same _ _ (opened h) (λ j m.
    same_test (and_test (not_test (has_test (abandoned h) j)) (rest_test h j)) (rest_test h j) (λ r. r.1) (λ r. ((kept_from h (rest_kept h turns r)).1, r)))))
