-- The coarse mode is the exact rule on the grouped history: what it grants, grouped, is what the exact rule grants (`after_grouped`), and so all along a list of requests
-- (`replies_grouped`, `history_grouped`, `book_grouped`). The codes of a step (`step_code`, `granted_free`, `two_asks`). What follows for a log with its true cells from the grouped
-- one: it is in turn (`turns_true`), an order accepted by groups is accepted (`accepted_true`), and what an accepted order keeps (`time_true`, `cells_true`, `sights_true`).
-- Assumes nothing.
use Rattle.std.proofs.Math.Path.{◌≡◌, refl, sym, ap, ap₂}
use Rattle.std.proofs.Common.{◌∙◌, subst, inl, inr}
use Rattle.std.specs.Prelude.{◌⊎◌, Bool, ℕ, ◌+◌, ◌<◌, leb, eqb}
use Rattle.std.proofs.Math.Bool.{true, false, not, cond}
use Rattle.std.proofs.Math.Option.{some}
use mathlib.Core.List.Memᴰ
use mathlib.Core.List.{List, [], ◌∷◌, ◌++◌, map, map-append}
use native.Mathlib.Omega.{arith}
use Rattle.std.proofs.Math.Dec.{T}
use Rattle.std.proofs.Math.ListN.{length}
use Rattle.graph.specs.Decide.{not_test, is_false, eq_test, test_true, by_test, chosen}
use Rattle.graph.specs.Lists.{◌∈◌, Before, before_left, before_right}
use Rattle.graph.specs.Listing.{Forward}
use Rattle.graph.proofs.ListingLaws.{lowest_forward, lowest_first_some, lowest_first_exists}
use Rattle.history.specs.Events.{Kind, write, Event, opens, steps, ends, abandons, History, has, abandoned, kept, open_now, alters_by, Step, all_steps, kept_steps, Precedes, Circular, has_circle}
use Rattle.history.specs.Replies.{cells, most_open, numbers, port_count, most_of_port, Request, Reply, Want, an_open, a_step, an_end, an_abandon, a_publish, nothing, want, Facts, first_of, step_tests, tests, code_of, event_of, reply_of, granted_of, Book, blank_book, full, reply, after, replies_from, history_from, book_from, replies, history_of, book_of}
use Rattle.history_laws.specs.ReplyLaws.{reply_for}
use Rattle.history.specs.Turns.{InTurn, InTurnAfter, Turns}
use Rattle.history.specs.Orders.{layout, Accepted, order_of}
use Rattle.history.specs.Run.{World, Program, Raise, AnyOrder, run, start}
use Rattle.history_laws.specs.EventLaws.{precedes_test}
use Rattle.history_laws.specs.CircleLaws.{has_circle_test}
use Rattle.history_laws.specs.TurnLaws.{orderly, has_test, kept_from}
use Rattle.history_laws.specs.Granted.{passed, undenied, Sound, granted_sound}
use Rattle.history_laws.specs.LayoutLaws.{Rearranged, keeps_forward, forward_keeps, layout_rearranged}
use Rattle.history_laws.specs.RunLaws.{run_rearranged, run_kept}
use Rattle.history_laws.specs.OrderLaws.{step_kept}
use Rattle.history_laws.specs.TimeLaws.{by_time, precedes_goes, goes_precedes, ended_precedes}
use Rattle.coarse.specs.Coarse.{grouped_event, grouped, in_group, AsksStep, with_step, coarse_reply, coarse_granted, coarse_after, coarse_book, coarse_replies_from, coarse_history_from, coarse_book_from, coarse_replies, coarse_history, coarse_book_of, InTurnBelow, InTurnBelowAfter}
use Rattle.coarse.proofs.GroupLaws.{map_in, map_before, opened_grouped, abandoned_grouped, kept_jobs_grouped, open_grouped, wrote_grouped, grouped_step, all_grouped, kept_grouped, group_precedes}
use Rattle.coarse.specs.CoarseLaws.{code_by}

-- of the tests only those of a step give 2
tested_two : (f : Facts) (w : Want) (j c : ℕ) → first_of (tests f w j c) ≡ 2 → (k : Kind) × ((w ≡ a_step k) ⊎ ((w ≡ a_publish) × (k ≡ write)))
unfolding tests
tested_two f an_open j c = λ e. absurd (chosen (λ (n : ℕ). n ≡ 2 → ⊥) (leb numbers f.next) (λ q. omega arith) (chosen (λ (n : ℕ). n ≡ 2 → ⊥) (leb port_count j) (λ q. omega arith)
    (chosen (λ (n : ℕ). n ≡ 2 → ⊥) (leb most_open f.count) (λ q. omega arith) (chosen (λ (n : ℕ). n ≡ 2 → ⊥) (leb most_of_port (f.crowd j)) (λ q. omega arith) (λ q. omega arith)))) e)
tested_two f (a_step k) j c = λ e. (k, inl refl)
tested_two f an_end j c = λ e. absurd (chosen (λ (n : ℕ). n ≡ 2 → ⊥) (not (f.is_open j)) (λ q. omega arith) (λ q. omega arith) e)
tested_two f an_abandon j c = λ e. absurd (chosen (λ (n : ℕ). n ≡ 2 → ⊥) (not (f.is_open j)) (λ q. omega arith) (chosen (λ (n : ℕ). n ≡ 2 → ⊥) (f.has_written j) (λ q. omega arith) (λ q. omega arith)) e)
tested_two f a_publish j c = λ e. (write, inr (refl, refl))
tested_two f nothing j c = λ e. absurd (let q : ◌≡◌ {A = ℕ} 1 2 = e in omega arith)

module _ (g : ℕ → ℕ) where
  -- ---- one request

  event_grouped : (n : ℕ) (w : Want) (j c : ℕ) → grouped g (event_of n w j c) ≡ event_of n w j (g c)
  unfolding event_of
  event_grouped n an_open j c = refl
  event_grouped n (a_step k) j c = refl
  event_grouped n an_end j c = refl
  event_grouped n an_abandon j c = refl
  event_grouped n a_publish j c = refl
  event_grouped n nothing j c = refl

  -- the next number, which no cell has a part in
  next_grouped : (b : Book) (h : History) → (full b h).next ≡ (full b (grouped g h)).next
  unfolding full
  next_grouped b h = ap (λ (l : List ℕ). b.first + length l) (sym (opened_grouped g h))

  granted_grouped : (b : Book) (h : History) (r : Request) → grouped g (coarse_granted g b h r) ≡ granted_of (full b (grouped g h)) (in_group g r)
  unfolding coarse_granted coarse_reply granted_of reply reply_of
  granted_grouped b h r = go (eqb (code_of (full b (grouped g h)) (in_group g r)) 0)
    where
      go : (q : Bool) → grouped g (cond q (event_of (full b h).next (want r.kind) r.job r.cell) []) ≡ cond q (event_of (full b (grouped g h)).next (want r.kind) r.job (g r.cell)) []
      go true = event_grouped (full b h).next (want r.kind) r.job r.cell ∙ ap (λ (n : ℕ). event_of n (want r.kind) r.job (g r.cell)) (next_grouped b h)
      go false = refl

  pub after_grouped : (b : Book) (h : History) (r : Request) → grouped g (coarse_after g b h r) ≡ after b (grouped g h) (in_group g r)
  unfolding coarse_after after
  after_grouped b h r = map-append (grouped_event g) h (coarse_granted g b h r) ∙ ap (λ (l : History). grouped g h ++ l) (granted_grouped b h r)

  -- ---- a list of requests

  replies_along : (b : Book) (h : History) (rs : List Request) → coarse_replies_from g b h rs ≡ replies_from b (grouped g h) (map (in_group g) rs)
  unfolding coarse_reply
  replies_along b h [] = refl
  replies_along b h (r ∷ rs) =
      ap (λ (l : List Reply). reply b (grouped g h) (in_group g r) ∷ l)
      (replies_along (coarse_book g b h r) (coarse_after g b h r) rs ∙ ap (λ (x : History). replies_from (coarse_book g b h r) x (map (in_group g) rs)) (after_grouped b h r))

  history_along : (b : Book) (h : History) (rs : List Request) → grouped g (coarse_history_from g b h rs) ≡ history_from b (grouped g h) (map (in_group g) rs)
  history_along b h [] = refl
  history_along b h (r ∷ rs) =
      history_along (coarse_book g b h r) (coarse_after g b h r) rs ∙ ap (λ (x : History). history_from (coarse_book g b h r) x (map (in_group g) rs)) (after_grouped b h r)

  book_along : (b : Book) (h : History) (rs : List Request) → coarse_book_from g b h rs ≡ book_from b (grouped g h) (map (in_group g) rs)
  book_along b h [] = refl
  book_along b h (r ∷ rs) =
      book_along (coarse_book g b h r) (coarse_after g b h r) rs ∙ ap (λ (x : History). book_from (coarse_book g b h r) x (map (in_group g) rs)) (after_grouped b h r)

  pub replies_grouped : (first : ℕ) (rs : List Request) → coarse_replies g first rs ≡ replies first (map (in_group g) rs)
  replies_grouped first rs = replies_along (blank_book first) [] rs

  pub history_grouped : (first : ℕ) (rs : List Request) → grouped g (coarse_history g first rs) ≡ history_of first (map (in_group g) rs)
  history_grouped first rs = history_along (blank_book first) [] rs

  pub book_grouped : (first : ℕ) (rs : List Request) → coarse_book_of g first rs ≡ book_of first (map (in_group g) rs)
  book_grouped first rs = book_along (blank_book first) [] rs

  -- the exact rule's history of the grouped requests is in turn, has no circle, ..
  pub grouped_sound : (first : ℕ) (rs : List Request) → Sound first (grouped g (coarse_history g first rs))
  grouped_sound first rs = subst (Sound first) (sym (history_grouped first rs)) (granted_sound first (map (in_group g) rs))

  -- ---- the codes of a step

  -- the step's code, of a well-formed request that asks for it: 2 by its group, 3, and 7 by the grouped log with it
  code_tested : (b : Book) (h : History) {k : Kind} (r : Request) → AsksStep r k → r.byte1 ≡ 0 → (coarse_reply g b h r).code ≡ first_of (step_tests (full b (grouped g h)) k r.job (g r.cell))
  unfolding coarse_reply tests
  code_tested b h {k} r (inl asks) z = ap (λ (a : Reply). a.code) (reply_for b (grouped g h) (in_group g r) (a_step k) asks z)
  code_tested b h {k} r (inr asks) z =
      ap (λ (a : Reply). a.code) (reply_for b (grouped g h) (in_group g r) a_publish asks.0 z)
      ∙ ap (λ (l : Kind). first_of (step_tests (full b (grouped g h)) l r.job (g r.cell))) (sym asks.1)

  pub step_code : (b : Book) (h : History) (k : Kind) (r : Request) → AsksStep r k → r.byte1 ≡ 0
      → (coarse_reply g b h r).code ≡ code_by (leb cells (g r.cell)) (has (open_now h) r.job) (has_circle (kept_steps (grouped g (with_step h k r))))
  unfolding full
  step_code b h k r asks z =
      code_tested b h r asks z
      ∙ ap₂ (λ (l : List ℕ) (x : History). code_by (leb cells (g r.cell)) (has l r.job) (has_circle (kept_steps x))) (open_grouped g h)
      (sym (map-append (grouped_event g) h (steps k r.job r.cell ∷ [])))

  -- a request that asks for a step and is granted was tested for a circle with it, whatever its byte 1
  pub granted_free : (b : Book) (h : History) (k : Kind) (r : Request) → AsksStep r k → (coarse_reply g b h r).code ≡ 0 → Circular (kept_steps (grouped g (with_step h k r))) → ⊥
  unfolding coarse_reply reply reply_of code_of
  granted_free b h k r asks z w =
      let p = passed (not (eqb r.byte1 0)) 0 _ z in
      let byte = (eq_test r.byte1 0).holds (undenied (eqb r.byte1 0) p.0) in
      let e : code_by (leb cells (g r.cell)) (has (open_now h) r.job) true ≡ 0
      = ap (code_by (leb cells (g r.cell)) (has (open_now h) r.job)) (sym (test_true (has_circle_test (kept_steps (grouped g (with_step h k r)))) w)) ∙ sym (step_code b h k r asks byte) ∙ z in
      refuses (leb cells (g r.cell)) (has (open_now h) r.job) e
    where
      refuses : (x y : Bool) → code_by x y true ≡ 0 → ⊥
      refuses true y e = let q : ◌≡◌ {A = ℕ} 2 0 = e in omega arith
      refuses false true e = let q : ◌≡◌ {A = ℕ} 7 0 = e in omega arith
      refuses false false e = let q : ◌≡◌ {A = ℕ} 3 0 = e in omega arith

  -- 2 is given to a step or a publish alone, with a zero byte 1
  pub two_asks : (b : Book) (h : History) (r : Request) → (coarse_reply g b h r).code ≡ 2 → (k : Kind) × AsksStep r k × (r.byte1 ≡ 0)
  unfolding coarse_reply reply reply_of code_of
  two_asks b h r = by_test (λ q. cond (not q) 1 (first_of (tests (full b (grouped g h)) (want r.kind) r.job (g r.cell))) ≡ 2 → (k : Kind) × AsksStep r k × (r.byte1 ≡ 0))
      (eq_test r.byte1 0) (λ z e. let a = tested_two (full b (grouped g h)) (want r.kind) r.job (g r.cell) e in (a.0, a.1, z)) (λ nz e. absurd (let q : ◌≡◌ {A = ℕ} 1 2 = e in omega arith))

  -- ---- in turn

  -- an event that is in turn by groups is in turn by true cells, whatever bound of the cells that of the groups gives
  module _ (n : ℕ) (within : (c : ℕ) → g c < cells → c < n) where
    turn_true : (h : History) (e : Event) → InTurn (grouped g h) (grouped_event g e) → InTurnBelow n h e
    turn_true h (opens j) t = subst (λ (l : List ℕ). (i : ℕ) → i ∈ l → i < j) (opened_grouped g h) t
    turn_true h (steps k j c) t = (subst (λ (l : List ℕ). j ∈ l) (open_grouped g h) t.0, within c t.1)
    turn_true h (ends j) t = subst (λ (l : List ℕ). j ∈ l) (open_grouped g h) t
    turn_true h (abandons j) t = (subst (λ (l : List ℕ). j ∈ l) (open_grouped g h) t.0, subst (λ (b : Bool). T b → ⊥) (wrote_grouped g h j) t.1)

    pub turns_true : (h es : History) → InTurnAfter (grouped g h) (grouped g es) → InTurnBelowAfter n h es
    turns_true h [] t = tt
    turns_true h (e ∷ es) t =
        (turn_true h e t.0, turns_true (h ++ e ∷ []) es (subst (λ (x : History). InTurnAfter x (grouped g es)) (sym (map-append (grouped_event g) h (e ∷ []))) t.1))

  -- ---- orders of a log whose grouped one is in turn

  module _ (h : History) (turns : Turns (grouped g h)) where
    step_kept_true : (a : Step) → a ∈ kept_steps h → a.job ∈ kept h
    step_kept_true a m =
        subst (λ (l : List ℕ). a.job ∈ l) (kept_jobs_grouped g h)
        (step_kept (grouped g h) turns (grouped_step g a) (subst (λ (s : List Step). grouped_step g a ∈ s) (sym (kept_grouped g h)) (map_in (grouped_step g) m)))

    ends_kept_true : (i j : ℕ) → Precedes (kept_steps h) i j → (i ∈ kept h) × (j ∈ kept h)
    ends_kept_true i j p = (
      Memᴰ.cast (sym p.earlier_job) (step_kept_true p.earlier (before_left p.in_order)),
      Memᴰ.cast (sym p.later_job) (step_kept_true p.later (before_right p.in_order)),
    )

    forward_true : {o : List ℕ} → Forward (Precedes (kept_steps h)) (kept h) o → Accepted h o
    forward_true f =
        record { once = f.once; names = f.names; named = f.named; keeps = forward_keeps (λ i j p. let m = ends_kept_true i j p in f.forward i j m.0 m.1 p) }

    -- an order that is accepted by groups is accepted by true cells
    pub accepted_true : {o : List ℕ} → Accepted (grouped g h) o → Accepted h o
    accepted_true {o} a =
        record {
          once = a.once;
          names = λ j m. a.names j (subst (λ (l : List ℕ). j ∈ l) (sym (kept_jobs_grouped g h)) m);
          named = λ j m. subst (λ (l : List ℕ). j ∈ l) (kept_jobs_grouped g h) (a.named j m);
          keeps = forward_keeps {order = o} (λ i j p. keeps_forward {s = kept_steps (grouped g h)} {order = o} a.keeps i j (group_precedes g h i j p));
        }

    -- the lowest-first order by true cells is accepted, and there is one where there is no circle
    pub order_true : {o : List ℕ} → order_of h ≡ some o → Accepted h o
    unfolding order_of
    order_true e = forward_true (lowest_forward (lowest_first_some (precedes_test (kept_steps h)) e))

    pub exists_true : (Circular (kept_steps h) → ⊥) → (o : List ℕ) × (order_of h ≡ some o)
    unfolding order_of
    exists_true free = lowest_first_exists (precedes_test (kept_steps h)) free (kept h)

    -- in an accepted order a job stands before every kept job that was opened after its end
    pub time_true : {o : List ℕ} → Accepted h o → {i j : ℕ} → j ∈ kept h → Before (ends i) (opens j) h → Before i j o
    time_true a {i} {j} m r =
        let s = map_before (grouped_event g) r in
        let p = precedes_goes (grouped g h) (ended_precedes (grouped g h) turns (subst (λ (l : List ℕ). j ∈ l) (sym (kept_jobs_grouped g h)) m) s) in
        keeps_forward a.keeps i j
        (goes_precedes h (record {
          others = p.others;
          first_kept = λ n. p.first_kept (subst (λ (l : List ℕ). i ∈ l) (sym (abandoned_grouped g h)) n);
          second_kept = (kept_from h m).1;
          goes = by_time r;
        }))

    -- ---- what an accepted order keeps

    module _ {o : List ℕ} (a : Accepted h o) where
      pub laid_out_true : Rearranged (kept_steps h) (layout (kept_steps h) o)
      laid_out_true = layout_rearranged a.once (λ x m. a.names x.job (step_kept_true x m)) (keeps_forward a.keeps)

      module _ {ℓ} {X : Type ℓ} (raise : Raise X) (law : AnyOrder raise) (f : Program X) (w : ℕ → X) where
        -- abandoned jobs only read, so the kept steps alone leave what the log leaves
        log_true : ((c : ℕ) → (run raise f (kept_steps h) (start w)).holds c ≡ (run raise f (all_steps h) (start w)).holds c) × ((j : ℕ) → T (not (has (abandoned h) j)) → (run raise f (kept_steps h) (start w)).seen j ≡ (run raise f (all_steps h) (start w)).seen j)
        unfolding kept_steps
        log_true = run_kept (λ j. not (has (abandoned h) j)) (all_steps h) (λ x m t. is_false (reads x m ((has_test (abandoned h) x.job).holds (denied (has (abandoned h) x.job) t)))) raise f (start w)
          where
            denied : (b : Bool) → T (not (not b)) → T b
            denied true t = tt
            denied false t = t

            reads : (x : Step) → x ∈ all_steps h → x.job ∈ abandoned h → T (alters_by x.deed) → ⊥
            reads x m n =
                (orderly (grouped g h) turns).only_read (grouped_step g x) (subst (λ (s : List Step). grouped_step g x ∈ s) (sym (all_grouped g h)) (map_in (grouped_step g) m))
                (subst (λ (l : List ℕ). x.job ∈ l) (sym (abandoned_grouped g h)) n)

        pub cells_true : (c : ℕ) → (run raise f (layout (kept_steps h) o) (start w)).holds c ≡ (run raise f (all_steps h) (start w)).holds c
        cells_true c = ap (λ (v : World X). v.holds c) (sym (run_rearranged laid_out_true raise law f (start w))) ∙ log_true.0 c

        pub sights_true : (j : ℕ) → j ∈ kept h → (run raise f (layout (kept_steps h) o) (start w)).seen j ≡ (run raise f (all_steps h) (start w)).seen j
        sights_true j m =
            ap (λ (v : World X). v.seen j) (sym (run_rearranged laid_out_true raise law f (start w)))
            ∙ log_true.1 j ((not_test (has_test (abandoned h) j)).shows (kept_from h m).1)
