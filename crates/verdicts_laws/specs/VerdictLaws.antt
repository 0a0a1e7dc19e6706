-- The verdicts mean what they say. In order: code 15 and its place (`entries`, `missing_test`); code 16 and its place (`pairs`); the verdict code by code
-- (`judged_right`, `check_right`); the checker accepts exactly the accepted orders of a log without a fault (`check_exactly`); the lister's answer
-- code by code (`listed_right`, `list_right`); and no other verdict and no other answer means that (`checked_only`, `answered_only`).
-- Assumes nothing.
use Rattle.std.specs.Prelude.{◌≡◌, ◌⊎◌, ◌↔◌, Bool, cond, drop}
use Rattle.std.proofs.Math.Path.{refl, ap}
use Rattle.std.proofs.Common.{sym, ◌∙◌, subst, subst₂, inl, inr, ⊎_elim, arith}
use Rattle.std.proofs.Math.Bool.{not}
use Rattle.std.proofs.Math.Option.{Option, some}
use mathlib.Core.List.Memᴰ
use mathlib.Core.List.{List, [], ◌∷◌, ◌++◌}
use Prim.Native.Nat.{ℕ, zero, suc, ◌+◌, ◌≤◌, ◌<◌}
use Rattle.std.proofs.Math.ListN.{length}
use Rattle.graph.specs.Decide.{Decides, and_test, or_test, not_test, eq_test, lt_test, read_as, some_test, every_test, by_test, test_true, test_false, answer}
use Rattle.graph.specs.Lists.{◌∈◌, here, later, each, Before, first, after, before_cons, before_nil, before_left, before_right, before_from_only, Once, more, once_head, once_tail, once_one_way, members, once_irreflexive, before_across, once_if, once_length}
use Rattle.history.specs.Events.{History, has, abandoned, kept, Step, all_steps, kept_steps, Conflict, Precedes, Circular, opened}
use Rattle.history_laws.specs.EventLaws.{conflict_test, precedes_of}
use Rattle.history.specs.Turns.{Turns}
use Rattle.history_laws.specs.TurnLaws.{has_test, orderly}
use Rattle.history_laws.specs.OrderLaws.{step_kept, order_accepted, no_order_circle, accepted_no_circle}
use Rattle.history.specs.Orders.{layout, Keeps, Accepted, order_of}
use Rattle.history_laws.specs.LayoutLaws.{keeps_forward, forward_keeps}
use Rattle.verdicts.specs.Logs.{Reading, faulty, events, read_log}
use Rattle.verdicts.specs.Verdicts.{Verdict, verdict, first_bad, missing, stands_before, backward, first_backward, or_else, judged, judge, check, Listed, refused, written, listed, list_of, list_order}
use Rattle.verdicts_laws.specs.LogLaws.{read_turns, Fault, of_length, of_record, faults}

-- ---- code 15

-- good entries after others: each kept, none named twice
pub record Good (jobs before order : List ℕ) : Type 0 where
  pub once : Once order
  pub kept : (j : ℕ) → j ∈ order → j ∈ jobs
  pub apart : (j : ℕ) → j ∈ order → j ∈ before → ⊥

-- the first bad entry: the entries in front of it are good, and it is not kept or was named before
pub record FirstBad (jobs before order : List ℕ) (n p : ℕ) : Type 0 where
  pub front : List ℕ
  pub entry : ℕ
  pub back : List ℕ
  pub split : order ≡ front ++ entry ∷ back
  pub place : p ≡ n + length front
  pub good : Good jobs before front
  pub bad : (entry ∈ jobs → ⊥) ⊎ ((entry ∈ before) ⊎ (entry ∈ front))

-- what is found of entries that stand from place n on
pub data Entries (jobs : List ℕ) : List ℕ → ℕ → List ℕ → Option ℕ → Type 0 where
  all_good : {before order : List ℕ} {n : ℕ} → Good jobs before order → Entries jobs before n order Option.none
  one_bad : {before order : List ℕ} {n p : ℕ} → FirstBad jobs before order n p → Entries jobs before n order (some p)

good_nil : {jobs before : List ℕ} → Good jobs before []
good_nil = record { once = Once.none; kept = λ j m. absurd (Memᴰ.not-nil m); apart = λ j m b. Memᴰ.not-nil m }

good_cons : {jobs before order : List ℕ} {j : ℕ} → j ∈ jobs → (j ∈ before → ⊥) → Good jobs (j ∷ before) order → Good jobs before (j ∷ order)
good_cons k a g =
    record {
      once = more (λ m. g.apart _ m here) g.once;
      kept = each k g.kept;
      apart = λ i m b. ⊎_elim (λ q. a (Memᴰ.cast (sym q) b)) (λ n. g.apart i n (later b)) (Memᴰ.cases_cons m);
    }

bad_cons : {jobs before order : List ℕ} {j n p : ℕ} → j ∈ jobs → (j ∈ before → ⊥) → FirstBad jobs (j ∷ before) order (suc n) p → FirstBad jobs before (j ∷ order) n p
bad_cons {j = j} k a f =
    record {
      front = j ∷ f.front;
      entry = f.entry;
      back = f.back;
      split = ap (λ (l : List ℕ). j ∷ l) f.split;
      place = let q = f.place in omega arith;
      good = good_cons k a f.good;
      bad = ⊎_elim inl (⊎_elim (λ m. ⊎_elim (λ q. inr (inr (Memᴰ.head q))) (λ b. inr (inl b)) (Memᴰ.cases_cons m)) (λ m. inr (inr (later m)))) f.bad;
    }

one_more : {jobs before order : List ℕ} {j n : ℕ} {o : Option ℕ} → j ∈ jobs → (j ∈ before → ⊥) → Entries jobs (j ∷ before) (suc n) order o → Entries jobs before n (j ∷ order) o
one_more k a (all_good g) = all_good (good_cons k a g)
one_more k a (one_bad f) = one_bad (bad_cons k a f)

pub entries : (jobs before : List ℕ) (n : ℕ) (order : List ℕ) → Entries jobs before n order (first_bad jobs before n order)
entries jobs before n [] = all_good good_nil
entries jobs before n (j ∷ order) =
    let rest = first_bad jobs (j ∷ before) (suc n) order in
    by_test (λ b. Entries jobs before n (j ∷ order) (cond b (some n) rest)) (or_test (not_test (has_test jobs j)) (has_test before j))
    (λ b. one_bad (record { front = []; entry = j; back = order; split = refl; place = omega arith; good = good_nil; bad = ⊎_elim inl (λ m. inr (inl m)) b }))
    (λ f. one_more (⊎_elim (λ m. m) (λ a. absurd (f (inl a))) (answer (has_test jobs j))) (λ m. f (inr m)) (entries jobs (j ∷ before) (suc n) order))

pub missing_test : (jobs order : List ℕ) → Decides (missing jobs order) (((j : ℕ) → j ∈ jobs → j ∈ order) → ⊥)
unfolding missing
missing_test jobs order = not_test (every_test (λ j. has_test order j) jobs)

-- ---- code 16

pub stands_test : (order : List ℕ) (i j : ℕ) → Decides (stands_before order i j) (Before i j order)
stands_test [] i j = record { holds = λ t. absurd t; shows = λ r. before_nil r }
stands_test (x ∷ order) i j =
    read_as (or_test (and_test (eq_test x i) (has_test order j)) (stands_test order i j))
    (⊎_elim (λ r. first (sym r.0) r.1) after)
    (λ r. ⊎_elim (λ q. inl (sym q.0, q.1)) inr (before_cons r))

-- b is the later one of a backward pair: some step before it conflicts with it, and the order has b's job first
pub record Backward (order : List ℕ) (earlier : List Step) (b : Step) : Type 0 where
  pub with_step : Step
  pub before_it : with_step ∈ earlier
  pub conflicting : Conflict with_step b
  pub turned : Before b.job with_step.job order

pub backward_test : (order : List ℕ) (earlier : List Step) (b : Step) → Decides (backward order earlier b) (Backward order earlier b)
unfolding backward
backward_test order earlier b =
    read_as (some_test (λ a. and_test (conflict_test a b) (stands_test order b.job a.job)) earlier)
    (λ r. record { with_step = r.0; before_it = r.1; conflicting = r.2.0; turned = r.2.1 })
    (λ r. (r.with_step, r.before_it, (r.conflicting, r.turned)))

-- a before b, where the steps `earlier` stand in front of s
abbrev Pair : List Step → List Step → Step → Step → Type 0
Pair earlier s a b = ((a ∈ earlier) × (b ∈ s)) ⊎ Before a b s

-- a pair that conflicts and that the order turns round
pub record Turned (order : List ℕ) (a b : Step) : Type 0 where
  pub conflicting : Conflict a b
  pub turned : Before b.job a.job order

-- what is found among s: no pair is turned round, or the first step that comes second in one that is
data Pairs (order : List ℕ) : List Step → List Step → Option ℕ → Type 0 where
  none_turned : {earlier s : List Step} → ((a b : Step) → Pair earlier s a b → Turned order a b → ⊥) → Pairs order earlier s Option.none
  turned_at : {earlier s : List Step} (a b : Step) → Pair earlier s a b → Turned order a b
      → ((x y : Step) → Pair earlier s x y → Turned order x y → (y ≡ b) ⊎ Before b y s) → Pairs order earlier s (some b.at)

out : {earlier s : List Step} {b₀ a b : Step} → Pair (b₀ ∷ earlier) s a b → Pair earlier (b₀ ∷ s) a b
out (inl m) = ⊎_elim (λ e. inr (first e m.1)) (λ n. inl (n, later m.1)) (Memᴰ.cases_cons m.0)
out (inr r) = inr (after r)

module _ {order : List ℕ} {earlier s : List Step} {b₀ : Step} where
  -- where b₀ is not the later one of a turned pair, every turned pair is one of the rest
  inward : (Backward order earlier b₀ → ⊥) → {a b : Step} → Turned order a b → Pair earlier (b₀ ∷ s) a b → Pair (b₀ ∷ earlier) s a b
  inward f {a} {b} t (inl m) =
      ⊎_elim
      (λ e. absurd (f (record { with_step = a; before_it = m.0; conflicting = subst (λ (x : Step). Conflict a x) e t.conflicting; turned = subst (λ (x : Step). Before x.job a.job order) e t.turned })))
      (λ n. inl (later m.0, n)) (Memᴰ.cases_cons m.1)
  inward f t (inr r) = ⊎_elim (λ q. inl (Memᴰ.head q.0, q.1)) inr (before_cons r)

  passed_over : {o : Option ℕ} → (Backward order earlier b₀ → ⊥) → Pairs order (b₀ ∷ earlier) s o → Pairs order earlier (b₀ ∷ s) o
  passed_over f (none_turned g) = none_turned (λ a b p t. g a b (inward f t p) t)
  passed_over f (turned_at a b p t low) = turned_at a b (out p) t (λ x y q u. ⊎_elim inl (λ r. inr (after r)) (low x y (inward f u q) u))

pairs : (order : List ℕ) (earlier s : List Step) → Pairs order earlier s (first_backward order earlier s)
pairs order earlier [] = none_turned (λ a b p t. ⊎_elim (λ m. Memᴰ.not-nil m.1) before_nil p)
pairs order earlier (b ∷ s) =
    by_test (λ c. Pairs order earlier (b ∷ s) (cond c (some b.at) (first_backward order (b ∷ earlier) s))) (backward_test order earlier b)
    (λ f. turned_at f.with_step b (inl (f.before_it, here)) (record { conflicting = f.conflicting; turned = f.turned })
    (λ x y p t. ⊎_elim inl (λ n. inr (first refl n)) (Memᴰ.cases_cons (⊎_elim (λ m. m.1) before_right p))))
    (λ f. passed_over f (pairs order (b ∷ earlier) s))

-- ---- the checker accepts exactly the accepted orders

-- a pair is turned round or stands as it should, where the order names both jobs once
not_turned : (h : History) {order : List ℕ} → Once order → ((j : ℕ) → j ∈ kept h → j ∈ order) → ((a : Step) → a ∈ kept_steps h → a.job ∈ kept h)
    → ((a b : Step) → Before a b (kept_steps h) → Turned order a b → ⊥) → (i j : ℕ) → Precedes (kept_steps h) i j → Before i j order
not_turned h {order} once names of_kept f i j p =
    let a = p.earlier in
    let b = p.later in
    let r : Before a.job b.job order =
    ⊎_elim (λ e. absurd (p.conflicting.others e))
    (⊎_elim (λ q. q) (λ q. absurd (f a b p.in_order (record { conflicting = p.conflicting; turned = q }))))
    (members (names a.job (of_kept a (before_left p.in_order))) (names b.job (of_kept b (before_right p.in_order)))) in
    subst₂ (λ (x y : ℕ). Before x y order) p.earlier_job p.later_job r

is_turned : (h : History) {order : List ℕ} → Once order → Keeps (kept_steps h) (layout (kept_steps h) order) → (a b : Step) → Before a b (kept_steps h) → Turned order a b → ⊥
is_turned h {order} once k a b r t = once_one_way once (keeps_forward k a.job b.job (precedes_of r t.conflicting)) t.turned

-- the earliest step that comes second in a pair that the order turns round, and its place
pub record LowestTurned (h : History) (order : List ℕ) (p : ℕ) : Type 0 where
  pub earlier : Step
  pub later : Step
  pub in_order : Before earlier later (kept_steps h)
  pub turned : Turned order earlier later
  pub place : later.at ≡ p
  pub lowest : (a b : Step) → Before a b (kept_steps h) → Turned order a b → p ≤ b.at

-- the order names each kept job once, and nothing else
pub record Named (h : History) (order : List ℕ) : Type 0 where
  pub once : Once order
  pub names : (j : ℕ) → j ∈ kept h → j ∈ order
  pub named : (j : ℕ) → j ∈ order → j ∈ kept h

-- what a verdict says of the order, code by code, with its place
pub data Judged (h : History) (order : List ℕ) : Verdict → Type 0 where
  bad_entry : {p : ℕ} → FirstBad (kept h) [] order zero p → Judged h order (verdict 15 p)
  job_missing : Good (kept h) [] order → (((j : ℕ) → j ∈ kept h → j ∈ order) → ⊥) → Judged h order (verdict 15 (length order))
  pair_turned : {p : ℕ} → Named h order → LowestTurned h order p → Judged h order (verdict 16 p)
  accepted : Accepted h order → Judged h order (verdict 0 (length (kept h)))

module _ (h : History) (turns : Turns h) (order : List ℕ) where
  steps_rise : (a b : Step) → Before a b (kept_steps h) → a.at < b.at
  unfolding kept_steps
  steps_rise a b r = (orderly h turns).in_places a b (before_from_only (λ x. not (has (abandoned h) x.job)) (all_steps h) r)

  with_pairs : {o : Option ℕ} → Named h order → Pairs order [] (kept_steps h) o → Judged h order (or_else 16 o (verdict 0 (length (kept h))))
  with_pairs n (none_turned f) =
      accepted (record { once = n.once; names = n.names; named = n.named; keeps = forward_keeps (not_turned h n.once n.names (step_kept h turns) (λ a b r. f a b (inr r))) })
  with_pairs n (turned_at a b p t low) =
      pair_turned n (record {
        earlier = a;
        later = b;
        in_order = ⊎_elim (λ m. absurd (Memᴰ.not-nil m.0)) (λ r. r) p;
        turned = t;
        place = refl;
        lowest = λ x y r u. ⊎_elim (λ e. let q : y.at ≡ b.at = ap (λ (z : Step). z.at) e in omega arith) (λ q. let w = steps_rise b y q in omega arith) (low x y (inr r) u);
      })

  with_entries : {o : Option ℕ} → Entries (kept h) [] zero order o
      → Judged h order (or_else 15 o (cond (missing (kept h) order) (verdict 15 (length order)) (or_else 16 (first_backward order [] (kept_steps h)) (verdict 0 (length (kept h))))))
  with_entries (one_bad f) = bad_entry f
  with_entries (all_good g) =
      by_test (λ b. Judged h order (cond b (verdict 15 (length order)) (or_else 16 (first_backward order [] (kept_steps h)) (verdict 0 (length (kept h)))))) (missing_test (kept h) order)
      (λ m. job_missing g m)
      (λ f. with_pairs
      (record { once = g.once; named = g.kept; names = ⊎_elim (λ n. n) (λ n. absurd (f n)) (answer (every_test (λ j. has_test order j) (kept h))) })
      (pairs order [] (kept_steps h)))

  -- the verdict on an order of a log in turn
  pub judged_right : Judged h order (judged h order)
  unfolding judged
  judged_right = with_entries (entries (kept h) [] zero order)

-- the verdict on bytes: a fault of the log, or the verdict on the order of its events
pub data Checked (bytes order : List ℕ) : Verdict → Type 0 where
  log_faulty : {c p : ℕ} → read_log bytes ≡ faulty c p → Checked bytes order (verdict c p)
  log_read : {h : History} {v : Verdict} → read_log bytes ≡ events h → Turns h → Judged h order v → Checked bytes order v

pub check_right : (bytes order : List ℕ) → Checked bytes order (check bytes order)
unfolding check
check_right bytes order = go (read_log bytes) refl
  where
    go : (g : Reading) → read_log bytes ≡ g → Checked bytes order (judge g order)
    go (faulty c p) e = log_faulty e
    go (events h) e = let t = read_turns bytes h e in log_read e t (judged_right h t order)

-- a fault of a log has a code that is not 0
faulty_code : (bytes : List ℕ) {c p : ℕ} → read_log bytes ≡ faulty c p → c ≡ 0 → ⊥
faulty_code bytes {c} {p} e = not_zero (faults bytes c p e)
  where
    not_zero : {c p : ℕ} → Fault bytes c p → c ≡ 0 → ⊥
    not_zero (of_length l) z = let y : ◌≡◌ {A = ℕ} 11 0 = z in omega arith
    not_zero (of_record m l f) z = f.is_fault z

module _ (h : History) (order : List ℕ) where
  -- an accepted order has no fault to report, and so no other verdict
  accepted_judged : Accepted h order → {v : Verdict} → Judged h order v → v ≡ verdict 0 (length (kept h))
  accepted_judged a (bad_entry f) =
      let at : f.entry ∈ order = subst (λ (l : List ℕ). f.entry ∈ l) (sym f.split) (Memᴰ.append_right f.front here) in
      absurd (⊎_elim (λ n. n (a.named f.entry at))
      (⊎_elim (λ m. Memᴰ.not-nil m) (λ m. once_irreflexive a.once (subst (λ (l : List ℕ). Before f.entry f.entry l) (sym f.split) (before_across m here)))) f.bad)
  accepted_judged a (job_missing g m) = absurd (m a.names)
  accepted_judged a (pair_turned n l) = absurd (is_turned h a.once a.keeps l.earlier l.later l.in_order l.turned)
  accepted_judged a (accepted b) = refl

  judged_accepted : {v : Verdict} → Judged h order v → v.code ≡ 0 → Accepted h order
  judged_accepted (bad_entry f) z = absurd (let y : ◌≡◌ {A = ℕ} 15 0 = z in omega arith)
  judged_accepted (job_missing g m) z = absurd (let y : ◌≡◌ {A = ℕ} 15 0 = z in omega arith)
  judged_accepted (pair_turned n l) z = absurd (let y : ◌≡◌ {A = ℕ} 16 0 = z in omega arith)
  judged_accepted (accepted b) z = b

-- the checker accepts exactly the accepted orders of a log without a fault
pub check_exactly : (bytes order : List ℕ) → ((check bytes order).code ≡ 0) ↔ ((h : History) × (read_log bytes ≡ events h) × Accepted h order)
check_exactly bytes order = (λ z. yields (check_right bytes order) z, λ r. ap (λ (v : Verdict). v.code) (given r.0 r.1 r.2))
  where
    yields : {v : Verdict} → Checked bytes order v → v.code ≡ 0 → (h : History) × (read_log bytes ≡ events h) × Accepted h order
    yields (log_faulty e) z = absurd (faulty_code bytes e z)
    yields (log_read {h = h} e t j) z = (h, e, judged_accepted h order j z)

    given : (h : History) → read_log bytes ≡ events h → Accepted h order → check bytes order ≡ verdict 0 (length (kept h))
    given h e a = unfold check in ap (λ (g : Reading). judge g order) e ∙ accepted_judged h order a (judged_right h (read_turns bytes h e) order)

-- ---- the lister

-- what the lister's answer says, code by code
pub data ListedAs (h : History) (lent : List ℕ) : Listed → Type 0 where
  no_room : length lent < length (kept h) → ListedAs h lent (refused 18 (length (kept h)) lent)
  no_order : length (kept h) ≤ length lent → Circular (kept_steps h) → ListedAs h lent (refused 17 0 lent)
  an_order : {o : List ℕ} → length (kept h) ≤ length lent → order_of h ≡ some o → Accepted h o → length o ≡ length (kept h)
      → ListedAs h lent (record { code = 0; place = length o; list = o ++ drop (length o) lent })

module _ (h : History) (turns : Turns h) where
  pub kept_once : Once (kept h)
  unfolding kept
  kept_once = once_if (kept h) (λ j r. let q = (orderly h turns).rising j j (before_from_only (λ i. not (has (abandoned h) i)) (opened h) r) in omega arith)

  pub accepted_length : {o : List ℕ} → Accepted h o → length o ≡ length (kept h)
  accepted_length a = once_length a.once kept_once a.named a.names

  with_order : (lent : List ℕ) (o : Option (List ℕ)) → order_of h ≡ o → length (kept h) ≤ length lent → ListedAs h lent (written o lent)
  with_order lent Option.none e le = no_order le (no_order_circle h turns e)
  with_order lent (some o) e le = let a = order_accepted h turns e in an_order le e a (accepted_length a)

  pub listed_right : (lent : List ℕ) → ListedAs h lent (listed h lent)
  unfolding listed
  listed_right lent =
      by_test (λ b. ListedAs h lent (cond b (refused 18 (length (kept h)) lent) (written (order_of h) lent))) (lt_test (length lent) (length (kept h)))
      no_room (λ f. with_order lent (order_of h) refl (let g : (length lent < length (kept h)) → ⊥ = f in omega arith))

pub data Answered (bytes lent : List ℕ) : Listed → Type 0 where
  log_faulty : {c p : ℕ} → read_log bytes ≡ faulty c p → Answered bytes lent (refused c p lent)
  log_read : {h : History} {a : Listed} → read_log bytes ≡ events h → Turns h → ListedAs h lent a → Answered bytes lent a

pub list_right : (bytes lent : List ℕ) → Answered bytes lent (list_order bytes lent)
unfolding list_order
list_right bytes lent = go (read_log bytes) refl
  where
    go : (g : Reading) → read_log bytes ≡ g → Answered bytes lent (list_of g lent)
    go (faulty c p) e = Answered.log_faulty e
    go (events h) e = let t = read_turns bytes h e in Answered.log_read e t (listed_right h t lent)

-- ---- no other verdict, and no other answer

-- an entry that is bad and stands after good ones is the one that is found
first_bad_at : (jobs before : List ℕ) (n : ℕ) (front : List ℕ) (entry : ℕ) (back : List ℕ) → Good jobs before front → (entry ∈ jobs → ⊥) ⊎ ((entry ∈ before) ⊎ (entry ∈ front))
    → first_bad jobs before n (front ++ entry ∷ back) ≡ some (n + length front)
first_bad_at jobs before n [] entry back g b =
    ap (λ (x : Bool). cond x (some n) (first_bad jobs (entry ∷ before) (suc n) back))
    (test_true (or_test (not_test (has_test jobs entry)) (has_test before entry)) (⊎_elim inl (⊎_elim inr (λ m. absurd (Memᴰ.not-nil m))) b))
    ∙ ap some (omega arith)
first_bad_at jobs before n (x ∷ front) entry back g b =
    ap (λ (y : Bool). cond y (some n) (first_bad jobs (x ∷ before) (suc n) (front ++ entry ∷ back)))
    (test_false (or_test (not_test (has_test jobs x)) (has_test before x)) (⊎_elim (λ f. f (g.kept x here)) (g.apart x here)))
    ∙ (first_bad_at jobs (x ∷ before) (suc n) front entry back
    (record {
      once = once_tail g.once;
      kept = λ j m. g.kept j (later m);
      apart = λ j m n. ⊎_elim (λ q. once_head g.once (Memᴰ.cast (sym q) m)) (g.apart j (later m)) (Memᴰ.cases_cons n);
    })
    (⊎_elim inl (⊎_elim (λ m. inr (inl (later m))) (λ m. ⊎_elim (λ q. inr (inl (Memᴰ.head q))) (λ k. inr (inr k)) (Memᴰ.cases_cons m))) b)
    ∙ ap some (omega arith))

found_at : {jobs order : List ℕ} {p : ℕ} → FirstBad jobs [] order zero p → first_bad jobs [] zero order ≡ some p
found_at {jobs} f =
    ap (first_bad jobs [] zero) f.split ∙ (first_bad_at jobs [] zero f.front f.entry f.back f.good f.bad ∙ ap some (sym f.place))

-- entries that are kept and named once have no bad one among them
none_bad : {jobs order : List ℕ} {p : ℕ} → Once order → ((j : ℕ) → j ∈ order → j ∈ jobs) → FirstBad jobs [] order zero p → ⊥
none_bad {jobs} {order} once kept f =
    ⊎_elim (λ n. n (kept f.entry (subst (λ (l : List ℕ). f.entry ∈ l) (sym f.split) (Memᴰ.append_right f.front here))))
    (⊎_elim (λ m. Memᴰ.not-nil m) (λ m. once_irreflexive once (subst (λ (l : List ℕ). Before f.entry f.entry l) (sym f.split) (before_across m here)))) f.bad

module _ (h : History) (order : List ℕ) where
  -- two verdicts that mean what they say of one order are one
  judged_only : {v w : Verdict} → Judged h order v → Judged h order w → v ≡ w
  judged_only (bad_entry f) (bad_entry g) = let q = sym (found_at f) ∙ found_at g in ap (verdict 15) cc
  judged_only (bad_entry f) (job_missing g m) = absurd (none_bad g.once g.kept f)
  judged_only (bad_entry f) (pair_turned n l) = absurd (none_bad n.once n.named f)
  judged_only (bad_entry f) (accepted a) = absurd (none_bad a.once a.named f)
  judged_only (job_missing g m) (bad_entry f) = absurd (none_bad g.once g.kept f)
  judged_only (job_missing g m) (job_missing k n) = refl
  judged_only (job_missing g m) (pair_turned n l) = absurd (m n.names)
  judged_only (job_missing g m) (accepted a) = absurd (m a.names)
  judged_only (pair_turned n l) (bad_entry f) = absurd (none_bad n.once n.named f)
  judged_only (pair_turned n l) (job_missing g m) = absurd (m n.names)
  judged_only (pair_turned n l) (pair_turned k r) =
      let a = l.lowest r.earlier r.later r.in_order r.turned in
      let b = r.lowest l.earlier l.later l.in_order l.turned in
      let c = l.place in
      let d = r.place in
      ap (verdict 16) (omega arith)
  judged_only (pair_turned n l) (accepted a) = absurd (is_turned h a.once a.keeps l.earlier l.later l.in_order l.turned)
  judged_only (accepted a) j = sym (accepted_judged h order a j)

-- whatever verdict means that of a log and a list is the checker's
pub checked_only : (bytes order : List ℕ) {v : Verdict} → Checked bytes order v → v ≡ check bytes order
unfolding check
checked_only bytes order (log_faulty e) = sym (ap (λ (g : Reading). judge g order) e)
checked_only bytes order (log_read {h = h} e t j) = judged_only h order j (judged_right h t order) ∙ sym (ap (λ (g : Reading). judge g order) e)

module _ (h : History) (turns : Turns h) (lent : List ℕ) where
  -- and two answers
  listed_only : {a b : Listed} → ListedAs h lent a → ListedAs h lent b → a ≡ b
  listed_only (no_room l) (no_room k) = refl
  listed_only (no_room l) (no_order k c) = absurd (omega arith)
  listed_only (no_room l) (an_order k e a n) = absurd (omega arith)
  listed_only (no_order l c) (no_room k) = absurd (omega arith)
  listed_only (no_order l c) (no_order k d) = refl
  listed_only (no_order l c) (an_order k e a n) = absurd (accepted_no_circle h turns a c)
  listed_only (an_order k e a n) (no_room l) = absurd (omega arith)
  listed_only (an_order k e a n) (no_order l c) = absurd (accepted_no_circle h turns a c)
  listed_only (an_order {o = o} k e a n) (an_order {o = p} l f b m) =
      let q : o ≡ p = cc in
      ap (λ (x : List ℕ). record { code = 0; place = length x; list = x ++ drop (length x) lent }) q

-- whatever answer means that of a log and a lent list is the lister's
pub answered_only : (bytes lent : List ℕ) {a : Listed} → Answered bytes lent a → a ≡ list_order bytes lent
unfolding list_order
answered_only bytes lent (log_faulty e) = sym (ap (λ (g : Reading). list_of g lent) e)
answered_only bytes lent (log_read {h = h} e t l) = listed_only h t lent l (listed_right h t lent) ∙ sym (ap (λ (g : Reading). list_of g lent) e)
