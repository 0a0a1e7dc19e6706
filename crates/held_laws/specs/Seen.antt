-- The rows are the bounded memory seen through the slots (`Seen`): where the memory has a job, the rows have the open slot that holds its number, and where
-- the memory has a read, write or add, the rows have its cell in the set of each aspect that it shows (`shown`). The slot is under the port of its job alone.
-- In order: what is meant; what is shown of footprints; the first that passes a test, and the slot of a number; a step's leads, and walks over slots and over jobs; as many
-- slots of a port as jobs, and the facts agree (`seen_agree`); the fresh state (`seen_start`); a step, the leaving of a slot (an end, an abandon), an open; a request (`seen_after`).
-- Assumes nothing.
use Rattle.std.specs.Prelude.{◌≡◌, ◌⊎◌, Bool, true, false, ◌&&◌, ◌||◌, cond, leb}
use Rattle.std.proofs.Math.Path.{refl, sym, ap, ap₂, subst, subst₂}
use Rattle.std.proofs.Common.{◌∙◌, inl, inr, le_trans, lit<, pow_pos}
use Rattle.std.proofs.Math.Logic.{⊎_elim}
use Rattle.std.proofs.Math.Bool.{not, and_comm, and-false, or-false}
use Rattle.std.proofs.Math.Option.{Option, some}
use mathlib.Core.List.Memᴰ
use mathlib.Core.List.{List, [], ◌∷◌, ◌++◌}
use Prim.Native.Nat.{ℕ, zero, suc, ◌+◌, ◌-◌, ◌*◌, ◌/◌, ◌%◌, ◌^◌, ◌≤◌, ◌<◌, zero-le, suc-le-suc}
use native.Mathlib.Omega.{arith}
use Rattle.std.proofs.Math.Dec.{T, eqb, T_not, not_T}
use Rattle.std.proofs.Math.ListN.{length, length-append}
use Rattle.graph.specs.Decide.{Decides, and_test, or_test, not_test, eq_test, own_test, read_as, same_test, is_true, true_is, false_is, test_true, test_false, T_or_right, by_test, some_of, some_test, some_same, answer}
use Rattle.graph.specs.Lists.{◌∈◌, here, later, only, only_from, only_keeps, only_same, only_both, before_from_only, Once, none, more, once_if, once_only, strike, strike_keeps, strike_from, strike_shorter, strike_once}
use Rattle.graph.specs.Walk.{Via, one, step}
use Rattle.graph.specs.Reach.{reach, reach_test}
use Rattle.marks.specs.Marks.{bit, upto}
use Rattle.marks.specs.MarkLaws.{getD_tab, tab_member, upto_has, upto_from, bit_zero, bit_others}
use Rattle.marks.specs.Words.{marked, empty}
use Rattle.marks.specs.WordLaws.{Fit, empty_test}
use Rattle.history.specs.Events.{Kind, read, write, add, kinds, kinds_clash, alters, does, opening, ending, Event, History, has, opened, ended, abandoned, kept, open_now}
use Rattle.history.specs.Replies.{cells, most_open, numbers, port_count, Request, Want, an_open, a_step, an_end, an_abandon, a_publish, nothing, want, first_of, tests, code_of, event_of, granted_of, entered, ports_after, Book}
use Rattle.history.specs.Memory.{Footprint, Memory, fresh, touches, same_deed, step_in, blank, fold, right, open_in, move, move_all, below, held, with_port, held_after}
use Rattle.history_laws.specs.MemoryLaws.{every_kind, kind_test}
use Rattle.history_laws.specs.TurnLaws.{has_test, open_opened, orderly}
use Rattle.history_laws.specs.TimeLaws.{meets_does, opening_own, ending_own, ending_leads, opening_leads, past_ended}
use Rattle.history_laws.specs.Granted.{below_bound, passed}
use Rattle.history_laws.specs.Exact.{Agree, agree_code, Beside, below_has}
use Rattle.held.specs.Held.{Held, fresh_held, word_marks, set_words, row_words, past_place, number_at, leads_at, port_at, word_at, open_at, open_slots, Aspect, as_used, as_altered, aspects, shows, clash_shows, set_place, set_at, cell_at, own_at, past_at, first_in, is_some, at_slot, slot_of, meets, touched, chain_back, altered, facts, has_past, opened_at, stepped_at, left_at, takes_over, ended_at, abandoned_at, with_slot, free_slot, moved, after}
use Rattle.held_laws.specs.HeldMoves.{number_opened, number_left, Fits, fresh_fits, opened_fits, stepped_fits, left_fits}
use Rattle.held_laws.specs.HeldLaws.{set_end, every_aspect, slot_from, slot_if, slots_once, slots_full, slots_opened, slots_stepped, slots_left, opened_open_at, opened_leads_at, opened_port_at, opened_own_at, opened_past_at, stepped_leads_at, stepped_own_at, stepped_past_at, left_leads_at, left_own_at, left_past_at}

-- ---- what is meant

-- some step that shows the aspect was done on the cell
abbrev pub shown : Footprint → Aspect → ℕ → Bool
shown f a c = some_of (λ k. shows k a && f (does k) c) kinds

pub record Seen (st : Held) (m : Memory) : Type 0 where
  pub next : st.next ≡ m.next
  -- the open slots hold the open jobs, one each
  pub apart : (i x : ℕ) → i ∈ open_slots st → x ∈ open_slots st → number_at st i ≡ number_at st x → i ≡ x
  pub a_job : (i : ℕ) → i ∈ open_slots st → number_at st i ∈ m.jobs
  pub a_slot : (j : ℕ) → j ∈ m.jobs → (i : ℕ) × (i ∈ open_slots st) × (number_at st i ≡ j)
  pub count : length (open_slots st) ≡ length m.jobs
  -- the used and the altered cells of own and past of an open slot are those that the reads, writes and adds of its job show, and its leads are its job's.
  -- Openings and ends are not held
  pub own : (i : ℕ) → i ∈ open_slots st → (a : Aspect) (c : ℕ) → c < cells → own_at st i a c ≡ shown (m.own (number_at st i)) a c
  pub past : (i : ℕ) → i ∈ open_slots st → (a : Aspect) (c : ℕ) → c < cells → past_at st i a c ≡ shown (m.past (number_at st i)) a c
  pub leads : (i x : ℕ) → i ∈ open_slots st → x ∈ open_slots st → bit (leads_at st i) x ≡ m.leads (number_at st i) (number_at st x)
  -- an open slot is under the port of its job, and under no other
  pub port : (i p : ℕ) → i ∈ open_slots st → p < port_count → bit (port_at st p) i ≡ eqb (m.port (number_at st i)) p
  -- no word has a mark that is no cell
  pub fits : Fits st

-- ---- what is shown of footprints

shown_test : (f : Footprint) (a : Aspect) (c : ℕ) → Decides (shown f a c) ((k : Kind) × (k ∈ kinds) × (T (shows k a) × T (f (does k) c)))
shown_test f a c = some_test (λ k. and_test (own_test (shows k a)) (own_test (f (does k) c))) kinds

-- by footprints that agree on reads, writes and adds, and by one that has none
shown_same : (f g : Footprint) (a : Aspect) (c : ℕ) → ((k : Kind) → f (does k) c ≡ g (does k) c) → shown f a c ≡ shown g a c
shown_same f g a c h = some_same (λ k. shows k a && f (does k) c) (λ k. shows k a && g (does k) c) kinds (λ k m. ap (λ (b : Bool). shows k a && b) (h k))

shown_none : (f : Footprint) (a : Aspect) (c : ℕ) → ((k : Kind) → f (does k) c ≡ false) → shown f a c ≡ false
shown_none f a c h = test_false (shown_test f a c) (λ r. false_is (h r.0) r.2.1)

-- by one or the other, and where a test holds
shown_or : (f g : Footprint) (a : Aspect) (c : ℕ) → shown (λ d x. f d x || g d x) a c ≡ shown f a c || shown g a c
shown_or f g a c =
    same_test (some_test (λ k. and_test (own_test (shows k a)) (or_test (own_test (f (does k) c)) (own_test (g (does k) c)))) kinds) (or_test (shown_test f a c) (shown_test g a c))
    (λ r. ⊎_elim (λ x. inl (r.0, r.1, (r.2.0, x))) (λ x. inr (r.0, r.1, (r.2.0, x))) r.2.1)
    (⊎_elim (λ r. (r.0, r.1, (r.2.0, inl r.2.1))) (λ r. (r.0, r.1, (r.2.0, inr r.2.1))))

shown_and : (b : Bool) (f : Footprint) (a : Aspect) (c : ℕ) → shown (λ d x. b && f d x) a c ≡ b && shown f a c
shown_and true f a c = refl
shown_and false f a c = shown_none (λ d x. false) a c (λ k. refl)

-- a step on cell c shows its aspects there
shown_step : (f : Footprint) (b : Bool) (k : Kind) (c : ℕ) (a : Aspect) (x : ℕ)
    → shown (λ e y. f e y || (b && (same_deed e (does k) && eqb y c))) a x ≡ shown f a x || (b && (shows k a && eqb x c))
unfolding same_deed
shown_step f b k c a x =
    shown_or f (λ e y. b && (same_deed e (does k) && eqb y c)) a x
    ∙ ap (λ (z : Bool). shown f a x || z)
    (same_test
    (some_test (λ l. and_test (own_test (shows l a)) (and_test (own_test b) (and_test (kind_test l k) (eq_test x c)))) kinds)
    (and_test (own_test b) (and_test (own_test (shows k a)) (eq_test x c)))
    (λ r. (r.2.1.0, (subst (λ (l : Kind). T (shows l a)) r.2.1.1.0 r.2.0, r.2.1.1.1)))
    (λ r. (k, every_kind k, (r.1.0, (r.0, (refl, r.1.1))))))

-- one of two kinds uses the cell, and the other alters it
clash_test : (k l : Kind) → Decides (kinds_clash k l) ((T (shows l as_altered) × T (shows k as_used)) ⊎ (T (shows l as_used) × T (shows k as_altered)))
clash_test k l =
    subst (λ (b : Bool). Decides b ((T (shows l as_altered) × T (shows k as_used)) ⊎ (T (shows l as_used) × T (shows k as_altered)))) (sym (clash_shows k l))
    (or_test (and_test (own_test (shows l as_altered)) (own_test (shows k as_used))) (and_test (own_test (shows l as_used)) (own_test (shows k as_altered))))

-- so the cells shown meet the steps that the footprint meets
meets_shown : (f : Footprint) (k : Kind) (c : ℕ) → meets (shown f) k c ≡ Rattle.history.specs.Memory.meets f (does k) c
unfolding meets
meets_shown f k c =
    same_test
    (or_test (and_test (own_test (shows k as_altered)) (shown_test f as_used c)) (and_test (own_test (shows k as_used)) (shown_test f as_altered c)))
    (some_test (λ l. and_test (own_test (f (does l) c)) (clash_test l k)) kinds)
    (⊎_elim (λ r. (r.1.0, r.1.1, (r.1.2.1, inl (r.0, r.1.2.0)))) (λ r. (r.1.0, r.1.1, (r.1.2.1, inr (r.0, r.1.2.0)))))
    (λ r. ⊎_elim (λ x. inl (x.0, (r.0, r.1, (x.1, r.2.0)))) (λ x. inr (x.0, (r.0, r.1, (x.1, r.2.0)))) r.2.1)
    ∙ sym (meets_does f c k)

-- ---- the first that passes, and the slot of a number

-- a list that has a first has it as a member, and one that has a member has a first
first_is : (l : List ℕ) → T (is_some (first_in l)) → (i : ℕ) × (first_in l ≡ some i) × (i ∈ l)
first_is [] t = absurd t
first_is (i ∷ l) t = (i, refl, here)

first_if : {i : ℕ} {l : List ℕ} → i ∈ l → T (is_some (first_in l))
first_if {l = []} m = Memᴰ.not-nil m
first_if {l = x ∷ l} m = tt

-- a member of l passes p, and this is the first that does
record First (p : ℕ → Bool) (l : List ℕ) : Type 0 where
  which : ℕ
  found : first_in (only p l) ≡ some which
  member : which ∈ l
  passes : T (p which)

module _ (p : ℕ → Bool) (l : List ℕ) where
  first_test : Decides (is_some (first_in (only p l))) (First p l)
  first_test =
      record {
        holds = λ t.
            let r = first_is (only p l) t in
            let f = only_from p l r.2 in
            record { which = r.0; found = r.1; member = f.0; passes = f.1 };
        shows = λ r. first_if (only_keeps p r.member r.passes);
      }

  first_there : {i : ℕ} → i ∈ l → T (p i) → First p l
  first_there m t = first_test.holds (first_if (only_keeps p m t))

-- the slot that is meant by a number: open, and it has the number
pub record SlotOf (st : Held) (j : ℕ) : Type 0 where
  pub slot : ℕ
  pub meant : slot_of st j ≡ some slot
  pub is_open : slot ∈ open_slots st
  pub its_number : number_at st slot ≡ j

module _ (st : Held) (j : ℕ) where
  numbered : (i : ℕ) → Decides (eqb (number_at st i) j) (number_at st i ≡ j)
  numbered i = eq_test (number_at st i) j

  first_slot : First (λ i. eqb (number_at st i) j) (open_slots st) → SlotOf st j
  unfolding slot_of
  first_slot r = record { slot = r.which; meant = r.found; is_open = r.member; its_number = (numbered r.which).holds r.passes }

  -- where an open slot has the number one is meant
  pub slot_there : {i : ℕ} → i ∈ open_slots st → number_at st i ≡ j → SlotOf st j
  slot_there {i} o e = first_slot (first_there (λ i. eqb (number_at st i) j) (open_slots st) o ((numbered i).shows e))

  -- the number has a slot exactly when one is meant
  pub slot_test : Decides (is_some (slot_of st j)) (SlotOf st j)
  unfolding slot_of
  slot_test =
      read_as (first_test (λ i. eqb (number_at st i) j) (open_slots st)) first_slot
      (λ r. record { which = r.slot; found = r.meant; member = r.is_open; passes = (numbered r.slot).shows r.its_number })

-- ---- a step's leads, seen through the slots

-- sets that agree on a cell meet the same steps on it
meets_same : (f g : Aspect → ℕ → Bool) (k : Kind) (c : ℕ) → ((a : Aspect) → f a c ≡ g a c) → meets f k c ≡ meets g k c
unfolding meets
meets_same f g k c h = ap₂ (λ (x y : Bool). (shows k as_altered && x) || (shows k as_used && y)) (h as_used) (h as_altered)

module _ {st : Held} {m : Memory} (seen : Seen st m) where
  -- slots are the same when their numbers are
  same_slot : (i s : ℕ) → i ∈ open_slots st → s ∈ open_slots st → eqb i s ≡ eqb (number_at st i) (number_at st s)
  same_slot i s o p = same_test (eq_test i s) (eq_test (number_at st i) (number_at st s)) (ap (number_at st)) (seen.apart i s o p)

  module _ (k : Kind) (s c : ℕ) (p : s ∈ open_slots st) (real : c < cells) where
    -- the slots that a step touches are those of the jobs that it touches
    touched_same : (i : ℕ) → i ∈ open_slots st → touched st k s c i ≡ touches m (does k) (number_at st s) c (number_at st i)
    unfolding touched touches
    touched_same i o =
        let j = number_at st i in
        ap₂ (λ (a b : Bool). a || b)
        (ap₂ (λ (a b : Bool). not a && b) (same_slot i s o p)
        (meets_same (own_at st i) (shown (m.own j)) k c (λ a. seen.own i o a c real) ∙ meets_shown (m.own j) k c))
        (meets_same (past_at st i) (shown (m.past j)) k c (λ a. seen.past i o a c real) ∙ meets_shown (m.past j) k c)

    -- so held and new leads together are those of the memory after the step
    lead_same : (i x : ℕ) → i ∈ open_slots st → x ∈ open_slots st
        → bit (leads_at st i) x || (eqb x s && touched st k s c i) ≡ (step_in m (does k) (number_at st s) c).leads (number_at st i) (number_at st x)
    unfolding step_in
    lead_same i x o q =
        ap₂ (λ (a b : Bool). a || b) (seen.leads i x o q) (ap₂ (λ (a b : Bool). a && b) (same_slot x s q p) (touched_same i o))

  -- walks over slots and walks over jobs, along edges that agree on the open slots
  module _ (e f : ℕ → ℕ → Bool) (same : (i x : ℕ) → i ∈ open_slots st → x ∈ open_slots st → e i x ≡ f (number_at st i) (number_at st x)) where
    abbrev SlotWalk : ℕ → ℕ → Type 0
    SlotWalk p q = Via (λ i x. T (e i x)) (λ i. i ∈ open_slots st) p q

    abbrev JobWalk : ℕ → ℕ → Type 0
    JobWalk j l = Via (λ i x. T (f i x)) (λ i. i ∈ m.jobs) j l

    to_jobs : {p q : ℕ} → p ∈ open_slots st → q ∈ open_slots st → SlotWalk p q → JobWalk (number_at st p) (number_at st q)
    to_jobs a b (one {p = p} {q = q} w) = one (subst T (same p q a b) w)
    to_jobs a b (step {p = p} {m = n} w o v) = step (subst T (same p n a o) w) (seen.a_job n o) (to_jobs o b v)

    to_slots : {p q j l : ℕ} → p ∈ open_slots st → q ∈ open_slots st → number_at st p ≡ j → number_at st q ≡ l → JobWalk j l → SlotWalk p q
    to_slots {p} {q} a b u v (one w) = one (subst T (sym (same p q a b ∙ ap₂ f u v)) w)
    to_slots {p} a b u v (step {m = n} w o r) =
        let d = seen.a_slot n o in
        step (subst T (sym (same p d.0 a d.1 ∙ ap₂ f u d.2)) w) d.1 (to_slots {p = d.0} d.1 b d.2 v r)

    reach_same : (p q : ℕ) → p ∈ open_slots st → q ∈ open_slots st → reach e (open_slots st) p q ≡ reach f m.jobs (number_at st p) (number_at st q)
    reach_same p q a b =
        same_test
        (reach_test (λ i x. own_test (e i x)) (open_slots st) p q)
        (reach_test (λ i x. own_test (f i x)) m.jobs (number_at st p) (number_at st q))
        (to_jobs a b) (to_slots a b refl refl)

-- ---- the facts agree

-- members that are numbered apart, into a list: no more of them than it has, and where they are as many, as many pass a test as there
module _ (f : ℕ → ℕ) where
  numbered_le : {l k : List ℕ} → Once l → ((i x : ℕ) → i ∈ l → x ∈ l → f i ≡ f x → i ≡ x) → ((i : ℕ) → i ∈ l → f i ∈ k) → length l ≤ length k
  numbered_le none apart into = zero-le
  numbered_le {l = x ∷ l} {k = k} (more n o) apart into =
      le_trans
      (suc-le-suc (numbered_le o (λ i y a b. apart i y (later a) (later b)) (λ i a. strike_keeps (into i (later a)) (λ e. n (Memᴰ.cast (apart x i here (later a) (sym e)) a)))))
      (strike_shorter (into x here))

  numbered_alike : {l k : List ℕ} → Once l → ((i x : ℕ) → i ∈ l → x ∈ l → f i ≡ f x → i ≡ x) → ((i : ℕ) → i ∈ l → f i ∈ k) → length l ≡ length k
      → (q : ℕ → Bool) → length (only (λ i. q (f i)) l) ≡ length (only q k)
  numbered_alike {l} {k} once apart into same q =
      let yes_le = part q in
      let no_le = part (λ j. not (q j)) in
      let all_l = only_both (λ i. q (f i)) l in
      let all_k = only_both q k in
      omega arith
    where
      part : (t : ℕ → Bool) → length (only (λ i. t (f i)) l) ≤ length (only t k)
      part t =
          numbered_le (once_only (λ i. t (f i)) once) (λ i x a b. apart i x (only_from (λ i. t (f i)) l a).0 (only_from (λ i. t (f i)) l b).0)
          (λ i a. let r = only_from (λ i. t (f i)) l a in only_keeps t (into i r.0) r.1)

below_from : (c n : ℕ) → c ∈ below n → c < n
below_from c zero h = absurd (Memᴰ.not-nil h)
below_from c (suc n) h = ⊎_elim (λ e. let q : c ≡ n = e in omega arith) (λ r. let q = below_from c n r in omega arith) (Memᴰ.cases_cons h)

-- a cell is in a set of a row exactly when its mark is in the set's words
pub cell_marked : (st : Held) (i o c : ℕ) → c < cells → cell_at st i o c ≡ marked word_marks (set_at st i o) c
unfolding cell_at marked
cell_marked st i o c q = ap (λ (n : ℕ). bit n (c % word_marks)) (sym (getD_tab set_words (λ w. word_at st i (o + w)) (c / word_marks) 0 (omega arith)))

pub set_fits : {st : Held} → Fits st → (i o : ℕ) → i < most_open → o + set_words ≤ row_words → Fit word_marks (set_at st i o)
unfolding word_at
set_fits {st} f i o p q w m =
    let r = tab_member set_words (λ w. word_at st i (o + w)) m in
    let z = r.1 in
    subst (λ (n : ℕ). n < 2 ^ word_marks) (sym r.2) (f.word (i * row_words + (o + r.0)) (omega arith))

-- so a set is not empty exactly when some cell is in it
set_or_cell : {st : Held} → Fits st → (i o : ℕ) → i < most_open → o + set_words ≤ row_words
    → not (empty (set_at st i o)) ≡ some_of (cell_at st i o) (below cells)
set_or_cell {st} f i o p q =
    same_test (not_test (empty_test word_marks (set_at st i o) (lit< tt) (set_fits f i o p q))) cell_test
    (λ n. ⊎_elim (λ r. r) (λ none. absurd (n (λ c h t. none (c, below_has c cells h, subst T (sym (cell_marked st i o c h)) t)))) (answer cell_test))
    (λ r n. let h = below_from r.0 cells r.1 in n r.0 h (subst T (cell_marked st i o r.0 h) r.2))
  where
    cell_test : Decides (some_of (cell_at st i o) (below cells)) ((c : ℕ) × (c ∈ below cells) × T (cell_at st i o c))
    cell_test = some_test (λ c. own_test (cell_at st i o c)) (below cells)

-- a step of any kind shows one aspect or the other
some_aspect : (k : Kind) → (a : Aspect) × T (shows k a)
some_aspect read = (as_used, tt)
some_aspect write = (as_used, tt)
some_aspect add = (as_altered, tt)

-- has the job a read, write or add in its past?
abbrev pub any_past : Memory → ℕ → Bool
any_past m j = some_of (λ k. some_of (λ c. m.past j (does k) c) (below cells)) kinds

module _ {st : Held} {m : Memory} (seen : Seen st m) where
  -- the slot of a job that is open
  job_slot : (j : ℕ) → j ∈ m.jobs → SlotOf st j
  job_slot j o = let r = seen.a_slot j o in slot_there st j r.1 r.2

  -- a slot has altered a cell exactly when its job has a write or add
  altered_same : (s : ℕ) → s ∈ open_slots st → altered st s ≡ (held right m).has_written (number_at st s)
  unfolding altered held
  altered_same s p =
      let own = m.own (number_at st s) in
      set_or_cell seen.fits s (set_place as_altered) (slot_from st p).0 (lit< tt)
      ∙ some_same (own_at st s as_altered) (shown own as_altered) (below cells) (λ c r. seen.own s p as_altered c (below_from c cells r))
      ∙ same_test
      (some_test (λ c. shown_test own as_altered c) (below cells))
      (some_test (λ k. and_test (own_test (alters k)) (some_test (λ c. own_test (own (does k) c)) (below cells))) kinds)
      (λ r. let z = r.2 in (z.0, z.1, (z.2.0, (r.0, r.1, z.2.1))))
      (λ r. let z = r.2.1 in (z.0, z.1, (r.0, r.1, (r.2.0, z.2))))

  -- and a past exactly when its job has a read, write or add in its past
  past_same : (i : ℕ) → i ∈ open_slots st → has_past st i ≡ any_past m (number_at st i)
  unfolding has_past
  past_same i p =
      let past = m.past (number_at st i) in
      some_same (λ a. not (empty (set_at st i (past_place + set_place a)))) (λ a. some_of (shown past a) (below cells)) aspects
      (λ a n. set_or_cell seen.fits i (past_place + set_place a) (slot_from st p).0 (omega (arith, set_end a))
      ∙ some_same (past_at st i a) (shown past a) (below cells) (λ c r. seen.past i p a c (below_from c cells r)))
      ∙ same_test
      (some_test (λ a. some_test (λ c. shown_test past a c) (below cells)) aspects)
      (some_test (λ k. some_test (λ c. own_test (past (does k) c)) (below cells)) kinds)
      (λ r. let z = r.2.2 in (z.0, z.1, (r.2.0, r.2.1, z.2.1)))
      (λ r. let z = r.2 in let a = some_aspect r.0 in (a.0, every_aspect a.0, (z.0, z.1, (r.0, r.1, (a.1, z.2)))))

  -- a step closes a chain over slots exactly when it closes one over jobs
  chain_same : (k : Kind) (s c : ℕ) → s ∈ open_slots st → c < cells → chain_back st k s c ≡ (held right m).closes k (number_at st s) c
  unfolding chain_back held right
  chain_same k s c p real =
      reach_same seen
      (λ i x. bit (leads_at st i) x || (eqb x s && touched st k s c i)) (step_in m (does k) (number_at st s) c).leads (lead_same seen k s c p real) s s p p

  -- what the codes ask of the rows is what they ask of the memory
  pub seen_agree : Agree (facts st) (held right m)
  unfolding facts
  seen_agree = record { is_open = opens_same; has_written = written_same; count = count_same; crowd = crowd_same; next = next_same; closes = closes_same }
    where
      job_of : (j : ℕ) → T ((held right m).is_open j) → SlotOf st j
      job_of j o = unfold held in job_slot j ((has_test m.jobs j).holds o)

      opens_same : (j : ℕ) → is_some (slot_of st j) ≡ (held right m).is_open j
      opens_same j =
          unfold held in
          same_test (slot_test st j) (has_test m.jobs j) (λ r. Memᴰ.cast (sym r.its_number) (seen.a_job r.slot r.is_open)) (job_slot j)

      written_same : (j : ℕ) → T ((held right m).is_open j) → at_slot (slot_of st j) (altered st) ≡ (held right m).has_written j
      written_same j o =
          let r = job_of j o in
          ap (λ (a : Option ℕ). at_slot a (altered st)) r.meant ∙ altered_same r.slot r.is_open ∙ ap (held right m).has_written r.its_number

      count_same : length (open_slots st) ≡ (held right m).count
      count_same = unfold held in seen.count

      -- the slots under a port are as many as the jobs of the port
      crowd_same : (p : ℕ) → p < port_count → length (only (bit (port_at st p)) (open_slots st)) ≡ (held right m).crowd p
      crowd_same p q =
          unfold held in
          ap length (only_same (bit (port_at st p)) (λ i. eqb (m.port (number_at st i)) p) (open_slots st) (λ i o. seen.port i p o q))
          ∙ numbered_alike (number_at st) (slots_once st) seen.apart seen.a_job seen.count (λ j. eqb (m.port j) p)

      next_same : st.next ≡ (held right m).next
      next_same = unfold held in seen.next

      closes_same : (k : Kind) (j c : ℕ) → T ((held right m).is_open j) → c < cells
          → at_slot (slot_of st j) (λ s. chain_back st k s c) ≡ (held right m).closes k j c
      closes_same k j c o real =
          let r = job_of j o in
          ap (λ (a : Option ℕ). at_slot a (λ s. chain_back st k s c)) r.meant
          ∙ chain_same k r.slot c r.is_open real
          ∙ ap (λ (l : ℕ). (held right m).closes k l c) r.its_number

-- ---- the start

-- a list that has no member is empty
no_member : {X : Type 0} (l : List X) → ((x : X) → x ∈ l → ⊥) → l ≡ []
no_member [] h = refl
no_member (x ∷ l) h = absurd (h x here)

-- the fresh rows are the fresh memory
pub seen_start : (first : ℕ) → Seen (fresh_held first) (fresh first)
unfolding fresh_held
seen_start first =
    record {
      next = refl;
      apart = λ i x o p e. absurd (shut i o);
      a_job = λ i o. absurd (shut i o);
      a_slot = λ j o. absurd (Memᴰ.not-nil o);
      count = ap length (no_member (open_slots (fresh_held first)) shut);
      own = λ i o a c real. absurd (shut i o);
      past = λ i o a c real. absurd (shut i o);
      leads = λ i x o p. absurd (shut i o);
      port = λ i p o q. absurd (shut i o);
      fits = fresh_fits first;
    }
  where
    -- every slot is free
    shut : (i : ℕ) → i ∈ open_slots (fresh_held first) → ⊥
    shut i o =
        unfold open_at in
        let f = slot_from (fresh_held first) o in
        T_not (bit (2 ^ most_open - 1) i) f.1 (true_is (bit_others most_open 0 i (pow_pos most_open) f.0 ∙ ap not (bit_zero i)))

-- ---- a step

module _ {st : Held} {m : Memory} (seen : Seen st m) (k : Kind) (s c : ℕ) (p : s ∈ open_slots st) (real : c < cells) where
  was_open : {i : ℕ} → i ∈ open_slots (stepped_at st k s c) → i ∈ open_slots st
  was_open {i} o = subst (λ (l : List ℕ). i ∈ l) (slots_stepped st k s c) o

  -- a granted step keeps the rows and the memory alike
  pub seen_step : Seen (stepped_at st k s c) (step_in m (does k) (number_at st s) c)
  unfolding stepped_at number_at port_at step_in
  seen_step =
      record {
        next = seen.next;
        apart = λ i x o q. seen.apart i x (was_open o) (was_open q);
        a_job = λ i o. seen.a_job i (was_open o);
        a_slot = λ j o. let r = seen.a_slot j o in (r.0, subst (λ (l : List ℕ). r.0 ∈ l) (sym (slots_stepped st k s c)) r.1, r.2);
        count = ap length (slots_stepped st k s c) ∙ seen.count;
        own = λ i o a c' real'. stepped_own_at st k s c i (slot_from st (was_open o)).0 real a c' real'
            ∙ ap₂ (λ (x y : Bool). x || (y && (shows k a && eqb c' c))) (seen.own i (was_open o) a c' real') (same_slot seen i s (was_open o) p)
            ∙ sym (shown_step (m.own (number_at st i)) (eqb (number_at st i) (number_at st s)) k c a c');
        past = λ i o a c' real'. stepped_past_at st k s c i (slot_from st (was_open o)).0 real a c' real' ∙ seen.past i (was_open o) a c' real';
        leads = λ i x o q. stepped_leads_at st k s c i (slot_from st (was_open o)).0 x
            ∙ ap (λ (b : Bool). bit (leads_at st i) x || (eqb x s && (b && touched st k s c i))) (is_true {b = open_at st i} (slot_from st (was_open o)).1)
            ∙ lead_same seen k s c p real i x (was_open o) (was_open q);
        port = λ i p o q. seen.port i p (was_open o) q;
        fits = stepped_fits seen.fits s k c;
      }

-- ---- a slot is left

-- the memory whose jobs that pass u have taken over own, past and leads of j
abbrev over : (ℕ → Bool) → Memory → ℕ → Memory
over u m j =
    record {
      next = m.next;
      jobs = m.jobs;
      own = m.own;
      past = λ i d c. m.past i d c || (u i && (m.own j d c || m.past j d c));
      leads = λ i x. m.leads i x || (u i && m.leads j x);
      port = m.port;
    }

shown_over : (u : ℕ → Bool) (m : Memory) (j n : ℕ) (a : Aspect) (c : ℕ)
    → shown ((over u m j).past n) a c ≡ shown (m.past n) a c || (u n && (shown (m.own j) a c || shown (m.past j) a c))
shown_over u m j n a c =
    shown_or (m.past n) (λ d x. u n && (m.own j d x || m.past j d x)) a c
    ∙ ap (λ (b : Bool). shown (m.past n) a c || b)
    (shown_and (u n) (λ d x. m.own j d x || m.past j d x) a c ∙ ap (λ (b : Bool). u n && b) (shown_or (m.own j) (m.past j) a c))

module _ {st : Held} {m : Memory} (seen : Seen st m) (once : Once m.jobs) (s : ℕ) (p : s ∈ open_slots st) where
  module _ (t u : ℕ → Bool) (same : (i : ℕ) → i ∈ open_slots st → (i ≡ s → ⊥) → t i ≡ u (number_at st i)) where
    other_slot : {i : ℕ} → i ∈ open_slots (left_at st t s) → (i ∈ open_slots st) × (i ≡ s → ⊥)
    other_slot {i} o = strike_from s (open_slots st) (subst (λ (l : List ℕ). i ∈ l) (slots_left st t s) o)

    slot_kept : {i : ℕ} → i ∈ open_slots st → (i ≡ s → ⊥) → i ∈ open_slots (left_at st t s)
    slot_kept {i} o ne = subst (λ (l : List ℕ). i ∈ l) (sym (slots_left st t s)) (strike_keeps o ne)

    number_kept : {i : ℕ} → i ∈ open_slots st → (i ≡ s → ⊥) → number_at (left_at st t s) i ≡ number_at st i
    number_kept {i} o ne = number_left st s t i (slot_from st o).0 ∙ ap (λ (b : Bool). cond b 0 (number_at st i)) (test_false (eq_test i s) ne)

    same_number : {i : ℕ} → i ∈ open_slots (left_at st t s) → number_at (left_at st t s) i ≡ number_at st i
    same_number o = let q = other_slot o in number_kept q.0 q.1

    -- what is blanked at the slot is blanked at its job
    blanked : (f : ℕ → Bool) {a b : Bool} {i : ℕ} → i ∈ open_slots (left_at st t s) → a ≡ not (eqb i s) && b → b ≡ f (number_at st i)
        → a ≡ not (eqb (number_at (left_at st t s) i) (number_at st s)) && f (number_at (left_at st t s) i)
    blanked f {i = i} o e g =
        e
        ∙ ap₂ (λ (x y : Bool). not x && y) (same_slot seen i s (other_slot o).0 p) g
        ∙ ap (λ (n : ℕ). not (eqb n (number_at st s)) && f n) (sym (same_number o))

    -- the slot's leads to open slots
    passed_on : {x : ℕ} → x ∈ open_slots st → bit (leads_at st s) x && open_at st x ≡ m.leads (number_at st s) (number_at st x)
    passed_on {x} q =
        ap (λ (b : Bool). bit (leads_at st s) x && b) (is_true {b = open_at st x} (slot_from st q).1)
        ∙ and_comm (bit (leads_at st s) x) true ∙ seen.leads s x p q

    -- a slot is left as its job is: struck out, once the jobs that pass have taken over
    seen_left : Seen (left_at st t s) (blank (over u m (number_at st s)) (number_at st s))
    unfolding blank left_at port_at
    seen_left =
        let j = number_at st s in
        record {
          next = seen.next;
          apart = λ i x o q e. seen.apart i x (other_slot o).0 (other_slot q).0 (sym (same_number o) ∙ e ∙ same_number q);
          a_job = λ i o. let q = other_slot o in Memᴰ.cast (same_number o) (strike_keeps (seen.a_job i q.0) (λ e. q.1 (seen.apart i s q.0 p e)));
          a_slot = λ n o.
              let f = strike_from j m.jobs o in
              let r = seen.a_slot n f.0 in
              let ne : (r.0 ≡ s) → ⊥ = λ e. f.1 (sym r.2 ∙ ap (number_at st) e) in
              (r.0, slot_kept r.1 ne, number_kept r.1 ne ∙ r.2);
          count = ap length (slots_left st t s) ∙ shorter;
          own = λ i o a c real.
              let q = other_slot o in
              let n = number_at (left_at st t s) i in
              blanked (λ n. shown (m.own n) a c) o (left_own_at st t s i (slot_from st q.0).0 a c real) (seen.own i q.0 a c real)
              ∙ sym (shown_and (not (eqb n j)) (m.own n) a c);
          past = λ i o a c real.
              let q = other_slot o in
              let n = number_at (left_at st t s) i in
              blanked (λ n. shown ((over u m j).past n) a c) o (left_past_at st t s i (slot_from st q.0).0 a c real)
              (ap₂ (λ (a b : Bool). a || b) (seen.past i q.0 a c real)
              (ap₂ (λ (a b : Bool). a && b) (same i q.0 q.1) (ap₂ (λ (a b : Bool). a || b) (seen.own s p a c real) (seen.past s p a c real)))
              ∙ sym (shown_over u m j (number_at st i) a c))
              ∙ sym (shown_and (not (eqb n j)) ((over u m j).past n) a c);
          leads = λ i x o q.
              let a = other_slot o in
              let b = other_slot q in
              let y = number_at (left_at st t s) x in
              blanked (λ n. not (eqb y j) && (m.leads n y || (u n && m.leads j y))) o
              (left_leads_at st t s i (slot_from st a.0).0 x (slot_from st b.0).0)
              (blanked (λ n. m.leads (number_at st i) n || (u (number_at st i) && m.leads j n)) q refl
              (ap₂ (λ (a b : Bool). a || b) (seen.leads i x a.0 b.0) (ap₂ (λ (a b : Bool). a && b) (same i a.0 a.1) (passed_on b.0))));
          port = λ i n o q. seen.port i n (other_slot o).0 q ∙ ap (λ (j : ℕ). eqb (m.port j) n) (sym (same_number o));
          fits = left_fits seen.fits s (slot_from st p).0 t;
        }
      where
        shorter : length (strike s (open_slots st)) ≡ length (strike (number_at st s) m.jobs)
        shorter =
            let a = strike_once (slots_once st) p in
            let b = strike_once once (seen.a_job s p) in
            let c = seen.count in
            omega arith

  -- what leads to the slot takes over and the slot is left, as the job is
  seen_folded : Seen (ended_at st s) (blank (fold m (number_at st s)) (number_at st s))
  unfolding ended_at fold
  seen_folded =
      seen_left (takes_over st s) (λ n. m.leads n (number_at st s)) (λ i o ne.
      ap₂ (λ (a b : Bool). a && (not b && bit (leads_at st i) s)) (is_true {b = open_at st i} (slot_from st o).1) (test_false (eq_test i s) ne)
      ∙ seen.leads i s o p)

  -- a granted abandon keeps the rows and the memory alike: none takes over
  pub seen_abandon : Seen (abandoned_at st s) (blank m (number_at st s))
  unfolding abandoned_at
  seen_abandon =
      subst (λ (n : Memory). Seen (left_at st (λ i. false) s) (blank n (number_at st s))) (none_over (number_at st s))
      (seen_left (λ i. false) (λ n. false) (λ i o ne. refl))
    where
      none_over : (j : ℕ) → over (λ n. false) m j ≡ m
      none_over j =
          λ d. record { next = m.next; jobs = m.jobs; own = m.own; past = λ i e c. or-false (m.past i e c) d; leads = λ i x. or-false (m.leads i x) d; port = m.port }

-- the mark of a job's end is no read, write or add and no lead: the rows are the memory with it too
seen_marked : {st : Held} {m : Memory} → Seen st m → (j : ℕ) → Seen st (step_in m ending j 0)
unfolding step_in
seen_marked {st} {m} seen j =
    record {
      next = seen.next;
      apart = seen.apart;
      a_job = seen.a_job;
      a_slot = seen.a_slot;
      count = seen.count;
      own = λ i o a c real.
          let n = number_at st i in
          seen.own i o a c real ∙ sym (shown_same ((step_in m ending j 0).own n) (m.own n) a c (λ k. ending_own m j n k c));
      past = seen.past;
      leads = λ i x o p. seen.leads i x o p ∙ sym (ending_leads m j (number_at st i) (number_at st x));
      port = seen.port;
      fits = seen.fits;
    }

-- so a granted end keeps the two alike
pub seen_end : {st : Held} {m : Memory} → Seen st m → Once m.jobs → (s : ℕ) → s ∈ open_slots st
    → Seen (ended_at st s) (blank (fold (step_in m ending (number_at st s) 0) (number_at st s)) (number_at st s))
unfolding step_in
seen_end {st} seen once s p = seen_folded (seen_marked seen (number_at st s)) once s p

-- ---- an open

-- a number that no table of the memory knows
pub record Unused (m : Memory) (n : ℕ) : Type 0 where
  pub not_open : n ∈ m.jobs → ⊥
  pub no_own : (k : Kind) (c : ℕ) → m.own n (does k) c ≡ false
  pub no_past : (k : Kind) (c : ℕ) → m.past n (does k) c ≡ false
  pub no_leads : (x : ℕ) → m.leads n x ≡ false
  pub not_led : (i : ℕ) → m.leads i n ≡ false

-- the memory with the next job open
abbrev pub opened_in : Memory → Memory
opened_in m = step_in (open_in m m.next) opening m.next 0

-- its leads, told by reads, writes and adds alone
abbrev pub OpenLeads : Memory → Type 0
OpenLeads m = (i x : ℕ) → (opened_in m).leads i x ≡ m.leads i x || (eqb x m.next && any_past m i)

module _ {b : Book} {h : History} {m : Memory} (t : Beside b h m) where
  -- the number that is next was never issued
  unissued : m.next ∈ open_now h → ⊥
  unissued o = let q = t.sound.issued m.next (open_opened h o) in let e = t.next in omega arith

  next_unused : Unused m m.next
  next_unused =
      record {
        not_open = λ o. unissued (subst (λ (l : List ℕ). m.next ∈ l) t.tells.jobs o);
        no_own = λ k c. test_false (t.tells.own m.next (does k) c) (λ r. unissued r.is_open);
        no_past = λ k c. test_false (t.tells.past m.next (does k) c) (λ r. unissued r.is_open);
        no_leads = λ x. test_false (t.tells.leads m.next x) (λ r. unissued r.from_open);
        not_led = λ i. test_false (t.tells.leads i m.next) (λ r. unissued r.to_open);
      }

  -- an open makes those jobs lead to the new one that have a read, write or add in their past
  next_led : OpenLeads m
  next_led i x =
      let o = orderly h t.sound.turns in
      opening_leads o t.tells m.next i x ∙ ap (λ (a : Bool). m.leads i x || (eqb x m.next && a)) (past_ended o t.tells i)

  -- no job is open twice
  jobs_once : Once m.jobs
  unfolding open_now kept
  jobs_once =
      subst Once (sym t.tells.jobs)
      (once_if (open_now h) (λ x r.
      let k = before_from_only (λ j. not (has (ended h) j)) (kept h) r in
      let q = (orderly h t.sound.turns).rising x x (before_from_only (λ j. not (has (abandoned h) j)) (opened h) k) in
      omega arith))

module _ {st : Held} {m : Memory} (seen : Seen st m) (unused : Unused m m.next) (led : OpenLeads m) (r s : ℕ) (p : s < most_open) (shut : T (open_at st s) → ⊥) where
  still_open : {i : ℕ} → i ∈ open_slots st → (i ∈ open_slots (opened_at st r s)) × (i ≡ s → ⊥)
  still_open {i} o = strike_from s (open_slots (opened_at st r s)) (subst (λ (l : List ℕ). i ∈ l) (slots_opened st r s shut) o)

  new_or_old : {i : ℕ} → i ∈ open_slots (opened_at st r s) → (i ≡ s) ⊎ (i ∈ open_slots st)
  new_or_old {i} o = ⊎_elim inl (λ ne. inr (subst (λ (l : List ℕ). i ∈ l) (sym (slots_opened st r s shut)) (strike_keeps o ne))) (answer (eq_test i s))

  new_open : s ∈ open_slots (opened_at st r s)
  new_open = slot_if (opened_at st r s) p (subst T (sym (opened_open_at st r s s)) (T_or_right (open_at st s) (eqb s s) ((eq_test s s).shows refl)))

  new_number : {i : ℕ} → i ≡ s → number_at (opened_at st r s) i ≡ m.next
  new_number {i} e =
      number_opened st r s i (subst (λ (x : ℕ). x < most_open) (sym e) p)
      ∙ ap (λ (b : Bool). cond b st.next (number_at st i)) (test_true (eq_test i s) e) ∙ seen.next

  old_number : {i : ℕ} → i ∈ open_slots st → number_at (opened_at st r s) i ≡ number_at st i
  old_number {i} o =
      number_opened st r s i (slot_from st o).0 ∙ ap (λ (b : Bool). cond b st.next (number_at st i)) (test_false (eq_test i s) (still_open o).1)

  -- no old slot has the new number
  new_differs : {i x : ℕ} → i ≡ s → x ∈ open_slots st → number_at (opened_at st r s) i ≡ number_at (opened_at st r s) x → ⊥
  new_differs {x = x} e o q = unused.not_open (Memᴰ.cast (sym (new_number e) ∙ q ∙ old_number o) (seen.a_job x o))

  -- what is blank at the new slot, and as it was at the others, is what the memory has of an unused number and of the others
  filled : (f : ℕ → Bool) {a b : Bool} {i : ℕ} → i ∈ open_slots (opened_at st r s) → f m.next ≡ false
      → a ≡ not (eqb i s) && b → (i ∈ open_slots st → b ≡ f (number_at st i)) → a ≡ f (number_at (opened_at st r s) i)
  filled f {b = b} {i = i} o z e g =
      ⊎_elim
      (λ q. e ∙ ap (λ (x : Bool). not x && b) (test_true (eq_test i s) q) ∙ sym (ap f (new_number q) ∙ z))
      (λ q. e ∙ ap (λ (x : Bool). not x && b) (test_false (eq_test i s) (still_open q).1) ∙ g q ∙ ap f (sym (old_number q)))
      (new_or_old o)

  inside : {i : ℕ} → i ∈ open_slots (opened_at st r s) → i < most_open
  inside o = (slot_from (opened_at st r s) o).0

  -- the new slot is the one with the new number
  is_new : {x : ℕ} → x ∈ open_slots (opened_at st r s) → eqb x s ≡ eqb (number_at (opened_at st r s) x) m.next
  is_new {x} q =
      same_test (eq_test x s) (eq_test (number_at (opened_at st r s) x) m.next) new_number
      (λ e. ⊎_elim (λ a. a) (λ a. absurd (new_differs refl a (new_number refl ∙ sym e))) (new_or_old q))

  -- the next number has no past
  no_past_yet : any_past m m.next ≡ false
  no_past_yet =
      test_false (some_test (λ k. some_test (λ c. own_test (m.past m.next (does k) c)) (below cells)) kinds)
      (λ r. false_is (unused.no_past r.0 r.2.0) r.2.2)

  -- the open slots that have a past come to lead to the new one
  led_same : {i x : ℕ} → i ∈ open_slots (opened_at st r s) → x ∈ open_slots (opened_at st r s)
      → bit (leads_at (opened_at st r s) i) x ≡ (opened_in m).leads (number_at (opened_at st r s) i) (number_at (opened_at st r s) x)
  led_same {i} {x} o q =
      let y = number_at (opened_at st r s) x in
      filled (λ n. m.leads n y || (eqb y m.next && any_past m n)) o
      (ap₂ (λ (a b : Bool). a || (eqb y m.next && b)) (unused.no_leads y) no_past_yet ∙ and-false (eqb y m.next))
      (opened_leads_at st r s i (inside o) x)
      (λ a. ap₂ (λ (a b : Bool). a || b)
      (filled (λ n. m.leads (number_at st i) n) q (unused.not_led (number_at st i)) refl (λ b. seen.leads i x a b))
      (ap₂ (λ (a b : Bool). a && b) (is_new q) (ap₂ (λ (a b : Bool). a && b) (is_true {b = open_at st i} (slot_from st a).1) (past_same seen i a))))
      ∙ sym (led (number_at (opened_at st r s) i) y)

  -- the new slot is under the port of its open, as the new job is, and the others are where they were
  port_same : {i : ℕ} → i ∈ open_slots (opened_at st r s) → (q : ℕ) → q < port_count
      → bit (port_at (opened_at st r s) q) i ≡ eqb (entered an_open m.next r m.port (number_at (opened_at st r s) i)) q
  port_same {i} o q small =
      let n = number_at (opened_at st r s) i in
      opened_port_at st r s i q small
      ∙ ⊎_elim
      (λ a.
      ap (λ (b : Bool). (not b && bit (port_at st q) i) || (b && eqb q r)) (test_true (eq_test i s) a)
      ∙ same_test (eq_test q r) (eq_test r q) sym sym
      ∙ sym (ap (λ (b : Bool). eqb (cond b r (m.port n)) q) (test_true (eq_test n m.next) (new_number a))))
      (λ a.
      ap (λ (b : Bool). (not b && bit (port_at st q) i) || (b && eqb q r)) (test_false (eq_test i s) (still_open a).1)
      ∙ or-false (bit (port_at st q) i)
      ∙ seen.port i q a small
      ∙ ap (λ (j : ℕ). eqb (m.port j) q) (sym (old_number a))
      ∙ sym (ap (λ (b : Bool). eqb (cond b r (m.port n)) q) (test_false (eq_test n m.next) (λ e. new_differs refl a (new_number refl ∙ sym e)))))
      (new_or_old o)

  -- a granted open keeps the rows and the memory alike
  pub seen_open : Seen (opened_at st r s) (with_port (opened_in m) (entered an_open m.next r m.port))
  unfolding opened_at open_in step_in
  seen_open =
      record {
        next = ap suc seen.next;
        apart = λ i x o q e.
            ⊎_elim
            (λ a. ⊎_elim (λ b. a ∙ sym b) (λ b. absurd (new_differs a b e)) (new_or_old q))
            (λ a. ⊎_elim (λ b. absurd (new_differs b a (sym e))) (λ b. seen.apart i x a b (sym (old_number a) ∙ e ∙ old_number b)) (new_or_old q))
            (new_or_old o);
        a_job = λ i o. ⊎_elim
            (λ a. Memᴰ.cast (new_number a) (Memᴰ.append_right m.jobs here))
            (λ a. Memᴰ.cast (old_number a) (Memᴰ.append_left (m.next ∷ []) (seen.a_job i a)))
            (new_or_old o);
        a_slot = λ j o. ⊎_elim
            (λ a. let z = seen.a_slot j a in (z.0, (still_open z.1).0, old_number z.1 ∙ z.2))
            (λ a. (s, new_open, new_number refl ∙ sym (Memᴰ.eq_of_singleton a)))
            (Memᴰ.append_cases m.jobs o);
        count = longer;
        own = λ i o a c real.
            let n = number_at (opened_at st r s) i in
            filled (λ n. shown (m.own n) a c) o (shown_none (m.own m.next) a c (λ k. unused.no_own k c)) (opened_own_at st r s i (inside o) a c real) (λ q. seen.own i q a c real)
            ∙ sym (shown_same ((opened_in m).own n) (m.own n) a c (λ k. opening_own (open_in m m.next) m.next n k c));
        past = λ i o a c real.
            filled (λ n. shown (m.past n) a c) o (shown_none (m.past m.next) a c (λ k. unused.no_past k c)) (opened_past_at st r s i (inside o) a c real)
            (λ q. seen.past i q a c real);
        leads = λ i x o q. led_same o q;
        port = λ i q o small. port_same o q small;
        fits = opened_fits seen.fits s r;
      }
    where
      longer : length (open_slots (opened_at st r s)) ≡ length (m.jobs ++ m.next ∷ [])
      longer =
          let a = strike_once (slots_once (opened_at st r s)) new_open in
          let b = ap length (slots_opened st r s shut) in
          let c = seen.count in
          omega (arith, length-append m.jobs (m.next ∷ []))

-- ---- a request

-- a memory given its own ports is seen as it was
pub with_its_port : {st : Held} {m : Memory} → Seen st m → Seen st (with_port m m.port)
with_its_port seen =
    record {
      next = seen.next;
      apart = seen.apart;
      a_job = seen.a_job;
      a_slot = seen.a_slot;
      count = seen.count;
      own = seen.own;
      past = seen.past;
      leads = seen.leads;
      port = seen.port;
      fits = seen.fits;
    }

module _ {st : Held} {m : Memory} (seen : Seen st m) where
  -- where fewer than 32 jobs are open there is a free slot
  room : length m.jobs < most_open → (s : ℕ) × (free_slot st ≡ some s) × (s < most_open) × (T (open_at st s) → ⊥)
  unfolding free_slot open_at
  room h =
      ⊎_elim
      (λ r. (r.which, r.found, upto_from most_open r.member, λ t. T_not (bit st.free r.which) t r.passes))
      (λ f.
      let e = slots_full st (λ i p. not_T (bit st.free i) (λ t. f (first_there (bit st.free) (upto most_open) (upto_has p) t))) in
      let c = seen.count in
      absurd (omega arith))
      (answer (first_test (bit st.free) (upto most_open)))

  -- what is done at the slot of a job that was tested to be open
  pub at_job : (f : ℕ → Held) (g : ℕ → Memory) (j : ℕ) → (T (not ((held right m).is_open j)) → ⊥)
      → ((s : ℕ) → s ∈ open_slots st → Seen (f s) (g (number_at st s))) → Seen (with_slot (slot_of st j) f st) (g j)
  unfolding held
  at_job f g j tested h =
      let o = ⊎_elim (λ o. o) (λ n. absurd (tested ((not_test (has_test m.jobs j)).shows n))) (answer (has_test m.jobs j)) in
      let r = job_slot seen j o in
      subst₂ (λ (a : Option ℕ) (n : ℕ). Seen (with_slot a f st) (g n)) (sym r.meant) r.its_number (h r.slot r.is_open)

  module _ (unused : Unused m m.next) (led : OpenLeads m) (once : Once m.jobs) where
    -- what is wanted and gets no code is done alike
    pub seen_moved : (w : Want) (j c : ℕ) → first_of (tests (held right m) w j c) ≡ 0
        → Seen (moved st w j c) (with_port (move_all right m (event_of (held right m).next w j c)) (entered w (held right m).next j m.port))
    unfolding tests moved event_of move right step_in blank fold
    seen_moved an_open j c z =
        unfold held in
        let n = length m.jobs in
        let r = room (below_bound most_open n (passed (leb most_open n) 4 _ (passed (leb port_count j) 7 _ (passed (leb numbers m.next) 5 _ z).1).1).0) in
        subst (λ (a : Option ℕ). Seen (with_slot a (λ s. opened_at st j s) st) (with_port (opened_in m) (entered an_open m.next j m.port))) (sym r.1)
        (seen_open seen unused led j r.0 r.2 r.3)
    seen_moved (a_step k) j c z =
        let a = passed (leb cells c) 1 _ z in
        with_its_port (at_job (λ s. stepped_at st k s c) (λ n. step_in m (does k) n c) j (passed (not ((held right m).is_open j)) 2 _ a.1).0
        (λ s o. seen_step seen k s c o (below_bound cells c a.0)))
    seen_moved an_end j c z =
        with_its_port (at_job (λ s. ended_at st s) (λ n. blank (fold (step_in m ending n 0) n) n) j (passed (not ((held right m).is_open j)) 2 0 z).0 (seen_end seen once))
    seen_moved an_abandon j c z =
        with_its_port (at_job (λ s. abandoned_at st s) (λ n. blank m n) j (passed (not ((held right m).is_open j)) 2 _ z).0 (seen_abandon seen once))
    seen_moved a_publish j c z =
        let a = passed (leb cells c) 1 _ z in
        with_its_port (at_job (λ s. ended_at (stepped_at st write s c) s) (λ n. let w = step_in m (does write) n c in blank (fold (step_in w ending n 0) n) n) j
        (passed (not ((held right m).is_open j)) 2 _ a.1).0
        (λ s o.
        unfold number_at stepped_at step_in in
        seen_end (seen_step seen write s c o (below_bound cells c a.0)) once s (subst (λ (l : List ℕ). s ∈ l) (sym (slots_stepped st write s c)) o)))
    seen_moved nothing j c z = with_its_port seen

-- a request keeps the rows and the memory alike
pub seen_after : {b : Book} {h : History} {st : Held} {m : Memory} → Beside b h m → Seen st m → (r : Request) → Seen (after st r) (held_after right m r)
unfolding after held_after granted_of ports_after
seen_after {st = st} {m = m} t seen r =
    subst (λ (n : ℕ). Seen (cond (eqb n 0) next st) (with_port (move_all right m (cond (eqb code 0) event [])) (cond (eqb code 0) port m.port))) (sym (agree_code (seen_agree seen) r))
    (by_test (λ g. Seen (cond g next st) (with_port (move_all right m (cond g event [])) (cond g port m.port))) (eq_test code 0)
    (λ z. seen_moved seen (next_unused t) (next_led t) (jobs_once t) (want r.kind) r.job r.cell (unfold code_of in (passed (not (eqb r.byte1 0)) 0 _ z).1))
    (λ z. with_its_port seen))
  where
    code : ℕ
    code = code_of (held right m) r

    next : Held
    next = moved st (want r.kind) r.job r.cell

    event : List Event
    event = event_of (held right m).next (want r.kind) r.job r.cell

    port : ℕ → ℕ
    port = entered (want r.kind) (held right m).next r.job m.port
