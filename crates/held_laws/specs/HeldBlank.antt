-- What every request keeps of a state, whatever the state holds: the ranges of its numbers (`ranges_after`), and that rows which are not open are blank
-- (`blank_after`). From a fresh state both hold through any list of requests (`ranges_kept`, `blank_rows`). And the slot that an open takes
-- (`lowest_slot`), that a refusal leaves the state as it was (`refusal_held`), and that a publish leaves what its write and its end leave (`publish_held`).
-- Assumes nothing.
use Rattle.std.specs.Prelude.{◌≡◌, Bool, true, false, not, ◌&&◌, ◌||◌, List, [], ◌∷◌, ℕ, ◌+◌, ◌*◌, ◌^◌, ◌≤◌, ◌<◌, leb, length}
use Rattle.std.proofs.Math.Path.{refl, sym, ap}
use Rattle.std.proofs.Common.{◌∙◌, subst, ⊎_elim, arith}
use Rattle.std.proofs.Math.Bool.{cond}
use Rattle.std.proofs.Math.Option.{Option, none, some}
use mathlib.Core.List.Memᴰ
use Rattle.std.specs.Int.Bits.{or_lt, and_lt}
use Rattle.std.proofs.Math.Dec.{T, eqb}
use Rattle.std.proofs.Math.Pow.{pow-lt}
use Rattle.graph.specs.Decide.{not_test, test_true, test_false, eq_test, answer, T_and, is_true, is_false, false_is, chosen, cond_below, cond_zero}
use Rattle.graph.specs.Lists.{◌∈◌, here, only, only_keeps, only_from, only_both, Before, before_from_only}
use Rattle.marks.specs.Marks.{bit, mask_of, without, upto}
use Rattle.marks.specs.MarkLaws.{length_tab, upto_has, upto_from, upto_rises, bit_zero, bit_pow, or_unmarked, and_unmarked, without_below, without_zero, without_struck, without_unmarked, mask_lt}
use Rattle.history.specs.Events.{Kind, write}
use Rattle.history.specs.Replies.{cells, most_open, numbers, port_count, most_of_port, Request, Want, an_open, a_step, an_end, a_publish, want, first_of, tests, code_of}
use Rattle.history_laws.specs.ReplyLaws.{as_kind, publish_reply}
use Rattle.history_laws.specs.Granted.{below_bound, passed, undenied, proper_step}
use Rattle.held.specs.Held.{Held, row_words, past_place, all_words, fresh_held, number_at, leads_at, port_at, word_at, open_at, open_slots, touched, first_in, is_some, slot_of, facts, has_past, opened_at, stepped_at, left_at, ended_at, with_slot, free_slot, moved, answer_to, after, after_all}
use Rattle.held_laws.specs.HeldMoves.{read_tab, number_opened, leads_opened, port_opened, leads_stepped, number_left, leads_left, row_opened, row_stepped, row_left, Fits, fresh_fits, opened_fits, stepped_fits, left_fits, Moves, kept_after, kept_after_all}
use Rattle.held_laws.specs.HeldLaws.{own_inside, marks_test, opened_open_at, left_open_at}

-- ---- ranges

-- the lists have their lengths, and every number is one that there is room for
pub record Ranges (h : Held) : Type 0 where
  pub next : h.next < 2 ^ 64
  pub free : h.free < 2 ^ most_open
  pub number_count : length h.numbers ≡ most_open
  pub leads_count : length h.leads ≡ most_open
  pub word_count : length h.sets ≡ all_words
  pub number : (i : ℕ) → i < most_open → number_at h i < numbers
  pub leads : (i : ℕ) → i < most_open → leads_at h i < 2 ^ most_open
  pub words : Fits h
  pub port_masks : length h.ports ≡ port_count
  pub port : (p : ℕ) → p < port_count → port_at h p < 2 ^ most_open

-- a bound carried over an equation
below_as : {x y n : ℕ} → x ≡ y → y < n → x < n
below_as e q = omega arith

module _ {h : Held} (r : Ranges h) (s : ℕ) (q : s < most_open) where
  -- each move keeps to them
  ranges_opened : (o : ℕ) → h.next < numbers → Ranges (opened_at h o s)
  unfolding opened_at
  ranges_opened o small =
      record {
        next = omega arith;
        free = without_below h.free s most_open r.free;
        number_count = refl;
        leads_count = refl;
        word_count = refl;
        number = λ i p. below_as (number_opened h o s i p) (cond_below (eqb i s) small (r.number i p));
        leads = λ i p.
            let struck = without_below (leads_at h i) s most_open (r.leads i p) in
            below_as (leads_opened h o s i p)
            (cond_below (eqb i s) (omega arith) (cond_below (open_at h i && has_past h i) (or_lt most_open (without (leads_at h i) s) (2 ^ s) struck (pow-lt q)) struck));
        words = opened_fits r.words s o;
        port_masks = refl;
        port = λ p k.
            let struck = without_below (port_at h p) s most_open (r.port p k) in
            below_as (port_opened h o s p k) (cond_below (eqb p o) (or_lt most_open (without (port_at h p) s) (2 ^ s) struck (pow-lt q)) struck);
      }

  ranges_stepped : (k : Kind) (c : ℕ) → Ranges (stepped_at h k s c)
  unfolding number_at port_at stepped_at
  ranges_stepped k c =
      record {
        next = r.next;
        free = r.free;
        number_count = r.number_count;
        leads_count = refl;
        word_count = refl;
        number = r.number;
        leads = λ i p.
            below_as (leads_stepped h s k c i p)
            (cond_below (open_at h i && touched h k s c i) (or_lt most_open (leads_at h i) (2 ^ s) (r.leads i p) (pow-lt q)) (r.leads i p));
        words = stepped_fits r.words s k c;
        port_masks = r.port_masks;
        port = r.port;
      }

  ranges_left : (t : ℕ → Bool) → Ranges (left_at h t s)
  unfolding port_at left_at
  ranges_left t =
      record {
        next = r.next;
        free = or_lt most_open h.free (2 ^ s) r.free (pow-lt q);
        number_count = refl;
        leads_count = refl;
        word_count = refl;
        number = λ i p. below_as (number_left h s t i p) (cond_below (eqb i s) (omega arith) (r.number i p));
        leads = λ i p.
            let handed = and_lt most_open (leads_at h s) (mask_of most_open (open_at h)) (r.leads s q) (mask_lt most_open (open_at h)) in
            below_as (leads_left h s t i p)
            (cond_below (eqb i s) (omega arith)
            (without_below _ s most_open (cond_below (t i) (or_lt most_open (leads_at h i) _ (r.leads i p) handed) (r.leads i p))));
        words = left_fits r.words s q t;
        port_masks = r.port_masks;
        port = r.port;
      }

pub ranges_moves : {h : Held} → Ranges h → Moves Ranges h
ranges_moves r = record { opens = λ o s q f small. ranges_opened r s q o small; steps = λ k s c q o real. ranges_stepped r s q k c; leaves = λ t s q o only_open. ranges_left r s q t }

-- every request, whatever its fields, keeps the ranges of every state, whatever it holds
pub ranges_after : {h : Held} → Ranges h → (r : Request) → Ranges (after h r)
ranges_after {h} g r = kept_after Ranges (λ x f. ranges_moves f) h g r

-- a fresh state is in range
pub ranges_fresh : (first : ℕ) → first < 2 ^ 64 → Ranges (fresh_held first)
unfolding fresh_held number_at leads_at port_at
ranges_fresh first q =
    record {
      next = q;
      free = omega arith;
      number_count = refl;
      leads_count = refl;
      word_count = refl;
      number = λ i p. below_as (read_tab most_open (λ i. 0) i p) (omega arith);
      leads = λ i p. below_as (read_tab most_open (λ i. 0) i p) (omega arith);
      words = fresh_fits first;
      port_masks = refl;
      port = λ p q. below_as (read_tab port_count (λ p. 0) p q) (omega arith);
    }

-- and so is every state that requests give from it
pub ranges_kept : (first : ℕ) → first < 2 ^ 64 → (rs : List Request) → Ranges (after_all (fresh_held first) rs)
ranges_kept first q rs = kept_after_all Ranges (λ h g. ranges_moves g) (fresh_held first) (ranges_fresh first q) rs

-- a next number that is at most 2 ^ 32 stays so
abbrev Issuable : Held → Type 0
Issuable h = h.next ≤ numbers

pub next_kept : (h : Held) → h.next ≤ numbers → (r : Request) → (after h r).next ≤ numbers
unfolding opened_at stepped_at left_at
next_kept h g r = kept_after Issuable (λ x b. record { opens = λ p s q f small. small; steps = λ k s c q o real. b; leaves = λ t s q o only_open. b }) h g r

-- ---- blank rows

-- nothing stands in row i, and nothing leads to slot i
pub record BlankRow (h : Held) (i : ℕ) : Type 0 where
  pub number : number_at h i ≡ 0
  pub leads : leads_at h i ≡ 0
  pub word : (o : ℕ) → o < row_words → word_at h i o ≡ 0
  pub struck : (x : ℕ) → x < most_open → bit (leads_at h x) i ≡ false

-- so it is with every slot that is not open
pub record Blank (h : Held) : Type 0 where
  pub row : (i : ℕ) → i < most_open → open_at h i ≡ false → BlankRow h i

-- neither of two tests that fail together
both_false : (a b : Bool) → a || b ≡ false → (a ≡ false) × (b ≡ false)
both_false true b e = absurd (false_is e tt)
both_false false b e = (refl, e)

-- a word stands in one row only
row_alone : {i s o p : ℕ} → o < row_words → p < row_words → i * row_words + o ≡ s * row_words + p → i ≡ s
row_alone q r e = omega arith

-- which of two is chosen, by what the test came to
cond_in : {b : Bool} (x y : ℕ) → b ≡ true → cond b x y ≡ x
cond_in x y e = ap (λ (b : Bool). cond b x y) e

cond_out : {b : Bool} (x y : ℕ) → b ≡ false → cond b x y ≡ y
cond_out x y e = ap (λ (b : Bool). cond b x y) e

-- the one chosen lacks a mark that both lack
cond_unmarked : (b : Bool) (x y i : ℕ) → bit x i ≡ false → bit y i ≡ false → bit (cond b x y) i ≡ false
cond_unmarked b x y i p q = chosen (λ (n : ℕ). bit n i ≡ false) b p q

module _ {h : Held} (b : Blank h) (s : ℕ) (q : s < most_open) where
  -- each move keeps them blank
  blank_opened : (r : ℕ) → Blank (opened_at h r s)
  blank_opened r =
      record {
        row = λ i p c.
            let z = both_false (open_at h i) (eqb i s) (sym (opened_open_at h r s i) ∙ c) in
            let g = b.row i p z.0 in
            record {
              number = number_opened h r s i p ∙ cond_out _ _ z.1 ∙ g.number;
              leads =
                  leads_opened h r s i p
                  ∙ cond_zero (eqb i s) refl (cond_out _ _ (ap (λ (b : Bool). b && has_past h i) z.0) ∙ without_zero (leads_at h i) s g.leads);
              word = λ o k. row_opened h s i o p k r ∙ cond_zero (eqb i s) refl (g.word o k);
              struck = λ x k.
                  let lacks = without_unmarked (leads_at h x) s i (g.struck x k) in
                  ap (λ (n : ℕ). bit n i) (leads_opened h r s x k)
                  ∙ cond_unmarked (eqb x s) 0 _ i (bit_zero i)
                  (cond_unmarked (open_at h x && has_past h x) _ _ i (or_unmarked (without (leads_at h x) s) (2 ^ s) i lacks (bit_pow s i ∙ z.1)) lacks);
            };
      }

  blank_stepped : (k : Kind) (c : ℕ) → T (open_at h s) → c < cells → Blank (stepped_at h k s c)
  unfolding number_at open_at stepped_at
  blank_stepped k c o real =
      record {
        row = λ i p z.
            let g = b.row i p z in
            let other : i ≡ s → ⊥ = λ e. false_is z (subst (λ (x : ℕ). T (open_at h x)) (sym e) o) in
            record {
              number = g.number;
              leads = leads_stepped h s k c i p ∙ cond_out _ _ (ap (λ (b : Bool). b && touched h k s c i) z) ∙ g.leads;
              word = λ o m.
                  row_stepped h s i o p m k c
                  ∙ cond_out _ _ (test_false (marks_test k s c (i * row_words + o)) (λ e. other (row_alone m (own_inside e.0 c real) e.2.1)))
                  ∙ g.word o m;
              struck = λ x m.
                  ap (λ (n : ℕ). bit n i) (leads_stepped h s k c x m)
                  ∙ cond_unmarked (open_at h x && touched h k s c x) _ _ i
                  (or_unmarked (leads_at h x) (2 ^ s) i (g.struck x m) (bit_pow s i ∙ test_false (eq_test i s) other)) (g.struck x m);
            };
      }

  -- the row that is left is blank
  left_row : (t : ℕ → Bool) → BlankRow (left_at h t s) s
  left_row t =
      record {
        number = number_left h s t s q ∙ cond_in _ _ own;
        leads = leads_left h s t s q ∙ cond_in _ _ own;
        word = λ o k. row_left h s s o q k t ∙ cond_in _ _ own;
        struck = λ x k. ap (λ (n : ℕ). bit n s) (leads_left h s t x k) ∙ cond_unmarked (eqb x s) 0 _ s (bit_zero s) (without_struck _ s);
      }
    where
      own : eqb s s ≡ true
      own = test_true (eq_test s s) refl

  -- one that was blank stays so, where it takes nothing over
  kept_row : (t : ℕ → Bool) (i : ℕ) → i < most_open → BlankRow h i → (T (t i) → ⊥) → BlankRow (left_at h t s) i
  kept_row t i p g nothing_taken =
      record {
        number = number_left h s t i p ∙ cond_zero (eqb i s) refl g.number;
        leads = leads_left h s t i p ∙ cond_zero (eqb i s) refl (without_zero _ s (cond_out _ _ out ∙ g.leads));
        word = λ o k. row_left h s i o p k t ∙ cond_zero (eqb i s) refl (cond_out _ _ (ap (λ (b : Bool). b && leb past_place o) out) ∙ g.word o k);
        struck = λ x k.
            ap (λ (n : ℕ). bit n i) (leads_left h s t x k)
            ∙ cond_unmarked (eqb x s) 0 _ i (bit_zero i)
            (without_unmarked _ s i
            (cond_unmarked (t x) _ _ i (or_unmarked (leads_at h x) _ i (g.struck x k) (and_unmarked (leads_at h s) _ i (g.struck s q))) (g.struck x k)));
      }
    where
      out : t i ≡ false
      out = is_false {b = t i} nothing_taken

  blank_left : (t : ℕ → Bool) → ((i : ℕ) → T (t i) → T (open_at h i)) → Blank (left_at h t s)
  blank_left t only_open =
      record {
        row = λ i p c.
            ⊎_elim
            (λ e. subst (λ (x : ℕ). BlankRow (left_at h t s) x) (sym e) (left_row t))
            (λ ne.
            let z : open_at h i ≡ false = is_false (λ o. false_is (sym (left_open_at h t s i) ∙ c) (T_and (open_at h i) (not (eqb i s)) o ((not_test (eq_test i s)).shows ne))) in
            kept_row t i p (b.row i p z) (λ u. false_is z (only_open i u)))
            (answer (eq_test i s));
      }

pub blank_moves : {h : Held} → Blank h → Moves Blank h
blank_moves b =
    record {
      opens = λ p s q f small. blank_opened b s q p;
      steps = λ k s c q o real. blank_stepped b s q k c o real;
      leaves = λ t s q o only_open. blank_left b s q t only_open;
    }

-- every request keeps the rows blank that are not open
pub blank_after : {h : Held} → Blank h → (r : Request) → Blank (after h r)
blank_after {h} b r = kept_after Blank (λ x f. blank_moves f) h b r

-- every row of a fresh state is blank
pub blank_fresh : (first : ℕ) → Blank (fresh_held first)
unfolding fresh_held number_at leads_at word_at
blank_fresh first =
    record {
      row = λ i p c.
          record {
            number = read_tab most_open (λ i. 0) i p;
            leads = read_tab most_open (λ i. 0) i p;
            word = λ o q. read_tab all_words (λ w. 0) (i * row_words + o) (omega arith);
            struck = λ x q. ap (λ (n : ℕ). bit n i) (read_tab most_open (λ i. 0) x q) ∙ bit_zero i;
          };
    }

-- from a fresh state, through any list of requests, every row that is not open is blank
pub blank_rows : (first : ℕ) (rs : List Request) → Blank (after_all (fresh_held first) rs)
blank_rows first rs = kept_after_all Blank (λ h b. blank_moves b) (fresh_held first) (blank_fresh first) rs

-- ---- which slot is taken, and when nothing changes

-- s is the lowest number below n that passes p
pub record LowestOf (p : ℕ → Bool) (n s : ℕ) : Type 0 where
  pub inside : s < n
  pub passes : T (p s)
  pub none_lower : (k : ℕ) → k < s → p k ≡ false

-- where not all the numbers below n fail, the first that passes is the lowest
lowest_passing : (p : ℕ → Bool) (n : ℕ) → length (only (λ x. not (p x)) (upto n)) < n
    → (s : ℕ) × LowestOf p n s × ((l : List ℕ) × (only p (upto n) ≡ s ∷ l))
lowest_passing p n few = go (only p (upto n)) refl
  where
    go : (l : List ℕ) → only p (upto n) ≡ l → (s : ℕ) × LowestOf p n s × ((l : List ℕ) × (only p (upto n) ≡ s ∷ l))
    go [] e =
        let all : length (only p (upto n)) + length (only (λ x. not (p x)) (upto n)) ≡ n = only_both p (upto n) ∙ length_tab n (λ k. k) in
        let none_passes : length (only p (upto n)) ≡ 0 = ap length e in
        absurd (omega arith)
    go (s ∷ l) e =
        let mine = only_from p (upto n) (subst (λ (x : List ℕ). s ∈ x) (sym e) here) in
        let low : s < n = upto_from n mine.0 in
        (s, record { inside = low; passes = mine.1; none_lower = λ k q. is_false (λ t. lower k q low t) }, (l, e))
      where
        lower : (k : ℕ) → k < s → s < n → T (p k) → ⊥
        lower k q low t =
            ⊎_elim
            (λ i. let j : k ≡ s = i in omega arith)
            (λ i. let r = upto_rises n (before_from_only p (upto n) (subst (λ (x : List ℕ). Before s k x) (sym e) (Before.first refl i))) in omega arith)
            (Memᴰ.cases_cons (subst (λ (x : List ℕ). k ∈ x) e (only_keeps p {x = k} {l = upto n} (upto_has {n = n} (omega arith)) t)))

-- a granted open goes into the lowest free slot, and changes the state as an open there does
pub lowest_slot : (h : Held) (r : Request) → code_of (facts h) r ≡ 0 → want r.kind ≡ an_open
    → (s : ℕ) × LowestOf (bit h.free) most_open s × (after h r ≡ opened_at h r.job s)
unfolding code_of tests facts open_slots open_at free_slot moved after
lowest_slot h r z e =
    let w : first_of (tests (facts h) an_open r.job r.cell) ≡ 0 = subst (λ (x : Want). first_of (tests (facts h) x r.job r.cell) ≡ 0) e (passed (not (eqb r.byte1 0)) 0 _ z).1 in
    let crowded : ℕ = cond (leb most_of_port ((facts h).crowd r.job)) 9 0 in
    let few = (passed (leb most_open (length (open_slots h))) 4 crowded (passed (leb port_count r.job) 7 _ (passed (leb numbers h.next) 5 _ w).1).1).0 in
    let f = lowest_passing (bit h.free) most_open (below_bound most_open (length (open_slots h)) few) in (
      f.0,
      f.1,
      ap (λ (n : ℕ). cond (eqb n 0) (moved h (want r.kind) r.job r.cell) h) z
          ∙ ap (λ (x : Want). moved h x r.job r.cell) e
          ∙ ap (λ (l : List ℕ). with_slot (first_in l) (λ s. opened_at h r.job s) h) f.2.1,
    )

-- a refusal leaves the state as it was
pub refusal_held : (h : Held) (r : Request) → (code_of (facts h) r ≡ 0 → ⊥) → after h r ≡ h
unfolding after
refusal_held h r f = ap (λ (b : Bool). cond b (moved h (want r.kind) r.job r.cell) h) (test_false (eq_test (code_of (facts h) r) 0) f)

-- ---- a publish

-- a publish (kind 6) gets the answer that the write (kind 3) of that cell by that job gets. Granted, it leaves the state that the write and then the end (kind 4) leave, and
-- the end is granted there; refused, it leaves the state as it was, as the write does
pub record PublishedHeld (h : Held) (r : Request) : Type 0 where
  pub as_the_write : answer_to h (as_kind 6 r) ≡ answer_to h (as_kind 3 r)
  pub end_next : code_of (facts h) (as_kind 6 r) ≡ 0 → code_of (facts (after h (as_kind 3 r))) (as_kind 4 r) ≡ 0
  pub both : code_of (facts h) (as_kind 6 r) ≡ 0 → after h (as_kind 6 r) ≡ after (after h (as_kind 3 r)) (as_kind 4 r)
  pub neither : (code_of (facts h) (as_kind 6 r) ≡ 0 → ⊥) → (after h (as_kind 6 r) ≡ h) × (after h (as_kind 3 r) ≡ h)

-- what a granted request leaves
granted_held : (h : Held) (r : Request) (w : Want) → want r.kind ≡ w → code_of (facts h) r ≡ 0 → after h r ≡ moved h w r.job r.cell
unfolding after
granted_held h r w asks z =
    ap (λ (n : ℕ). cond (eqb n 0) (moved h (want r.kind) r.job r.cell) h) z ∙ ap (λ (v : Want). moved h v r.job r.cell) asks

-- a slot that there is
the_slot : (o : Option ℕ) → T (is_some o) → (s : ℕ) × (o ≡ some s)
the_slot none t = absurd t
the_slot (some s) t = (s, refl)

module _ (h : Held) (r : Request) where
  write_code : code_of (facts h) (as_kind 6 r) ≡ code_of (facts h) (as_kind 3 r)
  unfolding code_of tests want
  write_code = refl

  module _ (z : code_of (facts h) (as_kind 6 r) ≡ 0) where
    -- byte 1 is zero, and there is a slot
    unmarked_byte : T (eqb r.byte1 0)
    unfolding code_of
    unmarked_byte = undenied (eqb r.byte1 0) (passed (not (eqb r.byte1 0)) 0 _ z).0

    found : (s : ℕ) × (slot_of h r.job ≡ some s)
    unfolding code_of tests want facts
    found = the_slot (slot_of h r.job) (proper_step (facts h) write r.job r.cell (passed (not (eqb r.byte1 0)) 0 _ z).1).0

    abbrev written : Held
    written = stepped_at h write found.0 r.cell

    -- the write's step leaves the number where it was
    slot_stays : slot_of written r.job ≡ some found.0
    slot_stays = same ∙ found.1
      where
        same : slot_of (stepped_at h write found.0 r.cell) r.job ≡ slot_of h r.job
        same = unfold slot_of open_slots open_at number_at stepped_at in refl

    write_left : after h (as_kind 3 r) ≡ written
    unfolding moved
    write_left =
        granted_held h (as_kind 3 r) (a_step write) (unfold want in refl) (sym write_code ∙ z)
        ∙ ap (λ (o : Option ℕ). with_slot o (λ s. stepped_at h write s r.cell) h) found.1

    ends_next : code_of (facts written) (as_kind 4 r) ≡ 0
    unfolding code_of tests want facts
    ends_next =
        ap (λ (b : Bool). cond (not b) 1 (cond (not (is_some (slot_of written r.job))) 3 0)) (is_true {b = eqb r.byte1 0} unmarked_byte)
        ∙ ap (λ (o : Option ℕ). cond (not (is_some o)) 3 0) slot_stays

    publish_left : after h (as_kind 6 r) ≡ after written (as_kind 4 r)
    unfolding moved
    publish_left =
        granted_held h (as_kind 6 r) a_publish (unfold want in refl) z
        ∙ ap (λ (o : Option ℕ). with_slot o (λ s. ended_at (stepped_at h write s r.cell) s) h) found.1
        ∙ sym (ap (λ (o : Option ℕ). with_slot o (λ s. ended_at written s) written) slot_stays)
        ∙ sym (granted_held written (as_kind 4 r) an_end (unfold want in refl) ends_next)

-- for any state, whatever it holds, and any request
pub publish_held : (h : Held) (r : Request) → PublishedHeld h r
publish_held h r =
    record {
      as_the_write = unfold answer_to in publish_reply (facts h) r;
      end_next = λ z. ap (λ (x : Held). code_of (facts x) (as_kind 4 r)) (write_left h r z) ∙ ends_next h r z;
      both = λ z. publish_left h r z ∙ ap (λ (x : Held). after x (as_kind 4 r)) (sym (write_left h r z));
      neither = λ n. (refusal_held h (as_kind 6 r) n, refusal_held h (as_kind 3 r) (λ z. n (write_code h r ∙ z)));
    }
