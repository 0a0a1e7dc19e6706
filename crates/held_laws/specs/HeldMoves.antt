-- A moved state read slot by slot and word by word; the sets after a read, an add and a write (`read_sets`, `add_sets`, `write_sets`); that every move leaves
-- words that fit (`Fits`); and the three moves that a request can make: an open into a free slot, a step of an open slot, an open slot left by an end or an
-- abandon; a publish makes the last two. What the three keep, every request keeps (`kept_after`), whatever the state holds.
-- Assumes nothing.
use Rattle.std.specs.Prelude.{◌≡◌, Bool, not, ◌&&◌, ◌||◌, get_or}
use Rattle.std.proofs.Math.Path.{refl, ap, ap₂}
use Rattle.std.proofs.Common.{sym, ◌∙◌, arith, pow_pos}
use Rattle.std.proofs.Math.Bool.{true, false, cond, or-false}
use Rattle.std.proofs.Math.Option.{Option, none, some}
use mathlib.Core.List.{List, [], ◌∷◌}
use Prim.Native.Nat.{ℕ, ◌+◌, ◌-◌, ◌*◌, ◌/◌, ◌%◌, ◌^◌, ◌<◌}
use Rattle.std.specs.Int.Bits.{bit_or, bit_and}
use Rattle.std.proofs.lemmas.Nat.{or_lt}
use Rattle.std.proofs.Math.Dec.{T, leb, eqb}
use Rattle.std.proofs.Math.Pow.{pow-lt}
use Rattle.graph.specs.Decide.{by_test, eq_test, T_and_left, cond_below}
use Rattle.graph.specs.Lists.{◌∈◌, here, only, only_from}
use Rattle.marks.specs.Marks.{bit, mask_of, without, tab, upto}
use Rattle.marks.specs.MarkLaws.{getD_tab, tab_same, upto_from}
use Rattle.history.specs.Events.{Kind, read, write, add}
use Rattle.history.specs.Replies.{cells, most_open, numbers, port_count, Request, Want, an_open, a_step, an_end, an_abandon, a_publish, nothing, want, first_of, tests, code_of}
use Rattle.history_laws.specs.Granted.{below_bound, passed}
use Rattle.held.specs.Held.{Held, word_marks, row_words, past_place, all_words, fresh_held, number_at, leads_at, port_at, word_at, open_at, open_slots, Aspect, as_used, as_altered, set_place, marks_word, touched, first_in, slot_of, facts, has_past, opened_at, stepped_at, left_at, ended_at, abandoned_at, with_slot, free_slot, moved, after, after_all}

-- ---- what a move leaves

-- word w of the sets, counted from the first of the first row
abbrev pub nth_word : Held → ℕ → ℕ
nth_word h w = get_or h.sets w 0

-- the word that has the mark of a cell in an own set of slot s
abbrev pub own_word : ℕ → Aspect → ℕ → ℕ
own_word s a c = s * row_words + (set_place a + c / word_marks)

-- the rule of a table, read off it
pub read_tab : (n : ℕ) (f : ℕ → ℕ) (i : ℕ) → i < n → get_or (tab n f) i 0 ≡ f i
read_tab n f i q = getD_tab n f i 0 q

-- number, leads and words after an open, a step, a leave; of an open the ports' masks too, which a step and a leave keep. A step keeps the numbers
module _ (h : Held) (p s : ℕ) where
  pub number_opened : (i : ℕ) → i < most_open → number_at (opened_at h p s) i ≡ cond (eqb i s) h.next (number_at h i)
  unfolding number_at opened_at
  number_opened = read_tab most_open _

  pub leads_opened : (i : ℕ) → i < most_open
      → leads_at (opened_at h p s) i ≡ cond (eqb i s) 0 (cond (open_at h i && has_past h i) (bit_or (without (leads_at h i) s) (2 ^ s)) (without (leads_at h i) s))
  unfolding leads_at opened_at
  leads_opened = read_tab most_open _

  pub word_opened : (w : ℕ) → w < all_words → nth_word (opened_at h p s) w ≡ cond (eqb (w / row_words) s) 0 (nth_word h w)
  unfolding opened_at
  word_opened = read_tab all_words _

  pub port_opened : (q : ℕ) → q < port_count → port_at (opened_at h p s) q ≡ cond (eqb q p) (bit_or (without (port_at h q) s) (2 ^ s)) (without (port_at h q) s)
  unfolding port_at opened_at
  port_opened = read_tab port_count _

module _ (h : Held) (s : ℕ) where
  pub leads_stepped : (k : Kind) (c i : ℕ) → i < most_open
      → leads_at (stepped_at h k s c) i ≡ cond (open_at h i && touched h k s c i) (bit_or (leads_at h i) (2 ^ s)) (leads_at h i)
  unfolding leads_at stepped_at
  leads_stepped k c = read_tab most_open _

  pub word_stepped : (k : Kind) (c w : ℕ) → w < all_words
      → nth_word (stepped_at h k s c) w ≡ cond (marks_word k s c w) (bit_or (nth_word h w) (2 ^ (c % word_marks))) (nth_word h w)
  unfolding stepped_at
  word_stepped k c = read_tab all_words _

  pub number_left : (t : ℕ → Bool) (i : ℕ) → i < most_open → number_at (left_at h t s) i ≡ cond (eqb i s) 0 (number_at h i)
  unfolding number_at left_at
  number_left t = read_tab most_open _

  pub leads_left : (t : ℕ → Bool) (i : ℕ) → i < most_open
      → leads_at (left_at h t s) i
      ≡ cond (eqb i s) 0 (without (cond (t i) (bit_or (leads_at h i) (bit_and (leads_at h s) (mask_of most_open (open_at h)))) (leads_at h i)) s)
  unfolding leads_at left_at
  leads_left t = read_tab most_open _

  -- r is the word's row and o its place there
  abbrev left_word : (ℕ → Bool) → ℕ → ℕ → ℕ → ℕ
  left_word t w r o =
      cond (eqb r s) 0 (cond (t r && leb past_place o) (bit_or (nth_word h w) (bit_or (word_at h s (o - past_place)) (word_at h s o))) (nth_word h w))

  pub word_left : (t : ℕ → Bool) (w : ℕ) → w < all_words → nth_word (left_at h t s) w ≡ left_word t w (w / row_words) (w % row_words)
  unfolding left_at
  word_left t = read_tab all_words _

-- the sets after a step, kind by kind: a read marks the used cells and an add the altered ones; a write marks as the two do, one after the other
abbrev pub marked_in : List ℕ → ℕ → Aspect → ℕ → List ℕ
marked_in sets s a c = tab all_words (λ w. cond (eqb w (own_word s a c)) (bit_or (get_or sets w 0) (2 ^ (c % word_marks))) (get_or sets w 0))

module _ (h : Held) (s c : ℕ) where
  -- word w by what the tests of it come to
  abbrev as_tested : ℕ → Bool → ℕ
  as_tested w b = cond b (bit_or (nth_word h w) (2 ^ (c % word_marks))) (nth_word h w)

  pub read_sets : (stepped_at h read s c).sets ≡ marked_in h.sets s as_used c
  unfolding stepped_at
  read_sets =
      tab_same all_words (λ w. as_tested w (marks_word read s c w)) (λ w. as_tested w (eqb w (own_word s as_used c)))
      (λ w p. ap (as_tested w) (or-false (eqb w (own_word s as_used c))))

  pub add_sets : (stepped_at h add s c).sets ≡ marked_in h.sets s as_altered c
  unfolding stepped_at
  add_sets =
      tab_same all_words (λ w. as_tested w (marks_word add s c w)) (λ w. as_tested w (eqb w (own_word s as_altered c)))
      (λ w p. ap (as_tested w) (or-false (eqb w (own_word s as_altered c))))

  pub write_sets : (stepped_at h write s c).sets ≡ marked_in (marked_in h.sets s as_used c) s as_altered c
  unfolding stepped_at
  write_sets =
      let first : List ℕ = marked_in h.sets s as_used c in
      tab_same all_words (λ w. as_tested w (marks_word write s c w))
      (λ w. cond (eqb w (own_word s as_altered c)) (bit_or (get_or first w 0) (2 ^ (c % word_marks))) (get_or first w 0))
      (λ w p.
      one_of_two w (eqb w (own_word s as_used c)) (eqb w (own_word s as_altered c))
      (λ a b. let x = (eq_test w (own_word s as_used c)).holds a in let y = (eq_test w (own_word s as_altered c)).holds b in omega arith)
      ∙ ap (λ (n : ℕ). cond (eqb w (own_word s as_altered c)) (bit_or n (2 ^ (c % word_marks))) n)
      (sym (read_tab all_words (λ w. as_tested w (eqb w (own_word s as_used c))) w p)))
    where
      -- no word is that of both sets
      one_of_two : (w : ℕ) (a b : Bool) → (T a → T b → ⊥) → as_tested w (a || (b || false)) ≡ cond b (bit_or (as_tested w a) (2 ^ (c % word_marks))) (as_tested w a)
      one_of_two w true true f = absurd (f tt tt)
      one_of_two w true false f = refl
      one_of_two w false true f = refl
      one_of_two w false false f = refl

-- the same of word o of row i
module _ (h : Held) (s i o : ℕ) (p : i < most_open) (q : o < row_words) where
  its_row : (i * row_words + o) / row_words ≡ i
  its_row = omega arith

  its_place : (i * row_words + o) % row_words ≡ o
  its_place = omega arith

  pub row_opened : (r : ℕ) → word_at (opened_at h r s) i o ≡ cond (eqb i s) 0 (word_at h i o)
  unfolding word_at
  row_opened r = word_opened h r s (i * row_words + o) (omega arith) ∙ ap (λ (r : ℕ). cond (eqb r s) 0 (nth_word h (i * row_words + o))) its_row

  pub row_stepped : (k : Kind) (c : ℕ) → word_at (stepped_at h k s c) i o
      ≡ cond (marks_word k s c (i * row_words + o)) (bit_or (word_at h i o) (2 ^ (c % word_marks))) (word_at h i o)
  unfolding word_at
  row_stepped k c = word_stepped h s k c (i * row_words + o) (omega arith)

  pub row_left : (t : ℕ → Bool) → word_at (left_at h t s) i o
      ≡ cond (eqb i s) 0 (cond (t i && leb past_place o) (bit_or (word_at h i o) (bit_or (word_at h s (o - past_place)) (word_at h s o))) (word_at h i o))
  unfolding word_at
  row_left t = word_left h s t (i * row_words + o) (omega arith) ∙ ap₂ (left_word h s t (i * row_words + o)) its_row its_place

-- ---- the width of the words

-- every word fits
pub record Fits (h : Held) : Type 0 where
  pub word : (w : ℕ) → w < all_words → nth_word h w < 2 ^ word_marks

-- the words of a fresh state do, and those that a move leaves
pub fresh_fits : (first : ℕ) → Fits (fresh_held first)
unfolding fresh_held
fresh_fits first = record { word = λ w p. rw (read_tab all_words (λ w. 0) w p) (pow_pos word_marks) }

module _ {h : Held} (f : Fits h) (s : ℕ) where
  pub opened_fits : (r : ℕ) → Fits (opened_at h r s)
  opened_fits r = record { word = λ w p. rw (word_opened h r s w p) (cond_below (eqb (w / row_words) s) (pow_pos word_marks) (f.word w p)) }

  pub stepped_fits : (k : Kind) (c : ℕ) → Fits (stepped_at h k s c)
  stepped_fits k c =
      record {
        word = λ w p. rw (word_stepped h s k c w p)
            (cond_below (marks_word k s c w) (or_lt word_marks (nth_word h w) (2 ^ (c % word_marks)) (f.word w p) (pow-lt {j = word_marks} (omega arith))) (f.word w p));
      }

  pub left_fits : s < most_open → (t : ℕ → Bool) → Fits (left_at h t s)
  unfolding word_at
  left_fits r t =
      record {
        word = λ w p.
            let o = w % row_words in
            rw (word_left h s t w p)
            (cond_below (eqb (w / row_words) s) (pow_pos word_marks)
            (cond_below (t (w / row_words) && leb past_place o)
            (or_lt word_marks (nth_word h w) _ (f.word w p) (or_lt word_marks _ _ (f.word (s * row_words + (o - past_place)) (omega arith)) (f.word (s * row_words + o) (omega arith))))
            (f.word w p)));
      }

-- ---- the moves a request can make

-- each of the three keeps P. Who takes over from a slot that is left is open
pub record Moves (P : Held → Type 0) (h : Held) : Type 0 where
  pub opens : (p s : ℕ) → s < most_open → T (bit h.free s) → h.next < numbers → P (opened_at h p s)
  pub steps : (k : Kind) (s c : ℕ) → s < most_open → T (open_at h s) → c < cells → P (stepped_at h k s c)
  pub leaves : (t : ℕ → Bool) (s : ℕ) → s < most_open → T (open_at h s) → ((i : ℕ) → T (t i) → T (open_at h i)) → P (left_at h t s)

-- the first of a list, where there is one, is a member
first_cases : (P : Option ℕ → Type 0) (l : List ℕ) → P none → ((s : ℕ) → s ∈ l → P (some s)) → P (first_in l)
first_cases P [] n f = n
first_cases P (s ∷ l) n f = f s here

module _ (P : Held → Type 0) (m : (h : Held) → P h → Moves P h) (h : Held) (p : P h) where
  -- what is done at the slot that a number means
  pub kept_at : (j : ℕ) (f : ℕ → Held) → ((s : ℕ) → s < most_open → T (open_at h s) → P (f s)) → P (with_slot (slot_of h j) f h)
  unfolding slot_of open_slots
  kept_at j f g =
      first_cases (λ o. P (with_slot o f h)) (only (λ i. eqb (number_at h i) j) (only (open_at h) (upto most_open))) p
      (λ s n.
      let r = only_from (open_at h) (upto most_open) (only_from (λ i. eqb (number_at h i) j) (only (open_at h) (upto most_open)) n).0 in
      g s (upto_from most_open r.0) r.1)

  -- what a granted request does
  pub kept_moved : (w : Want) (j c : ℕ) → first_of (tests (facts h) w j c) ≡ 0 → P (moved h w j c)
  unfolding moved tests facts free_slot ended_at abandoned_at
  kept_moved an_open j c z =
      first_cases (λ o. P (with_slot o (λ s. opened_at h j s) h)) (only (bit h.free) (upto most_open)) p
      (λ s n.
      let r = only_from (bit h.free) (upto most_open) n in
      (m h p).opens j s (upto_from most_open r.0) r.1 (below_bound numbers h.next (passed (leb numbers h.next) 5 _ z).0))
  kept_moved (a_step k) j c z = kept_at j (λ s. stepped_at h k s c) (λ s q o. (m h p).steps k s c q o (below_bound cells c (passed (leb cells c) 1 _ z).0))
  kept_moved an_end j c z =
      kept_at j (λ s. left_at h _ s) (λ s q o. (m h p).leaves _ s q o (λ i t. T_and_left (open_at h i) (not (eqb i s) && bit (leads_at h i) s) t))
  kept_moved an_abandon j c z = kept_at j (λ s. left_at h (λ i. false) s) (λ s q o. (m h p).leaves (λ i. false) s q o (λ i t. absurd t))
  kept_moved a_publish j c z =
      kept_at j (λ s. left_at (stepped_at h write s c) _ s)
      (λ s q o.
      let w = stepped_at h write s c in
      let v : P w = (m h p).steps write s c q o (below_bound cells c (passed (leb cells c) 1 _ z).0) in
      (m w v).leaves _ s q (unfold open_at stepped_at in o) (λ i t. T_and_left (open_at w i) (not (eqb i s) && bit (leads_at w i) s) t))
  kept_moved nothing j c z = p

  -- a request makes one of the moves, a publish two of them, or none
  pub kept_after : (r : Request) → P (after h r)
  unfolding after code_of
  kept_after r =
      by_test (λ b. P (cond b (moved h (want r.kind) r.job r.cell) h)) (eq_test (code_of (facts h) r) 0)
      (λ z. kept_moved (want r.kind) r.job r.cell (passed (not (eqb r.byte1 0)) 0 _ z).1) (λ z. p)

-- and so a list of them
pub kept_after_all : (P : Held → Type 0) → ((h : Held) → P h → Moves P h) → (h : Held) → P h → (rs : List Request) → P (after_all h rs)
kept_after_all P m h p [] = p
kept_after_all P m h p (r ∷ rs) = kept_after_all P m (after h r) (kept_after P m h p r) rs
