-- What each move does to what is read off a state, slot by slot: whether a slot is open, its leads, its own and its past after an open, a step and the
-- leaving of a slot, and its port after an open, from those before. For slots below 32 and cells below 256. Numbers and words are in HeldMoves.
-- In order: marks of numbers chosen by a test; where the words of a set stand; an open; a step; a slot is left; the open slots.
-- Assumes nothing.
use Rattle.std.specs.Prelude.{◌≡◌, Bool, true, false, ◌&&◌, ◌||◌, cond, ℕ, ◌+◌, ◌-◌, ◌*◌, ◌/◌, ◌%◌, ◌^◌, ◌≤◌, ◌<◌, eqb}
use Rattle.std.proofs.Math.Path.{refl, ap, ap₂}
use Rattle.std.proofs.Common.{sym, ◌∙◌, subst, inl}
use Rattle.std.proofs.Math.Logic.{⊎_elim}
use Rattle.std.proofs.Math.Bool.{not, and_comm, or-false}
use native.Mathlib.Omega.{arith}
use Rattle.std.specs.Int.Bits.{bit_or, bit_and}
use Rattle.std.proofs.Math.Dec.{T, leb}
use Rattle.std.proofs.Math.ListN.{length}
use Rattle.graph.specs.Decide.{Decides, and_test, or_test, not_test, eq_test, le_test, own_test, same_test, some_test, test_true, test_false}
use Rattle.graph.specs.Lists.{◌∈◌, here, later, only_keeps, only_from, only_same, only_all, Once, once_only, strike, only_strike}
use Rattle.marks.specs.Marks.{bit, mask_of, without, upto}
use Rattle.marks.specs.MarkLaws.{upto_has, upto_from, upto_once, bit_zero, bit_pow, bit-or, bit-and, bit_without, bit_mask}
use Rattle.history.specs.Events.{Kind, read, write, add}
use Rattle.history.specs.Replies.{most_open, cells, port_count}
use Rattle.held.specs.Held.{Held, word_marks, set_words, row_words, past_place, leads_at, port_at, word_at, open_at, open_slots, Aspect, as_used, as_altered, aspects, shows, set_place, marks_word, cell_at, own_at, past_at, meets, touched, has_past, opened_at, stepped_at, left_at}
use Rattle.held_laws.specs.HeldMoves.{own_word, leads_opened, port_opened, leads_stepped, leads_left, row_opened, row_stepped, row_left}

-- ---- marks of numbers that are chosen by a test

not_and_not : (a b : Bool) → not (a && not b) ≡ not a || b
not_and_not true true = refl
not_and_not true false = refl
not_and_not false b = refl

not_or : (a b : Bool) → not (a || b) ≡ not a && not b
not_or true b = refl
not_or false b = refl

-- nothing or a number; a number, or it with another added
blank_bit : (b : Bool) (n x : ℕ) → bit (cond b 0 n) x ≡ not b && bit n x
blank_bit true n x = bit_zero x
blank_bit false n x = refl

more_bit : (b : Bool) (n a x : ℕ) → bit (cond b (bit_or n a) n) x ≡ bit n x || (b && bit a x)
more_bit true n a x = bit-or n a x
more_bit false n a x = sym (or-false (bit n x))

without_bit : (n s x : ℕ) → bit (without n s) x ≡ not (eqb x s) && bit n x
without_bit n s x = bit_without n s x ∙ and_comm (bit n x) (not (eqb x s))

-- ---- where the words of a set stand

-- in the own or the past half of the row
pub set_end : (a : Aspect) → set_place a ≤ set_words
set_end as_used = omega arith
set_end as_altered = omega arith

own_place : (a : Aspect) (c : ℕ) → c < cells → set_place a + c / word_marks < past_place
own_place a c h = omega (arith, set_end a)

pub own_inside : (a : Aspect) (c : ℕ) → c < cells → set_place a + c / word_marks < row_words
own_inside a c h = omega (arith, set_end a)

past_inside : (a : Aspect) (c : ℕ) → c < cells → past_place + set_place a + c / word_marks < row_words
past_inside a c h = omega (arith, set_end a)

-- a place among the words of the sets says which set and which word of it
which_word : (a b : Aspect) (m n : ℕ) → m < set_words → n < set_words → set_place a + m ≡ set_place b + n → (a ≡ b) × (m ≡ n)
which_word as_used as_used m n p q e = (refl, omega arith)
which_word as_used as_altered m n p q e = absurd (omega arith)
which_word as_altered as_used m n p q e = absurd (omega arith)
which_word as_altered as_altered m n p q e = (refl, omega arith)

-- each aspect is one of the two
pub every_aspect : (a : Aspect) → a ∈ aspects
every_aspect as_used = here
every_aspect as_altered = later here

-- a word is marked exactly when it is the cell's in the own set of an aspect that the step shows
pub marks_test : (k : Kind) (s c w : ℕ) → Decides (marks_word k s c w) ((a : Aspect) × (a ∈ aspects) × (T (shows k a) × (w ≡ own_word s a c)))
marks_test k s c w = some_test (λ a. and_test (own_test (shows k a)) (eq_test w (own_word s a c))) aspects

-- ---- an open

module _ (h : Held) (r s i : ℕ) where
  -- the slot is open now, any other as it was
  pub opened_open_at : open_at (opened_at h r s) i ≡ open_at h i || eqb i s
  unfolding open_at opened_at
  opened_open_at = ap not (bit_without h.free s i) ∙ not_and_not (bit h.free i) (eqb i s)

  module _ (p : i < most_open) where
    -- the slot leads nowhere, and the open slots that have a past lead to it
    pub opened_leads_at : (x : ℕ) → bit (leads_at (opened_at h r s) i) x
        ≡ not (eqb i s) && ((not (eqb x s) && bit (leads_at h i) x) || (eqb x s && (open_at h i && has_past h i)))
    opened_leads_at x =
        let b = open_at h i && has_past h i in
        let n = without (leads_at h i) s in
        ap (λ (n : ℕ). bit n x) (leads_opened h r s i p)
        ∙ blank_bit (eqb i s) (cond b (bit_or n (2 ^ s)) n) x
        ∙ ap (λ (a : Bool). not (eqb i s) && a) (more_bit b n (2 ^ s) x
        ∙ ap₂ ◌||◌ (without_bit (leads_at h i) s x) (ap (λ (a : Bool). b && a) (bit_pow s x) ∙ and_comm b (eqb x s)))

    cell_opened : (o c : ℕ) → o + c / word_marks < row_words → cell_at (opened_at h r s) i o c ≡ not (eqb i s) && cell_at h i o c
    unfolding cell_at
    cell_opened o c q =
        ap (λ (n : ℕ). bit n (c % word_marks)) (row_opened h s i (o + c / word_marks) p q r)
        ∙ blank_bit (eqb i s) (word_at h i (o + c / word_marks)) (c % word_marks)

    -- the slot's own is blank, any other as it was
    pub opened_own_at : (a : Aspect) (c : ℕ) → c < cells → own_at (opened_at h r s) i a c ≡ not (eqb i s) && own_at h i a c
    opened_own_at a c real = cell_opened (set_place a) c (own_inside a c real)

    -- and so with its past
    pub opened_past_at : (a : Aspect) (c : ℕ) → c < cells → past_at (opened_at h r s) i a c ≡ not (eqb i s) && past_at h i a c
    opened_past_at a c real = cell_opened (past_place + set_place a) c (past_inside a c real)

  -- the slot is under the port of the open alone, any other where it was
  pub opened_port_at : (p : ℕ) → p < port_count → bit (port_at (opened_at h r s) p) i ≡ (not (eqb i s) && bit (port_at h p) i) || (eqb i s && eqb p r)
  opened_port_at p q =
      let n = without (port_at h p) s in
      ap (λ (n : ℕ). bit n i) (port_opened h r s p q)
      ∙ more_bit (eqb p r) n (2 ^ s) i
      ∙ ap₂ ◌||◌ (without_bit (port_at h p) s i) (ap (λ (a : Bool). eqb p r && a) (bit_pow s i) ∙ and_comm (eqb p r) (eqb i s))

-- ---- a step

-- a later read looks at the altered cells, an add at the used ones, a write at both
module _ (f : Aspect → ℕ → Bool) (c : ℕ) where
  pub meets_read : meets f read c ≡ f as_altered c
  unfolding meets
  meets_read = refl

  pub meets_add : meets f add c ≡ f as_used c
  unfolding meets
  meets_add = or-false (f as_used c)

  pub meets_write : meets f write c ≡ f as_used c || f as_altered c
  unfolding meets
  meets_write = refl

module _ (h : Held) (k : Kind) (s c i : ℕ) where
  -- a step opens and closes no slot
  pub stepped_open_at : open_at (stepped_at h k s c) i ≡ open_at h i
  unfolding open_at stepped_at
  stepped_open_at = refl

  module _ (p : i < most_open) where
    -- the open slots that are touched come to lead to s
    pub stepped_leads_at : (x : ℕ) → bit (leads_at (stepped_at h k s c) i) x ≡ bit (leads_at h i) x || (eqb x s && (open_at h i && touched h k s c i))
    stepped_leads_at x =
        let b = open_at h i && touched h k s c i in
        ap (λ (n : ℕ). bit n x) (leads_stepped h s k c i p)
        ∙ more_bit b (leads_at h i) (2 ^ s) x
        ∙ ap (λ (a : Bool). bit (leads_at h i) x || a) (ap (λ (a : Bool). b && a) (bit_pow s x) ∙ and_comm b (eqb x s))

    -- the mark of the cell is added to the words where it stands
    cell_stepped : (o c' : ℕ) → o + c' / word_marks < row_words → cell_at (stepped_at h k s c) i o c'
        ≡ cell_at h i o c' || (marks_word k s c (i * row_words + (o + c' / word_marks)) && eqb (c' % word_marks) (c % word_marks))
    unfolding cell_at
    cell_stepped o c' q =
        let n = word_at h i (o + c' / word_marks) in
        let b = marks_word k s c (i * row_words + (o + c' / word_marks)) in
        ap (λ (n : ℕ). bit n (c' % word_marks)) (row_stepped h s i (o + c' / word_marks) p q k c)
        ∙ more_bit b n (2 ^ (c % word_marks)) (c' % word_marks)
        ∙ ap (λ (a : Bool). bit n (c' % word_marks) || (b && a)) (bit_pow (c % word_marks) (c' % word_marks))

    module _ (real : c < cells) (a : Aspect) (c' : ℕ) (real' : c' < cells) where
      -- the cell is added to the slot's own, in the set of each aspect that the step shows
      pub stepped_own_at : own_at (stepped_at h k s c) i a c' ≡ own_at h i a c' || (eqb i s && (shows k a && eqb c' c))
      stepped_own_at =
          cell_stepped (set_place a) c' (own_inside a c' real')
          ∙ ap (λ (b : Bool). own_at h i a c' || b)
          (same_test
          (and_test (marks_test k s c (own_word i a c')) (eq_test (c' % word_marks) (c % word_marks)))
          (and_test (eq_test i s) (and_test (own_test (shows k a)) (eq_test c' c)))
          (λ e.
          let b = e.0.0 in
          let q : own_word i a c' ≡ own_word s b c = e.0.2.1 in
          let x = own_place b c real in
          let y = own_place a c' real' in
          let w = which_word a b (c' / word_marks) (c / word_marks) (omega arith) (omega arith) (omega arith) in
          (omega arith, (subst (λ (d : Aspect). T (shows k d)) (sym w.0) e.0.2.0, let z = e.1 in let r = w.1 in omega arith)))
          (λ e.
          let q : i ≡ s = e.0 in
          let r : c' ≡ c = e.1.1 in
          ((a, every_aspect a, (e.1.0, omega arith)), ap (λ (n : ℕ). n % word_marks) r)))

      -- no past changes
      pub stepped_past_at : past_at (stepped_at h k s c) i a c' ≡ past_at h i a c'
      stepped_past_at =
          cell_stepped (past_place + set_place a) c' (past_inside a c' real')
          ∙ ap (λ (b : Bool). past_at h i a c' || (b && eqb (c' % word_marks) (c % word_marks)))
          (test_false (marks_test k s c (i * row_words + (past_place + set_place a + c' / word_marks)))
          (λ e.
          let q : i * row_words + (past_place + set_place a + c' / word_marks) ≡ own_word s e.0 c = e.2.1 in
          let x = own_place e.0 c real in
          let y = past_inside a c' real' in
          omega arith))
          ∙ or-false (past_at h i a c')

-- ---- a slot is left

module _ (h : Held) (t : ℕ → Bool) (s i : ℕ) where
  -- the slot is open no more
  pub left_open_at : open_at (left_at h t s) i ≡ open_at h i && not (eqb i s)
  unfolding open_at left_at
  left_open_at =
      ap not (bit-or h.free (2 ^ s) i ∙ ap (λ (b : Bool). bit h.free i || b) (bit_pow s i)) ∙ not_or (bit h.free i) (eqb i s)

  module _ (p : i < most_open) where
    -- it leads nowhere and nothing leads to it; a row that takes over adds its leads to open slots
    pub left_leads_at : (x : ℕ) → x < most_open → bit (leads_at (left_at h t s) i) x
        ≡ not (eqb i s) && (not (eqb x s) && (bit (leads_at h i) x || (t i && (bit (leads_at h s) x && open_at h x))))
    left_leads_at x q =
        let a = bit_and (leads_at h s) (mask_of most_open (open_at h)) in
        let n = cond (t i) (bit_or (leads_at h i) a) (leads_at h i) in
        ap (λ (n : ℕ). bit n x) (leads_left h s t i p)
        ∙ blank_bit (eqb i s) (without n s) x
        ∙ ap (λ (b : Bool). not (eqb i s) && b) (without_bit n s x
        ∙ ap (λ (b : Bool). not (eqb x s) && b) (more_bit (t i) (leads_at h i) a x
        ∙ ap (λ (b : Bool). bit (leads_at h i) x || (t i && b)) (bit-and (leads_at h s) (mask_of most_open (open_at h)) x
        ∙ ap (λ (b : Bool). bit (leads_at h s) x && b) (bit_mask most_open (open_at h) x q))))

    -- a past set of a row that takes over gains the slot's own set and past set
    cell_left : (o c : ℕ) → o + c / word_marks < row_words → cell_at (left_at h t s) i o c
        ≡ not (eqb i s) && (cell_at h i o c
        || ((t i && leb past_place (o + c / word_marks)) && (bit (word_at h s (o + c / word_marks - past_place)) (c % word_marks) || cell_at h s o c)))
    unfolding cell_at
    cell_left o c q =
        let w = o + c / word_marks in
        let b = t i && leb past_place w in
        let n = word_at h i w in
        let a = bit_or (word_at h s (w - past_place)) (word_at h s w) in
        ap (λ (n : ℕ). bit n (c % word_marks)) (row_left h s i w p q t)
        ∙ blank_bit (eqb i s) (cond b (bit_or n a) n) (c % word_marks)
        ∙ ap (λ (r : Bool). not (eqb i s) && r) (more_bit b n a (c % word_marks)
        ∙ ap (λ (r : Bool). bit n (c % word_marks) || (b && r)) (bit-or (word_at h s (w - past_place)) (word_at h s w) (c % word_marks)))

    module _ (a : Aspect) (c : ℕ) (real : c < cells) where
      -- the slot's own is blank, any other as it was
      pub left_own_at : own_at (left_at h t s) i a c ≡ not (eqb i s) && own_at h i a c
      left_own_at =
          let w = set_place a + c / word_marks in
          let r = bit (word_at h s (w - past_place)) (c % word_marks) || own_at h s a c in
          cell_left (set_place a) c (own_inside a c real)
          ∙ ap (λ (b : Bool). not (eqb i s) && b)
          (ap (λ (b : Bool). own_at h i a c || (b && r))
          (ap (λ (b : Bool). t i && b) (test_false (le_test past_place w) (λ e. let q = own_place a c real in omega arith)) ∙ and_comm (t i) false)
          ∙ or-false (own_at h i a c))

      -- the slot's past is blank; a row that takes over adds the slot's own and past
      pub left_past_at : past_at (left_at h t s) i a c ≡ not (eqb i s) && (past_at h i a c || (t i && (own_at h s a c || past_at h s a c)))
      unfolding cell_at
      left_past_at =
          let w = past_place + set_place a + c / word_marks in
          let e : w - past_place ≡ set_place a + c / word_marks = omega arith in
          cell_left (past_place + set_place a) c (past_inside a c real)
          ∙ ap₂ (λ (b : Bool) (v : ℕ). not (eqb i s) && (past_at h i a c || (b && (bit (word_at h s v) (c % word_marks) || past_at h s a c))))
          (ap (λ (b : Bool). t i && b) (test_true (le_test past_place w) (omega arith)) ∙ and_comm (t i) true) e

-- ---- the open slots

module _ (h : Held) where
  -- an open slot is a slot, and open; and such a slot is among them
  pub slot_from : {i : ℕ} → i ∈ open_slots h → (i < most_open) × T (open_at h i)
  unfolding open_slots
  slot_from m = let r = only_from (open_at h) (upto most_open) m in (upto_from most_open r.0, r.1)

  pub slot_if : {i : ℕ} → i < most_open → T (open_at h i) → i ∈ open_slots h
  unfolding open_slots
  slot_if p t = only_keeps (open_at h) (upto_has p) t

  -- no slot is open twice
  pub slots_once : Once (open_slots h)
  unfolding open_slots
  slots_once = once_only (open_at h) (upto_once most_open)

  -- where every slot is open there are 32
  pub slots_full : ((i : ℕ) → i < most_open → T (open_at h i)) → length (open_slots h) ≡ most_open
  unfolding open_slots
  slots_full f = ap length (only_all (open_at h) (upto most_open) (λ i m. f i (upto_from most_open m)))

  -- an open adds its slot
  pub slots_opened : (r s : ℕ) → (T (open_at h s) → ⊥) → open_slots h ≡ strike s (open_slots (opened_at h r s))
  unfolding open_slots
  slots_opened r s shut =
      only_strike (upto most_open) (open_at h) (open_at (opened_at h r s)) s (λ i m.
      same_test (own_test (open_at h i)) (and_test (or_test (own_test (open_at h i)) (eq_test i s)) (not_test (eq_test i s)))
      (λ o. (inl o, λ e. shut (subst (λ (x : ℕ). T (open_at h x)) e o)))
      (λ z. ⊎_elim (λ o. o) (λ e. absurd (z.1 e)) z.0)
      ∙ ap (λ (b : Bool). b && not (eqb i s)) (sym (opened_open_at h r s i)))

  -- a step none
  pub slots_stepped : (k : Kind) (s c : ℕ) → open_slots (stepped_at h k s c) ≡ open_slots h
  unfolding open_slots
  slots_stepped k s c = only_same (open_at (stepped_at h k s c)) (open_at h) (upto most_open) (λ i m. stepped_open_at h k s c i)

  -- a slot that is left is struck out
  pub slots_left : (t : ℕ → Bool) (s : ℕ) → open_slots (left_at h t s) ≡ strike s (open_slots h)
  unfolding open_slots
  slots_left t s = only_strike (upto most_open) (open_at (left_at h t s)) (open_at h) s (λ i m. left_open_at h t s i)
