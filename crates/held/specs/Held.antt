-- What the 32 slots hold, on lists of numbers, and the rule over it, total for any content and exact to the last bit.
--
-- A state is the next number, a mask of the free slots, for each port a mask of its slots, and for each slot a row: a job number, a mask of the slots it leads to, and sixteen
-- words, four for each cell set: own used, own altered, past used, past altered. A read uses its cell, an add alters it, a write does both; two steps on a
-- cell clash exactly when one uses it and the other alters it (`clash_shows`), so that two sets are enough for three kinds. The facts that the codes ask are
-- read off a state (`facts`), and a grant moves it (`after`). For states that no requests give this is how document 01 is read: the lowest open slot that
-- holds the number is meant; what is held is taken as it is; new leads are added first, and then any chain of leads over open slots from the asking slot
-- back to it gives 7; rows and marks of slots that are not open count for nothing; an open slot counts for every port whose mask has it.
-- Assumes nothing.
use Rattle.std.specs.Prelude.{◌≡◌, refl, Bool, true, false, not, ◌&&◌, ◌||◌, cond, List, [], ◌∷◌, ℕ, suc, ◌+◌, ◌-◌, ◌*◌, ◌/◌, ◌%◌, ◌^◌, leb, eqb, length, get_or}
use Rattle.std.proofs.Math.Option.{Option, none, some}
use Rattle.std.specs.Int.Bits.{bit_or, bit_and}
use Rattle.graph.specs.Decide.{some_of}
use Rattle.graph.specs.Lists.{only}
use Rattle.graph.specs.Reach.{reach}
use Rattle.marks.specs.Marks.{bit, mask_of, without, tab, upto}
use Rattle.marks.specs.Words.{empty}
use Rattle.history.specs.Events.{Kind, read, write, add, alters, kinds_clash}
use Rattle.history.specs.Replies.{most_open, port_count, Request, Reply, Want, an_open, a_step, an_end, an_abandon, a_publish, nothing, want, Facts, code_of, reply_of}

pub record Held : Type 0 where
  pub next : ℕ
  pub free : ℕ
  pub numbers : List ℕ
  pub leads : List ℕ
  pub sets : List ℕ
  pub ports : List ℕ

-- words of 64 marks; four to a cell set; sixteen to a row, own before past
abbrev pub word_marks : ℕ
word_marks = 64

abbrev pub set_words : ℕ
set_words = 4

abbrev pub row_words : ℕ
row_words = 16

abbrev pub past_place : ℕ
past_place = 8

abbrev pub all_words : ℕ
all_words = 512

-- ---- what a step does to its cell

-- it uses what is in the cell, or alters it
pub data Aspect : Type 0 where
  as_used as_altered : Aspect

abbrev pub aspects : List Aspect
aspects = as_used ∷ as_altered ∷ []

-- an add alters alone. A write, which leaves nothing of what was there, counts as both
abbrev pub uses : Kind → Bool
uses read = true
uses write = true
uses add = false

abbrev pub shows : Kind → Aspect → Bool
shows k as_used = uses k
shows k as_altered = alters k

-- two kinds clash exactly when one uses the cell and the other alters it
pub clash_shows : (k l : Kind) → kinds_clash k l ≡ (shows l as_altered && shows k as_used) || (shows l as_used && shows k as_altered)
clash_shows read read = refl
clash_shows read write = refl
clash_shows read add = refl
clash_shows write read = refl
clash_shows write write = refl
clash_shows write add = refl
clash_shows add read = refl
clash_shows add write = refl
clash_shows add add = refl

-- ---- a fresh state

-- no job: every slot free, every row blank
unfoldable pub fresh_held : ℕ → Held
fresh_held first =
    record {
      next = first;
      free = 2 ^ most_open - 1;
      numbers = tab most_open (λ i. 0);
      leads = tab most_open (λ i. 0);
      sets = tab all_words (λ w. 0);
      ports = tab port_count (λ p. 0);
    }

-- ---- reading a state

unfoldable pub number_at : Held → ℕ → ℕ
number_at h i = get_or h.numbers i 0

unfoldable pub leads_at : Held → ℕ → ℕ
leads_at h i = get_or h.leads i 0

-- the slots of port p
unfoldable pub port_at : Held → ℕ → ℕ
port_at h p = get_or h.ports p 0

-- word o of row i
unfoldable pub word_at : Held → ℕ → ℕ → ℕ
word_at h i o = get_or h.sets (i * row_words + o) 0

unfoldable pub open_at : Held → ℕ → Bool
open_at h i = not (bit h.free i)

-- the open slots, the lowest first
unfoldable pub open_slots : Held → List ℕ
open_slots h = only (open_at h) (upto most_open)

-- where the used and the altered cells stand, among own and among past
abbrev pub set_place : Aspect → ℕ
set_place as_used = 0
set_place as_altered = set_words

-- the set that begins at word o of row i, and is the cell in it?
abbrev pub set_at : Held → ℕ → ℕ → List ℕ
set_at h i o = tab set_words (λ w. word_at h i (o + w))

unfoldable pub cell_at : Held → ℕ → ℕ → ℕ → Bool
cell_at h i o c = bit (word_at h i (o + c / word_marks)) (c % word_marks)

abbrev pub own_at : Held → ℕ → Aspect → ℕ → Bool
own_at h i a c = cell_at h i (set_place a) c

abbrev pub past_at : Held → ℕ → Aspect → ℕ → Bool
past_at h i a c = cell_at h i (past_place + set_place a) c

-- ---- the facts

abbrev pub first_in : List ℕ → Option ℕ
first_in [] = none
first_in (i ∷ l) = some i

abbrev pub is_some : Option ℕ → Bool
is_some none = false
is_some (some i) = true

-- said of the slot, and false where there is none
abbrev pub at_slot : Option ℕ → (ℕ → Bool) → Bool
at_slot none f = false
at_slot (some s) f = f s

-- the lowest open slot that holds the number
unfoldable pub slot_of : Held → ℕ → Option ℕ
slot_of h j = first_in (only (λ i. eqb (number_at h i) j) (open_slots h))

-- the used and the altered cells clash with a later step of kind k on cell c: one that alters looks at the used, one that uses at the altered
unfoldable pub meets : (Aspect → ℕ → Bool) → Kind → ℕ → Bool
meets f k c = (shows k as_altered && f as_used c) || (shows k as_used && f as_altered c)

-- slot i comes to lead to slot s at its step: another slot's own clashes with it, or any slot's past does, s's too
unfoldable pub touched : Held → Kind → ℕ → ℕ → ℕ → Bool
touched h k s c i = (not (eqb i s) && meets (own_at h i) k c) || meets (past_at h i) k c

-- a chain of held and new leads, over open slots, from s back to s
unfoldable pub chain_back : Held → Kind → ℕ → ℕ → Bool
chain_back h k s c = reach (λ i x. bit (leads_at h i) x || (eqb x s && touched h k s c i)) (open_slots h) s s

-- the slot has altered a cell itself, which bars abandoning
unfoldable pub altered : Held → ℕ → Bool
altered h s = not (empty (set_at h s (set_place as_altered)))

unfoldable pub facts : Held → Facts
facts h =
    record {
      is_open = λ j. is_some (slot_of h j);
      has_written = λ j. at_slot (slot_of h j) (altered h);
      count = length (open_slots h);
      crowd = λ p. length (only (bit (port_at h p)) (open_slots h));
      next = h.next;
      closes = λ k j c. at_slot (slot_of h j) (λ s. chain_back h k s c);
    }

-- ---- moving a state: what a grant leaves, number by number

-- a past set is not empty. Of a state that requests give: the slot leads to some job that has ended
unfoldable pub has_past : Held → ℕ → Bool
has_past h i = some_of (λ a. not (empty (set_at h i (past_place + set_place a)))) aspects

-- the new job goes into slot s: its row is blank but for the number, the open rows that have a past lead to it, and no other row does; of the ports, p alone has the slot
unfoldable pub opened_at : Held → ℕ → ℕ → Held
opened_at h p s =
    record {
      next = suc h.next;
      free = without h.free s;
      numbers = tab most_open (λ i. cond (eqb i s) h.next (number_at h i));
      leads = tab most_open (λ i. cond (eqb i s) 0 (let n = without (leads_at h i) s in cond (open_at h i && has_past h i) (bit_or n (2 ^ s)) n));
      sets = tab all_words (λ w. cond (eqb (w / row_words) s) 0 (get_or h.sets w 0));
      ports = tab port_count (λ q. let n = without (port_at h q) s in cond (eqb q p) (bit_or n (2 ^ s)) n);
    }

-- is word w the one of cell c in an own set of slot s that a step of kind k marks? A read marks the used, an add the altered, a write both
abbrev pub marks_word : Kind → ℕ → ℕ → ℕ → Bool
marks_word k s c w = some_of (λ a. shows k a && eqb w (s * row_words + (set_place a + c / word_marks))) aspects

-- a step of slot s: the open slots that it touches come to lead to s, and s's own has the cell
unfoldable pub stepped_at : Held → Kind → ℕ → ℕ → Held
stepped_at h k s c =
    record {
      next = h.next;
      free = h.free;
      numbers = h.numbers;
      leads = tab most_open (λ i. cond (open_at h i && touched h k s c i) (bit_or (leads_at h i) (2 ^ s)) (leads_at h i));
      sets =
          tab all_words (λ w. cond (marks_word k s c w) (bit_or (get_or h.sets w 0) (2 ^ (c % word_marks))) (get_or h.sets w 0));
      ports = h.ports;
    }

-- slot s is left: its row is blank, no row leads to it, and the rows that pass t take over its own, its past and its leads to open slots. The ports' masks
-- keep it: a slot that is not open counts for no port, and the next open of the slot puts it under its own port
unfoldable pub left_at : Held → (ℕ → Bool) → ℕ → Held
left_at h t s =
    record {
      next = h.next;
      free = bit_or h.free (2 ^ s);
      numbers = tab most_open (λ i. cond (eqb i s) 0 (number_at h i));
      leads =
          tab most_open (λ i. cond (eqb i s) 0 (without (cond (t i) (bit_or (leads_at h i) (bit_and (leads_at h s) (mask_of most_open (open_at h)))) (leads_at h i)) s));
      sets =
          tab all_words (λ w.
          let i = w / row_words in
          let o = w % row_words in
          cond (eqb i s) 0
          (cond (t i && leb past_place o) (bit_or (get_or h.sets w 0) (bit_or (word_at h s (o - past_place)) (word_at h s o))) (get_or h.sets w 0)));
      ports = h.ports;
    }

-- an end: every other open row that leads to s takes over
abbrev pub takes_over : Held → ℕ → ℕ → Bool
takes_over h s i = open_at h i && (not (eqb i s) && bit (leads_at h i) s)

unfoldable pub ended_at : Held → ℕ → Held
ended_at h s = left_at h (takes_over h s) s

-- an abandon: none does
unfoldable pub abandoned_at : Held → ℕ → Held
abandoned_at h s = left_at h (λ i. false) s

-- ---- the rule

abbrev pub with_slot : Option ℕ → (ℕ → Held) → Held → Held
with_slot none f h = h
with_slot (some s) f h = f s

-- the lowest free slot
unfoldable pub free_slot : Held → Option ℕ
free_slot h = first_in (only (bit h.free) (upto most_open))

-- a publish is the step of a write and then the end, at the same slot
unfoldable pub moved : Held → Want → ℕ → ℕ → Held
moved h an_open j c = with_slot (free_slot h) (λ s. opened_at h j s) h
moved h (a_step k) j c = with_slot (slot_of h j) (λ s. stepped_at h k s c) h
moved h an_end j c = with_slot (slot_of h j) (λ s. ended_at h s) h
moved h an_abandon j c = with_slot (slot_of h j) (λ s. abandoned_at h s) h
moved h a_publish j c = with_slot (slot_of h j) (λ s. ended_at (stepped_at h write s c) s) h
moved h nothing j c = h

-- the answer to a request, and the next state: moved by a grant, and as it was after a refusal
unfoldable pub answer_to : Held → Request → Reply
answer_to h r = reply_of (facts h) r

unfoldable pub after : Held → Request → Held
after h r = cond (eqb (code_of (facts h) r) 0) (moved h (want r.kind) r.job r.cell) h

abbrev pub answers : Held → List Request → List Reply
answers h [] = []
answers h (r ∷ rs) = answer_to h r ∷ answers (after h r) rs

abbrev pub after_all : Held → List Request → Held
after_all h [] = h
after_all h (r ∷ rs) = after_all (after h r) rs
