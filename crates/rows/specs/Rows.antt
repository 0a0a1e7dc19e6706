-- What the contracts of rows say. First what those of the public functions do, by the rules of the crates held and late: the state that lent rows make, and what an open and the
-- writes of a set leave of it. Then names for what the others ensure: the rules of masks of slots, the words in which a clash shows, and arrays that are
-- changed. Each says of lists of numbers what `held` says of a state.
-- Assumes nothing.
use Rattle.std.specs.Prelude.{◌≡◌, Bool, not, ◌&&◌, cond, List, [], Option, None, Some, ℕ, ◌+◌, ◌-◌, ◌*◌, ◌/◌, ◌%◌, ◌^◌, leb, eqb, get_or}
use Rattle.std.specs.Int.Bits.{bit_or, bit_and}
use Rattle.graph.specs.Decide.{some_of}
use Rattle.marks.specs.Marks.{bit, without, tab}
use Rattle.history.specs.Events.{Kind, read, write, add}
use Rattle.held.specs.Held.{Held, touched, marks_word, opened_at, left_at}
use Rattle.late.specs.Late.{named}
use Rattle.late.specs.LateHeld.{put_down, leads_back}
use Rattle.rows.specs.declared.Deed.{Deed}
use Rattle.rows.specs.declared.Deed.TheVariants.{Read, Write, Add}
use Rattle.rows.specs.declared.Aspect.{Aspect}
use Rattle.rows.specs.declared.Aspect.TheVariants.{Used, Altered}

-- ---- what is lent, and what is left of it

-- the state whose rows are lent. No function here looks at the next number or at the ports, and some look at no numbers
abbrev pub rows_of : ℕ → List ℕ → List ℕ → List ℕ → Held
rows_of free numbers leads sets = record { next = 0; free = free; numbers = numbers; leads = leads; sets = sets; ports = [] }

abbrev pub links_of : ℕ → List ℕ → List ℕ → Held
links_of free leads sets = rows_of free [] leads sets

abbrev pub sets_only : List ℕ → Held
sets_only sets = rows_of 0 [] [] sets

-- the kind of step that a deed is
abbrev pub kind_of : Deed → Kind
kind_of Read = read
kind_of Write = write
kind_of Add = add

-- what an open of slot s leaves: which slots are free, the leads and the sets, for a job of whatever port
pub record Opens (h : Held) (s free : ℕ) (leads sets : List ℕ) : Type 0 where
  pub left_free : free ≡ (opened_at h 0 s).free
  pub left_leads : leads ≡ (opened_at h 0 s).leads
  pub left_sets : sets ≡ (opened_at h 0 s).sets

-- what is left of the leads and the sets where slot s is left and the rows that pass t take over
pub record Leaves (h : Held) (t : ℕ → Bool) (s : ℕ) (leads sets : List ℕ) : Type 0 where
  pub left_leads : leads ≡ (left_at h t s).leads
  pub left_sets : sets ≡ (left_at h t s).sets

-- what the writes of cells leave. They are refused where the slot would lead to itself
pub record Writes (h : Held) (s : ℕ) (cs : List ℕ) (refused : Bool) (leads sets : List ℕ) : Type 0 where
  pub told : refused ≡ leads_back h s cs
  pub left : links_of h.free leads sets ≡ cond refused h (put_down h s cs)

-- ---- masks of slots

-- open; another open one that leads to s
abbrev pub is_open : ℕ → ℕ → Bool
is_open free i = not (bit free i)

abbrev pub leads_to : ℕ → List ℕ → ℕ → ℕ → Bool
leads_to free leads s i = is_open free i && (not (eqb i s) && bit (get_or leads i 0) s)

-- touched by a step of no slot: slot 32 is no row, so that own and past of every row count; open and touched by a step of s
abbrev pub met : List ℕ → Kind → ℕ → ℕ → Bool
met sets k c i = touched (sets_only sets) k 32 c i

abbrev pub touches : ℕ → List ℕ → Kind → ℕ → ℕ → ℕ → Bool
touches free sets k s c i = is_open free i && touched (sets_only sets) k s c i

-- touched by a write of s of some cell of the set
abbrev pub meets_some : List ℕ → ℕ → List ℕ → ℕ → Bool
meets_some sets s ws i = some_of (λ c. touched (sets_only sets) write s c i) (named ws)

-- the leads of s to open slots
abbrev pub theirs : ℕ → List ℕ → ℕ → ℕ
theirs free leads s = bit_and (get_or leads s 0) (2 ^ 32 - 1 - free)

-- ---- words of the sets

-- three words joined, and the four words from a place on joined each with those at a and at b
abbrev pub three : List ℕ → ℕ → ℕ → ℕ → ℕ
three sets w u v = bit_or (get_or sets w 0) (bit_or (get_or sets u 0) (get_or sets v 0))

abbrev pub gain : List ℕ → ℕ → ℕ → ℕ → ℕ → ℕ
gain sets to a b w = cond (leb to w && leb w (to + 3)) (three sets w (a + (w - to)) (b + (w - to))) (get_or sets w 0)

-- where the set of used or altered cells begins in a half row
abbrev pub start_of : Aspect → ℕ
start_of Used = 0
start_of Altered = 4

-- which word of a half row a step looks at: one that uses looks at the altered cells, an add at the used. And which beside that: a write looks at the used cells too
abbrev pub first_word : Deed → ℕ → ℕ
first_word Read c = 4 + c / 64
first_word Write c = 4 + c / 64
first_word Add c = c / 64

abbrev pub second_word : Deed → ℕ → Option ℕ
second_word Read c = None
second_word Write c = Some (c / 64)
second_word Add c = None

-- what they show, in one: word f of the half row that begins at h, and the other one
abbrev pub shown_word : List ℕ → ℕ → ℕ → Option ℕ → ℕ
shown_word sets h f None = get_or sets (h + f) 0
shown_word sets h f (Some p) = bit_or (get_or sets (h + f) 0) (get_or sets (h + p) 0)

-- word w of a past that gains own and past of s, which stand at the same place of their half rows
abbrev pub gained_word : List ℕ → ℕ → ℕ → ℕ
gained_word sets s w = bit_or (get_or sets w 0) (bit_or (get_or sets (s * 16 + (w % 16 - 8)) 0) (get_or sets (s * 16 + w % 16) 0))

-- word w where the rows that pass p have gained so
abbrev pub folded_word : List ℕ → (ℕ → Bool) → ℕ → ℕ → ℕ
folded_word sets p s w = cond (p (w / 16) && leb 8 (w % 16)) (gained_word sets s w) (get_or sets w 0)

-- ---- arrays that are changed

-- a number put into its row
abbrev pub put : List ℕ → ℕ → ℕ → List ℕ
put numbers s x = tab 32 (λ i. cond (eqb i s) x (get_or numbers i 0))

-- no row leads to s, and its own leads nowhere
abbrev pub struck : List ℕ → ℕ → List ℕ
struck leads s = tab 32 (λ i. cond (eqb i s) 0 (without (get_or leads i 0) s))

-- the rows that pass p gain leads
abbrev pub gained_row : List ℕ → (ℕ → Bool) → ℕ → ℕ → ℕ
gained_row leads p gain i = cond (p i) (bit_or (get_or leads i 0) gain) (get_or leads i 0)

abbrev pub gained : List ℕ → (ℕ → Bool) → ℕ → List ℕ
gained leads p gain = tab 32 (gained_row leads p gain)

-- the sets of s are empty; the rows that pass p take over those of s; a set of s's own, 0 for the used and 4 for the altered cells, gains a cell; s's own gains it by a step of kind k
abbrev pub blanked : List ℕ → ℕ → List ℕ
blanked sets s = tab 512 (λ w. cond (eqb (w / 16) s) 0 (get_or sets w 0))

abbrev pub folded : List ℕ → (ℕ → Bool) → ℕ → List ℕ
folded sets p s = tab 512 (folded_word sets p s)

abbrev pub put_own : List ℕ → ℕ → ℕ → ℕ → List ℕ
put_own sets s place c = tab 512 (λ w. cond (eqb w (s * 16 + (place + c / 64))) (bit_or (get_or sets w 0) (2 ^ (c % 64))) (get_or sets w 0))

abbrev pub marked_own : List ℕ → ℕ → Kind → ℕ → List ℕ
marked_own sets s k c = tab 512 (λ w. cond (marks_word k s c w) (bit_or (get_or sets w 0) (2 ^ (c % 64))) (get_or sets w 0))

-- the own used and altered cells of s, eight words, gain the cells of a set, word by word
abbrev pub joined_word : List ℕ → ℕ → List ℕ → ℕ → ℕ
joined_word sets s ws w = cond (leb (s * 16) w && leb w (s * 16 + 7)) (bit_or (get_or sets w 0) (get_or ws (w % 4) 0)) (get_or sets w 0)

abbrev pub joined_own : List ℕ → ℕ → List ℕ → List ℕ
joined_own sets s ws = tab 512 (joined_word sets s ws)
