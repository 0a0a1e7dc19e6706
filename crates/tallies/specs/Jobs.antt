-- What the reading of a log leaves: the table of its jobs, and its steps as numbers.
--
-- The table has a job's number and how it stands, in the order in which the jobs were opened. An open, a read, a write, an add or an end is told as one number, which has
-- the place of its job in the table and a row for what was done on which cell; an abandon as 0.
-- Assumes nothing.
use Rattle.std.specs.Prelude.{◌≡◌, ◌⊎◌, Bool, ◌&&◌, ◌||◌, cond, List, [], ◌∷◌, ◌++◌, ℕ, zero, suc, ◌+◌, ◌*◌, ◌%◌, ◌≤◌, ◌<◌, leb, ltb, eqb, length, get_or}
use Rattle.history.specs.Events.{Kind, read, write, add, Deed, does, opening, ending, Event, opens, steps, ends, abandons, History, has, opened, ended, abandoned, wrote}
use Rattle.history.specs.Replies.{Request, want, event_of}
use Rattle.history.specs.Turns.{Turns}
use Rattle.verdicts.specs.Logs.{most_jobs, fault_of}

-- ---- the table of jobs

-- how a job stands: 1 open, 2 open and has written or added, 3 ended, 4 abandoned
unfoldable pub status : History → ℕ → ℕ
status h j = cond (has (abandoned h) j) 4 (cond (has (ended h) j) 3 (cond (wrote h j) 2 1))

-- the list has so many entries, and those past the count are 0
pub record Padded (l : List ℕ) (width count : ℕ) : Type 0 where
  pub wide : length l ≡ width
  pub past : (i : ℕ) → count ≤ i → get_or l i 0 ≡ 0

-- the lists tell of the jobs of a history, and of nothing else
pub record Jobs (h : History) (numbers states : List ℕ) (count : ℕ) : Type 0 where
  pub turns : Turns h
  pub many : count ≡ length (opened h)
  pub few : count ≤ most_jobs
  pub named : (i : ℕ) → i < count → get_or numbers i 0 ≡ get_or (opened h) i 0
  pub stated : (i : ℕ) → i < count → get_or states i 0 ≡ status h (get_or (opened h) i 0)
  pub numbers_padded : Padded numbers most_jobs count
  pub states_padded : Padded states most_jobs count

-- the first so many entries rise
abbrev pub Rises : ℕ → List ℕ → Type 0
Rises count l = (i k : ℕ) → i < k → k < count → get_or l i 0 < get_or l k 0

-- where the job stands among the first so many entries; their count where it does not
abbrev pub Finds : ℕ → List ℕ → ℕ → ℕ → Type 0
Finds count l j r = ((r < count) × (get_or l r 0 ≡ j)) ⊎ ((r ≡ count) × ((i : ℕ) → i < count → get_or l i 0 ≡ j → ⊥))

-- every entry is 0
abbrev pub Blank : List ℕ → Type 0
Blank l = (i : ℕ) → get_or l i 0 ≡ 0

-- ---- steps as numbers

-- how many cells there are for a deed: openings and ends all stand with cell 0
abbrev pub room : Deed → ℕ
room (does k) = 256
room opening = 1
room ending = 1

-- the row of a deed on a cell, of 770
abbrev pub row_of : Deed → ℕ → ℕ
row_of (does read) c = c
row_of (does write) c = c + 256
row_of (does add) c = c + 512
row_of opening c = c + 768
row_of ending c = c + 769

-- the first of the rows of a kind
abbrev pub first_row : Kind → ℕ
first_row k = row_of (does k) 0

-- what a later step at a row looks at, among what the rows have: a write or an add at the reads of its cell; a read, a write or an add at its writes; a read or a write at its adds;
-- an opening at the ends, an end at nothing. That these are the rows of what it clashes with is `looked_test` of RowLaws
unfoldable pub looked : (ℕ → Bool) → ℕ → Bool
looked g row = cond (ltb row 768) ((leb 256 row && g (row % 256)) || (g (row % 256 + 256) || (ltb row 512 && g (row % 256 + 512)))) (eqb row 768 && g 769)

-- a step of the job at place i of the table
abbrev pub packed_step : ℕ → Deed → ℕ → ℕ
packed_step i d c = i * 770 + row_of d c + 1

-- x tells that job j has done d on cell c
abbrev pub Packs : List ℕ → Deed → ℕ → ℕ → ℕ → Type 0
Packs jobs d j c x = (i : ℕ) × (i < length jobs) × (get_or jobs i 0 ≡ j) × (c < room d) × (x ≡ packed_step i d c)

-- x tells of the event
abbrev pub Tells : List ℕ → Event → ℕ → Type 0
Tells jobs (opens j) x = Packs jobs opening j 0 x
Tells jobs (steps k j c) x = Packs jobs (does k) j c x
Tells jobs (ends j) x = Packs jobs ending j 0 x
Tells jobs (abandons j) x = x ≡ 0

-- the numbers from place n on tell of the events h
abbrev pub Told : List ℕ → List ℕ → ℕ → History → Type 0
Told jobs told n [] = Unit {0}
Told jobs told n (e ∷ h) = Tells jobs e (get_or told n 0) × Told jobs told (suc n) h

-- ---- the reading

-- so many records are read, as the events h
pub record Taken (h : History) (n : ℕ) (numbers states told : List ℕ) (count : ℕ) : Type 0 where
  pub jobs : Jobs h numbers states count
  pub at : n ≡ length h
  pub steps_told : Told (opened h) told zero h
  pub rest : (i : ℕ) → n ≤ i → get_or told i 0 ≡ 0
  pub wide : length told ≡ 4096

-- one record more: its fault, and without one the lists tell of one event more
pub record Takes (h : History) (n : ℕ) (r : Request) (code : ℕ) (numbers states told : List ℕ) (count : ℕ) : Type 0 where
  pub fault : code ≡ fault_of h r
  pub next : code ≡ 0 → Taken (h ++ event_of r.job (want r.kind) r.job r.cell) (suc n) numbers states told count
