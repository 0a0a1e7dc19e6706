-- What the proofs of the requests need beyond the contracts of the functions that they call.
--
-- What the tests of the code say of a state: `free_first` gives the slot that an open takes, and the count of free marks tells a full
-- state (`count_full`). Then the codes of any state, by what each test comes to. Last a law for each way out of a request (`does-..`, of a step `asks-..`) and
-- for each kind of request (`steps-..`): from the branches taken and what the callees ensure to what the contract says.
-- Assumes nothing.
use mathlib.Core.Path.{◌≡◌, refl, sym, ap, ap₂, ◌∙◌, subst}
use mathlib.Core.Bool.{Bool, true, false, not, ◌&&◌, cond}
use mathlib.Core.Option.{Option, some}
use mathlib.Core.List.{List, ◌∷◌}
use Prim.Native.Nat.{ℕ, ◌+◌, ◌%◌, ◌^◌, ◌≤◌, ◌<◌}
use native.Mathlib.Nat.{mod-eq_of_lt}
use native.Mathlib.Numerals.{add-one}
use native.Mathlib.Omega.{arith}
use lib.Count.{ones}
use lib.Dec.{leb, eqb}
use lib.ListN.{length}
use borrow.Author.Tests.{le-leb, lt-leb, eq-eqb, ne_eqb}
use Rattle.std.specs.Prelude.{Result, Ok, Err, None}
use Rattle.graph.specs.Decide.{eq_test, le_test, same_test, by_test}
use Rattle.graph.specs.Lists.{only_both}
use Rattle.marks.specs.Marks.{bit, mask_of, upto}
use Rattle.marks.specs.MarkLaws.{mask_bits, lowest_mark, ones_count}
use Rattle.history.specs.Events.{Kind, write}
use Rattle.history.specs.Replies.{Request, Reply, Want, Facts, ◌gives◌, first_of, an_open, a_step, an_end, an_abandon, a_publish, want, tests, code_of, job_of, reply_of}
use Rattle.history_laws.specs.ReplyLaws.{as_kind}
use Rattle.held.specs.Held.{Held, is_some, at_slot, with_slot, open_at, open_slots, number_at, leads_at, port_at, word_at, cell_at, slot_of, free_slot}
use Rattle.held.specs.Held.{touched, chain_back, altered, facts, has_past, opened_at, stepped_at, left_at, ended_at, abandoned_at, moved, answer_to, after}
use Rattle.held_laws.specs.HeldBlank.{publish_held}
use Rattle.rows.specs.Rows.{rows_of, links_of, sets_only, kind_of, Opens, touches, put, gained, marked_own}
use Rattle.rows.proofs.RowLaws.{gained_by}
use Rattle.rows.specs.declared.Deed.{Deed}
use Rattle.rows.specs.declared.Deed.TheVariants as Deeds
use Rattle.slots.specs.Lent.{lent, crowd_of, under, numbered, refusal_code, Gets, code_for, Does, code_asked, Asks, Steps}
use Rattle.slots.specs.Finds.{slot_with, circled}
use Rattle.slots.specs.Requests.{fields_of, kind_number}
use Rattle.slots.specs.declared.JobNumber.{JobNumber}
use Rattle.slots.specs.declared.Refusal.{Refusal}
use Rattle.slots.specs.declared.Refusal.TheVariants.{Malformed, NoCell, NotOpen, HasWritten, Full, Spent, Circle, NoPort, PortFull}
use Rattle.slots.specs.declared.Kind.TheVariants as Kinds
use Rattle.slots.specs.declared.Kind as Asked
use Rattle.slots.specs.declared.Request as Fields
use Rattle.slots.proofs.CircleLaws.{circle_law}
use Rattle.slots.proofs.LowestLaws.{slot, first_some, Found, slot_none}

-- ---- free slots

-- a count that is not 0 is of a number that is not 0
some_free : {free : ℕ} → (ones free ≡ 0 → ⊥) → free ≡ 0 → ⊥
unfolding ones
some_free ne z = ne (ap ones z)

pub free_inside : {free : ℕ} → free < 2 ^ 32 → (ones free ≡ 0 → ⊥) → slot free < 32
free_inside {free} fits ne = (lowest_mark 32 free fits (some_free ne)).inside

module _ (h : Held) (fits : h.free < 2 ^ 32) where
  pub free_first : (h.free ≡ 0 → ⊥) → free_slot h ≡ some (slot h.free)
  unfolding free_slot
  free_first ne = first_some 32 (bit h.free) (sym (mask_bits 32 h.free fits)) ne

  -- as many slots are open as free has no mark for
  open_count : ones h.free + length (open_slots h) ≡ 32
  unfolding open_slots open_at
  open_count = ap (λ (n : ℕ). n + length (open_slots h)) (ones_count 32 h.free fits) ∙ only_both (bit h.free) (upto 32)

  pub count_full : leb 32 (length (open_slots h)) ≡ eqb (ones h.free) 0
  count_full =
      let e = open_count in
      same_test (le_test 32 (length (open_slots h))) (eq_test (ones h.free) 0) (λ q. omega arith) (λ q. omega arith)

-- ---- the codes of any state, by what the tests come to

module _ (h : Held) where
  code_open : {a b d e : Bool} (j c : ℕ) → leb 4294967296 h.next ≡ a → leb 3 j ≡ b → leb 32 (length (open_slots h)) ≡ d → leb 16 (crowd_of h.free h.ports j) ≡ e
      → code_for h an_open j c ≡ cond a 6 (cond b 8 (cond d 5 (cond e 9 0)))
  unfolding code_for tests facts open_slots open_at port_at
  code_open j c ea eb ed ee = λ i. cond (ea i) 6 (cond (eb i) 8 (cond (ed i) 5 (cond (ee i) 9 0)))

  code_step : {a b : Bool} {o : Option ℕ} (asked : Bool) (k : Kind) (j c : ℕ) → leb 256 c ≡ a → slot_of h j ≡ o → asked && at_slot o (λ s. chain_back h k s c) ≡ b
      → code_asked h asked k j c ≡ cond a 2 (cond (not (is_some o)) 3 (cond b 7 0))
  unfolding code_asked tests facts
  code_step {a} {b} {o} true k j c p q r =
      ap₂ (λ (a : Bool) (o : Option ℕ). cond a 2 (cond (not (is_some o)) 3 (cond (at_slot o (λ s. chain_back h k s c)) 7 0))) p q
      ∙ ap (λ (b : Bool). cond a 2 (cond (not (is_some o)) 3 (cond b 7 0))) r
  code_step {a} {b} {o} false k j c p q r =
      ap₂ (λ (a : Bool) (o : Option ℕ). cond a 2 (cond (not (is_some o)) 3 0)) p q ∙ ap (λ (b : Bool). cond a 2 (cond (not (is_some o)) 3 (cond b 7 0))) r

  code_end : {o : Option ℕ} (j c : ℕ) → slot_of h j ≡ o → code_for h an_end j c ≡ cond (not (is_some o)) 3 0
  unfolding code_for tests facts
  code_end j c = ap (λ (o : Option ℕ). cond (not (is_some o)) 3 0)

  code_abandon : {b : Bool} {o : Option ℕ} (j c : ℕ) → slot_of h j ≡ o → at_slot o (altered h) ≡ b → code_for h an_abandon j c ≡ cond (not (is_some o)) 3 (cond b 4 0)
  unfolding code_for tests facts
  code_abandon {b} {o} j c q r =
      ap (λ (o : Option ℕ). cond (not (is_some o)) 3 (cond (at_slot o (altered h)) 4 0)) q ∙ ap (λ (b : Bool). cond (not (is_some o)) 3 (cond b 4 0)) r

-- the reply and the state that a code gives
abbrev reply_at : Held → Want → ℕ → ℕ → Reply
reply_at h w j n = record { code = n; job = cond (eqb n 0) (job_of h.next w j) 0 }

abbrev state_at : Held → Want → ℕ → ℕ → ℕ → Held
state_at h w j c n = cond (eqb n 0) (moved h w j c) h

does_by : {h g : Held} {w : Want} {j c m : ℕ} {r : Result JobNumber Refusal} (n : ℕ) → m ≡ n → numbered r ≡ reply_at h w j n → g ≡ state_at h w j c n → Gets m h w j c r g
does_by {h} {g} {w} {j} {c} n e a l = record { answered = a ∙ ap (reply_at h w j) (sym e); left = l ∙ ap (state_at h w j c) (sym e) }

-- states that are the same, part by part
pub lent_same : {next next' free free' : ℕ} {numbers numbers' leads leads' sets sets' ports ports' : List ℕ}
    → next ≡ next' → free ≡ free' → numbers ≡ numbers' → leads ≡ leads' → sets ≡ sets' → ports ≡ ports'
    → lent next free numbers leads sets ports ≡ lent next' free' numbers' leads' sets' ports'
lent_same n f ns ls ss ps = λ i. lent (n i) (f i) (ns i) (ls i) (ss i) (ps i)

-- ---- the refusals that need no slot

module _ {h : Held} {j c : ℕ} where
  pub does_open_spent : 4294967296 ≤ h.next → Does h an_open j c (Err Spent) h
  does_open_spent q = does_by 6 (code_open h j c (le-leb 4294967296 h.next q) refl refl refl) refl refl

  module _ (q : h.next < 4294967296) where
    pub does_open_no_port : 3 ≤ j → Does h an_open j c (Err NoPort) h
    does_open_no_port p = does_by 8 (code_open h j c (lt-leb 4294967296 h.next q) (le-leb 3 j p) refl refl) refl refl

    module _ (fits : h.free < 2 ^ 32) (p : j < 3) where
      pub does_open_full : ones h.free ≡ 0 → Does h an_open j c (Err Full) h
      does_open_full z =
          does_by 5 (code_open h j c (lt-leb 4294967296 h.next q) (lt-leb 3 j p) (count_full h fits ∙ eq-eqb (ones h.free) 0 z) refl) refl refl

      pub does_open_port_full : {n : ℕ} → (ones h.free ≡ 0 → ⊥) → n ≡ crowd_of h.free h.ports j → 16 ≤ n → Does h an_open j c (Err PortFull) h
      does_open_port_full {n} ne e z =
          does_by 9 (code_open h j c (lt-leb 4294967296 h.next q) (lt-leb 3 j p) (count_full h fits ∙ ne_eqb (ones h.free) 0 ne) (ap (leb 16) (sym e) ∙ le-leb 16 n z)) refl refl

  pub asks_no_cell : (asked : Bool) {k : Kind} → (c < 256 → ⊥) → Asks h asked k j c (Err NoCell) h
  asks_no_cell asked {k} q = let p : 256 ≤ c = omega arith in does_by 2 (code_step h asked k j c (le-leb 256 c p) refl refl) refl refl

  module _ (e : slot_with h.free h.numbers j ≡ None) where
    pub asks_not_open : (asked : Bool) {k : Kind} → c < 256 → Asks h asked k j c (Err NotOpen) h
    asks_not_open asked {k} q = does_by 3 (code_step h asked k j c (lt-leb 256 c q) (slot_none h j e) refl) refl refl

    pub does_end_not_open : Does h an_end j c (Err NotOpen) h
    does_end_not_open = does_by 3 (code_end h j c (slot_none h j e)) refl refl

    pub does_abandon_not_open : Does h an_abandon j c (Err NotOpen) h
    does_abandon_not_open = does_by 3 (code_abandon h j c (slot_none h j e) refl) refl refl

-- ---- an open that is granted

pub does_open_granted : {h : Held} {j c n taken : ℕ} {numbers leads sets ports : List ℕ} → h.free < 2 ^ 32 → h.next < 4294967296 → j < 3 → (ones h.free ≡ 0 → ⊥)
    → n ≡ crowd_of h.free h.ports j → n < 16
    → numbers ≡ put h.numbers (slot h.free) (h.next % 4294967296)
    → ports ≡ under h.ports j (slot h.free)
    → Opens (links_of h.free h.leads h.sets) (slot h.free % 32) taken leads sets
    → Does h an_open j c (Ok (record { 0 = h.next % 4294967296 })) (lent (h.next + 1) taken numbers leads sets ports)
unfolding moved opened_at number_at leads_at open_at has_past word_at port_at job_of
does_open_granted {h} {j} {c} {n} {taken} {leads = leads} {sets = sets} fits q p ne e few ns ps o =
    does_by 0
    (code_open h j c (lt-leb 4294967296 h.next q) (lt-leb 3 j p) (count_full h fits ∙ ne_eqb (ones h.free) 0 ne) (ap (leb 16) (sym e) ∙ lt-leb 16 n few))
    (λ i. record { code = 0; job = number i })
    (lent_same (add-one h.next) d.left_free (ns ∙ ap (put h.numbers (slot h.free)) number) d.left_leads d.left_sets ps
    ∙ ap (λ (o : Option ℕ). with_slot o (λ s. opened_at h j s) h) (sym (free_first h fits (some_free ne))))
  where
    number : h.next % 4294967296 ≡ h.next
    number = mod-eq_of_lt q

    d : Opens (links_of h.free h.leads h.sets) (slot h.free) taken leads sets
    d = subst (λ (s : ℕ). Opens (links_of h.free h.leads h.sets) s taken leads sets) (mod-eq_of_lt (free_inside fits ne)) o

-- ---- a step of a slot that is found

-- what it has looked up before it changes anything: the slots that come to lead to its own
pub record Looked (h : Held) (k : Kind) (j c x s from : ℕ) : Type 0 where
  pub cell_lt : c < 256
  pub cell_is : x ≡ c
  pub found : Found h j s
  pub touching : from ≡ mask_of 32 (touches h.free h.sets k (s % 32) x)

module _ {h : Held} {k : Kind} {j c x s from : ℕ} (l : Looked h k j c x s from) where
  touched_here : from ≡ mask_of 32 (touches h.free h.sets k s c)
  touched_here = l.touching ∙ ap₂ (λ (s c : ℕ). mask_of 32 (touches h.free h.sets k s c)) (mod-eq_of_lt l.found.inside) l.cell_is

  -- and whether they close a circle, where that is asked
  step_code : (asked : Bool) {b : Bool} → asked && circled h.free h.leads (s % 32) from ≡ b → code_asked h asked k j c ≡ cond b 7 0
  step_code asked e =
      let f = l.found in
      code_step h asked k j c (lt-leb 256 c l.cell_lt) f.first
      (ap (λ (b : Bool). asked && b) (circle_law h k s c refl touched_here refl f.inside f.was_open ∙ ap (λ (s : ℕ). circled h.free h.leads s from) (sym (mod-eq_of_lt f.inside))) ∙ e)

  pub asks_circle : (asked : Bool) → asked && circled h.free h.leads (s % 32) from ≡ true → Asks h asked k j c (Err Circle) h
  asks_circle asked e = does_by 7 (step_code asked e) refl refl

  pub asks_granted : (asked : Bool) {i : JobNumber} {leads sets : List ℕ} → asked && circled h.free h.leads (s % 32) from ≡ false
      → (leads ≡ gained h.leads (bit from) (2 ^ (s % 32))) × (sets ≡ marked_own h.sets (s % 32) k x) → i.0 ≡ j
      → Asks h asked k j c (Ok i) (lent h.next h.free h.numbers leads sets h.ports)
  unfolding moved stepped_at open_at leads_at touched cell_at word_at job_of
  asks_granted asked e p g =
      let m = mod-eq_of_lt l.found.inside in
      does_by 0 (step_code asked e) (λ i. record { code = 0; job = g i })
      (lent_same refl refl refl
      (p.0 ∙ gained_by h.leads (touches h.free h.sets k s c) (2 ^ (s % 32)) touched_here ∙ ap (λ (n : ℕ). gained h.leads (touches h.free h.sets k s c) (2 ^ n)) m)
      (p.1 ∙ ap₂ (λ (s c : ℕ). marked_own h.sets s k c) m l.cell_is) refl
      ∙ ap (λ (o : Option ℕ). with_slot o (λ s. stepped_at h k s c) h) (sym l.found.first))

-- a step that is tested is one of the first profile
pub asks_does : {h g : Held} {k : Kind} {j c : ℕ} {r : Result JobNumber Refusal} → Asks h true k j c r g → Does h (a_step k) j c r g
unfolding code_asked code_for
asks_does d = record { answered = d.answered; left = d.left }

-- ---- a slot that is left

-- no rule of an end or of an abandon looks at the next number or at the ports
pub ended_with : (next free : ℕ) (numbers leads sets ports : List ℕ) {s left : ℕ} {numbers' leads' sets' : List ℕ} → s < 32
    → rows_of left numbers' leads' sets' ≡ ended_at (rows_of free numbers leads sets) (s % 32)
    → lent next left numbers' leads' sets' ports ≡ ended_at (lent next free numbers leads sets ports) s
unfolding ended_at left_at number_at leads_at word_at open_at
ended_with next free numbers leads sets ports q e =
    let l = e ∙ ap (ended_at (rows_of free numbers leads sets)) (mod-eq_of_lt q) in
    λ i. lent next (l i).free (l i).numbers (l i).leads (l i).sets ports

abandoned_with : (next free : ℕ) (numbers leads sets ports : List ℕ) {s left : ℕ} {numbers' leads' sets' : List ℕ} → s < 32
    → rows_of left numbers' leads' sets' ≡ abandoned_at (rows_of free numbers leads sets) (s % 32)
    → lent next left numbers' leads' sets' ports ≡ abandoned_at (lent next free numbers leads sets ports) s
unfolding abandoned_at left_at number_at leads_at word_at open_at
abandoned_with next free numbers leads sets ports q e =
    let l = e ∙ ap (abandoned_at (rows_of free numbers leads sets)) (mod-eq_of_lt q) in
    λ i. lent next (l i).free (l i).numbers (l i).leads (l i).sets ports

-- what `has_altered` tells
abandon_code : {h : Held} {j s : ℕ} {b x : Bool} (c : ℕ) → Found h j s → b ≡ altered (sets_only h.sets) (s % 32) → b ≡ x → code_for h an_abandon j c ≡ cond x 4 0
unfolding altered word_at
abandon_code {h} {j} c f e y = code_abandon h j c f.first (ap (altered h) (sym (mod-eq_of_lt f.inside)) ∙ sym e ∙ y)

module _ {h : Held} {c s : ℕ} {x : JobNumber} (f : Found h x.0 s) where
  pub does_end_granted : {left : ℕ} {numbers leads sets : List ℕ}
      → rows_of left numbers leads sets ≡ ended_at (rows_of h.free h.numbers h.leads h.sets) (s % 32)
      → Does h an_end x.0 c (Ok x) (lent h.next left numbers leads sets h.ports)
  unfolding moved job_of
  does_end_granted l =
      does_by 0 (code_end h x.0 c f.first) refl
      (ended_with h.next h.free h.numbers h.leads h.sets h.ports f.inside l ∙ ap (λ (o : Option ℕ). with_slot o (λ s. ended_at h s) h) (sym f.first))

  module _ {b : Bool} (e : b ≡ altered (sets_only h.sets) (s % 32)) where
    pub does_abandon_written : b ≡ true → Does h an_abandon x.0 c (Err HasWritten) h
    does_abandon_written y = does_by 4 (abandon_code c f e y) refl refl

    pub does_abandon_granted : {left : ℕ} {numbers leads sets : List ℕ} → b ≡ false
        → rows_of left numbers leads sets ≡ abandoned_at (rows_of h.free h.numbers h.leads h.sets) (s % 32)
        → Does h an_abandon x.0 c (Ok x) (lent h.next left numbers leads sets h.ports)
    unfolding moved job_of
    does_abandon_granted y l =
        does_by 0 (abandon_code c f e y) refl
        (abandoned_with h.next h.free h.numbers h.leads h.sets h.ports f.inside l ∙ ap (λ (o : Option ℕ). with_slot o (λ s. abandoned_at h s) h) (sym f.first))

-- ---- a publish

-- no refusal has code 0
pub refused : (e : Refusal) → eqb (refusal_code e) 0 ≡ false
refused Malformed = refl
refused NoCell = refl
refused NotOpen = refl
refused HasWritten = refl
refused Full = refl
refused Spent = refl
refused Circle = refl
refused NoPort = refl
refused PortFull = refl

-- the write has left g₁
module _ {h g₁ : Held} {j c : ℕ} {r₁ : Result JobNumber Refusal} (d : Does h (a_step write) j c r₁ g₁) where
  abbrev publishing : Request
  publishing = record { kind = 6; byte1 = 0; cell = c; job = j }

  write_code : code_for h (a_step write) j c ≡ (numbered r₁).code
  write_code = sym (ap (λ (x : Reply). x.code) d.answered)

  -- with a refusal
  pub does_publish_refused : {e : Refusal} → r₁ ≡ Err e → Does h a_publish j c (Err e) g₁
  unfolding code_for tests job_of
  does_publish_refused {e} q =
      record {
        answered = ap numbered (sym q) ∙ d.answered;
        left = d.left ∙ ap (λ (b : Bool). cond b (moved h (a_step write) j c) h) no_grant ∙ sym (ap (λ (b : Bool). cond b (moved h a_publish j c) h) no_grant);
      }
    where
      no_grant : eqb (code_for h (a_step write) j c) 0 ≡ false
      no_grant = ap (λ (x : ℕ). eqb x 0) (write_code ∙ ap (λ (r : Result JobNumber Refusal). (numbered r).code) q) ∙ refused e

  -- with a grant, and the end of the job that it names has left g: by what `held` says of a publish, of its write and of its end
  pub does_publish_granted : {x : JobNumber} {r : Result JobNumber Refusal} {g : Held} → r₁ ≡ Ok x → Does g₁ an_end x.0 0 r g → Does h a_publish j c r g
  unfolding code_for code_of tests want after moved job_of
  does_publish_granted {x} {r} {g} q f₁ =
      does_by 0 granted (f.answered ∙ ap (reply_at g₁ an_end j) ends)
      (f.left ∙ ap (λ (x : Held). after x (as_kind 4 publishing)) d.left ∙ sym ((publish_held h publishing).both granted)
      ∙ ap (state_at h a_publish j c) granted)
    where
      granted : code_for h (a_step write) j c ≡ 0
      granted =
          write_code ∙ ap (λ (r : Result JobNumber Refusal). (numbered r).code) q

      named : x.0 ≡ j
      named =
          ap (λ (r : Result JobNumber Refusal). (numbered r).job) (sym q) ∙ ap (λ (x : Reply). x.job) d.answered
          ∙ ap (λ (n : ℕ). cond (eqb n 0) (job_of h.next (a_step write) j) 0) granted

      f : Does g₁ an_end j 0 r g
      f = subst (λ (j : ℕ). Does g₁ an_end j 0 r g) named f₁

      ends : code_for g₁ an_end j 0 ≡ 0
      ends = ap (λ (x : Held). code_of (facts x) (as_kind 4 publishing)) d.left ∙ (publish_held h publishing).end_next granted

-- ---- a request of eight bytes

steps_by : {h g : Held} {r : Result JobNumber Refusal} {q : Request} (n : ℕ) → code_of (facts h) q ≡ n → numbered r ≡ reply_at h (want q.kind) q.job n
    → g ≡ state_at h (want q.kind) q.job q.cell n → Steps h q r g
unfolding answer_to after reply_of facts
steps_by {h} {q = q} n e a l = record { answered = a ∙ ap (reply_at h (want q.kind) q.job) (sym e); left = l ∙ ap (state_at h (want q.kind) q.job q.cell) (sym e) }

-- the kind of request that asks for a deed
abbrev pub asked_by : Deed → Asked.Kind
asked_by Deeds.Read = Kinds.Read
asked_by Deeds.Write = Kinds.Write
asked_by Deeds.Add = Kinds.Add

step_want : (d : Deed) → want (kind_number (asked_by d)) ≡ a_step (kind_of d)
unfolding want
step_want Deeds.Read = refl
step_want Deeds.Write = refl
step_want Deeds.Add = refl

-- what is no well-formed request has byte 1 not 0 or a kind that none has
pub no_kind : {q : Request} → ((a : Fields.Request) → fields_of a ≡ q → ⊥) → q.byte1 ≡ 0 → (k : Asked.Kind) → q.kind ≡ kind_number k → ⊥
no_kind {q} f z k e =
    f (record { kind = k; cell = q.cell; job = record { 0 = q.job } }) (λ i. record { kind = sym e i; byte1 = sym z i; cell = q.cell; job = q.job })

malformed : (f : Facts) {q : Request} → ((a : Fields.Request) → fields_of a ≡ q → ⊥) → code_of f q ≡ 1
unfolding code_of want tests
malformed f {q} none_so =
    by_test (λ (b : Bool). first_of ((not b gives 1) ∷ tests f (want q.kind) q.job q.cell) ≡ 1) (eq_test q.byte1 0) (λ z. kinds (no_kind none_so z)) (λ n. refl)
  where
    kinds : ((k : Asked.Kind) → q.kind ≡ kind_number k → ⊥) → first_of (tests f (want q.kind) q.job q.cell) ≡ 1
    kinds n =
        let k = q.kind in
        rw (ne_eqb k 1 (n Kinds.Open), ne_eqb k 2 (n Kinds.Read), ne_eqb k 3 (n Kinds.Write), ne_eqb k 4 (n Kinds.End), ne_eqb k 5 (n Kinds.Abandon), ne_eqb k 6 (n Kinds.Publish), ne_eqb k 7 (n Kinds.Add)) refl

module _ {h : Held} {q : Request} where
  pub steps_malformed : ((a : Fields.Request) → fields_of a ≡ q → ⊥) → Steps h q (Err Malformed) h
  steps_malformed none_so = steps_by 1 (malformed (facts h) none_so) refl refl

  -- a well-formed request does what is done for its kind. Only a step and a publish look at the cell
  module _ (a : Fields.Request) {r : Result JobNumber Refusal} {g : Held} (e : fields_of a ≡ q) where
    steps_does : {w : Want} → want (kind_number a.kind) ≡ w → Does h w a.job.0 a.cell r g → Steps h q r g
    unfolding code_for code_of
    steps_does ew d =
        subst (λ (q : Request). Steps h q r g) e
        (let d' = subst (λ (w : Want). Does h w a.job.0 a.cell r g) (sym ew) d in steps_by _ refl d'.answered d'.left)

    pub steps_step : (d : Deed) → a.kind ≡ asked_by d → Does h (a_step (kind_of d)) a.job.0 a.cell r g → Steps h q r g
    steps_step d k = steps_does (ap (λ (k : Asked.Kind). want (kind_number k)) k ∙ step_want d)

    pub steps_publish : a.kind ≡ Kinds.Publish → Does h a_publish a.job.0 a.cell r g → Steps h q r g
    unfolding want
    steps_publish k = steps_does (ap (λ (k : Asked.Kind). want (kind_number k)) k)

    pub steps_open : a.kind ≡ Kinds.Open → Does h an_open a.job.0 0 r g → Steps h q r g
    unfolding want code_for tests job_of moved
    steps_open k d = steps_does (ap (λ (k : Asked.Kind). want (kind_number k)) k) (record { answered = d.answered; left = d.left })

    pub steps_end : a.kind ≡ Kinds.End → Does h an_end a.job.0 0 r g → Steps h q r g
    unfolding want code_for tests job_of moved
    steps_end k d = steps_does (ap (λ (k : Asked.Kind). want (kind_number k)) k) (record { answered = d.answered; left = d.left })

    pub steps_abandon : a.kind ≡ Kinds.Abandon → Does h an_abandon a.job.0 0 r g → Steps h q r g
    unfolding want code_for tests job_of moved
    steps_abandon k d = steps_does (ap (λ (k : Asked.Kind). want (kind_number k)) k) (record { answered = d.answered; left = d.left })
