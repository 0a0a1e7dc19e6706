-- What the proofs of the network's requests need beyond the contracts of the functions that they call: three stations in a list, the codes by what each test comes to, and a law for
-- each way out of a request, from the branches taken and what the callees ensure to what the contract says.
-- Assumes nothing.
use mathlib.Core.Path.{◌≡◌, refl, sym, ap, ap₂, ◌∙◌, subst}
use mathlib.Core.Logic.{⊎_elim}
use mathlib.Core.Bool.{Bool, true, false, not, ◌||◌, cond}
use mathlib.Core.Option.{Option, none, some}
use mathlib.Core.List.{List, [], ◌∷◌}
use Prim.Native.Nat.{ℕ, ◌+◌, ◌%◌, ◌^◌, ◌≤◌, ◌<◌}
use native.Mathlib.Nat.{mod-eq_of_lt}
use native.Mathlib.Omega.{arith}
use lib.Bits.{bit_or}
use lib.Dec.{T, lit<, leb, eqb}
use lib.ListN.{length, length-set, set, get_or}
use borrow.Author.Tests.{le-leb, lt-leb, eq-eqb, ne_eqb}
use Rattle.std.specs.Prelude.{Result, Ok, Err, None}
use Rattle.std.proofs.Common.{get_or-set_same, get_or-set_other}
use Rattle.graph.specs.Decide.{eq_test, answer}
use Rattle.marks.specs.Marks.{bit, mask_of, tab}
use Rattle.marks.specs.MarkLaws.{bit_zero}
use Rattle.marks.specs.MaskLaws.{masked, tab_of, get_d_set}
use Rattle.history.specs.Events.{Kind, write}
use Rattle.history.specs.Replies.{Reply, Want, a_step, an_end, an_abandon, a_publish, tests, job_of}
use Rattle.history_laws.specs.Granted.{proper_step}
use Rattle.held.specs.Held.{Held, is_some, at_slot, open_at, open_slots, number_at, leads_at, word_at, cell_at, slot_of, touched, chain_back, altered, stepped_at, left_at, takes_over}
use Rattle.rows.specs.Rows.{links_of, sets_only, Leaves, leads_to, touches, put, gained, marked_own}
use Rattle.rows.proofs.RowLaws.{gained_by, left_by}
use Rattle.slots.specs.Lent.{numbered}
use Rattle.slots.specs.Finds.{slot_with, circled}
use Rattle.slots.specs.declared.JobNumber.{JobNumber}
use Rattle.slots.specs.declared.Refusal.{Refusal}
use Rattle.slots.specs.declared.Refusal.TheVariants.{NoCell, NotOpen, HasWritten, Circle}
use Rattle.slots.proofs.CircleLaws.{circle_law}
use Rattle.slots.proofs.LowestLaws.{Found, slot_none}
use Rattle.slots.proofs.RequestLaws.{refused}
use Rattle.stations.specs.Stations.{Station, station_0, station_1, station_2, station_of, Part, Network, part, state, master, view, joined_leads, joined, asked, network_facts, all_moved, one_moved, network_stepped, network_left, network_ended, network_abandoned, with_slot, network_moved}
use Rattle.stations.proofs.StationLaws.{stepped_master}
use Rattle.network.specs.Nets.{number, number_of, at_station, part_at, net, net_of, joined_rows, any_altered, StepsAt, StepsThere, network_code, Does}
use Rattle.network.specs.Nets as nets
use Rattle.network.specs.declared.Station as Kept
use Rattle.network.specs.declared.Network as Whole

-- ---- three stations

-- what holds of any three holds of a list of that length
pub of_three : (P : List Kept.Station → Type 0) → ((a b c : Kept.Station) → P (a ∷ b ∷ c ∷ [])) → (l : List Kept.Station) → length l ≡ 3 → P l
of_three P f [] e = absurd (omega arith)
of_three P f (a ∷ []) e = absurd (omega arith)
of_three P f (a ∷ b ∷ []) e = absurd (omega arith)
of_three P f (a ∷ b ∷ c ∷ []) e = f a b c
of_three P f (a ∷ b ∷ c ∷ d ∷ l) e = absurd (omega arith)

-- other leads and sets at a station
abbrev pub put_part : Network → Station → List ℕ → List ℕ → Network
put_part n station_0 l w = record { next = n.next; free = n.free; numbers = n.numbers; ports = n.ports; part_0 = record { leads = l; sets = w }; part_1 = n.part_1; part_2 = n.part_2 }
put_part n station_1 l w = record { next = n.next; free = n.free; numbers = n.numbers; ports = n.ports; part_0 = n.part_0; part_1 = record { leads = l; sets = w }; part_2 = n.part_2 }
put_part n station_2 l w = record { next = n.next; free = n.free; numbers = n.numbers; ports = n.ports; part_0 = n.part_0; part_1 = n.part_1; part_2 = record { leads = l; sets = w } }

-- the station of a number is that part of the network, and one that is stored in its place is put there
kept_part : (u : Station) (next free : ℕ) (numbers ports : List ℕ) (l : List Kept.Station) → part_at l (number u) ≡ part (net next free numbers ports l) u
kept_part station_0 next free numbers ports l = refl
kept_part station_1 next free numbers ports l = refl
kept_part station_2 next free numbers ports l = refl

stored_part : (u : Station) (next free : ℕ) (numbers ports : List ℕ) (a : Kept.Station) (l : List Kept.Station) → length l ≡ 3
    → net next free numbers ports (set l (number u) a) ≡ put_part (net next free numbers ports l) u a.leads a.sets
stored_part station_0 next free numbers ports x = of_three (λ l. net next free numbers ports (set l 0 x) ≡ put_part (net next free numbers ports l) station_0 x.leads x.sets) (λ a b c. refl)
stored_part station_1 next free numbers ports x = of_three (λ l. net next free numbers ports (set l 1 x) ≡ put_part (net next free numbers ports l) station_1 x.leads x.sets) (λ a b c. refl)
stored_part station_2 next free numbers ports x = of_three (λ l. net next free numbers ports (set l 2 x) ≡ put_part (net next free numbers ports l) station_2 x.leads x.sets) (λ a b c. refl)

-- ---- a list that is filled from the start

-- the rows below i are those of a rule
pub record Filled (f : ℕ → ℕ) (i : ℕ) (l : List ℕ) : Type 0 where
  pub long : length l ≡ 32
  pub rows : (k : ℕ) → k < i → get_or l k 0 ≡ f k

pub filled_turn : {i x : ℕ} {l : List ℕ} (f : ℕ → ℕ) → Filled f i l → i < 32 → x ≡ f i → Filled f (i + 1) (set l i x)
filled_turn {i} {x} {l} f d q e =
    record {
      long = length-set l i x ∙ d.long;
      rows = λ k r.
          get_d_set l i x k (subst (λ (n : ℕ). i < n) (sym d.long) q)
          ∙ ⊎_elim (λ s. ap (λ (b : Bool). cond b x (get_or l k 0)) (eq-eqb k i s) ∙ e ∙ ap f (sym s))
          (λ s. let t : k ≡ i → ⊥ = s in ap (λ (b : Bool). cond b x (get_or l k 0)) (ne_eqb k i s) ∙ d.rows k (omega arith)) (answer (eq_test k i));
    }

pub filled_end : {i : ℕ} {l : List ℕ} (f : ℕ → ℕ) → Filled f i l → 32 ≤ i → l ≡ tab 32 f
filled_end f d q = tab_of d.long (λ p r. d.rows p (omega arith))

-- ---- replies and networks by a code

abbrev pub reply_at : Network → Want → ℕ → ℕ → Reply
reply_at n w j x = record { code = x; job = cond (eqb x 0) (job_of n.next w j) 0 }

abbrev pub net_at : Network → Want → ℕ → ℕ → ℕ → Network
net_at n w j c x = cond (eqb x 0) (network_moved n w j c) n

pub does_by : {n m : Network} {w : Want} {j c : ℕ} {r : Result JobNumber Refusal} (x : ℕ) → network_code n w j c ≡ x → numbered r ≡ reply_at n w j x → m ≡ net_at n w j c x → Does n w j c r m
does_by {n} {w = w} {j = j} {c = c} x e a l = record { answered = a ∙ ap (reply_at n w j) (sym e); left = l ∙ ap (net_at n w j c) (sym e) }

-- ---- the codes, by what the tests come to

module _ (n : Network) where
  code_step : {a b : Bool} {o : Option ℕ} (k : Kind) (j c : ℕ) → leb 256 c ≡ a → slot_of (master n) j ≡ o → at_slot o (λ s. chain_back (asked n c) k s c) ≡ b
      → network_code n (a_step k) j c ≡ cond a 2 (cond (not (is_some o)) 3 (cond b 7 0))
  unfolding network_code tests network_facts
  code_step {a} {b} {o} k j c p q r =
      ap₂ (λ (a : Bool) (o : Option ℕ). cond a 2 (cond (not (is_some o)) 3 (cond (at_slot o (λ s. chain_back (asked n c) k s c)) 7 0))) p q
      ∙ ap (λ (b : Bool). cond a 2 (cond (not (is_some o)) 3 (cond b 7 0))) r

  code_end : {o : Option ℕ} (j c : ℕ) → slot_of (master n) j ≡ o → network_code n an_end j c ≡ cond (not (is_some o)) 3 0
  unfolding network_code tests network_facts
  code_end j c = ap (λ (o : Option ℕ). cond (not (is_some o)) 3 0)

  -- some station knows that slot s has altered a cell
  abbrev knows : ℕ → Bool
  knows s = altered (view n station_0) s || (altered (view n station_1) s || altered (view n station_2) s)

  code_abandon : {b : Bool} {o : Option ℕ} (j c : ℕ) → slot_of (master n) j ≡ o → at_slot o knows ≡ b → network_code n an_abandon j c ≡ cond (not (is_some o)) 3 (cond b 4 0)
  unfolding network_code tests network_facts
  code_abandon {b} {o} j c q r =
      ap (λ (o : Option ℕ). cond (not (is_some o)) 3 (cond (at_slot o knows) 4 0)) q ∙ ap (λ (b : Bool). cond (not (is_some o)) 3 (cond b 4 0)) r

-- ---- refusals that need no slot

module _ {n : Network} {j c : ℕ} where
  pub does_no_cell : {k : Kind} → (c < 256 → ⊥) → Does n (a_step k) j c (Err NoCell) n
  does_no_cell {k} q = let p : 256 ≤ c = omega arith in does_by 2 (code_step n k j c (le-leb 256 c p) refl refl) refl refl

  module _ (e : slot_with n.free n.numbers j ≡ None) where
    pub does_step_not_open : {k : Kind} → c < 256 → Does n (a_step k) j c (Err NotOpen) n
    does_step_not_open {k} q = does_by 3 (code_step n k j c (lt-leb 256 c q) (slot_none (master n) j e) refl) refl refl

    pub does_end_not_open : Does n an_end j c (Err NotOpen) n
    does_end_not_open = does_by 3 (code_end n j c (slot_none (master n) j e)) refl refl

    pub does_abandon_not_open : Does n an_abandon j c (Err NotOpen) n
    does_abandon_not_open = does_by 3 (code_abandon n j c (slot_none (master n) j e) refl) refl refl

-- ---- a step at a station

module _ (free : ℕ) (joined sets : List ℕ) (k : Kind) (s c : ℕ) {from : ℕ} {closed : Bool} (inside : s < 32) (was_open : bit free s ≡ false)
    (t : from ≡ mask_of 32 (touches free sets k (s % 32) c)) (e : closed ≡ circled free joined (s % 32) from) where
  here : s % 32 ≡ s
  here = mod-eq_of_lt inside

  touched_here : from ≡ mask_of 32 (touches free sets k s c)
  touched_here = t ∙ ap (λ (s : ℕ). mask_of 32 (touches free sets k s c)) here

  closed_here : closed ≡ chain_back (links_of free joined sets) k s c
  closed_here = e ∙ ap (λ (s : ℕ). circled free joined s from) here ∙ sym (circle_law (links_of free joined sets) k s c refl touched_here refl inside was_open)

  pub at_circle : {leads : List ℕ} → closed ≡ true → StepsAt free joined leads sets k s c true leads sets
  at_circle y = record { told = sym y ∙ closed_here; left = refl }

  pub at_done : {leads leads' sets' : List ℕ} → closed ≡ false → (leads' ≡ gained leads (bit from) (2 ^ (s % 32))) × (sets' ≡ marked_own sets (s % 32) k c)
      → StepsAt free joined leads sets k s c false leads' sets'
  unfolding stepped_at open_at leads_at touched cell_at word_at
  at_done {leads} y p =
      let ls = p.0 ∙ gained_by leads (touches free sets k s c) (2 ^ (s % 32)) touched_here ∙ ap (λ (x : ℕ). gained leads (touches free sets k s c) (2 ^ x)) here in
      let ss = p.1 ∙ ap (λ (s : ℕ). marked_own sets s k c) here in
      record { told = sym y ∙ closed_here; left = λ i. links_of free (ls i) (ss i) }

-- ---- a step at the station of its cell

pub number_0 : {c : ℕ} → c ≤ 84 → 0 ≡ number_of c
unfolding station_of
number_0 {c} q = ap (λ (b : Bool). number (cond b station_0 (cond (leb c 169) station_1 station_2))) (sym (le-leb c 84 q))

pub number_1 : {c : ℕ} → 84 < c → c ≤ 169 → 1 ≡ number_of c
unfolding station_of
number_1 {c} p q = ap₂ (λ (a b : Bool). number (cond a station_0 (cond b station_1 station_2))) (sym (lt-leb c 84 p)) (sym (le-leb c 169 q))

pub number_2 : {c : ℕ} → 169 < c → 2 ≡ number_of c
unfolding station_of
number_2 {c} q = ap₂ (λ (a b : Bool). number (cond a station_0 (cond b station_1 station_2))) (sym (lt-leb c 84 (omega arith))) (sym (lt-leb c 169 q))

put_back : (n : Network) (u : Station) → put_part n u (part n u).leads (part n u).sets ≡ n
put_back n station_0 = refl
put_back n station_1 = refl
put_back n station_2 = refl

-- no rule of a step looks at the next number, the numbers or the ports
chain_alone : (n : Network) (leads sets : List ℕ) (k : Kind) (s c : ℕ) → chain_back (links_of n.free leads sets) k s c ≡ chain_back (state n leads sets) k s c
unfolding chain_back open_slots open_at leads_at touched cell_at word_at
chain_alone n leads sets k s c = refl

module _ (n : Network) (k : Kind) (s c : ℕ) where
  abbrev stepped_there : Station → Held
  stepped_there u = stepped_at (links_of n.free (part n u).leads (part n u).sets) k s c

  put_stepped : (u : Station) → put_part n u (stepped_there u).leads (stepped_there u).sets ≡ one_moved (λ h. stepped_at h k s c) u n
  unfolding stepped_at open_at leads_at touched cell_at word_at
  put_stepped station_0 = refl
  put_stepped station_1 = refl
  put_stepped station_2 = refl

  at_its : (u : Station) {joined leads sets : List ℕ} {closed : Bool} → station_of c ≡ u → joined ≡ joined_rows n.part_0.leads n.part_1.leads n.part_2.leads
      → StepsAt n.free joined (part n u).leads (part n u).sets k s c closed leads sets → StepsThere n k s c closed (put_part n u leads sets)
  unfolding network_stepped asked joined_leads leads_at
  at_its u {joined} {leads} {sets} {closed} e j d =
      record {
        told =
            d.told ∙ ap (λ (l : List ℕ). chain_back (links_of n.free l (part n u).sets) k s c) j
            ∙ chain_alone n (joined_rows n.part_0.leads n.part_1.leads n.part_2.leads) (part n u).sets k s c
            ∙ ap (λ (v : Station). chain_back (state n (joined_rows n.part_0.leads n.part_1.leads n.part_2.leads) (part n v).sets) k s c) (sym e);
        left = (λ i. put_part n u (d.left i).leads (d.left i).sets) ∙ by_closed closed;
      }
    where
      by_closed : (b : Bool) → put_part n u (cond b (links_of n.free (part n u).leads (part n u).sets) (stepped_there u)).leads (cond b (links_of n.free (part n u).leads (part n u).sets) (stepped_there u)).sets ≡ cond b n (one_moved (λ h. stepped_at h k s c) (station_of c) n)
      by_closed true = put_back n u
      by_closed false = put_stepped u ∙ ap (λ (v : Station). one_moved (λ h. stepped_at h k s c) v n) (sym e)

-- where the station is found by its number
pub there : (n : Whole.Network) (k : Kind) (s c : ℕ) {i : ℕ} {t : Kept.Station} {joined : List ℕ} {closed : Bool} → length n.stations ≡ 3 → i ≡ number_of c
    → joined ≡ joined_rows (nets.leads_at n.stations 0) (nets.leads_at n.stations 1) (nets.leads_at n.stations 2)
    → StepsAt n.free joined (nets.leads_at n.stations i) (nets.sets_at n.stations i) k s c closed t.leads t.sets
    → StepsThere (net_of n) k s c closed (net n.next n.free n.numbers n.ports (set n.stations i t))
there n k s c {i} {t} {joined} {closed} long e j a =
    let u = station_of c in
    let at_it = subst (λ (x : Part). StepsAt n.free joined x.leads x.sets k s c closed t.leads t.sets)
    (ap (part_at n.stations) e ∙ kept_part u n.next n.free n.numbers n.ports n.stations) a in
    let stored = ap (λ (i : ℕ). net n.next n.free n.numbers n.ports (set n.stations i t)) e ∙ stored_part u n.next n.free n.numbers n.ports t n.stations long in
    subst (λ (m : Network). StepsThere (net_of n) k s c closed m) (sym stored) (at_its (net_of n) k s c u refl j at_it)

-- ---- a step of a slot that is found

module _ {n m : Network} {k : Kind} {c x s : ℕ} {closed : Bool} (b : JobNumber) (f : Found (master n) b.0 s) (q : c < 256) (e : x ≡ c) (d : StepsThere n k s x closed m) where
  on_cell : StepsThere n k s c closed m
  on_cell = subst (λ (x : ℕ). StepsThere n k s x closed m) e d

  step_code : {y : Bool} → closed ≡ y → network_code n (a_step k) b.0 c ≡ cond y 7 0
  step_code e = code_step n k b.0 c (lt-leb 256 c q) f.first (sym on_cell.told ∙ e)

  step_left : {y : Bool} → closed ≡ y → m ≡ cond y n (network_stepped n k s c)
  step_left e = on_cell.left ∙ ap (λ (y : Bool). cond y n (network_stepped n k s c)) e

  pub does_circle : closed ≡ true → Does n (a_step k) b.0 c (Err Circle) m
  does_circle e = does_by 7 (step_code e) refl (step_left e)

  pub does_step : closed ≡ false → Does n (a_step k) b.0 c (Ok b) m
  unfolding network_moved job_of
  does_step e = does_by 0 (step_code e) refl (step_left e ∙ ap (λ (o : Option ℕ). with_slot o (λ s. network_stepped n k s c) n) (sym f.first))

-- ---- a slot that is left

-- the stations below i are left, and the others are as they were
pub record Leaving (free : ℕ) (t : ℕ → Bool) (s : ℕ) (old : List Kept.Station) (i : ℕ) (now : List Kept.Station) : Type 0 where
  pub long : length now ≡ 3
  pub done : (k : ℕ) → k < i → Leaves (links_of free (nets.leads_at old k) (nets.sets_at old k)) t s (nets.leads_at now k) (nets.sets_at now k)
  pub rest : (k : ℕ) → i ≤ k → at_station now k ≡ at_station old k

pub leaving_start : {free s : ℕ} {t : ℕ → Bool} {old : List Kept.Station} → length old ≡ 3 → Leaving free t s old 0 old
leaving_start e = record { long = e; done = λ k q. absurd (omega arith); rest = λ k q. refl }

pub leaving_turn : {free s i : ℕ} {t : ℕ → Bool} {old now : List Kept.Station} {x : Kept.Station} → Leaving free t s old i now → i < 3
    → Leaves (links_of free (nets.leads_at now i) (nets.sets_at now i)) t s x.leads x.sets → Leaving free t s old (i + 1) (set now i x)
leaving_turn {free} {s} {i} {t} {old} {now} {x} r q v =
    record {
      long = length-set now i x ∙ r.long;
      done = λ k p. ⊎_elim (λ e. subst (λ (k : ℕ). Left k (at_station (set now i x) k)) (sym e) here) (λ ne. let f : k ≡ i → ⊥ = ne in before k f (omega arith)) (answer (eq_test k i));
      rest = λ k p. let f : k ≡ i → ⊥ = λ e. omega arith in get_or-set_other now i k x _ f ∙ r.rest k (omega arith);
    }
  where
    Left : ℕ → Kept.Station → Type 0
    Left k y = Leaves (links_of free (nets.leads_at old k) (nets.sets_at old k)) t s y.leads y.sets

    here : Left i (at_station (set now i x) i)
    here =
        subst (λ (y : Kept.Station). Left i y) (sym (get_or-set_same now i x _ (omega (arith, r.long))))
        (subst (λ (y : Kept.Station). Leaves (links_of free y.leads y.sets) t s x.leads x.sets) (r.rest i (omega arith)) v)

    before : (k : ℕ) → (k ≡ i → ⊥) → k < i → Left k (at_station (set now i x) k)
    before k f p = subst (λ (y : Kept.Station). Left k y) (sym (get_or-set_other now i k x _ f)) (r.done k p)

pub left_all : (next free : ℕ) (numbers ports : List ℕ) (old : List Kept.Station) (from s : ℕ) {left i : ℕ} {numbers' : List ℕ} {now : List Kept.Station}
    → Leaving free (bit from) s old i now → 3 ≤ i → (left ≡ bit_or free (2 ^ s)) × (numbers' ≡ put numbers s 0)
    → net next left numbers' ports now ≡ network_left (net next free numbers ports old) (bit from) s
unfolding network_left left_at number_at leads_at word_at open_at
left_all next free numbers ports old from s {left} {i} {numbers'} {now} r q v =
    let a = r.done 0 (omega arith) in
    let b = r.done 1 (omega arith) in
    let d = r.done 2 (omega arith) in
    λ j. record {
      next = next;
      free = v.0 j;
      numbers = v.1 j;
      ports = ports;
      part_0 = record { leads = a.left_leads j; sets = a.left_sets j };
      part_1 = record { leads = b.left_leads j; sets = b.left_sets j };
      part_2 = record { leads = d.left_leads j; sets = d.left_sets j };
    }

left_net : (n : Network) (t : ℕ → Bool) (s : ℕ) {from : ℕ} → from ≡ mask_of 32 t → network_left n (bit from) s ≡ network_left n t s
unfolding network_left
left_net n t s e = λ i. all_moved (λ h. left_by h t s e i) n

module _ (n : Network) {m : Network} {s : ℕ} (from : ℕ) (b : JobNumber) (f : Found (master n) b.0 s) (l : m ≡ network_left n (bit from) (s % 32)) where
  left_here : m ≡ network_left n (bit from) s
  left_here = l ∙ ap (network_left n (bit from)) (mod-eq_of_lt f.inside)

  pub does_end : {c : ℕ} {rows : List ℕ} → rows ≡ joined_rows n.part_0.leads n.part_1.leads n.part_2.leads → from ≡ mask_of 32 (leads_to n.free rows (s % 32)) → Does n an_end b.0 c (Ok b) m
  unfolding network_moved network_ended job_of joined joined_leads leads_at open_at
  does_end {c} j e =
      does_by 0 (code_end n b.0 c f.first) refl
      (left_here ∙ left_net n (takes_over (joined n) s) s (e ∙ ap₂ (λ (l : List ℕ) (s : ℕ). mask_of 32 (leads_to n.free l s)) j (mod-eq_of_lt f.inside))
      ∙ ap (λ (o : Option ℕ). with_slot o (λ s. network_ended n s) n) (sym f.first))

-- what the three stations know of the slot's altered cells
abbrev some_altered : Network → ℕ → Bool
some_altered n s = altered (sets_only n.part_0.sets) s || (altered (sets_only n.part_1.sets) s || altered (sets_only n.part_2.sets) s)

module _ (n : Network) (c : ℕ) {s : ℕ} {x : Bool} (b : JobNumber) (f : Found (master n) b.0 s) (e : x ≡ some_altered n (s % 32)) where
  abandon_code : {y : Bool} → x ≡ y → network_code n an_abandon b.0 c ≡ cond y 4 0
  unfolding altered word_at
  abandon_code y = code_abandon n b.0 c f.first (ap (knows n) (sym (mod-eq_of_lt f.inside)) ∙ sym e ∙ y)

  pub does_altered : x ≡ true → Does n an_abandon b.0 c (Err HasWritten) n
  does_altered y = does_by 4 (abandon_code y) refl refl

  pub does_abandon : {m : Network} → x ≡ false → m ≡ network_left n (bit 0) (s % 32) → Does n an_abandon b.0 c (Ok b) m
  unfolding network_moved network_abandoned job_of
  does_abandon y l =
      does_by 0 (abandon_code y) refl
      (left_here n 0 b f l ∙ left_net n (λ i. false) s (masked 32 (λ i. false) (lit< tt) (λ k q. bit_zero k))
      ∙ ap (λ (o : Option ℕ). with_slot o (λ s. network_abandoned n s) n) (sym f.first))

-- ---- a publish

the_slot : (o : Option ℕ) → T (is_some o) → (s : ℕ) × (o ≡ some s)
the_slot none t = absurd t
the_slot (some s) t = (s, refl)

-- the write has left m₁
module _ {n m₁ : Network} {j c : ℕ} {r₁ : Result JobNumber Refusal} (d : Does n (a_step write) j c r₁ m₁) where
  write_code : network_code n (a_step write) j c ≡ (numbered r₁).code
  write_code = sym (ap (λ (y : Reply). y.code) d.answered)

  -- with a refusal
  pub does_publish_refused : {e : Refusal} → r₁ ≡ Err e → Does n a_publish j c (Err e) m₁
  unfolding network_code tests job_of
  does_publish_refused {e} q =
      record {
        answered = ap numbered (sym q) ∙ d.answered;
        left = d.left ∙ ap (λ (b : Bool). cond b (network_moved n (a_step write) j c) n) no_grant ∙ sym (ap (λ (b : Bool). cond b (network_moved n a_publish j c) n) no_grant);
      }
    where
      no_grant : eqb (network_code n (a_step write) j c) 0 ≡ false
      no_grant = ap (λ (y : ℕ). eqb y 0) (write_code ∙ ap (λ (r : Result JobNumber Refusal). (numbered r).code) q) ∙ refused e

  -- with a grant, and the end of the job that it names has left m
  pub does_publish : {x : JobNumber} {r : Result JobNumber Refusal} {m : Network} → r₁ ≡ Ok x → Does m₁ an_end x.0 0 r m → Does n a_publish j c r m
  unfolding network_moved job_of
  does_publish {x} {r} {m} q f₁ =
      does_by 0 publish_code (f.answered ∙ ap (reply_at m₁ an_end j) ends)
      (f.left ∙ ap (net_at m₁ an_end j 0) ends ∙ ap (λ (o : Option ℕ). with_slot o (λ s. network_ended m₁ s) m₁) still ∙ ap (λ (y : Network). network_ended y found.0) written
      ∙ ap (λ (o : Option ℕ). with_slot o (λ s. network_ended (network_stepped n write s c) s) n) (sym found.1))
    where
      granted : network_code n (a_step write) j c ≡ 0
      granted = write_code ∙ ap (λ (r : Result JobNumber Refusal). (numbered r).code) q

      named : x.0 ≡ j
      named =
          ap (λ (r : Result JobNumber Refusal). (numbered r).job) (sym q) ∙ ap (λ (y : Reply). y.job) d.answered
          ∙ ap (λ (y : ℕ). cond (eqb y 0) (job_of n.next (a_step write) j) 0) granted

      f : Does m₁ an_end j 0 r m
      f = subst (λ (j : ℕ). Does m₁ an_end j 0 r m) named f₁

      publish_code : network_code n a_publish j c ≡ 0
      publish_code = unfold network_code tests in granted

      found : (s : ℕ) × (slot_of (master n) j ≡ some s)
      found = unfold network_code tests network_facts in the_slot (slot_of (master n) j) (proper_step (network_facts n) write j c granted).0

      written : m₁ ≡ network_stepped n write found.0 c
      written = d.left ∙ ap (net_at n (a_step write) j c) granted ∙ ap (λ (o : Option ℕ). with_slot o (λ s. network_stepped n write s c) n) found.1

      still : slot_of (master m₁) j ≡ some found.0
      still = ap (λ (y : Network). slot_of (master y) j) written ∙ ap (λ (h : Held). slot_of h j) (stepped_master n write found.0 c) ∙ found.1

      ends : network_code m₁ an_end j 0 ≡ 0
      ends = code_end m₁ j 0 still
