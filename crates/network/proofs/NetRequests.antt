-- An open at every station, and a request of eight bytes: a law for each kind, from what the function called there ensures to what the contract says.
-- Assumes nothing.
use mathlib.Core.Path.{◌≡◌, refl, sym, ap, ◌∙◌, subst}
use mathlib.Core.Bool.{Bool, false, not, cond}
use mathlib.Core.Option.{Option, some}
use mathlib.Core.List.{List, ◌∷◌}
use Prim.Native.Nat.{ℕ, ◌%◌, ◌^◌, ◌<◌}
use native.Mathlib.Nat.{mod-eq_of_lt}
use lib.Count.{ones}
use lib.Dec.{T, leb, eqb}
use lib.ListN.{length, set}
use borrow.Author.Tests.{eq-eqb, ne_eqb}
use Rattle.std.specs.Prelude.{Result, Ok, Err}
use Rattle.graph.specs.Decide.{eq_test, by_test}
use Rattle.history.specs.Replies.{Request, Reply, Want, Facts, ◌gives◌, first_of, an_open, a_step, an_end, an_abandon, a_publish, want, tests, code_of, job_of, reply_of}
use Rattle.history_laws.specs.Granted.{passed}
use Rattle.held.specs.Held.{Held, open_at, open_slots, number_at, leads_at, port_at, word_at, free_slot, facts, has_past, opened_at, moved}
use Rattle.rows.specs.Rows.{links_of, kind_of, Opens}
use Rattle.rows.specs.declared.Deed.{Deed}
use Rattle.rows.specs.declared.Deed.TheVariants as Deeds
use Rattle.slots.specs.Lent.{lent, refusal_code, numbered, code_for}
use Rattle.slots.specs.Requests.{kind_number, fields_of}
use Rattle.slots.specs.declared.JobNumber.{JobNumber}
use Rattle.slots.specs.declared.Kind as Asked
use Rattle.slots.specs.declared.Kind.TheVariants as Kinds
use Rattle.slots.specs.declared.Refusal.{Refusal}
use Rattle.slots.specs.declared.Refusal.TheVariants.{Malformed}
use Rattle.slots.specs.declared.Request as Fields
use Rattle.slots.proofs.LowestLaws.{slot}
use Rattle.slots.proofs.RequestLaws.{free_first, free_inside, count_full, refused, asked_by, no_kind}
use Rattle.stations.specs.Stations.{station_0, Part, Network, master, view, network_facts, network_opened, with_slot, network_moved, network_answer, network_after}
use Rattle.network.specs.Nets.{at_station, net, net_of, network_code, Does, Steps}
use Rattle.network.specs.Nets as nets
use Rattle.network.specs.declared.Station as Kept
use Rattle.network.specs.declared.Network as Whole
use Rattle.network.proofs.NetLaws.{of_three, reply_at, net_at, does_by}

-- ---- an open

-- the parts one by one
abbrev parts : ℕ → ℕ → List ℕ → List ℕ → List ℕ → List ℕ → List ℕ → List ℕ → List ℕ → List ℕ → Network
parts next free numbers ports leads0 sets0 leads1 sets1 leads2 sets2 =
    record {
      next = next;
      free = free;
      numbers = numbers;
      ports = ports;
      part_0 = record { leads = leads0; sets = sets0 };
      part_1 = record { leads = leads1; sets = sets1 };
      part_2 = record { leads = leads2; sets = sets2 };
    }

-- the master's and station 0's from a state, the others from a network
abbrev over : Network → Held → Network
over n h = parts h.next h.free h.numbers h.ports h.leads h.sets n.part_1.leads n.part_1.sets n.part_2.leads n.part_2.sets

-- what the master and station 0 did
module _ (n : Network) {j : ℕ} {r : Result JobNumber Refusal} {g : Held} (d : Rattle.slots.specs.Lent.Does (view n station_0) an_open j 0 r g) where
  open_code : code_for (view n station_0) an_open j 0 ≡ network_code n an_open j 0
  unfolding code_for tests facts network_code network_facts open_slots open_at port_at
  open_code = refl

  slots_code : code_for (view n station_0) an_open j 0 ≡ (numbered r).code
  slots_code = sym (ap (λ (y : Reply). y.code) d.answered)

  abbrev chosen : Bool → Held
  chosen b = cond b (moved (view n station_0) an_open j 0) (view n station_0)

  over_refused : {e : Refusal} → r ≡ Err e → Does n an_open j 0 (Err e) (over n g)
  over_refused {e} q =
      record {
        answered = ap numbered (sym q) ∙ d.answered ∙ ap (reply_at n an_open j) open_code;
        left =
            ap (over n) (d.left ∙ ap chosen no_grant)
            ∙ ap (λ (b : Bool). cond b (network_moved n an_open j 0) n) (sym (ap (λ (y : ℕ). eqb y 0) (sym open_code) ∙ no_grant));
      }
    where
      no_grant : eqb (code_for (view n station_0) an_open j 0) 0 ≡ false
      no_grant = ap (λ (y : ℕ). eqb y 0) (slots_code ∙ ap (λ (r : Result JobNumber Refusal). (numbered r).code) q) ∙ refused e

  module _ {x : JobNumber} (z : r ≡ Ok x) (fits : n.free < 2 ^ 32) where
    granted : code_for (view n station_0) an_open j 0 ≡ 0
    granted = slots_code ∙ ap (λ (r : Result JobNumber Refusal). (numbered r).code) z

    some_free : ones n.free ≡ 0 → ⊥
    unfolding code_for tests facts
    some_free w =
        (passed (leb 32 (length (open_slots (view n station_0)))) 4 _ (passed (leb 3 j) 7 _ (passed (leb 4294967296 n.next) 5 _ granted).1).1).0
        (subst T (sym (count_full (view n station_0) fits ∙ eq-eqb (ones n.free) 0 w)) tt)

    not_none : n.free ≡ 0 → ⊥
    unfolding ones
    not_none w = some_free (ap ones w)

    first_0 : free_slot (view n station_0) ≡ some (slot n.free)
    first_0 = free_first (view n station_0) fits not_none

    first_master : free_slot (master n) ≡ some (slot n.free)
    first_master = free_first (master n) fits not_none

    opened_0 : g ≡ opened_at (view n station_0) j (slot n.free)
    unfolding moved
    opened_0 = d.left ∙ ap (λ (y : ℕ). chosen (eqb y 0)) granted ∙ ap (λ (o : Option ℕ). Rattle.held.specs.Held.with_slot o (λ s. opened_at (view n station_0) j s) (view n station_0)) first_0

    over_opened : {taken1 taken2 : ℕ} {leads1 sets1 leads2 sets2 : List ℕ}
        → Opens (links_of n.free n.part_1.leads n.part_1.sets) (slot n.free % 32) taken1 leads1 sets1
        → Opens (links_of n.free n.part_2.leads n.part_2.sets) (slot n.free % 32) taken2 leads2 sets2
        → Does n an_open j 0 (Ok x) (parts g.next g.free g.numbers g.ports g.leads g.sets leads1 sets1 leads2 sets2)
    unfolding network_moved network_opened opened_at number_at leads_at open_at has_past word_at port_at
    over_opened {taken1} {taken2} {leads1} {sets1} {leads2} {sets2} p q =
        let m = mod-eq_of_lt (free_inside fits some_free) in
        let a = subst (λ (s : ℕ). Opens (links_of n.free n.part_1.leads n.part_1.sets) s taken1 leads1 sets1) m p in
        let b = subst (λ (s : ℕ). Opens (links_of n.free n.part_2.leads n.part_2.sets) s taken2 leads2 sets2) m q in
        let h = opened_0 in
        does_by 0 (sym open_code ∙ granted) (ap numbered (sym z) ∙ d.answered ∙ ap (reply_at n an_open j) granted)
        ((λ i. parts (h i).next (h i).free (h i).numbers (h i).ports (h i).leads (h i).sets (a.left_leads i) (a.left_sets i) (b.left_leads i) (b.left_sets i))
        ∙ ap (λ (o : Option ℕ). with_slot o (λ s. network_opened n j s) n) (sym first_master))

-- the same of stations in a list
module _ (n : Whole.Network) (long : length n.stations ≡ 3) {j : ℕ} {r : Result JobNumber Refusal} {next free : ℕ} {numbers ports : List ℕ} {a : Kept.Station}
    (d : Rattle.slots.specs.Lent.Does (view (net_of n) station_0) an_open j 0 r (lent next free numbers a.leads a.sets ports)) where
  pub does_open_refused : {e : Refusal} → r ≡ Err e → Does (net_of n) an_open j 0 (Err e) (net next free numbers ports (set n.stations 0 a))
  does_open_refused {e} q =
      subst (λ (m : Network). Does (net_of n) an_open j 0 (Err e) m)
      (of_three (λ l. parts next free numbers ports a.leads a.sets (nets.leads_at l 1) (nets.sets_at l 1) (nets.leads_at l 2) (nets.sets_at l 2) ≡ net next free numbers ports (set l 0 a)) (λ x y z. refl) n.stations long)
      (over_refused (net_of n) d q)

  pub does_open : {x : JobNumber} {taken1 taken2 : ℕ} {b c : Kept.Station} → r ≡ Ok x → n.free < 2 ^ 32
      → Opens (links_of n.free (nets.leads_at (set n.stations 0 a) 1) (nets.sets_at (set n.stations 0 a) 1)) (slot n.free % 32) taken1 b.leads b.sets
      → Opens (links_of n.free (nets.leads_at (set (set n.stations 0 a) 1 b) 2) (nets.sets_at (set (set n.stations 0 a) 1 b) 2)) (slot n.free % 32) taken2 c.leads c.sets
      → Does (net_of n) an_open j 0 (Ok x) (net next free numbers ports (set (set (set n.stations 0 a) 1 b) 2 c))
  does_open {x} {taken1} {taken2} {b} {c} q fits o p =
      subst (λ (m : Network). Does (net_of n) an_open j 0 (Ok x) m)
      (of_three (λ l. parts next free numbers ports a.leads a.sets b.leads b.sets c.leads c.sets ≡ net next free numbers ports (set (set (set l 0 a) 1 b) 2 c)) (λ x y z. refl) n.stations long)
      (over_opened (net_of n) d q fits
      (subst (λ (y : Part). Opens (links_of n.free y.leads y.sets) (slot n.free % 32) taken1 b.leads b.sets) (of_three (λ l. nets.part_at (set l 0 a) 1 ≡ nets.part_at l 1) (λ x y z. refl) n.stations long) o)
      (subst (λ (y : Part). Opens (links_of n.free y.leads y.sets) (slot n.free % 32) taken2 c.leads c.sets) (of_three (λ l. nets.part_at (set (set l 0 a) 1 b) 2 ≡ nets.part_at l 2) (λ x y z. refl) n.stations long) p))

-- ---- a request of eight bytes

steps_by : {n m : Network} {r : Result JobNumber Refusal} {q : Request} (x : ℕ) → code_of (network_facts n) q ≡ x → numbered r ≡ reply_at n (want q.kind) q.job x
    → m ≡ net_at n (want q.kind) q.job q.cell x → Steps n q r m
unfolding network_answer network_after reply_of network_facts
steps_by {n} {q = q} x e a l =
    record { answered = a ∙ ap (reply_at n (want q.kind) q.job) (sym e); left = l ∙ ap (net_at n (want q.kind) q.job q.cell) (sym e) }

step_want : (d : Deed) → want (kind_number (asked_by d)) ≡ a_step (kind_of d)
unfolding want
step_want Deeds.Read = refl
step_want Deeds.Write = refl
step_want Deeds.Add = refl

malformed : (f : Facts) {q : Request} → ((a : Fields.Request) → fields_of a ≡ q → ⊥) → code_of f q ≡ 1
unfolding code_of want tests
malformed f {q} none_so =
    by_test (λ (b : Bool). first_of ((not b gives 1) ∷ tests f (want q.kind) q.job q.cell) ≡ 1) (eq_test q.byte1 0) (λ z. kinds (no_kind none_so z)) (λ n. refl)
  where
    kinds : ((k : Asked.Kind) → q.kind ≡ kind_number k → ⊥) → first_of (tests f (want q.kind) q.job q.cell) ≡ 1
    kinds n =
        let k = q.kind in
        rw (ne_eqb k 1 (n Kinds.Open), ne_eqb k 2 (n Kinds.Read), ne_eqb k 3 (n Kinds.Write), ne_eqb k 4 (n Kinds.End), ne_eqb k 5 (n Kinds.Abandon), ne_eqb k 6 (n Kinds.Publish), ne_eqb k 7 (n Kinds.Add)) refl

module _ {n : Network} {q : Request} where
  pub steps_malformed : ((a : Fields.Request) → fields_of a ≡ q → ⊥) → Steps n q (Err Malformed) n
  steps_malformed none_so = steps_by 1 (malformed (network_facts n) none_so) refl refl

  -- a well-formed request does what is done for its kind. Only a step and a publish look at the cell
  module _ (a : Fields.Request) {r : Result JobNumber Refusal} {m : Network} (e : fields_of a ≡ q) where
    steps_does : {w : Want} → want (kind_number a.kind) ≡ w → Does n w a.job.0 a.cell r m → Steps n q r m
    unfolding network_code code_of
    steps_does ew d =
        subst (λ (q : Request). Steps n q r m) e
        (let d' = subst (λ (w : Want). Does n w a.job.0 a.cell r m) (sym ew) d in steps_by _ refl d'.answered d'.left)

    pub steps_step : (d : Deed) → a.kind ≡ asked_by d → Does n (a_step (kind_of d)) a.job.0 a.cell r m → Steps n q r m
    steps_step d k = steps_does (ap (λ (k : Asked.Kind). want (kind_number k)) k ∙ step_want d)

    pub steps_publish : a.kind ≡ Kinds.Publish → Does n a_publish a.job.0 a.cell r m → Steps n q r m
    unfolding want
    steps_publish k = steps_does (ap (λ (k : Asked.Kind). want (kind_number k)) k)

    pub steps_open : a.kind ≡ Kinds.Open → Does n an_open a.job.0 0 r m → Steps n q r m
    unfolding want network_code tests job_of network_moved
    steps_open k d = steps_does (ap (λ (k : Asked.Kind). want (kind_number k)) k) (record { answered = d.answered; left = d.left })

    pub steps_end : a.kind ≡ Kinds.End → Does n an_end a.job.0 0 r m → Steps n q r m
    unfolding want network_code tests job_of network_moved
    steps_end k d = steps_does (ap (λ (k : Asked.Kind). want (kind_number k)) k) (record { answered = d.answered; left = d.left })

    pub steps_abandon : a.kind ≡ Kinds.Abandon → Does n an_abandon a.job.0 0 r m → Steps n q r m
    unfolding want network_code tests job_of network_moved
    steps_abandon k d = steps_does (ap (λ (k : Asked.Kind). want (kind_number k)) k) (record { answered = d.answered; left = d.left })
