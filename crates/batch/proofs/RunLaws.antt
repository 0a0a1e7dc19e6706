-- What the proofs of the batch need beyond the contracts of the functions that are called.
--
-- First one item: what it gets is its code by itself where its kind is taken, and 1 where it is not (`takes_step`, `takes_none`); a step leaves the next number, the free slots,
-- the numbers and the ports as they were (`Stays`), and does the same beside any ports (`steps_beside`). Then the loop (`Running`): what the batch gets is what the items that are left would get from the state as it is, their places
-- counted on, and the same of the state that they would leave. Last the whole batch: its length, and a refusal, after which leads and sets are put back.
-- Assumes nothing.
use mathlib.Core.Path.{◌≡◌, refl, sym, ap, ap₂, ◌∙◌, subst}
use mathlib.Core.Logic.{◌⊎◌, inl, inr, ⊎_elim}
use mathlib.Core.Bool.{Bool, true, false, not, cond}
use mathlib.Core.Option.{Option, none, some}
use mathlib.Core.List.{List, [], ◌∷◌}
use Prim.Native.Nat.{ℕ, zero, suc, ◌+◌, ◌*◌, ◌/◌, ◌%◌, ◌^◌, ◌≤◌, ◌<◌}
use native.Mathlib.Nat.{add-zero}
use native.Mathlib.Numerals.{add-one}
use native.Mathlib.Omega.{arith}
use lib.Dec.{leb, eqb}
use lib.ListN.{length, get_or, take, drop}
use lib.Seq.{get_or-drop}
use borrow.Author.Tests.{ne_eqb}
use Rattle.std.specs.Prelude.{Result, Ok, Err}
use Rattle.std.specs.Result.{is_err}
use Rattle.std.specs.Simd.{first_chunks}
use Rattle.std.proofs.Common.{drop-drop}
use Rattle.graph.specs.Decide.{by_test, eq_test, test_false}
use Rattle.history.specs.Events.{Kind, read, write, add}
use Rattle.history.specs.Formats.{records, request_of}
use Rattle.history.specs.Replies.{cells, Request, Reply, Want, a_step, want, Facts, tests, ◌gives◌, first_of, code_of, job_of, reply_of}
use Rattle.held.specs.Held.{Held, number_at, leads_at, word_at, open_at, open_slots, cell_at, is_some, at_slot, slot_of, touched, chain_back, stepped_at, facts, with_slot, moved, answer_to, after, after_all}
use Rattle.history_laws.specs.RecordLaws.{record_there, record_none, drop_record, drop_none, eight_out}
use Rattle.slots.specs.Lent.{lent, refusal_code, numbered, Steps}
use Rattle.slots.specs.Requests.{kind_number}
use Rattle.slots.specs.declared.JobNumber.{JobNumber}
use Rattle.slots.specs.declared.Kind as Asked
use Rattle.slots.specs.declared.Kind.TheVariants as Kinds
use Rattle.slots.specs.declared.Refusal.{Refusal}
use Rattle.slots.specs.declared.Refusal.TheVariants.{Malformed, NoCell, NotOpen, HasWritten, Full, Spent, Circle, NoPort, PortFull}
use Rattle.slots.proofs.RequestLaws.{refused}
use Rattle.batch.specs.Batch.{Verdict, verdict, taken, item_code, judged, batch, batch_leaves, packed}
use Rattle.batch.specs.Laws.{Taken, gets, IllSized}
use Rattle.batch.proofs.Laws.{taken_test, ill_test, ill_judged, judged_small}
use Rattle.batch.specs.Leaves.{Refused, Takes, Runs, Batches}
use Rattle.batch.specs.Leaves as leaves
use Rattle.batch.specs.declared.BatchRefusal.{BatchRefusal}
use Rattle.batch.specs.declared.BatchRefusal.TheVariants.{Length, Item}

-- ---- the bytes of an item

-- one by one from a place on, as `item_at` reads them
pub item_read : (b : List ℕ) (at : ℕ)
    → request_of (get_or b at 0 ∷ get_or b (at + 1) 0 ∷ get_or b (at + 2) 0 ∷ get_or b (at + 3) 0 ∷ get_or b (at + 4) 0 ∷ get_or b (at + 5) 0 ∷ get_or b (at + 6) 0 ∷ get_or b (at + 7) 0 ∷ [])
    ≡ request_of (drop at b)
unfolding request_of
item_read b at = simp (get_or-drop, add-zero)

-- of the chunks of eight bytes, one by its place, as a request
chunk_at : (k i : ℕ) (l : List ℕ) → i < k → get_or (first_chunks 8 k l) i [] ≡ take 8 (drop (i * 8) l)
chunk_at zero i l h = absurd (omega arith)
chunk_at (suc k) zero l h = refl
chunk_at (suc k) (suc i) l h =
    let on : 8 + i * 8 ≡ suc i * 8 = omega arith in
    chunk_at k i (drop 8 l) (omega arith) ∙ ap (take 8) (drop-drop (i * 8) 8 l ∙ ap (λ (j : ℕ). drop j l) on)

pub item_at : {items : List (List ℕ)} {n : ℕ} (l : List ℕ) (i : ℕ) → items ≡ first_chunks 8 n l → n ≡ length l / 8 → i < n → request_of (get_or items i []) ≡ request_of (drop (i * 8) l)
item_at {n = n} l i e m h =
    ap (λ (y : List (List ℕ)). request_of (get_or y i [])) e
    ∙ ap request_of (chunk_at n i l h ∙ sym (eight_out l (i * 8) (omega arith)))
    ∙ item_read l (i * 8)

-- ---- one item

-- the kinds that a batch takes, and those that it does not
pub taken_kind : {k : Asked.Kind} (q : Request) → kind_number k ≡ q.kind → (k ≡ Kinds.Read) ⊎ ((k ≡ Kinds.Write) ⊎ (k ≡ Kinds.Add)) → Taken q
taken_kind q e (inl f) = inl (sym e ∙ ap kind_number f)
taken_kind q e (inr (inl f)) = inr (inl (sym e ∙ ap kind_number f))
taken_kind q e (inr (inr f)) = inr (inr (sym e ∙ ap kind_number f))

other_number : (q : Request) (n : ℕ) → q.kind ≡ n → (n ≡ 2 → ⊥) → (n ≡ 3 → ⊥) → (n ≡ 7 → ⊥) → Taken q → ⊥
other_number q n e a b c (inl t) = a (sym e ∙ t)
other_number q n e a b c (inr (inl t)) = b (sym e ∙ t)
other_number q n e a b c (inr (inr t)) = c (sym e ∙ t)

pub other_kind : {k : Asked.Kind} (q : Request) → kind_number k ≡ q.kind → (k ≡ Kinds.Open) ⊎ ((k ≡ Kinds.End) ⊎ ((k ≡ Kinds.Abandon) ⊎ (k ≡ Kinds.Publish))) → Taken q → ⊥
other_kind q e (inl f) = other_number q 1 (sym e ∙ ap kind_number f) (λ z. omega arith) (λ z. omega arith) (λ z. omega arith)
other_kind q e (inr (inl f)) = other_number q 4 (sym e ∙ ap kind_number f) (λ z. omega arith) (λ z. omega arith) (λ z. omega arith)
other_kind q e (inr (inr (inl f))) = other_number q 5 (sym e ∙ ap kind_number f) (λ z. omega arith) (λ z. omega arith) (λ z. omega arith)
other_kind q e (inr (inr (inr f))) = other_number q 6 (sym e ∙ ap kind_number f) (λ z. omega arith) (λ z. omega arith) (λ z. omega arith)

pub no_kind : (q : Request) → ((k : Asked.Kind) → kind_number k ≡ q.kind → ⊥) → Taken q → ⊥
no_kind q f (inl t) = f Kinds.Read (sym t)
no_kind q f (inr (inl t)) = f Kinds.Write (sym t)
no_kind q f (inr (inr t)) = f Kinds.Add (sym t)

-- such a request wants a step, and a batch takes it
record IsStep (k : ℕ) : Type 0 where
  kind : Kind
  wants : want k ≡ a_step kind
  is_taken : taken k ≡ true

is_step : (k : ℕ) → (k ≡ 2) ⊎ ((k ≡ 3) ⊎ (k ≡ 7)) → IsStep k
unfolding want taken
is_step k (inl e) = record { kind = read; wants = ap want e; is_taken = ap taken e }
is_step k (inr (inl e)) = record { kind = write; wants = ap want e; is_taken = ap taken e }
is_step k (inr (inr e)) = record { kind = add; wants = ap want e; is_taken = ap taken e }

-- the code of a request that wants w
abbrev code_for : Facts → Request → Want → ℕ
code_for f r w = first_of ((not (eqb r.byte1 0) gives 1) ∷ tests f w r.job r.cell)

-- what no step moves
pub record Stays (h g : Held) : Type 0 where
  pub next : g.next ≡ h.next
  pub free : g.free ≡ h.free
  pub numbers : g.numbers ≡ h.numbers
  pub ports : g.ports ≡ h.ports

stays_all : (h : Held) → Stays h h
stays_all h = record { next = refl; free = refl; numbers = refl; ports = refl }

step_stays : (h : Held) (r : Request) (k : Kind) → want r.kind ≡ a_step k → Stays h (after h r)
unfolding after moved stepped_at
step_stays h r k e =
    subst (λ (w : Want). Stays h (cond (eqb (code_of (facts h) r) 0) (moved h w r.job r.cell) h)) (sym e)
    (if_granted (eqb (code_of (facts h) r) 0) (there (slot_of h r.job)))
  where
    there : (o : Option ℕ) → Stays h (with_slot o (λ s. stepped_at h k s r.cell) h)
    there none = stays_all h
    there (some s) = record { next = refl; free = refl; numbers = refl; ports = refl }

    if_granted : (b : Bool) {g : Held} → Stays h g → Stays h (cond b g h)
    if_granted true s = s
    if_granted false s = stays_all h

-- a state beside any ports, and what a step does there: it looks at no ports, and so it does what it does beside others
abbrev pub beside : Held → List ℕ → Held
beside g ports = lent g.next g.free g.numbers g.leads g.sets ports

abbrev reply_for : Held → Request → Want → Reply
reply_for h q w = record { code = code_for (facts h) q w; job = cond (eqb (code_for (facts h) q w) 0) (job_of h.next w q.job) 0 }

abbrev after_for : Held → Request → Want → Held
after_for h q w = cond (eqb (code_for (facts h) q w) 0) (moved h w q.job q.cell) h

module _ (g : Held) (ports : List ℕ) (q : Request) (k : Kind) where
  slot_beside : slot_of g q.job ≡ slot_of (beside g ports) q.job
  unfolding slot_of open_slots open_at number_at
  slot_beside = refl

  chain_beside : (s : ℕ) → chain_back g k s q.cell ≡ chain_back (beside g ports) k s q.cell
  unfolding chain_back open_slots open_at leads_at touched cell_at word_at
  chain_beside s = refl

  code_beside : code_for (facts g) q (a_step k) ≡ code_for (facts (beside g ports)) q (a_step k)
  unfolding tests facts
  code_beside = λ i. cond (not (eqb q.byte1 0)) 1 (cond (leb cells q.cell) 2 (cond (not (is_some (slot_beside i))) 3 (cond (at_slot (slot_beside i) (λ s. chain_beside s i)) 7 0)))

  moved_beside : beside (moved g (a_step k) q.job q.cell) ports ≡ moved (beside g ports) (a_step k) q.job q.cell
  unfolding moved stepped_at slot_of open_slots open_at number_at leads_at touched cell_at word_at
  moved_beside = go (slot_of g q.job)
    where
      go : (o : Option ℕ) → beside (with_slot o (λ s. stepped_at g k s q.cell) g) ports ≡ with_slot o (λ s. stepped_at (beside g ports) k s q.cell) (beside g ports)
      go none = refl
      go (some s) = refl

  after_beside : beside (after_for g q (a_step k)) ports ≡ after_for (beside g ports) q (a_step k)
  after_beside = go (eqb (code_for (facts g) q (a_step k)) 0) (moved g (a_step k) q.job q.cell) ∙ (λ i. cond (eqb (code_beside i) 0) (moved_beside i) (beside g ports))
    where
      go : (b : Bool) (x : Held) → beside (cond b x g) ports ≡ cond b (beside x ports) (beside g ports)
      go true x = refl
      go false x = refl

  steps_beside : {r : Result JobNumber Refusal} {m : Held} → want q.kind ≡ a_step k → Steps g q r m → Steps (beside g ports) q r (beside m ports)
  unfolding answer_to after reply_of code_of facts
  steps_beside e s =
      record {
        answered =
            s.answered ∙ ap (reply_for g q) e
            ∙ (λ i. record { code = code_beside i; job = cond (eqb (code_beside i) 0) (job_of g.next (a_step k) q.job) 0 })
            ∙ sym (ap (reply_for (beside g ports) q) e);
        left =
            ap (λ (x : Held). beside x ports) s.left ∙ ap (λ (w : Want). beside (after_for g q w) ports) e ∙ after_beside ∙ sym (ap (after_for (beside g ports) q) e);
      }

-- an item of a kind that is taken gets what it gets by itself
taken_code : (q : Request) (a : Reply) → taken q.kind ≡ true → item_code q a ≡ a.code
unfolding item_code
taken_code q a e = ap (λ (b : Bool). cond b a.code 1) e

-- a refusal leaves the state, so that it may be tested again
after_again : (h : Held) (q : Request) → after h q ≡ cond (eqb (answer_to h q).code 0) (after h q) h
unfolding after answer_to reply_of
after_again h q = go (eqb (code_of (facts h) q) 0) (moved h (want q.kind) q.job q.cell)
  where
    go : (b : Bool) (g : Held) → cond b g h ≡ cond b (cond b g h) h
    go true g = refl
    go false g = refl

pub takes_step : {g m : Held} (ports : List ℕ) (q : Request) {r : Result JobNumber Refusal} → Taken q → Steps g q r m → Takes (beside g ports) q r m.numbers m.leads m.sets
unfolding answer_to reply_of
takes_step {g} {m} ports q {r} t given =
    record {
      code = by_itself ∙ sym (taken_code q (answer_to h q) st.is_taken);
      left = (λ i. lent (next i) (free i) m.numbers m.leads m.sets ports) ∙ s.left ∙ after_again h q ∙ ap (λ (c : ℕ). cond (eqb c 0) (after h q) h) (sym by_itself);
      same = ap (λ (x : Held). x.numbers) s.left ∙ still.numbers;
    }
  where
    st : IsStep q.kind
    st = is_step q.kind t

    h : Held
    h = beside g ports

    s : Steps h q r (beside m ports)
    s = steps_beside g ports q st.kind st.wants given

    still : Stays h (after h q)
    still = step_stays h q st.kind st.wants

    by_itself : (numbered r).code ≡ (answer_to h q).code
    by_itself = ap (λ (a : Reply). a.code) s.answered

    next : h.next ≡ m.next
    next = sym still.next ∙ sym (ap (λ (g : Held). g.next) s.left)

    free : h.free ≡ m.free
    free = sym still.free ∙ sym (ap (λ (g : Held). g.free) s.left)

-- an item of any other kind gets 1, and nothing moves
pub takes_none : {h : Held} (q : Request) → (Taken q → ⊥) → Takes h q (Err Malformed) h.numbers h.leads h.sets
unfolding item_code
takes_none {h} q f = record { code = sym (ap (λ (b : Bool). cond b (answer_to h q).code 1) (test_false (taken_test q) f)); left = refl; same = refl }

-- no refusal has code 0
refused_ne : (e : Refusal) → refusal_code e ≡ 0 → ⊥
refused_ne e z = let y : false ≡ true = sym (refused e) ∙ ap (λ (n : ℕ). eqb n 0) z in absurd (cc)

told_ne : (e : BatchRefusal) → leaves.told_code e ≡ 0 → ⊥
told_ne Length z = omega arith
told_ne (Item e p) z = refused_ne e z

-- and a grant has
granted_zero : (b : Result ℕ BatchRefusal) → false ≡ is_err b → (leaves.numbered b).code ≡ 0
granted_zero (Ok n) f = refl
granted_zero (Err e) f = absurd (cc)

refused_not : (b : Result ℕ BatchRefusal) → true ≡ is_err b → (leaves.numbered b).code ≡ 0 → ⊥
refused_not (Ok n) f z = absurd (cc)
refused_not (Err e) f z = told_ne e z

-- ---- the codes

-- the codes that a step gets
step_codes : (f : Facts) (r : Request) (k : Kind) → want r.kind ≡ a_step k → (code_of f r ≡ 0) ⊎ Refused (code_of f r)
unfolding code_of tests
step_codes f r k e =
    subst (λ (w : Want). (code_for f r w ≡ 0) ⊎ Refused (code_for f r w)) (sym e)
    (go (not (eqb r.byte1 0)) (leb cells r.cell) (not (f.is_open r.job)) (f.closes k r.job r.cell))
  where
    first : Bool → Bool → Bool → Bool → ℕ
    first a b c d = cond a 1 (cond b 2 (cond c 3 (cond d 7 0)))

    go : (a b c d : Bool) → (first a b c d ≡ 0) ⊎ Refused (first a b c d)
    go true b c d = inr (inl refl)
    go false true c d = inr (inr (inl refl))
    go false false true d = inr (inr (inr (inl refl)))
    go false false false true = inr (inr (inr (inr refl)))
    go false false false false = inl refl

item_codes : (h : Held) (q : Request) → (item_code q (answer_to h q) ≡ 0) ⊎ Refused (item_code q (answer_to h q))
unfolding item_code answer_to reply_of
item_codes h q =
    by_test (λ b. (cond b (answer_to h q).code 1 ≡ 0) ⊎ Refused (cond b (answer_to h q).code 1)) (taken_test q)
    (λ t. let st = is_step q.kind t in step_codes (facts h) q st.kind st.wants)
    (λ f. inr (inl refl))

gets_codes : (n : ℕ) (h : Held) (items : List Request) → ((gets n h items).code ≡ 0) ⊎ Refused (gets n h items).code
gets_codes n h [] = inl refl
gets_codes n h (q ∷ items) =
    by_test (λ b. let c = (cond b (gets (suc n) (after h q) items) (verdict (item_code q (answer_to h q)) n)).code in (c ≡ 0) ⊎ Refused c) (eq_test (item_code q (answer_to h q)) 0)
    (λ z. gets_codes (suc n) (after h q) items) (λ f. item_codes h q)

-- a batch gets 25, 0 or the code of an item
pub codes_known : (h : Held) (bytes : List ℕ) → ((batch h bytes).code ≡ 25) ⊎ (((batch h bytes).code ≡ 0) ⊎ Refused (batch h bytes).code)
unfolding batch judged
codes_known h bytes =
    by_test (λ b. let c = (cond b (verdict 25 0) (gets 0 h (records bytes))).code in (c ≡ 25) ⊎ ((c ≡ 0) ⊎ Refused c)) (ill_test bytes) (λ s. inl refl)
    (λ f. inr (gets_codes 0 h (records bytes)))

-- ---- the loop

-- i items are granted, and the state is h
pub record Running (h₀ : Held) (bytes : List ℕ) (i : ℕ) (h : Held) : Type 0 where
  pub inside : i ≤ length bytes / 8
  pub verdict : gets 0 h₀ (records bytes) ≡ gets i h (drop i (records bytes))
  pub left : after_all h₀ (records bytes) ≡ after_all h (drop i (records bytes))
  pub still : Stays h₀ h

pub run_start : {h : Held} {bytes : List ℕ} → Running h bytes 0 h
run_start {h} = record { inside = omega arith; verdict = refl; left = refl; still = stays_all h }

-- the item whose turn it is stands first among those left
module _ (bytes : List ℕ) (i : ℕ) (more : i < length bytes / 8) {q : Request} (eq : q ≡ request_of (drop (i * 8) bytes)) where
  next_item : drop i (records bytes) ≡ q ∷ drop (suc i) (records bytes)
  next_item =
      drop_record (records bytes) i (record_there bytes i more) ∙ ap (λ (r : Request). r ∷ drop (suc i) (records bytes)) (sym eq)

  gets_next : (h : Held) → gets i h (drop i (records bytes))
      ≡ cond (eqb (item_code q (answer_to h q)) 0) (gets (suc i) (after h q) (drop (suc i) (records bytes))) (verdict (item_code q (answer_to h q)) i)
  gets_next h = ap (gets i h) next_item

module _ {h₀ h : Held} {bytes : List ℕ} {i : ℕ} (r : Running h₀ bytes i h) where
  module _ {q : Request} (more : i < length bytes / 8) (eq : q ≡ request_of (drop (i * 8) bytes)) {a : Result JobNumber Refusal} {numbers leads sets : List ℕ}
      (t : Takes h q a numbers leads sets) where
    pub run_turn : {j : JobNumber} → a ≡ Ok j → Running h₀ bytes (i + 1) (lent h.next h.free numbers leads sets h.ports)
    run_turn given =
        record {
          inside = omega arith;
          verdict =
              r.verdict ∙ gets_next bytes i more eq h
              ∙ ap (λ (c : ℕ). cond (eqb c 0) (gets (suc i) (after h q) (drop (suc i) (records bytes))) (verdict c i)) (sym t.code ∙ z)
              ∙ ap₂ (λ (n : ℕ) (g : Held). gets n g (drop n (records bytes))) on (sym moved_on);
          left =
              r.left ∙ ap (after_all h) (next_item bytes i more eq)
              ∙ ap₂ (λ (n : ℕ) (g : Held). after_all g (drop n (records bytes))) on (sym moved_on);
          still = record { next = r.still.next; free = r.still.free; numbers = t.same ∙ r.still.numbers; ports = r.still.ports };
        }
      where
        z : (numbered a).code ≡ 0
        z = ap (λ (x : Result JobNumber Refusal). (numbered x).code) given

        on : suc i ≡ i + 1
        on = sym (add-one i)

        moved_on : lent h.next h.free numbers leads sets h.ports ≡ after h q
        moved_on = t.left ∙ ap (λ (c : ℕ). cond (eqb c 0) (after h q) h) z

    pub run_stop : {e : Refusal} → a ≡ Err e → Runs h₀ (records bytes) (Err (Item e i)) numbers leads sets
    run_stop {e} given =
        record {
          answered =
              sym (ap (λ (x : Bool). cond x (gets (suc i) (after h q) (drop (suc i) (records bytes))) (verdict (refusal_code e) i)) (refused e))
              ∙ ap (λ (c : ℕ). cond (eqb c 0) (gets (suc i) (after h q) (drop (suc i) (records bytes))) (verdict c i)) (sym y ∙ t.code)
              ∙ sym (gets_next bytes i more eq h)
              ∙ sym r.verdict;
          left = λ z. absurd (refused_ne e z);
          same = t.same ∙ r.still.numbers;
        }
      where
        y : (numbered a).code ≡ refusal_code e
        y = ap (λ (x : Result JobNumber Refusal). (numbered x).code) given

  pub run_end : {n : ℕ} → n ≡ length bytes / 8 → n ≤ i → Runs h₀ (records bytes) (Ok n) h.numbers h.leads h.sets
  run_end {n} en all =
      record {
        answered = ap (verdict 0) (omega (arith, r.inside)) ∙ sym (ap (gets i h) none_left) ∙ sym r.verdict;
        left = λ z. (λ j. lent (sym r.still.next j) (sym r.still.free j) h.numbers h.leads h.sets (sym r.still.ports j)) ∙ sym (r.left ∙ ap (after_all h) none_left);
        same = r.still.numbers;
      }
    where
      none_left : drop i (records bytes) ≡ []
      none_left = drop_none (records bytes) i (record_none bytes i (omega arith))

-- ---- the whole batch

module _ (h : Held) (bytes : List ℕ) where
  -- what a verdict leaves
  leaves_by : {v : Verdict} → batch h bytes ≡ v → batch_leaves h bytes ≡ cond (eqb v.code 0) (after_all h (records bytes)) h
  unfolding batch_leaves
  leaves_by e = ap (λ (v : Verdict). cond (eqb v.code 0) (after_all h (records bytes)) h) e

  -- the length is wrong
  pub batch_length : IllSized bytes → Batches h bytes (Err Length) h.numbers h.leads h.sets
  batch_length s = record { answered = sym (ill_judged h bytes s); left = sym (leaves_by (ill_judged h bytes s)) }

  module _ (whole : length bytes % 8 ≡ 0) (few : length bytes ≤ 512) {b : Result ℕ BatchRefusal} {numbers leads sets : List ℕ} (r : Runs h (records bytes) b numbers leads sets) where
    right : leaves.numbered b ≡ batch h bytes
    unfolding batch judged
    right = r.answered ∙ sym (ap (λ (b : Bool). cond b (verdict 25 0) (gets 0 h (records bytes))) (test_false (ill_test bytes) (⊎_elim (λ f. f whole) (λ p. omega arith))))

    -- all are granted
    pub batch_granted : false ≡ is_err b → Batches h bytes b numbers leads sets
    batch_granted f =
        record {
          answered = right;
          left = r.left (granted_zero b f) ∙ sym (leaves_by (sym right) ∙ ap (λ (c : ℕ). cond (eqb c 0) (after_all h (records bytes)) h) (granted_zero b f));
        }

    -- one is refused, and what the items before it moved is put back
    pub batch_refused : true ≡ is_err b → Batches h bytes b numbers h.leads h.sets
    batch_refused f =
        record {
          answered = right;
          left =
              ap (λ (l : List ℕ). lent h.next h.free l h.leads h.sets h.ports) r.same
              ∙ sym (leaves_by (sym right) ∙ ap (λ (x : Bool). cond x (after_all h (records bytes)) h) (ne_eqb (leaves.numbered b).code 0 (refused_not b f)));
        }

-- ---- in one number

code_small : (r : Result ℕ BatchRefusal) → (leaves.numbered r).code ≤ 25
code_small (Ok n) = omega arith
code_small (Err Length) = omega arith
code_small (Err (Item Malformed p)) = omega arith
code_small (Err (Item NoCell p)) = omega arith
code_small (Err (Item NotOpen p)) = omega arith
code_small (Err (Item HasWritten p)) = omega arith
code_small (Err (Item Full p)) = omega arith
code_small (Err (Item Spent p)) = omega arith
code_small (Err (Item Circle p)) = omega arith
code_small (Err (Item NoPort p)) = omega arith
code_small (Err (Item PortFull p)) = omega arith

-- the place is small, and so both fit
pub packs : {h : Held} {bytes : List ℕ} {r : Result ℕ BatchRefusal} {n : ℕ} {numbers leads sets : List ℕ} → Batches h bytes r numbers leads sets
    → n ≡ ((leaves.numbered r).code * 4294967296 + (leaves.numbered r).place) % 2 ^ 64
    → (n ≡ packed (batch h bytes)) × (lent h.next h.free numbers leads sets h.ports ≡ batch_leaves h bytes)
unfolding packed
packs {h} {bytes} {r} {n} b e =
    let code = ap (λ (v : Verdict). v.code) b.answered in
    let place = ap (λ (v : Verdict). v.place) b.answered in
    (omega (arith, code, place, code_small r, judged_small h bytes), b.left)
