-- One record more: its fault from the table of jobs, and without one the table, the steps told and the count after it.
--
-- The fault of a record is that of the earliest of its tests that holds (`graded`). An event changes how one job stands at the most (`status_same`); so the
-- lists after it are those before it with one entry set (`jobs_opens`, `jobs_same`, `jobs_set`).
-- Assumes nothing.
use Rattle.std.specs.Prelude.{◌≡◌, ◌⊎◌, Bool, true, not, ◌||◌, List, [], ◌∷◌, ◌++◌, ℕ, zero, suc, ◌+◌, ◌-◌, ◌*◌, ◌≤◌, ◌<◌, T, leb, ltb, eqb, length, get_or, set}
use Rattle.std.proofs.Math.Path.{refl, sym, ap}
use Rattle.std.proofs.Common.{ap₂, ◌∙◌, subst, subst₂, inl, inr, ⊎_elim, arith, length-set, length-append, get_or-set_same, get_or-set_other}
use Rattle.std.proofs.Math.Bool.{false, cond}
use mathlib.Core.List.Memᴰ
use Rattle.std.proofs.Math.ListN.{get_or-append}
use Rattle.std.proofs.lemmas.List.{get_or_at}
use Rattle.graph.specs.Decide.{Decides, and_test, or_test, not_test, eq_test, le_test, lt_test, own_test, some_test, every_of, every_test, same_test, answer, test_true, test_false}
use Rattle.graph.specs.Lists.{◌∈◌, here}
use Rattle.history.specs.Events.{Kind, read, write, add, alters, Deed, does, opening, ending, alters_by, Event, opens, steps, ends, abandons, History, ended_by, abandoned_by, has, opened, ended, abandoned, open_now, Step, step_at, step_by, all_steps, wrote}
use Rattle.history.specs.Replies.{cells, Request, Want, an_open, a_step, an_end, an_abandon, a_publish, nothing, want, event_of}
use Rattle.history.specs.Turns.{InTurn}
use Rattle.history_laws.specs.TurnLaws.{Grows, which_in, old_in, new_in, stays, opened_grows, ended_grows, abandoned_grows, all_steps_grows, has_test, open_from, open_opened, open_not_abandoned, orderly, turns_next}
use Rattle.verdicts.specs.Logs.{most_jobs, ill_formed, out_of_turn, too_many, fault_of, kind_number}
use Rattle.tallies.specs.Jobs.{status, Padded, Jobs, Finds, room, first_row, packed_step, Packs, Tells, Told, Taken, Takes}
use Rattle.tallies.specs.PadLaws.{padded_set, padded_more}
use Rattle.tallies.specs.TableLaws.{member_at, rises, same_entry, found_opened, not_found, found_state, by_status, status_open, status_one}

-- ---- the fault of a record

-- a record with its four fields
abbrev asked : ℕ → ℕ → ℕ → ℕ → Request
asked k b c j = record { kind = k; byte1 = b; cell = c; job = j }

-- a fault is not 0, so nothing is to be told of what comes after
module _ {h : History} {n : ℕ} {r : Request} {numbers states told : List ℕ} {count : ℕ} where
  refused : (c : ℕ) → fault_of h r ≡ suc c → Takes h n r (suc c) numbers states told count
  refused c e = record { fault = sym e; next = λ z. absurd (omega arith) }

-- the code of the first of three tests that holds
abbrev graded : Bool → Bool → Bool → ℕ
graded a b c = cond a 12 (cond b 13 (cond c 14 0))

module _ {A B C : Type 0} {a b c : Bool} (da : Decides a A) (db : Decides b B) (dc : Decides c C) where
  first_holds : A → graded a b c ≡ 12
  first_holds x = ap (λ (t : Bool). graded t b c) (test_true da x)

  second_holds : (A → ⊥) → B → graded a b c ≡ 13
  second_holds f x = ap₂ (λ (t u : Bool). graded t u c) (test_false da f) (test_true db x)

  third_holds : (A → ⊥) → (B → ⊥) → C → graded a b c ≡ 14
  third_holds f g x = ap₂ (λ (t u : Bool). graded t u c) (test_false da f) (test_false db g) ∙ ap (graded false false) (test_true dc x)

  none_holds : (A → ⊥) → (B → ⊥) → (C → ⊥) → graded a b c ≡ 0
  none_holds f g k = ap₂ (λ (t u : Bool). graded t u c) (test_false da f) (test_false db g) ∙ ap (graded false false) (test_false dc k)

-- a test that always fails
never : Decides false ⊥
never = own_test false

module _ (h : History) (c j : ℕ) where
  -- the tests of each kind
  cell_test : Decides (not (eqb c 0)) (c ≡ 0 → ⊥)
  cell_test = not_test (eq_test c 0)

  wide_test : Decides (leb cells c) (cells ≤ c)
  wide_test = le_test cells c

  shut_test : Decides (not (has (open_now h) j)) (j ∈ open_now h → ⊥)
  shut_test = not_test (has_test (open_now h) j)

  low_test : Decides (not (every_of (λ i. ltb i j) (opened h))) (((i : ℕ) → i ∈ opened h → i < j) → ⊥)
  low_test = not_test (every_test (λ i. lt_test i j) (opened h))

  many_test : Decides (leb most_jobs (length (opened h))) (most_jobs ≤ length (opened h))
  many_test = le_test most_jobs (length (opened h))

  bar_test : Decides (not (has (open_now h) j) || wrote h j) ((j ∈ open_now h → ⊥) ⊎ T (wrote h j))
  bar_test = or_test shut_test (own_test (wrote h j))

  open_ill : (c ≡ 0 → ⊥) → fault_of h (asked 1 0 c j) ≡ 12
  unfolding fault_of want ill_formed out_of_turn too_many
  open_ill z = first_holds cell_test low_test many_test z

  open_low : c ≡ 0 → (((i : ℕ) → i ∈ opened h → i < j) → ⊥) → fault_of h (asked 1 0 c j) ≡ 13
  unfolding fault_of want ill_formed out_of_turn too_many
  open_low z f = second_holds cell_test low_test many_test (λ g. g z) f

  open_many : c ≡ 0 → ((i : ℕ) → i ∈ opened h → i < j) → most_jobs ≤ length (opened h) → fault_of h (asked 1 0 c j) ≡ 14
  unfolding fault_of want ill_formed out_of_turn too_many
  open_many z f m = third_holds cell_test low_test many_test (λ g. g z) (λ g. g f) m

  open_good : c ≡ 0 → ((i : ℕ) → i ∈ opened h → i < j) → (most_jobs ≤ length (opened h) → ⊥) → fault_of h (asked 1 0 c j) ≡ 0
  unfolding fault_of want ill_formed out_of_turn too_many
  open_good z f m = none_holds cell_test low_test many_test (λ g. g z) (λ g. g f) m

  step_ill : (k : Kind) → cells ≤ c → fault_of h (asked (kind_number k) 0 c j) ≡ 12
  unfolding fault_of want ill_formed out_of_turn too_many
  step_ill read w = first_holds wide_test shut_test never w
  step_ill write w = first_holds wide_test shut_test never w
  step_ill add w = first_holds wide_test shut_test never w

  step_shut : (k : Kind) → (cells ≤ c → ⊥) → (j ∈ open_now h → ⊥) → fault_of h (asked (kind_number k) 0 c j) ≡ 13
  unfolding fault_of want ill_formed out_of_turn too_many
  step_shut read w f = second_holds wide_test shut_test never w f
  step_shut write w f = second_holds wide_test shut_test never w f
  step_shut add w f = second_holds wide_test shut_test never w f

  step_good : (k : Kind) → (cells ≤ c → ⊥) → j ∈ open_now h → fault_of h (asked (kind_number k) 0 c j) ≡ 0
  unfolding fault_of want ill_formed out_of_turn too_many
  step_good read w m = none_holds wide_test shut_test never w (λ f. f m) (λ n. n)
  step_good write w m = none_holds wide_test shut_test never w (λ f. f m) (λ n. n)
  step_good add w m = none_holds wide_test shut_test never w (λ f. f m) (λ n. n)

  end_ill : (c ≡ 0 → ⊥) → fault_of h (asked 4 0 c j) ≡ 12
  unfolding fault_of want ill_formed out_of_turn too_many
  end_ill z = first_holds cell_test shut_test never z

  end_shut : c ≡ 0 → (j ∈ open_now h → ⊥) → fault_of h (asked 4 0 c j) ≡ 13
  unfolding fault_of want ill_formed out_of_turn too_many
  end_shut z f = second_holds cell_test shut_test never (λ g. g z) f

  end_good : c ≡ 0 → j ∈ open_now h → fault_of h (asked 4 0 c j) ≡ 0
  unfolding fault_of want ill_formed out_of_turn too_many
  end_good z m = none_holds cell_test shut_test never (λ g. g z) (λ f. f m) (λ n. n)

  abandon_ill : (c ≡ 0 → ⊥) → fault_of h (asked 5 0 c j) ≡ 12
  unfolding fault_of want ill_formed out_of_turn too_many
  abandon_ill z = first_holds cell_test bar_test never z

  abandon_bar : c ≡ 0 → ((j ∈ open_now h → ⊥) ⊎ T (wrote h j)) → fault_of h (asked 5 0 c j) ≡ 13
  unfolding fault_of want ill_formed out_of_turn too_many
  abandon_bar z f = second_holds cell_test bar_test never (λ g. g z) f

  abandon_good : c ≡ 0 → j ∈ open_now h → (T (wrote h j) → ⊥) → fault_of h (asked 5 0 c j) ≡ 0
  unfolding fault_of want ill_formed out_of_turn too_many
  abandon_good z m w = none_holds cell_test bar_test never (λ g. g z) (⊎_elim (λ f. f m) w) (λ n. n)

-- a record that is ill-formed, whatever it asks for
of_form : (h : History) (r : Request) → ill_formed (want r.kind) r ≡ true → fault_of h r ≡ 12
unfolding fault_of
of_form h r e = ap (λ (t : Bool). graded t (out_of_turn h (want r.kind) r.job) (too_many h (want r.kind))) e

-- byte 1 is not 0
byte_ill : (h : History) (k b c j : ℕ) → (b ≡ 0 → ⊥) → fault_of h (asked k b c j) ≡ 12
byte_ill h k b c j f = of_form h (asked k b c j) (go (want k))
  where
    either_way : (x : Bool) → not (eqb b 0) || x ≡ true
    either_way x = ap (λ (t : Bool). not t || x) (test_false (eq_test b 0) f)

    go : (w : Want) → ill_formed w (asked k b c j) ≡ true
    go = unfold ill_formed in elim [
      | an_open ↦ either_way (not (eqb c 0))
      | a_step s ↦ either_way (leb cells c)
      | an_end ↦ either_way (not (eqb c 0))
      | an_abandon ↦ either_way (not (eqb c 0))
      | a_publish ↦ refl
      | nothing ↦ refl
    ]

-- a kind that is none of a log's six
kind_ill : (h : History) (k b c j : ℕ) → (k ≡ 1 → ⊥) → (k ≡ 2 → ⊥) → (k ≡ 3 → ⊥) → (k ≡ 4 → ⊥) → (k ≡ 5 → ⊥) → (k ≡ 7 → ⊥) → fault_of h (asked k b c j) ≡ 12
kind_ill h k b c j n1 n2 n3 n4 n5 n7 = of_form h (asked k b c j) (ap (λ (w : Want). ill_formed w (asked k b c j)) no_kind ∙ ill (eqb k 6))
  where
    -- a publish, or none at all
    rest : Want
    rest = cond (eqb k 6) a_publish nothing

    step : (n : ℕ) (x : Want) {y : Want} → (k ≡ n → ⊥) → y ≡ rest → cond (eqb k n) x y ≡ rest
    step n x {y} f e = ap (λ (t : Bool). cond t x y) (test_false (eq_test k n) f) ∙ e

    no_kind : want k ≡ rest
    no_kind = unfold want in step 1 an_open n1 (step 2 (a_step read) n2 (step 3 (a_step write) n3 (step 4 an_end n4 (step 5 an_abandon n5
        (ap (λ (t : Bool). cond (eqb k 6) a_publish (cond t (a_step add) nothing)) (test_false (eq_test k 7) n7))))))

    ill : (t : Bool) → ill_formed (cond t a_publish nothing) (asked k b c j) ≡ true
    ill true = unfold ill_formed in refl
    ill false = unfold ill_formed in refl

-- ---- how a job stands after one event more

has_same : {l k n : List ℕ} → Grows l k n → (i : ℕ) → (i ∈ k → ⊥) → has n i ≡ has l i
has_same {l} {k} {n} g i f = same_test (has_test n i) (has_test l i) (λ m. ⊎_elim (λ o. o) (λ o. absurd (f o)) (which_in g m)) (old_in g)

-- a write or an add of the job
abbrev Write : ℕ → Step → Type 0
Write i s = (s.job ≡ i) × T (alters_by s.deed)

wrote_test : (h : History) (i : ℕ) → Decides (wrote h i) ((s : Step) × (s ∈ all_steps h) × Write i s)
unfolding wrote
wrote_test h i = some_test (λ (s : Step). and_test (eq_test s.job i) (own_test (alters_by s.deed))) (all_steps h)

module _ (h : History) (e : Event) (i : ℕ) where
  wrote_same : ((s : Step) → s ∈ step_by (length h) e → Write i s → ⊥) → wrote (h ++ e ∷ []) i ≡ wrote h i
  wrote_same f =
      same_test (wrote_test (h ++ e ∷ []) i) (wrote_test h i)
      (λ r. (r.0, ⊎_elim (λ o. o) (λ o. absurd (f r.0 o r.2)) (which_in (all_steps_grows h e) r.1), r.2))
      (λ r. (r.0, old_in (all_steps_grows h e) r.1, r.2))

  -- a job that the event does not end, abandon, write or add for stands as before
  status_same : (i ∈ abandoned_by e → ⊥) → (i ∈ ended_by e → ⊥) → ((s : Step) → s ∈ step_by (length h) e → Write i s → ⊥) → status (h ++ e ∷ []) i ≡ status h i
  unfolding status
  status_same fa fe fw =
      ap (λ (b : Bool). cond b 4 (cond (has (ended (h ++ e ∷ [])) i) 3 (cond (wrote (h ++ e ∷ []) i) 2 1))) (has_same (abandoned_grows h e) i fa)
      ∙ ap (λ (b : Bool). cond (has (abandoned h) i) 4 (cond b 3 (cond (wrote (h ++ e ∷ []) i) 2 1))) (has_same (ended_grows h e) i fe)
      ∙ ap (λ (b : Bool). cond (has (abandoned h) i) 4 (cond (has (ended h) i) 3 (cond b 2 1))) (wrote_same fw)

-- a step that alters nothing is none
unaltered : {s b : Step} → s ∈ b ∷ [] → (T (alters_by b.deed) → ⊥) → T (alters_by s.deed) → ⊥
unaltered m f t = f (subst (λ (x : Step). T (alters_by x.deed)) (Memᴰ.eq_of_singleton m) t)

-- ---- steps told

-- one list is the other with more at its end
record Wider (l n : List ℕ) : Type 0 where
  longer : length l ≤ length n
  entries : (i : ℕ) → i < length l → get_or n i 0 ≡ get_or l i 0

wider : {l k n : List ℕ} → Grows l k n → Wider l n
wider {l} {k} {n} g =
    record {
      longer = let e : length n ≡ length l + length k = ap length g.joined ∙ length-append l k in omega arith;
      entries = λ i q. ap (λ (m : List ℕ). get_or m i 0) g.joined ∙ get_or-append l k 0 i q;
    }

packs_wider : {l n : List ℕ} → Wider l n → (d : Deed) (j c x : ℕ) → Packs l d j c x → Packs n d j c x
packs_wider w d j c x t = (t.0, (let q = w.longer in let p = t.1 in omega arith), w.entries t.0 t.1 ∙ t.2, t.3, t.4)

tells_wider : {l n : List ℕ} → Wider l n → (e : Event) (x : ℕ) → Tells l e x → Tells n e x
tells_wider w (opens j) x t = packs_wider w opening j 0 x t
tells_wider w (steps k j c) x t = packs_wider w (does k) j c x t
tells_wider w (ends j) x t = packs_wider w ending j 0 x t
tells_wider w (abandons j) x t = t

-- the same places tell the same, also with more jobs
told_wider : {l n : List ℕ} → Wider l n → (told then : List ℕ) (p : ℕ) (h : History) → ((i : ℕ) → i < p + length h → get_or then i 0 ≡ get_or told i 0) → Told l told p h → Told n then p h
told_wider w told then p [] f t = tt
told_wider {l} {n} w told then p (e ∷ h) f t = (
  tells_wider w e (get_or then p 0) (subst (Tells l e) (sym (f p (omega arith))) t.0),
  told_wider w told then (suc p) h (λ i q. f i (omega arith)) t.1,
)

-- one event more
told_next : (l told : List ℕ) (p : ℕ) (h : History) (e : Event) → Told l told p h → Tells l e (get_or told (p + length h) 0) → Told l told p (h ++ e ∷ [])
told_next l told p [] e t x = (subst (λ (i : ℕ). Tells l e (get_or told i 0)) (let z : p + 0 ≡ p = omega arith in z) x, tt)
told_next l told p (y ∷ h) e t x = (t.0, told_next l told (suc p) h e t.1 (subst (λ (i : ℕ). Tells l e (get_or told i 0)) (let z : p + suc (length h) ≡ suc p + length h = omega arith in z) x))

-- ---- one event more

-- the numbers told after an event: the same before place n, at n what tells of the event, and after it 0
module _ {h : History} {n : ℕ} {numbers states told : List ℕ} {count : ℕ} (t : Taken h n numbers states told count) (e : Event) where
  taken_next : {numbers₂ states₂ told₂ : List ℕ} {count₂ : ℕ} → Jobs (h ++ e ∷ []) numbers₂ states₂ count₂ → Tells (opened (h ++ e ∷ [])) e (get_or told₂ n 0)
      → ((i : ℕ) → (i ≡ n → ⊥) → get_or told₂ i 0 ≡ get_or told i 0) → length told₂ ≡ length told → Taken (h ++ e ∷ []) (suc n) numbers₂ states₂ told₂ count₂
  taken_next {told₂ = told₂} jobs x same long =
      let a = t.at in
      record {
        jobs = jobs;
        at = let l = length-append h (e ∷ []) in omega arith;
        steps_told =
            told_next (opened (h ++ e ∷ [])) told₂ zero h e
            (told_wider (wider (opened_grows h e)) told told₂ zero h (λ i q. same i (λ z. omega arith)) t.steps_told)
            (subst (λ (i : ℕ). Tells (opened (h ++ e ∷ [])) e (get_or told₂ i 0)) (let z : n ≡ 0 + length h = omega arith in z) x);
        rest = λ i q. same i (λ z. omega arith) ∙ t.rest i (omega arith);
        wide = long ∙ t.wide;
      }

  -- told nothing, the numbers stay
  taken_untold : {numbers₂ states₂ : List ℕ} {count₂ : ℕ} → Jobs (h ++ e ∷ []) numbers₂ states₂ count₂ → ((x : ℕ) → x ≡ 0 → Tells (opened (h ++ e ∷ [])) e x)
      → Taken (h ++ e ∷ []) (suc n) numbers₂ states₂ told count₂
  taken_untold jobs x = taken_next jobs (x (get_or told n 0) (t.rest n (omega arith))) (λ i f. refl) refl

  -- what the job at place i has done is told
  taken_told : (d : Deed) (j c i x : ℕ) {numbers₂ states₂ : List ℕ} {count₂ : ℕ} → Jobs (h ++ e ∷ []) numbers₂ states₂ count₂
      → ((y : ℕ) → Packs (opened (h ++ e ∷ [])) d j c y → Tells (opened (h ++ e ∷ [])) e y)
      → i < count₂ → get_or numbers₂ i 0 ≡ j → c < room d → n < length told → x ≡ packed_step i d c → Taken (h ++ e ∷ []) (suc n) numbers₂ states₂ (set told n x) count₂
  taken_told d j c i x jobs f q is real w z =
      taken_next jobs
      (f (get_or (set told n x) n 0) (i, (let m = jobs.many in omega arith), sym (jobs.named i q) ∙ is, real, get_or-set_same told n x 0 w ∙ z))
      (λ p ne. get_or-set_other told n p x 0 ne)
      (length-set told n x)

-- the table after an event of a job that is in it
module _ {h : History} {numbers states : List ℕ} {count : ℕ} (jobs : Jobs h numbers states count) (e : Event) (turn : InTurn h e) (o : opened (h ++ e ∷ []) ≡ opened h) where
  jobs_next : (states₂ : List ℕ) → ((i : ℕ) → i < count → get_or states₂ i 0 ≡ status (h ++ e ∷ []) (get_or (opened h) i 0)) → Padded states₂ most_jobs count
      → Jobs (h ++ e ∷ []) numbers states₂ count
  jobs_next states₂ f pad =
      record {
        turns = turns_next [] h e jobs.turns turn;
        many = jobs.many ∙ ap length (sym o);
        few = jobs.few;
        named = λ i q. jobs.named i q ∙ ap (λ (l : List ℕ). get_or l i 0) (sym o);
        stated = λ i q. f i q ∙ ap (λ (l : List ℕ). status (h ++ e ∷ []) (get_or l i 0)) (sym o);
        numbers_padded = jobs.numbers_padded;
        states_padded = pad;
      }

  -- every job stands as before
  jobs_same : ((i : ℕ) → status (h ++ e ∷ []) i ≡ status h i) → Jobs (h ++ e ∷ []) numbers states count
  jobs_same f = jobs_next states (λ i q. jobs.stated i q ∙ sym (f (get_or (opened h) i 0))) jobs.states_padded

  -- one job stands as s, the others as before
  jobs_set : (p j s : ℕ) → p < count → get_or numbers p 0 ≡ j → count ≤ length states → status (h ++ e ∷ []) j ≡ s → ((i : ℕ) → (i ≡ j → ⊥) → status (h ++ e ∷ []) i ≡ status h i)
      → Jobs (h ++ e ∷ []) numbers (set states p s) count
  jobs_set p j s q x l is others = jobs_next (set states p s) (λ i r. ⊎_elim (mine i r) (other i r) (answer (eq_test i p))) (padded_set jobs.states_padded p s q)
    where
      mine : (i : ℕ) → i < count → i ≡ p → get_or (set states p s) i 0 ≡ status (h ++ e ∷ []) (get_or (opened h) i 0)
      mine i r z =
          ap (λ (k : ℕ). get_or (set states p s) k 0) z ∙ get_or-set_same states p s 0 (omega arith)
          ∙ sym (ap (λ (k : ℕ). status (h ++ e ∷ []) (get_or (opened h) k 0)) z ∙ ap (status (h ++ e ∷ [])) (sym (jobs.named p q) ∙ x) ∙ is)

      other : (i : ℕ) → i < count → (i ≡ p → ⊥) → get_or (set states p s) i 0 ≡ status (h ++ e ∷ []) (get_or (opened h) i 0)
      other i r f =
          get_or-set_other states p i s 0 f ∙ jobs.stated i r
          ∙ sym (others (get_or (opened h) i 0) (λ z. f (same_entry jobs i p r q (jobs.named i r ∙ z ∙ sym x))))

-- the table after an open
jobs_opens : {h : History} {numbers states : List ℕ} {count : ℕ} → Jobs h numbers states count → (j : ℕ) → InTurn h (opens j) → count < most_jobs → count < length numbers → count < length states
    → Jobs (h ++ opens j ∷ []) (set numbers count j) (set states count 1) (count + 1)
jobs_opens {h} {numbers} {states} {count} jobs j turn few ln ls =
    record {
      turns = turns_next [] h (opens j) jobs.turns turn;
      many = let l : length (opened (h ++ opens j ∷ [])) ≡ length (opened h) + 1 = ap length o ∙ length-append (opened h) (j ∷ []) in let m = jobs.many in omega arith;
      few = omega arith;
      named = λ i q. ⊎_elim
          (λ r. get_or-set_other numbers count i j 0 (λ z. omega arith) ∙ jobs.named i r ∙ sym (old i r))
          (λ z. ap (λ (k : ℕ). get_or (set numbers count j) k 0) z ∙ get_or-set_same numbers count j 0 ln ∙ sym (new i z)) (last i q);
      stated = λ i q. ⊎_elim
          (λ r. get_or-set_other states count i 1 0 (λ z. omega arith) ∙ jobs.stated i r ∙ sym (ap (status (h ++ opens j ∷ [])) (old i r) ∙ same (get_or (opened h) i 0)))
          (λ z. ap (λ (k : ℕ). get_or (set states count 1) k 0) z ∙ get_or-set_same states count 1 0 ls ∙ sym (ap (status (h ++ opens j ∷ [])) (new i z) ∙ same j ∙ one)) (last i q);
      numbers_padded = padded_more jobs.numbers_padded j;
      states_padded = padded_more jobs.states_padded 1;
    }
  where
    o : opened (h ++ opens j ∷ []) ≡ opened h ++ j ∷ []
    o = (opened_grows h (opens j)).joined

    last : (i : ℕ) → i < count + 1 → (i < count) ⊎ (i ≡ count)
    last i q = ⊎_elim inl (λ f. let g : (i < count) → ⊥ = f in inr (omega arith)) (answer (lt_test i count))

    old : (i : ℕ) → i < count → get_or (opened (h ++ opens j ∷ [])) i 0 ≡ get_or (opened h) i 0
    old i r = ap (λ (l : List ℕ). get_or l i 0) o ∙ get_or-append (opened h) (j ∷ []) 0 i (let m = jobs.many in omega arith)

    new : (i : ℕ) → i ≡ count → get_or (opened (h ++ opens j ∷ [])) i 0 ≡ j
    new i z = ap (λ (l : List ℕ). get_or l i 0) o ∙ get_or_at (opened h) j [] 0 i (let m = jobs.many in omega arith)

    same : (i : ℕ) → status (h ++ opens j ∷ []) i ≡ status h i
    same i = status_same h (opens j) i (λ m. Memᴰ.not-nil m) (λ m. Memᴰ.not-nil m) (λ s m w. unaltered m (λ t. t) w.1)

    -- the new job is above all that were opened, so nothing was done for it
    fresh : j ∈ opened h → ⊥
    fresh m = let q = turn j m in omega arith

    one : status h j ≡ 1
    one =
        by_status h j (λ n. n ≡ 1)
        (λ a. absurd (fresh ((orderly h jobs.turns).abandoned_opened j a)))
        (λ na d. absurd (fresh ((orderly h jobs.turns).ended_opened j d)))
        (λ na nd w. let r = (wrote_test h j).holds w in absurd (fresh (subst (λ (i : ℕ). i ∈ opened h) r.2.0 ((orderly h jobs.turns).stepped r.0 r.1))))
        (λ na nd nw. refl)

-- ---- how the job of an event stands after it

module _ (h : History) (j : ℕ) (m : j ∈ open_now h) where
  status_alters : (k : Kind) → T (alters k) → (c : ℕ) → status (h ++ steps k j c ∷ []) j ≡ 2
  status_alters k a c =
      let e = steps k j c in
      by_status (h ++ e ∷ []) j (λ n. n ≡ 2)
      (λ a. absurd (open_not_abandoned h m (⊎_elim (λ x. x) (λ x. absurd (Memᴰ.not-nil x)) (which_in (abandoned_grows h e) a))))
      (λ na d. absurd ((open_from h m).1 (⊎_elim (λ x. x) (λ x. absurd (Memᴰ.not-nil x)) (which_in (ended_grows h e) d))))
      (λ na nd w. refl)
      (λ na nd nw. absurd (nw ((wrote_test (h ++ e ∷ []) j).shows (step_at (length h) (does k) j c, new_in (all_steps_grows h e) here, (refl, a)))))

  status_ends : status (h ++ ends j ∷ []) j ≡ 3
  status_ends =
      by_status (h ++ ends j ∷ []) j (λ n. n ≡ 3)
      (λ a. absurd (open_not_abandoned h m (⊎_elim (λ x. x) (λ x. absurd (Memᴰ.not-nil x)) (which_in (abandoned_grows h (ends j)) a))))
      (λ na d. refl)
      (λ na nd w. absurd (nd (new_in (ended_grows h (ends j)) here)))
      (λ na nd nw. absurd (nd (new_in (ended_grows h (ends j)) here)))

  status_abandons : status (h ++ abandons j ∷ []) j ≡ 4
  status_abandons =
      let g = new_in (abandoned_grows h (abandons j)) here in
      by_status (h ++ abandons j ∷ []) j (λ n. n ≡ 4) (λ a. refl) (λ na d. absurd (na g)) (λ na nd w. absurd (na g)) (λ na nd nw. absurd (na g))

module _ (h : History) (j i : ℕ) where
  others_steps : (k : Kind) (c : ℕ) → (i ≡ j → ⊥) → status (h ++ steps k j c ∷ []) i ≡ status h i
  others_steps k c f =
      status_same h (steps k j c) i (λ m. Memᴰ.not-nil m) (λ m. Memᴰ.not-nil m)
      (λ s m w. f (sym w.0 ∙ ap (λ (x : Step). x.job) (Memᴰ.eq_of_singleton m)))

  others_reads : (c : ℕ) → status (h ++ steps read j c ∷ []) i ≡ status h i
  others_reads c =
      status_same h (steps read j c) i (λ m. Memᴰ.not-nil m) (λ m. Memᴰ.not-nil m)
      (λ s m w. unaltered m (λ t. t) w.1)

  others_ends : (i ≡ j → ⊥) → status (h ++ ends j ∷ []) i ≡ status h i
  others_ends f = status_same h (ends j) i (λ m. Memᴰ.not-nil m) (λ m. f (Memᴰ.eq_of_singleton m)) (λ s m w. unaltered m (λ t. t) w.1)

  others_abandons : (i ≡ j → ⊥) → status (h ++ abandons j ∷ []) i ≡ status h i
  others_abandons f = status_same h (abandons j) i (λ m. f (Memᴰ.eq_of_singleton m)) (λ m. Memᴰ.not-nil m) (λ s m w. Memᴰ.not-nil m)

-- ---- what the table tells of a job

module _ {h : History} {numbers states : List ℕ} {count : ℕ} (jobs : Jobs h numbers states count) where
  -- an open is above all jobs where it is above the last one
  above : (j : ℕ) → (count ≡ 0) ⊎ (get_or numbers (count - 1) 0 < j) → (i : ℕ) → i ∈ opened h → i < j
  above j f i m =
      let r = member_at (opened h) i m in
      let n = jobs.many in
      let q : r.0 < count = (let p = r.1 in omega arith) in
      let x : get_or numbers r.0 0 ≡ i = jobs.named r.0 q ∙ r.2 in
      ⊎_elim (λ z. absurd (omega arith))
      (λ l. ⊎_elim (λ b. let y = rises jobs r.0 (count - 1) b (omega arith) in omega arith)
      (λ b. let g : (r.0 < count - 1) → ⊥ = b in let e : get_or numbers r.0 0 ≡ get_or numbers (count - 1) 0 = ap (λ (k : ℕ). get_or numbers k 0) (omega arith) in omega arith)
      (answer (lt_test r.0 (count - 1)))) f

  not_above : (j : ℕ) → (count ≡ 0 → ⊥) → j ≤ get_or numbers (count - 1) 0 → ((i : ℕ) → i ∈ opened h → i < j) → ⊥
  not_above j f l a =
      let g : (count ≡ 0) → ⊥ = f in
      let q = a (get_or numbers (count - 1) 0) (found_opened jobs (count - 1) (get_or numbers (count - 1) 0) (omega arith) refl) in
      omega arith

  module _ {j i : ℕ} (f : Finds count numbers j i) where
    place : (i ≡ count → ⊥) → (i < count) × (get_or numbers i 0 ≡ j)
    place g = ⊎_elim (λ r. r) (λ r. absurd (g r.0)) f

    unknown : i ≡ count → j ∈ open_now h → ⊥
    unknown e m = ⊎_elim (λ r. let q = r.0 in omega arith) (λ r. not_found jobs j r.1 (open_opened h m)) f

    state : (i ≡ count → ⊥) → get_or states i 0 ≡ status h j
    state g = let r = place g in found_state jobs i j r.0 r.1

    known : (i ≡ count → ⊥) → j ∈ opened h
    known g = let r = place g in found_opened jobs i j r.0 r.1

    shut : (i ≡ count → ⊥) → 2 < get_or states i 0 → j ∈ open_now h → ⊥
    shut g l m = let s = state g in let q = (status_open h j (known g)).1 m in omega arith

    is_open : (i ≡ count → ⊥) → get_or states i 0 ≤ 2 → j ∈ open_now h
    is_open g l = let s = state g in (status_open h j (known g)).0 (omega arith)

    barred : (i ≡ count → ⊥) → (get_or states i 0 ≡ 1 → ⊥) → (j ∈ open_now h → ⊥) ⊎ T (wrote h j)
    barred g ne = ⊎_elim inr (λ nw. inl (λ m. ne (state g ∙ (status_one h j (known g)).1 (m, nw)))) (answer (own_test (wrote h j)))

    unbarred : (i ≡ count → ⊥) → get_or states i 0 ≡ 1 → (j ∈ open_now h) × (T (wrote h j) → ⊥)
    unbarred g e = (status_one h j (known g)).0 (sym (state g) ∙ e)

-- ---- a record, taken: one law for each way out

module _ {h : History} {n : ℕ} {numbers states told : List ℕ} {count : ℕ} where
  -- ill-formed
  pub takes_byte : (k b c j : ℕ) → (b ≡ 0 → ⊥) → Takes h n (asked k b c j) 12 numbers states told count
  takes_byte k b c j f = refused 11 (byte_ill h k b c j f)

  pub takes_kind : (k b c j : ℕ) → (k ≡ 1 → ⊥) → (k ≡ 2 → ⊥) → (k ≡ 3 → ⊥) → (k ≡ 4 → ⊥) → (k ≡ 5 → ⊥) → (k ≡ 7 → ⊥) → Takes h n (asked k b c j) 12 numbers states told count
  takes_kind k b c j n1 n2 n3 n4 n5 n7 = refused 11 (kind_ill h k b c j n1 n2 n3 n4 n5 n7)

  pub takes_open_ill : (c j : ℕ) → (c ≡ 0 → ⊥) → Takes h n (asked 1 0 c j) 12 numbers states told count
  takes_open_ill c j f = refused 11 (open_ill h c j f)

  pub takes_step_ill : (k : Kind) (c j : ℕ) → cells ≤ c → Takes h n (asked (kind_number k) 0 c j) 12 numbers states told count
  takes_step_ill k c j f = refused 11 (step_ill h c j k f)

  pub takes_end_ill : (c j : ℕ) → (c ≡ 0 → ⊥) → Takes h n (asked 4 0 c j) 12 numbers states told count
  takes_end_ill c j f = refused 11 (end_ill h c j f)

  pub takes_abandon_ill : (c j : ℕ) → (c ≡ 0 → ⊥) → Takes h n (asked 5 0 c j) 12 numbers states told count
  takes_abandon_ill c j f = refused 11 (abandon_ill h c j f)

module _ {h : History} {n : ℕ} {numbers states told : List ℕ} {count : ℕ} (t : Taken h n numbers states told count) where
  -- an open
  pub takes_open_low : {c j : ℕ} → c ≡ 0 → (count ≡ 0 → ⊥) → j ≤ get_or numbers (count - 1) 0 → Takes h n (asked 1 0 c j) 13 numbers states told count
  takes_open_low {c} {j} z f l = refused 12 (open_low h c j z (not_above t.jobs j f l))

  pub takes_open_many : {c j : ℕ} → c ≡ 0 → (count ≡ 0) ⊎ (get_or numbers (count - 1) 0 < j) → 512 ≤ count → Takes h n (asked 1 0 c j) 14 numbers states told count
  takes_open_many {c} {j} z f l = refused 13 (open_many h c j z (above t.jobs j f) (let m = t.jobs.many in omega arith))

  pub takes_open : {c j x : ℕ} → c ≡ 0 → (count ≡ 0) ⊎ (get_or numbers (count - 1) 0 < j) → count < 512 → length numbers ≡ 512 → length states ≡ 512 → n < length told
      → x ≡ count * 770 + 769 → Takes h n (asked 1 0 c j) 0 (set numbers count j) (set states count 1) (set told n x) (count + 1)
  unfolding want event_of
  takes_open {c} {j} {x} z f l ln ls w e =
      let a = above t.jobs j f in
      record {
        fault = sym (open_good h c j z a (λ q. let m = t.jobs.many in omega arith));
        next = λ y. taken_told t (opens j) opening j 0 count x (jobs_opens t.jobs j a l (omega arith) (omega arith)) (λ v p. p) (omega arith)
            (get_or-set_same numbers count j 0 (omega arith)) (omega arith) w (omega arith);
      }

  module _ {j i : ℕ} (f : Finds count numbers j i) where
    -- a step
    pub takes_step_unknown : (k : Kind) {c : ℕ} → c < cells → i ≡ count → Takes h n (asked (kind_number k) 0 c j) 13 numbers states told count
    takes_step_unknown k {c} l e = refused 12 (step_shut h c j k (λ q. omega arith) (unknown t.jobs f e))

    pub takes_step_shut : (k : Kind) {c : ℕ} → c < cells → (i ≡ count → ⊥) → 2 < get_or states i 0 → Takes h n (asked (kind_number k) 0 c j) 13 numbers states told count
    takes_step_shut k {c} l g s = refused 12 (step_shut h c j k (λ q. omega arith) (shut t.jobs f g s))

    module _ {c : ℕ} (l : c < cells) (g : i ≡ count → ⊥) (s : get_or states i 0 ≤ 2) where
      -- a job that has written or added stands so
      after_alters : (k : Kind) → T (alters k) → count ≤ length states → Jobs (h ++ steps k j c ∷ []) numbers (set states i 2) count
      after_alters k a ls =
          let m = is_open t.jobs f g s in
          let r = place t.jobs f g in
          jobs_set t.jobs (steps k j c) (m, l) (stays (opened_grows h (steps k j c))) i j 2 r.0 r.1 ls (status_alters h j m k a c) (λ p ne. others_steps h j p k c ne)

      module _ {x : ℕ} (w : n < length told) where
        -- the step is told
        as_told : (k : Kind) {states₂ : List ℕ} → x ≡ packed_step i (does k) c → Jobs (h ++ steps k j c ∷ []) numbers states₂ count → Taken (h ++ steps k j c ∷ []) (suc n) numbers states₂ (set told n x) count
        as_told k e jobs = let r = place t.jobs f g in taken_told t (steps k j c) (does k) j c i x jobs (λ v p. p) r.0 r.1 l w e

        takes_read : x ≡ packed_step i (does read) c → Takes h n (asked 2 0 c j) 0 numbers states (set told n x) count
        unfolding want event_of
        takes_read e =
            let m = is_open t.jobs f g s in
            record {
              fault = sym (step_good h c j read (λ q. omega arith) m);
              next = λ z. as_told read e (jobs_same t.jobs (steps read j c) (m, l) (stays (opened_grows h (steps read j c))) (λ p. others_reads h j p c));
            }

        takes_alters : (k : Kind) → T (alters k) → x ≡ packed_step i (does k) c → count ≤ length states → Takes h n (asked (kind_number k) 0 c j) 0 numbers (set states i 2) (set told n x) count
        unfolding want event_of
        takes_alters read a e ls = absurd a
        takes_alters write a e ls = record { fault = sym (step_good h c j write (λ q. omega arith) (is_open t.jobs f g s)); next = λ z. as_told write e (after_alters write tt ls) }
        takes_alters add a e ls = record { fault = sym (step_good h c j add (λ q. omega arith) (is_open t.jobs f g s)); next = λ z. as_told add e (after_alters add tt ls) }

        -- any of the three, as the code joins them: the first of the rows of its kind is 0, or its job has altered a cell
        pub takes_step : (k : Kind) {row : ℕ} {states₂ : List ℕ} → row ≡ first_row k → count ≤ length states → x ≡ i * 770 + row + c + 1
            → ((row ≡ 0 → ⊥) × (states₂ ≡ set states i 2)) ⊎ ((row ≡ 0) × (states₂ ≡ states)) → Takes h n (asked (kind_number k) 0 c j) 0 numbers states₂ (set told n x) count
        takes_step read o ls e (inl r) = absurd (r.0 o)
        takes_step read o ls e (inr r) = subst (λ (s : List ℕ). Takes h n (asked 2 0 c j) 0 numbers s (set told n x) count) (sym r.1) (takes_read (omega arith))
        takes_step write o ls e (inl r) = subst (λ (s : List ℕ). Takes h n (asked 3 0 c j) 0 numbers s (set told n x) count) (sym r.1) (takes_alters write tt (omega arith) ls)
        takes_step write o ls e (inr r) = absurd (let z = r.0 in omega arith)
        takes_step add o ls e (inl r) = subst (λ (s : List ℕ). Takes h n (asked 7 0 c j) 0 numbers s (set told n x) count) (sym r.1) (takes_alters add tt (omega arith) ls)
        takes_step add o ls e (inr r) = absurd (let z = r.0 in omega arith)

    -- an end
    pub takes_end_unknown : {c : ℕ} → c ≡ 0 → i ≡ count → Takes h n (asked 4 0 c j) 13 numbers states told count
    takes_end_unknown {c} z e = refused 12 (end_shut h c j z (unknown t.jobs f e))

    pub takes_end_shut : {c : ℕ} → c ≡ 0 → (i ≡ count → ⊥) → 2 < get_or states i 0 → Takes h n (asked 4 0 c j) 13 numbers states told count
    takes_end_shut {c} z g s = refused 12 (end_shut h c j z (shut t.jobs f g s))

    pub takes_end : {c x : ℕ} → c ≡ 0 → (i ≡ count → ⊥) → get_or states i 0 ≤ 2 → n < length told → x ≡ i * 770 + 770 → count ≤ length states
        → Takes h n (asked 4 0 c j) 0 numbers (set states i 3) (set told n x) count
    unfolding want event_of
    takes_end {c} {x} z g s w e ls =
        let m = is_open t.jobs f g s in
        let r = place t.jobs f g in
        record {
          fault = sym (end_good h c j z m);
          next = λ y. taken_told t (ends j) ending j 0 i x
              (jobs_set t.jobs (ends j) m (stays (opened_grows h (ends j))) i j 3 r.0 r.1 ls (status_ends h j m) (λ p ne. others_ends h j p ne))
              (λ v p. p) r.0 r.1 (omega arith) w (omega arith);
        }

    -- an abandon
    pub takes_abandon_unknown : {c : ℕ} → c ≡ 0 → i ≡ count → Takes h n (asked 5 0 c j) 13 numbers states told count
    takes_abandon_unknown {c} z e = refused 12 (abandon_bar h c j z (inl (unknown t.jobs f e)))

    pub takes_abandon_barred : {c : ℕ} → c ≡ 0 → (i ≡ count → ⊥) → (get_or states i 0 ≡ 1 → ⊥) → Takes h n (asked 5 0 c j) 13 numbers states told count
    takes_abandon_barred {c} z g s = refused 12 (abandon_bar h c j z (barred t.jobs f g s))

    pub takes_abandon : {c : ℕ} → c ≡ 0 → (i ≡ count → ⊥) → get_or states i 0 ≡ 1 → count ≤ length states → Takes h n (asked 5 0 c j) 0 numbers (set states i 4) told count
    unfolding want event_of
    takes_abandon {c} z g s ls =
        let m = unbarred t.jobs f g s in
        let r = place t.jobs f g in
        record {
          fault = sym (abandon_good h c j z m.0 m.1);
          next = λ e. taken_untold t (abandons j)
              (jobs_set t.jobs (abandons j) m (stays (opened_grows h (abandons j))) i j 4 r.0 r.1 ls (status_abandons h j m.0) (λ p ne. others_abandons h j p ne)) (λ x q. q);
        }

-- ---- by kind

module _ {h : History} {n k b c j r : ℕ} {numbers states told : List ℕ} {count : ℕ} where
  -- a record whose kind and byte 1 are known
  pub takes_as : {k₀ : ℕ} → k ≡ k₀ → b ≡ 0 → Takes h n (asked k₀ 0 c j) r numbers states told count → Takes h n (asked k b c j) r numbers states told count
  takes_as e z = subst₂ (λ (x y : ℕ). Takes h n (asked x y c j) r numbers states told count) (sym e) (sym z)
