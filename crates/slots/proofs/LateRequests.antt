-- What the proofs of the second profile's requests need beyond the contracts of the functions that they call: a law for each way out of a publish and for each
-- kind of request (`lates-..`), as RequestLaws has them for the first profile.
-- Assumes nothing.
use mathlib.Core.Path.{◌≡◌, refl, sym, ap, ◌∙◌, subst}
use mathlib.Core.Bool.{Bool, true, false, not, cond}
use mathlib.Core.Option.{Option}
use mathlib.Core.List.{List, [], ◌∷◌}
use Prim.Native.Nat.{ℕ, ◌%◌}
use native.Mathlib.Nat.{mod-eq_of_lt}
use lib.Dec.{eqb}
use lib.ListN.{get_or}
use borrow.Author.Tests.{ne_eqb}
use Rattle.std.specs.Prelude.{Result, Ok, Err, None}
use Rattle.graph.specs.Decide.{eq_test, by_test}
use Rattle.marks.specs.Marks.{bit}
use Rattle.history.specs.Events.{read, write}
use Rattle.history.specs.Replies.{Request, Reply, ◌gives◌, first_of, an_open, an_abandon, want, tests, code_of, job_of, reply_of}
use Rattle.held.specs.Held.{Held, is_some, at_slot, with_slot, open_at, leads_at, word_at, cell_at, slot_of, touched, facts, stepped_at, ended_at, moved}
use Rattle.late.specs.Late.{asks, publishes, named, late_kind, in_profile, untested, publish_code, publish_answer}
use Rattle.late.specs.LateHeld.{put_down, leads_back, held_code, late_answer, late_next}
use Rattle.rows.specs.Rows.{rows_of, links_of, Writes}
use Rattle.slots.specs.Lent.{lent, numbered, code_for, Does, code_asked, Asks, Lates}
use Rattle.slots.specs.Finds.{slot_with}
use Rattle.slots.specs.Requests.{fields_of, kind_number}
use Rattle.slots.specs.declared.JobNumber.{JobNumber}
use Rattle.slots.specs.declared.Kind.{Kind}
use Rattle.slots.specs.declared.Kind.TheVariants.{Open, Read, Write, End, Abandon, Publish, Add}
use Rattle.slots.specs.declared.Refusal.{Refusal}
use Rattle.slots.specs.declared.Refusal.TheVariants.{Malformed, NotOpen, Circle}
use Rattle.slots.specs.declared.Request as Fields
use Rattle.slots.proofs.LowestLaws.{Found, slot_none}
use Rattle.slots.proofs.RequestLaws.{lent_same, ended_with, no_kind}

-- ---- a request

abbrev reply_at : Held → Request → ℕ → Reply
reply_at h q n = record { code = n; job = cond (eqb n 0) (job_of h.next (want (late_kind q.kind)) q.job) 0 }

abbrev state_at : Held → Request → ℕ → Held
state_at h q n = cond (eqb n 0) (moved h (want (late_kind q.kind)) q.job q.cell) h

lates_by : {h g : Held} {r : Result JobNumber Refusal} (q : Request) (n : ℕ) → code_of (untested (facts h)) (in_profile q) ≡ n → numbered r ≡ reply_at h q n
    → g ≡ state_at h q n → Lates h (asks q) r g
unfolding late_answer late_next reply_of facts
lates_by {h} q n e a l = record { answered = a ∙ ap (reply_at h q) (sym e); left = l ∙ ap (state_at h q) (sym e) }

module _ {h : Held} {q : Request} where
  pub lates_malformed : ((a : Fields.Request) → fields_of a ≡ q → ⊥) → Lates h (asks q) (Err Malformed) h
  unfolding code_of want tests
  lates_malformed none_so =
      lates_by q 1
      (by_test (λ (b : Bool). first_of ((not b gives 1) ∷ tests (untested (facts h)) (want (late_kind q.kind)) q.job q.cell) ≡ 1) (eq_test q.byte1 0) (λ z. kinds (no_kind none_so z)) (λ n. refl)) refl refl
    where
      kinds : ((k : Kind) → q.kind ≡ kind_number k → ⊥) → first_of (tests (untested (facts h)) (want (late_kind q.kind)) q.job q.cell) ≡ 1
      kinds n = let k = q.kind in rw (ne_eqb k 1 (n Open), ne_eqb k 2 (n Read), ne_eqb k 5 (n Abandon)) refl

  -- a well-formed request is that of its kind
  module _ (a : Fields.Request) (e : fields_of a ≡ q) where
    -- of a kind that the profile has not, as the last arm of a match says it
    pub lates_kind : (a.kind ≡ Open → ⊥) → (a.kind ≡ Read → ⊥) → (a.kind ≡ Abandon → ⊥) → Lates h (asks q) (Err Malformed) h
    unfolding code_of want tests
    lates_kind o w b = subst (λ (q : Request). Lates h (asks q) (Err Malformed) h) e (go a.kind refl)
      where
        go : (k : Kind) → a.kind ≡ k → Lates h (asks (fields_of a)) (Err Malformed) h
        go Open q = absurd (o q)
        go Read q = absurd (w q)
        go Abandon q = absurd (b q)
        go Write q = lates_by (fields_of a) 1 (rw q refl) refl refl
        go End q = lates_by (fields_of a) 1 (rw q refl) refl refl
        go Publish q = lates_by (fields_of a) 1 (rw q refl) refl refl
        go Add q = lates_by (fields_of a) 1 (rw q refl) refl refl

    as_kind : {k : Kind} {r : Result JobNumber Refusal} {g : Held} → a.kind ≡ k → Lates h (asks (fields_of (record a { kind = k }))) r g → Lates h (asks q) r g
    as_kind {r = r} {g = g} k d = subst (λ (q : Request). Lates h (asks q) r g) e (subst (λ (k : Kind). Lates h (asks (fields_of (record a { kind = k }))) r g) (sym k) d)

    pub lates_open : {r : Result JobNumber Refusal} {g : Held} → a.kind ≡ Open → Does h an_open a.job.0 0 r g → Lates h (asks q) r g
    unfolding late_answer late_next reply_of code_of want tests code_for facts job_of moved
    lates_open k d = as_kind k (record { answered = d.answered; left = d.left })

    pub lates_read : {r : Result JobNumber Refusal} {g : Held} → a.kind ≡ Read → Asks h false read a.job.0 a.cell r g → Lates h (asks q) r g
    unfolding late_answer late_next reply_of code_of want tests code_asked facts job_of moved
    lates_read k d = as_kind k (record { answered = d.answered; left = d.left })

    pub lates_abandon : {r : Result JobNumber Refusal} {g : Held} → a.kind ≡ Abandon → Does h an_abandon a.job.0 0 r g → Lates h (asks q) r g
    unfolding late_answer late_next reply_of code_of want tests code_for facts job_of moved
    lates_abandon k d = as_kind k (record { answered = d.answered; left = d.left })

-- ---- a publish

code_publish : {b : Bool} {o : Option ℕ} (h : Held) (j : ℕ) (cs : List ℕ) → slot_of h j ≡ o → at_slot o (λ s. leads_back h s cs) ≡ b → held_code h j cs ≡ cond (not (is_some o)) 3 (cond b 7 0)
unfolding held_code publish_code
code_publish {b} {o} h j cs q r =
    ap (λ (o : Option ℕ). cond (not (is_some o)) 3 (cond (at_slot o (λ s. leads_back h s cs)) 7 0)) q ∙ ap (λ (b : Bool). cond (not (is_some o)) 3 (cond b 7 0)) r

abbrev published_at : Held → ℕ → List ℕ → ℕ → Held
published_at h j ws n = cond (eqb n 0) (with_slot (slot_of h j) (λ s. ended_at (put_down h s (named ws)) s) h) h

publishes_by : {h g : Held} {j : ℕ} {ws : List ℕ} {r : Result JobNumber Refusal} (n : ℕ) → held_code h j (named ws) ≡ n → numbered r ≡ publish_answer n j
    → g ≡ published_at h j ws n → Lates h (publishes j ws) r g
unfolding late_answer late_next
publishes_by {h} {j = j} {ws = ws} n e a l = record { answered = a ∙ ap (λ (x : ℕ). publish_answer x j) (sym e); left = l ∙ ap (published_at h j ws) (sym e) }

pub lates_publish_not_open : {h : Held} {j : ℕ} {ws : List ℕ} → slot_with h.free h.numbers j ≡ None → Lates h (publishes j ws) (Err NotOpen) h
lates_publish_not_open {h} {j} {ws} e = publishes_by 3 (code_publish h j (named ws) (slot_none h j e) refl) refl refl

-- the writes look at no number and no port, and change none
down_with : (next free : ℕ) (numbers leads sets ports : List ℕ) (s : ℕ) (cs : List ℕ)
    → let d = put_down (links_of free leads sets) s cs in put_down (lent next free numbers leads sets ports) s cs ≡ lent next d.free numbers d.leads d.sets ports
unfolding stepped_at open_at leads_at touched cell_at word_at
down_with next free numbers leads sets ports s [] = refl
down_with next free numbers leads sets ports s (c ∷ cs) =
    let t = stepped_at (links_of free leads sets) write s c in down_with next free numbers t.leads t.sets ports s cs

-- what `write_set` has written, at the slot as it is
module _ {h : Held} {j s : ℕ} {b : Bool} {leads₁ sets₁ : List ℕ} (ws : List ℕ) (f : Found h j s)
    (t : Writes (links_of h.free h.leads h.sets) (s % 32) (named ws) b leads₁ sets₁) where
  abbrev links : Held
  links = links_of h.free h.leads h.sets

  wrote : Writes links s (named ws) b leads₁ sets₁
  wrote = subst (λ (s : ℕ). Writes links s (named ws) b leads₁ sets₁) (mod-eq_of_lt f.inside) t

  down : put_down h s (named ws) ≡ lent h.next (put_down links s (named ws)).free h.numbers (put_down links s (named ws)).leads (put_down links s (named ws)).sets h.ports
  down = down_with h.next h.free h.numbers h.leads h.sets h.ports s (named ws)

  wrote_code : {x : Bool} → b ≡ x → held_code h j (named ws) ≡ cond x 7 0
  unfolding leads_back leads_at
  wrote_code e = code_publish h j (named ws) f.first (ap (λ (x : Held). bit (get_or x.leads s 0) s) down ∙ sym wrote.told ∙ e)

  wrote_left : {x : Bool} → b ≡ x → links_of h.free leads₁ sets₁ ≡ cond x links (put_down links s (named ws))
  wrote_left e = wrote.left ∙ ap (λ (x : Bool). cond x links (put_down links s (named ws))) e

  pub lates_publish_circle : b ≡ true → Lates h (publishes j ws) (Err Circle) (lent h.next h.free h.numbers leads₁ sets₁ h.ports)
  lates_publish_circle e =
      let l = wrote_left e in
      publishes_by 7 (wrote_code e) refl (lent_same refl refl refl (λ i. (l i).leads) (λ i. (l i).sets) refl)

  pub lates_publish_granted : {x : JobNumber} {left : ℕ} {numbers leads sets : List ℕ} → b ≡ false
      → rows_of left numbers leads sets ≡ ended_at (rows_of h.free h.numbers leads₁ sets₁) (s % 32) → x.0 ≡ j
      → Lates h (publishes j ws) (Ok x) (lent h.next left numbers leads sets h.ports)
  lates_publish_granted e ends g =
      let l = wrote_left e in
      publishes_by 0 (wrote_code e) (λ i. record { code = 0; job = g i })
      (ended_with h.next h.free h.numbers leads₁ sets₁ h.ports f.inside ends
      ∙ ap (λ (x : Held). ended_at x s) ((λ i. lent h.next (l i).free h.numbers (l i).leads (l i).sets h.ports) ∙ sym down)
      ∙ ap (λ (o : Option ℕ). with_slot o (λ s. ended_at (put_down h s (named ws)) s) h) (sym f.first))
