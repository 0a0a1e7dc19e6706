-- What the proofs of the requests need: a law for each way out of a step that is tested (`off-..`) and of a request that is tested (`put-off-..`), and what is left of a request that is put off,
-- and of one that is not.
-- Assumes nothing.
use mathlib.Core.Path.{◌≡◌, refl, sym, ap, ap₂, subst, ◌∙◌}
use mathlib.Core.Bool.{Bool, true, false, not, ◌&&◌, cond, and-false}
use mathlib.Core.Option.{Option, none}
use mathlib.Core.Logic.{◌⊎◌, inl, inr}
use mathlib.Core.List.{List, []}
use Prim.Native.Nat.{ℕ, ◌≤◌, ◌<◌}
use lib.Dec.{leb, eqb}
use Rattle.std.specs.Prelude.{Result, Ok, Err}
use borrow.Author.Tests.{le-leb, lt-leb, ne_eqb}
use Rattle.graph.specs.Decide.{by_test, eq_test}
use Rattle.history.specs.Events.{Kind, alters}
use Rattle.history.specs.Replies.{Request, Want, an_open, an_end, an_abandon, nothing, want}
use Rattle.held.specs.Held.{Held, at_slot, open_at, open_slots, number_at, word_at, cell_at, slot_of, after, answer_to}
use Rattle.rows.specs.Rows.{rows_of}
use Rattle.slots.specs.Lent.{lent, numbered, Steps}
use Rattle.slots.specs.Requests.{kind_number, fields_of}
use Rattle.slots.specs.declared.JobNumber.{JobNumber}
use Rattle.slots.specs.declared.Kind as Asked
use Rattle.slots.specs.declared.Kind.TheVariants as Kinds
use Rattle.slots.specs.declared.Refusal.{Refusal}
use Rattle.slots.specs.declared.Request as Fields
use Rattle.slots.proofs.LowestLaws.{Found}
use Rattle.slots.proofs.RequestLaws.{no_kind}
use Rattle.locks.specs.Locks.{of_step}
use Rattle.locks.specs.LocksHeld.{barred, put_off_at, lock_answer, lock_next}
use Rattle.locking.specs.Locking.{lock_numbered, Locks, barred_by, held_off}
use Rattle.locking.specs.declared.LockRefusal.{LockRefusal}
use Rattle.locking.specs.declared.LockRefusal.TheVariants.{PutOff, First}

-- ---- a step

-- only the free slots and the sets are looked at
barred_rows : (h : Held) (b : Bool) (s c : ℕ) → barred_by (rows_of h.free [] [] h.sets) b s c ≡ barred_by h b s c
unfolding open_slots open_at word_at cell_at
barred_rows h b s c = refl

module _ (h : Held) (b : Bool) (j c : ℕ) where
  pub off_no_cell : 256 ≤ c → false ≡ held_off h b j c
  off_no_cell q = sym (ap (λ (t : Bool). not t && at_slot (slot_of h j) (λ s. barred_by h b s c)) (le-leb 256 c q))

  pub off_not_open : slot_of h j ≡ none → false ≡ held_off h b j c
  off_not_open e = sym (ap (λ (o : Option ℕ). not (leb 256 c) && at_slot o (λ s. barred_by h b s c)) e ∙ and-false (not (leb 256 c)))

  pub off_barred : {s : ℕ} {r : Bool} → c < 256 → Found h j s → r ≡ barred_by (rows_of h.free [] [] h.sets) b s c → r ≡ held_off h b j c
  off_barred {s} {r} q f e =
      e
      ∙ barred_rows h b s c
      ∙ sym (ap₂ (λ (t : Bool) (o : Option ℕ). not t && at_slot o (λ i. barred_by h b i c)) (lt-leb 256 c q) f.first)

-- ---- a request

-- a kind that is no step's and no publish's
none_of : (f : Kind → Bool) (p q s : Bool) → of_step f (cond p an_open (cond q an_end (cond s an_abandon nothing))) ≡ false
none_of f true q s = refl
none_of f false true s = refl
none_of f false false true = refl
none_of f false false false = refl

rest_want : (k : ℕ) (f : Kind → Bool) → (k ≡ 2 → ⊥) → (k ≡ 3 → ⊥) → (k ≡ 6 → ⊥) → (k ≡ 7 → ⊥) → of_step f (want k) ≡ false
unfolding want
rest_want k f two three six seven = rw (ne_eqb k 2 two, ne_eqb k 3 three, ne_eqb k 6 six, ne_eqb k 7 seven) (none_of f (eqb k 1) (eqb k 4) (eqb k 5))

module _ (h : Held) (q : Request) where
  -- by what is asked for, once byte 1 is known
  abbrev wanted : Bool → Want → Bool
  wanted z w = z && of_step (λ k. held_off h (alters k) q.job q.cell) w

  as_wanted : put_off_at h q ≡ wanted (eqb q.byte1 0) (want q.kind)
  unfolding put_off_at barred
  as_wanted = refl

module _ (h : Held) {q : Request} where
  -- what is no well-formed request
  pub put_off_none : ((a : Fields.Request) → fields_of a ≡ q → ⊥) → false ≡ put_off_at h q
  put_off_none none_so =
      sym
      (as_wanted h q
      ∙ by_test (λ (z : Bool). wanted h q z (want q.kind) ≡ false) (eq_test q.byte1 0)
      (λ z.
      let n = no_kind none_so z in
      rest_want q.kind (λ k. held_off h (alters k) q.job q.cell) (n Kinds.Read) (n Kinds.Write) (n Kinds.Publish) (n Kinds.Add))
      (λ n. refl))

  -- a well-formed request, by its kind
  module _ (a : Fields.Request) (e : fields_of a ≡ q) {r : Bool} where
    by_kind : (k : Asked.Kind) → a.kind ≡ k → r ≡ of_step (λ k. held_off h (alters k) a.job.0 a.cell) (want (kind_number k)) → r ≡ put_off_at h q
    unfolding put_off_at barred
    by_kind k ek t =
        subst (λ (q : Request). r ≡ put_off_at h q) e
        (t ∙ ap (λ (k : Asked.Kind). of_step (λ (k : Kind). held_off h (alters k) a.job.0 a.cell) (want (kind_number k))) (sym ek))

    pub put_off_read : a.kind ≡ Kinds.Read → r ≡ held_off h false a.job.0 a.cell → r ≡ put_off_at h q
    unfolding want
    put_off_read k = by_kind Kinds.Read k

    pub put_off_alters : (a.kind ≡ Kinds.Write) ⊎ ((a.kind ≡ Kinds.Publish) ⊎ (a.kind ≡ Kinds.Add)) → r ≡ held_off h true a.job.0 a.cell → r ≡ put_off_at h q
    unfolding want
    put_off_alters (inl k) = by_kind Kinds.Write k
    put_off_alters (inr (inl k)) = by_kind Kinds.Publish k
    put_off_alters (inr (inr k)) = by_kind Kinds.Add k

    pub put_off_rest : (a.kind ≡ Kinds.Open) ⊎ ((a.kind ≡ Kinds.End) ⊎ (a.kind ≡ Kinds.Abandon)) → r ≡ false → r ≡ put_off_at h q
    unfolding want
    put_off_rest (inl k) = by_kind Kinds.Open k
    put_off_rest (inr (inl k)) = by_kind Kinds.End k
    put_off_rest (inr (inr k)) = by_kind Kinds.Abandon k

-- ---- what is left

-- only the free slots, the numbers and the sets are looked at
looked : (next free : ℕ) (numbers leads sets ports : List ℕ) (q : Request) → put_off_at (rows_of free numbers [] sets) q ≡ put_off_at (lent next free numbers leads sets ports) q
unfolding put_off_at barred slot_of open_slots open_at number_at word_at cell_at
looked next free numbers leads sets ports q = refl

module _ {next free : ℕ} {numbers leads sets ports : List ℕ} {q : Request} {b : Bool} (e : b ≡ put_off_at (rows_of free numbers [] sets) q) where
  pub locks_off : b ≡ true → Locks (lent next free numbers leads sets ports) q (Err PutOff) (lent next free numbers leads sets ports)
  unfolding lock_answer lock_next
  locks_off t =
      let h = lent next free numbers leads sets ports in
      let o : true ≡ put_off_at h q = sym t ∙ e ∙ looked next free numbers leads sets ports q in
      record {
        answered = ap (λ (x : Bool). cond x (record { code = 10; job = 0 }) (answer_to h q)) o;
        left = ap (λ (x : Bool). cond x h (after h q)) o;
      }

  locks_first : b ≡ false → {a : Result JobNumber Refusal} {r : Result JobNumber LockRefusal} {g : Held} → Steps (lent next free numbers leads sets ports) q a g → lock_numbered r ≡ numbered a → Locks (lent next free numbers leads sets ports) q r g
  unfolding lock_answer lock_next
  locks_first f s n =
      let h = lent next free numbers leads sets ports in
      let o : false ≡ put_off_at h q = sym f ∙ e ∙ looked next free numbers leads sets ports q in
      record {
        answered = n ∙ s.answered ∙ ap (λ (x : Bool). cond x (record { code = 10; job = 0 }) (answer_to h q)) o;
        left = s.left ∙ ap (λ (x : Bool). cond x h (after h q)) o;
      }

  pub locks_granted : b ≡ false → {j : JobNumber} {g : Held} → Steps (lent next free numbers leads sets ports) q (Ok j) g → Locks (lent next free numbers leads sets ports) q (Ok j) g
  locks_granted f s = locks_first f s refl

  pub locks_refused : b ≡ false → {x : Refusal} {g : Held} → Steps (lent next free numbers leads sets ports) q (Err x) g → Locks (lent next free numbers leads sets ports) q (Err (First x)) g
  locks_refused f s = locks_first f s refl
