-- Two steps on a state, whatever it holds: which slots a step touches after another that it is not in conflict with (`touched_kept`); the same state in either order
-- (`stepped_swap`), and after the same step twice (`stepped_twice`); the chains back (`chain_fewer`, `chain_swap`, `chain_again`); what a granted step has been tested for and
-- leaves (`Grant`); so two granted requests (`places_changed`), and one given twice (`given_twice`).
-- Assumes nothing.
use Rattle.std.specs.Prelude.{◌≡◌, refl, ◌⊎◌, true, false, ◌&&◌, ◌||◌, List, [], ◌∷◌, ◌++◌}
use Rattle.std.proofs.Math.Path.{sym, ap, ap₂, subst}
use Rattle.std.proofs.Common.{◌∙◌, inl, inr, ⊎_elim, le_refl, pow-suc, arith, pow_mono}
use Rattle.std.proofs.Math.Bool.{Bool, not, cond}
use Rattle.std.proofs.Math.Option.{Option, some}
use Prim.Native.Nat.{ℕ, zero, suc, ◌+◌, ◌%◌, ◌^◌, ◌≤◌, ◌<◌}
use Rattle.std.specs.Int.Bits.{bit_or}
use Rattle.std.proofs.Math.Dec.{T, eqb}
use Rattle.graph.specs.Decide.{Decides, own_test, and_test, or_test, not_test, eq_test, le_test, test_true, test_false, read_as}
use Rattle.graph.specs.Lists.{◌∈◌}
use Rattle.graph.specs.Walk.{Via, one, step, Any, carry, join, passes}
use Rattle.graph.specs.Reach.{reach_test}
use Rattle.marks.specs.Marks.{bit}
use Rattle.marks.specs.MarkLaws.{tab_same, bit-or, bit_same}
use Rattle.history.specs.Events.{Kind, read, write, add, kinds_clash}
use Rattle.history.specs.Replies.{cells, most_open, Request, Reply, Want, a_step, want, first_of, tests, code_of, job_of, reply_of}
use Rattle.history_laws.specs.Granted.{passed, undenied, proper_step}
use Rattle.held.specs.Held.{Held, word_marks, all_words, number_at, leads_at, open_at, open_slots, Aspect, as_used, as_altered, shows, clash_shows, marks_word, own_at, past_at, is_some, at_slot, slot_of, meets, touched, chain_back, facts, stepped_at, with_slot, moved, answer_to, after, answers, after_all}
use Rattle.held_laws.specs.HeldMoves.{nth_word, leads_stepped, word_stepped}
use Rattle.held_laws.specs.HeldLaws.{stepped_open_at, stepped_leads_at, stepped_own_at, stepped_past_at, slot_from, slots_stepped}
use Rattle.held_laws.specs.Seen.{slot_test}
use Rattle.swaps.specs.Swaps.{clear, ChangePlaces, GivenAgain}
use Rattle.swaps.specs.SwapLaws.{Clear, Grant}

-- ---- marks added one after the other

fits_itself : (n : ℕ) → n < 2 ^ n
fits_itself zero = le_refl 1
fits_itself (suc n) = let p = pow-suc 2 n in let q = fits_itself n in omega arith

-- numbers with the same marks are equal
same_marks : (a b : ℕ) → ((k : ℕ) → bit a k ≡ bit b k) → a ≡ b
same_marks a b f =
    let wide : (n : ℕ) → n ≤ a + b → n < 2 ^ (a + b) = λ n q. let x = fits_itself n in let y = pow_mono q in omega arith in
    bit_same (a + b) a b (wide a (omega arith)) (wide b (omega arith)) (λ k q. f k)

swap_or : (a b c : Bool) → (a || b) || c ≡ (a || c) || b
swap_or true b c = refl
swap_or false true true = refl
swap_or false true false = refl
swap_or false false true = refl
swap_or false false false = refl

again_or : (a b : Bool) → (a || b) || b ≡ a || b
again_or true b = refl
again_or false true = refl
again_or false false = refl

or_swap : (n p q : ℕ) → bit_or (bit_or n p) q ≡ bit_or (bit_or n q) p
or_swap n p q =
    let marks : (x y k : ℕ) → bit (bit_or (bit_or n x) y) k ≡ (bit n k || bit x k) || bit y k = λ x y k. bit-or (bit_or n x) y k ∙ ap (λ (b : Bool). b || bit y k) (bit-or n x k) in
    same_marks (bit_or (bit_or n p) q) (bit_or (bit_or n q) p) (λ k. marks p q k ∙ swap_or (bit n k) (bit p k) (bit q k) ∙ sym (marks q p k))

or_again : (n p : ℕ) → bit_or (bit_or n p) p ≡ bit_or n p
or_again n p =
    same_marks (bit_or (bit_or n p) p) (bit_or n p)
    (λ k. bit-or (bit_or n p) p k ∙ ap (λ (b : Bool). b || bit p k) (bit-or n p k) ∙ again_or (bit n k) (bit p k) ∙ sym (bit-or n p k))

-- a number with another added where a test holds
abbrev more : Bool → ℕ → ℕ → ℕ
more b n p = cond b (bit_or n p) n

more_swap : (a b : Bool) (n p q : ℕ) → more b (more a n p) q ≡ more a (more b n q) p
more_swap true true n p q = or_swap n p q
more_swap true false n p q = refl
more_swap false true n p q = refl
more_swap false false n p q = refl

-- ---- which slots a step touches after another

more_again : (a : Bool) (n p : ℕ) → more a (more a n p) p ≡ more a n p
more_again true n p = or_again n p
more_again false n p = refl

clash_sym : (k l : Kind) → kinds_clash k l ≡ kinds_clash l k
clash_sym read read = refl
clash_sym read write = refl
clash_sym read add = refl
clash_sym write read = refl
clash_sym write write = refl
clash_sym write add = refl
clash_sym add read = refl
clash_sym add write = refl
clash_sym add add = refl

pub clear_sym : (k l : Kind) {s c t d : ℕ} → Clear k s c l t d → Clear l t d k s c
clear_sym k l =
    ⊎_elim (λ e. inl (sym e)) (λ r. inr (⊎_elim (λ n. inl (λ e. n (sym e))) (λ n. inr (λ x. n (subst T (clash_sym l k) x))) r))

-- what two sets that gain something meet
meets_more : (a b u v g w : Bool) → (a && (u || g)) || (b && (v || w)) ≡ ((a && u) || (b && v)) || ((a && g) || (b && w))
meets_more true true true v g w = refl
meets_more true true false true true w = refl
meets_more true true false true false w = refl
meets_more true true false false true w = refl
meets_more true true false false false w = refl
meets_more true false true v g w = refl
meets_more true false false v true w = refl
meets_more true false false v false w = refl
meets_more false true u v g w = refl
meets_more false false u v g w = refl

without_gain : (x m g : Bool) → x && g ≡ false → x && (m || g) ≡ x && m
without_gain true true g e = refl
without_gain true false g e = e
without_gain false m g e = refl

-- ---- the same state in either order

module _ (h : Held) (k : Kind) (s c : ℕ) (l : Kind) (t d : ℕ) (real : c < cells) (real' : d < cells) (apart : Clear k s c l t d) where
  module _ (i : ℕ) (p : i < most_open) where
    -- the cell that the slot's own gains is no matter to the other step
    no_gain : not (eqb i t) && ((shows l as_altered && (eqb i s && (shows k as_used && eqb d c))) || (shows l as_used && (eqb i s && (shows k as_altered && eqb d c)))) ≡ false
    no_gain =
        let gain : (a b : Aspect) → Decides (shows l a && (eqb i s && (shows k b && eqb d c))) (T (shows l a) × ((i ≡ s) × (T (shows k b) × (d ≡ c))))
        = λ a b. and_test (own_test (shows l a)) (and_test (eq_test i s) (and_test (own_test (shows k b)) (eq_test d c))) in
        let clashes = or_test (and_test (own_test (shows l as_altered)) (own_test (shows k as_used))) (and_test (own_test (shows l as_used)) (own_test (shows k as_altered))) in
        let hit : (i ≡ t → ⊥) → i ≡ s → d ≡ c → T (kinds_clash k l) → ⊥
        = λ n e q x. ⊎_elim (λ st. n (e ∙ st)) (⊎_elim (λ cd. cd (sym q)) (λ f. f x)) apart in
        let told : (T (shows l as_altered) × T (shows k as_used)) ⊎ (T (shows l as_used) × T (shows k as_altered)) → T (kinds_clash k l) = λ x. subst T (sym (clash_shows k l)) (clashes.shows x) in
        test_false (and_test (not_test (eq_test i t)) (or_test (gain as_altered as_used) (gain as_used as_altered)))
        (λ r. ⊎_elim (λ x. hit r.0 x.1.0 x.1.1.1 (told (inl (x.0, x.1.1.0)))) (λ x. hit r.0 x.1.0 x.1.1.1 (told (inr (x.0, x.1.1.0)))) r.1)

    -- a step touches the slots that it touched before the other
    pub touched_kept : touched (stepped_at h k s c) l t d i ≡ touched h l t d i
    unfolding touched meets
    touched_kept =
        let own : (a : Aspect) → own_at (stepped_at h k s c) i a d ≡ own_at h i a d || (eqb i s && (shows k a && eqb d c)) = λ a. stepped_own_at h k s c i p real a d real' in
        let past : (a : Aspect) → past_at (stepped_at h k s c) i a d ≡ past_at h i a d = λ a. stepped_past_at h k s c i p real a d real' in
        ap₂ (λ (a b : Bool). a || b)
        (ap₂ (λ (x y : Bool). not (eqb i t) && ((shows l as_altered && x) || (shows l as_used && y))) (own as_used) (own as_altered)
        ∙ ap (λ (b : Bool). not (eqb i t) && b) (meets_more (shows l as_altered) (shows l as_used) (own_at h i as_used d) (own_at h i as_altered d) _ _)
        ∙ without_gain (not (eqb i t)) _ _ no_gain)
        (ap₂ (λ (x y : Bool). (shows l as_altered && x) || (shows l as_used && y)) (past as_used) (past as_altered))

-- what a step leaves of the leads and of the words
abbrev lead_rule : Held → Kind → ℕ → ℕ → ℕ → ℕ
lead_rule h k s c i = more (open_at h i && touched h k s c i) (leads_at h i) (2 ^ s)

abbrev word_rule : Held → Kind → ℕ → ℕ → ℕ → ℕ
word_rule h k s c w = more (marks_word k s c w) (nth_word h w) (2 ^ (c % word_marks))

-- after one step, the rules of another that is not in conflict with it, in terms of the state before both
module _ (h : Held) (k : Kind) (s c : ℕ) (l : Kind) (t d : ℕ) (real : c < cells) (real' : d < cells) (apart : Clear k s c l t d) where
  lead_next : (i : ℕ) → i < most_open → lead_rule (stepped_at h k s c) l t d i ≡ more (open_at h i && touched h l t d i) (lead_rule h k s c i) (2 ^ t)
  lead_next i p =
      ap₂ (λ (b : Bool) (n : ℕ). more b n (2 ^ t))
      (ap₂ (λ (x y : Bool). x && y) (stepped_open_at h k s c i) (touched_kept h k s c l t d real real' apart i p))
      (leads_stepped h s k c i p)

  word_next : (w : ℕ) → w < all_words → word_rule (stepped_at h k s c) l t d w ≡ more (marks_word l t d w) (word_rule h k s c w) (2 ^ (d % word_marks))
  word_next w p = ap (λ (n : ℕ). more (marks_word l t d w) n (2 ^ (d % word_marks))) (word_stepped h s k c w p)

-- ---- chains back

module _ (h : Held) where
  -- a state that differs from h in leads and words alone
  abbrev with_leads : List ℕ → List ℕ → Held
  with_leads l w = record { next = h.next; free = h.free; numbers = h.numbers; leads = l; sets = w; ports = h.ports }

  pub stepped_swap : (k : Kind) (s c : ℕ) (l : Kind) (t d : ℕ) → c < cells → d < cells → Clear k s c l t d
      → stepped_at (stepped_at h l t d) k s c ≡ stepped_at (stepped_at h k s c) l t d
  unfolding stepped_at
  stepped_swap k s c l t d real real' apart =
      ap₂ with_leads
      (tab_same most_open (lead_rule (stepped_at h l t d) k s c) (lead_rule (stepped_at h k s c) l t d)
      (λ i p. lead_next h l t d k s c real' real (clear_sym k l apart) i p ∙ more_swap (open_at h i && touched h l t d i) (open_at h i && touched h k s c i) (leads_at h i) (2 ^ t) (2 ^ s) ∙ sym (lead_next h k s c l t d real real' apart i p)))
      (tab_same all_words (word_rule (stepped_at h l t d) k s c) (word_rule (stepped_at h k s c) l t d)
      (λ w p. word_next h l t d k s c real' real (clear_sym k l apart) w p ∙ more_swap (marks_word l t d w) (marks_word k s c w) (nth_word h w) (2 ^ (d % word_marks)) (2 ^ (c % word_marks)) ∙ sym (word_next h k s c l t d real real' apart w p)))

  pub stepped_twice : (k : Kind) (s c : ℕ) → c < cells → stepped_at (stepped_at h k s c) k s c ≡ stepped_at h k s c
  unfolding stepped_at
  stepped_twice k s c real =
      ap₂ with_leads
      (tab_same most_open (lead_rule (stepped_at h k s c) k s c) (lead_rule h k s c)
      (λ i p. lead_next h k s c k s c real real (inl refl) i p ∙ more_again (open_at h i && touched h k s c i) (leads_at h i) (2 ^ s)))
      (tab_same all_words (word_rule (stepped_at h k s c) k s c) (word_rule h k s c)
      (λ w p. word_next h k s c k s c real real (inl refl) w p ∙ more_again (marks_word k s c w) (nth_word h w) (2 ^ (c % word_marks))))

module _ {J : Type 0} {E : J → J → Type 0} {P : J → Type 0} where
  -- a walk whose edges all start where P holds, and one whose inner jobs meet P, are the same, where its start does
  rooted : {p q : J} → P p → Via E P p q → Via (λ a b. P a × E a b) Any p q
  rooted h (one e) = one (h, e)
  rooted h (step e k w) = step (h, e) tt (rooted k w)

  root : {p q : J} → Via (λ a b. P a × E a b) Any p q → P p
  root (one e) = e.0
  root (step e k w) = e.0

  unrooted : {p q : J} → Via (λ a b. P a × E a b) Any p q → Via E P p q
  unrooted (one e) = one e.1
  unrooted (step e k w) = step e.1 (root w) (unrooted w)

-- the held and the new leads
abbrev edge : Held → Kind → ℕ → ℕ → ℕ → ℕ → Bool
edge h k s c i x = bit (leads_at h i) x || (eqb x s && touched h k s c i)

-- from open slots
abbrev Edge : Held → Kind → ℕ → ℕ → ℕ → ℕ → Type 0
Edge h k s c i x = (i ∈ open_slots h) × T (edge h k s c i x)

chain_test : (h : Held) (k : Kind) (s c : ℕ) → s ∈ open_slots h → Decides (chain_back h k s c) (Via (Edge h k s c) Any s s)
unfolding chain_back
chain_test h k s c o = read_as (reach_test (λ i x. own_test (edge h k s c i x)) (open_slots h) s s) (rooted o) unrooted

-- leads that a step of slot t brings, before it or after another step
abbrev brings : Held → Kind → ℕ → ℕ → ℕ → ℕ → Bool
brings h l t d i x = eqb x t && touched h l t d i

module _ (h : Held) (k : Kind) (s c : ℕ) (l : Kind) (t d : ℕ) (real : c < cells) (real' : d < cells) (apart : Clear k s c l t d) where
  -- what leads where at the second step: what did at the first, and what the second brings
  edge_next : (i x : ℕ) → i ∈ open_slots h → edge (stepped_at h k s c) l t d i x ≡ edge h k s c i x || brings h l t d i x
  edge_next i x m =
      let o = slot_from h m in
      ap₂ (λ (a b : Bool). a || b)
      (stepped_leads_at h k s c i o.0 x ∙ ap (λ (b : Bool). bit (leads_at h i) x || (eqb x s && (b && touched h k s c i))) (test_true (own_test (open_at h i)) o.1))
      (ap (λ (b : Bool). eqb x t && b) (touched_kept h k s c l t d real real' apart i o.0))

  still_open : {i : ℕ} → i ∈ open_slots h → i ∈ open_slots (stepped_at h k s c)
  still_open {i} m = subst (λ (o : List ℕ). i ∈ o) (sym (slots_stepped h k s c)) m

  was_open : {i : ℕ} → i ∈ open_slots (stepped_at h k s c) → i ∈ open_slots h
  was_open {i} m = subst (λ (o : List ℕ). i ∈ o) (slots_stepped h k s c) m

  -- the second step without the first: a chain back is one after the first too
  pub chain_fewer : t ∈ open_slots h → T (chain_back h l t d) → T (chain_back (stepped_at h k s c) l t d)
  chain_fewer o z = (chain_test (stepped_at h k s c) l t d (still_open o)).shows (carry add_edge (λ a u. u) ((chain_test h l t d o).holds z))
    where
      wider : (a b e : Bool) → T (a || e) → T ((a || b) || e)
      wider true b e x = tt
      wider false true e x = tt
      wider false false e x = x

      add_edge : (i x : ℕ) → Edge h l t d i x → Edge (stepped_at h k s c) l t d i x
      add_edge i x e = (still_open e.0, subst T (sym (edge_next i x e.0)) (wider (bit (leads_at h i) x) (eqb x s && touched h k s c i) (brings h l t d i x) e.1))

module _ (h : Held) (k : Kind) (s c : ℕ) (l : Kind) (t d : ℕ) (real : c < cells) (real' : d < cells) (apart : Clear k s c l t d) (os : s ∈ open_slots h) (ot : t ∈ open_slots h) where
  -- the leads before both steps, and what the two bring
  abbrev All : ℕ → ℕ → Type 0
  All i x = (i ∈ open_slots h) × T (edge h k s c i x || brings h l t d i x)

  all_from : (i x : ℕ) → Edge (stepped_at h l t d) k s c i x → All i x
  all_from i x e =
      let m = was_open h l t d k s c real' real (clear_sym k l apart) e.0 in
      (m, subst T (edge_next h l t d k s c real' real (clear_sym k l apart) i x m ∙ swap_or (bit (leads_at h i) x) (brings h l t d i x) (brings h k s c i x)) e.1)

  all_to : (i x : ℕ) → All i x → Edge (stepped_at h k s c) l t d i x
  all_to i x e = (still_open h k s c l t d real real' apart e.0, subst T (sym (edge_next h k s c l t d real real' apart i x e.0)) e.1)

  brought : (i x : ℕ) → All i x → Edge h k s c i x ⊎ ((x ≡ t) × Unit {0})
  brought i x e =
      ⊎_elim (λ u. inl (e.0, u)) (λ u. inr (u.0, tt)) ((or_test (own_test (edge h k s c i x)) (and_test (eq_test x t) (own_test (touched h l t d i)))).holds e.1)

  -- the first step after the second: a chain back was one before both, or meets t, and then goes from t back to t
  pub chain_swap : T (chain_back (stepped_at h l t d) k s c) → T (chain_back h k s c) ⊎ T (chain_back (stepped_at h k s c) l t d)
  chain_swap z =
      let open_s = still_open h l t d k s c real' real (clear_sym k l apart) os in
      let open_t = still_open h k s c l t d real real' apart ot in
      let w : Via All Any s s = carry all_from (λ a u. u) ((chain_test (stepped_at h l t d) k s c open_s).holds z) in
      let back : Via All Any t t → T (chain_back (stepped_at h k s c) l t d) = λ v. (chain_test (stepped_at h k s c) l t d open_t).shows (carry all_to (λ a u. u) v) in
      ⊎_elim (λ v. inl ((chain_test h k s c os).shows v))
      (λ v. inr (back (⊎_elim (λ e. subst (λ (x : ℕ). Via All Any x t) (sym e) v.0) (λ u. join u tt v.0) v.1)))
      (passes brought w)

-- ---- granted steps

module _ (h : Held) (k : Kind) (s c : ℕ) (real : c < cells) where
  -- the same step again: a chain back was there before
  pub chain_again : s ∈ open_slots h → T (chain_back (stepped_at h k s c) k s c) → T (chain_back h k s c)
  chain_again o z =
      (chain_test h k s c o).shows (carry old_edge (λ a u. u) ((chain_test (stepped_at h k s c) k s c (still_open h k s c k s c real real (inl refl) o)).holds z))
    where
      old_edge : (i x : ℕ) → Edge (stepped_at h k s c) k s c i x → Edge h k s c i x
      old_edge i x e =
          let m = was_open h k s c k s c real real (inl refl) e.0 in
          (m, subst T (edge_next h k s c k s c real real (inl refl) i x m ∙ again_or (bit (leads_at h i) x) (brings h k s c i x)) e.1)

module _ (h : Held) (k : Kind) (r : Request) (asks : want r.kind ≡ a_step k) where
  pub grant_from : (answer_to h r).code ≡ 0 → (s : ℕ) × Grant h k r s
  unfolding answer_to reply_of code_of tests facts
  grant_from z =
      let p = passed (not (eqb r.byte1 0)) 0 _ z in
      let tested : first_of (tests (facts h) (a_step k) r.job r.cell) ≡ 0 = subst (λ (w : Want). first_of (tests (facts h) w r.job r.cell) ≡ 0) asks p.1 in
      let q = proper_step (facts h) k r.job r.cell tested in
      let o = (slot_test h r.job).holds q.0 in (
        o.slot,
        record {
          zero_byte = (eq_test r.byte1 0).holds (undenied (eqb r.byte1 0) p.0);
          real = q.1;
          meant = o.meant;
          is_open = o.is_open;
          no_chain = λ x. q.2 (subst (λ (s : Option ℕ). T (at_slot s (λ s. chain_back h k s r.cell))) (sym o.meant) x);
        },
      )

  module _ {s : ℕ} (g : Grant h k r s) where
    code_granted : code_of (facts h) r ≡ 0
    unfolding code_of tests facts
    code_granted =
        let chain : Option ℕ → Bool = λ o. at_slot o (λ s. chain_back h k s r.cell) in
        ap (λ (b : Bool). cond (not b) 1 (first_of (tests (facts h) (want r.kind) r.job r.cell))) (test_true (eq_test r.byte1 0) g.zero_byte)
        ∙ ap (λ (w : Want). first_of (tests (facts h) w r.job r.cell)) asks
        ∙ ap (λ (b : Bool). cond b 2 (cond (not (is_some (slot_of h r.job))) 3 (cond (chain (slot_of h r.job)) 7 0))) (test_false (le_test cells r.cell) (λ q. let x = g.real in omega arith))
        ∙ ap (λ (o : Option ℕ). cond (not (is_some o)) 3 (cond (chain o) 7 0)) g.meant
        ∙ ap (λ (b : Bool). cond b 7 0) (test_false (own_test (chain_back h k s r.cell)) g.no_chain)

    -- its reply: code 0 and the job that asked
    pub reply_granted : answer_to h r ≡ record { code = 0; job = r.job }
    unfolding answer_to reply_of job_of
    reply_granted =
        let said : ℕ → Want → Reply = λ n w. record { code = n; job = cond (eqb n 0) (job_of (facts h).next w r.job) 0 } in
        ap (λ (n : ℕ). said n (want r.kind)) code_granted ∙ ap (said 0) asks

    -- and the state that it leaves
    pub state_granted : after h r ≡ stepped_at h k s r.cell
    unfolding after moved
    state_granted =
        ap (λ (n : ℕ). cond (eqb n 0) (moved h (want r.kind) r.job r.cell) h) code_granted
        ∙ ap (λ (w : Want). moved h w r.job r.cell) asks
        ∙ ap (λ (o : Option ℕ). with_slot o (λ s. stepped_at h k s r.cell) h) g.meant

-- a step leaves each number its slot
slot_stepped : (h : Held) (k : Kind) (s c j : ℕ) → slot_of (stepped_at h k s c) j ≡ slot_of h j
unfolding slot_of open_slots open_at number_at stepped_at
slot_stepped h k s c j = refl

same_slot : {s t : ℕ} → some s ≡ some t → s ≡ t
same_slot {s} {t} e = (eq_test s t).holds (subst (λ (o : Option ℕ). T (at_slot o (eqb s))) e ((eq_test s s).shows refl))

-- ---- two granted requests

pub clear_test : (k l : Kind) (a b : Request) → Decides (clear k l a b) ((a.job ≡ b.job) ⊎ ((a.cell ≡ b.cell → ⊥) ⊎ (T (kinds_clash k l) → ⊥)))
clear_test k l a b = or_test (eq_test a.job b.job) (or_test (not_test (eq_test a.cell b.cell)) (not_test (own_test (kinds_clash k l))))

-- ---- one request twice

module _ (h : Held) (k l : Kind) (a b : Request) (asks_a : want a.kind ≡ a_step k) (asks_b : want b.kind ≡ a_step l) (free : T (clear k l a b)) where
  module _ {s t : ℕ} (g : Grant h k a s) (g₁ : Grant (stepped_at h k s a.cell) l b t) where
    meant_b : slot_of h b.job ≡ some t
    meant_b = sym (slot_stepped h k s a.cell b.job) ∙ g₁.meant

    apart : Clear k s a.cell l t b.cell
    apart = ⊎_elim (λ e. inl (same_slot (sym g.meant ∙ ap (slot_of h) e ∙ meant_b))) inr ((clear_test k l a b).holds free)

    open_t : t ∈ open_slots h
    open_t = was_open h k s a.cell l t b.cell g.real g₁.real apart g₁.is_open

    -- b is granted before a
    grant_b : Grant h l b t
    grant_b =
        record {
          zero_byte = g₁.zero_byte;
          real = g₁.real;
          meant = meant_b;
          is_open = open_t;
          no_chain = λ z. g₁.no_chain (chain_fewer h k s a.cell l t b.cell g.real g₁.real apart open_t z);
        }

    -- and then a
    grant_a : Grant (stepped_at h l t b.cell) k a s
    grant_a =
        record {
          zero_byte = g.zero_byte;
          real = g.real;
          meant = slot_stepped h l t b.cell a.job ∙ g.meant;
          is_open = still_open h l t b.cell k s a.cell g₁.real g.real (clear_sym k l apart) g.is_open;
          no_chain = λ z. ⊎_elim g.no_chain g₁.no_chain (chain_swap h k s a.cell l t b.cell g.real g₁.real apart g.is_open open_t z);
        }

    swapped : ChangePlaces h a b
    swapped =
        let after_a = state_granted h k a asks_a g in
        let after_b = state_granted h l b asks_b grant_b in
        let h₁ = stepped_at h k s a.cell in
        let h₂ = stepped_at h l t b.cell in
        record {
          other_reply = reply_granted h l b asks_b grant_b ∙ sym (ap (λ (x : Held). answer_to x b) after_a ∙ reply_granted h₁ l b asks_b g₁);
          one_reply = ap (λ (x : Held). answer_to x a) after_b ∙ reply_granted h₂ k a asks_a grant_a ∙ sym (reply_granted h k a asks_a g);
          same_state =
              ap (λ (x : Held). after x a) after_b ∙ state_granted h₂ k a asks_a grant_a
              ∙ stepped_swap h k s a.cell l t b.cell g.real g₁.real apart
              ∙ sym (ap (λ (x : Held). after x b) after_a ∙ state_granted h₁ l b asks_b g₁);
        }

  pub places_changed : (answer_to h a).code ≡ 0 → (answer_to (after h a) b).code ≡ 0 → ChangePlaces h a b
  places_changed za zb =
      let g = grant_from h k a asks_a za in
      let g₁ = grant_from (stepped_at h k g.0 a.cell) l b asks_b (subst (λ (x : Held). (answer_to x b).code ≡ 0) (state_granted h k a asks_a g.1) zb) in
      swapped g.1 g₁.1

-- ---- lists of requests, one after the other

module _ (h : Held) (k : Kind) (a : Request) (asks : want a.kind ≡ a_step k) where
  again : {s : ℕ} → Grant h k a s → GivenAgain h a
  again {s} g =
      let h₁ = stepped_at h k s a.cell in
      let left = state_granted h k a asks g in
      let g₁ : Grant h₁ k a s = record {
        zero_byte = g.zero_byte;
        real = g.real;
        meant = slot_stepped h k s a.cell a.job ∙ g.meant;
        is_open = still_open h k s a.cell k s a.cell g.real g.real (inl refl) g.is_open;
        no_chain = λ z. g.no_chain (chain_again h k s a.cell g.real g.is_open z);
      } in
      record {
        same_reply = ap (λ (x : Held). answer_to x a) left ∙ reply_granted h₁ k a asks g₁ ∙ sym (reply_granted h k a asks g);
        same_state = ap (λ (x : Held). after x a) left ∙ state_granted h₁ k a asks g₁ ∙ stepped_twice h k s a.cell g.real ∙ sym left;
      }

  pub given_twice : (answer_to h a).code ≡ 0 → GivenAgain h a
  given_twice z = again (grant_from h k a asks z).1

pub answers_append : (h : Held) (rs qs : List Request) → answers h (rs ++ qs) ≡ answers h rs ++ answers (after_all h rs) qs
answers_append h [] qs = refl
answers_append h (r ∷ rs) qs = ap (λ (l : List Reply). answer_to h r ∷ l) (answers_append (after h r) rs qs)

pub after_append : (h : Held) (rs qs : List Request) → after_all h (rs ++ qs) ≡ after_all (after_all h rs) qs
after_append h [] qs = refl
after_append h (r ∷ rs) qs = after_append (after h r) rs qs
