-- Ready jobs and waiting ones, on marks alone.
--
-- In order: jobs settled one set after another (`settled_none`, `settled_then`), one job (`settled_ready`, `settled_waits`), those of a word (`Settling`); then
-- that settling what is left makes the first sorting (`first_sorted`), and settling the row of a job that is placed the next one (`next_sorted`).
-- Assumes nothing.
use Rattle.std.specs.Prelude.{◌≡◌, refl, ◌⊎◌, Bool, true, false, List, ℕ, ◌+◌, ◌-◌, ◌*◌, ◌/◌, ◌^◌, ◌≤◌, ◌<◌}
use Rattle.std.proofs.Common.{sym, ap, ◌∙◌, subst, inl, inr, ⊎_elim, arith}
use Rattle.std.specs.Int.Bits.{bit_and}
use Rattle.std.specs.Int.Count.{count_trailing_zeros}
use Rattle.graph.specs.Decide.{is_true, true_is, answer, and_test, or_test, not_test, eq_test, lt_test, own_test, same_test, test_true, test_false}
use Rattle.graph.specs.Lists.{other}
use Rattle.marks.specs.Marks.{bit}
use Rattle.marks.specs.MaskLaws.{Adds, adds_old, adds_from, seen, Left, left_start, left_inside, left_turn, left_adds, seen_start, seen_end}
use Rattle.marks.specs.WordLaws.{marked_none}
use Rattle.tallies.specs.Marks.{mark, in_row, Put, Struck, Free, Sorted, Settled, Only, In_word}
use Rattle.tallies.specs.Jobs.{Blank}

-- ---- marks

-- one answer or the other
two : (b : Bool) → (b ≡ true) ⊎ (b ≡ false)
two true = inl refl
two false = inr refl

pub not_both : {b : Bool} → b ≡ true → b ≡ false → ⊥
not_both {b = true} p q = let z : ◌≡◌ {A = ℕ} 0 1 = cc in omega arith
not_both {b = false} p q = let z : ◌≡◌ {A = ℕ} 0 1 = cc in omega arith

not_yet : {a b : Bool} → (a ≡ true → b ≡ true) → b ≡ false → a ≡ false
not_yet {a} f e = ⊎_elim (λ p. absurd (not_both (f p) e)) (λ p. p) (two a)

-- a mark that is put or struck, and the others
module _ (x : ℕ) (words words' : List ℕ) where
  put_here : Put x words words' → mark words' x ≡ true
  put_here p = p x ∙ test_true (or_test (own_test (mark words x)) (eq_test x x)) (inr refl)

  put_stays : Put x words words' → (y : ℕ) → mark words y ≡ true → mark words' y ≡ true
  put_stays p y e = p y ∙ test_true (or_test (own_test (mark words y)) (eq_test y x)) (inl (true_is e))

  put_from : Put x words words' → (y : ℕ) → mark words' y ≡ true → (mark words y ≡ true) ⊎ (y ≡ x)
  put_from p y e = ⊎_elim (λ t. inl (is_true t)) inr ((or_test (own_test (mark words y)) (eq_test y x)).holds (true_is (sym (p y) ∙ e)))

  pub struck_from : Struck x words words' → (y : ℕ) → mark words' y ≡ true → (mark words y ≡ true) × (y ≡ x → ⊥)
  struck_from p y e = let r = (and_test (own_test (mark words y)) (not_test (eq_test y x))).holds (true_is (sym (p y) ∙ e)) in (is_true r.0, r.1)

  pub struck_keeps : Struck x words words' → (y : ℕ) → mark words y ≡ true → (y ≡ x → ⊥) → mark words' y ≡ true
  struck_keeps p y e f = p y ∙ test_true (and_test (own_test (mark words y)) (not_test (eq_test y x))) (true_is e, f)

  pub struck_gone : Struck x words words' → mark words' x ≡ false
  struck_gone p = p x ∙ test_false (and_test (own_test (mark words x)) (not_test (eq_test x x))) (λ r. r.1 refl)

-- ---- jobs settled

module _ {preds left ready waiting : List ℕ} where
  pub settled_none : {W : ℕ → Type 0} → ((i : ℕ) → W i → ⊥) → Settled W preds left ready waiting ready waiting
  settled_none f =
      record {
        stays_ready = λ i q e. e;
        new_ready = λ i q e. inl e;
        stays_waiting = λ b i p q e. e;
        new_waiting = λ b i p q e. inl e;
        each_settled = λ i q w. absurd (f i w);
      }

  -- one set of jobs, and then another
  pub settled_then : {A B U : ℕ → Type 0} {ready₁ waiting₁ ready₂ waiting₂ : List ℕ} → Settled A preds left ready waiting ready₁ waiting₁
      → Settled B preds left ready₁ waiting₁ ready₂ waiting₂ → ((i : ℕ) → A i → U i) → ((i : ℕ) → i < 512 → B i → U i) → ((i : ℕ) → U i → A i ⊎ B i)
      → Settled U preds left ready waiting ready₂ waiting₂
  settled_then s t f g h =
      record {
        stays_ready = λ i q e. t.stays_ready i q (s.stays_ready i q e);
        new_ready = λ i q e. ⊎_elim (λ r. ⊎_elim inl (λ v. inr (f i v.0, v.1)) (s.new_ready i q r)) (λ w. inr (g i q w.0, w.1)) (t.new_ready i q e);
        stays_waiting = λ b i p q e. t.stays_waiting b i p q (s.stays_waiting b i p q e);
        new_waiting = λ b i p q e.
            ⊎_elim (λ r. ⊎_elim inl (λ v. inr (f i v.0, v.1, v.2)) (s.new_waiting b i p q r)) (λ w. inr (g i q w.0, w.1, w.2)) (t.new_waiting b i p q e);
        each_settled = λ i q u e.
            ⊎_elim (λ v. let r = s.each_settled i q v (not_yet (t.stays_ready i q) e) in (r.0, r.1, r.2, r.3, t.stays_waiting r.0 i r.1 q r.4))
            (λ w. t.each_settled i q w e) (h i u);
      }

  -- one job: it is ready, or waits for b
  module _ {job : ℕ} (inside : job < 512) where
    pub settled_ready : {ready' : List ℕ} → Free preds left job → Put job ready ready' → Settled (Only job) preds left ready waiting ready' waiting
    settled_ready {ready'} free p =
        record {
          stays_ready = λ i q e. put_stays job ready ready' p i e;
          new_ready = λ i q e.
              ⊎_elim inl (λ z. inr (z, λ k. subst (λ (y : ℕ). k < 512 → mark left k ≡ true → in_row preds y k ≡ false) (sym z) (free k)))
              (put_from job ready ready' p i e);
          stays_waiting = λ b i r q e. e;
          new_waiting = λ b i r q e. inl e;
          each_settled = λ i q z e. absurd (not_both (put_here job ready ready' p) (ap (mark ready') (sym z) ∙ e));
        }

    pub settled_waits : {waiting' : List ℕ} (b : ℕ) → b < 512 → mark left b ≡ true → in_row preds job b ≡ true → Put (b * 512 + job) waiting waiting'
        → Settled (Only job) preds left ready waiting ready waiting'
    settled_waits {waiting'} b l m e p =
        record {
          stays_ready = λ i q z. z;
          new_ready = λ i q z. inl z;
          stays_waiting = λ c i r q z. put_stays (b * 512 + job) waiting waiting' p (c * 512 + i) z;
          new_waiting = λ c i r q z.
              ⊎_elim inl (λ s. inr (let x = both c i q s in (x.1, ap (mark left) x.0 ∙ m, ap (λ (y : ℕ). in_row preds y c) x.1 ∙ ap (in_row preds job) x.0 ∙ e)))
              (put_from (b * 512 + job) waiting waiting' p (c * 512 + i) z);
          each_settled = λ i q z n. (b, l, m, ap (λ (y : ℕ). in_row preds y b) z ∙ e, ap (in_row waiting' b) z ∙ put_here (b * 512 + job) waiting waiting' p);
        }
      where
        both : (c i : ℕ) → i < 512 → c * 512 + i ≡ b * 512 + job → (c ≡ b) × (i ≡ job)
        both c i q s = (omega arith, omega arith)

-- ---- the jobs of a word, the lowest mark first, with `todo` left

-- of those marks the ones that were seen
abbrev In_seen : ℕ → ℕ → ℕ → ℕ → Type 0
In_seen base word todo i = (k : ℕ) × (k < 64) × (i ≡ base + k) × (seen word todo k ≡ true)

pub record Settling (base word todo : ℕ) (preds left ready waiting ready' waiting' : List ℕ) : Type 0 where
  pub marks : Left 64 word todo
  pub done : Settled (In_seen base word todo) preds left ready waiting ready' waiting'

module _ {base word : ℕ} {preds left ready waiting : List ℕ} where
  pub settling_start : word < 2 ^ 64 → Settling base word word preds left ready waiting ready waiting
  settling_start h = record { marks = left_start h; done = settled_none (λ i r. not_both r.3 (seen_start word r.0)) }

  module _ {todo : ℕ} {ready₁ waiting₁ : List ℕ} (s : Settling base word todo preds left ready waiting ready₁ waiting₁) where
    pub settling_inside : (todo ≡ 0 → ⊥) → count_trailing_zeros 64 todo < 64
    settling_inside ne = left_inside s.marks ne

    pub settling_turn : {ready₂ waiting₂ : List ℕ} → (todo ≡ 0 → ⊥) → Settled (Only (base + count_trailing_zeros 64 todo)) preds left ready₁ waiting₁ ready₂ waiting₂
        → Settling base word (bit_and todo (todo - 1)) preds left ready waiting ready₂ waiting₂
    settling_turn ne t =
        record {
          marks = left_turn s.marks;
          done =
              settled_then s.done t (λ i r. (r.0, r.1, r.2, adds_old a r.3)) (λ i q e. (low, settling_inside ne, e, a.after))
              (λ i r. ⊎_elim (λ e. inr (r.2 ∙ ap (λ (k : ℕ). base + k) e)) (λ e. inl (r.0, r.1, r.2, e)) (adds_from a r.3));
        }
      where
        low : ℕ
        low = count_trailing_zeros 64 todo

        a : Adds low (seen word todo) (seen word (bit_and todo (todo - 1)))
        a = left_adds s.marks ne

    pub settling_end : todo ≡ 0 → Settled (In_word base word) preds left ready waiting ready₁ waiting₁
    settling_end z =
        settled_then s.done (settled_none {W = λ i. ⊥} (λ i f. f))
        (λ i r. (r.0, r.1, r.2, sym (seen_end word todo z r.0) ∙ r.3)) (λ i q f. absurd f) (λ i r. inl (r.0, r.1, r.2, seen_end word todo z r.0 ∙ r.3))

-- ---- the jobs of a set, word by word

-- the jobs of the first w words
abbrev pub Passed : (ℕ → Bool) → ℕ → ℕ → Type 0
Passed set w i = (i < w * 64) × (set i ≡ true)

pub passed_none : (set : ℕ → Bool) (i : ℕ) → Passed set 0 i → ⊥
passed_none set i r = let q = r.0 in omega arith

module _ (set : ℕ → Bool) (w word : ℕ) {preds left ready waiting ready₁ waiting₁ ready₂ waiting₂ : List ℕ} where
  pub passed_turn : Settled (Passed set w) preds left ready waiting ready₁ waiting₁ → Settled (In_word (w * 64) word) preds left ready₁ waiting₁ ready₂ waiting₂
      → ((k : ℕ) → k < 64 → set (w * 64 + k) ≡ bit word k) → Settled (Passed set (w + 1)) preds left ready waiting ready₂ waiting₂
  passed_turn s t e =
      settled_then s t
      (λ i r. (let q = r.0 in omega arith, r.1))
      (λ i q r. ((let a = r.1 in let b = r.2 in omega arith), ap set r.2 ∙ e r.0 r.1 ∙ r.3))
      (λ i r. ⊎_elim (λ q. inl (q, r.1)) (λ f. inr (further i r f)) (answer (lt_test i (w * 64))))
    where
      further : (i : ℕ) → Passed set (w + 1) i → (i < w * 64 → ⊥) → In_word (w * 64) word i
      further i r f =
          let a = r.0 in
          let g : (i < w * 64) → ⊥ = f in
          let q : i - w * 64 < 64 = omega arith in
          let z : i ≡ w * 64 + (i - w * 64) = omega arith in
          (i - w * 64, q, z, sym (e (i - w * 64) q) ∙ ap set (sym z) ∙ r.1)

-- the rows of a job that is not left stay
module _ {W : ℕ → Type 0} {preds left ready waiting ready' waiting' : List ℕ} (s : Settled W preds left ready waiting ready' waiting') where
  pub row_stays : (b i : ℕ) → b < 512 → i < 512 → mark left b ≡ false → in_row waiting b i ≡ in_row waiting' b i
  row_stays b i p q gone =
      same_test (own_test (in_row waiting b i)) (own_test (in_row waiting' b i)) (λ t. true_is (s.stays_waiting b i p q (is_true t)))
      (λ t. ⊎_elim true_is (λ r. absurd (not_both r.1 gone)) (s.new_waiting b i p q (is_true t)))

-- ---- sorted

-- all that is left, settled from nothing
pub first_sorted : {preds left ready waiting ready' waiting' : List ℕ} (w : ℕ) → 8 ≤ w → Settled (Passed (mark left) w) preds left ready waiting ready' waiting'
    → Blank ready → Blank waiting → Sorted preds left ready' waiting'
first_sorted {preds} {left} {ready} {waiting} {ready'} w h s zr zw =
    record {
      ready_left = λ i q e. (new i q e).0.1;
      ready_free = λ i q e. (new i q e).1;
      others_wait = λ i q e. s.each_settled i q (omega arith, e);
      who_waits = λ b i p q e m. let r = other (λ t. not_both t (marked_none 64 waiting (b * 512 + i) (zw ((b * 512 + i) / 64)))) (s.new_waiting b i p q m) in (r.0.1, r.2);
    }
  where
    new : (i : ℕ) → i < 512 → mark ready' i ≡ true → Passed (mark left) w i × Free preds left i
    new i q e = other (λ t. not_both t (marked_none 64 ready i (zr (i / 64)))) (s.new_ready i q e)

-- a ready job is placed: it is struck, and those that waited for it are settled
module _ {preds left ready waiting left' ready₁ ready' waiting' : List ℕ} {job w : ℕ} (inside : job < 512) (h : 8 ≤ w) (old : Sorted preds left ready waiting) (is_ready : mark ready job ≡ true)
    (sl : Struck job left left') (sr : Struck job ready ready₁) (s : Settled (Passed (in_row waiting job) w) preds left' ready₁ waiting ready' waiting') where
  placed_left : mark left job ≡ true
  placed_left = old.ready_left job inside is_ready

  -- a job with a predecessor that is left is another one
  another : (i b : ℕ) → b < 512 → mark left b ≡ true → in_row preds i b ≡ true → i ≡ job → ⊥
  another i b p e m z = not_both (ap (λ (y : ℕ). in_row preds y b) (sym z) ∙ m) (old.ready_free job inside is_ready b p e)

  -- whoever waits for a job that was left is left still
  waits_left : (b i : ℕ) → b < 512 → i < 512 → mark left b ≡ true → in_row waiting b i ≡ true → mark left' i ≡ true
  waits_left b i p q e m = let r = old.who_waits b i p q e m in struck_keeps job left left' sl i r.0 (another i b p e r.1)

  pub next_sorted : Sorted preds left' ready' waiting'
  next_sorted =
      record {
        ready_left = λ i q e.
            ⊎_elim (λ r. let x = struck_from job ready ready₁ sr i r in struck_keeps job left left' sl i (old.ready_left i q x.0) x.1)
            (λ r. waits_left job i inside q placed_left r.0.1) (s.new_ready i q e);
        ready_free = λ i q e p l m.
            ⊎_elim (λ r. old.ready_free i q (struck_from job ready ready₁ sr i r).0 p l (struck_from job left left' sl p m).0)
            (λ r. r.1 p l m) (s.new_ready i q e);
        others_wait = λ i q l e.
            let x = struck_from job left left' sl i l in
            let f : mark ready i ≡ false = not_yet (λ t. s.stays_ready i q (struck_keeps job ready ready₁ sr i t x.1)) e in
            let r = old.others_wait i q x.0 f in
            ⊎_elim (λ z. s.each_settled i q (omega arith, ap (λ (b : ℕ). in_row waiting b i) (sym z) ∙ r.4) e)
            (λ z. (r.0, r.1, struck_keeps job left left' sl r.0 r.2 z, r.3, s.stays_waiting r.0 i r.1 q r.4))
            (answer (eq_test r.0 job));
        who_waits = λ b i p q l m.
            ⊎_elim (λ r. let e = (struck_from job left left' sl b l).0 in (waits_left b i p q e r, (old.who_waits b i p q e r).1))
            (λ r. (waits_left job i inside q placed_left r.0.1, r.2)) (s.new_waiting b i p q m);
      }
