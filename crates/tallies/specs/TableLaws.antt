-- What the table of jobs tells: that its numbers rise, which jobs it has, and how each stands.
-- Assumes nothing.
use Rattle.std.specs.Prelude.{◌≡◌, refl, ◌↔◌, ◌⊎◌, Bool, cond, List, [], ◌∷◌, ℕ, zero, suc, ◌≤◌, ◌<◌, T, length, get_or}
use Rattle.std.proofs.Common.{sym, ap, ◌∙◌, inl, inr, arith, ⊎_elim}
use mathlib.Core.List.Memᴰ
use Rattle.graph.specs.Decide.{Decides, own_test, lt_test, by_test, answer}
use Rattle.graph.specs.Lists.{◌∈◌, here, later, Before, first, after}
use Rattle.history.specs.Events.{History, opened, ended, abandoned, open_now, kept, wrote}
use Rattle.history.specs.Turns.{Turns}
use Rattle.history_laws.specs.TurnLaws.{has_test, kept_from, kept_if, open_from, open_if, open_not_abandoned, orderly}
use Rattle.tallies.specs.Jobs.{status, Jobs, Rises}

-- ---- entries and members of a list

pub at_member : (l : List ℕ) (i : ℕ) → i < length l → get_or l i 0 ∈ l
at_member [] i q = absurd (omega arith)
at_member (x ∷ l) zero q = here
at_member (x ∷ l) (suc i) q = later (at_member l i (omega arith))

pub member_at : (l : List ℕ) (j : ℕ) → j ∈ l → (i : ℕ) × (i < length l) × (get_or l i 0 ≡ j)
member_at [] j m = absurd (Memᴰ.not-nil m)
member_at (x ∷ l) j m =
    ⊎_elim (λ e. (0, omega arith, sym e)) (λ n. let r = member_at l j n in let q = r.1 in (suc r.0, omega arith, r.2)) (Memᴰ.cases_cons m)

before_at : (l : List ℕ) (i k : ℕ) → i < k → k < length l → Before (get_or l i 0) (get_or l k 0) l
before_at [] i k p q = absurd (omega arith)
before_at (x ∷ l) i zero p q = absurd (omega arith)
before_at (x ∷ l) zero (suc k) p q = first refl (at_member l k (omega arith))
before_at (x ∷ l) (suc i) (suc k) p q = after (before_at l i k (omega arith) (omega arith))

-- ---- the numbers

-- jobs are opened in rising order
pub opened_rise : (h : History) → Turns h → Rises (length (opened h)) (opened h)
opened_rise h t = λ i k p q. (orderly h t).rising (get_or (opened h) i 0) (get_or (opened h) k 0) (before_at (opened h) i k p q)

module _ {h : History} {numbers states : List ℕ} {count : ℕ} (jobs : Jobs h numbers states count) where
  pub rises : Rises count numbers
  rises = λ i k p q.
      let m = jobs.many in
      let r = opened_rise h jobs.turns i k p (omega arith) in
      let x = jobs.named i (omega arith) in
      let y = jobs.named k q in
      omega arith

  -- two entries of one number are one entry
  pub same_entry : (i k : ℕ) → i < count → k < count → get_or numbers i 0 ≡ get_or numbers k 0 → i ≡ k
  same_entry i k p q e =
      by_order (answer (lt_test i k)) (answer (lt_test k i))
    where
      by_order : (i < k) ⊎ (i < k → ⊥) → (k < i) ⊎ (k < i → ⊥) → i ≡ k
      by_order (inl l) _ = absurd (let r = rises i k l q in omega arith)
      by_order (inr f) (inl l) = absurd (let r = rises k i l p in omega arith)
      by_order (inr f) (inr g) = let f' : (i < k) → ⊥ = f in let g' : (k < i) → ⊥ = g in omega arith

  pub found_opened : (i j : ℕ) → i < count → get_or numbers i 0 ≡ j → j ∈ opened h
  found_opened i j q e = Memᴰ.cast (sym e ∙ jobs.named i q) (at_member (opened h) i (let m = jobs.many in omega arith))

  pub not_found : (j : ℕ) → ((i : ℕ) → i < count → get_or numbers i 0 ≡ j → ⊥) → j ∈ opened h → ⊥
  not_found j f m =
      let r = member_at (opened h) j m in
      let q : r.0 < count = (let n = jobs.many in let p = r.1 in omega arith) in
      f r.0 q (jobs.named r.0 q ∙ r.2)

  pub found_state : (i j : ℕ) → i < count → get_or numbers i 0 ≡ j → get_or states i 0 ≡ status h j
  found_state i j q e = jobs.stated i q ∙ ap (status h) (sym (jobs.named i q) ∙ e)

-- ---- how a job stands

-- the rule, over any three tests
module _ {A E W : Type 0} {a e w : Bool} (da : Decides a A) (de : Decides e E) (dw : Decides w W) where
  stands : (P : ℕ → Type 0) → (A → P 4) → ((A → ⊥) → E → P 3) → ((A → ⊥) → (E → ⊥) → W → P 2) → ((A → ⊥) → (E → ⊥) → (W → ⊥) → P 1) → P (cond a 4 (cond e 3 (cond w 2 1)))
  stands P f g k l =
      by_test (λ b. P (cond b 4 (cond e 3 (cond w 2 1)))) da f
      (λ na. by_test (λ b. P (cond b 3 (cond w 2 1))) de (g na) (λ ne. by_test (λ b. P (cond b 2 1)) dw (k na ne) (l na ne)))

-- what holds of a number for each way in which a job stands holds of its status
pub by_status : (h : History) (j : ℕ) (P : ℕ → Type 0) → (j ∈ abandoned h → P 4) → ((j ∈ abandoned h → ⊥) → j ∈ ended h → P 3)
    → ((j ∈ abandoned h → ⊥) → (j ∈ ended h → ⊥) → T (wrote h j) → P 2) → ((j ∈ abandoned h → ⊥) → (j ∈ ended h → ⊥) → (T (wrote h j) → ⊥) → P 1) → P (status h j)
unfolding status
by_status h j = stands (has_test (abandoned h) j) (has_test (ended h) j) (own_test (wrote h j))

pub status_gone : (h : History) (j : ℕ) → (status h j ≡ 4) ↔ (j ∈ abandoned h)
status_gone h j =
    by_status h j (λ n. (n ≡ 4) ↔ (j ∈ abandoned h))
    (λ m. (λ e. m, λ m'. refl))
    (λ na m. (λ e. absurd (omega arith), λ m'. absurd (na m')))
    (λ na ne w. (λ e. absurd (omega arith), λ m'. absurd (na m')))
    (λ na ne nw. (λ e. absurd (omega arith), λ m'. absurd (na m')))

-- open: opened, and 1 or 2
pub status_open : (h : History) (j : ℕ) → j ∈ opened h → (status h j ≤ 2) ↔ (j ∈ open_now h)
status_open h j m =
    by_status h j (λ n. (n ≤ 2) ↔ (j ∈ open_now h))
    (λ a. (λ q. absurd (omega arith), λ o. absurd (open_not_abandoned h o a)))
    (λ na e. (λ q. absurd (omega arith), λ o. absurd ((open_from h o).1 e)))
    (λ na ne w. (λ q. open_if h (kept_if h m na) ne, λ o. omega arith))
    (λ na ne nw. (λ q. open_if h (kept_if h m na) ne, λ o. omega arith))

-- 1: open, and has not written
pub status_one : (h : History) (j : ℕ) → j ∈ opened h → (status h j ≡ 1) ↔ ((j ∈ open_now h) × (T (wrote h j) → ⊥))
status_one h j m =
    by_status h j (λ n. (n ≡ 1) ↔ ((j ∈ open_now h) × (T (wrote h j) → ⊥)))
    (λ a. (λ q. absurd (omega arith), λ o. absurd (open_not_abandoned h o.0 a)))
    (λ na e. (λ q. absurd (omega arith), λ o. absurd ((open_from h o.0).1 e)))
    (λ na ne w. (λ q. absurd (omega arith), λ o. absurd (o.1 w)))
    (λ na ne nw. (λ q. (open_if h (kept_if h m na) ne, nw), λ o. refl))

pub status_kept : (h : History) (j : ℕ) → j ∈ opened h → (status h j ≡ 4 → ⊥) → j ∈ kept h
status_kept h j m f = kept_if h m (λ a. f ((status_gone h j).1 a))

pub kept_status : (h : History) (j : ℕ) → j ∈ kept h → (j ∈ opened h) × (status h j ≡ 4 → ⊥)
kept_status h j m = ((kept_from h m).0, λ e. (kept_from h m).1 ((status_gone h j).0 e))
