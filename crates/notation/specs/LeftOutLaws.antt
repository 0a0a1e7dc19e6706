-- The history without its abandoned jobs: where the whole is in turn and within the sizes, so is what is left (`left_turns`, `left_sized`), and every event of it can be said (`left_plain`,
-- `plain_sayable`). Where no job is abandoned, nothing is left out (`whole_left`).
-- Assumes nothing.
use Rattle.std.specs.Prelude.{◌≡◌, refl, ◌⊎◌, Bool, true, false, not, cond, List, [], ◌∷◌, ◌++◌, ℕ, ◌<◌, T, length}
use Rattle.std.proofs.Common.{sym, ap, ap₂, subst, ◌∙◌, inl, inr, ⊎_elim, append-nil, append_assoc, le_trans, arith}
use mathlib.Core.List.Memᴰ
use Rattle.graph.specs.Decide.{not_test, true_is}
use Rattle.graph.specs.Lists.{◌∈◌, here, later, only, only_yes, only_no, only_append, only_keeps, only_from, only_all, only_length}
use Rattle.history.specs.Events.{read, write, add, Event, opens, steps, ends, abandons, History, gather, opened_by, ended_by, abandoned_by, has, opened, ended, abandoned, open_now}
use Rattle.history.specs.Turns.{InTurn, InTurnAfter, Turns}
use Rattle.history_laws.specs.TurnLaws.{has_test, kept_from, kept_if, open_from, open_if}
use Rattle.verdicts_laws.specs.LogLaws.{Sized, small_first}
use Rattle.notation.specs.Notation.{Sayable, job_in, without_abandoned}

-- ---- the events of some jobs, by any test of jobs

abbrev of_jobs : (ℕ → Bool) → History → History
of_jobs q h = only (λ e. q (job_in e)) h

-- an event gives no job, or its own
abbrev Own : (Event → List ℕ) → Type 0
Own f = (e : Event) → (f e ≡ []) ⊎ (f e ≡ job_in e ∷ [])

own_opened : Own opened_by
own_opened (opens j) = inr refl
own_opened (steps k j c) = inl refl
own_opened (ends j) = inl refl
own_opened (abandons j) = inl refl

own_ended : Own ended_by
own_ended (opens j) = inl refl
own_ended (steps k j c) = inl refl
own_ended (ends j) = inr refl
own_ended (abandons j) = inl refl

own_abandoned : Own abandoned_by
own_abandoned (opens j) = inl refl
own_abandoned (steps k j c) = inl refl
own_abandoned (ends j) = inl refl
own_abandoned (abandons j) = inr refl

only_own : (q : ℕ → Bool) (j : ℕ) (l : List ℕ) (b : Bool) → q j ≡ b → (l ≡ []) ⊎ (l ≡ j ∷ []) → only q l ≡ cond b l []
only_own q j l true e (inl z) = ap (only q) z ∙ sym z
only_own q j l false e (inl z) = ap (only q) z
only_own q j l true e (inr z) = ap (only q) z ∙ only_yes q j [] e ∙ sym z
only_own q j l false e (inr z) = ap (only q) z ∙ only_no q j [] e

gather_only : (f : Event → List ℕ) → Own f → (q : ℕ → Bool) (h : History) → gather f (of_jobs q h) ≡ only q (gather f h)
gather_only f o q [] = refl
gather_only f o q (e ∷ h) = go (q (job_in e)) refl (gather_only f o q h)
  where
    go : (b : Bool) → q (job_in e) ≡ b → gather f (of_jobs q h) ≡ only q (gather f h) → gather f (cond b (e ∷ of_jobs q h) (of_jobs q h)) ≡ only q (f e ++ gather f h)
    go true p i = ap₂ (λ (x y : List ℕ). x ++ y) (sym (only_own q (job_in e) (f e) true p (o e))) i ∙ sym (only_append q (f e) (gather f h))
    go false p i = i ∙ ap (λ (x : List ℕ). x ++ only q (gather f h)) (sym (only_own q (job_in e) (f e) false p (o e))) ∙ sym (only_append q (f e) (gather f h))

opened_left : (q : ℕ → Bool) (h : History) → opened (of_jobs q h) ≡ only q (opened h)
unfolding opened
opened_left q h = gather_only opened_by own_opened q h

ended_left : (q : ℕ → Bool) (h : History) → ended (of_jobs q h) ≡ only q (ended h)
unfolding ended
ended_left q h = gather_only ended_by own_ended q h

abandoned_left : (q : ℕ → Bool) (h : History) → abandoned (of_jobs q h) ≡ only q (abandoned h)
unfolding abandoned
abandoned_left q h = gather_only abandoned_by own_abandoned q h

from_left : (q : ℕ → Bool) {l k : List ℕ} {j : ℕ} → l ≡ only q k → j ∈ l → j ∈ k
from_left q {k = k} {j = j} e m = (only_from q k (subst (λ (x : List ℕ). j ∈ x) e m)).0

-- ---- in turn

open_left : (q : ℕ → Bool) (h : History) {j : ℕ} → T (q j) → j ∈ open_now h → j ∈ open_now (of_jobs q h)
open_left q h {j} t m =
    let r = open_from h m in
    let k = kept_from h r.0 in
    open_if (of_jobs q h)
    (kept_if (of_jobs q h) (subst (λ (l : List ℕ). j ∈ l) (sym (opened_left q h)) (only_keeps q k.0 t)) (λ n. k.1 (from_left q (abandoned_left q h) n)))
    (λ n. r.1 (from_left q (ended_left q h) n))

turn_left : (q : ℕ → Bool) (h : History) (e : Event) → T (q (job_in e)) → ((j : ℕ) → e ≡ abandons j → ⊥) → InTurn h e → InTurn (of_jobs q h) e
turn_left q h (opens j) t f i = λ n m. i n (from_left q (opened_left q h) m)
turn_left q h (steps k j c) t f i = (open_left q h t i.0, i.1)
turn_left q h (ends j) t f i = open_left q h t i
turn_left q h (abandons j) t f i = absurd (f j refl)

-- where the abandons are left out, what is left is in turn
turns_left : (q : ℕ → Bool) (g es : History) → ((j : ℕ) → abandons j ∈ es → T (q j) → ⊥) → InTurnAfter g es → InTurnAfter (of_jobs q g) (of_jobs q es)
turns_left q g [] f t = tt
turns_left q g (e ∷ es) f t = go (q (job_in e)) refl (turns_left q (g ++ e ∷ []) es (λ j m. f j (later m)) t.1)
  where
    go : (b : Bool) → q (job_in e) ≡ b → InTurnAfter (of_jobs q (g ++ e ∷ [])) (of_jobs q es) → InTurnAfter (of_jobs q g) (cond b (e ∷ of_jobs q es) (of_jobs q es))
    go true p r = (
      turn_left q g e (true_is p) (λ j z. f j (Memᴰ.head (sym z)) (subst (λ (x : Event). T (q (job_in x))) z (true_is p))) t.0,
      subst (λ (x : History). InTurnAfter x (of_jobs q es)) (only_append (λ e. q (job_in e)) g (e ∷ []) ∙ ap (λ (l : History). of_jobs q g ++ l) (only_yes (λ e. q (job_in e)) e [] p)) r,
    )
    go false p r =
        subst (λ (x : History). InTurnAfter x (of_jobs q es))
        (only_append (λ e. q (job_in e)) g (e ∷ []) ∙ ap (λ (l : History). of_jobs q g ++ l) (only_no (λ e. q (job_in e)) e [] p) ∙ append-nil (of_jobs q g)) r

-- ---- without the abandoned jobs

abandons_in : {j : ℕ} {h : History} → abandons j ∈ h → j ∈ gather abandoned_by h
abandons_in {j = j} (Memᴰ.head {xs = h} e) = Memᴰ.append_left (gather abandoned_by h) (subst (λ (x : Event). j ∈ abandoned_by x) e here)
abandons_in (Memᴰ.tail {x = x} m) = Memᴰ.append_right (abandoned_by x) (abandons_in m)

abbrev stays : History → ℕ → Bool
stays h j = not (has (abandoned h) j)

gone : (h : History) (j : ℕ) → abandons j ∈ h → T (stays h j) → ⊥
unfolding abandoned
gone h j m t = (not_test (has_test (abandoned h) j)).holds t (abandons_in m)

pub left_turns : (h : History) → Turns h → Turns (without_abandoned h)
unfolding without_abandoned
left_turns h t = turns_left (stays h) [] h (gone h) t

pub left_sized : (h : History) → Sized h → Sized (without_abandoned h)
unfolding without_abandoned
left_sized h s =
    let o = opened_left (stays h) h in
    let m = ap length o in
    let l = only_length (stays h) (opened h) in
    let f = s.few_jobs in
    record {
      few = le_trans (only_length (λ e. stays h (job_in e)) h) s.few;
      few_jobs = omega arith;
      small = λ j n. s.small j (from_left (stays h) o n);
    }

-- each event of a history in turn stands after events after which it is in turn
record Placed (h : History) (e : Event) : Type 0 where
  front : History
  back : History
  split : h ≡ front ++ e ∷ back
  turn : InTurn front e

placed : (g es : History) {e : Event} → InTurnAfter g es → e ∈ es → Placed (g ++ es) e
placed g [] t m = absurd (Memᴰ.not-nil m)
placed g (x ∷ es) {e} t m =
    ⊎_elim (λ q. record { front = g; back = es; split = ap (λ (y : Event). g ++ y ∷ es) (sym q); turn = subst (InTurn g) (sym q) t.0 })
    (λ n. subst (λ (h : History). Placed h e) (append_assoc g (x ∷ []) es) (placed (g ++ x ∷ []) es t.1 n)) (Memᴰ.cases_cons m)

-- what an event of a log that is read has, where its job is not abandoned: a job number of 32 bits, a cell of 8
abbrev pub Plain : Event → Type 0
Plain (opens j) = j < 4_294_967_296
Plain (steps k j c) = (j < 4_294_967_296) × (c < 256)
Plain (ends j) = j < 4_294_967_296
Plain (abandons j) = ⊥

-- it can be said, unless it is an add
pub plain_sayable : (e : Event) → ((j c : ℕ) → e ≡ steps add j c → ⊥) → Plain e → Sayable e
plain_sayable (opens j) f p = p
plain_sayable (steps read j c) f p = let q = p.1 in (p.0, omega arith)
plain_sayable (steps write j c) f p = let q = p.1 in (p.0, omega arith)
plain_sayable (steps add j c) f p = absurd (f j c refl)
plain_sayable (ends j) f p = p
plain_sayable (abandons j) f p = p

-- what is left was there
pub left_from : (h : History) (e : Event) → e ∈ without_abandoned h → e ∈ h
unfolding without_abandoned
left_from h e m = (only_from (λ e. stays h (job_in e)) h m).0

pub left_plain : (h : History) → Turns h → Sized h → (e : Event) → e ∈ without_abandoned h → Plain e
unfolding without_abandoned
left_plain h t s e m =
    let r = only_from (λ e. stays h (job_in e)) h m in
    let p = placed [] h t r.0 in
    let z = subst Sized p.split s in
    go e p.front p.back p.turn z r.0 r.1
  where
    go : (e : Event) (f b : History) → InTurn f e → Sized (f ++ e ∷ b) → e ∈ h → T (stays h (job_in e)) → Plain e
    go (opens j) f b i z n k = small_first f (opens j) b i z
    go (steps l j c) f b i z n k = (small_first f (steps l j c) b i z, i.1)
    go (ends j) f b i z n k = small_first f (ends j) b i z
    go (abandons j) f b i z n k = gone h j n k

-- ---- where no job is abandoned

none_abandoned : (h : History) → ((e : Event) → e ∈ h → Sayable e) → gather abandoned_by h ≡ []
none_abandoned [] s = refl
none_abandoned (opens j ∷ h) s = none_abandoned h (λ e m. s e (later m))
none_abandoned (steps k j c ∷ h) s = none_abandoned h (λ e m. s e (later m))
none_abandoned (ends j ∷ h) s = none_abandoned h (λ e m. s e (later m))
none_abandoned (abandons j ∷ h) s = absurd (s (abandons j) here)

pub whole_left : (h : History) → ((e : Event) → e ∈ h → Sayable e) → without_abandoned h ≡ h
unfolding without_abandoned abandoned
whole_left h s =
    only_all (λ e. stays h (job_in e)) h
    (λ e m. (not_test (has_test (abandoned h) (job_in e))).shows (λ n. Memᴰ.not-nil (subst (λ (l : List ℕ). job_in e ∈ l) (none_abandoned h s) n)))
