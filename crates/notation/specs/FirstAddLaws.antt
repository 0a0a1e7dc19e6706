-- Where the first add of a history stands. The count of the events before it is its place, and that of all events where there is none (`found`), and only so (`first_is`, `none_is`).
-- Assumes nothing.
use Rattle.std.specs.Prelude.{◌≡◌, Bool, true, false, cond, [], ◌∷◌, ◌++◌, ℕ, suc, ◌+◌, ◌<◌}
use Rattle.std.proofs.Math.Path.{refl, ap}
use Rattle.std.proofs.Common.{sym, subst, ◌∙◌, ⊎_elim}
use mathlib.Core.List.Memᴰ
use native.Mathlib.Omega.{arith}
use Rattle.std.proofs.Math.ListN.{length, length-append}
use Rattle.graph.specs.Lists.{◌∈◌, here, later}
use Rattle.history.specs.Events.{read, write, add, Event, opens, steps, ends, abandons, History}
use Rattle.notation.specs.Notation.{NoAdd, FirstAdd}
use Rattle.notation.specs.Answers.{adds, before_adds}

-- ---- one event

pub none_more : (e : Event) (h : History) → adds e ≡ false → NoAdd h → NoAdd (e ∷ h)
none_more e h q f j c m =
    ⊎_elim (λ p. let z : ◌≡◌ {A = ℕ} 1 0 = ap (λ (x : Event). cond (adds x) 1 0) p ∙ ap (λ (b : Bool). cond b 1 0) q in absurd (omega arith)) (f j c) (Memᴰ.cases_cons m)

pub one_on : (e : Event) (h : History) → adds e ≡ false → before_adds (e ∷ h) ≡ suc (before_adds h)
unfolding before_adds
one_on e h q = ap (λ (b : Bool). cond b 0 (suc (before_adds h))) q

pub add_first : (e : Event) (h : History) → adds e ≡ true → before_adds (e ∷ h) ≡ 0
unfolding before_adds
add_first e h q = ap (λ (b : Bool). cond b 0 (suc (before_adds h))) q

-- ---- the count

pub data Found (h : History) : Type 0 where
  none : NoAdd h → before_adds h ≡ length h → Found h
  first : FirstAdd h (before_adds h) → before_adds h < length h → Found h

found_on : (e : Event) (h : History) → adds e ≡ false → Found h → Found (e ∷ h)
found_on e h q (none f n) = none (none_more e h q f) (one_on e h q ∙ ap suc n)
found_on e h q (first a l) =
    let s = one_on e h q in
    first
    (record {
      before = e ∷ a.before;
      job = a.job;
      cell = a.cell;
      after = a.after;
      split = ap (λ (k : History). e ∷ k) a.split;
      place = s ∙ ap suc a.place;
      none_before = none_more e a.before q a.none_before;
    }) (omega arith)

pub found : (h : History) → Found h
unfolding before_adds
found [] = none (λ j c m. Memᴰ.not-nil m) refl
found (opens j ∷ h) = found_on (opens j) h refl (found h)
found (steps read j c ∷ h) = found_on (steps read j c) h refl (found h)
found (steps write j c ∷ h) = found_on (steps write j c) h refl (found h)
found (steps add j c ∷ h) =
    first (record { before = []; job = j; cell = c; after = h; split = refl; place = refl; none_before = λ i d m. Memᴰ.not-nil m }) (omega arith)
found (ends j ∷ h) = found_on (ends j) h refl (found h)
found (abandons j ∷ h) = found_on (abandons j) h refl (found h)

-- ---- and only so

pub is_there : {h : History} {p : ℕ} (a : FirstAdd h p) → steps add a.job a.cell ∈ h
is_there a = subst (λ (k : History). steps add a.job a.cell ∈ k) (sym a.split) (Memᴰ.append_right a.before here)

no_add : (e : Event) → ((j c : ℕ) → e ≡ steps add j c → ⊥) → adds e ≡ false
no_add (opens j) f = refl
no_add (steps read j c) f = refl
no_add (steps write j c) f = refl
no_add (steps add j c) f = absurd (f j c refl)
no_add (ends j) f = refl
no_add (abandons j) f = refl

passed_over : (g k : History) → NoAdd g → before_adds (g ++ k) ≡ length g + before_adds k
passed_over [] k f = omega arith
passed_over (e ∷ g) k f =
    let s = one_on e (g ++ k) (no_add e (λ j c q. f j c (Memᴰ.head (sym q)))) in
    let i = passed_over g k (λ j c m. f j c (later m)) in omega arith

pub first_is : {h : History} {p : ℕ} → FirstAdd h p → (before_adds h ≡ p) × (p < length h)
first_is a =
    let rest : History = steps add a.job a.cell ∷ a.after in
    let e = ap before_adds a.split ∙ passed_over a.before rest a.none_before in
    let z : before_adds rest ≡ 0 = unfold before_adds in refl in
    let l = ap length a.split ∙ length-append a.before rest in
    let q = a.place in (omega arith, omega arith)

pub none_is : (h : History) → NoAdd h → before_adds h ≡ length h
none_is h f = go (found h)
  where
    go : Found h → before_adds h ≡ length h
    go (none g n) = n
    go (first a l) = absurd (f a.job a.cell (is_there a))
