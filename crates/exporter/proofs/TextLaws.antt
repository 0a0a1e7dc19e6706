-- The text of a log, record by record: what is put down after so many records is the text of the kept steps so far (`Said`). In order: the text of one event more; the kept
-- steps as events, which are the history without its abandoned jobs; one record more (`said_next`).
-- Assumes nothing.
use mathlib.Core.Path.{◌≡◌, refl, sym, ap, ap₂, ◌∙◌, subst, subst₂}
use mathlib.Core.Logic.{⊎_elim}
use mathlib.Core.Bool.{Bool, true, false, not, cond}
use mathlib.Core.List.Memᴰ
use mathlib.Core.List.{List, [], ◌∷◌, ◌++◌, append_assoc, append-nil, map, map-append}
use Prim.Native.Nat.{ℕ, zero, suc, ◌+◌, ◌-◌, ◌≤◌, ◌<◌}
use native.Mathlib.Nat.{add-zero}
use native.Mathlib.Omega.{arith}
use lib.ListN.{length, get_or, take, drop, take-append-drop}
use Rattle.graph.specs.Decide.{not_test, eq_test, answer, test_false}
use Rattle.graph.specs.Lists.{◌∈◌, here, later, only}
use Rattle.text.specs.Puts.{Puts, puts_none, puts_then}
use Rattle.history.specs.Events.{read, write, add, Deed, does, opening, ending, Event, opens, steps, ends, abandons, History, gather, abandoned_by, has, abandoned, Step, step_at, steps_from, all_steps, kept_steps}
use Rattle.history_laws.specs.TurnLaws.{has_test}
use Rattle.tallies.specs.Jobs.{room, row_of, Taken}
use Rattle.tallies.specs.PassLaws.{slot_at, row_at, Pass, Meets, pass_start, pass_all, pass_none, pass_gone, meets, pass_on}
use Rattle.notation.specs.Notation.{symbol, text_of, job_in, without_abandoned, NoAdd}
use Rattle.notation.specs.LeftOutLaws.{left_from}
use Rattle.exporter.specs.Exporter.{event_at, gap, symbol_told}
use Rattle.exporter.proofs.PutLaws.{reads_at, writes_at, opens_at, ends_at, gap_first, gap_later, told_none, told_gone, told_kept}

-- ---- the text of one event more

text_more : (f e : Event) (h : History) → text_of (f ∷ (h ++ e ∷ [])) ≡ text_of (f ∷ h) ++ (32 ∷ symbol e)
text_more f e [] = refl
text_more f e (g ∷ h) = ap (λ (x : List ℕ). symbol f ++ (32 ∷ x)) (text_more g e h) ∙ sym (append_assoc (symbol f) (32 ∷ text_of (g ∷ h)) (32 ∷ symbol e))

-- a symbol first, and then maybe more
text_first : (f : Event) (h : History) → (x : List ℕ) × (text_of (f ∷ h) ≡ symbol f ++ x)
text_first f [] = ([], sym (append-nil (symbol f)))
text_first f (g ∷ h) = (32 ∷ text_of (g ∷ h), refl)

-- ---- steps as events

abbrev event_of : Deed → ℕ → ℕ → Event
event_of (does k) j c = steps k j c
event_of opening j c = opens j
event_of ending j c = ends j

abbrev event_by : Step → Event
event_by s = event_of s.deed s.job s.cell

abbrev events_of : List Step → History
events_of s = map event_by s

-- no step is an add
abbrev Plain : List Step → Type 0
Plain s = (a : Step) → a ∈ s → a.deed ≡ does add → ⊥

some_bytes : (d : Deed) (j c : ℕ) (x : List ℕ) → (d ≡ does add → ⊥) → length (symbol (event_of d j c) ++ x) ≡ 0 → ⊥
some_bytes (does read) j c x f e = omega arith
some_bytes (does write) j c x f e = omega arith
some_bytes (does add) j c x f e = f refl
some_bytes opening j c x f e = omega arith
some_bytes ending j c x f e = omega arith

-- the text of one step more, with a blank unless nothing stands before it
step_more : (s : List Step) (b : Step) (at : ℕ) → Plain s → at ≡ length (text_of (events_of s)) → text_of (events_of (s ++ b ∷ [])) ≡ text_of (events_of s) ++ (gap at ++ symbol (event_by b))
step_more [] b at p e = ap (λ (x : List ℕ). x ++ symbol (event_by b)) (sym (gap_first at e))
step_more (a ∷ s) b at p e =
    let t = text_first (event_by a) (events_of s) in
    let f : at ≡ 0 → ⊥ = λ z. some_bytes a.deed a.job a.cell t.0 (p a here) (sym (ap length t.1) ∙ sym e ∙ z) in
    ap (λ (h : History). text_of (event_by a ∷ h)) (map-append event_by s (b ∷ []))
    ∙ text_more (event_by a) (event_by b) (events_of s)
    ∙ ap (λ (x : List ℕ). text_of (event_by a ∷ events_of s) ++ (x ++ symbol (event_by b))) (sym (gap_later at f))

event_among : {a : Step} {s : List Step} → a ∈ s → event_by a ∈ events_of s
event_among (Memᴰ.head e) = Memᴰ.head (ap event_by e)
event_among (Memᴰ.tail m) = later (event_among m)

-- the event of a step's row
row_event : (d : Deed) (j c : ℕ) → (d ≡ does add → ⊥) → c < room d → event_at (row_of d c) j ≡ event_of d j c
row_event (does read) j c f l = reads_at c j l
row_event (does write) j c f l = writes_at (c + 256) j (omega arith) (omega arith) ∙ ap (steps write j) (let z : c + 256 - 256 ≡ c = omega arith in z)
row_event (does add) j c f l = absurd (f refl)
row_event opening j c f l = opens_at (c + 768) j (omega arith)
row_event ending j c f l = ends_at (c + 769) j (omega arith) (λ (e : c + 769 ≡ 768). omega arith)

-- the kept steps of a history are its events without those of abandoned jobs
module _ (h : History) where
  abbrev stays : ℕ → Bool
  stays j = not (has (abandoned h) j)

  one_more : (s : Step) (l : List Step) (b : Bool) {k : History} → events_of l ≡ k → events_of (cond b (s ∷ l) l) ≡ cond b (event_by s ∷ k) k
  one_more s l true e = ap (λ (k : History). event_by s ∷ k) e
  one_more s l false e = e

  abbrev kept_from : ℕ → History → List Step
  kept_from n g = only (λ s. stays s.job) (steps_from n g)

  kept_events : (n : ℕ) (g : History) → ((j : ℕ) → j ∈ gather abandoned_by g → j ∈ abandoned h)
      → events_of (kept_from n g) ≡ only (λ e. stays (job_in e)) g
  kept_events n [] f = refl
  kept_events n (opens j ∷ g) f = one_more (step_at n opening j 0) (kept_from (suc n) g) (stays j) (kept_events (suc n) g f)
  kept_events n (steps k j c ∷ g) f = one_more (step_at n (does k) j c) (kept_from (suc n) g) (stays j) (kept_events (suc n) g f)
  kept_events n (ends j ∷ g) f = one_more (step_at n ending j 0) (kept_from (suc n) g) (stays j) (kept_events (suc n) g f)
  kept_events n (abandons j ∷ g) f =
      kept_events (suc n) g (λ i m. f i (later m))
      ∙ sym (ap (λ (b : Bool). cond b (abandons j ∷ only (λ e. stays (job_in e)) g) (only (λ e. stays (job_in e)) g))
      (test_false (not_test (has_test (abandoned h) j)) (λ x. x (f j here))))

  kept_are : events_of (kept_steps h) ≡ without_abandoned h
  unfolding kept_steps all_steps without_abandoned abandoned
  kept_are = kept_events zero h (λ j m. m)

  pub kept_text : text_of (events_of (kept_steps h)) ≡ text_of (without_abandoned h)
  kept_text = ap text_of kept_are

  -- and where no event is an add, no kept step is
  kept_plain : NoAdd h → Plain (kept_steps h)
  kept_plain f a m e =
      f a.job a.cell
      (subst (λ (x : Event). x ∈ h) (ap (λ (d : Deed). event_of d a.job a.cell) e)
      (left_from h (event_by a) (subst (λ (l : History). event_by a ∈ l) kept_are (event_among m))))

-- ---- the pass

-- nothing is put where there is nothing to put
none_put : {at r : ℕ} {o p : List ℕ} → Puts at [] o p r → (r ≡ at) × (p ≡ o)
none_put {at} {r} {o} {p} w =
    let e : r ≡ at = w.past ∙ add-zero at in
    (e, sym (take-append-drop r p) ∙ ap₂ (λ (x y : List ℕ). x ++ y) (w.front ∙ append-nil (take at o)) (w.back ∙ ap (λ (k : ℕ). drop k o) e) ∙ take-append-drop at o)

-- after i records; those passed and those left are all
abbrev Said : History → List ℕ → List ℕ → ℕ → List Step → List Step → Type 0
Said h out₀ out at done later = Puts 0 (text_of (events_of done)) out₀ out at × (kept_steps h ≡ done ++ later)

abbrev pub Saying : History → ℕ → List ℕ → ℕ → List ℕ → List ℕ → ℕ → Type 0
Saying h n told i out₀ out at = Pass h n told i (Said h out₀ out at)

module _ {h : History} {n : ℕ} {numbers states told : List ℕ} {count : ℕ} (s : Taken h n numbers states told count) (plain : NoAdd h) {out₀ : List ℕ} where
  pub said_start : Saying h n told 0 out₀ out₀ 0
  said_start = pass_start s (puts_none out₀ 0, refl)

  pub said_all : {i at : ℕ} {out : List ℕ} → Saying h n told i out₀ out at → n ≤ i → Puts 0 (text_of (without_abandoned h)) out₀ out at
  said_all {at = at} {out = out} p q = subst (λ (x : List ℕ). Puts 0 x out₀ out at) (kept_text h) (pass_all s p q).0

  module _ {i at r : ℕ} {out out' : List ℕ} (p : Saying h n told i out₀ out at) (q : i < n) where
    same_still : Puts at [] out out' r → Saying h n told (i + 1) out₀ out at → Saying h n told (i + 1) out₀ out' r
    same_still w y = let e = none_put w in subst₂ (λ (k : ℕ) (l : List ℕ). Saying h n told (i + 1) out₀ l k) (sym e.0) (sym e.1) y

    as_put : {l m : List ℕ} → l ≡ m → Puts at l out out' r → Puts at m out out' r
    as_put e w = subst (λ (y : List ℕ). Puts at y out out' r) e w

    met : Meets h n told i (Said h out₀ out at) → Puts at (gap at ++ symbol (event_at (row_at told i) (get_or numbers (slot_at told i) 0))) out out' r → Saying h n told (i + 1) out₀ out' r
    met m w =
        let job : get_or numbers (slot_at told i) 0 ≡ m.b.job = s.jobs.named (slot_at told i) (let k = m.known in let y = s.jobs.many in omega arith) ∙ m.mine in
        let split : kept_steps h ≡ m.done ++ m.b ∷ m.later = m.so_far.1 in
        let none : Plain (m.done ++ m.b ∷ m.later) = subst Plain split (kept_plain h plain) in
        let its : event_at (row_at told i) (get_or numbers (slot_at told i) 0) ≡ event_by m.b = ap₂ event_at m.row job ∙ row_event m.b.deed m.b.job m.b.cell (none m.b (Memᴰ.append_right m.done here)) m.real in
        let f : Puts 0 (text_of (events_of m.done)) out₀ out at = m.so_far.0 in
        pass_on m (
          subst (λ (y : List ℕ). Puts 0 y out₀ out' r)
              (ap (λ (e : Event). text_of (events_of m.done) ++ (gap at ++ symbol e)) its
              ∙ sym (step_more m.done m.b at (λ a k. none a (Memᴰ.append_left (m.b ∷ m.later) k)) (let z = f.past in omega arith)))
              (puts_then f w),
          split ∙ sym (append_assoc m.done (m.b ∷ []) m.later),
        )

    -- one record more
    pub said_next : Puts at (symbol_told numbers states (get_or told i 0) at) out out' r → Saying h n told (i + 1) out₀ out' r
    said_next w =
        ⊎_elim
        (λ z. same_still (as_put (told_none numbers states (get_or told i 0) at z) w) (pass_none s p q z))
        (λ f. ⊎_elim
        (λ z. same_still (as_put (told_gone numbers states (get_or told i 0) at f z) w) (pass_gone s p q f z))
        (λ g. met (meets s p q f g) (as_put (told_kept numbers states (get_or told i 0) at f g) w))
        (answer (eq_test (get_or states (slot_at told i) 0) 4)))
        (answer (eq_test (get_or told i 0) 0))
