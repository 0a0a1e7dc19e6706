-- One pass over the told steps, record by record, from the first to the last.
--
-- First what the record at i tells, as the code takes it apart: the place of its job in the table, and its row. Then where a pass stands (`Pass`): so many
-- records are passed, and S holds of the kept steps so far and of those that are left. A record that is no step, or a step of an abandoned job, leaves it so
-- (`pass_none`, `pass_gone`); a step of a kept job is met (`Meets`), and the pass goes on with what holds after it (`pass_on`). At the end S holds of all (`pass_all`).
-- Assumes nothing.
use Rattle.std.specs.Prelude.{◌≡◌, not, List, [], ◌∷◌, ◌++◌, ℕ, suc, ◌+◌, ◌-◌, ◌/◌, ◌%◌, ◌≤◌, ◌<◌, length, get_or}
use Rattle.std.proofs.Math.Path.{refl}
use Rattle.std.proofs.Common.{sym, ap, ◌∙◌, subst, append-nil, append_assoc, add-one, arith}
use Rattle.graph.specs.Decide.{not_test, test_true, test_false}
use Rattle.graph.specs.Lists.{◌∈◌, only, only_yes, only_no}
use Rattle.history.specs.Events.{Deed, does, opening, ending, Event, opens, steps, ends, abandons, History, has, opened, abandoned, Step, step_at, step_by, steps_from, all_steps, kept_steps}
use Rattle.history_laws.specs.TurnLaws.{has_test}
use Rattle.tallies.specs.Jobs.{status, room, row_of, packed_step, Packs, Told, Taken}
use Rattle.tallies.specs.RowLaws.{row_small}
use Rattle.tallies.specs.TableLaws.{status_gone}

-- ---- what the record at i tells

abbrev pub slot_at : List ℕ → ℕ → ℕ
slot_at told i = (get_or told i 0 - 1) / 770 % 512

abbrev pub row_at : List ℕ → ℕ → ℕ
row_at told i = (get_or told i 0 - 1) % 770

-- a step that is packed is taken apart again
record Apart (x i : ℕ) (d : Deed) (c : ℕ) : Type 0 where
  slot : (x - 1) / 770 % 512 ≡ i
  row : (x - 1) % 770 ≡ row_of d c
  told : x ≡ 0 → ⊥

apart : (x i : ℕ) (d : Deed) (c : ℕ) → x ≡ packed_step i d c → i < 512 → c < room d → Apart x i d c
apart x i d c e p q = let l = row_small d c q in record { slot = omega arith; row = omega arith; told = λ z. omega arith }

-- the record at i, which is told
data Record (jobs told : List ℕ) (i : ℕ) : History → Type 0 where
  no_step : {e : Event} {rest : History} → step_by i e ≡ [] → get_or told i 0 ≡ 0 → Told jobs told (suc i) rest → Record jobs told i (e ∷ rest)
  a_step : {e : Event} {rest : History} (d : Deed) (j c : ℕ) → step_by i e ≡ step_at i d j c ∷ [] → Packs jobs d j c (get_or told i 0) → Told jobs told (suc i) rest → Record jobs told i (e ∷ rest)

at_record : (jobs told : List ℕ) (i n : ℕ) (g : History) → i + length g ≡ n → i < n → Told jobs told i g → Record jobs told i g
at_record jobs told i n [] e q t = absurd (omega arith)
at_record jobs told i n (opens j ∷ g) e q t = a_step opening j 0 refl t.0 t.1
at_record jobs told i n (steps k j c ∷ g) e q t = a_step (does k) j c refl t.0 t.1
at_record jobs told i n (ends j ∷ g) e q t = a_step ending j 0 refl t.0 t.1
at_record jobs told i n (abandons j ∷ g) e q t = no_step refl t.0 t.1

-- ---- where a pass stands

-- the steps of jobs that are not abandoned
abbrev pub keeps : History → List Step → List Step
keeps h s = only (λ x. not (has (abandoned h) x.job)) s

-- after i records: the rest of the history, and the kept steps so far
pub record At (h : History) (n : ℕ) (told : List ℕ) (i : ℕ) (rest : History) (done : List Step) : Type 0 where
  left : i + length rest ≡ n
  tells : Told (opened h) told i rest
  split : kept_steps h ≡ done ++ keeps h (steps_from i rest)

pub data Pass (h : History) (n : ℕ) (told : List ℕ) (i : ℕ) (S : List Step → List Step → Type 0) : Type 0 where
  pass : {rest : History} {done : List Step} → At h n told i rest done → S done (keeps h (steps_from i rest)) → Pass h n told i S

-- at record i is the kept step b
pub record Meets (h : History) (n : ℕ) (told : List ℕ) (i : ℕ) (S : List Step → List Step → Type 0) : Type 0 where
  pub b : Step
  pub rest : History
  pub done : List Step
  pub later : List Step
  pub so_far : S done (b ∷ later)
  pub after : At h n told (suc i) rest (done ++ b ∷ [])
  pub left : later ≡ keeps h (steps_from (suc i) rest)
  pub inside : i < n
  pub at : b.at ≡ i
  pub stays : b.job ∈ abandoned h → ⊥
  pub known : slot_at told i < length (opened h)
  pub mine : get_or (opened h) (slot_at told i) 0 ≡ b.job
  pub row : row_at told i ≡ row_of b.deed b.cell
  pub real : b.cell < room b.deed

one_on : {h : History} {n : ℕ} {told : List ℕ} (i : ℕ) {S : List Step → List Step → Type 0} → Pass h n told (suc i) S → Pass h n told (i + 1) S
one_on {h} {n} {told} i {S} p = subst (λ (k : ℕ). Pass h n told k S) (sym (add-one i)) p

-- the kept step is passed
pub pass_on : {h : History} {n : ℕ} {told : List ℕ} {i : ℕ} {S S' : List Step → List Step → Type 0} (m : Meets h n told i S) → S' (m.done ++ m.b ∷ []) m.later → Pass h n told (i + 1) S'
pass_on {i = i} {S' = S'} m x = one_on i (pass {rest = m.rest} m.after (subst (S' (m.done ++ m.b ∷ [])) m.left x))

module _ {h : History} {n : ℕ} {numbers states told : List ℕ} {count : ℕ} (s : Taken h n numbers states told count) where
  slot_state : {slot j : ℕ} → slot < length (opened h) → get_or (opened h) slot 0 ≡ j → get_or states slot 0 ≡ status h j
  slot_state {slot} q e = s.jobs.stated slot (let y = s.jobs.many in omega arith) ∙ ap (status h) e

  slot_few : {slot : ℕ} → slot < length (opened h) → slot < 512
  slot_few q = let y = s.jobs.many in let z = s.jobs.few in omega arith

  module _ {S : List Step → List Step → Type 0} where
    -- nothing is passed, and all is
    pub pass_start : S [] (kept_steps h) → Pass h n told 0 S
    unfolding kept_steps all_steps
    pass_start x = pass {rest = h} {done = []} (record { left = let y = s.at in omega arith; tells = s.steps_told; split = refl }) x

    pub pass_all : {i : ℕ} → Pass h n told i S → n ≤ i → S (kept_steps h) []
    pass_all {i} (pass {rest = rest} {done = done} a x) q = go rest a.left a.split x
      where
        go : (g : History) → i + length g ≡ n → kept_steps h ≡ done ++ keeps h (steps_from i g) → S done (keeps h (steps_from i g)) → S (kept_steps h) []
        go [] e f y = subst (λ (l : List Step). S l []) (sym (f ∙ append-nil done)) y
        go (v ∷ g) e f y = absurd (omega arith)

    module _ {i : ℕ} where
      -- a record that keeps no step is passed
      skip : {e : Event} (rest : History) {done : List Step} → At h n told i (e ∷ rest) done → S done (keeps h (step_by i e ++ steps_from (suc i) rest))
          → Told (opened h) told (suc i) rest → keeps h (step_by i e ++ steps_from (suc i) rest) ≡ keeps h (steps_from (suc i) rest) → Pass h n told (suc i) S
      skip rest {done} a x t e =
          pass {rest = rest} (record { left = let y = a.left in omega arith; tells = t; split = a.split ∙ ap (λ (l : List Step). done ++ l) e }) (subst (S done) e x)

      none_go : {rest : History} {done : List Step} → At h n told i rest done → S done (keeps h (steps_from i rest)) → Record (opened h) told i rest → get_or told i 0 ≡ 0
          → Pass h n told (suc i) S
      none_go a x (no_step {rest = rest} f z t) y = skip rest a x t (ap (λ (l : List Step). keeps h (l ++ steps_from (suc i) rest)) f)
      none_go a x (a_step d j c f p t) y = absurd ((apart (get_or told i 0) p.0 d c p.4 (slot_few p.1) p.3).told y)

      gone_go : {rest : History} {done : List Step} → At h n told i rest done → S done (keeps h (steps_from i rest)) → Record (opened h) told i rest → (get_or told i 0 ≡ 0 → ⊥)
          → get_or states (slot_at told i) 0 ≡ 4 → Pass h n told (suc i) S
      gone_go a x (no_step f z t) y g = absurd (y z)
      gone_go a x (a_step {rest = rest} d j c f p t) y g =
          let z = apart (get_or told i 0) p.0 d c p.4 (slot_few p.1) p.3 in
          let gone : j ∈ abandoned h = (status_gone h j).0 (sym (slot_state p.1 p.2) ∙ ap (λ (m : ℕ). get_or states m 0) (sym z.slot) ∙ g) in
          skip rest a x t
          (ap (λ (l : List Step). keeps h (l ++ steps_from (suc i) rest)) f
          ∙ only_no (λ v. not (has (abandoned h) v.job)) (step_at i d j c) (steps_from (suc i) rest) (test_false (not_test (has_test (abandoned h) j)) (λ f. f gone)))

      meets_go : {rest : History} {done : List Step} → At h n told i rest done → S done (keeps h (steps_from i rest)) → Record (opened h) told i rest → i < n → (get_or told i 0 ≡ 0 → ⊥)
          → (get_or states (slot_at told i) 0 ≡ 4 → ⊥) → Meets h n told i S
      meets_go a x (no_step f z t) o y g = absurd (y z)
      meets_go {done = done} a x (a_step {rest = rest} d j c f p t) o y g =
          let z = apart (get_or told i 0) p.0 d c p.4 (slot_few p.1) p.3 in
          let b : Step = step_at i d j c in
          let later = keeps h (steps_from (suc i) rest) in
          let stays : j ∈ abandoned h → ⊥ = λ m. g (ap (λ (m : ℕ). get_or states m 0) z.slot ∙ slot_state p.1 p.2 ∙ (status_gone h j).1 m) in
          let kept = ap (λ (l : List Step). keeps h (l ++ steps_from (suc i) rest)) f
          ∙ only_yes (λ v. not (has (abandoned h) v.job)) b (steps_from (suc i) rest) (test_true (not_test (has_test (abandoned h) j)) stays) in
          record {
            b = b;
            rest = rest;
            done = done;
            later = later;
            so_far = subst (S done) kept x;
            after = record { left = let l = a.left in omega arith; tells = t; split = a.split ∙ ap (λ (l : List Step). done ++ l) kept ∙ sym (append_assoc done (b ∷ []) later) };
            left = refl;
            inside = o;
            at = refl;
            stays = stays;
            known = subst (λ (m : ℕ). m < length (opened h)) (sym z.slot) p.1;
            mine = ap (λ (m : ℕ). get_or (opened h) m 0) z.slot ∙ p.2;
            row = z.row;
            real = p.3;
          }

      -- no step; a step of an abandoned job; a step of a kept job
      pub pass_none : Pass h n told i S → i < n → get_or told i 0 ≡ 0 → Pass h n told (i + 1) S
      pass_none (pass {rest = rest} a x) q z = one_on i (none_go a x (at_record (opened h) told i n rest a.left q a.tells) z)

      pub pass_gone : Pass h n told i S → i < n → (get_or told i 0 ≡ 0 → ⊥) → get_or states (slot_at told i) 0 ≡ 4 → Pass h n told (i + 1) S
      pass_gone (pass {rest = rest} a x) q z g = one_on i (gone_go a x (at_record (opened h) told i n rest a.left q a.tells) z g)

      pub meets : Pass h n told i S → i < n → (get_or told i 0 ≡ 0 → ⊥) → (get_or states (slot_at told i) 0 ≡ 4 → ⊥) → Meets h n told i S
      meets (pass {rest = rest} a x) q z g = meets_go a x (at_record (opened h) told i n rest a.left q a.tells) q z g
