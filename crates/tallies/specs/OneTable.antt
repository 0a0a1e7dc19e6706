-- The lists that tell of the events of a log are one: two such tables of jobs have the same count, numbers and states, and the same steps are told.
-- Assumes nothing.
use Rattle.std.specs.Prelude.{◌≡◌, List, [], ◌∷◌, ℕ, suc, ◌+◌, ◌≤◌, ◌<◌, length, get_or}
use Rattle.std.proofs.Common.{sym, ap, ◌∙◌, subst, ⊎_elim, eq-or-lt_of_le, arith}
use Rattle.history.specs.Events.{Deed, does, opening, ending, Event, opens, steps, ends, abandons, History, opened}
use Rattle.verdicts.specs.Logs.{most_jobs}
use Rattle.tallies.specs.Jobs.{Padded, Jobs, packed_step, Packs, Tells, Told, Taken}
use Rattle.tallies.specs.PadLaws.{padded_one}
use Rattle.tallies.specs.TableLaws.{same_entry}

module _ {h : History} {numbers states : List ℕ} {count : ℕ} (jobs : Jobs h numbers states count) where
  -- a step has one job, and a job one place in the table
  packs_one : (d : Deed) (j c x y : ℕ) → Packs (opened h) d j c x → Packs (opened h) d j c y → x ≡ y
  packs_one d j c x y p q =
      let m = jobs.many in
      let a : p.0 < count = (let l = p.1 in omega arith) in
      let b : q.0 < count = (let l = q.1 in omega arith) in
      p.4
      ∙ ap (λ (i : ℕ). packed_step i d c) (same_entry jobs p.0 q.0 a b (jobs.named p.0 a ∙ p.2 ∙ sym q.2 ∙ sym (jobs.named q.0 b)))
      ∙ sym q.4

  tells_one : (e : Event) (x y : ℕ) → Tells (opened h) e x → Tells (opened h) e y → x ≡ y
  tells_one (opens j) x y p q = packs_one opening j 0 x y p q
  tells_one (steps k j c) x y p q = packs_one (does k) j c x y p q
  tells_one (ends j) x y p q = packs_one ending j 0 x y p q
  tells_one (abandons j) x y p q = p ∙ sym q

  told_one : (told then : List ℕ) (n : ℕ) (g : History) → Told (opened h) told n g → Told (opened h) then n g → (i : ℕ) → n ≤ i → i < n + length g → get_or told i 0 ≡ get_or then i 0
  told_one told then n [] t u i l q = absurd (omega arith)
  told_one told then n (e ∷ g) t u i l q =
      ⊎_elim
      (λ z. subst (λ (k : ℕ). get_or told k 0 ≡ get_or then k 0) z (tells_one e (get_or told n 0) (get_or then n 0) t.0 u.0))
      (λ r. told_one told then (suc n) g t.1 u.1 i r (omega arith))
      (eq-or-lt_of_le l)

module _ {h : History} {n m : ℕ} {numbers numbers₂ states states₂ told told₂ : List ℕ} {count count₂ : ℕ}
    (t : Taken h n numbers states told count) (u : Taken h m numbers₂ states₂ told₂ count₂) where
  pub one_count : count ≡ count₂
  one_count = t.jobs.many ∙ sym u.jobs.many

  pub one_numbers : numbers ≡ numbers₂
  one_numbers =
      let c = one_count in
      padded_one t.jobs.numbers_padded (subst (Padded numbers₂ most_jobs) (sym c) u.jobs.numbers_padded)
      (λ i q. t.jobs.named i q ∙ sym (u.jobs.named i (omega arith)))

  pub one_states : states ≡ states₂
  one_states =
      let c = one_count in
      padded_one t.jobs.states_padded (subst (Padded states₂ most_jobs) (sym c) u.jobs.states_padded)
      (λ i q. t.jobs.stated i q ∙ sym (u.jobs.stated i (omega arith)))

  pub one_told : told ≡ told₂
  one_told =
      let a = t.at in
      let b = u.at in
      padded_one (record { wide = t.wide; past = t.rest }) (record { wide = u.wide; past = λ i q. u.rest i (omega arith) })
      (λ i q. told_one t.jobs told told₂ 0 h t.steps_told u.steps_told i (omega arith) (omega arith))
