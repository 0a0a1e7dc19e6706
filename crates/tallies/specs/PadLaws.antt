-- Lists whose entries past a count are 0: one entry set, one entry more, and that two of them are equal where their first entries are.
-- Assumes nothing.
use Rattle.std.specs.Prelude.{◌≡◌, refl, List, ℕ, zero, suc, ◌+◌, ◌<◌, get_or, set, replicate}
use Rattle.std.proofs.Common.{sym, ◌∙◌, ⊎_elim, arith, length-set, get_or-set_other, ext_get_or}
use Rattle.std.proofs.lemmas.List.{length-replicate}
use Rattle.graph.specs.Decide.{answer, lt_test}
use Rattle.tallies.specs.Jobs.{Padded}

-- so many zeros are zero everywhere
pub zeros : (n i : ℕ) → ◌≡◌ {A = ℕ} (get_or (replicate n 0) i 0) 0
zeros zero i = refl
zeros (suc n) zero = refl
zeros (suc n) (suc i) = zeros n i

pub padded_zeros : (width : ℕ) → Padded (replicate width 0) width 0
padded_zeros width = record { wide = length-replicate width 0; past = λ i q. zeros width i }

module _ {l : List ℕ} {width count : ℕ} (p : Padded l width count) where
  pub padded_set : (i x : ℕ) → i < count → Padded (set l i x) width count
  padded_set i x q = record { wide = length-set l i x ∙ p.wide; past = λ k r. get_or-set_other l i k x 0 (λ z. omega arith) ∙ p.past k r }

  pub padded_more : (x : ℕ) → Padded (set l count x) width (count + 1)
  padded_more x = record { wide = length-set l count x ∙ p.wide; past = λ k r. get_or-set_other l count k x 0 (λ z. omega arith) ∙ p.past k (omega arith) }

  pub padded_one : {then : List ℕ} → Padded then width count → ((i : ℕ) → i < count → get_or l i 0 ≡ get_or then i 0) → l ≡ then
  padded_one {then} s f =
      ext_get_or 0 l then (p.wide ∙ sym s.wide)
      (λ i q. ⊎_elim (f i) (λ r. let o : (i < count) → ⊥ = r in p.past i (omega arith) ∙ sym (s.past i (omega arith))) (answer (lt_test i count)))
