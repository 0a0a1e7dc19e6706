-- What the contracts of the lister say: the code and place of each refusal, and each answer with what then stands in the lent list.
-- Assumes nothing.
use Rattle.std.specs.Prelude.{List, ℕ, Result, Ok, Err}
use Rattle.verdicts.specs.Verdicts.{Listed, refused}
use Rattle.logs.specs.Faults as faults
use Rattle.lists.specs.declared.Refusal.{Refusal}
use Rattle.lists.specs.declared.Refusal.TheVariants.{Log, NoOrder, Short}

-- document 01's code and place of each refusal
abbrev pub code_of : Refusal → ℕ
code_of (Log e) = faults.code_of e
code_of NoOrder = 17
code_of (Short n) = 18

abbrev pub place_of : Refusal → ℕ
place_of (Log e) = faults.place_of e
place_of NoOrder = 0
place_of (Short n) = n

-- the whole answer
abbrev pub answered : Result ℕ Refusal → List ℕ → Listed
answered (Ok n) lent = record { code = 0; place = n; list = lent }
answered (Err e) lent = refused (code_of e) (place_of e) lent
