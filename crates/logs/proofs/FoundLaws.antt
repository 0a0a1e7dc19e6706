-- What a search says of its job, by what `ok_or` makes of it. Assumes nothing.
use mathlib.Core.Path.{◌≡◌, refl, subst}
use mathlib.Core.List.{List}
use Prim.Native.Nat.{ℕ}
use Rattle.std.specs.Prelude.{Option, None, Some, Result, Err, ok_or}
use Rattle.logs.specs.declared.Fault.{Fault}
use Rattle.logs.specs.Search.{Found}

-- what `ok_or` makes an error of
pub none_found : {r : Option ℕ} {e d : Fault} → ◌≡◌ {A = Result ℕ Fault} (Err e) (ok_or r d) → (r ≡ None) × (e ≡ d)
none_found {r = None} x = (refl, cc)
none_found {r = Some n} x = absurd (cc)

-- what the search found, by its variant
pub as_found : (l : List ℕ) (count j : ℕ) {r v : Option ℕ} → r ≡ v → Found l count j r → Found l count j v
as_found l count j e f = subst (Found l count j) e f
