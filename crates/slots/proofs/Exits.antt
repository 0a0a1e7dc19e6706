-- What a `?` hands on: the refusal that it found (`handed`), and NotOpen where no slot was found (`no_slot`).
-- Assumes nothing.
use mathlib.Core.Path.{◌≡◌, refl, ap}
use Rattle.std.specs.Prelude.{Option, Some, None, Result, Ok, Err}
use Rattle.std.specs.Option.{ok_or}
use Rattle.std.specs.Result.{IsErrAnd}
use Rattle.rows.specs.declared.Slot.{Slot}
use Rattle.slots.specs.declared.Refusal.{Refusal}
use Rattle.slots.specs.declared.Refusal.TheVariants.{NotOpen}

pub handed : {T E : Type 0} (r : Result T E) {e : E} → IsErrAnd r (λ y. y ≡ e) → r ≡ Err e
handed (Ok x) h = absurd h
handed (Err y) h = ap Err h

pub no_slot : {T : Type 0} (o : Option Slot) (r : Result T Refusal) {e : Refusal} → Err e ≡ ok_or o NotOpen → IsErrAnd r (λ y. y ≡ e) → (o ≡ None) × (r ≡ Err NotOpen)
no_slot None (Ok x) q h = absurd h
no_slot None (Err y) {e} q h = let p : e ≡ NotOpen = cc in (refl, cc)
no_slot (Some s) r q h = absurd (cc)
