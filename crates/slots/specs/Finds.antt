-- Names for what the functions ensure that look for a slot and for a circle: the rules of masks of slots. Each says of lists of numbers what `held` says of a state.
-- Assumes nothing.
use Rattle.std.specs.Prelude.{Bool, not, ◌&&◌, List, ℕ, ◌^◌, eqb, get_or, Option, Some, None}
use Rattle.std.specs.Int.Bits.{bit_or, bit_and}
use Rattle.std.proofs.Math.Option as M
use Rattle.std.proofs.Math.Option.{none, some}
use Rattle.graph.specs.Lists.{only}
use Rattle.graph.specs.Reach.{reach}
use Rattle.marks.specs.Marks.{bit, mask_of, upto}
use Rattle.held.specs.Held.{first_in}
use Rattle.rows.specs.Rows.{is_open}
use Rattle.rows.specs.declared.Slot.{Slot}

-- open and with the number
abbrev pub holds : ℕ → List ℕ → ℕ → ℕ → Bool
holds free numbers j i = is_open free i && eqb (get_or numbers i 0) j

-- the number as that of a slot
abbrev pub as_slot : M.Option ℕ → Option Slot
as_slot none = None
as_slot (some s) = Some (record { 0 = s })

-- the lowest open slot with the number
abbrev pub slot_with : ℕ → List ℕ → ℕ → Option Slot
slot_with free numbers j = as_slot (first_in (only (holds free numbers j) (upto 32)))

-- open and reached from s by one lead or more, over open slots
abbrev pub reaches : ℕ → List ℕ → ℕ → ℕ → Bool
reaches free leads s x = is_open free x && reach (λ i y. bit (get_or leads i 0) y) (only (is_open free) (upto 32)) s x

-- a chain from s back to s, once the slots of a mask lead to s
abbrev pub circled : ℕ → List ℕ → ℕ → ℕ → Bool
circled free leads s from =
    let seen = mask_of 32 (reaches free leads s) in
    not (eqb (bit_or (bit_and seen (2 ^ s)) (bit_and (bit_or seen (2 ^ s)) from)) 0)
