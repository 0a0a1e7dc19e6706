-- The words in which the theorems of proofs/SwapLaws.antt are said.
-- Assumes nothing.
use Rattle.std.specs.Prelude.{◌≡◌, ◌⊎◌}
use Rattle.std.proofs.Math.Option.{some}
use Prim.Native.Nat.{ℕ, ◌<◌}
use Rattle.std.proofs.Math.Dec.{T}
use Rattle.graph.specs.Lists.{◌∈◌}
use Rattle.history.specs.Events.{Kind, kinds_clash}
use Rattle.history.specs.Replies.{cells, Request}
use Rattle.held.specs.Held.{Held, open_slots, slot_of, chain_back}

-- the steps of two slots are not in conflict: of one slot, or on two cells, or of kinds that do not clash
abbrev pub Clear : Kind → ℕ → ℕ → Kind → ℕ → ℕ → Type 0
Clear k s c l t d = (s ≡ t) ⊎ ((c ≡ d → ⊥) ⊎ (T (kinds_clash k l) → ⊥))

-- what a granted step of slot s has been tested for
pub record Grant (h : Held) (k : Kind) (r : Request) (s : ℕ) : Type 0 where
  pub zero_byte : r.byte1 ≡ 0
  pub real : r.cell < cells
  pub meant : slot_of h r.job ≡ some s
  pub is_open : s ∈ open_slots h
  pub no_chain : T (chain_back h k s r.cell) → ⊥
