-- `slots::reached` meets its contract. The loop is the search of `SearchLaws`, from where the slot leads to: its invariant is `Search`, a turn is `turn`, and the
-- measure is `falls`'s, those to do and the unseen together. What is seen in the end is the mask of the contract by `reached_mask`.
-- Assumes nothing.
use mathlib.Core.List.{List}
use Prim.Native.Nat.{ℕ, ◌+◌, ◌-◌, ◌^◌}
use lib.ListN.{get_or}
use Rattle.slots.proofs.SearchLaws.{Search, leads_to}
use Rattle.slots.proofs.reached.Given as goal

-- a slot's row
abbrev pub row : List ℕ → ℕ → ℕ
row leads i = get_or leads i 0

abbrev pub invariant-loop-todo : goal.invariant-loop-todo
invariant-loop-todo l = Search (leads_to (row l.leads) (2 ^ 32 - 1 - l.free)) 32 l.initial.seen l.seen l.todo

abbrev pub decreases-loop-todo : goal.decreases-loop-todo
decreases-loop-todo l = l.todo + (2 ^ 32 - 1 - l.seen)
