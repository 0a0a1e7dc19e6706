-- The cases of the full history, joined: in each the held rule gives its replies, one by one.
-- Assumes nothing.
use Rattle.std.specs.Prelude.{◌≡◌, ◌++◌}
use Rattle.std.proofs.Common.{⊎_elim}
use mathlib.Core.List.Memᴰ
use Rattle.graph.specs.Lists.{◌∈◌}
use Rattle.history.specs.Cases.{Case, requests_of, replies_of, p_table, own_table}
use Rattle.held.specs.Held.{fresh_held, answers}
use Rattle.held.specs.Cases.{held_p_cases, held_own_cases}

pub held_cases : (c : Case) → c ∈ p_table ++ own_table → answers (fresh_held c.first) (requests_of c) ≡ replies_of c
held_cases c m = ⊎_elim (held_p_cases c) (held_own_cases c) (Memᴰ.append_cases p_table m)
