-- The table of states that no requests give (crate `held`, Cases): the next state of each row compared to its last word, all 512 words of all 32 rows.
-- Apart from `held`, because every must-fail edit of the rule would pay for it.
-- Assumes nothing.
use Rattle.std.specs.Prelude.{◌≡◌, refl}
use Rattle.graph.specs.Lists.{◌∈◌}
use Rattle.history.specs.Cases.{rows}
use Rattle.held.specs.Held.{after}
use Rattle.held.specs.Cases.{held_of, MadeUp, made_up_next, made_up_table}

-- every made-up state of the table leaves the next state as written, to the last word
pub made_up_states : (m : MadeUp) → m ∈ made_up_table → after (held_of m.before) m.asked ≡ held_of m.left
unfolding made_up_next
made_up_states m = rows made_up_next (λ m. held_of m.left) (refl, (refl, (refl, (refl, (refl, (refl, (refl, (refl, (refl, (refl, (refl, (refl, (refl, (refl, (refl, (refl, (refl, (refl, (refl, (refl, (refl, (refl, (refl, (refl, (refl, (refl, (refl, (refl, tt))))))))))))))))))))))))))))
