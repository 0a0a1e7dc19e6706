-- The coarse mode over what the 32 slots hold: a request is answered, and moves the state, as in the exact mode with its cell's group for its cell (`answer_to` and
-- `after` of Held). So the state of the exact mode is enough, and total for any content; its marks are of groups.
-- Assumes nothing.
use Rattle.std.specs.Prelude.{List, [], ◌∷◌}
use Rattle.history.specs.Replies.{Request, Reply}
use Rattle.held.specs.Held.{Held, answer_to}
use Rattle.coarse.specs.Coarse.{group, in_group}

unfoldable pub coarse_answer : Held → Request → Reply
coarse_answer h r = answer_to h (in_group group r)

unfoldable pub coarse_next : Held → Request → Held
coarse_next h r = Rattle.held.specs.Held.after h (in_group group r)

abbrev pub coarse_answers : Held → List Request → List Reply
coarse_answers h [] = []
coarse_answers h (r ∷ rs) = coarse_answer h r ∷ coarse_answers (coarse_next h r) rs

abbrev pub coarse_state : Held → List Request → Held
coarse_state h [] = h
coarse_state h (r ∷ rs) = coarse_state (coarse_next h r) rs
