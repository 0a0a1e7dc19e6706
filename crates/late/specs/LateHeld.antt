-- The second profile over what the 32 slots hold, total for any content and exact to the last bit. The state is the first profile's, and an open, a read
-- and an abandon move it as there (`moved` of Held). A publish puts its writes down as steps, the lowest cell first; when its slot then leads to itself it gets
-- 7 and the state stays as it was, and otherwise the slot ends.
-- Assumes nothing.
use Rattle.std.specs.Prelude.{Bool, cond, List, [], ◌∷◌, ℕ, eqb}
use Rattle.marks.specs.Marks.{bit}
use Rattle.history.specs.Events.{write}
use Rattle.history.specs.Replies.{Reply, want, code_of, reply_of}
use Rattle.held.specs.Held.{Held, leads_at, is_some, at_slot, slot_of, facts, stepped_at, ended_at, with_slot, moved}
use Rattle.late.specs.Late.{Ask, asks, publishes, named, in_profile, untested, publish_code, publish_answer}

-- slot s writes the cells, one after the other
abbrev pub put_down : Held → ℕ → List ℕ → Held
put_down h s [] = h
put_down h s (c ∷ cs) = put_down (stepped_at h write s c) s cs

-- and leads to itself then. Of a state that requests give: a chain goes from its job back to it by ended jobs alone
unfoldable pub leads_back : Held → ℕ → List ℕ → Bool
leads_back h s cs = bit (leads_at (put_down h s cs) s) s

unfoldable pub held_code : Held → ℕ → List ℕ → ℕ
held_code h j cs = publish_code (is_some (slot_of h j)) (at_slot (slot_of h j) (λ s. leads_back h s cs))

unfoldable pub late_answer : Held → Ask → Reply
late_answer h (asks r) = reply_of (untested (facts h)) (in_profile r)
late_answer h (publishes j ws) = publish_answer (held_code h j (named ws)) j

unfoldable pub late_next : Held → Ask → Held
late_next h (asks r) = cond (eqb (code_of (untested (facts h)) (in_profile r)) 0) (moved h (want (in_profile r).kind) r.job r.cell) h
late_next h (publishes j ws) = cond (eqb (held_code h j (named ws)) 0) (with_slot (slot_of h j) (λ s. ended_at (put_down h s (named ws)) s) h) h

abbrev pub late_answers : Held → List Ask → List Reply
late_answers h [] = []
late_answers h (a ∷ l) = late_answer h a ∷ late_answers (late_next h a) l

abbrev pub late_state : Held → List Ask → Held
late_state h [] = h
late_state h (a ∷ l) = late_state (late_next h a) l
