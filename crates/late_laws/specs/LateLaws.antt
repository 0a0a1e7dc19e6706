-- The cells of a set are cells; and the writes of a publish, put down one after the other, leave the open slots as they were. What else they leave, all at once, is said for the
-- code in PublishLaws of crate `slots`.
-- Assumes nothing.
use Rattle.std.specs.Prelude.{◌≡◌, refl, not, List, [], ◌∷◌, ℕ, ◌<◌}
use Rattle.std.proofs.Common.{ap}
use Rattle.graph.specs.Lists.{◌∈◌, only_from}
use Rattle.marks.specs.Marks.{bit, upto}
use Rattle.marks.specs.MarkLaws.{upto_from}
use Rattle.marks.specs.Words.{marked}
use Rattle.history.specs.Events.{write}
use Rattle.history.specs.Replies.{cells}
use Rattle.held.specs.Held.{Held, word_marks, open_at, stepped_at}
use Rattle.late.specs.Late.{named}
use Rattle.late.specs.LateHeld.{put_down}

-- every cell of the list is a cell
abbrev pub Real : List ℕ → Type 0
Real cs = (c : ℕ) → c ∈ cs → c < cells

-- and so is every cell of a set
pub named_real : (ws : List ℕ) → Real (named ws)
unfolding named
named_real ws c m = upto_from cells (only_from (marked word_marks ws) (upto cells) m).0

put_free : (s : ℕ) (h : Held) (cs : List ℕ) → (put_down h s cs).free ≡ h.free
unfolding stepped_at
put_free s h [] = refl
put_free s h (c ∷ cs) = put_free s (stepped_at h write s c) cs

pub put_open : (s : ℕ) (h : Held) (cs : List ℕ) (i : ℕ) → open_at (put_down h s cs) i ≡ open_at h i
unfolding open_at
put_open s h cs i = ap (λ (n : ℕ). not (bit n i)) (put_free s h cs)
