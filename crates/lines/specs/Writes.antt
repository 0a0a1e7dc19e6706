-- What the contracts say: bytes put at the start of a lent list, and what a run of lines leaves.
-- Assumes nothing.
use Rattle.std.specs.Prelude.{◌≡◌, refl, Bool, true, false, ◌&&◌, cond, List, ◌++◌, ℕ, ◌+◌, ◌/◌, ◌≤◌, ◌<◌, ltb, leb, length, take, drop, Option, Some, None}
use Rattle.std.proofs.Common.{ltb-true}
use Rattle.history.specs.Formats.{records}
use Rattle.held.specs.Held.{Held, after_all}
use Rattle.lines.specs.Lines.{lines_of}

-- where there is room, the bytes stand at the start and the rest is as it was; and where there is none, nothing moves. That
-- the count is within the list follows; it is stated for those who take that part of it
pub record Starts (room : Bool) (bytes out out' : List ℕ) (r : ℕ) : Type 0 where
  pub count : r ≡ cond room (length bytes) 0
  pub content : out' ≡ cond room (bytes ++ drop (length bytes) out) out
  pub within : r ≤ length out'

-- the same at a place: where there is room, the bytes stand there, the rest is as it was, and r is the place past them; and where there is none, nothing moves and r is the place
pub record PutsAt (room : Bool) (at : ℕ) (bytes out out' : List ℕ) (r : ℕ) : Type 0 where
  pub past : r ≡ cond room (at + length bytes) at
  pub content : out' ≡ cond room (take at out ++ bytes ++ drop (at + length bytes) out) out

-- 44 bytes for each whole record, and a place that no line takes to the end of its type
abbrev pub most_place : ℕ
most_place = 4611686018427387904

unfoldable pub roomy : ℕ → List ℕ → List ℕ → Bool
roomy p input out = ltb p most_place && leb (length input / 8) (length out / 44)

and_true_left : (a b : Bool) → (a && b) ≡ true → a ≡ true
and_true_left true b t = refl
and_true_left false b t = t

-- where there is room, the place is below the most
pub roomy_place : (p : ℕ) (input out : List ℕ) → roomy p input out ≡ true → p < most_place
unfolding roomy
roomy_place p input out t = ltb-true p most_place (and_true_left (ltb p most_place) (leb (length input / 8) (length out / 44)) t)

-- what a run leaves that comes to w: where there is room it answers w, the bytes stand at the start of the output and the rest is as it was, and of the state h is left g; and where there is none
-- it answers nothing, and nothing moves
pub record Leaves {W : Type 0} (room : Bool) (w : W) (bytes out : List ℕ) (h g : Held) (r : Option W) (h' : Held) (out' : List ℕ) : Type 0 where
  pub answered : r ≡ cond room (Some w) None
  pub content : out' ≡ cond room (bytes ++ drop (length bytes) out) out
  pub left : h' ≡ cond room g h

-- the first profile's run of the whole records of an input, which comes to the count of bytes written
abbrev pub Writes : ℕ → Held → List ℕ → List ℕ → Option ℕ → Held → List ℕ → Type 0
Writes p h input out r h' out' = let bytes = lines_of p h input in Leaves (roomy p input out) (length bytes) bytes out h (after_all h (records input)) r h' out'
