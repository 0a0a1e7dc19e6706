-- Lines by locks of an input that comes in parts, and what the program `locked` prints, by the rule of locks over the slots.
-- Assumes nothing.
use Rattle.std.specs.Prelude.{◌≡◌, refl, ℕ, suc, ◌+◌, ◌/◌, ◌%◌, ◌≤◌, ◌<◌, Some}
use Rattle.std.proofs.Common.{sym, ◌∙◌, add-zero, arith}
use Rattle.std.proofs.Math.Path.{ap}
use mathlib.Core.List.{List, [], ◌∷◌, ◌++◌, append_assoc}
use Rattle.std.proofs.Math.Dec.{eqb}
use Rattle.std.proofs.Math.ListN.{length, length-append}
use Rattle.graph.specs.Lists.{only, only_append, only_length}
use Rattle.history.specs.Formats.{records}
use Rattle.history_laws.specs.RecordLaws.{records_length}
use Rattle.history.specs.Replies.{Request, Reply}
use Rattle.held.specs.Held.{Held, fresh_held}
use Rattle.locks.specs.Locks.{put_off}
use Rattle.locks.specs.LocksHeld.{lock_answer, lock_next, lock_answers, lock_state}
use Rattle.locks.proofs.LockPromises.{locks_exact}
use Rattle.lines.specs.Lines.{line, lines, header_line, tail_line}
use Rattle.lines.specs.Writes.{most_place, roomy_place}
use Rattle.lines.specs.LineLaws.{records_append, leaves_some}
use Rattle.lines.specs.declared.Written.{Written}
use Rattle.locklines.specs.LockLines.{lock_lines_of, off_of, off_bytes, locked_output}
use Rattle.locklines.specs.LockWrites.{LockWrites}

lines_append : (p : ℕ) (x y : List Reply) → lines p (x ++ y) ≡ lines p x ++ lines (p + length x) y
lines_append p [] y = ap (λ (k : ℕ). lines k y) (sym (add-zero p))
lines_append p (a ∷ x) y =
    let k : p + 1 + length x ≡ p + suc (length x) = omega arith in
    ap (λ (l : List ℕ). line p a ++ l) (lines_append (p + 1) x y ∙ ap (λ (n : ℕ). lines (p + 1) x ++ lines n y) k)
    ∙ sym (append_assoc (line p a) (lines (p + 1) x) (lines (p + suc (length x)) y))

answers_append : (h : Held) (x y : List Request) → lock_answers h (x ++ y) ≡ lock_answers h x ++ lock_answers (lock_state h x) y
answers_append h [] y = refl
answers_append h (r ∷ x) y = ap (λ (l : List Reply). lock_answer h r ∷ l) (answers_append (lock_next h r) x y)

answers_length : (h : Held) (x : List Request) → length (lock_answers h x) ≡ length x
answers_length h [] = refl
answers_length h (r ∷ x) = ap suc (answers_length (lock_next h r) x)

state_append : (h : Held) (x y : List Request) → lock_state h (x ++ y) ≡ lock_state (lock_state h x) y
state_append h [] y = refl
state_append h (r ∷ x) y = state_append (lock_next h r) x y

-- whole records first, and then the rest, from the place and the state that they leave: the lines, the numbers that are put off, and the state
module _ (h : Held) (a b : List ℕ) (e : length a % 8 ≡ 0) where
  pub lock_lines_append : (p : ℕ) → lock_lines_of p h (a ++ b) ≡ lock_lines_of p h a ++ lock_lines_of (p + length a / 8) (lock_state h (records a)) b
  unfolding lock_lines_of
  lock_lines_append p =
      ap (λ (rs : List Request). lines p (lock_answers h rs)) (records_append a b e)
      ∙ ap (lines p) (answers_append h (records a) (records b))
      ∙ lines_append p (lock_answers h (records a)) (lock_answers (lock_state h (records a)) (records b))
      ∙ ap (λ (n : ℕ). lines p (lock_answers h (records a)) ++ lines (p + n) (lock_answers (lock_state h (records a)) (records b))) (answers_length h (records a) ∙ records_length a)

  pub lock_off_append : off_of h (a ++ b) ≡ off_of h a + off_of (lock_state h (records a)) b
  unfolding off_of
  lock_off_append =
      ap (λ (rs : List Request). put_off (lock_answers h rs)) (records_append a b e)
      ∙ ap put_off (answers_append h (records a) (records b))
      ∙ ap length (only_append (λ (r : Reply). eqb r.code 10) (lock_answers h (records a)) (lock_answers (lock_state h (records a)) (records b)))
      ∙ length-append (only (λ (r : Reply). eqb r.code 10) (lock_answers h (records a))) (only (λ (r : Reply). eqb r.code 10) (lock_answers (lock_state h (records a)) (records b)))

  pub lock_state_append : lock_state h (records (a ++ b)) ≡ lock_state (lock_state h (records a)) (records b)
  lock_state_append = ap (lock_state h) (records_append a b e) ∙ state_append h (records a) (records b)

-- the program's output, by the slots from the fresh state
pub locked_lines : (input : List ℕ)
    → locked_output input ≡ header_line ++ lock_lines_of 0 (fresh_held 1) input ++ tail_line (length input % 8) ++ off_bytes (off_of (fresh_held 1) input)
unfolding locked_output lock_lines_of off_of
locked_lines input =
    ap (λ (l : List Reply). header_line ++ lines 0 l ++ tail_line (length input % 8) ++ off_bytes (put_off l)) (sym (locks_exact 1 (records input)))

-- ---- a run of lines

-- where a run answers, the place is below the most, the count of bytes within the output, and no more are put off than there are whole records
pub lock_writes_some : (p : ℕ) (input : List ℕ) {h g : Held} {out out' : List ℕ} {w : Written} → LockWrites p h input out (Some w) g out'
    → (p < most_place) × (w.bytes ≤ length out') × (w.counted ≤ length input / 8)
unfolding off_of
lock_writes_some p input {h} {out = out} {w = w} a =
    let s = leaves_some a in
    let bytes : w.bytes ≡ length (lock_lines_of p h input) = ap (λ (v : Written). v.bytes) s.1 in
    let off : w.counted ≡ off_of h input = ap (λ (v : Written). v.counted) s.1 in
    let few = only_length (λ (r : Reply). eqb r.code 10) (lock_answers h (records input)) in
    let l = answers_length h (records input) ∙ records_length input in
    (roomy_place p input out s.0, omega (arith, bytes, s.2), omega (arith, off, few, l))
