-- Lines of an input that comes in parts, and what the trial program prints, by the rule of held.
-- Assumes nothing.
use Rattle.std.specs.Prelude.{◌≡◌, refl, List, [], ◌∷◌, ◌++◌, Bool, true, false, cond, ℕ, suc, ◌+◌, ◌*◌, ◌/◌, ◌%◌, ◌≤◌, ◌<◌, length, drop, Option, Some, None}
use Rattle.std.proofs.Common.{sym, ap, ◌∙◌, append_assoc, add-zero, arith, length-append}
use Rattle.history.specs.Formats.{records}
use Rattle.history_laws.specs.RecordLaws.{records_length}
use Rattle.history.specs.Replies.{Request, Reply}
use Rattle.held.specs.Held.{Held, fresh_held, answer_to, after, answers, after_all}
use Rattle.held_laws.specs.HeldExact.{held_exact}
use Rattle.lines.specs.Lines.{line, lines, lines_of, header_line, tail_line, trial_output}
use Rattle.lines.specs.Writes.{most_place, roomy_place, Starts, Leaves, Writes}

pub records_append : (a b : List ℕ) → length a % 8 ≡ 0 → records (a ++ b) ≡ records a ++ records b
records_append (k ∷ z ∷ c ∷ d ∷ i ∷ j ∷ m ∷ n ∷ l) b h =
    ap
    (λ (rs : List Request). record { kind = k; byte1 = z; cell = c + d * 256; job = i + j * 256 + m * 65536 + n * 16777216 } ∷ rs)
    (records_append l b (let e = length l in omega arith))
records_append [] b h = refl
records_append (k ∷ []) b h = absurd (omega arith)
records_append (k ∷ z ∷ []) b h = absurd (omega arith)
records_append (k ∷ z ∷ c ∷ []) b h = absurd (omega arith)
records_append (k ∷ z ∷ c ∷ d ∷ []) b h = absurd (omega arith)
records_append (k ∷ z ∷ c ∷ d ∷ i ∷ []) b h = absurd (omega arith)
records_append (k ∷ z ∷ c ∷ d ∷ i ∷ j ∷ []) b h = absurd (omega arith)
records_append (k ∷ z ∷ c ∷ d ∷ i ∷ j ∷ m ∷ []) b h = absurd (omega arith)

lines_append : (p : ℕ) (h : Held) (x y : List Request)
    → lines p (answers h (x ++ y)) ≡ lines p (answers h x) ++ lines (p + length x) (answers (after_all h x) y)
lines_append p h [] y = ap (λ (k : ℕ). lines k (answers h y)) (sym (add-zero p))
lines_append p h (r ∷ x) y =
    let k : p + 1 + length x ≡ p + suc (length x) = omega arith in
    ap (λ (l : List ℕ). line p (answer_to h r) ++ l)
    (lines_append (p + 1) (after h r) x y
    ∙ ap (λ (n : ℕ). lines (p + 1) (answers (after h r) x) ++ lines n (answers (after_all (after h r) x) y)) k)
    ∙ sym (append_assoc (line p (answer_to h r)) (lines (p + 1) (answers (after h r) x)) (lines (p + suc (length x)) (answers (after_all (after h r) x) y)))

after_append : (h : Held) (x y : List Request) → after_all h (x ++ y) ≡ after_all (after_all h x) y
after_append h [] y = refl
after_append h (r ∷ x) y = after_append (after h r) x y

-- whole records first, and then the rest, from the place and the state that they leave
pub lines_of_append : (p : ℕ) (h : Held) (a b : List ℕ) → length a % 8 ≡ 0
    → lines_of p h (a ++ b) ≡ lines_of p h a ++ lines_of (p + length a / 8) (after_all h (records a)) b
unfolding lines_of
lines_of_append p h a b e =
    ap (λ (rs : List Request). lines p (answers h rs)) (records_append a b e)
    ∙ lines_append p h (records a) (records b)
    ∙ ap (λ (n : ℕ). lines p (answers h (records a)) ++ lines (p + n) (answers (after_all h (records a)) (records b))) (records_length a)

pub after_all_append : (h : Held) (a b : List ℕ) → length a % 8 ≡ 0 → after_all h (records (a ++ b)) ≡ after_all (after_all h (records a)) (records b)
after_all_append h a b e = ap (after_all h) (records_append a b e) ∙ after_append h (records a) (records b)

-- the trial program's output, by the rule of held from the fresh state
pub trial_lines : (input : List ℕ) → trial_output input ≡ header_line ++ lines_of 0 (fresh_held 1) input ++ tail_line (length input % 8)
unfolding trial_output lines_of
trial_lines input = ap (λ (l : List Reply). header_line ++ lines 0 l ++ tail_line (length input % 8)) (sym (held_exact 1 (records input)))

-- ---- a run of lines

-- where a run answers, there is room, it answers what it comes to, and the bytes written are within the output
pub leaves_some : {W : Type 0} {room : Bool} {w v : W} {bytes out out' : List ℕ} {h g h' : Held} → Leaves room w bytes out h g (Some v) h' out'
    → (room ≡ true) × (v ≡ w) × (length bytes ≤ length out')
leaves_some {W} {room} {w} {v} {bytes} {out} {out'} a = go room a.answered a.content
  where
    go : (b : Bool) → Some v ≡ cond b (Some w) None → out' ≡ cond b (bytes ++ drop (length bytes) out) out → (b ≡ true) × (v ≡ w) × (length bytes ≤ length out')
    go true e c = (refl, cc, omega (arith, ap length c ∙ length-append bytes (drop (length bytes) out)))
    go false e c = cc

-- and so the place is below the most, and the count of bytes within the output
pub writes_some : (p : ℕ) (input : List ℕ) {h g : Held} {out out' : List ℕ} {n : ℕ} → Writes p h input out (Some n) g out' → (p < most_place) × (n ≤ length out')
writes_some p input {out = out} a =
    let s = leaves_some a in
    let e = s.1 in
    let l = s.2 in
    (roomy_place p input out s.0, omega (arith, e, l))

-- ---- a contract leaves one result

pub starts_one : {room : Bool} {bytes out x y : List ℕ} {r s : ℕ} → Starts room bytes out x r → Starts room bytes out y s → (x ≡ y) × (r ≡ s)
starts_one a b = (a.content ∙ sym b.content, a.count ∙ sym b.count)

pub leaves_one : {W : Type 0} {room : Bool} {w : W} {bytes out x y : List ℕ} {h g h₁ h₂ : Held} {r s : Option W}
    → Leaves room w bytes out h g r h₁ x → Leaves room w bytes out h g s h₂ y → (r ≡ s) × (h₁ ≡ h₂) × (x ≡ y)
leaves_one a b = (a.answered ∙ sym b.answered, a.left ∙ sym b.left, a.content ∙ sym b.content)
