-- Bytes put at the start of a list and at a place of it, how many digits a number of 32 bits has, and the bytes of a line.
-- Assumes nothing.
use mathlib.Core.Path.{◌≡◌, sym, ap, ap₂, subst, ◌∙◌}
use mathlib.Core.Bool.{Bool, true}
use mathlib.Core.List.{List, [], ◌∷◌, ◌++◌, append_assoc}
use Prim.Native.Nat.{ℕ, ◌+◌, ◌/◌, ◌^◌, ◌≤◌, ◌<◌}
use native.Mathlib.Omega.{arith}
use lib.ListN.{length, drop, length-append, take-append-drop}
use Rattle.text.specs.Decimal.{decimal}
use Rattle.text.specs.DecimalLaws.{leading_length}
use Rattle.text.specs.LaysLaws.{lays_room}
use Rattle.text.specs.Puts.{Puts, puts_then, puts_lays}
use Rattle.history.specs.Replies.{Reply}
use Rattle.lines.specs.Lines.{line}
use Rattle.lines.specs.Writes.{Starts, PutsAt}

-- bytes put at the start, where there is room
pub puts_starts : {b : Bool} {r : ℕ} {x o p : List ℕ} → b ≡ true → Puts 0 x o p r → Starts b x o p r
puts_starts {b} {r} {x} {o} {p} t a =
    let e : r ≡ length x = omega (arith, a.past) in
    let q =
    sym (take-append-drop r p)
    ∙ ap (λ (l : List ℕ). l ++ drop r p) a.front
    ∙ ap (λ (l : List ℕ). x ++ l) a.back
    ∙ ap (λ (k : ℕ). x ++ drop k o) e in
    let n : length p ≡ length x + length (drop r o) = ap length (q ∙ ap (λ (k : ℕ). x ++ drop k o) (sym e)) ∙ length-append x (drop r o) in
    record { count = rw t e; content = rw t q; within = omega arith }

-- ---- at a place

pub puts_at : {b : Bool} {at r : ℕ} {x o p : List ℕ} → b ≡ true → Puts at x o p r → r ≤ length o → PutsAt b at x o p r
puts_at {b} {at} {r} {x} {o} {p} t a h =
    let l = puts_lays a h in
    let e = lays_room at x o (omega (arith, a.past)) in
    record { past = rw t (rw e at l.past); content = rw t (rw e at l.content) }

-- ---- a number

-- one of 32 bits has at most 10 digits
pub short_length : (n : ℕ) → n < 2 ^ 32 → length (decimal n) ≤ 10
unfolding decimal
short_length n h = let i = leading_length 9 (n / 10) (omega arith) in simp length-append (omega arith)

-- ---- a line

line_joined : (p k j : ℕ) → ((decimal p ++ 32 ∷ []) ++ (decimal k ++ 32 ∷ [])) ++ (decimal j ++ 10 ∷ []) ≡ line p (record { code = k; job = j })
unfolding line
line_joined p k j = simp append_assoc

pub puts_line : (p k j : ℕ) {at a b c : ℕ} {o m n q : List ℕ} → Puts at (decimal p ++ 32 ∷ []) o m a → Puts a (decimal k ++ 32 ∷ []) m n b → Puts b (decimal j ++ 10 ∷ []) n q c
    → Puts at (line p (record { code = k; job = j })) o q c
puts_line p k j {at} {a} {b} {c} {o} {m} {n} {q} x y z = subst (λ (w : List ℕ). Puts at w o q c) (line_joined p k j) (puts_then (puts_then x y) z)

-- of a reply, told by its code and its job
pub puts_reply : (p : ℕ) (a : Reply) {k j at r : ℕ} {o q : List ℕ} → k ≡ a.code → j ≡ a.job → Puts at (line p (record { code = k; job = j })) o q r → Puts at (line p a) o q r
puts_reply p a {k} {j} {at} {r} {o} {q} ek ej w = subst (λ (x : List ℕ). Puts at x o q r) (ap₂ (λ (x y : ℕ). line p (record { code = x; job = y })) ek ej) w
