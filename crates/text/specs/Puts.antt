-- Bytes put at a place of a list that has room for them, in parts, so that one run of bytes can be put after another. With room it says what `Lays` does.
-- Assumes nothing.
use Rattle.std.specs.Prelude.{◌≡◌, refl, List, [], ◌∷◌, ◌++◌, ℕ, ◌+◌, ◌-◌, ◌≤◌, ◌<◌, length, take, drop, set}
use Rattle.std.proofs.Common.{sym, ap, ◌∙◌, append_assoc, append-nil, add-zero, add-one, arith, length-append, length-set, take-append-drop, take-suc-set, drop-set-lt, drop-drop, length-take-le, take_at, drop_at}
use Rattle.text.specs.Lays.{Lays}
use Rattle.text.specs.LaysLaws.{laid, lays_room, lays_length}

-- the bytes stand at the place, the rest is as it was, and r is the place past them
pub record Puts (at : ℕ) (bytes out out' : List ℕ) (r : ℕ) : Type 0 where
  pub past : r ≡ at + length bytes
  pub front : take r out' ≡ take at out ++ bytes
  pub back : drop r out' ≡ drop r out
  pub same : length out' ≡ length out

pub puts_byte : (out : List ℕ) (at b : ℕ) {r : ℕ} → at < length out → r ≡ at + 1 → Puts at (b ∷ []) out (set out at b) r
puts_byte out at b {r} h e =
    record {
      past = e;
      front = ap (λ (k : ℕ). take k (set out at b)) (e ∙ add-one at) ∙ take-suc-set out at b h;
      back = drop-set-lt r out at b (omega arith);
      same = length-set out at b;
    }

pub puts_none : (out : List ℕ) (at : ℕ) → Puts at [] out out at
puts_none out at = record { past = sym (add-zero at); front = sym (append-nil (take at out)); back = refl; same = refl }

-- past a place that two lists agree from
pub agree : (r s : ℕ) (a b : List ℕ) → r ≤ s → drop r a ≡ drop r b → drop s a ≡ drop s b
agree r s a b h e =
    let k : s ≡ r + (s - r) = omega arith in
    ap (λ (x : ℕ). drop x a) k ∙ sym (drop-drop (s - r) r a) ∙ ap (drop (s - r)) e ∙ drop-drop (s - r) r b ∙ ap (λ (x : ℕ). drop x b) (sym k)

pub puts_then : {at r s : ℕ} {x y o p q : List ℕ} → Puts at x o p r → Puts r y p q s → Puts at (x ++ y) o q s
puts_then {at} {r} {s} {x} {y} {o} {p} {q} a b =
    record {
      past = simp length-append (omega (arith, a.past, b.past));
      front = b.front ∙ ap (λ (l : List ℕ). l ++ y) a.front ∙ append_assoc (take at o) x y;
      back = b.back ∙ agree r s p o (omega (arith, b.past)) a.back;
      same = b.same ∙ a.same;
    }

-- ---- where there is room, the two say the same

pub puts_lays : {at r : ℕ} {x o p : List ℕ} → Puts at x o p r → r ≤ length o → Lays at x o p r
puts_lays {at} {r} {x} {o} {p} a h =
    laid at x o p r a.past h
    (sym (take-append-drop r p) ∙ ap (λ (l : List ℕ). l ++ drop r p) a.front ∙ ap (λ (l : List ℕ). take at o ++ x ++ l) a.back)

pub lays_puts : {at r : ℕ} {x o p : List ℕ} → Lays at x o p r → at + length x ≤ length o → Puts at x o p r
lays_puts {at} {r} {x} {o} {p} a h =
    let t = lays_room at x o h in
    let e : r ≡ at + length x = rw t at a.past in
    let w : p ≡ take at o ++ x ++ drop r o = (rw t at a.content) ∙ ap (λ (k : ℕ). take at o ++ x ++ drop k o) (sym e) in
    let n : length (take at o ++ x) ≡ r =
    length-append (take at o) x ∙ ap (λ (k : ℕ). k + length x) (length-take-le at o (omega arith)) ∙ sym e in
    record {
      past = e;
      front = ap (take r) w ∙ take_at (take at o ++ x) (drop r o) r n;
      back = ap (drop r) w ∙ drop_at (take at o ++ x) (drop r o) r n;
      same = lays_length a;
    }
