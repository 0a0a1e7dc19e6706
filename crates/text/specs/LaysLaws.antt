-- What follows from `Lays`, for those who show it and for those who use it.
-- Assumes nothing.
use Rattle.std.specs.Prelude.{◌≡◌, refl, Bool, true, false, List, ◌++◌, ℕ, ◌+◌, ◌≤◌, ◌<◌, length, take, drop}
use Rattle.std.proofs.Common.{sym, ap, ◌∙◌, arith, le-leb, leb-true, length-append, length-drop, length-take-le}
use Rattle.std.proofs.lemmas.Bool.{lt-leb}
use Rattle.text.specs.Lays.{room, Lays}

pub lays_room : (at : ℕ) (x o : List ℕ) → at + length x ≤ length o → room at x o ≡ true
lays_room at x o h = le-leb (at + length x) (length o) h

-- the bytes are put
pub laid : (at : ℕ) (x o p : List ℕ) (r : ℕ) → r ≡ at + length x → r ≤ length o → p ≡ take at o ++ x ++ drop r o → Lays at x o p r
laid at x o p r e h w =
    let t = lays_room at x o (omega arith) in
    record { past = rw t e; content = rw t (w ∙ ap (λ (k : ℕ). take at o ++ x ++ drop k o) e) }

-- there is no room
pub lays_none : {at : ℕ} {x o : List ℕ} → length o < at + length x → Lays at x o o at
lays_none {at} {x} {o} h =
    let f = lt-leb (at + length x) (length o) h in
    record { past = rw f; content = rw f }

length_laid : (at : ℕ) (x o : List ℕ) → at + length x ≤ length o → length (take at o ++ x ++ drop (at + length x) o) ≡ length o
length_laid at x o h =
    let e = length-take-le at o (omega arith) in
    simp (length-append, length-drop) (omega arith)

-- the length stays
pub lays_length : {at r : ℕ} {x o p : List ℕ} → Lays at x o p r → length p ≡ length o
lays_length {at} {r} {x} {o} {p} a = go (room at x o) refl
  where
    go : (b : Bool) → room at x o ≡ b → length p ≡ length o
    go true t = ap length (rw t at a.content) ∙ length_laid at x o (leb-true (at + length x) (length o) t)
    go false f = ap length (rw f at a.content)

-- a place within the list leads to a place within it
pub lays_within : {at r : ℕ} {x o p : List ℕ} → Lays at x o p r → at ≤ length o → r ≤ length p
lays_within {at} {r} {x} {o} {p} a h = go (room at x o) refl
  where
    go : (b : Bool) → room at x o ≡ b → r ≤ length p
    go true t =
        let e : r ≡ at + length x = rw t at a.past in
        let k = leb-true (at + length x) (length o) t in
        let l = lays_length a in omega arith
    go false f =
        let e : r ≡ at = rw f at a.past in
        let l = lays_length a in omega arith

-- one result
pub lays_one : {at r s : ℕ} {x o p q : List ℕ} → Lays at x o p r → Lays at x o q s → (r ≡ s) × (p ≡ q)
lays_one a b = (a.past ∙ sym b.past, a.content ∙ sym b.content)
