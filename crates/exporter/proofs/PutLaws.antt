-- What the functions that put a symbol leave: a number after a letter, a cell in its brackets, one run of bytes after another, and the symbol of each row.
-- Assumes nothing.
use mathlib.Core.Path.{◌≡◌, refl, sym, subst}
use mathlib.Core.List.{List, [], ◌∷◌, ◌++◌}
use Prim.Native.Nat.{ℕ, ◌+◌, ◌-◌, ◌/◌, ◌%◌, ◌≤◌, ◌<◌}
use native.Mathlib.Omega.{arith}
use borrow.Author.Tests.{lt-ltb, le-ltb, eq-eqb, ne_eqb}
use lib.ListN.{length, get_or, set, length-append, length-set}
use Rattle.text.specs.Decimal.{decimal}
use Rattle.text.specs.DecimalLaws.{leading_length}
use Rattle.text.specs.Lays.{Lays}
use Rattle.text.specs.Puts.{puts_byte, puts_none, puts_then, lays_puts}
use Rattle.history.specs.Events.{read, write, opens, steps, ends}
use Rattle.notation.specs.Notation.{symbol}
use Rattle.exporter.specs.Exporter.{PutsMost, event_at, gap, symbol_told}

-- ---- runs of bytes

-- how many digits a job's number has, and a cell's
pub job_digits : (n : ℕ) → n < 4294967296 → length (decimal n) ≤ 10
unfolding decimal
job_digits n h = let i = leading_length 9 (n / 10) (omega arith) in simp length-append (omega arith)

pub cell_digits : (n : ℕ) → n < 256 → length (decimal n) ≤ 3
unfolding decimal
cell_digits n h = let i = leading_length 2 (n / 10) (omega arith) in simp length-append (omega arith)

-- a number after one byte
pub number_after : (b n most : ℕ) {at r : ℕ} {o p : List ℕ} → length (decimal n) + 1 ≤ most → at + most ≤ length o → Lays (at + 1) (decimal n) (set o at b) p r
    → PutsMost at most (b ∷ decimal n) o p r
number_after b n most {at} {r} {o} {p} few room l =
    let w : at + 1 + length (decimal n) ≤ length (set o at b) = simp length-set (omega arith) in
    let y = lays_puts l w in
    record { put = puts_then (puts_byte o at b {r = at + 1} (omega arith) refl) y; few = omega (arith, y.past) }

-- one byte more
pub byte_after : (b : ℕ) {at most r : ℕ} {x o p : List ℕ} → PutsMost at most x o p r → r < length p → PutsMost at (most + 1) (x ++ b ∷ []) o (set p r b) (r + 1)
byte_after b {p = p} a l = let f = a.few in record { put = puts_then a.put (puts_byte p _ b l refl); few = omega arith }

-- one run after another
pub puts_both : {at m k a r : ℕ} {x y o p q : List ℕ} → PutsMost at m x o p a → PutsMost a k y p q r → PutsMost at (m + k) (x ++ y) o q r
puts_both u v = let f = u.few in let g = v.few in record { put = puts_then u.put v.put; few = omega arith }

-- the room stays
pub room_left : {at m a : ℕ} {x o p : List ℕ} → PutsMost at m x o p a → (k : ℕ) → at + (m + k) ≤ length o → a + k ≤ length p
room_left u k h = let f = u.few in let s = u.put.same in omega arith

-- more may be said to be put than is
pub puts_fewer : {at m k r : ℕ} {x o p : List ℕ} → PutsMost at m x o p r → m ≤ k → PutsMost at k x o p r
puts_fewer u l = let f = u.few in record { put = u.put; few = omega arith }

-- nothing is put
pub puts_nothing : (out : List ℕ) (at k : ℕ) {x : List ℕ} → x ≡ [] → PutsMost at k x out out at
puts_nothing out at k e = subst (λ (x : List ℕ). PutsMost at k x out out at) (sym e) (record { put = puts_none out at; few = omega arith })

pub puts_as : {at k r : ℕ} {x y o p : List ℕ} → x ≡ y → PutsMost at k x o p r → PutsMost at k y o p r
puts_as {at} {k} {r} {o = o} {p = p} e u = subst (λ (x : List ℕ). PutsMost at k x o p r) e u

-- ---- the event of a row

module _ (row j : ℕ) where
  pub reads_at : row < 256 → event_at row j ≡ steps read j row
  unfolding event_at
  reads_at l = rw (lt-ltb row 256 l)

  pub writes_at : 256 ≤ row → row < 512 → event_at row j ≡ steps write j (row - 256)
  unfolding event_at
  writes_at m l = rw (le-ltb row 256 m, lt-ltb row 512 l)

  pub opens_at : row ≡ 768 → event_at row j ≡ opens j
  unfolding event_at
  opens_at e = rw (le-ltb row 256 (omega arith), le-ltb row 512 (omega arith), eq-eqb row 768 e)

  pub ends_at : 512 ≤ row → (row ≡ 768 → ⊥) → event_at row j ≡ ends j
  unfolding event_at
  ends_at l f = rw (le-ltb row 256 (omega arith), le-ltb row 512 l, ne_eqb row 768 f)

-- ---- a record

pub gap_first : (at : ℕ) → at ≡ 0 → gap at ≡ []
gap_first at e = rw (eq-eqb at 0 e)

pub gap_later : (at : ℕ) → (at ≡ 0 → ⊥) → gap at ≡ 32 ∷ []
gap_later at f = rw (ne_eqb at 0 f)

module _ (numbers states : List ℕ) (x at : ℕ) where
  abbrev slot : ℕ
  slot = (x - 1) / 770 % 512

  -- an abandon; a record of an abandoned job; another
  pub told_none : x ≡ 0 → symbol_told numbers states x at ≡ []
  unfolding symbol_told
  told_none e = rw (eq-eqb x 0 e)

  pub told_gone : (x ≡ 0 → ⊥) → get_or states slot 0 ≡ 4 → symbol_told numbers states x at ≡ []
  unfolding symbol_told
  told_gone f e = rw (ne_eqb x 0 f, eq-eqb (get_or states slot 0) 4 e)

  pub told_kept : (x ≡ 0 → ⊥) → (get_or states slot 0 ≡ 4 → ⊥) → symbol_told numbers states x at ≡ gap at ++ symbol (event_at ((x - 1) % 770) (get_or numbers slot 0))
  unfolding symbol_told
  told_kept f g = rw (ne_eqb x 0 f, ne_eqb (get_or states slot 0) 4 g)
