-- The stands that a text leads to: what a blank leads to, how the text ends there, and how long the record of a symbol is.
-- Assumes nothing.
use mathlib.Core.Path.{◌≡◌, refl, ap₂}
use mathlib.Core.Bool.{Bool, true, false, cond}
use mathlib.Core.List.{[], ◌∷◌, ◌++◌}
use Prim.Native.Nat.{ℕ}
use native.Mathlib.Omega.{arith}
use borrow.Author.Tests.{ne_eqb}
use lib.ListN.{length}
use Rattle.history.specs.Events.{History}
use Rattle.verdicts.specs.Logs.{record_of}
use Rattle.notation.specs.Parse.{stand, off, kind_of, with_cell, is_digit, next, event_at, whole_at, wrong, says, parse_end}
use Rattle.importer.specs.Importer.{as_read, event_of}
use Rattle.importer.specs.declared.Access.{Access}
use Rattle.importer.specs.declared.Kind.{Kind}
use Rattle.importer.specs.declared.Stand.{Stand as Standing}
use Rattle.importer.specs.declared.Symbol.{Symbol}

-- a blank comes after a whole symbol only
pub blank_next : (s : Standing) → next (as_read s) 32 ≡ cond (whole_at (as_read s)) (stand 1 0 0 0) off
unfolding next whole_at kind_of with_cell is_digit
blank_next Standing.Start = refl
blank_next Standing.Blank = refl
blank_next (Standing.Letter k) = refl
blank_next (Standing.Job Kind.Begin j) = refl
blank_next (Standing.Job Kind.End j) = refl
blank_next (Standing.Job (Kind.Step Access.Read) j) = refl
blank_next (Standing.Job (Kind.Step Access.Write) j) = refl
blank_next (Standing.Bracket a j) = refl
blank_next (Standing.Cell a j c) = refl
blank_next (Standing.Closed a j c) = refl

-- a record has eight bytes
pub record_long : (y : Symbol) → length (record_of (event_of y)) ≡ 8
record_long (Symbol.Begin j) = refl
record_long (Symbol.End j) = refl
record_long (Symbol.Step Access.Read j c) = refl
record_long (Symbol.Step Access.Write j c) = refl

-- what the text ends as
module _ (h : History) (p : ℕ) where
  begun : (s : Standing) → (s ≡ Standing.Start → ⊥) → (as_read s).phase ≡ 0 → ⊥
  begun Standing.Start f e = f refl
  begun Standing.Blank f e = omega arith
  begun (Standing.Letter k) f e = omega arith
  begun (Standing.Job k j) f e = omega arith
  begun (Standing.Bracket a j) f e = omega arith
  begun (Standing.Cell a j c) f e = omega arith
  begun (Standing.Closed a j c) f e = omega arith

  pub ends_empty : parse_end h (as_read Standing.Start) p ≡ says []
  unfolding parse_end
  ends_empty = refl

  module _ (s : Standing) (f : s ≡ Standing.Start → ⊥) where
    by_whole : {b : Bool} → whole_at (as_read s) ≡ b → parse_end h (as_read s) p ≡ cond b (says (h ++ event_at (as_read s) ∷ [])) (wrong p)
    unfolding parse_end
    by_whole w = ap₂ (λ (a b : Bool). cond a (says []) (cond b (says (h ++ event_at (as_read s) ∷ [])) (wrong p))) (ne_eqb (as_read s).phase 0 (begun s f)) w

    pub ends_whole : whole_at (as_read s) ≡ true → parse_end h (as_read s) p ≡ says (h ++ event_at (as_read s) ∷ [])
    ends_whole w = by_whole w

    pub ends_short : whole_at (as_read s) ≡ false → parse_end h (as_read s) p ≡ wrong p
    ends_short w = by_whole w
