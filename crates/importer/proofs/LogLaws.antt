-- The log that the symbols of a text fill: none yet, one more, one past the last place; and what is left of the text to read.
-- Assumes nothing.
use mathlib.Core.Path.{◌≡◌, refl, sym, ap, ◌∙◌}
use mathlib.Core.Bool.{Bool, true, false, cond}
use mathlib.Core.List.{List, [], ◌∷◌, ◌++◌, append-nil}
use Prim.Native.Nat.{ℕ, suc, ◌+◌, ◌*◌, ◌≤◌, ◌<◌}
use native.Mathlib.Numerals.{add-one}
use native.Mathlib.Omega.{arith}
use borrow.Author.Tests.{ne_eqb}
use lib.Dec.{eqb}
use lib.ListN.{length, get_or, take, drop, length-append, drop_of_length-le}
use lib.Seq.{drop-cons}
use Rattle.history.specs.Events.{Event, History}
use Rattle.verdicts.specs.Logs.{record_of, log_of}
use Rattle.verdicts_laws.specs.LogLaws.{log_append}
use Rattle.notation.specs.Parse.{Stand, stand, off, next, whole_at, event_at, grown, Parsed, wrong, parse_end, parse_from}
use Rattle.importer.specs.declared.Stand.{Stand as Standing}
use Rattle.importer.specs.Importer.{as_read, Inside, Holds}
use Rattle.importer.proofs.StandLaws.{blank_next}

-- ---- the log so far

pub holds_none : (log : List ℕ) → Holds [] 0 log
holds_none log = record { many = refl; there = λ q. refl }

module _ (h : History) (e : Event) (count : ℕ) (log : List ℕ) (here : Holds h count log) where
  more : count + 1 ≡ length (h ++ e ∷ [])
  more = let m = here.many in let a = length-append h (e ∷ []) in omega arith

  -- one symbol more, that has a place
  pub holds_more : (log' : List ℕ) → take ((count + 1) * 8) log' ≡ take (count * 8) log ++ record_of e → Holds (h ++ e ∷ []) (count + 1) log'
  holds_more log' put =
      record {
        many = more;
        there = λ q.
            put
            ∙ ap (λ (l : List ℕ). l ++ record_of e) (here.there (omega arith))
            ∙ ap (λ (l : List ℕ). log_of h ++ l) (sym (append-nil (record_of e)))
            ∙ sym (log_append h (e ∷ []));
      }

  -- or has none
  pub holds_past : 4096 ≤ count → Holds (h ++ e ∷ []) (count + 1) log
  holds_past full = record { many = more; there = λ q. absurd (omega arith) }

-- ---- the text

module _ (text : List ℕ) (h : History) (s : Standing) (i : ℕ) where
  module _ (inside : i < length text) where
    abbrev turn : Stand → Parsed
    turn m = cond (eqb m.phase 7) (wrong i) (parse_from (grown h (as_read s) m) m (suc i) (drop (suc i) text))

    by_turn : {n : Stand} → n ≡ next (as_read s) (get_or text i 0) → parse_from h (as_read s) i (drop i text) ≡ turn n
    by_turn e = ap (parse_from h (as_read s) i) (drop-cons text i 0 inside) ∙ ap turn (sym e)

    -- no text of the form goes on so
    pub turns_off : off ≡ next (as_read s) (get_or text i 0) → parse_from h (as_read s) i (drop i text) ≡ wrong i
    turns_off e = by_turn e

    -- the text goes on within a symbol
    pub turns_on : (n : Standing) → as_read n ≡ next (as_read s) (get_or text i 0) → Inside n
        → parse_from h (as_read s) i (drop i text) ≡ parse_from h (as_read n) (i + 1) (drop (i + 1) text)
    unfolding grown
    turns_on n e w =
        by_turn e
        ∙ ap (λ (b : Bool). cond b (wrong i) (parse_from (grown h (as_read s) (as_read n)) (as_read n) (suc i) (drop (suc i) text))) (ne_eqb (as_read n).phase 7 (λ z. let q = w.1 in omega arith))
        ∙ ap (λ (b : Bool). parse_from (cond b (h ++ event_at (as_read s) ∷ []) h) (as_read n) (suc i) (drop (suc i) text)) (ne_eqb (as_read n).phase 1 (λ z. let p = w.0 in omega arith))
        ∙ ap (λ (j : ℕ). parse_from h (as_read n) j (drop j text)) (sym (add-one i))

    -- at a blank
    module _ (blank : get_or text i 0 ≡ 32) where
      by_blank : {b : Bool} → whole_at (as_read s) ≡ b → cond b (stand 1 0 0 0) off ≡ next (as_read s) (get_or text i 0)
      by_blank w = sym (ap (next (as_read s)) blank ∙ blank_next s ∙ ap (λ (b : Bool). cond b (stand 1 0 0 0) off) w)

      pub blank_off : whole_at (as_read s) ≡ false → parse_from h (as_read s) i (drop i text) ≡ wrong i
      blank_off w = by_turn (by_blank w)

      pub blank_on : whole_at (as_read s) ≡ true → parse_from h (as_read s) i (drop i text) ≡ parse_from (h ++ event_at (as_read s) ∷ []) (as_read Standing.Blank) (i + 1) (drop (i + 1) text)
      unfolding grown
      blank_on w = by_turn (by_blank w) ∙ ap (λ (j : ℕ). parse_from (h ++ event_at (as_read s) ∷ []) (stand 1 0 0 0) j (drop j text)) (sym (add-one i))

  -- it is over
  pub parse_over : length text ≤ i → parse_from h (as_read s) i (drop i text) ≡ parse_end h (as_read s) i
  parse_over q = ap (parse_from h (as_read s) i) (drop_of_length-le text {i = i} q)
