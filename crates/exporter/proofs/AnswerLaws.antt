-- The answer by its ways out.
-- Assumes nothing.
use mathlib.Core.Path.{◌≡◌, sym, ap, ap₂, ◌∙◌}
use mathlib.Core.Bool.{Bool, cond}
use mathlib.Core.List.{List, ◌++◌}
use Prim.Native.Nat.{ℕ, ◌≤◌, ◌<◌}
use native.Mathlib.Omega.{arith}
use lib.ListN.{length, drop, take-append-drop}
use Rattle.graph.specs.Decide.{lt_test, test_true}
use Rattle.text.specs.Lays.{Lays}
use Rattle.text.specs.Puts.{lays_puts}
use Rattle.history.specs.Events.{History}
use Rattle.verdicts.specs.Logs.{Reading, faulty, events, read_log}
use Rattle.blocks.specs.Blocks.{refused, filled}
use Rattle.blocks.proofs.RunLaws.{fills, fills_not}
use Rattle.notation.specs.Notation.{text_of, without_abandoned, NoAdd}
use Rattle.notation.specs.Answers.{before_adds, exported, export_of, export}
use Rattle.notation.specs.FirstAddLaws.{Found, none, first, found}
use Rattle.notation.proofs.TextLaws.{exported_none}

-- ---- the ways out

pub export_faulty : (log lent : List ℕ) {c p : ℕ} → read_log log ≡ faulty c p → export log lent ≡ refused c p lent
unfolding export
export_faulty log lent e = ap (λ (g : Reading). export_of g lent) e

pub export_read : (log lent : List ℕ) (h : History) → read_log log ≡ events h → export log lent ≡ exported h (before_adds h) lent
unfolding export
export_read log lent h e = ap (λ (g : Reading). export_of g lent) e

-- the first add of n events stands at p; or there is none
module _ (h : History) (lent : List ℕ) {n : ℕ} (all : n ≡ length h) where
  pub with_add : {p : ℕ} → p ≡ before_adds h → p < n → refused 27 p lent ≡ exported h (before_adds h) lent
  with_add at l =
      ap (λ (x : ℕ). refused 27 x lent) at
      ∙ sym (ap (λ (b : Bool). cond b (refused 27 (before_adds h) lent) (filled (text_of (without_abandoned h)) lent)) (test_true (lt_test (before_adds h) (length h)) (omega arith)))

  pub without_add : n ≡ before_adds h → NoAdd h
  without_add at = go (found h)
    where
      go : Found h → NoAdd h
      go (none f e) = f
      go (first a q) = absurd (omega arith)

  pub as_text : n ≡ before_adds h → filled (text_of (without_abandoned h)) lent ≡ exported h (before_adds h) lent
  as_text at = sym (exported_none h lent (without_add at))

-- no room for the text; and where there is room, it is copied
module _ (said lent : List ℕ) where
  pub copy_none : length lent < length said → refused 24 0 lent ≡ filled said lent
  copy_none l = sym (fills_not said lent l)

  pub copied : {now : List ℕ} {r : ℕ} → length said ≤ length lent → Lays 0 said lent now r → record { code = 0; place = r; bytes = now } ≡ filled said lent
  copied {now} {r} l w =
      let p = lays_puts w (omega arith) in
      let k : r ≡ length said = omega (arith, p.past) in
      let g : now ≡ said ++ drop (length said) lent =
      sym (take-append-drop r now) ∙ ap₂ (λ (a b : List ℕ). a ++ b) p.front (p.back ∙ ap (λ (j : ℕ). drop j lent) k) in
      (λ i. record { code = 0; place = k i; bytes = g i }) ∙ sym (fills said lent l)
