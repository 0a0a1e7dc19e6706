-- What the proofs of the ports need: the marks that the code counts are a port's open slots (`crowd_count`), and the masks that it leaves are those with the slot under its port
-- alone (`put_under`).
-- Assumes nothing.
use mathlib.Core.Path.{◌≡◌, refl, sym, ap, ap₂, ◌∙◌}
use mathlib.Core.Bool.{Bool, true, ◌&&◌, cond}
use mathlib.Core.List.{List}
use Prim.Native.Nat.{ℕ, ◌+◌, ◌-◌, ◌*◌, ◌%◌, ◌^◌, ◌<◌, zero-le}
use native.Mathlib.Nat.{lt_of_le_of_lt}
use lib.Bits.{bit_or, bit_and, and_le_l}
use lib.Count.{ones}
use lib.Dec.{ltb, eqb}
use lib.ListN.{length, get_or, set}
use lib.Pow.{ones_sub-lt}
use borrow.Author.Tests.{le-ltb, lt-ltb}
use Rattle.graph.specs.Decide.{eq_test, by_test}
use Rattle.graph.specs.Lists.{only_only}
use Rattle.marks.specs.Marks.{bit, without, upto}
use Rattle.marks.specs.MarkLaws.{tab_same, bit-and, bit_others, only_tab, ones_count, shl_one, and_others}
use Rattle.marks.specs.MaskLaws.{count_adds, changed_end, set_tab, Rewritten, rewritten_start, rewritten_turn}
use Rattle.rows.specs.Rows.{is_open}
use Rattle.slots.specs.Lent.{crowd_of, under}

pub crowd_count : (free : ℕ) (ports : List ℕ) (p : ℕ) → free < 2 ^ 32 → ones (bit_and (2 ^ 32 - 1 - free) (get_or ports p 0)) ≡ crowd_of free ports p
crowd_count free ports p fits =
    ones_count 32 (bit_and rest mine) (lt_of_le_of_lt (and_le_l rest mine) (ones_sub-lt 32 free))
    ∙ only_tab 32 (bit (bit_and rest mine)) (λ k. k) (λ i. is_open free i && bit mine i) (λ k. k)
    (λ i q. bit-and rest mine i ∙ ap (λ (b : Bool). b && bit mine i) (bit_others 32 free i fits q))
    ∙ ap (λ (l : List ℕ). length l) (sym (only_only (bit mine) (is_open free) (upto 32)))
  where
    rest : ℕ
    rest = 2 ^ 32 - 1 - free

    mine : ℕ
    mine = get_or ports p 0

-- the slot's mark is taken out of the three masks, one after the other, and put into the port's
abbrev pub Struck : List ℕ → ℕ → ℕ → List ℕ → Type 0
Struck ports s i l = Rewritten 3 (λ k. ltb k i) (λ x. without x s) ports l

pub strike_begins : (ports : List ℕ) (s : ℕ) → length ports ≡ 3 → Struck ports s 0 ports
strike_begins ports s long = rewritten_start long (λ k. le-ltb k 0 zero-le)

-- the slot's mark, as the code makes it
abbrev mark : ℕ → ℕ
mark s = 1 * 2 ^ s % 2 ^ 32

module _ {ports : List ℕ} {s : ℕ} (hs : s < 32) where
  pub strike_turn : {i : ℕ} {l : List ℕ} → Struck ports s i l → i < 3 → get_or l i 0 < 2 ^ 32 → Struck ports s (i + 1) (set l i (bit_and (get_or l i 0) (2 ^ 32 - 1 - mark s)))
  strike_turn {i} {l} d q fits = rewritten_turn (count_adds i) d q (and_others 32 (get_or l i 0) s fits hs)

  pub put_under : {p : ℕ} {l : List ℕ} → p < 3 → Struck ports s 3 l → set l p (bit_or (get_or l p 0) (mark s)) ≡ under ports p s
  put_under {p} {l} hp all =
      set_tab l p (bit_or (get_or l p 0) (mark s)) all.long hp (λ q h. there q h)
      ∙ tab_same 3 (λ q. cond (eqb q p) (bit_or (get_or l p 0) (mark s)) (without (get_or ports q 0) s)) _ (λ q h.
      by_test (λ (b : Bool). cond b (bit_or (get_or l p 0) (mark s)) (without (get_or ports q 0) s) ≡ cond b (bit_or (without (get_or ports q 0) s) (2 ^ s)) (without (get_or ports q 0) s)) (eq_test q p)
      (λ e. ap₂ (λ (x y : ℕ). bit_or x y) (there p hp ∙ ap (λ (k : ℕ). without (get_or ports k 0) s) (sym e)) (shl_one 32 hs))
      (λ n. refl))
    where
      there : (q : ℕ) → q < 3 → get_or l q 0 ≡ without (get_or ports q 0) s
      there = changed_end (λ q. true) (λ q h. lt-ltb q 3 h) all.rows
