-- Laws of what a job gains: what leaves it as it is, words joined that stay words, and that there is one such table.
-- Assumes nothing.
use Rattle.std.specs.Prelude.{◌≡◌, List, ℕ, ◌+◌, ◌*◌, ◌/◌, ◌%◌, ◌^◌, ◌<◌, length, get_or, set}
use Rattle.std.proofs.Common.{sym, ap, ◌∙◌, subst, ⊎_elim, arith, ext_get_or, get_or-set_same, get_or-set_other}
use Rattle.std.specs.Int.Bits.{bit_or}
use Rattle.std.proofs.lemmas.Nat.{or_lt}
use Rattle.graph.specs.Decide.{answer, eq_test, le_test, lt_test, and_test}
use Rattle.marks.specs.MarkLaws.{bit_same}
use Rattle.tallies.specs.Marks.{in_row, Gained}
use Rattle.tallies.specs.MarkLaws.{row_word}
use Rattle.tallies.specs.GatherLaws.{gained_ending}
use Rattle.jobsets.specs.Gains.{Table, Gains}

-- one word gains another's marks
pub words_fit : (words : List ℕ) (i x : ℕ) → ((k : ℕ) → get_or words k 0 < 2 ^ 64) → x < 2 ^ 64 → i < length words
    → (k : ℕ) → get_or (set words i (bit_or (get_or words i 0) x)) k 0 < 2 ^ 64
words_fit words i x f l q k =
    ⊎_elim
    (λ e. subst (λ (n : ℕ). n < 2 ^ 64) (sym (ap (λ (m : ℕ). get_or (set words i (bit_or (get_or words i 0) x)) m 0) e ∙ get_or-set_same words i (bit_or (get_or words i 0) x) 0 q)) (or_lt 64 (get_or words i 0) x (f i) l))
    (λ g. subst (λ (n : ℕ). n < 2 ^ 64) (sym (get_or-set_other words i k (bit_or (get_or words i 0) x) 0 g)) (f k))
    (answer (eq_test k i))

-- whatever the row, for one of the 512 jobs
pub gains_gained : {job row : ℕ} {seen preds preds' : List ℕ} → job < 512 → Gains job row seen preds preds' → Gained job row seen preds preds'
gains_gained {job} {row} {seen} {preds} {preds'} l g =
    ⊎_elim (λ q. (g.gained (l, q)).1) (λ f. gained_ending job row seen preds preds' (omega (arith, f)) (g.stays (λ b. f b.1))) (answer (le_test row 768))

-- two tables with the same marks are the same words
one_table : {x y : List ℕ} → Table 4096 x → Table 4096 y → ((j i : ℕ) → i < 512 → in_row x j i ≡ in_row y j i) → x ≡ y
one_table {x} {y} s t same =
    ext_get_or 0 x y (s.long ∙ sym t.long)
    (λ i _. subst (λ (n : ℕ). get_or x n 0 ≡ get_or y n 0) (let e : i / 8 * 8 + i % 8 ≡ i = omega arith in e)
    (bit_same 64 (get_or x (i / 8 * 8 + i % 8) 0) (get_or y (i / 8 * 8 + i % 8) 0) (s.fit (i / 8 * 8 + i % 8)) (t.fit (i / 8 * 8 + i % 8))
    (λ k l. sym (row_word x (i / 8) (i % 8) k l) ∙ same (i / 8) (i % 8 * 64 + k) (omega arith) ∙ row_word y (i / 8) (i % 8) k l)))

-- and one table is left
pub gains_one : {job row : ℕ} {seen preds x y : List ℕ} → Gains job row seen preds x → Gains job row seen preds y → x ≡ y
gains_one {job} {row} p q =
    ⊎_elim
    (λ b. let g = p.gained b in let h = q.gained b in one_table g.0 h.0 (λ j i l. g.1 j i l ∙ sym (h.1 j i l)))
    (λ f. p.stays f ∙ sym (q.stays f))
    (answer (and_test (lt_test job 512) (le_test row 768)))
