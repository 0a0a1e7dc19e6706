-- The writer's block, from its parts put down one after the other, and one block more of a log.
-- Assumes nothing.
use mathlib.Core.Path.{◌≡◌, sym, ap, ◌∙◌}
use mathlib.Core.Logic.{⊎_elim}
use mathlib.Core.List.{List, [], ◌∷◌, ◌++◌, append_assoc}
use Prim.Native.Nat.{ℕ, suc, ◌+◌, ◌*◌, ◌-◌, ◌/◌, ◌%◌, ◌≤◌, min}
use native.Mathlib.Omega.{arith}
use lib.ListN.{length, take, drop, replicate, length-drop, length-replicate, length-append, drop_of_length-le}
use lib.Seq.{take_all, length-take-le, take_at, drop_at, drop-drop}
use Rattle.std.proofs.lemmas.List.{append-nil, nil_from_length}
use Rattle.graph.specs.Decide.{le_test, answer}
use Rattle.history.specs.Formats.{bytes_of}
use Rattle.blocks.specs.Blocks.{sums, front, block, run_of, first_blocks, block_count, blocks_of, write}
use Rattle.blocks.proofs.SoundLaws.{block_length}
use Rattle.blocks.proofs.RunLaws.{run_fits, blocks_length, blocks_of_length, fills, write_on}
use Rattle.blocks.specs.Answers.{Log}
use Rattle.sums.specs.Sums.{with_run}
use Rattle.sums.specs.ByteLaws.{Put, puts, put_next, part_put, done_put}

module _ (k : ℕ) (run d : List ℕ) (fits : length run ≤ 496) (long : length d ≡ 512) where
  abbrev zeros : List ℕ
  zeros = replicate (496 - length run) 0

  -- zeros filled in, where a part of the block is lent for it
  pub zeros_put : (d₃ fill : List ℕ) (m : ℕ) → length d₃ ≡ 512 → m ≡ 504 - (8 + length run) → fill ≡ replicate (length (take m (drop (8 + length run) d₃))) 0
      → take (8 + length run) d₃ ++ (fill ++ drop m (drop (8 + length run) d₃)) ≡ with_run d₃ (8 + length run) zeros
  zeros_put d₃ fill m l n e =
      let size = length-drop (8 + length run) d₃ in
      let few : length (take m (drop (8 + length run) d₃)) ≡ 496 - length run = length-take-le m (drop (8 + length run) d₃) (omega arith) ∙ omega arith in
      let same : fill ≡ zeros = e ∙ ap (λ (j : ℕ). replicate j 0) few in
      part_put d₃ fill (8 + length run) m (omega (arith, ap length same, length-replicate {A = ℕ} (496 - length run) 0)) ∙ ap (with_run d₃ (8 + length run)) same

  -- what stands before the sums
  module _ (d₁ d₂ d₃ d₄ : List ℕ) (e₁ : d₁ ≡ with_run d 0 (bytes_of 4 k)) (e₂ : d₂ ≡ with_run d₁ 4 (bytes_of 4 (length run / 8))) (e₃ : d₃ ≡ with_run d₂ 8 run)
      (e₄ : d₄ ≡ with_run d₃ (8 + length run) zeros) where
    p₁ : Put d 0 (bytes_of 4 k) d₁
    p₁ = puts d 0 (bytes_of 4 k) (omega arith) e₁

    p₂ : Put d₁ 4 (bytes_of 4 (length run / 8)) d₂
    p₂ = puts d₁ 4 (bytes_of 4 (length run / 8)) (omega (arith, p₁.long)) e₂

    p₃ : Put d₂ 8 run d₃
    p₃ = puts d₂ 8 run (omega (arith, p₁.long, p₂.long)) e₃

    zeros_length : length zeros ≡ 496 - length run
    zeros_length = length-replicate (496 - length run) 0

    p₄ : Put d₃ (8 + length run) zeros d₄
    p₄ = puts d₃ (8 + length run) zeros (omega (arith, p₁.long, p₂.long, p₃.long, zeros_length)) e₄

    pub front_long : length d₄ ≡ 512
    front_long = omega (arith, p₁.long, p₂.long, p₃.long, p₄.long)

    pub front_put : take 504 d₄ ≡ front k run
    unfolding front
    front_put =
        let all : 504 ≡ 8 + length run + length zeros = omega (arith, zeros_length) in
        let high : length run / 8 / 256 / 256 % 256 ≡ 0 = omega arith in
        let higher : length run / 8 / 256 / 256 / 256 % 256 ≡ 0 = omega arith in
        ap (λ (j : ℕ). take j d₄) all
        ∙ p₄.head
        ∙ ap (λ (l : List ℕ). l ++ zeros) p₃.head
        ∙ ap (λ (l : List ℕ). l ++ run ++ zeros) (p₂.head ∙ ap (λ (l : List ℕ). l ++ bytes_of 4 (length run / 8)) p₁.head)
        ∙ (λ i. bytes_of 4 k ++ (bytes_of 2 (length run / 8) ++ (high i ∷ higher i ∷ (run ++ zeros))))

    pub block_put : (x y : ℕ) (d₅ d₆ : List ℕ) → bytes_of 4 x ++ bytes_of 4 y ≡ sums (take 504 d₄) → d₅ ≡ with_run d₄ 504 (bytes_of 4 x) → d₆ ≡ with_run d₅ 508 (bytes_of 4 y)
        → d₆ ≡ block k run
    unfolding block
    block_put x y d₅ d₆ added e₅ e₆ =
        let l = front_long in
        let p₅ = puts d₄ 504 (bytes_of 4 x) (omega arith) e₅ in
        let m = p₅.long in
        let p₆ = puts d₅ 508 (bytes_of 4 y) (omega arith) e₆ in
        let o = p₆.long in
        sym (take_all 512 d₆ (omega arith))
        ∙ p₆.head
        ∙ ap (λ (l : List ℕ). l ++ bytes_of 4 y) p₅.head
        ∙ append_assoc (take 504 d₄) (bytes_of 4 x) (bytes_of 4 y)
        ∙ ap (λ (l : List ℕ). take 504 d₄ ++ l) added
        ∙ ap (λ (l : List ℕ). l ++ sums l) front_put

-- ---- the blocks of a log

-- the run of block k, taken off what is left of the log, and what is then left
pub run_off : (log run left : List ℕ) (k : ℕ) → drop (496 * k) log ≡ run ++ left → length run ≡ min 496 (length (drop (496 * k) log))
    → (run ≡ run_of k log) × (left ≡ drop (496 * (k + 1)) log)
run_off log run left k e m =
    let rest = drop (496 * k) log in
    let on : 496 * k + 496 ≡ 496 * (k + 1) = omega arith in
    let size = ap length e ∙ length-append run left in
    let past = drop-drop 496 (496 * k) log ∙ ap (λ (j : ℕ). drop j log) on in
    ⊎_elim
    (λ p. let f : 496 ≡ length run = omega arith in
    (sym (ap (take 496) e ∙ take_at run left 496 (sym f)), sym (drop_at run left 496 (sym f)) ∙ sym (ap (drop 496) e) ∙ past))
    (λ q. let g : 496 ≤ length rest → ⊥ = q in
    let none : left ≡ [] = nil_from_length left (omega arith) in
    let whole : rest ≡ run = e ∙ ap (λ (l : List ℕ). run ++ l) none ∙ append-nil run in
    (sym (take_all 496 rest (omega arith) ∙ whole), none ∙ sym (drop_of_length-le rest {i = 496} (omega arith)) ∙ past))
    (answer (le_test 496 (length rest)))

-- one block more
pub blocks_turn : (log d now : List ℕ) (k : ℕ) → k * 512 + 512 ≤ length d → now ≡ with_run d 0 (first_blocks k log)
    → with_run now (k * 512) (block k (run_of k log)) ≡ with_run d 0 (first_blocks (k + 1) log)
blocks_turn log d now k room e =
    let l = blocks_length log k in
    let m = block_length k (run_of k log) (run_fits log k) in
    let on : suc k ≡ k + 1 = omega arith in
    ap (λ (r : List ℕ). with_run r (k * 512) (block k (run_of k log))) e
    ∙ put_next d (first_blocks k log) (block k (run_of k log)) (k * 512) (omega arith) (omega arith)
    ∙ ap (λ (j : ℕ). with_run d 0 (first_blocks j log)) on

-- all of them, which is what the writer answers
pub write_done : (log d now : List ℕ) (n : ℕ) → Log log → n ≡ block_count log → n * 512 ≤ length d → now ≡ with_run d 0 (first_blocks n log)
    → record { code = 0; place = n * 512; bytes = now } ≡ write log d
write_done log d now n l e room stands =
    let size = blocks_of_length log l in
    done_put (blocks_of log) d now (n * 512) (omega arith) (stands ∙ ap (with_run d 0) (of_log e)) ∙ sym (write_on log d l ∙ fills (blocks_of log) d (omega arith))
  where
    of_log : n ≡ block_count log → first_blocks n log ≡ blocks_of log
    of_log e = unfold blocks_of in ap (λ (j : ℕ). first_blocks j log) e
