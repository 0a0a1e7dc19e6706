use Rattle.std.proofs.Common.{◌≡◌, ℕ, ◌+◌, ◌*◌, ◌/◌, ◌%◌, ◌≤◌, List, [], slice_index_or, length, refl, ap, ◌∙◌, arith}
use Rattle.blocks.specs.Blocks.{total, running}
use Rattle.sums.specs.ByteLaws.{sums_more, words_all, word_read, chunk_at}
use Rattle.sums.proofs.add_up.Goals as goal

pub loop-word-init : goal.loop-word-init
loop-word-init c = (refl, refl)

pub loop-word-preserved : goal.loop-word-preserved
loop-word-preserved c =
    let l = c.args.front.now in
    let i = c.loop-word.word-index in
    let x = c.from_le_bytes-first.result in
    let first = (c.loop-word.first + x) % 4294967296 in
    let within : i * 4 + 4 ≤ length l = omega (arith, c.as_chunks.ensures.front_len) in
    let there = ap (λ (y : List (List ℕ)). slice_index_or y i []) c.as_chunks.ensures.front ∙ chunk_at (length l / 4) i l (omega arith) in
    let is = word_read l (slice_index_or c.as_chunks.result.0.now i []) (i * 4) x within c.type_inv.front there c.from_le_bytes-first.ensures in
    let on : (i + 1) * 4 ≡ i * 4 + 4 = omega arith in
    let more = sums_more l (i * 4) x (omega arith) is c.loop-word.first c.loop-word.second first ((c.loop-word.second + first) % 4294967296)
    (omega arith) (omega arith) c.loop-word.invariant.0 c.loop-word.invariant.1 refl refl in
    rw on more

pub returns : goal.returns
returns c =
    let l = c.args.front.now in
    let i = c.loop-word.word-index in
    let e = words_all l (i * 4) (omega arith) (omega (arith, c.as_chunks.ensures.front_len)) (omega (arith, c.as_chunks.ensures.front_len)) in
    record {
      of_words = c.loop-word.invariant.0 ∙ ap (λ (m : List ℕ). total m % 4294967296) e;
      of_sums = c.loop-word.invariant.1 ∙ ap (λ (m : List ℕ). total (running 0 m) % 4294967296) e;
    }
