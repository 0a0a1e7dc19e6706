use Rattle.std.proofs.Common.{◌≡◌, ℕ, ◌+◌, ◌*◌, ◌-◌, ◌<◌, ◌≤◌, length, drop, refl, sym, ap, ◌∙◌, arith, length-drop}
use Rattle.blocks.specs.Blocks.{block, block_count, run_of, first_blocks}
use Rattle.blocks.proofs.SoundLaws.{block_length}
use Rattle.blocks.proofs.RunLaws.{run_fits}
use Rattle.sums.specs.Sums.{with_run}
use Rattle.sums.specs.ByteLaws.{puts, part_put}
use Rattle.blockwriter.proofs.WriteLaws.{run_off, blocks_turn}
use Rattle.blockwriter.proofs.put_blocks.Goals as goal

pub loop-k-preserved : goal.loop-k-preserved
loop-k-preserved c =
    let steps = c.in-Some.ensures.steps in
    let held = c.loop-k.invariant in
    let log = c.args.log.now in
    let now = c.loop-k.out in
    let k = c.in-Some.k in
    let new = c.put_block.new.bytes in
    let rest : drop (496 * k) log ≡ c.loop-k.k-iterator.iter.rest.now = ap (λ (j : ℕ). drop (496 * j) log) steps.1 ∙ sym held.1 in
    let much = ap length rest in
    let all = length-drop (496 * k) log in
    let off = run_off log c.in-Some.run'.now c.next.new.self.iter.rest.now k (rest ∙ steps.0.1.0) (omega (arith, steps.0.1.1, held.0)) in
    let next : k + 1 ≡ c.next.new.self.count = omega (arith, steps.1, steps.2) in
    let before : 496 * k < length log = omega (arith, steps.0.1.2) in
    let room : k * 512 + 512 ≤ length now = omega (arith, held.3) in
    let made = c.put_block.ensures ∙ ap (block k) off.0 in
    let size = ap length made ∙ block_length k (run_of k log) (run_fits log k) in
    let put = part_put now new (k * 512) (k * 512 + 512 - k * 512) (omega arith) in (
      steps.0.0 ∙ held.0,
      off.1 ∙ ap (λ (j : ℕ). drop (496 * j) log) next,
      omega (arith, next),
      ap length put ∙ (puts now (k * 512) new (omega arith) refl).long ∙ held.3,
      put
          ∙ ap (with_run now (k * 512)) made
          ∙ blocks_turn log c.args.out.now now k (omega (arith, held.3)) (held.4 ∙ ap (λ (j : ℕ). with_run c.args.out.now 0 (first_blocks j log)) (sym steps.1))
          ∙ ap (λ (j : ℕ). with_run c.args.out.now 0 (first_blocks j log)) next,
    )

pub returns : goal.returns
returns c =
    let log = c.args.log.now in
    let j = c.loop-k.k-iterator.count in
    let none = ap length c.loop-k.invariant.1 ∙ length-drop (496 * j) log in
    let e : j ≡ block_count log = omega (arith, c.in-None.ensures.steps.0.1.0, c.loop-k.invariant.2) in
    c.loop-k.invariant.4 ∙ ap (λ (i : ℕ). with_run c.args.out.now 0 (first_blocks i log)) e
