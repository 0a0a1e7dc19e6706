use Rattle.std.proofs.Common.{◌≡◌, ◌+◌, ◌*◌, ◌-◌, ◌≤◌, ℕ, List, length, drop, take, get_or, refl, sym, ap, ◌∙◌, arith}
use Rattle.blocks.specs.Blocks.{block_at, records_in, first_records}
use Rattle.sums.specs.Sums.{with_run}
use Rattle.sums.specs.ByteLaws.{puts, run_at}
use Rattle.blockreader.proofs.ReadLaws.{block_off, low_count, few_records, records_there, before_length, next_fits, records_turn}
use Rattle.blockreader.proofs.copy_records.Goals as goal

pub slice_bounds-put_run-end : goal.slice_bounds-put_run-end
slice_bounds-put_run-end c =
    let steps = c.in-Some.ensures.steps in
    let held = c.loop-k.invariant in
    let run = c.args.blocks.now in
    let u = c.requires.0 in
    let k = c.in-Some.k in
    let off = block_off c.args.n k run c.in-Some.block.now c.next.new.self.iter.rest.now u.whole held.0 held.1 steps.1 steps.0.1.0 steps.0.1.1 in
    let low = ap (λ (b : List ℕ). get_or b 4 0) off.this ∙ low_count c.args.n run u k off.inside in
    let few = few_records c.args.n run u k off.inside in
    omega arith

pub loop-k-preserved : goal.loop-k-preserved
loop-k-preserved c =
    let steps = c.in-Some.ensures.steps in
    let held = c.loop-k.invariant in
    let run = c.args.blocks.now in
    let u = c.requires.0 in
    let k = c.in-Some.k in
    let now = c.loop-k.out in
    let off = block_off c.args.n k run c.in-Some.block.now c.next.new.self.iter.rest.now u.whole held.0 held.1 steps.1 steps.0.1.0 steps.0.1.1 in
    let bytes = get_or c.in-Some.block.now 4 0 * 8 in
    let low : get_or c.in-Some.block.now 4 0 ≡ get_or (block_at k run) 4 0 = ap (λ (b : List ℕ). get_or b 4 0) off.this in
    let count = low_count c.args.n run u k off.inside in
    let piece = take (8 + bytes - 8) (drop 8 c.in-Some.block.now) in
    let made : piece ≡ records_in (block_at k run) =
    ap (λ (b : List ℕ). take (8 + bytes - 8) (drop 8 b)) off.this ∙ records_there c.args.n run u k off.inside (8 + bytes - 8) (omega arith) in
    let before = before_length c.args.n run u k off.inside in
    let fits = next_fits c.args.n run u k off.inside in
    let next : k + 1 ≡ c.next.new.self.count = omega (arith, steps.1, steps.2) in
    let room : k * 496 + length piece ≤ length now = omega (arith, c.requires.1, held.3, ap length made, before, fits) in
    let put = run_at now (k * 496) piece room c.put_run.ensures in (
      steps.0.0 ∙ held.0,
      off.past ∙ ap (λ (j : ℕ). drop (512 * j) run) next,
      omega (arith, next, off.inside),
      (puts now (k * 496) piece room put).long ∙ held.3,
      put
          ∙ ap (with_run now (k * 496)) made
          ∙ records_turn c.args.n run u c.args.out.now now k off.inside c.requires.1 (held.4 ∙ ap (λ (j : ℕ). with_run c.args.out.now 0 (first_records j run)) (sym steps.1))
          ∙ ap (λ (j : ℕ). with_run c.args.out.now 0 (first_records j run)) next,
    )
