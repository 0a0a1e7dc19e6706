use Rattle.std.proofs.Common.{◌≡◌, ◌+◌, ◌*◌, ℕ, suc, drop, sym, ap, ap₂, ◌∙◌, arith}
use Rattle.std.proofs.Math.Option.{none, some}
use Rattle.std.proofs.lemmas.Result.{err_from_is_err_and}
use Rattle.blocks.specs.Blocks.{fault, fault_in, block_at, or_else, lowest_fault}
use Rattle.blocks.proofs.RunLaws.{lowest_found}
use Rattle.blockreader.specs.Answers.{code_of, block_of}
use Rattle.blockreader.proofs.ReadLaws.{block_off}
use Rattle.blockreader.proofs.lowest.Goals as goal

pub loop-k-preserved : goal.loop-k-preserved
loop-k-preserved c =
    let steps = c.in-Some.ensures.steps in
    let held = c.loop-k.invariant in
    let run = c.args.blocks.now in
    let n = c.args.n in
    let k = c.in-Some.k in
    let off = block_off n k run c.in-Some.block.now c.next.new.self.iter.rest.now c.requires.0 held.0 held.1 steps.1 steps.0.1.0 steps.0.1.1 in
    let next : k + 1 ≡ c.next.new.self.count = omega (arith, steps.1, steps.2) in
    let up : suc k ≡ c.next.new.self.count = omega arith in
    let before : lowest_fault n run k ≡ none = ap (lowest_fault n run) steps.1 ∙ held.3 in (
      steps.0.0 ∙ held.0,
      off.past ∙ ap (λ (j : ℕ). drop (512 * j) run) next,
      omega (arith, off.inside),
      sym (ap (lowest_fault n run) up) ∙ ap₂ or_else before (ap (fault_in n k) (sym off.this) ∙ sym c.in_ok-fault_at.ensures),
    )

pub returns-in_err-fault_at : goal.returns-in_err-fault_at
returns-in_err-fault_at c =
    let p = err_from_is_err_and c.from_residual.result c.from_residual.ensures.1 in
    let steps = c.in-Some.ensures.steps in
    let held = c.loop-k.invariant in
    let run = c.args.blocks.now in
    let n = c.args.n in
    let k = c.in-Some.k in
    let off = block_off n k run c.in-Some.block.now c.next.new.self.iter.rest.now c.requires.0 held.0 held.1 steps.1 steps.0.1.0 steps.0.1.1 in
    let e = c.in_err-fault_at.field-0.0 in
    let found : fault_in n k (block_at k run) ≡ some (fault (code_of e) (block_of e)) = sym (c.in_err-fault_at.ensures ∙ ap (fault_in n k) off.this) in
    rw (p.1, p.2) (sym (lowest_found n run n k (fault (code_of e) (block_of e)) (ap (lowest_fault n run) steps.1 ∙ held.3) found off.inside))
