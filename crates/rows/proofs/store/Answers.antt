use mathlib.Core.Path.{◌≡◌, ap, ◌∙◌}
use native.Mathlib.Numerals.{add-one}
use native.Mathlib.Omega.{arith}
use Rattle.rows.proofs.SetLaws.{written, written_set}
use Rattle.rows.proofs.store.Goals as goal

pub loop-i-preserved : goal.loop-i-preserved
loop-i-preserved c = rw (c.loop-i.invariant, add-one)

pub returns : goal.returns
returns c =
    let e : c.loop-i.i ≡ 4 = omega arith in
    c.loop-i.invariant ∙ ap (written c.args.sets.now c.args.at c.args.set.words) e
    ∙ written_set 512 c.args.sets.now c.told-sets c.args.at c.args.set.words (omega arith)
