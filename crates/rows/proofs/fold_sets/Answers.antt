use mathlib.Core.Path.{◌≡◌, sym, ap, ◌∙◌}
use Prim.Native.Nat.{ℕ}
use native.Mathlib.Omega.{arith}
use lib.Count.{count_trailing_zeros}
use lib.Dec.{eqb}
use borrow.Author.Rules.{rules}
use Rattle.rows.specs.Rows.{folded}
use Rattle.rows.proofs.SetLaws.{fold_start, fold_other, fold_turn, fold_end}
use Rattle.rows.proofs.fold_sets.Goals as goal

pub loop-row-init : goal.loop-row-init
loop-row-init c = rw c.into_iter-row-iterator.ensures.into_iter_gives (fold_start (search rules) c.ranges.from.fits)

pub take_over-requires : goal.take_over-requires
take_over-requires c = let s = c.in-Some.ensures.steps in λ e. fold_other c.loop-row.invariant s.0 c.requires (sym s.1 ∙ e)

-- What `take_over` ensures, at the loop's own values: handed to a law as it stands, antt would compare two tables of 512 by computing them.
after : (c : goal.After-take_over)
    → c.take_over.new.sets
    ≡ folded c.loop-row.sets (λ k. eqb k (count_trailing_zeros 32 c.loop-row.row-iterator.todo))
    c.args.slot.at
after c = c.take_over.ensures ∙ ap (λ (i : ℕ). folded c.loop-row.sets (λ k. eqb k i) c.args.slot.at) c.in-Some.ensures.steps.1

pub loop-row-preserved : goal.loop-row-preserved
loop-row-preserved c =
    let s = c.in-Some.ensures.steps in
    rw s.2 (fold_turn c.loop-row.invariant s.0 (omega (arith, c.args.slot.inside)) c.requires (after c))

pub returns : goal.returns
returns c = fold_end c.loop-row.invariant c.in-None.ensures.steps
