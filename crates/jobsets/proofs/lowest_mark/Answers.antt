use mathlib.Core.Path.{refl}
use native.Mathlib.Omega.{arith}
use borrow.Author.Rules.{rules}
use Prim.Native.Nat.{◌<◌}
use lib.ListN.{get_or}
use mir.Syntax.{w64}
use mir.Val.{Fits}
use Rattle.marks.specs.MarkLaws.{Lowest, lowest_mark}
use Rattle.tallies.specs.ListLaws.{a_mark, no_mark}
use Rattle.tallies.specs.MarkLaws.{lowest_found, lowest_none}
use Rattle.jobsets.proofs.lowest_mark.Goals as goal

pub returns-then-word-ne0 : goal.returns-then-word-ne0
returns-then-word-ne0 c =
    let f : Fits w64 (get_or c.args.words.now c.loop-w.w 0) = search rules in
    let low : Lowest 64 (get_or c.args.words.now c.loop-w.w 0) = lowest_mark 64 (get_or c.args.words.now c.loop-w.w 0) f.fits c.if-word-ne0.true in
    let q : c.loop-w.w < 8 = omega arith in
    a_mark c.args.words.now _ (lowest_found c.args.words.now c.loop-w.w q c.loop-w.invariant f.fits c.if-word-ne0.true).1 (omega (arith, low.inside))

pub returns : goal.returns
returns c = no_mark c.args.words.now 512 (lowest_none c.args.words.now (λ k q. c.loop-w.invariant k (omega arith))) refl
