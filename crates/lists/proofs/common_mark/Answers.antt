use mathlib.Core.Logic.{⊎_elim}
use Prim.Native.Nat.{◌+◌, ◌*◌, ◌-◌, ◌<◌}
use native.Mathlib.Nat.{lt_of_le_of_lt}
use native.Mathlib.Omega.{arith}
use borrow.Author.Rules.{rules}
use mir.Syntax.{w64}
use mir.Val.{Fits}
use lib.Bits.{bit_and, and_le_l}
use lib.ListN.{get_or}
use Rattle.marks.specs.MarkLaws.{Highest, highest_mark}
use Rattle.tallies.specs.MarkLaws.{common_found, common_none}
use Rattle.lists.proofs.common_mark.Goals as goal

pub returns-then-both-ne0 : goal.returns-then-both-ne0
returns-then-both-ne0 c =
    let w = c.loop-w.w - 1 in
    let q : c.loop-w.w - 1 < 8 = omega arith in
    let f : Fits w64 (get_or c.args.rows.now (c.args.row * 8 + (c.loop-w.w - 1)) 0) = search rules in
    let one = get_or c.args.rows.now (c.args.row * 8 + w) 0 in
    let two = get_or c.args.words.now w 0 in
    let high : Highest 64 (bit_and one two) = highest_mark 64 (bit_and one two) (lt_of_le_of_lt (and_le_l one two) f.fits) c.if-both-ne0.true in
    ⊎_elim (λ r. r) (λ r. absurd (omega (arith, r.0, high.inside))) (common_found c.args.rows.now c.args.row c.args.words.now w q f.fits c.if-both-ne0.true).1

pub returns : goal.returns
returns c =
    ⊎_elim (λ r. absurd (let q = r.0 in omega arith)) (λ r. r.1) (common_none c.args.rows.now c.args.row c.args.words.now (λ k q. c.loop-w.invariant k (omega arith) q))
