use mathlib.Core.Path.{◌≡◌, subst}
use Prim.Native.Nat.{ℕ, ◌+◌, ◌*◌, ◌<◌}
use native.Mathlib.Omega.{arith}
use borrow.Author.Rules.{rules}
use mir.Syntax.{w64}
use mir.Val.{Fits}
use lib.ListN.{length, length-set, get_or}
use Rattle.tallies.specs.MarkLaws.{Joining, joining_start, joining_turn, joining_end}
use Rattle.jobsets.specs.GainLaws.{words_fit}
use Rattle.jobsets.proofs.join.Goals as goal

pub loop-w-init : goal.loop-w-init
loop-w-init c = (c.told-words, joining_start c.args.row c.args.other c.args.others.now c.args.words.now, λ q. absurd (omega arith))

pub loop-w-preserved : goal.loop-w-preserved
loop-w-preserved c =
    let room : c.args.row * 8 + c.loop-w.w < length c.loop-w.all = omega arith in (
      simp length-set c.loop-w.invariant.0,
      joining_turn c.loop-w.invariant.1 room,
      λ _. words_fit c.loop-w.all (c.args.row * 8 + c.loop-w.w) _ (λ k. (let f : Fits w64 (get_or c.loop-w.all k 0) = search rules in f.fits)) (c.type_inv.theirs (c.args.other * 8 + c.loop-w.w)).fits room,
    )

pub returns : goal.returns
returns c =
    let e : c.loop-w.w ≡ 8 = omega arith in
    (record { long = c.loop-w.invariant.0; fit = c.loop-w.invariant.2 (omega arith) }, joining_end (subst (λ (n : ℕ). Joining c.args.row c.args.other n c.args.others.now c.args.words.now c.loop-w.all) e c.loop-w.invariant.1))
