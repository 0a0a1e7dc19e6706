use mathlib.Core.Path.{sym, ◌∙◌}
use Prim.Native.Nat.{◌<◌}
use borrow.Author.Rules.{rules}
use native.Mathlib.Omega.{arith}
use lib.ListN.{length, take}
use Rattle.std.proofs.lemmas.List.{get_or-take, length-take}
use Rattle.std.proofs.lemmas.Slice.Zip.{zip_turn}
use Rattle.checks.proofs.CheckLaws.{one_lacks}
use Rattle.checks.proofs.all_placed.Goals as goal

pub returns-then-place-eq0 : goal.returns-then-place-eq0
returns-then-place-eq0 c =
    let n = c.min-jobs.result in
    let i = length c.loop-state.yielded in
    let turn = zip_turn (take n c.args.states.now) (take n c.args.placed.now) c.loop-state.yielded c.into_iter-state-iterator.result c.loop-state.state-iterator c.next.new.self _ (search rules) (search rules) c.loop-state.yielded_by _ c.in-Some.is c.next.ensures.steps in
    let inside : i < n = omega (arith, length-take n c.args.states.now, turn.0) in
    one_lacks c.args.states.now c.args.placed.now c.args.count c.min-jobs.ensures inside
    (rw (turn.2 0 ∙ get_or-take n c.args.states.now i 0 inside) at c.if-state-ne-ABANDONED.true)
    (sym (get_or-take n c.args.placed.now i 0 inside) ∙ sym (turn.3 0) ∙ c.if-place-eq0.true)
