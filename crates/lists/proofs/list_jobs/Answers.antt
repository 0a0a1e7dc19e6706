use mathlib.Core.Path.{◌≡◌, sym, subst, subst₂}
use mathlib.Core.List.{List}
use Prim.Native.Nat.{ℕ, ◌+◌, ◌<◌}
use native.Mathlib.Omega.{arith}
use lib.ListN.{length, take}
use Rattle.history.specs.Events.{kept}
use Rattle.tallies.specs.Places.{Placed}
use Rattle.tallies.specs.PadLaws.{zeros}
use Rattle.tallies.specs.ListLaws.{Underway, underway_start, underway_turn, underway_placed, underway_stuck, underway_end, circle_none, lists_all, lists_none}
use Rattle.lists.proofs.list_jobs.Goals as goal

pub loop-n-init : goal.loop-n-init
loop-n-init c =
    let s = c.sort.ensures in (
      s.1 (zeros 8) (zeros 4096),
      λ h jobs prec marks blank.
          (subst (λ (left : List ℕ). Underway h c.args.table.now.count left 0 c.args.order.now) (sym s.0) (underway_start jobs c.args.order.now marks), λ i q. blank i),
    )

-- no job is ready
pub returns-in_default : goal.returns-in_default
returns-in_default c =
    λ h jobs prec marks many blank.
    let u = c.loop-n.invariant.1 h jobs prec marks blank in
    lists_none h jobs.turns c.args.table.now.count c.loop-n.order c.loop-n.placed c.loop-n.n u.1 (omega arith)
    (circle_none h jobs.turns (underway_stuck jobs c.args.preds.now prec u.0 c.loop-n.invariant.0 (omega arith) c.in_default.ensures))

pub loop-n-preserved : goal.loop-n-preserved
loop-n-preserved c =
    let k = c.in-Some.ensures in
    let p = c.place.ensures c.loop-n.invariant.0 k.1 in
    let room : c.loop-n.n < length c.loop-n.order = (let x = c.note.ensures.0 in omega arith) in (
      p.1,
      λ h jobs prec marks blank.
          let u = c.loop-n.invariant.1 h jobs prec marks blank in
          let After : List ℕ → List ℕ → Type 0 = λ order placed. Underway h c.args.table.now.count c.place.new.self.left (c.loop-n.n + 1) order × Placed h c.args.table.now.count (take (c.loop-n.n + 1) order) placed in
          subst₂ After (sym c.note.ensures.2) (sym c.note.ensures.3) (
            underway_turn jobs c.args.preds.now prec u.0 c.loop-n.invariant.0 k.0 k.1 k.2 p.0 room,
            underway_placed jobs c.args.preds.now prec u.0 c.loop-n.invariant.0 k.0 k.1 c.loop-n.placed u.1 room (let x = c.note.ensures.1 in let y = k.0 in omega arith),
          ),
    )

pub returns : goal.returns
returns c =
    λ h jobs prec marks many blank.
    let z : c.loop-n.n ≡ length (kept h) = omega arith in
    let u = c.loop-n.invariant.1 h jobs prec marks blank in
    lists_all h jobs.turns c.args.table.now.count c.loop-n.order c.loop-n.placed c.loop-n.n u.1 z (underway_end jobs u.0 z)
