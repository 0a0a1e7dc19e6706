use mathlib.Core.Path.{◌≡◌, refl, ◌∙◌, subst}
use mathlib.Core.List.{List}
use Prim.Native.Nat.{ℕ, ◌+◌}
use native.Mathlib.Omega.{arith}
use lib.ListN.{get_or, length-set}
use Rattle.std.specs.Prelude.{Option, None, Some}
use Rattle.std.proofs.lemmas.Result.{err_from_is_err_and}
use Rattle.tallies.specs.TableLaws.{rises}
use Rattle.tallies.specs.PlaceLaws.{stops_unknown, stops_gone, stops_twice, goes_on}
use Rattle.logs.specs.Search.{Found}
use Rattle.checks.proofs.CheckLaws.{found_some, none_left}
use Rattle.checks.proofs.place_order.Goals as goal
use Rattle.checks.proofs.place_order.Goals.{then-table-k-eq-ABANDONED-via-then-table-k-eq-ABANDONED, then-table-k-eq-ABANDONED-via-else-table-k-eq-ABANDONED+then-placed-k-ne0}

-- what the search found, by its variant
as_found : (l : List ℕ) (count j : ℕ) {r v : Option ℕ} → r ≡ v → Found l count j r → Found l count j v
as_found l count j e f = subst (Found l count j) e f

pub returns-in_err-k : goal.returns-in_err-k
returns-in_err-k c =
    let t = c.args.table.now in
    let p = err_from_is_err_and c.from_residual.result c.from_residual.ensures.1 in
    let left = none_left c.in_err-k.ensures.value in
    let unknown : Found t.numbers t.count (get_or c.args.order.now c.loop-i.i 0) None = as_found t.numbers t.count _ left.0 c.find.ensures.0 in
    rw p.1
    (λ h jobs blank.
    let z = stops_unknown jobs (c.loop-i.invariant.1 h jobs blank) c.loop-i-test.true {A = Unit {0}} (unknown (rises jobs)) in
    (c.loop-i.i, p.2 ∙ left.1, z.0 ∙ found_some c.loop-i-test.true))

pub returns-then-table-k-eq-ABANDONED : goal.returns-then-table-k-eq-ABANDONED
returns-then-table-k-eq-ABANDONED c =
    let t = c.args.table.now in
    let w : Found t.numbers t.count (get_or c.args.order.now c.loop-i.i 0) (Some c.in_ok-k.k) = as_found t.numbers t.count _ c.in_ok-k.ensures.ok_part c.find.ensures.0 in
    λ h jobs blank.
    let p = c.loop-i.invariant.1 h jobs blank in
    elim c.then-table-k-eq-ABANDONED.branch [
      | then-table-k-eq-ABANDONED-via-then-table-k-eq-ABANDONED v ↦
          let z = stops_gone jobs p c.loop-i-test.true w.0 w.1 {A = Unit {0}} v.if-table-k-eq-ABANDONED.true in (c.loop-i.i, refl, z.0 ∙ found_some c.loop-i-test.true)
      | then-table-k-eq-ABANDONED-via-else-table-k-eq-ABANDONED+then-placed-k-ne0 v ↦
          let z = stops_twice jobs p c.loop-i-test.true w.0 w.1 {A = Unit {0}} v.if-placed-k-ne0.true in (c.loop-i.i, refl, z.0 ∙ found_some c.loop-i-test.true)
    ]

pub loop-i-preserved : goal.loop-i-preserved
loop-i-preserved c =
    let t = c.args.table.now in
    let w : Found t.numbers t.count (get_or c.args.order.now c.loop-i.i 0) (Some c.in_ok-k.k) = as_found t.numbers t.count _ c.in_ok-k.ensures.ok_part c.find.ensures.0 in
    let few = t.few in (
      length-set c.loop-i.placed c.in_ok-k.k (c.loop-i.i + 1) ∙ c.loop-i.invariant.0,
      λ h jobs blank. goes_on jobs (c.loop-i.invariant.1 h jobs blank) c.loop-i-test.true w.0 w.1 (omega arith) c.if-table-k-eq-ABANDONED.false c.if-placed-k-ne0.false,
    )
