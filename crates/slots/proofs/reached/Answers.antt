use Prim.Native.Nat.{◌-◌, ◌^◌}
use Rattle.marks.specs.MarkLaws.{Lowest, lowest_mark}
use Rattle.slots.proofs.SearchLaws.{leads_to, leads_fit, begins, turn, falls, reached_mask}
use Rattle.slots.proofs.reached.Goals as goal
use Rattle.slots.proofs.reached.Invariants.{row}

pub loop-todo-init : goal.loop-todo-init
loop-todo-init c =
    begins (leads_to (row c.args.leads.now) (2 ^ 32 - 1 - c.args.free)) 32 c.args.slot.0 (leads_fit (row c.args.leads.now) 32 c.args.free)

pub bounds-leads-i : goal.bounds-leads-i
bounds-leads-i c =
    let low : Lowest 32 c.loop-todo.todo = lowest_mark 32 c.loop-todo.todo c.loop-todo.invariant.todo_fits c.loop-todo-test.true in
    low.inside

pub loop-todo-smaller : goal.loop-todo-smaller
loop-todo-smaller c = falls c.loop-todo.invariant c.loop-todo-test.true

pub loop-todo-preserved : goal.loop-todo-preserved
loop-todo-preserved c = turn c.loop-todo.invariant c.loop-todo-test.true

pub returns : goal.returns
returns c =
    reached_mask (row c.args.leads.now) 32 c.args.free c.args.slot.0 c.ranges.free.fits c.loop-todo.invariant c.loop-todo-test.false
