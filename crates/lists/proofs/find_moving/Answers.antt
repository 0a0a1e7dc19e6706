-- `lists::find_moving` meets its contract: the open jobs, those that they lead to, and the count of the others. Assumes nothing.
use mathlib.Core.Path.{sym, ◌∙◌}
use Rattle.history.specs.Events.{opened}
use Rattle.sheet.specs.Sheet.{at_rest}
use Rattle.lists.proofs.OutsideLaws.{outside_rest, resting_many}
use Rattle.lists.proofs.find_moving.Goals as goal

pub returns : goal.returns
returns c = (
  c.count_outside.ensures.0,
  λ h jobs prec blank.
      let out = outside_rest jobs c.args.preds.now prec (c.mark_open.ensures blank) c.close.ensures in
      (c.count_outside.ensures.1 (at_rest h) (opened h) (sym jobs.many) out ∙ resting_many h jobs.turns, out),
)
