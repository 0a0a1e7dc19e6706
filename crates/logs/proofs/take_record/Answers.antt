-- `logs::take_record` meets its contract: what the function called in each arm ensures, with the kind that the arm is for. Assumes nothing.
use mathlib.Core.Path.{refl}
use borrow.Author.Rules.{rules}
use Rattle.history.specs.Events.{read, write, add}
use Rattle.tallies.specs.TakeLaws.{takes_byte, takes_kind}
use Rattle.logs.proofs.ReadLaws.{took_as}
use Rattle.logs.proofs.take_record.Goals as goal

pub returns-then-r-ne0 : goal.returns-then-r-ne0
returns-then-r-ne0 c = (c.requires.0, λ h t. (takes_byte c.args.r.kind c.args.r.byte1 c.args.r.cell c.args.r.job c.if-r-ne0.true, refl))

pub returns-in-2 : goal.returns-in-2
returns-in-2 c = (c.requires.0, λ h t. took_as h c.args.place c.args.r.cell c.args.r.job c.take_step.result c.args.numbers.now c.take_step.new.states c.take_step.new.told c.args.jobs.now c.in-2.is c.if-r-ne0.false (c.take_step.ensures h read refl t))

pub returns-in-3 : goal.returns-in-3
returns-in-3 c = (c.requires.0, λ h t. took_as h c.args.place c.args.r.cell c.args.r.job c.take_step-in-3.result c.args.numbers.now c.take_step-in-3.new.states c.take_step-in-3.new.told c.args.jobs.now c.in-3.is c.if-r-ne0.false (c.take_step-in-3.ensures h write refl t))

pub returns-in-7 : goal.returns-in-7
returns-in-7 c = (c.requires.0, λ h t. took_as h c.args.place c.args.r.cell c.args.r.job c.take_step-in-7.result c.args.numbers.now c.take_step-in-7.new.states c.take_step-in-7.new.told c.args.jobs.now c.in-7.is c.if-r-ne0.false (c.take_step-in-7.ensures h add refl t))

pub returns-in_default : goal.returns-in_default
returns-in_default c =
    (c.requires.0, λ h t. (takes_kind c.args.r.kind c.args.r.byte1 c.args.r.cell c.args.r.job (search rules) (search rules) (search rules) (search rules) (search rules) (search rules), refl))
