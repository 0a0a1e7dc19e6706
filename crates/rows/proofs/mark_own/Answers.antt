-- `rows::mark_own` meets its contract: a law of SetLaws for each deed. Assumes nothing.
use mathlib.Core.Path.{sym, ap, ◌∙◌}
use Rattle.rows.specs.Rows.{kind_of}
use Rattle.rows.specs.Rows.{marked_own}
use Rattle.rows.specs.declared.Deed.{Deed}
use Rattle.rows.proofs.SetLaws.{put_read, put_add, put_write}
use Rattle.rows.proofs.mark_own.Goals as goal

pub returns-in-Read : goal.returns-in-Read
returns-in-Read c =
    c.put_own.ensures ∙ put_read c.args.sets.now c.args.slot.at c.args.cell.0
    ∙ ap (λ (d : Deed). marked_own c.args.sets.now c.args.slot.at (kind_of d) c.args.cell.0) (sym c.in-Read.is)

pub returns-in-Write : goal.returns-in-Write
returns-in-Write c =
    put_write {l₁ = c.put_own-in-Write.new.sets} c.args.sets.now c.args.slot.at c.args.cell.0 c.put_own-in-Write.ensures c.put_own-in-Write-2.ensures
    ∙ ap (λ (d : Deed). marked_own c.args.sets.now c.args.slot.at (kind_of d) c.args.cell.0) (sym c.in-Write.is)

pub returns-in-Add : goal.returns-in-Add
returns-in-Add c =
    c.put_own-in-Add.ensures ∙ put_add c.args.sets.now c.args.slot.at c.args.cell.0
    ∙ ap (λ (d : Deed). marked_own c.args.sets.now c.args.slot.at (kind_of d) c.args.cell.0) (sym c.in-Add.is)
