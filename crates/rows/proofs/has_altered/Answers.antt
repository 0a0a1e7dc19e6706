-- `rows::has_altered` meets its contract: the slot's own altered cells are taken out, and tested. Assumes nothing.
use mathlib.Core.Path.{◌≡◌, sym, ap, ◌∙◌}
use mathlib.Core.Bool.{not}
use Prim.Native.Nat.{◌+◌, ◌*◌, ◌%◌}
use borrow.Author.Rules.{rules}
use Rattle.rows.specs.Rows.{sets_only}
use Rattle.rows.proofs.SetLaws.{Part}
use Rattle.rows.proofs.RowLaws.{altered_law}
use Rattle.rows.proofs.has_altered.Goals as goal

pub returns : goal.returns
returns c =
    let at : c.start.result ≡ c.args.slot.0 % 32 * 16 = c.start.ensures ∙ ap (λ k. k * 16) c.from.ensures in
    let loaded : Part c.args.sets.now (c.args.slot.0 % 32 * 16 + 4) c.load.result.words = record { four = search rules; from = rw at at c.load.ensures } in
    ap not c.is_empty.ensures ∙ sym (altered_law (sets_only c.args.sets.now) (c.args.slot.0 % 32) loaded)
