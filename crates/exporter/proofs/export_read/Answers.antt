-- `exporter::export_read` meets its contract: an add is refused, and without one what is copied is the text. Assumes nothing.
use mathlib.Core.Path.{sym, ap, ◌∙◌}
use mathlib.Core.List.{List}
use Prim.Native.Nat.{ℕ}
use Rattle.blocks.specs.Blocks.{filled}
use Rattle.exporter.proofs.AddLaws.{first_found, none_found}
use Rattle.exporter.proofs.AnswerLaws.{with_add, without_add, as_text}
use Rattle.exporter.proofs.export_read.Goals as goal

pub returns-in-Some : goal.returns-in-Some
returns-in-Some c =
    λ h t. let f = first_found t c.requires (sym c.first_add.ensures ∙ c.in-Some.is) in with_add h c.args.out.now t.at f.0 f.1

pub returns : goal.returns
returns c =
    λ h t.
    let b = none_found t c.requires (sym c.first_add.ensures ∙ c.in_default.is) in
    c.copy_out.ensures
    ∙ ap (λ (x : List ℕ). filled x c.args.out.now) (c.put_all-size.ensures.1 h t (without_add h c.args.out.now t.at b)).front
    ∙ as_text h c.args.out.now t.at b
