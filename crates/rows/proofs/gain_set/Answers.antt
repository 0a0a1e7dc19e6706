-- `rows::gain_set` meets its contract: three fours are taken out and joined, and stored back. Assumes nothing.
use mathlib.Core.Path.{◌∙◌}
use borrow.Author.Called.{Called}
use borrow.Author.Rules.{rules}
use borrow.Fn.Args.{ArgsT, args_v}
use borrow.Table.Row.{Cx}
use borrow.Table.Typed.{Mo}
use Rattle.rows.proofs.SetLaws.{Part, gained_set}
use Rattle.rows.proofs.load.Reads as load-reads
use Rattle.rows.proofs.gain_set.Lts as lts
use Rattle.rows.proofs.gain_set.Goals as goal

-- whatever `load` is called with, its set has four words, those from the place on
loaded : {Γ : Cx} {ar : ArgsT lts.ps-0 Γ.locals} {u : Mo Γ} (d : Called lts.ps-0 lts.r-0 load-reads.Learnt Γ ar u)
    → Part (args_v d.lifetimes lts.ps-0 Γ.locals ar u).0.now (args_v d.lifetimes lts.ps-0 Γ.locals ar u).1.0 d.result.words
loaded d = record { four = search rules; from = d.ensures }

-- The lists and places are written out: with `_` antt would compare two tables of 512 by computing them.
pub returns : goal.returns
returns c =
    c.store.ensures
    ∙ gained_set 512 c.args.sets.now c.args.to c.args.one c.args.two (loaded c.load) (loaded c.load-2) (loaded c.load-3)
    c.union.ensures c.union-all.ensures
