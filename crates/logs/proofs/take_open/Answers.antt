-- `logs::take_open` meets its contract: a law of TakeLaws for each way out. Assumes nothing.
use mathlib.Core.Logic.{◌⊎◌, inl, inr}
use mathlib.Core.Path.{◌≡◌, refl}
use Prim.Native.Nat.{◌-◌, ◌<◌}
use native.Mathlib.Omega.{arith}
use lib.ListN.{get_or}
use Rattle.tallies.specs.TakeLaws.{takes_open_ill, takes_open_low, takes_open_many, takes_open}
use Rattle.logs.proofs.take_open.Goals as goal
use Rattle.logs.proofs.take_open.Goals.{else-count-ne0-via-then-count-ne0+else-job-all, else-count-ne0-via-else-count-ne0}

pub returns-then-cell-ne0 : goal.returns-then-cell-ne0
returns-then-cell-ne0 c = (c.requires.0, λ h t. (takes_open_ill c.args.cell c.args.job c.if-cell-ne0.true, refl))

pub returns-then-job-all : goal.returns-then-job-all
returns-then-job-all c =
    (c.requires.0, λ h t. (takes_open_low t c.if-cell-ne0.false c.if-count-ne0.true c.if-job-all.true, refl))

pub returns-then-count-ge512 : goal.returns-then-count-ge512
returns-then-count-ge512 c =
    let last : (c.args.jobs.now ≡ 0) ⊎ (get_or c.args.numbers.now (c.args.jobs.now - 1) 0 < c.args.job) = elim c.else-count-ne0.branch [ else-count-ne0-via-then-count-ne0+else-job-all w ↦ inr w.if-job-all.false | else-count-ne0-via-else-count-ne0 w ↦ inl w.if-count-ne0.false ] in
    (c.requires.0, λ h t. (takes_open_many t c.if-cell-ne0.false last c.if-count-ge512.true, refl))

pub returns : goal.returns
returns c =
    let last : (c.args.jobs.now ≡ 0) ⊎ (get_or c.args.numbers.now (c.args.jobs.now - 1) 0 < c.args.job) = elim c.else-count-ne0.branch [ else-count-ne0-via-then-count-ne0+else-job-all w ↦ inr w.if-job-all.false | else-count-ne0-via-else-count-ne0 w ↦ inl w.if-count-ne0.false ] in
    (omega arith, λ h t. takes_open t c.if-cell-ne0.false last c.if-count-ge512.false t.jobs.numbers_padded.wide t.jobs.states_padded.wide (let l = t.wide in let p = c.requires.1 in omega arith) refl)
