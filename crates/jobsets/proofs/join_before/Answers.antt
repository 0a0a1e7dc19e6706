-- `jobsets::join_before` meets its contract: a law of GatherLaws for each way out. Assumes nothing.
use mathlib.Core.Path.{refl}
use mathlib.Core.Logic.{inl, inr}
use mathlib.Core.List.{List}
use Prim.Native.Nat.{ℕ, ◌≤◌, ◌<◌}
use native.Mathlib.Omega.{arith}
use Rattle.tallies.specs.GatherLaws.{gained_step, gained_opening}
use Rattle.tallies.specs.Marks.{Gained}
use Rattle.jobsets.specs.Gains.{Table, Gains}
use Rattle.jobsets.proofs.join_before.Goals as goal
use Rattle.jobsets.proofs.join_before.Goals.{then-row-ge256, else-row-ge256}

-- it looks back, and gains
gains : {job row : ℕ} {seen preds preds' : List ℕ} → job < 512 → row ≤ 768 → Table 4096 preds' → Gained job row seen preds preds' → Gains job row seen preds preds'
gains a b t g = record { gained = λ _. (t, g); stays = λ f. absurd (f (a, b)) }

-- no such job
pub returns-then-job-gt511 : goal.returns-then-job-gt511
returns-then-job-gt511 c =
    record { gained = λ b. (let m = b.0 in absurd (omega arith)); stays = λ _. refl }

pub returns-then-row-lt512 : goal.returns-then-row-lt512
returns-then-row-lt512 c =
    gains (omega (arith, c.if-job-gt511.false)) (omega (arith, c.if-row-lt768.true)) c.join-then-row-lt512.ensures.0
    (gained_step c.args.job c.args.row c.args.seen.now c.args.preds.now _ _ c.join-then-row-lt768.new.words c.if-row-lt768.true
    (elim c.if-row-ge256.branch [ then-row-ge256 w ↦ inl (w.if-row-ge256.true, (w.join.new.words, w.join.ensures.1, w.preds-is)) | else-row-ge256 w ↦ inr (w.if-row-ge256.false, w.preds-is) ])
    c.join-then-row-lt768.ensures.1
    (inl (c.if-row-lt512.true, (c.join-then-row-lt512.new.words, c.join-then-row-lt512.ensures.1, refl))))

pub returns-else-row-lt512 : goal.returns-else-row-lt512
returns-else-row-lt512 c =
    gains (omega (arith, c.if-job-gt511.false)) (omega (arith, c.if-row-lt768.true)) c.join-then-row-lt768.ensures.0
    (gained_step c.args.job c.args.row c.args.seen.now c.args.preds.now _ _ c.join-then-row-lt768.new.words c.if-row-lt768.true
    (elim c.if-row-ge256.branch [ then-row-ge256 w ↦ inl (w.if-row-ge256.true, (w.join.new.words, w.join.ensures.1, w.preds-is)) | else-row-ge256 w ↦ inr (w.if-row-ge256.false, w.preds-is) ])
    c.join-then-row-lt768.ensures.1
    (inr (c.if-row-lt512.false, refl)))

-- a row past that of an open
pub returns-then-row-ne768 : goal.returns-then-row-ne768
returns-then-row-ne768 c =
    record { gained = λ b. (let m = b.1 in absurd (omega (arith, c.if-row-ne768.true))); stays = λ _. refl }

pub returns : goal.returns
returns c =
    gains (omega (arith, c.if-job-gt511.false)) (omega (arith, c.if-row-ne768.false)) c.join-2.ensures.0
    (gained_opening c.args.job c.args.row c.args.seen.now c.args.preds.now _ c.if-row-ne768.false c.join-2.ensures.1)
