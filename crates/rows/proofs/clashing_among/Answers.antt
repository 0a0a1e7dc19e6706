-- `rows::clashing_among` meets its contract: no slot is above the rows that were looked at, so those found among the slots are all. Assumes nothing.
use lib.Dec.{lit≤}
use Rattle.rows.specs.Rows.{kind_of}
use Rattle.rows.specs.Rows.{met}
use Rattle.rows.proofs.ClashLaws.{mask_among}
use Rattle.rows.proofs.clashing_among.Goals as goal

pub returns-then-slots-lt256 : goal.returns-then-slots-lt256
returns-then-slots-lt256 c =
    mask_among 8 (met c.args.sets.now (kind_of c.args.step.deed) c.args.step.cell.0) c.clashing_rows-eight.ensures c.if-slots-lt256.true (lit≤ tt)

pub returns-then-slots-lt65536 : goal.returns-then-slots-lt65536
returns-then-slots-lt65536 c =
    mask_among 16 (met c.args.sets.now (kind_of c.args.step.deed) c.args.step.cell.0) c.clashing_rows-sixteen.ensures c.if-slots-lt65536.true (lit≤ tt)

pub returns-then-slots-lt16777216 : goal.returns-then-slots-lt16777216
returns-then-slots-lt16777216 c =
    mask_among 24 (met c.args.sets.now (kind_of c.args.step.deed) c.args.step.cell.0) c.clashing_rows-most.ensures c.if-slots-lt16777216.true (lit≤ tt)

pub returns : goal.returns
returns c =
    mask_among 32 (met c.args.sets.now (kind_of c.args.step.deed) c.args.step.cell.0) c.clashing_rows.ensures c.ranges.slots.fits (lit≤ tt)
