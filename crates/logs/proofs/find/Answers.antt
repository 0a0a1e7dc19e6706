-- `logs::find` meets its contract: the guess is tested, and else it is `halve`'s answer. Assumes nothing.
use Rattle.logs.proofs.SearchLaws.{searched_low, searched_own, searched_other, searched_past}
use Rattle.logs.proofs.find.Goals as goal
use Rattle.logs.proofs.find.Goals.{then-first-job+else-guess-count, else-guess-count-via-then-guess-count+else-all-guess, else-guess-count-via-else-guess-count, else-first-job}

pub returns-then-all-guess : goal.returns-then-all-guess
returns-then-all-guess c =
    ((c.if-guess-count.true, c.if-all-guess.true), searched_own c.args.numbers.now c.args.count c.args.job c.if-first-job.true c.if-guess-count.true c.if-all-guess.true)

-- no guess, one past the table, or a wrong one
pub returns : goal.returns
returns c = (
  c.halve.ensures.0,
  let l = c.args.numbers.now in
      elim c.if-first-job.branch [ then-first-job+else-guess-count w ↦ elim w.else-guess-count.branch [ else-guess-count-via-then-guess-count+else-all-guess v ↦ searched_other l c.args.count c.args.job c.halve.ensures.1 w.if-first-job.true v.if-guess-count.true v.if-all-guess.false | else-guess-count-via-else-guess-count v ↦ searched_past l c.args.count c.args.job c.halve.ensures.1 w.if-first-job.true v.if-guess-count.false ] | else-first-job w ↦ searched_low l c.args.count c.args.job c.halve.ensures.1 w.if-first-job.false ],
)
