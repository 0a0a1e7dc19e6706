-- `text::places` meets its contract: the largest power of ten in the number says how many digits it has.
-- Assumes nothing.
use Rattle.std.proofs.Common.{length, ap, arith}
use Rattle.text.specs.DecimalLaws.{decimal_count, decimal_digit}
use Rattle.text.proofs.places.Goals as goal

pub returns-in-Some : goal.returns-in-Some
returns-in-Some c =
    let e = decimal_count c.args.n c.in-Some.power (omega (arith, c.in-Some.ensures.power_le)) (omega (arith, c.in-Some.ensures.next_power_gt)) in
    (omega arith, omega arith, omega (arith, c.in-Some.ensures.bound))

pub returns-in-None : goal.returns-in-None
returns-in-None c =
    let e = ap length (decimal_digit c.args.n (omega (arith, c.in-None.ensures.none))) in
    (omega arith, omega arith, omega arith)
