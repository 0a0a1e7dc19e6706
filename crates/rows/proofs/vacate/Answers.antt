-- `rows::vacate` meets its contract: 0 is put into the slot's row. Assumes nothing.
use mathlib.Core.Path.{refl, ap}
use lib.Bits.{bit_or}
use Rattle.marks.specs.MaskLaws.{set_tab}
use Rattle.rows.proofs.vacate.Goals as goal

pub returns : goal.returns
returns c =
    let own = c.from-own.result in
    rw (← c.from-own.ensures, c.index.ensures)
    (ap (bit_or c.args.free) c.mark.ensures, set_tab c.args.numbers.now own.at 0 c.told-numbers own.inside (λ p q. refl))
