-- `rows::blank` meets its contract: the row's sixteen words are filled with zeros. Assumes nothing.
use mathlib.Core.Path.{◌≡◌, ap, ◌∙◌}
use Prim.Native.Nat.{ℕ, ◌+◌, ◌-◌}
use native.Mathlib.Omega.{arith}
use lib.ListN.{length, replicate}
use borrow.Rule.Slice.PartMut.{mid_of, mid_len}
use Rattle.rows.proofs.SetLaws.{blank_part}
use Rattle.rows.proofs.blank.Goals as goal

pub returns : goal.returns
returns c =
    let at = c.start-at.result in
    let long : length c.args.sets.now ≡ 512 = c.told-sets in
    let part : length (mid_of at (at + 16 - at) c.args.sets.now) ≡ at + 16 - at = mid_len at (at + 16) c.args.sets.now (omega (arith, c.start-at.ensures, c.args.slot.inside)) in
    let sixteen : at + 16 - at ≡ 16 = omega arith in
    blank_part 512 c.args.sets.now long c.args.slot.at c.start-at.ensures sixteen
    (c.fill.ensures.after (λ y h. h) ∙ ap (λ (n : ℕ). replicate n 0) (part ∙ sixteen)) (omega arith)
