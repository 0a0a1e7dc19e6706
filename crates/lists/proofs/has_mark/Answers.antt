-- `lists::has_mark` meets its contract: the mark's word and the mark have something in common exactly where it is put. Assumes nothing.
use mathlib.Core.Path.{ap, ◌∙◌}
use mathlib.Core.Bool.{not}
use Prim.Native.Nat.{ℕ, ◌/◌, ◌%◌}
use native.Mathlib.Omega.{arith}
use lib.Bits.{bit_and}
use lib.Dec.{eqb}
use lib.ListN.{get_or}
use Rattle.marks.specs.MarkLaws.{shl_one, test_mark}
use Rattle.marks.specs.Words.{marked}
use Rattle.lists.proofs.has_mark.Goals as goal

pub returns : goal.returns
unfolding marked
returns c =
    let word = get_or c.args.words.now (c.args.at / 64) 0 in
    ap (λ (m : ℕ). not (eqb (bit_and word m) 0)) (shl_one 64 (omega arith)) ∙ test_mark word (c.args.at % 64)
