-- `sums::word_at` meets its contract: where the four bytes do not stand there it is 0. Assumes nothing.
use Rattle.std.proofs.Common.{◌+◌, ◌-◌, ◌≤◌, length, take, drop, ap, ◌∙◌, length-drop, arith}
use lib.Seq.{take_all}
use Rattle.sums.specs.ByteLaws.{word_read}
use Rattle.sums.proofs.word_at.Goals as goal

pub returns-in-Some : goal.returns-in-Some
returns-in-Some c =
    let l = c.args.bytes.now in
    let at = c.args.at in
    let first = c.in-Some.ensures.cases in
    let all = take_all (length l - at) (drop at l) (simp length-drop (omega arith)) in
    let inside : at + 4 ≤ length l = omega (arith, first.enough, ap length all, length-drop at l) in
    record {
      there = λ h. word_read l c.in-Some.word.now at c.from_le_bytes.result inside c.type_inv.bytes (first.same ∙ ap (take 4) all) c.from_le_bytes.ensures;
      past = λ h. absurd (omega arith);
      small = c.from_le_bytes.type_inv;
    }
