-- `lines::word_line` meets its contract: the word, and then the number and the end of the line. Assumes nothing.
use Prim.Native.Nat.{◌+◌, ◌≤◌}
use native.Mathlib.Omega.{arith}
use borrow.Author.Tests.{le-leb}
use lib.ListN.{length}
use Rattle.text.specs.DecimalLaws.{decimal_length}
use Rattle.text.specs.Puts.{Puts, puts_then, lays_puts}
use Rattle.lines.proofs.PutLaws.{puts_starts}
use Rattle.lines.proofs.word_line.Goals as goal

pub put_field-requires : goal.put_field-requires
put_field-requires c =
    let room : length c.args.word.now + 21 ≤ length c.args.out.now = omega arith in
    let n = decimal_length c.args.n (omega arith) in
    let w : Puts 0 c.args.word.now c.args.out.now c.put_text-a.new.out c.put_text-a.result = lays_puts c.put_text-a.ensures (omega arith) in
    omega (arith, w.past, w.same)

pub returns : goal.returns
returns c =
    let room : length c.args.word.now + 21 ≤ length c.args.out.now = omega arith in
    puts_starts (le-leb (length c.args.word.now + 21) (length c.args.out.now) room) (puts_then (lays_puts c.put_text-a.ensures (omega arith)) c.put_field.ensures.puts)
