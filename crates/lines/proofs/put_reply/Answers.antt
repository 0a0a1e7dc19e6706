-- `lines::put_reply` meets its contract, by that of `put_line`. Assumes nothing.
use Prim.Native.Nat.{◌+◌, ◌≤◌}
use native.Mathlib.Omega.{arith}
use borrow.Author.Tests.{le-leb}
use lib.ListN.{length}
use Rattle.lines.proofs.PutLaws.{puts_at}
use Rattle.lines.proofs.put_reply.Goals as goal

pub returns-clause-puts_at : goal.returns-clause-puts_at
returns-clause-puts_at c =
    let room : c.args.at + 44 ≤ length c.args.out.now = omega arith in
    puts_at (le-leb (c.args.at + 44) (length c.args.out.now) room) c.put_line.ensures.puts (omega (arith, c.put_line.ensures.upper_bound))
