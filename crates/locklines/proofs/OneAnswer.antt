-- Each contract of the crate's public functions leaves one result: two results that meet it are equal, and so is every lent array at exit. A theorem for each
-- function, named after it, of the contract itself: `Post` is what Rattle reads of the function's `ensures`.
-- Assumes nothing.
use mathlib.Core.Path.{◌≡◌}
use contract.Lifetimes.{Lfts}
use borrow.Fn.Kinds.{Dens, res_t, ended_of}
use denote.Triple.Clauses.{AtExit}
use Rattle.lines.specs.LineLaws.{starts_one, leaves_one}
use Rattle.lines.proofs.OneAnswer.{one_state}
use Rattle.locklines.proofs.off_line.Kinds as off_kinds
use Rattle.locklines.proofs.off_line.Reads as off_reads
use Rattle.locklines.proofs.lock_lines.Kinds as lines_kinds
use Rattle.locklines.proofs.lock_lines.Reads as lines_reads

-- the last line: the count, and the output at exit, its second parameter
pub one_off_line : (κs : Lfts 1) (a : Dens κs off_kinds.ps) (x y : (res_t off_kinds.r κs).Denot) (s t : AtExit (ended_of 1 off_kinds.ps off_kinds.r) κs)
    → off_reads.Post κs a x s
    → off_reads.Post κs a y t
    → (x ≡ y) × (s.1.0.now ≡ t.1.0.now)
one_off_line κs a x y s t p q = let one = starts_one p q in (one.1, one.0)

-- the lines: what it returns, and at exit the state, its second parameter, and the output, its fourth
pub one_lock_lines : (κs : Lfts 3) (a : Dens κs lines_kinds.ps) (x y : (res_t lines_kinds.r κs).Denot) (s t : AtExit (ended_of 3 lines_kinds.ps lines_kinds.r) κs)
    → lines_reads.Post κs a x s
    → lines_reads.Post κs a y t
    → (x ≡ y) × (s.1.0.now ≡ t.1.0.now) × (s.1.1.1.0.now ≡ t.1.1.1.0.now)
one_lock_lines κs a x y s t p q = let one = leaves_one p q in (one.0, one_state s.1.0.now t.1.0.now one.1, one.2)
