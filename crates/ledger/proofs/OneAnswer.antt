-- Each contract of the exports leaves one result: two results that meet it are equal, and what stands in the lent bytes at exit too. A theorem for each
-- function, named after it, of the contract itself: `Post` is what Rattle reads of the function's `ensures`.
-- Assumes nothing.
use mathlib.Core.Path.{◌≡◌, sym, ◌∙◌}
use contract.Lifetimes.{Lfts}
use borrow.Fn.Kinds.{Dens, res_t, ended_of}
use denote.Triple.Clauses.{AtExit}
use Rattle.ledger.proofs.reedtangle_write_blocks.Kinds as export_write_kinds
use Rattle.ledger.proofs.reedtangle_write_blocks.Reads as export_write_reads
use Rattle.ledger.proofs.reedtangle_read_blocks.Kinds as export_read_kinds
use Rattle.ledger.proofs.reedtangle_read_blocks.Reads as export_read_reads

-- what they return, and the lent bytes at exit, their second parameter
pub one_export_write_blocks : (κs : Lfts 2) (a : Dens κs export_write_kinds.ps) (x y : (res_t export_write_kinds.r κs).Denot) (s t : AtExit (ended_of 2 export_write_kinds.ps export_write_kinds.r) κs)
    → export_write_reads.Post κs a x s
    → export_write_reads.Post κs a y t
    → (x ≡ y) × (s.1.0.now ≡ t.1.0.now)
one_export_write_blocks κs a x y s t p q = (p.0 ∙ sym q.0, p.1 ∙ sym q.1)

pub one_export_read_blocks : (κs : Lfts 2) (a : Dens κs export_read_kinds.ps) (x y : (res_t export_read_kinds.r κs).Denot) (s t : AtExit (ended_of 2 export_read_kinds.ps export_read_kinds.r) κs)
    → export_read_reads.Post κs a x s
    → export_read_reads.Post κs a y t
    → (x ≡ y) × (s.1.0.now ≡ t.1.0.now)
one_export_read_blocks κs a x y s t p q = (p.0 ∙ sym q.0, p.1 ∙ sym q.1)
