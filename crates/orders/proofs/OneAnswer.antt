-- Each contract of the crate's public functions leaves one result: two results that meet it are equal, and what stands in the lent list at exit too. A theorem for each
-- function, named after it, of the contract itself: `Post` is what Rattle reads of the function's `ensures`. Those of the functions that are handed on as they are stand where these do.
-- Assumes nothing.
use mathlib.Core.Path.{◌≡◌, sym, ◌∙◌}
use contract.Lifetimes.{Lfts}
use borrow.Fn.Kinds.{Dens, res_t, ended_of}
use denote.Triple.Clauses.{AtExit}
use Rattle.reader.proofs.OneAnswer.{One}
pub use Rattle.checks.proofs.OneAnswer.{one_check_order}
pub use Rattle.lists.proofs.OneList.{one_list_order, one_list_sheet}
use Rattle.orders.proofs.reedtangle_check_order.Kinds as export_check_kinds
use Rattle.orders.proofs.reedtangle_check_order.Reads as export_check_reads
use Rattle.orders.proofs.reedtangle_list_order.Kinds as export_list_kinds
use Rattle.orders.proofs.reedtangle_list_order.Reads as export_list_reads
use Rattle.orders.proofs.reedtangle_list_sheet.Kinds as export_sheet_kinds
use Rattle.orders.proofs.reedtangle_list_sheet.Reads as export_sheet_reads

pub one_export_check_order : One 2 export_check_kinds.ps export_check_kinds.r export_check_reads.Post
one_export_check_order κs a x y s t p q = p ∙ sym q

-- the listers: what each returns, and the lent list at exit, its second parameter
pub one_export_list_order : (κs : Lfts 2) (a : Dens κs export_list_kinds.ps) (x y : (res_t export_list_kinds.r κs).Denot) (s t : AtExit (ended_of 2 export_list_kinds.ps export_list_kinds.r) κs)
    → export_list_reads.Post κs a x s
    → export_list_reads.Post κs a y t
    → (x ≡ y) × (s.1.0.now ≡ t.1.0.now)
one_export_list_order κs a x y s t p q = (p.0 ∙ sym q.0, p.1 ∙ sym q.1)

pub one_export_list_sheet : (κs : Lfts 2) (a : Dens κs export_sheet_kinds.ps) (x y : (res_t export_sheet_kinds.r κs).Denot) (s t : AtExit (ended_of 2 export_sheet_kinds.ps export_sheet_kinds.r) κs)
    → export_sheet_reads.Post κs a x s
    → export_sheet_reads.Post κs a y t
    → (x ≡ y) × (s.1.0.now ≡ t.1.0.now)
one_export_list_sheet κs a x y s t p q = (p.0 ∙ sym q.0, p.1 ∙ sym q.1)
