-- Each contract of the crate's public functions leaves one result: two results that meet it are equal, and so are the two contents of the lent buffer. A theorem
-- for each function, named after it, of the contract itself: `Post` is what Rattle reads of the function's `ensures`.
-- Assumes nothing.
use mathlib.Core.Path.{◌≡◌}
use contract.Lifetimes.{Lfts}
use borrow.Fn.Kinds.{Dens, res_t, ended_of}
use denote.Triple.Clauses.{AtExit}
use Rattle.text.specs.LaysLaws.{lays_one}
use Rattle.text.proofs.put_text.Kinds as put_text_kinds
use Rattle.text.proofs.put_text.Reads as put_text_reads
use Rattle.text.proofs.put_number.Kinds as put_number_kinds
use Rattle.text.proofs.put_number.Reads as put_number_reads

pub one_put_text : (κs : Lfts 2) (a : Dens κs put_text_kinds.ps) (x y : (res_t put_text_kinds.r κs).Denot)
    (s t : AtExit (ended_of 2 put_text_kinds.ps put_text_kinds.r) κs)
    → put_text_reads.Post κs a x s
    → put_text_reads.Post κs a y t
    → (x ≡ y) × (s.1.0.now ≡ t.1.0.now)
one_put_text κs a x y s t p q = lays_one p q

pub one_put_number : (κs : Lfts 1) (a : Dens κs put_number_kinds.ps) (x y : (res_t put_number_kinds.r κs).Denot)
    (s t : AtExit (ended_of 1 put_number_kinds.ps put_number_kinds.r) κs)
    → put_number_reads.Post κs a x s
    → put_number_reads.Post κs a y t
    → (x ≡ y) × (s.1.0.now ≡ t.1.0.now)
one_put_number κs a x y s t p q = lays_one p q
