-- Each contract of the crate's public functions leaves one result: two results that meet it are equal, and what stands in the lent bytes at exit too. A theorem for each
-- function, named after it, of the contract itself: `Post` is what Rattle reads of the function's `ensures`. The contract of the exporter gives the answer that its result is
-- numbered, and that can be undone (`answer_back`).
-- Assumes nothing.
use mathlib.Core.Path.{◌≡◌, refl, sym, ap, ◌∙◌}
use mathlib.Core.Bool.{cond}
use mathlib.Core.List.{List}
use Prim.Native.Nat.{ℕ}
use lib.Dec.{eqb}
use Rattle.std.specs.Prelude.{Result, Ok, Err}
use contract.Lifetimes.{Lfts}
use borrow.Fn.Kinds.{Dens, res_t, ended_of}
use denote.Triple.Clauses.{AtExit}
use Rattle.reader.proofs.OneAnswer.{One}
use Rattle.blocks.specs.Blocks.{Filled}
use Rattle.logs.specs.declared.Fault.TheVariants.{Length, Form, Turn, TooMany}
use Rattle.exporter.specs.Exporter.{answered}
use Rattle.exporter.specs.declared.Refusal.{Refusal}
use Rattle.exporter.specs.declared.Refusal.TheVariants.{Log, Add, NoRoom}
use Rattle.exporter.proofs.RefusalFromFault.from.Kinds as from_kinds
use Rattle.exporter.proofs.RefusalFromFault.from.Reads as from_reads
use Rattle.exporter.proofs.RefusalTold.code.Kinds as code_kinds
use Rattle.exporter.proofs.RefusalTold.code.Reads as code_reads
use Rattle.exporter.proofs.RefusalTold.place.Kinds as place_kinds
use Rattle.exporter.proofs.RefusalTold.place.Reads as place_reads
use Rattle.exporter.proofs.export_log.Kinds as log_kinds
use Rattle.exporter.proofs.export_log.Reads as log_reads
use Rattle.exporter.proofs.reedtangle_export.Kinds as export_kinds
use Rattle.exporter.proofs.reedtangle_export.Reads as export_reads

pub one_from : One 0 from_kinds.ps from_kinds.r from_reads.Post
one_from κs a x y s t p q = p ∙ sym q

pub one_code : One 0 code_kinds.ps code_kinds.r code_reads.Post
one_code κs a x y s t p q = p ∙ sym q

pub one_place : One 0 place_kinds.ps place_kinds.r place_reads.Post
one_place κs a x y s t p q = p ∙ sym q

-- the result of an answer
result_of : Filled → Result ℕ Refusal
result_of a =
    let c = a.code in
    let p = a.place in
    cond (eqb c 0) (Ok p)
    (cond (eqb c 11) (Err (Log Length)) (cond (eqb c 12) (Err (Log (Form p))) (cond (eqb c 13) (Err (Log (Turn p))) (cond (eqb c 14) (Err (Log (TooMany p))) (cond (eqb c 27) (Err (Add p)) (Err NoRoom))))))

answer_back : (r : Result ℕ Refusal) (lent : List ℕ) → result_of (answered r lent) ≡ r
unfolding result_of
answer_back (Ok n) lent = refl
answer_back (Err (Log Length)) lent = refl
answer_back (Err (Log (Form p))) lent = refl
answer_back (Err (Log (Turn p))) lent = refl
answer_back (Err (Log (TooMany p))) lent = refl
answer_back (Err (Add p)) lent = refl
answer_back (Err NoRoom) lent = refl

-- what it returns, and the lent bytes at exit, its second parameter
pub one_export_log : (κs : Lfts 2) (a : Dens κs log_kinds.ps) (x y : (res_t log_kinds.r κs).Denot) (s t : AtExit (ended_of 2 log_kinds.ps log_kinds.r) κs)
    → log_reads.Post κs a x s
    → log_reads.Post κs a y t
    → (x ≡ y) × (s.1.0.now ≡ t.1.0.now)
one_export_log κs a x y s t p q =
    let same = p ∙ sym q in (
      sym (answer_back x s.1.0.now) ∙ ap result_of same ∙ answer_back y t.1.0.now,
      ap (λ (f : Filled). f.bytes) same,
    )

-- and the lent number, its third
pub one_export : (κs : Lfts 3) (a : Dens κs export_kinds.ps) (x y : (res_t export_kinds.r κs).Denot) (s t : AtExit (ended_of 3 export_kinds.ps export_kinds.r) κs)
    → export_reads.Post κs a x s
    → export_reads.Post κs a y t
    → (x ≡ y) × (s.1.0.now ≡ t.1.0.now) × (s.1.1.0.now ≡ t.1.1.0.now)
one_export κs a x y s t p q = let same = p ∙ sym q in (λ i. (same i).code, λ i. (same i).bytes, λ i. (same i).place)
