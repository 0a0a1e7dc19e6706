-- Each contract of the crate's public functions leaves one result: two results that meet it are equal, and what stands in the lent bytes at exit too. A theorem for each
-- function, named after it, of the contract itself: `Post` is what Rattle reads of the function's `ensures`. The contract of the writer gives the answer that its
-- result is numbered, and that can be undone (`written_back`).
-- Assumes nothing.
use Rattle.std.proofs.Common.{◌≡◌, ℕ, List, cond, eqb, refl, sym, ap, ◌∙◌}
use Rattle.std.specs.declared.result.Result.{Result}
use Rattle.std.specs.declared.result.Result.TheVariants.{Ok, Err}
use contract.Lifetimes.{Lfts}
use borrow.Fn.Kinds.{Dens, res_t, ended_of}
use denote.Triple.Clauses.{AtExit}
use Rattle.blocks.specs.Blocks.{Filled}
use Rattle.sums.proofs.OneAnswer.{One}
use Rattle.blockwriter.specs.Answers.{numbered}
use Rattle.blockwriter.specs.declared.Unwritten.{Unwritten}
use Rattle.blockwriter.specs.declared.Unwritten.TheVariants.{Length, Short}
use Rattle.blockwriter.proofs.UnwrittenTold.code.Kinds as code_kinds
use Rattle.blockwriter.proofs.UnwrittenTold.code.Reads as code_reads
use Rattle.blockwriter.proofs.UnwrittenTold.place.Kinds as place_kinds
use Rattle.blockwriter.proofs.UnwrittenTold.place.Reads as place_reads
use Rattle.blockwriter.proofs.write_blocks.Kinds as write_kinds
use Rattle.blockwriter.proofs.write_blocks.Reads as write_reads

-- the result of an answer
written_of : Filled → Result ℕ Unwritten
written_of a = let c = a.code in cond (eqb c 0) (Ok a.place) (cond (eqb c 11) (Err Length) (Err Short))

written_back : (w : Result ℕ Unwritten) (lent : List ℕ) → written_of (numbered w lent) ≡ w
unfolding written_of
written_back (Ok n) lent = refl
written_back (Err Length) lent = refl
written_back (Err Short) lent = refl

pub one_written_code : One 0 code_kinds.ps code_kinds.r code_reads.Post
one_written_code κs a x y s t p q = p ∙ sym q

pub one_written_place : One 0 place_kinds.ps place_kinds.r place_reads.Post
one_written_place κs a x y s t p q = p ∙ sym q

-- what it returns, and the lent bytes at exit, its second parameter
pub one_write_blocks : (κs : Lfts 2) (a : Dens κs write_kinds.ps) (x y : (res_t write_kinds.r κs).Denot) (s t : AtExit (ended_of 2 write_kinds.ps write_kinds.r) κs)
    → write_reads.Post κs a x s
    → write_reads.Post κs a y t
    → (x ≡ y) × (s.1.0.now ≡ t.1.0.now)
one_write_blocks κs a x y s t p q =
    let same = p ∙ sym q in
    (sym (written_back x s.1.0.now) ∙ ap written_of same ∙ written_back y t.1.0.now, ap (λ (f : Filled). f.bytes) same)
