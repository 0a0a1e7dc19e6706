-- Each contract of the crate's public functions leaves one result: two results that meet it are equal, and what stands in the lent bytes at exit too. A theorem for each
-- function, named after it, of the contract itself: `Post` is what Rattle reads of the function's `ensures`. The contract of the reader gives the answer that its
-- result is numbered, and that can be undone (`read_back`).
-- Assumes nothing.
use Rattle.std.proofs.Common.{◌≡◌, ℕ, List, cond, eqb, refl, sym, ap, ◌∙◌}
use Rattle.std.specs.declared.result.Result.{Result}
use Rattle.std.specs.declared.result.Result.TheVariants.{Ok, Err}
use contract.Lifetimes.{Lfts}
use borrow.Fn.Kinds.{Dens, res_t, ended_of}
use denote.Triple.Clauses.{AtExit}
use Rattle.blocks.specs.Blocks.{Filled}
use Rattle.sums.proofs.OneAnswer.{One}
use Rattle.blockreader.specs.Answers.{answered}
use Rattle.blockreader.specs.declared.Unread.{Unread}
use Rattle.blockreader.specs.declared.Unread.TheVariants.{Length, Sums, Form, Short}
use Rattle.blockreader.proofs.UnreadTold.code.Kinds as code_kinds
use Rattle.blockreader.proofs.UnreadTold.code.Reads as code_reads
use Rattle.blockreader.proofs.UnreadTold.place.Kinds as place_kinds
use Rattle.blockreader.proofs.UnreadTold.place.Reads as place_reads
use Rattle.blockreader.proofs.read_blocks.Kinds as read_kinds
use Rattle.blockreader.proofs.read_blocks.Reads as read_reads

-- the result of an answer
read_of : Filled → Result ℕ Unread
read_of a =
    let c = a.code in
    cond (eqb c 0) (Ok a.place)
    (cond (eqb c 21) (Err Length) (cond (eqb c 22) (Err (Sums a.place)) (cond (eqb c 23) (Err (Form a.place)) (Err Short))))

read_back : (r : Result ℕ Unread) (lent : List ℕ) → read_of (answered r lent) ≡ r
unfolding read_of
read_back (Ok n) lent = refl
read_back (Err Length) lent = refl
read_back (Err (Sums k)) lent = refl
read_back (Err (Form k)) lent = refl
read_back (Err Short) lent = refl

pub one_read_code : One 0 code_kinds.ps code_kinds.r code_reads.Post
one_read_code κs a x y s t p q = p ∙ sym q

pub one_read_place : One 0 place_kinds.ps place_kinds.r place_reads.Post
one_read_place κs a x y s t p q = p ∙ sym q

-- what it returns, and the lent bytes at exit, its second parameter
pub one_read_blocks : (κs : Lfts 2) (a : Dens κs read_kinds.ps) (x y : (res_t read_kinds.r κs).Denot) (s t : AtExit (ended_of 2 read_kinds.ps read_kinds.r) κs)
    → read_reads.Post κs a x s
    → read_reads.Post κs a y t
    → (x ≡ y) × (s.1.0.now ≡ t.1.0.now)
one_read_blocks κs a x y s t p q =
    let same = p ∙ sym q in
    (sym (read_back x s.1.0.now) ∙ ap read_of same ∙ read_back y t.1.0.now, ap (λ (f : Filled). f.bytes) same)
