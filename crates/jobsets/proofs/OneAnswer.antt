-- Each contract of the crate's public functions leaves one result: two results that meet it are equal, and what stands in the lent table at exit too. A theorem for each
-- function, named after it, of the contract itself: `Post` is what Rattle reads of the function's `ensures`.
-- Assumes nothing.
use mathlib.Core.Path.{◌≡◌, refl, ap}
use mathlib.Core.Logic.{⊎_elim}
use mathlib.Core.Bool.{Bool, true, false}
use mathlib.Core.List.{List}
use Prim.Native.Nat.{ℕ}
use native.Mathlib.Omega.{arith}
use contract.Lifetimes.{Lfts}
use borrow.Fn.Kinds.{Dens, res_t, ended_of}
use denote.Triple.Clauses.{AtExit}
use Rattle.std.specs.Prelude.{Option, None, Some}
use Rattle.graph.specs.Decide.{answer, eq_test, lt_test, false_is, true_is}
use Rattle.reader.proofs.OneAnswer.{One}
use Rattle.jobsets.specs.Gains.{LowestOf}
use Rattle.jobsets.specs.GainLaws.{gains_one}
use Rattle.jobsets.proofs.lowest_mark.Kinds as lowest_kinds
use Rattle.jobsets.proofs.lowest_mark.Reads as lowest_reads
use Rattle.jobsets.proofs.join_before.Kinds as join_kinds
use Rattle.jobsets.proofs.join_before.Reads as join_reads

-- a mark is not both
clash : {b : Bool} → b ≡ true → b ≡ false → ⊥
clash p q = false_is q (true_is p)

-- a mark is the lowest of none, or of all
one_lowest : (words : List ℕ) (x y : Option ℕ) → LowestOf words x → LowestOf words y → x ≡ y
one_lowest words None None p q = refl
one_lowest words None (Some s) p q = absurd (clash q.1 (p s q.0))
one_lowest words (Some r) None p q = absurd (clash p.1 (q r p.0))
one_lowest words (Some r) (Some s) p q =
    ⊎_elim (λ e. ap Some e)
    (λ f. ⊎_elim (λ l. absurd (clash p.1 (q.2 r l))) (λ g. absurd (clash q.1 (p.2 s (omega (arith, f, g))))) (answer (lt_test r s)))
    (answer (eq_test r s))

pub one_lowest_mark : One 1 lowest_kinds.ps lowest_kinds.r lowest_reads.Post
one_lowest_mark κs a x y s t p q = one_lowest a.0.now x y p q

-- the lent table at exit, its first parameter
pub one_join_before : (κs : Lfts 2) (a : Dens κs join_kinds.ps) (x y : (res_t join_kinds.r κs).Denot) (s t : AtExit (ended_of 2 join_kinds.ps join_kinds.r) κs)
    → join_reads.Post κs a x s
    → join_reads.Post κs a y t
    → s.0.now ≡ t.0.now
one_join_before κs a x y s t p q = gains_one p q
