-- Each contract of the lister's public functions leaves one result: two results that meet it are equal, and what stands in the lent list at exit too. A theorem for each
-- function, named after it, of the contract itself: `Post` is what Rattle reads of the function's `ensures`. The contract of the lister gives the answer that its
-- result is numbered, and that can be undone (`list_back`).
-- Assumes nothing.
use mathlib.Core.Path.{◌≡◌, refl, sym, ap, ◌∙◌}
use mathlib.Core.Bool.{cond}
use mathlib.Core.List.{List}
use Prim.Native.Nat.{ℕ}
use lib.Dec.{eqb}
use Rattle.std.specs.Prelude.{Result, Ok, Err}
use contract.Lifetimes.{Lfts}
use borrow.Fn.Kinds.{Dens, res_t, ended_of}
use denote.Triple.Clauses.{AtExit}
use Rattle.reader.proofs.OneAnswer.{One}
use Rattle.verdicts.specs.Verdicts.{Listed}
use Rattle.lists.specs.Answers.{answered}
use Rattle.logs.specs.declared.Fault.TheVariants.{Length, Form, Turn, TooMany}
use Rattle.lists.specs.declared.Refusal.{Refusal}
use Rattle.lists.specs.declared.Refusal.TheVariants.{Log, NoOrder, Short}
use Rattle.lists.proofs.ListedLaws.{same_list}
use Rattle.lists.proofs.RefusalTold.code.Kinds as code_kinds
use Rattle.lists.proofs.RefusalTold.code.Reads as code_reads
use Rattle.lists.proofs.RefusalTold.place.Kinds as place_kinds
use Rattle.lists.proofs.RefusalTold.place.Reads as place_reads
use Rattle.lists.proofs.RefusalFromFault.from.Kinds as from_kinds
use Rattle.lists.proofs.RefusalFromFault.from.Reads as from_reads
use Rattle.lists.proofs.list_order.Kinds as list_kinds
use Rattle.lists.proofs.list_order.Reads as list_reads
use Rattle.lists.proofs.list_sheet.Kinds as sheet_kinds
use Rattle.lists.proofs.list_sheet.Reads as sheet_reads

-- the result of an answer
list_of : Listed → Result ℕ Refusal
list_of v =
    let c = v.code in
    cond (eqb c 0) (Ok v.place)
    (cond (eqb c 11) (Err (Log Length))
    (cond (eqb c 12) (Err (Log (Form v.place)))
    (cond (eqb c 13) (Err (Log (Turn v.place))) (cond (eqb c 14) (Err (Log (TooMany v.place))) (cond (eqb c 17) (Err NoOrder) (Err (Short v.place)))))))

list_back : (a : Result ℕ Refusal) (lent : List ℕ) → list_of (answered a lent) ≡ a
unfolding list_of
list_back (Ok n) lent = refl
list_back (Err (Log Length)) lent = refl
list_back (Err (Log (Form p))) lent = refl
list_back (Err (Log (Turn p))) lent = refl
list_back (Err (Log (TooMany p))) lent = refl
list_back (Err NoOrder) lent = refl
list_back (Err (Short n)) lent = refl

-- no two answers, with what stands in the list, are numbered the same
pub one_listing : {v : Listed} (a b : Result ℕ Refusal) (lent then : List ℕ) → answered a lent ≡ v → answered b then ≡ v → (a ≡ b) × (lent ≡ then)
one_listing a b lent then p q =
    let same = p ∙ sym q in
    (sym (list_back a lent) ∙ ap list_of same ∙ list_back b then, same_list a lent ∙ ap (λ (v : Listed). v.list) same ∙ sym (same_list b then))

-- what it returns, and the lent list at exit, its second parameter
pub one_list_order : (κs : Lfts 2) (a : Dens κs list_kinds.ps) (x y : (res_t list_kinds.r κs).Denot) (s t : AtExit (ended_of 2 list_kinds.ps list_kinds.r) κs)
    → list_reads.Post κs a x s
    → list_reads.Post κs a y t
    → (x ≡ y) × (s.1.0.now ≡ t.1.0.now)
one_list_order κs a x y s t p q = one_listing x y s.1.0.now t.1.0.now p q

pub one_list_sheet : (κs : Lfts 2) (a : Dens κs sheet_kinds.ps) (x y : (res_t sheet_kinds.r κs).Denot) (s t : AtExit (ended_of 2 sheet_kinds.ps sheet_kinds.r) κs)
    → sheet_reads.Post κs a x s
    → sheet_reads.Post κs a y t
    → (x ≡ y) × (s.1.0.now ≡ t.1.0.now)
one_list_sheet κs a x y s t p q = one_listing x y s.1.0.now t.1.0.now p q

-- the code and the place of a refusal, and the refusal that a fault of the log is
pub one_listed_code : One 0 code_kinds.ps code_kinds.r code_reads.Post
one_listed_code κs a x y s t p q = p ∙ sym q

pub one_listed_place : One 0 place_kinds.ps place_kinds.r place_reads.Post
one_listed_place κs a x y s t p q = p ∙ sym q

pub one_listed_from : One 0 from_kinds.ps from_kinds.r from_reads.Post
one_listed_from κs a x y s t p q = p ∙ sym q
