-- Each contract of the crate leaves one result: two results that meet it are equal. A theorem for each function, named after it, of the contract
-- itself: `Post` is what Rattle reads of the function's `ensures`.
-- Assumes nothing.
use mathlib.Core.Path.{◌≡◌, refl, sym, ap, ◌∙◌}
use mathlib.Core.List.{List}
use Prim.Native.Nat.{ℕ}
use Rattle.std.specs.Prelude.{Result, Ok, Err}
use Rattle.std.specs.Result.{OkIff}
use contract.Lifetimes.{Lfts}
use borrow.Fn.Kind.{ParamKind, ResultKind}
use borrow.Fn.Kinds.{Out, Dens, res_t, ended_of}
use denote.Triple.Clauses.{AtExit}
use Rattle.cells.specs.declared.Cell.{Cell}
use Rattle.cells.specs.declared.CellSet.{CellSet}
use Rattle.cells.specs.declared.NoSuchCell.{NoSuchCell}
use Rattle.cells.proofs.Cell.mark.Kinds as mark_kinds
use Rattle.cells.proofs.Cell.mark.Reads as mark_reads
use Rattle.cells.proofs.Cell.place.Kinds as place_kinds
use Rattle.cells.proofs.Cell.place.Reads as place_reads
use Rattle.cells.proofs.CellTryFromU32.try_from.Kinds as try_from_kinds
use Rattle.cells.proofs.CellTryFromU32.try_from.Reads as try_from_reads
use Rattle.cells.proofs.CellSet.has.Kinds as has_kinds
use Rattle.cells.proofs.CellSet.has.Reads as has_reads
use Rattle.cells.proofs.CellSet.is_empty.Kinds as is_empty_kinds
use Rattle.cells.proofs.CellSet.is_empty.Reads as is_empty_reads
use Rattle.cells.proofs.CellSet.none.Kinds as none_kinds
use Rattle.cells.proofs.CellSet.none.Reads as none_reads
use Rattle.cells.proofs.CellSet.overlaps.Kinds as overlaps_kinds
use Rattle.cells.proofs.CellSet.overlaps.Reads as overlaps_reads
use Rattle.cells.proofs.CellSet.union.Kinds as union_kinds
use Rattle.cells.proofs.CellSet.union.Reads as union_reads
use Rattle.cells.proofs.CellSet.with.Kinds as with_kinds
use Rattle.cells.proofs.CellSet.with.Reads as with_reads

-- two results at the same arguments are equal; n lifetimes
abbrev pub One : (n : ℕ) (ps : List (ParamKind n)) (r : ResultKind n) → Out n ps r → Type 0
One n ps r P = (κs : Lfts n) (a : Dens κs ps) (x y : (res_t r κs).Denot) (s t : AtExit (ended_of n ps r) κs) → P κs a x s → P κs a y t → x ≡ y

-- sets of the same words are equal
same_set : {ws : List ℕ} (r s : CellSet) → r.words ≡ ws → s.words ≡ ws → r ≡ s
same_set r s p q = ap (λ (ws : List ℕ). record { words = ws }) (p ∙ sym q)

-- a value where P holds and the one error where it does not
one_outcome : (P : Type 0) (c : Cell) (r s : Result Cell NoSuchCell) → OkIff r P c → OkIff s P c → r ≡ s
one_outcome P c (Ok x) (Ok y) p q = ap Ok (p.1 ∙ sym q.1)
one_outcome P c (Ok x) (Err e) p q = absurd (q p.0)
one_outcome P c (Err e) (Ok y) p q = absurd (p q.0)
one_outcome P c (Err e) (Err f) p q = refl

pub one_try_from : One 0 try_from_kinds.ps try_from_kinds.r try_from_reads.Post
one_try_from κs a x y s t p q = one_outcome _ _ x y p q

pub one_place : One 0 place_kinds.ps place_kinds.r place_reads.Post
one_place κs a x y s t p q = p ∙ sym q

pub one_mark : One 0 mark_kinds.ps mark_kinds.r mark_reads.Post
one_mark κs a x y s t p q = p ∙ sym q

pub one_none : One 0 none_kinds.ps none_kinds.r none_reads.Post
one_none κs a x y s t p q = same_set x y p q

pub one_has : One 0 has_kinds.ps has_kinds.r has_reads.Post
one_has κs a x y s t p q = p ∙ sym q

pub one_with : One 0 with_kinds.ps with_kinds.r with_reads.Post
one_with κs a x y s t p q = same_set x y p q

pub one_union : One 0 union_kinds.ps union_kinds.r union_reads.Post
one_union κs a x y s t p q = same_set x y p q

pub one_overlaps : One 0 overlaps_kinds.ps overlaps_kinds.r overlaps_reads.Post
one_overlaps κs a x y s t p q = p ∙ sym q

pub one_is_empty : One 0 is_empty_kinds.ps is_empty_kinds.r is_empty_reads.Post
one_is_empty κs a x y s t p q = p ∙ sym q
