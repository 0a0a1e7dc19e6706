-- Each contract leaves one result, whatever answer it is given: two results that meet it are equal. A theorem for each function, of the contract itself: `Post` is what Rattle reads of the function's
-- `ensures`. What `Told` asks of the methods of any other type is an equation too, and a theorem of the crate that has the type.
-- Assumes nothing.
use Rattle.std.proofs.Common.{◌≡◌, ℕ, List, sym, ◌∙◌}
use contract.Lifetimes.{Lfts}
use borrow.Fn.Kind.{ParamKind, ResultKind}
use borrow.Fn.Kinds.{Out, Dens, res_t, ended_of}
use denote.RattleType.{RattleType}
use denote.Param.Laws.{Laws, IsCopy}
use denote.Triple.Clauses.{AtExit}
use mir.Syntax.{Dict}
use Rattle.codes.specs.declared.Told
use Rattle.std.specs.declared.clone.Clone
use Rattle.codes.proofs.ResultUsizeTold.code.Kinds as code_kinds
use Rattle.codes.proofs.ResultUsizeTold.code.Reads as code_reads
use Rattle.codes.proofs.ResultUsizeTold.place.Kinds as place_kinds
use Rattle.codes.proofs.ResultUsizeTold.place.Reads as place_reads
use Rattle.codes.proofs.in_one.Kinds as in_one_kinds
use Rattle.codes.proofs.in_one.Reads as in_one_reads

-- two results at the same arguments are equal; n lifetimes
abbrev pub One : (n : ℕ) (ps : List (ParamKind n)) (r : ResultKind n) → Out n ps r → Type 0
One n ps r P = (κs : Lfts n) (a : Dens κs ps) (x y : (res_t r κs).Denot) (s t : AtExit (ended_of n ps r) κs) → P κs a x s → P κs a y t → x ≡ y

-- of the `Result` of any refusal that is `Told`
pub one_code : (T : RattleType) (L : Laws T) (C : IsCopy T) (g : Told.Ghosts T.Denot) (d : Dict) (h : Clone.Ghosts T.Denot) (e : Dict)
    → One 1 (code_kinds.ps T L C) (code_kinds.r T L C) (code_reads.Post T L C g d h e)
one_code T L C g d h e κs a x y s t p q = p ∙ sym q

pub one_place : (T : RattleType) (L : Laws T) (C : IsCopy T) (g : Told.Ghosts T.Denot) (d : Dict) (h : Clone.Ghosts T.Denot) (e : Dict)
    → One 1 (place_kinds.ps T L C) (place_kinds.r T L C) (place_reads.Post T L C g d h e)
one_place T L C g d h e κs a x y s t p q = p ∙ sym q

-- of any type that is `Told`
pub one_in_one : (T : RattleType) (L : Laws T) (C : IsCopy T) (g : Told.Ghosts T.Denot) (d : Dict) (h : Clone.Ghosts T.Denot) (e : Dict)
    → One 1 (in_one_kinds.ps T L C) (in_one_kinds.r T L C) (in_one_reads.Post T L C g d h e)
one_in_one T L C g d h e κs a x y s t p q = p ∙ sym q
