-- The words in which the theorems of proofs/ParseLaws.antt are said.
-- Assumes nothing.
use Rattle.std.specs.Prelude.{List, ℕ}
use Rattle.history.specs.Events.{History}
use Rattle.notation.specs.Notation.{Says, Wrong}
use Rattle.notation.specs.Parse.{Parsed, wrong, says}

pub data Read (t : List ℕ) : Parsed → Type 0 where
  said : {h : History} → Says t h → Read t (says h)
  gone_wrong : {p : ℕ} → Wrong t p → Read t (wrong p)
