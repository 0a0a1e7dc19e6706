-- The words in which the theorems of proofs/Promises.antt are said.
-- Assumes nothing.
use Rattle.std.specs.Prelude.{◌≤◌}
use Rattle.blocks.specs.Blocks.{Filled}

pub record Small (a : Filled) : Type 0 where
  pub code : a.code ≤ 24
  pub place : a.place ≤ 34304
