-- The words in which the theorems of proofs/Promises.antt are said.
-- Assumes nothing.
use Rattle.std.specs.Prelude.{◌≡◌, List, ℕ, ◌≤◌, length}
use Rattle.blocks.specs.Blocks.{Filled}

-- a place of import is at most 32,768, but that of 26 can be as high as the text is long
pub record SmallImport (text : List ℕ) (a : Filled) : Type 0 where
  pub code : a.code ≤ 26
  pub place : (a.code ≡ 26 → ⊥) → a.place ≤ 32_768
  pub of_form : a.code ≡ 26 → a.place ≤ length text

-- a place of export is at most 69,631
pub record SmallExport (a : Filled) : Type 0 where
  pub code : a.code ≤ 27
  pub place : a.place ≤ 69_631
