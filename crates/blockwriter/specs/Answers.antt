-- What the contracts of the writer say: the code and place of each answer, with what then stands in the lent bytes.
-- Assumes nothing.
use Rattle.std.specs.Prelude.{List, ℕ}
use Rattle.std.specs.declared.result.Result.{Result}
use Rattle.codes.specs.Codes.{code_in, place_in}
use Rattle.blocks.specs.Blocks.{Filled}
use Rattle.blockwriter.specs.declared.Unwritten.{Unwritten}
use Rattle.blockwriter.specs.declared.Unwritten.TheVariants.{Length, Short}

-- document 02's code of each refusal
abbrev pub code_of : Unwritten → ℕ
code_of Length = 11
code_of Short = 24

-- the code and place of each answer: 0 and the count of bytes written, or a refusal's code and 0
abbrev pub numbered : Result ℕ Unwritten → List ℕ → Filled
numbered w lent = record { code = code_in code_of w; place = place_in (λ _. 0) w; bytes = lent }
