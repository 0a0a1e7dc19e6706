-- What the contracts of the reader say: the code and place of each answer, and what the functions that it is made of leave.
-- Assumes nothing.
use Rattle.std.specs.Prelude.{◌≡◌, List, ℕ, ◌*◌, ◌≤◌, length}
use Rattle.std.proofs.Math.Option.{Option, none, some}
use Rattle.std.specs.declared.result.Result.{Result}
use Rattle.std.specs.declared.result.Result.TheVariants.{Ok, Err}
use Rattle.codes.specs.Codes.{code_in, place_in}
use Rattle.blocks.specs.Blocks.{Fault, fault, lowest_fault, Filled}
use Rattle.blockreader.specs.declared.Unread.{Unread}
use Rattle.blockreader.specs.declared.Unread.TheVariants.{Length, Sums, Form, Short}

-- document 02's code of each refusal
abbrev pub code_of : Unread → ℕ
code_of Length = 21
code_of (Sums k) = 22
code_of (Form k) = 23
code_of Short = 24

-- the block that has the fault, and 0 where it is none of a block
abbrev pub block_of : Unread → ℕ
block_of Length = 0
block_of (Sums k) = k
block_of (Form k) = k
block_of Short = 0

-- the code and place of each answer, 0 and the count of the log's bytes or a refusal's, with what then stands in the lent bytes
abbrev pub answered : Result ℕ Unread → List ℕ → Filled
answered r lent = record { code = code_in code_of r; place = place_in block_of r; bytes = lent }

-- the fault that was found
abbrev pub fault_of : Result (Unit {0}) Unread → Option Fault
fault_of (Ok _) = none
fault_of (Err e) = some (fault (code_of e) (block_of e))

-- n blocks without fault
pub record Unfaulted (n : ℕ) (blocks : List ℕ) : Type 0 where
  pub whole : length blocks ≡ 512 * n
  pub few : n ≤ 67
  pub none_found : lowest_fault n blocks n ≡ none
