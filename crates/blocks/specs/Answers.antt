-- What the answers of the writer and of the reader mean, code by code: the words in which Promises speaks. That the definitions of Blocks come to this is proved in RunLaws.
-- Assumes nothing.
use Rattle.std.specs.Prelude.{◌≡◌, ◌⊎◌, List, ℕ, ◌/◌, ◌%◌, ◌≤◌, ◌<◌, length}
use Rattle.std.proofs.Math.Option.{none, some}
use Rattle.blocks.specs.Blocks.{blocks_of, fault, fault_in, block_at, Filled, refused, done}

-- a log here: whole records of any content, 4,096 of them at most
pub record Log (log : List ℕ) : Type 0 where
  pub whole : length log % 8 ≡ 0
  pub few : length log ≤ 32768

-- the writer
pub data Wrote (log lent : List ℕ) : Filled → Type 0 where
  bad_length : (length log % 8 ≡ 0 → ⊥) ⊎ (32768 < length log) → Wrote log lent (refused 11 0 lent)
  no_room : Log log → length lent < length (blocks_of log) → Wrote log lent (refused 24 0 lent)
  written : Log log → length (blocks_of log) ≤ length lent → Wrote log lent (done (blocks_of log) lent)

-- the lowest faulty one among the first m of n blocks has place k and code c
pub record Lowest (n : ℕ) (run : List ℕ) (m c k : ℕ) : Type 0 where
  pub inside : k < m
  pub none_below : (j : ℕ) → j < k → fault_in n j (block_at j run) ≡ none
  pub this : fault_in n k (block_at k run) ≡ some (fault c k)
  pub coded : (c ≡ 22) ⊎ (c ≡ 23)

-- the reader
pub data Answered (run lent : List ℕ) : Filled → Type 0 where
  bad_length : (length run % 512 ≡ 0 → ⊥) ⊎ (34304 < length run) → Answered run lent (refused 21 0 lent)
  bad_block : {c k : ℕ} → length run % 512 ≡ 0 → length run ≤ 34304 → Lowest (length run / 512) run (length run / 512) c k → Answered run lent (refused c k lent)
  no_room : (log : List ℕ) → Log log → run ≡ blocks_of log → length lent < length log → Answered run lent (refused 24 0 lent)
  reads : (log : List ℕ) → Log log → run ≡ blocks_of log → length log ≤ length lent → Answered run lent (done log lent)
