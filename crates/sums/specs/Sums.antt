-- What the contracts say of words and sums, and what bytes are when a run of others is put down among them.
-- Assumes nothing.
use Rattle.std.specs.Prelude.{◌≡◌, ℕ, ◌+◌, ◌%◌, ◌<◌, ◌≤◌, List, ◌++◌, length, take, drop}
use Rattle.history.specs.Formats.{bytes_of}
use Rattle.blocks.specs.Blocks.{words, total, running}

-- r is the number of the four bytes at a place, and 0 where fewer stand there
pub record WordAt (bytes : List ℕ) (at r : ℕ) : Type 0 where
  pub there : at + 4 ≤ length bytes → bytes_of 4 r ≡ take 4 (drop at bytes)
  pub past : length bytes < at + 4 → r ≡ 0
  pub small : r < 4294967296

-- the sum of the words, and the sum of their running sums, modulo 2 ^ 32
pub record AddsUp (bytes : List ℕ) (first second : ℕ) : Type 0 where
  pub of_words : first ≡ total (words bytes) % 4294967296
  pub of_sums : second ≡ total (running 0 (words bytes)) % 4294967296

-- bytes, with a run of others put down from a place on
abbrev pub with_run : List ℕ → ℕ → List ℕ → List ℕ
with_run bytes at run = take at bytes ++ run ++ drop (at + length run) bytes
