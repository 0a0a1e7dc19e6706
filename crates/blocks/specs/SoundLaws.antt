-- The words in which the theorems of proofs/SoundLaws.antt are said.
-- Assumes nothing.
use Rattle.std.specs.Prelude.{◌≡◌, ℕ, suc, ◌+◌, ◌*◌, ◌≤◌, ◌<◌, eqb}
use Rattle.std.proofs.Math.Bool.{cond}
use mathlib.Core.List.{List}
use Rattle.std.proofs.Math.ListN.{length, take, drop, replicate}
use Rattle.history.specs.Formats.{bytes_of}
use Rattle.blocks.specs.Blocks.{sums, count_in}

-- the most records that the last block can have
abbrev pub room : ℕ → ℕ
room k = cond (eqb k 66) 4 62

pub record Count (n k c : ℕ) : Type 0 where
  pub before : suc k < n → c ≡ 62
  pub some_last : n ≤ suc k → 1 ≤ c
  pub most_last : n ≤ suc k → c ≤ room k

pub record Sound (n k : ℕ) (b : List ℕ) : Type 0 where
  pub sums_right : drop 504 b ≡ sums (take 504 b)
  pub number_right : take 4 b ≡ bytes_of 4 k
  pub count_right : Count n k (count_in b)
  pub zeros_right : let z = take 2 (drop 6 b) in z ≡ replicate (length z) 0
  pub unused_right : let u = drop (8 + 8 * count_in b) (take 504 b) in u ≡ replicate (length u) 0
