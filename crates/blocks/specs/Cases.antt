-- Worked blocks. What the writer makes of a log stands in one table under one statement (`write_cases`), what the reader makes of a run of blocks in another
-- (`read_cases`), and which fault a block has at its place in a third (`fault_cases`). All are computed from the definitions.
--
-- A row has the bytes handed over and those lent, and after `gets` the code and the place expected; after `leaving`, what the lent bytes then hold. The sums put down here
-- were worked out by hand or by a second program. The limits on the bytes of a log and of a run of blocks are too high to compute with: they are shown of any
-- bytes (`log_above`, `run_above`).
-- Assumes nothing.
use Rattle.std.specs.Prelude.{◌≡◌, refl, Bool, cond, List, [], ◌∷◌, ◌++◌, map, ℕ, ◌/◌, ◌%◌, ◌<◌, length, set, replicate}
use Rattle.std.proofs.Common.{ap, inr}
use Rattle.std.proofs.Math.Option.{Option, none, some}
use Rattle.graph.specs.Decide.{or_test, not_test, eq_test, lt_test, test_true}
use Rattle.graph.specs.Lists.{◌∈◌}
use Rattle.history.specs.Cases.{rows}
use Rattle.verdicts.specs.Cases.{opens, log, up_to}
use Rattle.blocks.specs.Blocks.{sums, front, block, blocks_of, sums_wrong, form_wrong, Fault, fault, fault_in, lowest_fault, log_in, Filled, refused, filled, write, judged, read}

-- ---- logs and blocks

-- one record: job 2 writes cell 5
abbrev pub one : List ℕ
one = 3 ∷ 0 ∷ 5 ∷ 0 ∷ 2 ∷ 0 ∷ 0 ∷ 0 ∷ []

-- its block. The words are 0, 1, 327,683, 2 and zeros: the first sum is 327,686, and the second 125 · 1 + 124 · 327,683 + 123 · 2 = 40,633,063
abbrev pub one_block : List ℕ
one_block =
    0 ∷ 0 ∷ 0 ∷ 0 ∷ 1 ∷ 0 ∷ 0 ∷ 0
    ∷ 3 ∷ 0 ∷ 5 ∷ 0 ∷ 2 ∷ 0 ∷ 0 ∷ 0
    ∷ (replicate 488 0 ++ 6 ∷ 0 ∷ 5 ∷ 0 ∷ 231 ∷ 2 ∷ 108 ∷ 2 ∷ [])

-- the opens of jobs 1 to n
abbrev pub jobs : ℕ → List ℕ
jobs n = log (map opens (up_to n []))

-- 62 opens fill a block: its words are 0, 62, and 1 and i for each i, with the sums 2,077 and 93,031
abbrev pub full_block : List ℕ
full_block = 0 ∷ 0 ∷ 0 ∷ 0 ∷ 62 ∷ 0 ∷ 0 ∷ 0 ∷ (jobs 62 ++ 29 ∷ 8 ∷ 0 ∷ 0 ∷ 103 ∷ 107 ∷ 1 ∷ 0 ∷ [])

-- the 63rd stands in block 1: 1, 1, 1 and 63, with the sums 66 and 126 + 125 + 124 + 123 · 63 = 8,124
abbrev pub next_block : List ℕ
next_block =
    1 ∷ 0 ∷ 0 ∷ 0 ∷ 1 ∷ 0 ∷ 0 ∷ 0
    ∷ 1 ∷ 0 ∷ 0 ∷ 0 ∷ 63 ∷ 0 ∷ 0 ∷ 0
    ∷ (replicate 488 0 ++ 66 ∷ 0 ∷ 0 ∷ 0 ∷ 188 ∷ 31 ∷ 0 ∷ 0 ∷ [])

-- 62 records of bytes 255: 124 words of 2 ^ 32 - 1, so that the sums are 62 - 124, and 125 · 62 - (1 + .. + 124) = 0, modulo 2 ^ 32
abbrev pub high_block : List ℕ
high_block = 0 ∷ 0 ∷ 0 ∷ 0 ∷ 62 ∷ 0 ∷ 0 ∷ 0 ∷ (replicate 496 255 ++ 194 ∷ 255 ∷ 255 ∷ 255 ∷ 0 ∷ 0 ∷ 0 ∷ 0 ∷ [])

-- what stands before the sums, with the sums that it should have
abbrev pub summed : List ℕ → List ℕ
summed f = f ++ sums f

-- the front of the one record's block, with another byte at a place
abbrev pub with_byte : ℕ → ℕ → List ℕ
with_byte i x = summed (set (front 0 one) i x)

pub record Case : Type 0 where
  pub given : List ℕ
  pub lent : List ℕ
  pub expected : Filled

infix 70 ◌into◌gets◌at◌leaving◌
abbrev pub ◌into◌gets◌at◌leaving◌ : List ℕ → List ℕ → ℕ → ℕ → List ℕ → Case
b into l gets c at p leaving k = record { given = b; lent = l; expected = record { code = c; place = p; bytes = k } }

-- ---- the writer

abbrev pub write_table : List Case
write_table =
    -- no record, no block
    [] into [] gets 0 at 0 leaving []
    ∷ [] into 7 ∷ 8 ∷ [] gets 0 at 0 leaving (7 ∷ 8 ∷ [])
    -- one record: just enough room, a byte more, a byte less, none
    ∷ one into replicate 512 7 gets 0 at 512 leaving one_block
    ∷ one into replicate 513 7 gets 0 at 512 leaving (one_block ++ 7 ∷ [])
    ∷ one into replicate 511 7 gets 24 at 0 leaving replicate 511 7
    ∷ one into [] gets 24 at 0 leaving []
    -- 62 records and 63
    ∷ jobs 62 into replicate 512 7 gets 0 at 512 leaving full_block
    ∷ jobs 63 into replicate 1024 7 gets 0 at 1024 leaving (full_block ++ next_block)
    ∷ jobs 63 into replicate 1023 7 gets 24 at 0 leaving replicate 1023 7
    -- sums that wrap
    ∷ replicate 496 255 into replicate 512 7 gets 0 at 512 leaving high_block
    -- seven bytes; nine, where there is no room either
    ∷ replicate 7 1 into replicate 512 7 gets 11 at 0 leaving replicate 512 7
    ∷ replicate 9 1 into [] gets 11 at 0 leaving []
    ∷ []

-- opens every definition that the tables compute with, so that a table needs to open only this one
unfoldable pub wrote : Case → Filled
unfolding write filled blocks_of block front sums
wrote c = write c.given c.lent

pub write_cases : (c : Case) → c ∈ write_table → write c.given c.lent ≡ c.expected
unfolding wrote
write_cases c = rows wrote (λ c. c.expected) (refl, (refl, (refl, (refl, (refl, (refl, (refl, (refl, (refl, (refl, (refl, (refl, tt))))))))))))

-- ---- the reader

abbrev pub read_table : List Case
read_table =
    -- no block, no record
    [] into [] gets 0 at 0 leaving []
    ∷ [] into 7 ∷ 8 ∷ [] gets 0 at 0 leaving (7 ∷ 8 ∷ [])
    -- one record: just enough room, two bytes more, a byte less
    ∷ one_block into replicate 8 7 gets 0 at 8 leaving one
    ∷ one_block into replicate 10 7 gets 0 at 8 leaving (one ++ 7 ∷ 7 ∷ [])
    ∷ one_block into replicate 7 7 gets 24 at 0 leaving replicate 7 7
    -- 62 records and 63, and sums that wrap
    ∷ full_block into replicate 496 7 gets 0 at 496 leaving jobs 62
    ∷ (full_block ++ next_block) into replicate 504 7 gets 0 at 504 leaving jobs 63
    ∷ (full_block ++ next_block) into replicate 503 7 gets 24 at 0 leaving replicate 503 7
    ∷ high_block into replicate 496 7 gets 0 at 496 leaving replicate 496 255
    -- 21: a byte, 511 and 513 of them, a faulty block and a byte
    ∷ (0 ∷ []) into 7 ∷ [] gets 21 at 0 leaving (7 ∷ [])
    ∷ replicate 511 0 into 7 ∷ [] gets 21 at 0 leaving (7 ∷ [])
    ∷ (one_block ++ 0 ∷ []) into replicate 8 7 gets 21 at 0 leaving replicate 8 7
    ∷ (replicate 512 1 ++ 0 ∷ []) into 7 ∷ [] gets 21 at 0 leaving (7 ∷ [])
    -- 22: a byte changed in a record, in each sum, in the number, in the unused places; two words changed, one up and one down by as much, which the first sum does not show
    ∷ set one_block 10 6 into replicate 8 7 gets 22 at 0 leaving replicate 8 7
    ∷ set one_block 504 7 into replicate 8 7 gets 22 at 0 leaving replicate 8 7
    ∷ set one_block 511 3 into replicate 8 7 gets 22 at 0 leaving replicate 8 7
    ∷ set one_block 0 1 into replicate 8 7 gets 22 at 0 leaving replicate 8 7
    ∷ set one_block 503 1 into replicate 8 7 gets 22 at 0 leaving replicate 8 7
    ∷ set (set full_block 8 2) 12 0 into replicate 496 7 gets 22 at 0 leaving replicate 496 7
    -- the lowest faulty block: the second, the first of two, the first though its fault is 23 and the second's 22
    ∷ (full_block ++ set next_block 15 1) into replicate 504 7 gets 22 at 1 leaving replicate 504 7
    ∷ (full_block ++ full_block) into replicate 992 7 gets 23 at 1 leaving replicate 992 7
    ∷ (set full_block 9 1 ++ set next_block 15 1) into replicate 504 7 gets 22 at 0 leaving replicate 504 7
    ∷ (next_block ++ set next_block 15 1) into replicate 504 7 gets 23 at 0 leaving replicate 504 7
    -- a block that is not full, and another after it
    ∷ (one_block ++ next_block) into replicate 504 7 gets 23 at 0 leaving replicate 504 7
    -- a faulty block, and no room
    ∷ set one_block 10 6 into [] gets 22 at 0 leaving []
    ∷ replicate 512 0 into [] gets 23 at 0 leaving []
    ∷ []

unfoldable pub got : Case → Filled
unfolding read filled log_in fault_in sums_wrong form_wrong sums
got c = read c.given c.lent

pub read_cases : (c : Case) → c ∈ read_table → read c.given c.lent ≡ c.expected
unfolding got
read_cases c = rows got (λ c. c.expected) (refl, (refl, (refl, (refl, (refl, (refl, (refl, (refl, (refl, (refl, (refl, (refl, (refl, (refl, (refl, (refl, (refl, (refl, (refl, (refl, (refl, (refl, (refl, (refl, (refl, (refl, tt))))))))))))))))))))))))))

-- ---- the faults of a block at its place

pub record FaultCase : Type 0 where
  pub bytes : List ℕ
  pub place : ℕ
  pub count : ℕ
  pub expected : Option Fault

infix 70 ◌at◌of◌has◌
abbrev pub ◌at◌of◌has◌ : List ℕ → ℕ → ℕ → Option Fault → FaultCase
b at k of n has f = record { bytes = b; place = k; count = n; expected = f }

abbrev pub fault_table : List FaultCase
fault_table =
    -- the one record's block, all its sums right from here on: alone, and at another place
    one_block at 0 of 1 has none
    ∷ one_block at 1 of 2 has some (fault 23 1)
    -- each byte of the block number
    ∷ with_byte 0 1 at 0 of 1 has some (fault 23 0)
    ∷ with_byte 1 1 at 0 of 1 has some (fault 23 0)
    ∷ with_byte 2 1 at 0 of 1 has some (fault 23 0)
    ∷ with_byte 3 1 at 0 of 1 has some (fault 23 0)
    -- counts of 0, 2, 62, 63 and 257; with 2 and 62 the unused places would be records of zeros
    ∷ with_byte 4 0 at 0 of 1 has some (fault 23 0)
    ∷ with_byte 4 2 at 0 of 1 has none
    ∷ with_byte 4 62 at 0 of 1 has none
    ∷ with_byte 4 63 at 0 of 1 has some (fault 23 0)
    ∷ with_byte 5 1 at 0 of 1 has some (fault 23 0)
    -- the two zero bytes; the first unused byte and the last
    ∷ with_byte 6 1 at 0 of 1 has some (fault 23 0)
    ∷ with_byte 7 1 at 0 of 1 has some (fault 23 0)
    ∷ with_byte 16 1 at 0 of 1 has some (fault 23 0)
    ∷ with_byte 503 1 at 0 of 1 has some (fault 23 0)
    -- 512 bytes of zero have the sums right and no record
    ∷ replicate 512 0 at 0 of 1 has some (fault 23 0)
    -- before the last, 61 records and 62
    ∷ block 3 (jobs 61) at 3 of 5 has some (fault 23 3)
    ∷ block 3 (jobs 62) at 3 of 5 has none
    ∷ block 4 (jobs 61) at 4 of 5 has none
    -- block 66 has at most 4 records, block 65 may have 62
    ∷ block 66 (jobs 4) at 66 of 67 has none
    ∷ block 66 (jobs 5) at 66 of 67 has some (fault 23 66)
    ∷ block 66 (jobs 62) at 66 of 67 has some (fault 23 66)
    ∷ block 65 (jobs 62) at 65 of 66 has none
    -- 22 before 23
    ∷ set (with_byte 0 1) 511 9 at 0 of 1 has some (fault 22 0)
    ∷ []

unfoldable pub found : FaultCase → Option Fault
unfolding fault_in sums_wrong form_wrong block front sums
found c = fault_in c.count c.place c.bytes

pub fault_cases : (c : FaultCase) → c ∈ fault_table → fault_in c.count c.place c.bytes ≡ c.expected
unfolding found
fault_cases c = rows found (λ c. c.expected) (refl, (refl, (refl, (refl, (refl, (refl, (refl, (refl, (refl, (refl, (refl, (refl, (refl, (refl, (refl, (refl, (refl, (refl, (refl, (refl, (refl, (refl, (refl, (refl, tt))))))))))))))))))))))))

-- ---- the two limits, of any bytes

pub log_above : (bytes lent : List ℕ) → 32_768 < length bytes → write bytes lent ≡ refused 11 0 lent
unfolding write
log_above bytes lent l =
    ap (λ (b : Bool). cond b (refused 11 0 lent) (filled (blocks_of bytes) lent)) (test_true (or_test (not_test (eq_test (length bytes % 8) 0)) (lt_test 32_768 (length bytes))) (inr l))

pub run_above : (bytes lent : List ℕ) → 34_304 < length bytes → read bytes lent ≡ refused 21 0 lent
unfolding read
run_above bytes lent l =
    ap (λ (b : Bool). cond b (refused 21 0 lent) (judged (lowest_fault (length bytes / 512) bytes (length bytes / 512)) bytes lent))
    (test_true (or_test (not_test (eq_test (length bytes % 512) 0)) (lt_test 34_304 (length bytes))) (inr l))
