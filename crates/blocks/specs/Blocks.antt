-- Ledger blocks: a log as a run of blocks of 512 bytes, and the answers of the writer and of the reader of such runs.
--
-- A block has its number in four bytes, the count of its records in two, two bytes of zero, 62 places for records of eight bytes, and two sums of four bytes each.
-- Every number stands low byte first. The sums are over all that stands before them. What the records say is not looked at: a log here is bytes, in whole records.
-- Assumes nothing.
use Rattle.std.specs.Prelude.{Bool, true, false, not, ◌&&◌, ◌||◌, cond, List, [], ◌∷◌, ◌++◌, ℕ, zero, suc, ◌+◌, ◌-◌, ◌*◌, ◌/◌, ◌%◌, ltb, eqb, length, get_or, take, drop, replicate}
use Rattle.std.proofs.Math.Option.{Option, none, some}
use Rattle.graph.specs.Decide.{every_of}
use Rattle.history.specs.Formats.{bytes_of}
use Rattle.verdicts.specs.Logs.{record_bytes, most_bytes}

-- ---- sizes

-- a block has 512 bytes; its sums are over the 504 before them, 126 words; a run of blocks has 67 of them at most
abbrev pub block_bytes : ℕ
block_bytes = 512

abbrev pub front_bytes : ℕ
front_bytes = 504

abbrev pub most_run_bytes : ℕ
most_run_bytes = 34304

-- 62 records fill a block, with 496 bytes; of 4,096 records, 66 blocks hold all but 4
abbrev pub full : ℕ
full = 62

abbrev pub full_bytes : ℕ
full_bytes = 496

abbrev pub last_place : ℕ
last_place = 66

abbrev pub left_for_last : ℕ
left_for_last = 4

-- ---- the two sums

-- four-byte words; what is left over at the end is dropped
abbrev pub words : List ℕ → List ℕ
words (a ∷ b ∷ c ∷ d ∷ bytes) = (a + b * 256 + c * 65536 + d * 16777216) ∷ words bytes
words [] = []
words (a ∷ []) = []
words (a ∷ b ∷ []) = []
words (a ∷ b ∷ c ∷ []) = []

abbrev pub total : List ℕ → ℕ
total [] = 0
total (w ∷ l) = w + total l

-- the running sums: of the first word, of the first two, and on to all, each added to s
abbrev pub running : ℕ → List ℕ → List ℕ
running s [] = []
running s (w ∷ l) = (s + w) ∷ running (s + w) l

-- the sum of the words, and the sum of their running sums, modulo 2 ^ 32, in four bytes each
unfoldable pub sums : List ℕ → List ℕ
sums bytes = bytes_of 4 (total (words bytes) % 4294967296) ++ bytes_of 4 (total (running 0 (words bytes)) % 4294967296)

-- ---- blocks

-- the block of number k that holds a run of at most 62 records: what stands before its sums, and all of it
unfoldable pub front : ℕ → List ℕ → List ℕ
front k run = bytes_of 4 k ++ (bytes_of 2 (length run / record_bytes) ++ (0 ∷ 0 ∷ (run ++ replicate (full_bytes - length run) 0)))

unfoldable pub block : ℕ → List ℕ → List ℕ
block k run = front k run ++ sums (front k run)

-- the records of a log that go into its block k: 62 of them, or what is left
abbrev pub run_of : ℕ → List ℕ → List ℕ
run_of k log = take full_bytes (drop (full_bytes * k) log)

-- its first n blocks; as many as it takes to hold it, and none for the empty log
abbrev pub first_blocks : ℕ → List ℕ → List ℕ
first_blocks zero log = []
first_blocks (suc n) log = first_blocks n log ++ block n (run_of n log)

abbrev pub block_count : List ℕ → ℕ
block_count log = (length log + (full_bytes - 1)) / full_bytes

unfoldable pub blocks_of : List ℕ → List ℕ
blocks_of log = first_blocks (block_count log) log

-- ---- the faults of a block b that stands at place k of n

abbrev pub same : List ℕ → List ℕ → Bool
same [] [] = true
same [] (y ∷ m) = false
same (x ∷ l) [] = false
same (x ∷ l) (y ∷ m) = eqb x y && same l m

-- 22: the sums
unfoldable pub sums_wrong : List ℕ → Bool
sums_wrong b = not (same (drop front_bytes b) (sums (take front_bytes b)))

-- the count that the block says
abbrev pub count_in : List ℕ → ℕ
count_in b = get_or b 4 0 + get_or b 5 0 * 256

-- every block but the last is full, none is empty, and the last of the most that there can be has what is left for it
abbrev pub count_wrong : ℕ → ℕ → ℕ → Bool
count_wrong n k c = cond (ltb (suc k) n) (not (eqb c full)) (eqb c 0 || ltb (cond (eqb k last_place) left_for_last full) c)

-- 23: the block number, the count, the two zero bytes, the unused places
unfoldable pub form_wrong : ℕ → ℕ → List ℕ → Bool
form_wrong n k b =
    not (same (take 4 b) (bytes_of 4 k))
    || count_wrong n k (count_in b)
    || not (every_of (eqb 0) (take 2 (drop 6 b)))
    || not (every_of (eqb 0) (drop (8 + record_bytes * count_in b) (take front_bytes b)))

pub record Fault : Type 0 where
  pub code : ℕ
  pub place : ℕ

abbrev pub fault : ℕ → ℕ → Fault
fault c p = record { code = c; place = p }

unfoldable pub fault_in : ℕ → ℕ → List ℕ → Option Fault
fault_in n k b = cond (sums_wrong b) (some (fault 22 k)) (cond (form_wrong n k b) (some (fault 23 k)) none)

-- ---- a run of blocks

abbrev pub block_at : ℕ → List ℕ → List ℕ
block_at k bytes = take block_bytes (drop (block_bytes * k) bytes)

abbrev pub or_else : Option Fault → Option Fault → Option Fault
or_else none g = g
or_else (some f) g = some f

-- the fault of the lowest faulty block among the first m of n
abbrev pub lowest_fault : ℕ → List ℕ → ℕ → Option Fault
lowest_fault n bytes zero = none
lowest_fault n bytes (suc m) = or_else (lowest_fault n bytes m) (fault_in n m (block_at m bytes))

-- the records in a block, in the first m blocks, in all
abbrev pub records_in : List ℕ → List ℕ
records_in b = take (record_bytes * count_in b) (drop 8 b)

abbrev pub first_records : ℕ → List ℕ → List ℕ
first_records zero bytes = []
first_records (suc m) bytes = first_records m bytes ++ records_in (block_at m bytes)

unfoldable pub log_in : List ℕ → List ℕ
log_in bytes = first_records (length bytes / block_bytes) bytes

-- ---- the answers

-- a code and a place, and what then stands in the lent bytes
pub record Filled : Type 0 where
  pub code : ℕ
  pub place : ℕ
  pub bytes : List ℕ

abbrev pub refused : ℕ → ℕ → List ℕ → Filled
refused c p lent = record { code = c; place = p; bytes = lent }

-- code 0 and the count of the bytes, which stand first in the lent bytes, the rest as it was
abbrev pub done : List ℕ → List ℕ → Filled
done bytes lent = record { code = 0; place = length bytes; bytes = bytes ++ drop (length bytes) lent }

-- 24 where they have no room
unfoldable pub filled : List ℕ → List ℕ → Filled
filled bytes lent = cond (ltb (length lent) (length bytes)) (refused 24 0 lent) (done bytes lent)

-- the writer; 11 is the length, as for every log
unfoldable pub write : List ℕ → List ℕ → Filled
write log lent = cond (not (eqb (length log % record_bytes) 0) || ltb most_bytes (length log)) (refused 11 0 lent) (filled (blocks_of log) lent)

-- the reader; 21 is the length, and then the lowest faulty block decides
abbrev pub judged : Option Fault → List ℕ → List ℕ → Filled
judged (some f) bytes lent = refused f.code f.place lent
judged none bytes lent = filled (log_in bytes) lent

unfoldable pub read : List ℕ → List ℕ → Filled
read bytes lent =
    let n = length bytes / block_bytes in
    cond (not (eqb (length bytes % block_bytes) 0) || ltb most_run_bytes (length bytes)) (refused 21 0 lent) (judged (lowest_fault n bytes n) bytes lent)
