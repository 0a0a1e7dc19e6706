-- The layout of requests and of answers in bytes, low byte first.
--
-- A request or a record of a log has eight bytes: the kind, one that should be 0, two of cell, four of job. An answer: four bytes of code, four of job.
-- Assumes nothing.
use Rattle.std.specs.Prelude.{List, [], ◌∷◌, ◌++◌, ℕ, zero, suc, ◌+◌, ◌*◌, ◌/◌, ◌%◌, get_or}
use Rattle.history.specs.Replies.{Request, Reply}

-- a number as so many bytes, low byte first
abbrev pub bytes_of : ℕ → ℕ → List ℕ
bytes_of zero n = []
bytes_of (suc k) n = n % 256 ∷ bytes_of k (n / 256)

-- the request that eight bytes are
unfoldable pub request_of : List ℕ → Request
request_of b =
    record {
      kind = get_or b 0 0;
      byte1 = get_or b 1 0;
      cell = get_or b 2 0 + get_or b 3 0 * 256;
      job = get_or b 4 0 + get_or b 5 0 * 256 + get_or b 6 0 * 65536 + get_or b 7 0 * 16777216;
    }

-- whole records, eight bytes each; what is left over at the end is dropped
abbrev pub records : List ℕ → List Request
records (k ∷ z ∷ c ∷ d ∷ i ∷ j ∷ m ∷ n ∷ bytes) =
    record { kind = k; byte1 = z; cell = c + d * 256; job = i + j * 256 + m * 65536 + n * 16777216 } ∷ records bytes
records [] = []
records (k ∷ []) = []
records (k ∷ z ∷ []) = []
records (k ∷ z ∷ c ∷ []) = []
records (k ∷ z ∷ c ∷ d ∷ []) = []
records (k ∷ z ∷ c ∷ d ∷ i ∷ []) = []
records (k ∷ z ∷ c ∷ d ∷ i ∷ j ∷ []) = []
records (k ∷ z ∷ c ∷ d ∷ i ∷ j ∷ m ∷ []) = []

-- the answers, eight bytes each
abbrev pub answer_bytes : List Reply → List ℕ
answer_bytes [] = []
answer_bytes (a ∷ l) = bytes_of 4 a.code ++ bytes_of 4 a.job ++ answer_bytes l
