-- Tried logs. What the checker says of a log and a list stands in one table under one statement (`check_cases`, in proofs/CaseLaws.antt); what the lister says of a log, and
-- leaves in the list lent to it, in another (`list_cases`). Both are computed from the definitions. So is P1's log, byte for byte (`p1_bytes`), and so are the logs
-- of a case with publishes (`published_log`) and of one with adds (`adds_log`), and the two requests that the rules write as bytes (`two_read`, `two_written`).
--
-- A row has the log, the list handed over, and after `gets` the code and the place expected; after `leaving`, what the list then holds. A log is
-- what a P case leaves, or is put down record by record, or as bytes. Places count from 0. The limits on a log's bytes and on its jobs are too
-- high to compute with: they are shown of any log (`bytes_above`, `bytes_within`, and `jobs_above`, `jobs_within`, `jobs_below` of proofs/CaseLaws.antt).
-- Assumes nothing.
use Rattle.std.specs.Prelude.{◌≡◌, refl, ◌⊎◌, Bool, not, ◌||◌, ℕ, zero, suc, ◌%◌, ◌≤◌, ◌<◌, ltb, eqb, length}
use Rattle.std.proofs.Math.Path.{ap}
use Rattle.std.proofs.Common.{inr, ⊎_elim, arith}
use Rattle.std.proofs.Math.Bool.{cond}
use mathlib.Core.List.Memᴰ
use mathlib.Core.List.{List, [], ◌∷◌, ◌++◌, map}
use Rattle.graph.specs.Decide.{Decides, or_test, not_test, eq_test, lt_test, test_true, test_false}
use Rattle.graph.specs.Lists.{◌∈◌}
use Rattle.history.specs.Replies.{Request, history_of}
use Rattle.history.specs.Cases.{reads, writes, adds, end, abandon, Case, requests_of, computed, p1, p3, p6, p7, p8, published, adds_alone, rows}
use Rattle.history.specs.Formats.{records, bytes_of}
use Rattle.verdicts.specs.Logs.{ill_formed, out_of_turn, too_many, fault_of, faulty, read_from, read_log, log_of}
use Rattle.verdicts.specs.Verdicts.{Verdict, verdict, missing, backward, judged, check, Listed, listed, list_order}

-- ---- records, short; `reads`, `writes`, `adds`, `end` and `abandon` are those of the P cases

abbrev pub opens : ℕ → Request
opens j = record { kind = 1; byte1 = 0; cell = 0; job = j }

-- `raw 2 0 256 1`: kind 2, byte 1 zero, cell 256, job 1
abbrev pub raw : ℕ → ℕ → ℕ → ℕ → Request
raw k z c j = record { kind = k; byte1 = z; cell = c; job = j }

-- eight bytes for each record
abbrev pub log : List Request → List ℕ
log [] = []
log (r ∷ rs) = r.kind ∷ r.byte1 ∷ (bytes_of 2 r.cell ++ (bytes_of 4 r.job ++ log rs))

-- the log that the requests of a P case leave
abbrev pub log_after : Case → List ℕ
log_after c = log_of (history_of c.first (requests_of c))

-- 1, 2, .. up to n, and then l
abbrev pub up_to : ℕ → List ℕ → List ℕ
up_to zero l = l
up_to (suc n) l = up_to n (suc n ∷ l)

-- ---- P1's log, byte for byte

-- kind, byte 1, cell in two, job in four
abbrev pub p1_written : List ℕ
p1_written =
    1 ∷ 0 ∷ 0 ∷ 0 ∷ 1 ∷ 0 ∷ 0 ∷ 0
    ∷ 1 ∷ 0 ∷ 0 ∷ 0 ∷ 2 ∷ 0 ∷ 0 ∷ 0
    ∷ 2 ∷ 0 ∷ 5 ∷ 0 ∷ 1 ∷ 0 ∷ 0 ∷ 0
    ∷ 2 ∷ 0 ∷ 5 ∷ 0 ∷ 2 ∷ 0 ∷ 0 ∷ 0
    ∷ 3 ∷ 0 ∷ 5 ∷ 0 ∷ 2 ∷ 0 ∷ 0 ∷ 0
    ∷ 3 ∷ 0 ∷ 6 ∷ 0 ∷ 1 ∷ 0 ∷ 0 ∷ 0
    ∷ 4 ∷ 0 ∷ 0 ∷ 0 ∷ 2 ∷ 0 ∷ 0 ∷ 0
    ∷ 4 ∷ 0 ∷ 0 ∷ 0 ∷ 1 ∷ 0 ∷ 0 ∷ 0
    ∷ []

pub p1_bytes : log_after p1 ≡ p1_written
unfolding computed
p1_bytes = refl

-- ---- a publish in a log

-- a granted publish leaves two records, the write and the end; a refused one leaves none
pub published_log : log_after published ≡ log (opens 1 ∷ opens 2 ∷ reads 1 5 ∷ writes 2 5 ∷ end 2 ∷ opens 3 ∷ reads 3 6 ∷ writes 1 7 ∷ end 1 ∷ [])
unfolding computed
published_log = refl

-- a granted add leaves a record of kind 7, with its cell and its job
pub adds_log : log_after adds_alone ≡ log (opens 1 ∷ opens 2 ∷ adds 1 5 ∷ adds 2 5 ∷ adds 2 6 ∷ adds 1 6 ∷ [])
unfolding computed
adds_log = refl

-- ---- the requests of the rules, R27

-- a read of cell 5 by job 1, and a write of cell 255 by job 70,000
abbrev pub two_requests : List Request
two_requests = reads 1 5 ∷ writes 70_000 255 ∷ []

abbrev pub two_bytes : List ℕ
two_bytes =
    2 ∷ 0 ∷ 5 ∷ 0 ∷ 1 ∷ 0 ∷ 0 ∷ 0
    ∷ 3 ∷ 0 ∷ 255 ∷ 0 ∷ 112 ∷ 17 ∷ 1 ∷ 0
    ∷ []

pub two_read : records two_bytes ≡ two_requests
two_read = refl

pub two_written : log two_requests ≡ two_bytes
two_written = refl

-- ---- logs that several rows have

-- 1 precedes 2 by cell 5, at records 2 and 3, and 2 precedes 1 by cell 6, at 4 and 5
abbrev pub circle : List ℕ
circle =
    1 ∷ 0 ∷ 0 ∷ 0 ∷ 1 ∷ 0 ∷ 0 ∷ 0
    ∷ 1 ∷ 0 ∷ 0 ∷ 0 ∷ 2 ∷ 0 ∷ 0 ∷ 0
    ∷ 2 ∷ 0 ∷ 5 ∷ 0 ∷ 1 ∷ 0 ∷ 0 ∷ 0
    ∷ 3 ∷ 0 ∷ 5 ∷ 0 ∷ 2 ∷ 0 ∷ 0 ∷ 0
    ∷ 2 ∷ 0 ∷ 6 ∷ 0 ∷ 2 ∷ 0 ∷ 0 ∷ 0
    ∷ 3 ∷ 0 ∷ 6 ∷ 0 ∷ 1 ∷ 0 ∷ 0 ∷ 0
    ∷ []

-- 1 precedes 2 by cell 5 and 2 precedes 3 by cell 6
abbrev pub chain : List Request
chain = opens 1 ∷ opens 2 ∷ opens 3 ∷ writes 1 5 ∷ reads 2 5 ∷ reads 2 6 ∷ writes 3 6 ∷ []

-- P3 with the write of job 2 on cell 6 granted too: 2 precedes 1 by cell 5, at records 2 and 3; 1 ends at 4 and 3 is opened at 5; 3 precedes 2 by cell 6, at 6 and 8
abbrev pub old_p3 : List ℕ
old_p3 = log (opens 1 ∷ opens 2 ∷ reads 2 5 ∷ writes 1 5 ∷ end 1 ∷ opens 3 ∷ reads 3 6 ∷ end 3 ∷ writes 2 6 ∷ end 2 ∷ [])

-- log A and log B of the rules, R125 and R133: 5 precedes 4 by cell 3, at records 2 and 3; in B also 4 precedes 5, at 3 and 4
abbrev pub log_a : List Request
log_a = opens 4 ∷ opens 5 ∷ writes 5 3 ∷ reads 4 3 ∷ []

abbrev pub log_b : List Request
log_b = log_a ++ writes 5 3 ∷ []

-- 1 precedes 2 by cell 5, at records 4 and 5, and 2 precedes 1 by cell 6, at 6 and 7; but 3 writes both cells over before 4 reads them. So nobody reads what 1 and 2
-- wrote, nor is it left: run one at a time in the order 1, 2, 3, 4 the jobs would leave what the log left (`same_anyway` of the crate refuted)
abbrev pub overwritten : List Request
overwritten =
    opens 1 ∷ opens 2 ∷ opens 3 ∷ opens 4
    ∷ writes 1 5 ∷ writes 2 5 ∷ writes 2 6 ∷ writes 1 6
    ∷ writes 3 5 ∷ writes 3 6 ∷ reads 4 5 ∷ reads 4 6 ∷ []

-- the first job and the last: the last writes cell 255 at record 2, job 0 reads it at record 3
abbrev pub ends_of_range : List ℕ
ends_of_range =
    1 ∷ 0 ∷ 0 ∷ 0 ∷ 0 ∷ 0 ∷ 0 ∷ 0
    ∷ 1 ∷ 0 ∷ 0 ∷ 0 ∷ 255 ∷ 255 ∷ 255 ∷ 255
    ∷ 3 ∷ 0 ∷ 255 ∷ 0 ∷ 255 ∷ 255 ∷ 255 ∷ 255
    ∷ 2 ∷ 0 ∷ 255 ∷ 0 ∷ 0 ∷ 0 ∷ 0 ∷ 0
    ∷ []

-- ---- the checker

pub record CheckCase : Type 0 where
  pub bytes : List ℕ
  pub order : List ℕ
  pub expected : Verdict

infix 70 ◌with◌gets◌at◌
abbrev pub ◌with◌gets◌at◌ : List ℕ → List ℕ → ℕ → ℕ → CheckCase
l with o gets c at p = record { bytes = l; order = o; expected = verdict c p }

-- every row of a table comes out as expected
abbrev pub AsExpected : List CheckCase → Type 0
AsExpected t = (c : CheckCase) → c ∈ t → check c.bytes c.order ≡ c.expected

-- of two tables, one after the other
infixr 5 ◌and◌
pub ◌and◌ : {t u : List CheckCase} → AsExpected t → AsExpected u → AsExpected (t ++ u)
◌and◌ {t} f g c m = ⊎_elim (f c) (g c) (Memᴰ.append_cases t m)

-- opens every definition that the tables compute with, so that a table needs to open only this one
unfoldable pub checked : CheckCase → Verdict
unfolding computed check read_log fault_of ill_formed out_of_turn too_many judged missing backward
checked c = check c.bytes c.order

-- the entries of the list: 15, and 0 and 16 of P1
abbrev pub entry_rows : List CheckCase
entry_rows =
    -- P1: the read at 2 by job 1 and the write at 4 by job 2 are its one conflicting pair
    log_after p1 with 1 ∷ 2 ∷ [] gets 0 at 2
    ∷ log_after p1 with 2 ∷ 1 ∷ [] gets 16 at 4
    ∷ log_after p1 with 1 ∷ 1 ∷ [] gets 15 at 1
    ∷ log_after p1 with 1 ∷ [] gets 15 at 1
    ∷ log_after p1 with 1 ∷ 2 ∷ 3 ∷ [] gets 15 at 2
    ∷ log_after p1 with [] gets 15 at 0
    -- two bad entries; a bad entry and a job missing; a bad entry or a job missing, and the pair backward
    ∷ log_after p1 with 3 ∷ 1 ∷ 1 ∷ [] gets 15 at 0
    ∷ log_after p1 with 3 ∷ 1 ∷ [] gets 15 at 0
    ∷ log_after p1 with 2 ∷ 1 ∷ 2 ∷ [] gets 15 at 2
    ∷ log_after p1 with 2 ∷ [] gets 15 at 1
    -- the empty log
    ∷ [] with [] gets 0 at 0
    ∷ [] with 1 ∷ [] gets 15 at 0
    ∷ []

pub entry_rows_hold : AsExpected entry_rows
unfolding checked
entry_rows_hold c = rows checked (λ c. c.expected) (refl, (refl, (refl, (refl, (refl, (refl, (refl, (refl, (refl, (refl, (refl, (refl, tt))))))))))))

-- 11, the length
abbrev pub length_rows : List CheckCase
length_rows =
    -- one byte, seven, nine, twelve; nine, where the first eight are faulty too
    (1 ∷ []) with [] gets 11 at 0
    ∷ (1 ∷ 0 ∷ 0 ∷ 0 ∷ 1 ∷ 0 ∷ 0 ∷ []) with [] gets 11 at 0
    ∷ (log (opens 1 ∷ []) ++ 1 ∷ []) with 1 ∷ [] gets 11 at 0
    ∷ (log (opens 1 ∷ []) ++ 1 ∷ 0 ∷ 0 ∷ 0 ∷ []) with 1 ∷ [] gets 11 at 0
    ∷ (log (raw 6 0 0 1 ∷ []) ++ 1 ∷ []) with [] gets 11 at 0
    ∷ []

pub length_rows_hold : AsExpected length_rows
unfolding checked
length_rows_hold c = rows checked (λ c. c.expected) (refl, (refl, (refl, (refl, (refl, tt)))))

-- 12, the form of a record
abbrev pub form_rows : List CheckCase
form_rows =
    -- kinds 0, 8 and 255, and that of a publish, which stands in a log as a write and an end
    log (opens 1 ∷ raw 0 0 0 1 ∷ []) with 1 ∷ [] gets 12 at 1
    ∷ log (opens 1 ∷ raw 8 0 0 1 ∷ []) with 1 ∷ [] gets 12 at 1
    ∷ log (opens 1 ∷ raw 255 0 0 1 ∷ []) with 1 ∷ [] gets 12 at 1
    ∷ log (opens 1 ∷ raw 6 0 5 1 ∷ []) with 1 ∷ [] gets 12 at 1
    -- a 1 in byte 1, for each of the six kinds
    ∷ log (raw 1 1 0 1 ∷ []) with 1 ∷ [] gets 12 at 0
    ∷ log (opens 1 ∷ raw 2 1 5 1 ∷ []) with 1 ∷ [] gets 12 at 1
    ∷ log (opens 1 ∷ raw 3 1 5 1 ∷ []) with 1 ∷ [] gets 12 at 1
    ∷ log (opens 1 ∷ raw 4 1 0 1 ∷ []) with 1 ∷ [] gets 12 at 1
    ∷ log (opens 1 ∷ raw 5 1 0 1 ∷ []) with [] gets 12 at 1
    ∷ log (opens 1 ∷ raw 7 1 5 1 ∷ []) with 1 ∷ [] gets 12 at 1
    -- cell 255 is the last
    ∷ log (opens 1 ∷ reads 1 255 ∷ writes 1 255 ∷ []) with 1 ∷ [] gets 0 at 1
    ∷ log (opens 1 ∷ reads 1 256 ∷ []) with 1 ∷ [] gets 12 at 1
    ∷ log (opens 1 ∷ reads 1 255 ∷ writes 1 256 ∷ []) with 1 ∷ [] gets 12 at 2
    ∷ log (opens 1 ∷ adds 1 255 ∷ adds 1 256 ∷ []) with 1 ∷ [] gets 12 at 2
    -- an open, an end, an abandon with a cell
    ∷ log (raw 1 0 1 1 ∷ []) with 1 ∷ [] gets 12 at 0
    ∷ log (raw 1 0 256 1 ∷ []) with 1 ∷ [] gets 12 at 0
    ∷ log (opens 1 ∷ raw 4 0 1 1 ∷ []) with 1 ∷ [] gets 12 at 1
    ∷ log (opens 1 ∷ raw 5 0 1 1 ∷ []) with [] gets 12 at 1
    ∷ []

pub form_rows_hold : AsExpected form_rows
unfolding checked
form_rows_hold c = rows checked (λ c. c.expected) (refl, (refl, (refl, (refl, (refl, (refl, (refl, (refl, (refl, (refl, (refl, (refl, (refl, (refl, (refl, (refl, (refl, (refl, tt))))))))))))))))))

-- 13, the turn of a record
abbrev pub turn_rows : List CheckCase
turn_rows =
    -- an open below another, with the number of another, below one that was abandoned
    log (opens 2 ∷ opens 1 ∷ []) with 1 ∷ 2 ∷ [] gets 13 at 1
    ∷ log (opens 1 ∷ end 1 ∷ opens 1 ∷ []) with 1 ∷ [] gets 13 at 2
    ∷ log (opens 1 ∷ opens 5 ∷ abandon 5 ∷ opens 3 ∷ []) with 1 ∷ 3 ∷ [] gets 13 at 3
    -- a step, an end or an abandon of a job never opened, opened only later, ended, abandoned
    ∷ log (opens 1 ∷ reads 2 5 ∷ []) with 1 ∷ [] gets 13 at 1
    ∷ log (reads 1 5 ∷ opens 1 ∷ []) with 1 ∷ [] gets 13 at 0
    ∷ log (opens 1 ∷ end 1 ∷ writes 1 5 ∷ []) with 1 ∷ [] gets 13 at 2
    ∷ log (opens 1 ∷ end 1 ∷ adds 1 5 ∷ []) with 1 ∷ [] gets 13 at 2
    ∷ log (opens 1 ∷ end 1 ∷ end 1 ∷ []) with 1 ∷ [] gets 13 at 2
    ∷ log (opens 1 ∷ end 1 ∷ abandon 1 ∷ []) with [] gets 13 at 2
    ∷ log (opens 1 ∷ abandon 1 ∷ reads 1 5 ∷ []) with [] gets 13 at 2
    -- the abandon of a job that has written, of one that has added; of one that has only read, while another has written
    ∷ log (opens 1 ∷ writes 1 5 ∷ abandon 1 ∷ []) with [] gets 13 at 2
    ∷ log (opens 1 ∷ adds 1 5 ∷ abandon 1 ∷ []) with [] gets 13 at 2
    ∷ log (opens 1 ∷ opens 2 ∷ reads 1 5 ∷ writes 2 6 ∷ abandon 1 ∷ []) with 2 ∷ [] gets 0 at 1
    ∷ []

pub turn_rows_hold : AsExpected turn_rows
unfolding checked
turn_rows_hold c = rows checked (λ c. c.expected) (refl, (refl, (refl, (refl, (refl, (refl, (refl, (refl, (refl, (refl, (refl, (refl, (refl, tt)))))))))))))

-- which fault of a log is reported
abbrev pub fault_rows : List CheckCase
fault_rows =
    -- a read of cell 256 by a job never opened, a low open with a cell: 12 and 13 at one record
    log (opens 1 ∷ reads 2 256 ∷ []) with 1 ∷ [] gets 12 at 1
    ∷ log (opens 2 ∷ raw 1 0 1 1 ∷ []) with 2 ∷ [] gets 12 at 1
    -- 13 at record 1 and 12 at record 3, then the other way round; a list that is bad as well
    ∷ log (opens 1 ∷ reads 2 5 ∷ end 1 ∷ raw 0 0 0 1 ∷ []) with 1 ∷ [] gets 13 at 1
    ∷ log (opens 1 ∷ raw 0 0 0 1 ∷ end 1 ∷ reads 2 5 ∷ []) with 1 ∷ [] gets 12 at 1
    ∷ log (opens 1 ∷ reads 2 5 ∷ []) with 9 ∷ [] gets 13 at 1
    ∷ []

pub fault_rows_hold : AsExpected fault_rows
unfolding checked
fault_rows_hold c = rows checked (λ c. c.expected) (refl, (refl, (refl, (refl, (refl, tt)))))

-- which jobs are kept
abbrev pub kept_rows : List CheckCase
kept_rows =
    -- an ended job is, an abandoned one is not
    log (opens 1 ∷ opens 2 ∷ end 1 ∷ []) with 2 ∷ 1 ∷ [] gets 0 at 2
    ∷ log (opens 1 ∷ opens 2 ∷ end 1 ∷ []) with 2 ∷ [] gets 15 at 1
    ∷ log (opens 1 ∷ opens 2 ∷ abandon 1 ∷ []) with 2 ∷ [] gets 0 at 1
    ∷ log (opens 1 ∷ opens 2 ∷ abandon 1 ∷ []) with 2 ∷ 1 ∷ [] gets 15 at 1
    ∷ log (opens 1 ∷ abandon 1 ∷ []) with [] gets 0 at 0
    -- P6: job 3 writes cell 6 at record 6, job 2 is abandoned at 7, job 1 reads cell 6 at 8
    ∷ log_after p6 with 3 ∷ 1 ∷ [] gets 0 at 2
    ∷ log_after p6 with 1 ∷ 3 ∷ [] gets 16 at 8
    ∷ log_after p6 with 3 ∷ 2 ∷ 1 ∷ [] gets 15 at 1
    -- a pair whose earlier job is abandoned later on, and a chain whose middle one is: neither counts
    ∷ log (opens 1 ∷ opens 2 ∷ reads 1 5 ∷ writes 2 5 ∷ abandon 1 ∷ []) with 2 ∷ [] gets 0 at 1
    ∷ log (chain ++ abandon 2 ∷ []) with 3 ∷ 1 ∷ [] gets 0 at 2
    ∷ []

pub kept_rows_hold : AsExpected kept_rows
unfolding checked
kept_rows_hold c = rows checked (λ c. c.expected) (refl, (refl, (refl, (refl, (refl, (refl, (refl, (refl, (refl, (refl, tt))))))))))

-- which pairs conflict, and which backward pair is reported
abbrev pub pair_rows : List CheckCase
pair_rows =
    -- a read and a write, either of them first, and two writes; not two reads, not two cells, not one job's own steps
    log (opens 1 ∷ opens 2 ∷ reads 1 5 ∷ writes 2 5 ∷ []) with 2 ∷ 1 ∷ [] gets 16 at 3
    ∷ log (opens 1 ∷ opens 2 ∷ writes 1 5 ∷ reads 2 5 ∷ []) with 2 ∷ 1 ∷ [] gets 16 at 3
    ∷ log (opens 1 ∷ opens 2 ∷ writes 1 5 ∷ writes 2 5 ∷ []) with 2 ∷ 1 ∷ [] gets 16 at 3
    ∷ log (opens 1 ∷ opens 2 ∷ reads 1 5 ∷ reads 2 5 ∷ []) with 2 ∷ 1 ∷ [] gets 0 at 2
    ∷ log (opens 1 ∷ opens 2 ∷ writes 1 5 ∷ writes 2 6 ∷ []) with 2 ∷ 1 ∷ [] gets 0 at 2
    ∷ log_after p7 with 1 ∷ [] gets 0 at 1
    -- P3: pairs at 2 and 3, job 2 before job 1, and at 4 and 5, job 1 ended before job 3 was opened
    ∷ log_after p3 with 2 ∷ 1 ∷ 3 ∷ [] gets 0 at 3
    ∷ log_after p3 with 1 ∷ 2 ∷ 3 ∷ [] gets 16 at 3
    ∷ log_after p3 with 2 ∷ 3 ∷ 1 ∷ [] gets 16 at 5
    ∷ log_after p3 with 3 ∷ 2 ∷ 1 ∷ [] gets 16 at 5
    -- with the write of job 2 granted too there is a pair more, at 6 and 8, job 3 before job 2; whatever the order, one is backward
    ∷ old_p3 with 1 ∷ 2 ∷ 3 ∷ [] gets 16 at 3
    ∷ old_p3 with 1 ∷ 3 ∷ 2 ∷ [] gets 16 at 3
    ∷ old_p3 with 2 ∷ 1 ∷ 3 ∷ [] gets 16 at 8
    ∷ old_p3 with 2 ∷ 3 ∷ 1 ∷ [] gets 16 at 5
    ∷ old_p3 with 3 ∷ 1 ∷ 2 ∷ [] gets 16 at 3
    ∷ old_p3 with 3 ∷ 2 ∷ 1 ∷ [] gets 16 at 5
    -- the lowest later record, though the other pair begins sooner: pairs at 2 and 5, and at 3 and 4
    ∷ log (opens 1 ∷ opens 2 ∷ writes 1 5 ∷ writes 1 6 ∷ reads 2 6 ∷ reads 2 5 ∷ []) with 2 ∷ 1 ∷ [] gets 16 at 4
    -- the examples of the rules
    ∷ log log_a with 5 ∷ 4 ∷ [] gets 0 at 2
    ∷ log log_a with 4 ∷ 5 ∷ [] gets 16 at 3
    ∷ log log_a with 5 ∷ [] gets 15 at 1
    ∷ log log_a with 4 ∷ 5 ∷ 4 ∷ [] gets 15 at 2
    ∷ log log_b with 5 ∷ 4 ∷ [] gets 16 at 4
    ∷ log log_b with 4 ∷ 5 ∷ [] gets 16 at 3
    -- a circle: whatever the order, one pair is backward
    ∷ circle with 1 ∷ 2 ∷ [] gets 16 at 5
    ∷ circle with 2 ∷ 1 ∷ [] gets 16 at 3
    -- and so where the values of the pair are read by nobody
    ∷ log overwritten with 1 ∷ 2 ∷ 3 ∷ 4 ∷ [] gets 16 at 7
    ∷ log overwritten with 2 ∷ 1 ∷ 3 ∷ 4 ∷ [] gets 16 at 5
    ∷ []

pub pair_rows_hold : AsExpected pair_rows
unfolding checked
pair_rows_hold c = rows checked (λ c. c.expected) (refl, (refl, (refl, (refl, (refl, (refl, (refl, (refl, (refl, (refl, (refl, (refl, (refl, (refl, (refl, (refl, (refl, (refl, (refl, (refl, (refl, (refl, (refl, (refl, (refl, (refl, (refl, tt)))))))))))))))))))))))))))

-- adds
abbrev pub add_rows : List CheckCase
add_rows =
    -- two jobs' adds, the one first to the one cell and the other to the other: either order
    log_after adds_alone with 1 ∷ 2 ∷ [] gets 0 at 2
    ∷ log_after adds_alone with 2 ∷ 1 ∷ [] gets 0 at 2
    -- an add with another job's read and with another job's write, either of them first; not on two cells
    ∷ log (opens 1 ∷ opens 2 ∷ adds 1 5 ∷ reads 2 5 ∷ []) with 2 ∷ 1 ∷ [] gets 16 at 3
    ∷ log (opens 1 ∷ opens 2 ∷ reads 1 5 ∷ adds 2 5 ∷ []) with 2 ∷ 1 ∷ [] gets 16 at 3
    ∷ log (opens 1 ∷ opens 2 ∷ adds 1 5 ∷ writes 2 5 ∷ []) with 2 ∷ 1 ∷ [] gets 16 at 3
    ∷ log (opens 1 ∷ opens 2 ∷ writes 1 5 ∷ adds 2 5 ∷ []) with 2 ∷ 1 ∷ [] gets 16 at 3
    ∷ log (opens 1 ∷ opens 2 ∷ adds 1 5 ∷ reads 2 6 ∷ []) with 2 ∷ 1 ∷ [] gets 0 at 2
    -- a read after the adds of two jobs comes after both, whichever of them is first
    ∷ log (opens 1 ∷ opens 2 ∷ opens 3 ∷ adds 1 5 ∷ adds 2 5 ∷ reads 3 5 ∷ []) with 2 ∷ 1 ∷ 3 ∷ [] gets 0 at 3
    ∷ log (opens 1 ∷ opens 2 ∷ opens 3 ∷ adds 1 5 ∷ adds 2 5 ∷ reads 3 5 ∷ []) with 1 ∷ 3 ∷ 2 ∷ [] gets 16 at 5
    ∷ []

pub add_rows_hold : AsExpected add_rows
unfolding checked
add_rows_hold c = rows checked (λ c. c.expected) (refl, (refl, (refl, (refl, (refl, (refl, (refl, (refl, (refl, tt)))))))))

-- an end and an opening after it, with no step at all or with some
abbrev pub time_rows : List CheckCase
time_rows =
    -- the later record is the open; not where the other was opened before the end, nor an abandon in place of the end, nor where the later job is abandoned
    log (opens 1 ∷ end 1 ∷ opens 2 ∷ []) with 1 ∷ 2 ∷ [] gets 0 at 2
    ∷ log (opens 1 ∷ end 1 ∷ opens 2 ∷ []) with 2 ∷ 1 ∷ [] gets 16 at 2
    ∷ log (opens 1 ∷ opens 2 ∷ end 1 ∷ end 2 ∷ []) with 2 ∷ 1 ∷ [] gets 0 at 2
    ∷ log (opens 1 ∷ abandon 1 ∷ opens 2 ∷ []) with 2 ∷ [] gets 0 at 1
    ∷ log (opens 1 ∷ end 1 ∷ opens 2 ∷ abandon 2 ∷ opens 3 ∷ []) with 1 ∷ 3 ∷ [] gets 0 at 2
    -- three jobs one after the other: pairs at 1 and 2, at 1 and 4, at 3 and 4
    ∷ log (opens 1 ∷ end 1 ∷ opens 2 ∷ end 2 ∷ opens 3 ∷ []) with 1 ∷ 2 ∷ 3 ∷ [] gets 0 at 3
    ∷ log (opens 1 ∷ end 1 ∷ opens 2 ∷ end 2 ∷ opens 3 ∷ []) with 1 ∷ 3 ∷ 2 ∷ [] gets 16 at 4
    ∷ log (opens 1 ∷ end 1 ∷ opens 2 ∷ end 2 ∷ opens 3 ∷ []) with 2 ∷ 3 ∷ 1 ∷ [] gets 16 at 2
    -- a conflicting pair too: its later step stands after the open, at 4, and before it, at 3
    ∷ log (opens 1 ∷ writes 1 5 ∷ end 1 ∷ opens 2 ∷ reads 2 5 ∷ []) with 2 ∷ 1 ∷ [] gets 16 at 3
    ∷ log (opens 1 ∷ opens 2 ∷ writes 1 5 ∷ reads 2 5 ∷ end 1 ∷ opens 3 ∷ []) with 3 ∷ 2 ∷ 1 ∷ [] gets 16 at 3
    ∷ log (opens 1 ∷ opens 2 ∷ writes 1 5 ∷ reads 2 5 ∷ end 1 ∷ opens 3 ∷ []) with 3 ∷ 1 ∷ 2 ∷ [] gets 16 at 5
    -- steps on cell 0 are no openings and no ends: job 2 before job 1
    ∷ log (opens 1 ∷ opens 2 ∷ reads 1 0 ∷ writes 1 7 ∷ end 1 ∷ reads 2 0 ∷ end 2 ∷ []) with 2 ∷ 1 ∷ [] gets 0 at 2
    ∷ []

pub time_rows_hold : AsExpected time_rows
unfolding checked
time_rows_hold c = rows checked (λ c. c.expected) (refl, (refl, (refl, (refl, (refl, (refl, (refl, (refl, (refl, (refl, (refl, (refl, tt))))))))))))

-- numbers and bytes; how many jobs are open
abbrev pub number_rows : List CheckCase
number_rows =
    -- job 0 and job 4,294,967,295
    ends_of_range with 4_294_967_295 ∷ 0 ∷ [] gets 0 at 2
    ∷ ends_of_range with 0 ∷ 4_294_967_295 ∷ [] gets 16 at 3
    ∷ log_after p8 with 4_294_967_295 ∷ [] gets 0 at 1
    -- low byte first: job 4 + 3 · 256 + 2 · 65,536 + 1 · 16,777,216, and cell 256
    ∷ (1 ∷ 0 ∷ 0 ∷ 0 ∷ 4 ∷ 3 ∷ 2 ∷ 1 ∷ []) with 16_909_060 ∷ [] gets 0 at 1
    ∷ (log (opens 1 ∷ []) ++ 2 ∷ 0 ∷ 0 ∷ 1 ∷ 1 ∷ 0 ∷ 0 ∷ 0 ∷ []) with 1 ∷ [] gets 12 at 1
    -- 33 jobs, all open
    ∷ log (map opens (up_to 33 [])) with up_to 33 [] gets 0 at 33
    ∷ []

pub number_rows_hold : AsExpected number_rows
unfolding checked
number_rows_hold c = rows checked (λ c. c.expected) (refl, (refl, (refl, (refl, (refl, (refl, tt))))))

-- the whole table
abbrev pub check_table : List CheckCase
check_table = entry_rows ++ length_rows ++ form_rows ++ turn_rows ++ fault_rows ++ kept_rows ++ pair_rows ++ add_rows ++ time_rows ++ number_rows

-- ---- the lister

pub record ListCase : Type 0 where
  pub bytes : List ℕ
  pub lent : List ℕ
  pub expected : Listed

infix 70 ◌into◌gets◌at◌leaving◌
abbrev pub ◌into◌gets◌at◌leaving◌ : List ℕ → List ℕ → ℕ → ℕ → List ℕ → ListCase
l into o gets c at p leaving k = record { bytes = l; lent = o; expected = record { code = c; place = p; list = k } }

-- the whole table; 7, 8 and 9, the entries lent, are no jobs of any log here
abbrev pub list_table : List ListCase
list_table =
    -- P1: an entry more than needed, just enough, one short, none
    log_after p1 into 7 ∷ 8 ∷ 9 ∷ [] gets 0 at 2 leaving (1 ∷ 2 ∷ 9 ∷ [])
    ∷ log_after p1 into 7 ∷ 8 ∷ [] gets 0 at 2 leaving (1 ∷ 2 ∷ [])
    ∷ log_after p1 into 7 ∷ [] gets 18 at 2 leaving (7 ∷ [])
    ∷ log_after p1 into [] gets 18 at 2 leaving []
    -- P3: 2, 1, 3 is its one order; with the write of job 2 granted too it has none
    ∷ log_after p3 into 7 ∷ 8 ∷ 9 ∷ [] gets 0 at 3 leaving (2 ∷ 1 ∷ 3 ∷ [])
    ∷ old_p3 into 7 ∷ 8 ∷ 9 ∷ [] gets 17 at 0 leaving (7 ∷ 8 ∷ 9 ∷ [])
    ∷ old_p3 into 7 ∷ 8 ∷ [] gets 18 at 3 leaving (7 ∷ 8 ∷ [])
    -- P6: job 2, abandoned, needs no room
    ∷ log_after p6 into 7 ∷ 8 ∷ 9 ∷ [] gets 0 at 2 leaving (3 ∷ 1 ∷ 9 ∷ [])
    ∷ log_after p6 into 7 ∷ 8 ∷ [] gets 0 at 2 leaving (3 ∷ 1 ∷ [])
    -- no conflict: 3 and then 6; 3 precedes 1, and nothing else: 2 first; 2 precedes 1, and nothing else: 1 as soon as 2 is placed
    ∷ log (opens 3 ∷ opens 6 ∷ reads 6 5 ∷ reads 3 5 ∷ end 6 ∷ []) into 7 ∷ 8 ∷ [] gets 0 at 2 leaving (3 ∷ 6 ∷ [])
    ∷ log (opens 1 ∷ opens 2 ∷ opens 3 ∷ writes 3 5 ∷ reads 1 5 ∷ []) into 7 ∷ 8 ∷ 9 ∷ [] gets 0 at 3 leaving (2 ∷ 3 ∷ 1 ∷ [])
    ∷ log (opens 1 ∷ opens 2 ∷ opens 3 ∷ writes 2 5 ∷ reads 1 5 ∷ []) into 7 ∷ 8 ∷ 9 ∷ [] gets 0 at 3 leaving (2 ∷ 1 ∷ 3 ∷ [])
    -- no job, or none kept
    ∷ [] into [] gets 0 at 0 leaving []
    ∷ [] into 7 ∷ 8 ∷ [] gets 0 at 0 leaving (7 ∷ 8 ∷ [])
    ∷ log (opens 1 ∷ abandon 1 ∷ []) into 7 ∷ [] gets 0 at 0 leaving (7 ∷ [])
    -- a circle, with room and without
    ∷ circle into 7 ∷ 8 ∷ [] gets 17 at 0 leaving (7 ∷ 8 ∷ [])
    ∷ circle into 7 ∷ 8 ∷ 9 ∷ [] gets 17 at 0 leaving (7 ∷ 8 ∷ 9 ∷ [])
    ∷ circle into 7 ∷ [] gets 18 at 2 leaving (7 ∷ [])
    -- a circle of 2 and 3; job 1 could have been placed
    ∷ log (opens 1 ∷ opens 2 ∷ opens 3 ∷ writes 2 5 ∷ writes 3 5 ∷ writes 2 5 ∷ []) into 7 ∷ 8 ∷ 9 ∷ [] gets 17 at 0 leaving (7 ∷ 8 ∷ 9 ∷ [])
    -- adds of two jobs: 1 first; a read between them makes a circle
    ∷ log_after adds_alone into 7 ∷ 8 ∷ [] gets 0 at 2 leaving (1 ∷ 2 ∷ [])
    ∷ log (opens 1 ∷ opens 2 ∷ adds 1 5 ∷ reads 2 5 ∷ adds 1 5 ∷ []) into 7 ∷ 8 ∷ [] gets 17 at 0 leaving (7 ∷ 8 ∷ [])
    -- a circle of 1 and 2 whose writes nobody reads: 17 speaks of conflicting pairs only, R143
    ∷ log overwritten into 7 ∷ 8 ∷ 9 ∷ 9 ∷ [] gets 17 at 0 leaving (7 ∷ 8 ∷ 9 ∷ 9 ∷ [])
    -- a circle of 1, 2 and 3, and what is left of it when job 2 is abandoned: 3 precedes 1
    ∷ log (chain ++ reads 1 6 ∷ []) into 7 ∷ 8 ∷ 9 ∷ [] gets 17 at 0 leaving (7 ∷ 8 ∷ 9 ∷ [])
    ∷ log (chain ++ reads 1 6 ∷ abandon 2 ∷ []) into 7 ∷ 8 ∷ 9 ∷ [] gets 0 at 2 leaving (3 ∷ 1 ∷ 9 ∷ [])
    -- faulty logs, the third with no room, the last with a circle
    ∷ (1 ∷ []) into 7 ∷ 8 ∷ [] gets 11 at 0 leaving (7 ∷ 8 ∷ [])
    ∷ log (opens 1 ∷ raw 0 0 0 1 ∷ []) into 7 ∷ 8 ∷ [] gets 12 at 1 leaving (7 ∷ 8 ∷ [])
    ∷ log (opens 1 ∷ reads 2 5 ∷ []) into [] gets 13 at 1 leaving []
    ∷ (circle ++ log (end 1 ∷ reads 1 7 ∷ [])) into 7 ∷ 8 ∷ [] gets 13 at 7 leaving (7 ∷ 8 ∷ [])
    -- the examples of the rules
    ∷ log log_a into 7 ∷ 8 ∷ 9 ∷ [] gets 0 at 2 leaving (5 ∷ 4 ∷ 9 ∷ [])
    ∷ log log_a into 7 ∷ [] gets 18 at 2 leaving (7 ∷ [])
    ∷ log log_b into 7 ∷ 8 ∷ [] gets 17 at 0 leaving (7 ∷ 8 ∷ [])
    ∷ log log_b into 7 ∷ [] gets 18 at 2 leaving (7 ∷ [])
    -- job 0 and job 4,294,967,295
    ∷ ends_of_range into 7 ∷ 8 ∷ 9 ∷ [] gets 0 at 2 leaving (4_294_967_295 ∷ 0 ∷ 9 ∷ [])
    ∷ []

unfoldable pub answered : ListCase → Listed
unfolding computed list_order read_log fault_of ill_formed out_of_turn too_many listed
answered c = list_order c.bytes c.lent

-- the lister's answer to every row is the one expected, and so is what then stands in the list
pub list_cases : (c : ListCase) → c ∈ list_table → list_order c.bytes c.lent ≡ c.expected
unfolding answered
list_cases c = rows answered (λ c. c.expected) (refl, (refl, (refl, (refl, (refl, (refl, (refl, (refl, (refl, (refl, (refl, (refl, (refl, (refl, (refl, (refl, (refl, (refl, (refl, (refl, (refl, (refl, (refl, (refl, (refl, (refl, (refl, (refl, (refl, (refl, (refl, (refl, (refl, tt)))))))))))))))))))))))))))))))))

-- ---- the two limits, of any log

module _ (bytes : List ℕ) where
  bytes_test : Decides (not (eqb (length bytes % 8) 0) || ltb 32_768 (length bytes)) ((length bytes % 8 ≡ 0 → ⊥) ⊎ (32_768 < length bytes))
  bytes_test = or_test (not_test (eq_test (length bytes % 8) 0)) (lt_test 32_768 (length bytes))

  -- more than 32,768 bytes get 11; a multiple of 8 up to there goes on to the records
  pub bytes_above : 32_768 < length bytes → read_log bytes ≡ faulty 11 0
  unfolding read_log
  bytes_above l = ap (λ (b : Bool). cond b (faulty 11 0) (read_from [] 0 (records bytes))) (test_true bytes_test (inr l))

  pub bytes_within : length bytes % 8 ≡ 0 → length bytes ≤ 32_768 → read_log bytes ≡ read_from [] 0 (records bytes)
  unfolding read_log
  bytes_within m l = ap (λ (b : Bool). cond b (faulty 11 0) (read_from [] 0 (records bytes))) (test_false bytes_test (⊎_elim (λ f. f m) (λ q. omega arith)))
