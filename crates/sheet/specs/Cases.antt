-- Tried logs: what the sheet's answer is to a log and a lent list, and what it leaves in the list, in one table under one statement (`sheet_cases`, in proofs/CaseLaws.antt), computed from the definitions. A row is
-- as those of the lister are in the Cases of `verdicts`. And the order that a longer log is accepted with, where its own sheet begins otherwise (`still_accepted`).
-- Assumes nothing.
use Rattle.std.specs.Prelude.{◌≡◌, refl, List, [], ◌∷◌, ◌++◌}
use Rattle.std.proofs.Common.{⊎_elim}
use mathlib.Core.List.Memᴰ
use Rattle.graph.specs.Lists.{◌∈◌}
use Rattle.history.specs.Cases.{reads, writes, adds, end, abandon, computed, p1, p3, p6, rows}
use Rattle.history.specs.Replies.{Request}
use Rattle.verdicts.specs.Cases.{opens, raw, log, log_after, chain, circle, old_p3, ends_of_range, checked, ListCase, ◌into◌gets◌at◌leaving◌}
use Rattle.verdicts.specs.Logs.{ill_formed, out_of_turn, too_many, fault_of, read_log}
use Rattle.verdicts.specs.Verdicts.{verdict, check, Listed}
use Rattle.sheet.specs.Sheet.{leads, at_rest, resting, sheet_of, sheeted, list_sheet}

-- 3 precedes 1 by cell 5; 2 does nothing
abbrev pub crossed : List Request
crossed = opens 1 ∷ opens 2 ∷ opens 3 ∷ writes 3 5 ∷ reads 1 5 ∷ []

-- 2 precedes 3 and 3 precedes 2, by cell 5; 1 does nothing
abbrev pub beside : List Request
beside = opens 1 ∷ opens 2 ∷ opens 3 ∷ writes 2 5 ∷ writes 3 5 ∷ writes 2 5 ∷ []

-- opens every definition that the tables compute with
unfoldable pub answered : ListCase → Listed
unfolding computed list_sheet read_log fault_of ill_formed out_of_turn too_many sheeted sheet_of resting at_rest leads
answered c = list_sheet c.bytes c.lent

-- every row of a table comes out as expected
abbrev pub AsExpected : List ListCase → Type 0
AsExpected t = (c : ListCase) → c ∈ t → list_sheet c.bytes c.lent ≡ c.expected

-- of two tables, one after the other
infixr 5 ◌and◌
pub ◌and◌ : {t u : List ListCase} → AsExpected t → AsExpected u → AsExpected (t ++ u)
◌and◌ {t} f g c m = ⊎_elim (f c) (g c) (Memᴰ.append_cases t m)

-- 7, 8 and 9, the entries lent, are no jobs of any log here

-- which jobs are at rest
abbrev pub rest_rows : List ListCase
rest_rows =
    -- ended, and nobody leads to it; open, though nobody leads to it; of no job
    log (opens 1 ∷ end 1 ∷ []) into 7 ∷ 8 ∷ [] gets 0 at 1 leaving (1 ∷ 8 ∷ [])
    ∷ log (opens 1 ∷ []) into 7 ∷ [] gets 0 at 0 leaving (7 ∷ [])
    ∷ [] into [] gets 0 at 0 leaving []
    ∷ [] into 7 ∷ [] gets 0 at 0 leaving (7 ∷ [])
    -- two jobs, the second ended: the first leads to it, by a step; does not; comes after it; adds, as it does; adds, where the second reads
    ∷ log (opens 1 ∷ opens 2 ∷ writes 1 5 ∷ reads 2 5 ∷ end 2 ∷ []) into 7 ∷ [] gets 0 at 0 leaving (7 ∷ [])
    ∷ log (opens 1 ∷ opens 2 ∷ reads 1 5 ∷ reads 2 5 ∷ end 2 ∷ []) into 7 ∷ [] gets 0 at 1 leaving (2 ∷ [])
    ∷ log (opens 1 ∷ opens 2 ∷ reads 2 5 ∷ end 2 ∷ writes 1 5 ∷ []) into 7 ∷ [] gets 0 at 1 leaving (2 ∷ [])
    ∷ log (opens 1 ∷ opens 2 ∷ adds 1 5 ∷ adds 2 5 ∷ end 2 ∷ []) into 7 ∷ [] gets 0 at 1 leaving (2 ∷ [])
    ∷ log (opens 1 ∷ opens 2 ∷ adds 1 5 ∷ reads 2 5 ∷ end 2 ∷ []) into 7 ∷ [] gets 0 at 0 leaving (7 ∷ [])
    -- an open job that was opened after the end comes after it
    ∷ log (opens 1 ∷ end 1 ∷ opens 2 ∷ []) into 7 ∷ [] gets 0 at 1 leaving (1 ∷ [])
    -- 1 leads to 2 and 2 to 3: which of them rest, by which one is open
    ∷ log (chain ++ end 2 ∷ end 3 ∷ []) into 7 ∷ 8 ∷ 9 ∷ [] gets 0 at 0 leaving (7 ∷ 8 ∷ 9 ∷ [])
    ∷ log (chain ++ end 1 ∷ end 3 ∷ []) into 7 ∷ 8 ∷ 9 ∷ [] gets 0 at 1 leaving (1 ∷ 8 ∷ 9 ∷ [])
    ∷ log (chain ++ end 1 ∷ end 2 ∷ []) into 7 ∷ 8 ∷ 9 ∷ [] gets 0 at 2 leaving (1 ∷ 2 ∷ 9 ∷ [])
    ∷ log (chain ++ end 1 ∷ end 2 ∷ end 3 ∷ []) into 7 ∷ 8 ∷ 9 ∷ [] gets 0 at 3 leaving (1 ∷ 2 ∷ 3 ∷ [])
    -- with 2 abandoned nothing leads to 3; an abandoned job is not listed
    ∷ log (chain ++ abandon 2 ∷ end 3 ∷ []) into 7 ∷ [] gets 0 at 1 leaving (3 ∷ [])
    ∷ log (opens 1 ∷ opens 2 ∷ reads 1 5 ∷ writes 2 5 ∷ end 2 ∷ abandon 1 ∷ []) into 7 ∷ 8 ∷ [] gets 0 at 1 leaving (2 ∷ 8 ∷ [])
    -- by time: 1 is open and leads to 2 by cell 5, and 2 ended before 3 was opened; without the read of 1 both rest
    ∷ log (opens 1 ∷ opens 2 ∷ reads 1 5 ∷ writes 2 5 ∷ end 2 ∷ opens 3 ∷ end 3 ∷ []) into 7 ∷ 8 ∷ [] gets 0 at 0 leaving (7 ∷ 8 ∷ [])
    ∷ log (opens 1 ∷ opens 2 ∷ writes 2 5 ∷ end 2 ∷ opens 3 ∷ end 3 ∷ []) into 7 ∷ 8 ∷ [] gets 0 at 2 leaving (2 ∷ 3 ∷ [])
    ∷ []

pub rest_rows_hold : AsExpected rest_rows
unfolding answered
rest_rows_hold c = rows answered (λ c. c.expected) (refl, (refl, (refl, (refl, (refl, (refl, (refl, (refl, (refl, (refl, (refl, (refl, (refl, (refl, (refl, (refl, (refl, (refl, tt))))))))))))))))))

-- in which order, and with how much room
abbrev pub order_rows : List ListCase
order_rows =
    -- 3 precedes 1, and 2 is open or has ended: the lowest that is ready first
    log (crossed ++ end 1 ∷ end 3 ∷ []) into 7 ∷ 8 ∷ [] gets 0 at 2 leaving (3 ∷ 1 ∷ [])
    ∷ log (crossed ++ end 1 ∷ end 2 ∷ end 3 ∷ []) into 7 ∷ 8 ∷ 9 ∷ [] gets 0 at 3 leaving (2 ∷ 3 ∷ 1 ∷ [])
    -- two jobs that nothing orders, the higher one ended first: the sheet of the longer log need not begin with that of the shorter
    ∷ log (opens 1 ∷ opens 2 ∷ end 2 ∷ []) into 7 ∷ 8 ∷ [] gets 0 at 1 leaving (2 ∷ 8 ∷ [])
    ∷ log (opens 1 ∷ opens 2 ∷ end 2 ∷ end 1 ∷ []) into 7 ∷ 8 ∷ [] gets 0 at 2 leaving (1 ∷ 2 ∷ [])
    -- room for the jobs at rest is enough, and one less is not
    ∷ log (opens 1 ∷ opens 2 ∷ end 2 ∷ []) into 7 ∷ [] gets 0 at 1 leaving (2 ∷ [])
    ∷ log (opens 1 ∷ opens 2 ∷ end 2 ∷ []) into [] gets 18 at 1 leaving []
    ∷ log (crossed ++ end 1 ∷ end 3 ∷ []) into 7 ∷ [] gets 18 at 2 leaving (7 ∷ [])
    -- P1 and P3, where all jobs have ended, and P6, where none has
    ∷ log_after p1 into 7 ∷ 8 ∷ 9 ∷ [] gets 0 at 2 leaving (1 ∷ 2 ∷ 9 ∷ [])
    ∷ log_after p3 into 7 ∷ 8 ∷ 9 ∷ [] gets 0 at 3 leaving (2 ∷ 1 ∷ 3 ∷ [])
    ∷ log_after p6 into 7 ∷ [] gets 0 at 0 leaving (7 ∷ [])
    -- job 0 and job 4,294,967,295
    ∷ (ends_of_range ++ log (end 0 ∷ end 4_294_967_295 ∷ [])) into 7 ∷ 8 ∷ [] gets 0 at 2 leaving (4_294_967_295 ∷ 0 ∷ [])
    ∷ (ends_of_range ++ log (end 4_294_967_295 ∷ [])) into 7 ∷ [] gets 0 at 1 leaving (4_294_967_295 ∷ [])
    ∷ []

pub order_rows_hold : AsExpected order_rows
unfolding answered
order_rows_hold c = rows answered (λ c. c.expected) (refl, (refl, (refl, (refl, (refl, (refl, (refl, (refl, (refl, (refl, (refl, (refl, tt))))))))))))

-- no order, and faulty logs
abbrev pub refused_rows : List ListCase
refused_rows =
    -- a circle of two jobs, both ended, with room and without; both open, where there is none at rest
    (circle ++ log (end 1 ∷ end 2 ∷ [])) into 7 ∷ 8 ∷ [] gets 17 at 0 leaving (7 ∷ 8 ∷ [])
    ∷ (circle ++ log (end 1 ∷ end 2 ∷ [])) into 7 ∷ [] gets 18 at 2 leaving (7 ∷ [])
    ∷ circle into [] gets 17 at 0 leaving []
    -- a circle of 2 and 3, open, beside job 1 at rest: 17 is about the whole log
    ∷ log (beside ++ end 1 ∷ []) into 7 ∷ [] gets 17 at 0 leaving (7 ∷ [])
    ∷ log (beside ++ end 1 ∷ []) into [] gets 18 at 1 leaving []
    -- with the write of job 2 granted too, P3's log
    ∷ old_p3 into 7 ∷ 8 ∷ 9 ∷ [] gets 17 at 0 leaving (7 ∷ 8 ∷ 9 ∷ [])
    -- faults of the log come first
    ∷ (1 ∷ []) into 7 ∷ [] gets 11 at 0 leaving (7 ∷ [])
    ∷ log (opens 1 ∷ end 1 ∷ raw 0 0 0 1 ∷ []) into [] gets 12 at 2 leaving []
    ∷ (circle ++ log (end 1 ∷ reads 1 7 ∷ [])) into 7 ∷ 8 ∷ [] gets 13 at 7 leaving (7 ∷ 8 ∷ [])
    ∷ []

pub refused_rows_hold : AsExpected refused_rows
unfolding answered
refused_rows_hold c = rows answered (λ c. c.expected) (refl, (refl, (refl, (refl, (refl, (refl, (refl, (refl, (refl, tt)))))))))

-- the whole table
abbrev pub sheet_table : List ListCase
sheet_table = rest_rows ++ order_rows ++ refused_rows

-- the sheet of the shorter log was 2, and that of the longer is 1, 2; but 2, 1 is an accepted order of it too
pub still_accepted : check (log (opens 1 ∷ opens 2 ∷ end 2 ∷ end 1 ∷ [])) (2 ∷ 1 ∷ []) ≡ verdict 0 2
unfolding checked
still_accepted = refl
