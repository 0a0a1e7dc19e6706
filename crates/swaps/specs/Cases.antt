-- Computed tables: pairs of neighbouring requests after a list of others, each with whether they are clear of each other, the replies in the one order and in the other, and whether the two
-- orders leave the same rows (`pairs_tried`), the same in the coarse mode (`coarse_pairs_tried`); steps given twice (`twice_tried`). And why two steps in conflict may not change places (`not_when_clashing`, `refused_when_clashing`).
-- Assumes nothing.
use Rattle.std.specs.Prelude.{◌≡◌, refl, Bool, true, false, ◌&&◌, List, [], ◌∷◌, ℕ, ◌*◌, eqb, take}
use Rattle.std.proofs.Common.{ap, arith}
use Rattle.graph.specs.Lists.{◌∈◌}
use Rattle.history.specs.Events.{Kind, read, write, add}
use Rattle.history.specs.Replies.{Request, Reply, Want, a_step, want}
use Rattle.history.specs.Cases.{open_one, reads, writes, adds, end, granted, refused, rows}
use Rattle.held.specs.Held.{Held, row_words, fresh_held, leads_at, answers, after_all}
use Rattle.held.specs.Cases.{held_answers}
use Rattle.coarse.specs.Coarse.{group}
use Rattle.coarse.specs.CoarseHeld.{coarse_answer, coarse_next, coarse_answers, coarse_state}
use Rattle.swaps.specs.Swaps.{clear}
use Rattle.swaps.specs.CoarseSwaps.{group_clear}

-- ---- the same rows

abbrev pub same_numbers : List ℕ → List ℕ → Bool
same_numbers [] [] = true
same_numbers [] (y ∷ ys) = false
same_numbers (x ∷ xs) [] = false
same_numbers (x ∷ xs) (y ∷ ys) = eqb x y && same_numbers xs ys

-- the leads of all slots and the words of the four lowest rows: no job below has a slot above them. That nothing else differs either is proved, for every state (SwapPromises)
abbrev pub same_rows : Held → Held → Bool
same_rows x y = same_numbers x.leads y.leads && same_numbers (take (4 * row_words) x.sets) (take (4 * row_words) y.sets)

-- ---- pairs

-- after the requests of `before`, from first number 1: a step of kind `one_kind` and one of kind `other_kind`
pub record Pair : Type 0 where
  pub before : List Request
  pub one_kind : Kind
  pub other_kind : Kind
  pub one : Request
  pub other : Request
  -- what is expected: are they clear, the replies to the one and then the other, the replies to the other and then the one, the same rows?
  pub is_clear : Bool
  pub forth : List Reply
  pub back : List Reply
  pub same : Bool

pub record Found : Type 0 where
  pub asked : List Want
  pub is_clear : Bool
  pub forth : List Reply
  pub back : List Reply
  pub same : Bool

abbrev pub expected : Pair → Found
expected p = record { asked = a_step p.one_kind ∷ a_step p.other_kind ∷ []; is_clear = p.is_clear; forth = p.forth; back = p.back; same = p.same }

unfoldable pub tried : Pair → Found
unfolding held_answers
tried p =
    let h = after_all (fresh_held 1) p.before in
    let one_way = p.one ∷ p.other ∷ [] in
    let other_way = p.other ∷ p.one ∷ [] in
    record {
      asked = want p.one.kind ∷ want p.other.kind ∷ [];
      is_clear = clear p.one_kind p.other_kind p.one p.other;
      forth = answers h one_way;
      back = answers h other_way;
      same = same_rows (after_all h one_way) (after_all h other_way);
    }

-- a pair that changes places: both granted either way
abbrev pub changes : List Request → Kind → Kind → Request → Request → Pair
changes before k l a b =
    record {
      before = before;
      one_kind = k;
      other_kind = l;
      one = a;
      other = b;
      is_clear = true;
      forth = granted a.job ∷ granted b.job ∷ [];
      back = granted b.job ∷ granted a.job ∷ [];
      same = true;
    }

-- a pair in conflict, granted one way; the replies the other way are given
abbrev pub clashes : List Request → Kind → Kind → Request → Request → List Reply → Pair
clashes before k l a b back =
    record {
      before = before;
      one_kind = k;
      other_kind = l;
      one = a;
      other = b;
      is_clear = false;
      forth = granted a.job ∷ granted b.job ∷ [];
      back = back;
      same = false;
    }

-- jobs 1 and 2 are open
abbrev pub two_open : List Request
two_open = open_one ∷ open_one ∷ []

-- and 1 leads to 2
abbrev pub one_leads : List Request
one_leads = open_one ∷ open_one ∷ writes 1 6 ∷ reads 2 6 ∷ []

-- 1 and 2 have a past: job 3 has read what they altered, has added to cell 5 and has ended. Then 4 is opened, and they lead to it
abbrev pub with_past : List Request
with_past = open_one ∷ open_one ∷ open_one ∷ writes 1 6 ∷ adds 2 7 ∷ reads 3 6 ∷ reads 3 7 ∷ adds 3 5 ∷ end 3 ∷ open_one ∷ []

-- two reads of one cell; two adds of one cell; a read and a write of two cells; a read and a write of one cell by one job
abbrev pub two_reads : Pair
two_reads = changes two_open read read (reads 1 5) (reads 2 5)

abbrev pub two_adds : Pair
two_adds = changes two_open add add (adds 1 5) (adds 2 5)

-- in the exact mode, two cells of one group too
abbrev pub two_neighbours : Pair
two_neighbours = changes two_open write write (writes 1 80) (writes 2 95)

abbrev pub two_cells : Pair
two_cells = changes two_open read write (reads 1 5) (writes 2 6)

abbrev pub one_job : Pair
one_job = changes two_open read write (reads 1 5) (writes 1 5)

-- where 1 leads to 2, on two cells; the adds of one job, one on a cell that an ended job has added to; a read of that cell, and an add of another by a job that leads to the reader
abbrev pub led_to : Pair
led_to = changes one_leads write add (writes 1 5) (adds 2 9)

abbrev pub past_adds : Pair
past_adds = changes with_past add add (adds 4 5) (adds 4 200)

abbrev pub past_read : Pair
past_read = changes with_past read add (reads 4 5) (adds 1 9)

-- two writes of one cell, a read and an add of one cell, an add and a write of one cell: each order is granted and leaves its own state
abbrev pub two_writes : Pair
two_writes = clashes two_open write write (writes 1 5) (writes 2 5) (granted 2 ∷ granted 1 ∷ [])

abbrev pub read_add : Pair
read_add = clashes two_open read add (reads 1 5) (adds 2 5) (granted 2 ∷ granted 1 ∷ [])

abbrev pub add_write : Pair
add_write = clashes two_open add write (adds 1 5) (writes 2 5) (granted 2 ∷ granted 1 ∷ [])

-- where 1 leads to 2 the other order is refused
abbrev pub led_writes : Pair
led_writes = clashes one_leads write write (writes 1 5) (writes 2 5) (granted 2 ∷ refused 7 ∷ [])

abbrev pub pair_table : List Pair
pair_table = two_reads ∷ two_adds ∷ two_cells ∷ two_neighbours ∷ one_job ∷ two_writes ∷ read_add ∷ add_write ∷ led_writes ∷ led_to ∷ past_adds ∷ past_read ∷ []

pub pairs_tried : (p : Pair) → p ∈ pair_table → tried p ≡ expected p
unfolding tried
pairs_tried p = rows tried expected (refl, (refl, (refl, (refl, (refl, (refl, (refl, (refl, (refl, (refl, (refl, (refl, tt))))))))))))

-- ---- pairs of the coarse mode

unfoldable pub coarse_tried : Pair → Found
unfolding held_answers group coarse_answer coarse_next
coarse_tried p =
    let h = coarse_state (fresh_held 1) p.before in
    let one_way = p.one ∷ p.other ∷ [] in
    let other_way = p.other ∷ p.one ∷ [] in
    record {
      asked = want p.one.kind ∷ want p.other.kind ∷ [];
      is_clear = group_clear p.one_kind p.other_kind p.one p.other;
      forth = coarse_answers h one_way;
      back = coarse_answers h other_way;
      same = same_rows (coarse_state h one_way) (coarse_state h other_way);
    }

-- 80 and 95 are two cells of one group: by groups two writes there are in conflict, and each order leaves its own state. 95 and 96 are of two groups
abbrev pub in_one_group : Pair
in_one_group = clashes two_open write write (writes 1 80) (writes 2 95) (granted 2 ∷ granted 1 ∷ [])

abbrev pub in_two_groups : Pair
in_two_groups = changes two_open write write (writes 1 95) (writes 2 96)

pub coarse_pairs_tried : (p : Pair) → p ∈ in_one_group ∷ in_two_groups ∷ [] → coarse_tried p ≡ expected p
unfolding coarse_tried
coarse_pairs_tried p = rows coarse_tried expected (refl, (refl, tt))

-- ---- given twice

-- after the requests, the step: it gets the same reply twice, and the second leaves the state as it was
pub record Twice : Type 0 where
  pub before : List Request
  pub step : Request

unfoldable pub tried_twice : Twice → List Reply × Bool
unfolding held_answers
tried_twice t =
    let h = after_all (fresh_held 1) t.before in
    (answers h (t.step ∷ t.step ∷ []), same_rows (after_all h (t.step ∷ t.step ∷ [])) (after_all h (t.step ∷ [])))

abbrev pub expected_twice : Twice → List Reply × Bool
expected_twice t = (granted t.step.job ∷ granted t.step.job ∷ [], true)

-- a read once more, a write on a cell that the job has read, an add on a cell that an ended job has added to
abbrev pub twice_table : List Twice
twice_table =
    record { before = one_leads; step = reads 2 6 }
    ∷ record { before = one_leads; step = writes 2 6 }
    ∷ record { before = with_past; step = adds 4 5 }
    ∷ []

pub twice_tried : (t : Twice) → t ∈ twice_table → tried_twice t ≡ expected_twice t
unfolding tried_twice
twice_tried t = rows tried_twice expected_twice (refl, (refl, (refl, tt)))

-- ---- steps in conflict

-- two writes of one cell are granted in either order, and the one order leaves another state than the other: 1 leads to 2, or 2 to 1
abbrev pub two_jobs : Held
two_jobs = after_all (fresh_held 1) two_open

pub record BothGranted (h : Held) (a b : Request) : Type 0 where
  pub forth : answers h (a ∷ b ∷ []) ≡ granted a.job ∷ granted b.job ∷ []
  pub back : answers h (b ∷ a ∷ []) ≡ granted b.job ∷ granted a.job ∷ []
  pub differ : after_all h (b ∷ a ∷ []) ≡ after_all h (a ∷ b ∷ []) → ⊥

pub not_when_clashing : BothGranted two_jobs (writes 1 5) (writes 2 5)
unfolding held_answers
not_when_clashing =
    record {
      forth = refl;
      back = refl;
      differ = λ e. let q : ◌≡◌ {A = ℕ} 0 2 = ap (λ (h : Held). leads_at h 0) e in omega arith;
    }

-- and where 1 leads to 2 already the other order is refused
pub refused_when_clashing : (answers (after_all (fresh_held 1) one_leads) (writes 1 5 ∷ writes 2 5 ∷ []) ≡ granted 1 ∷ granted 2 ∷ [])
    × (answers (after_all (fresh_held 1) one_leads) (writes 2 5 ∷ writes 1 5 ∷ []) ≡ granted 2 ∷ refused 7 ∷ [])
unfolding held_answers
refused_when_clashing = (refl, refl)
