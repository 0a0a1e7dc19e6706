-- Nine plausible builds that are wrong: each a rule over the same memory as the right one, with a history on which it does not reply as
-- the full history does. One table under one statement (`wrong_builds`), computed from the definitions.
--
-- Six fail a P case. Three pass all of them, so each fails a history of our own (`own_cases` of Cases).
--
-- And of any arbiter whatever, with states of any sort, that answers as the full history does (`Exact`): it does not refuse every step (`grants_some`), nor let
-- every step through (`refuses_some`), its state moves at a step (`moves_at_a_step`), and moves truly at a job's later steps too (`later_steps_count`); what it holds tells the
-- ports of the jobs apart (`ports_count`).
-- Assumes nothing.
use Rattle.std.proofs.Math.Path.{◌≡◌, refl, sym, ap}
use Rattle.std.proofs.Common.{◌∙◌}
use Rattle.std.specs.Prelude.{Bool, true, false, not, ◌&&◌, ◌||◌, T, eqb}
use mathlib.Core.List.{List, [], ◌∷◌, ◌++◌, map}
use Prim.Native.Nat.{ℕ, zero, suc}
use native.Mathlib.Omega.{arith}
use Rattle.graph.specs.Lists.{◌∈◌, only}
use Rattle.graph.specs.Reach.{reach}
use Rattle.history.specs.Events.{Kind, read, write, Deed, does, opening, ending, History, has, Step, all_steps}
use Rattle.history.specs.Replies.{Request, Reply, a_step, want, replies, history_of}
use Rattle.history.specs.Memory.{Footprint, Memory, fresh, meets, step_in, open_in, blank, fold, Rule, held_replies}
use Rattle.history.specs.Arbiters.{Arbiter, answers, left, Exact}
use Rattle.history.specs.Cases.{open_at, open_one, reads, writes, granted, refused, Case, requests_of, replies_of, Outcome, expected, computed, p1, p2, p3, p4, p5, p6, p7, p8, p_table, past_of_ended, leads_of_ended, chain_abandoned, rows}

-- ---- the builds

-- an open as the right rule has it, and a read, write or add
abbrev open_by : Memory → ℕ → Memory
open_by m j = step_in (open_in m j) opening j 0

abbrev does_in : Memory → Kind → ℕ → ℕ → Memory
does_in m k j c = step_in m (does k) j c

-- an end, its job's end marked among its own, by what then passes its sets on
abbrev end_by : (Memory → ℕ → Memory) → Memory → ℕ → Memory
end_by f m j = blank (f (step_in m ending j 0) j) j

-- a rule that differs from the right one at a step only, at an end only
abbrev steps_by : (Memory → Kind → ℕ → ℕ → Memory) → Rule
steps_by f = record { at_open = open_by; at_step = f; at_end = end_by fold; at_abandon = blank }

abbrev ends_by : (Memory → ℕ → Memory) → Rule
ends_by f = record { at_open = open_by; at_step = does_in; at_end = end_by f; at_abandon = blank }

-- a memory with other pasts, with other leads
abbrev with_past : Memory → (ℕ → Footprint) → Memory
with_past m f = record { next = m.next; jobs = m.jobs; own = m.own; past = f; leads = m.leads; port = m.port }

abbrev with_leads : Memory → (ℕ → ℕ → Bool) → Memory
with_leads m f = record { next = m.next; jobs = m.jobs; own = m.own; past = m.past; leads = f; port = m.port }

-- a step of j by which the jobs that pass the test t come to lead to it
abbrev step_by : (Memory → Deed → ℕ → ℕ → ℕ → Bool) → Memory → Kind → ℕ → ℕ → Memory
step_by t m k j c = with_leads (does_in m k j c) (λ i x. m.leads i x || (eqb x j && t m (does k) j c i))

-- a fold without the past of j
abbrev fold_own : Memory → ℕ → Memory
fold_own m j = with_past (fold m j) (λ i d c. m.past i d c || (m.leads i j && m.own j d c))

-- (a) what a job has read and written is forgotten when it ends. Fails P4
abbrev pub sets_dropped : Rule
sets_dropped = ends_by (λ m j. m)

-- (b) an ended job is known only to the jobs that led to it themselves: its own sets are handed on without its past and leads, and a past
-- tells against nobody but its holder. Fails P5
abbrev pub direct_only : Rule
direct_only =
    record {
      at_open = open_by;
      at_step = step_by (λ m d j c i. (not (eqb i j) && meets (m.own i) d c) || (eqb i j && meets (m.past i) d c));
      at_end = end_by (λ m j. with_leads (fold_own m j) m.leads);
      at_abandon = blank;
    }

-- (c) a chain through open jobs is put down as a lead at every step, and an abandon takes out only the leads from and to its job. Fails P6
abbrev pub closed_over_open : Rule
closed_over_open = steps_by (λ m k j c. let n = does_in m k j c in with_leads n (reach n.leads n.jobs))

-- (d) a job is in conflict with itself where it comes back to a cell. Fails P7
abbrev pub own_counted : Rule
own_counted = steps_by (step_by (λ m d j c i. meets (m.own i) d c || meets (m.past i) d c))

-- (e) who ends first is to come first: an ended job leads to all that are still open, so who led to it now leads to itself. Passes P3, fails P4
abbrev pub by_end_time : Rule
by_end_time = ends_by (λ m j. with_leads (fold m j) (λ i x. m.leads i x || (m.leads i j && has m.jobs x)))

-- (f) an end hands on the job's own sets and leads, and not its past. Passes the P cases, fails past_of-ended
abbrev pub past_left_out : Rule
past_left_out = ends_by fold_own

-- (g) an end hands on the job's own sets and past, and not its leads. Passes the P cases, fails leads-of-ended
abbrev pub leads_left_out : Rule
leads_left_out = ends_by (λ m j. with_leads (fold m j) m.leads)

-- (h) an end hands on the job's sets also along a chain through open jobs. Passes the P cases, fails chain-abandoned
abbrev pub folded_through_open : Rule
folded_through_open = ends_by (λ m j. with_past (fold m j) (λ i d c. m.past i d c || (reach m.leads m.jobs i j && (m.own j d c || m.past j d c))))

-- (i) an opening is compared with nothing, so that a job may come after one that was opened when it had ended. Passes every other P case, fails P3
abbrev pub real_time_forgotten : Rule
real_time_forgotten = record { at_open = open_in; at_step = does_in; at_end = end_by fold; at_abandon = blank }

-- ---- what is claimed of a build, and what is found

-- a wrong build, the case that it fails, the replies that it gives there, and cases that it passes
pub record Build : Type 0 where
  pub rule : Rule
  pub fails : Case
  pub gives : List Reply
  pub passes : List Case

-- of the case, what the full history and the right memory give; of the build, its replies there, whether they are the full history's, and
-- its replies to the cases that it passes
pub record Finding : Type 0 where
  pub outcome : Outcome
  pub gives : List Reply
  pub agrees : Bool
  pub passes : List (List Reply)

-- a rule's replies to the requests of a case
abbrev pub replies_by : Rule → Case → List Reply
replies_by u c = held_replies u (fresh c.first) (requests_of c)

abbrev pub same_replies : List Reply → List Reply → Bool
same_replies [] [] = true
same_replies [] (b ∷ k) = false
same_replies (a ∷ l) [] = false
same_replies (a ∷ l) (b ∷ k) = eqb a.code b.code && (eqb a.job b.job && same_replies l k)

abbrev pub claimed : Build → Finding
claimed b = record { outcome = expected b.fails; gives = b.gives; agrees = false; passes = map replies_of b.passes }

unfoldable pub found : Build → Finding
unfolding computed
found b =
    record {
      outcome = computed b.fails;
      gives = replies_by b.rule b.fails;
      agrees = same_replies (replies_by b.rule b.fails) (replies b.fails.first (requests_of b.fails));
      passes = map (replies_by b.rule) b.passes;
    }

-- ---- the table, the replies of each build laid out as the requests of its case

abbrev pub build_table : List Build
build_table =
    -- (a) the write of job 1 on cell 6 is granted
    record {
      rule = sets_dropped;
      fails = p4;
      gives =
          granted 1 ∷ granted 2
          ∷ granted 1
          ∷ granted 2 ∷ granted 2 ∷ granted 2
          ∷ granted 1 ∷ granted 1 ∷ [];
      passes = p2 ∷ [];
    }
    -- (b) the read of job 1 on cell 8 is granted
    ∷ record {
      rule = direct_only;
      fails = p5;
      gives =
          granted 1 ∷ granted 2 ∷ granted 3
          ∷ granted 1
          ∷ granted 2 ∷ granted 2
          ∷ granted 3 ∷ granted 3 ∷ granted 3
          ∷ granted 1 ∷ [];
      passes = [];
    }
    -- (c) the read of job 1 on cell 6 is refused after the abandon too
    ∷ record {
      rule = closed_over_open;
      fails = p6;
      gives =
          granted 1 ∷ granted 2 ∷ granted 3
          ∷ granted 1
          ∷ granted 2 ∷ granted 2
          ∷ granted 3 ∷ refused 7
          ∷ granted 2 ∷ refused 7 ∷ [];
      passes = [];
    }
    -- (d) the write is refused, and so job 1 may be abandoned
    ∷ record {
      rule = own_counted;
      fails = p7;
      gives =
          granted 1
          ∷ granted 1 ∷ refused 7 ∷ granted 1
          ∷ granted 1 ∷ [];
      passes = [];
    }
    -- (e) the write of job 1 on cell 7 is refused
    ∷ record {
      rule = by_end_time;
      fails = p4;
      gives =
          granted 1 ∷ granted 2
          ∷ granted 1
          ∷ granted 2 ∷ granted 2 ∷ granted 2
          ∷ refused 7 ∷ refused 7 ∷ [];
      passes = p3 ∷ [];
    }
    -- (f) the read of job 1 on cell 7 is granted
    ∷ record {
      rule = past_left_out;
      fails = past_of_ended;
      gives =
          granted 1 ∷ granted 2 ∷ granted 3
          ∷ granted 2
          ∷ granted 3 ∷ granted 3 ∷ granted 3
          ∷ granted 1
          ∷ granted 2 ∷ granted 2
          ∷ granted 1 ∷ [];
      passes = p_table;
    }
    -- (g) the read of job 1 on cell 8 is granted
    ∷ record {
      rule = leads_left_out;
      fails = leads_of_ended;
      gives =
          granted 1 ∷ granted 2 ∷ granted 3
          ∷ granted 1
          ∷ granted 2 ∷ granted 2
          ∷ granted 3 ∷ granted 2
          ∷ granted 3 ∷ granted 1 ∷ [];
      passes = p_table;
    }
    -- (h) the read of job 1 on cell 7 is refused
    ∷ record {
      rule = folded_through_open;
      fails = chain_abandoned;
      gives =
          granted 1 ∷ granted 2 ∷ granted 3
          ∷ granted 1
          ∷ granted 2 ∷ granted 2
          ∷ granted 3 ∷ granted 3 ∷ granted 3
          ∷ granted 2 ∷ refused 7 ∷ [];
      passes = p_table;
    }
    -- (i) the write of job 2 on cell 6 is granted
    ∷ record {
      rule = real_time_forgotten;
      fails = p3;
      gives =
          granted 1 ∷ granted 2
          ∷ granted 2 ∷ granted 1 ∷ granted 1
          ∷ granted 3 ∷ granted 3 ∷ granted 3
          ∷ granted 2 ∷ granted 2 ∷ [];
      passes = p1 ∷ p2 ∷ p4 ∷ p5 ∷ p6 ∷ p7 ∷ p8 ∷ [];
    }
    ∷ []

-- every build of the table does what is claimed of it
pub wrong_builds : (b : Build) → b ∈ build_table → found b ≡ claimed b
unfolding found
wrong_builds b = rows found claimed (refl, (refl, (refl, (refl, (refl, (refl, (refl, (refl, (refl, tt)))))))))

-- ---- any arbiter

-- the jobs that have read or written
abbrev is_step : Deed → Bool
is_step (does k) = true
is_step opening = false
is_step ending = false

abbrev pub stepped : History → List ℕ
stepped h = map (λ (s : Step). s.job) (only (λ (s : Step). is_step s.deed) (all_steps h))

-- the code at a place; 10, which is no code, where there is none
abbrev code_at : ℕ → List Reply → ℕ
code_at n [] = 10
code_at zero (x ∷ l) = x.code
code_at (suc n) (x ∷ l) = code_at n l

-- the same request n times
abbrev times : ℕ → Request → List Request
times zero r = []
times (suc n) r = r ∷ times n r

module _ (a : Arbiter) (exact : Exact a) where
  -- the code that the arbiter gives at a place is the full history's
  said : (n : ℕ) (rs : List Request) → code_at n (answers a (a.fresh 1) rs) ≡ code_at n (replies 1 rs)
  said n rs = ap (code_at n) (exact 1 rs)

  -- it does not refuse every step: a lone job's read is granted
  pub grants_some : ((s : a.State) (k : Kind) (r : Request) → want r.kind ≡ a_step k → (a.answer s r).code ≡ 0 → ⊥) → ⊥
  unfolding computed
  grants_some refuses = refuses (left a (a.fresh 1) (open_one ∷ [])) read (reads 1 5) refl (said 1 (open_one ∷ reads 1 5 ∷ []))

  -- it does not let every step through: in P2 the last write gets 7
  pub refuses_some : ((s : a.State) (k : Kind) (r : Request) → want r.kind ≡ a_step k → (a.answer s r).code ≡ 7 → ⊥) → ⊥
  unfolding computed
  refuses_some grants =
      let before = open_one ∷ open_one ∷ reads 1 5 ∷ writes 2 5 ∷ [] in
      grants (left a (a.fresh 1) before) write (writes 1 5) refl (said 4 (before ++ writes 1 5 ∷ []))

  -- its state does not stay at every step: else the write of job 1 would be answered as if nobody had read or written
  pub moves_at_a_step : ((s : a.State) (k : Kind) (r : Request) → want r.kind ≡ a_step k → a.next s r ≡ s) → ⊥
  unfolding computed
  moves_at_a_step stays =
      let s = left a (a.fresh 1) (open_one ∷ open_one ∷ []) in
      let t = a.next s (reads 1 5) in
      let p : (a.answer (a.next t (writes 2 5)) (writes 1 5)).code ≡ 7 = said 4 (open_one ∷ open_one ∷ reads 1 5 ∷ writes 2 5 ∷ writes 1 5 ∷ []) in
      let q : (a.answer s (writes 1 5)).code ≡ 0 = said 2 (open_one ∷ open_one ∷ writes 1 5 ∷ []) in
      let e : a.next t (writes 2 5) ≡ s = stays t write (writes 2 5) refl ∙ stays s read (reads 1 5) refl in
      let z : ◌≡◌ {A = ℕ} 7 0 = sym p ∙ (ap (λ (x : a.State). (a.answer x (writes 1 5)).code) e ∙ q) in
      omega arith

  -- a job's first step is not the only one that counts: else the write of job 1 would be answered as if job 2 had not written cell 6, after its write of cell 5
  pub later_steps_count :
      ((first : ℕ) (rs : List Request) (k : Kind) (r q : Request) → want r.kind ≡ a_step k → T (has (stepped (history_of first rs)) r.job)
      → a.answer (a.next (left a (a.fresh first) rs) r) q ≡ a.answer (left a (a.fresh first) rs) q) → ⊥
  unfolding computed
  later_steps_count for_show =
      let before = open_one ∷ open_one ∷ reads 1 5 ∷ writes 2 5 ∷ [] in
      let p : (a.answer (a.next (left a (a.fresh 1) before) (writes 2 6)) (writes 1 6)).code ≡ 7 = said 5 (before ++ writes 2 6 ∷ writes 1 6 ∷ []) in
      let q : (a.answer (left a (a.fresh 1) before) (writes 1 6)).code ≡ 0 = said 4 (before ++ writes 1 6 ∷ []) in
      let z : ◌≡◌ {A = ℕ} 7 0 = sym p ∙ (ap (λ (x : Reply). x.code) (for_show 1 before write (writes 2 6) (writes 1 6) refl tt) ∙ q) in
      omega arith

  -- opens of different ports do not leave the same state: else after 16 opens of port 0 the next of that port would be answered as after 16 opens of port 1
  pub ports_count : ((s : a.State) → a.next s (open_at 0) ≡ a.next s (open_at 1)) → ⊥
  unfolding computed
  ports_count together =
      let p : (a.answer (left a (a.fresh 1) (times 16 (open_at 0))) (open_at 0)).code ≡ 9 = said 16 (times 16 (open_at 0) ++ open_at 0 ∷ []) in
      let q : (a.answer (left a (a.fresh 1) (times 16 (open_at 1))) (open_at 0)).code ≡ 0 = said 16 (times 16 (open_at 1) ++ open_at 0 ∷ []) in
      let z : ◌≡◌ {A = ℕ} 9 0 = sym p ∙ (ap (λ (x : a.State). (a.answer x (open_at 0)).code) (same_left 16 (a.fresh 1)) ∙ q) in
      omega arith
    where
      same_left : (n : ℕ) (s : a.State) → left a s (times n (open_at 0)) ≡ left a s (times n (open_at 1))
      same_left zero s = refl
      same_left (suc n) s = ap (λ (x : a.State). left a x (times n (open_at 0))) (together s) ∙ same_left n (a.next s (open_at 1))
