-- The promises of the coarse mode, one page. To be believed for them: Coarse, CoarseHeld, and of history Events, Replies, Turns, Orders and Run.
--
-- All but what names `group` is proved for any grouping. In order: the coarse mode is the exact rule on the grouped history; precedence and circles by cells and by
-- groups; no log so granted has a circle by its true cells, and a step that would close one is refused; the codes of a step; the log and its orders; the
-- grouping by 16; one cell to a group; the slots.
-- Assumes nothing.
use Rattle.std.specs.Prelude.{◌≡◌, refl, ◌↔◌, Bool, true, false, cond, List, [], ◌∷◌, map, ℕ, ◌+◌, ◌≤◌, ◌<◌, T, leb, length}
use Rattle.std.proofs.Common.{sym, ap, ap₂, ◌∙◌, subst, subst₂, ⊎_elim, arith}
use Rattle.std.proofs.Math.Option.{some}
use Rattle.graph.specs.Decide.{answer, test_true, test_false, le_test}
use Rattle.graph.specs.Lists.{◌∈◌, Before}
use Rattle.history.specs.Events.{Kind, Event, opens, steps, ends, abandons, History, has, kept, open_now, kept_steps, Precedes, Circular, has_circle}
use Rattle.history.specs.Replies.{cells, most_open, most_of_port, numbers, Request, Reply, of_port, Book, reply}
use Rattle.history.specs.Orders.{Accepted, order_of}
use Rattle.history.specs.Run.{Program, Raise, AnyOrder}
use Rattle.history_laws.specs.CircleLaws.{has_circle_test}
use Rattle.history_laws.specs.TurnLaws.{has_test, orderly}
use Rattle.history_laws.specs.Promises.{AsTheLog, never_over_port}
use Rattle.held.specs.Held.{Held, fresh_held, answer_to, answers, after_all}
use Rattle.held_laws.specs.HeldExact.{held_exact}
use Rattle.coarse.specs.Coarse.{coarse_cells, group, grouped_event, grouped, in_group, AsksStep, with_step, coarse_reply, coarse_replies, coarse_history, coarse_book_of, TurnsBelow}
use Rattle.coarse.specs.CoarseHeld.{coarse_answer, coarse_next, coarse_answers, coarse_state}
use Rattle.coarse.proofs.GroupLaws.{group_below, group_bound, opened_grouped, ended_grouped, abandoned_grouped, kept_jobs_grouped, open_grouped, wrote_grouped}
use Rattle.coarse.specs.CoarseLaws.{code_by}
use Rattle.coarse.proofs.CoarseLaws.{replies_grouped, history_grouped, book_grouped, grouped_sound, step_code, granted_free, two_asks, turns_true, accepted_true, order_true, exists_true, time_true, cells_true, sights_true}
use Rattle.coarse.specs.CoarsePromises.{AsExact, CoarseSound, CoarseStep, SameJobs}

-- ---- the exact rule on the grouped history

-- ---- cells and groups

pub coarse_is_exact : (g : ℕ → ℕ) (first : ℕ) (rs : List Request) → AsExact g first rs
coarse_is_exact g first rs = record { answered = replies_grouped g first rs; left = history_grouped g first rs; booked = book_grouped g first rs }

-- whoever precedes another by true cells precedes it by groups, and so a circle by true cells is one by groups
pub group_precedes : (g : ℕ → ℕ) (h : History) (i j : ℕ) → Precedes (kept_steps h) i j → Precedes (kept_steps (grouped g h)) i j
group_precedes g h i j = Rattle.coarse.proofs.GroupLaws.group_precedes g h i j

pub group_circle : (g : ℕ → ℕ) (h : History) → Circular (kept_steps h) → Circular (kept_steps (grouped g h))
group_circle g h = Rattle.coarse.proofs.GroupLaws.group_circle g h

-- ---- no circle by true cells

pub same_jobs : (g : ℕ → ℕ) (h : History) → SameJobs g h
same_jobs g h =
    record {
      opened_ones = opened_grouped g h;
      ended_ones = ended_grouped g h;
      abandoned_ones = abandoned_grouped g h;
      kept_ones = kept_jobs_grouped g h;
      open_ones = open_grouped g h;
      writers = wrote_grouped g h;
    }

-- ---- the codes of a step

-- no log that the mode grants has a circle by its true cells
pub coarse_no_circle : (g : ℕ → ℕ) (first : ℕ) (rs : List Request) → Circular (kept_steps (coarse_history g first rs)) → ⊥
coarse_no_circle g first rs z = (grouped_sound g first rs).no_circle (group_circle g (coarse_history g first rs) z)

real_code : (g : ℕ → ℕ) (b : Book) (h : History) (k : Kind) (r : Request) → AsksStep r k → r.byte1 ≡ 0 → r.job ∈ open_now h → g r.cell < cells
    → (coarse_reply g b h r).code ≡ cond (has_circle (kept_steps (grouped g (with_step h k r)))) 7 0
real_code g b h k r asks zero_byte is_open real =
    step_code g b h k r asks zero_byte
    ∙ ap₂ (λ (x y : Bool). code_by x y (has_circle (kept_steps (grouped g (with_step h k r)))))
    (test_false (le_test cells (g r.cell)) (λ q. omega arith)) (test_true (has_test (open_now h) r.job) is_open)

pub coarse_step_reply : (g : ℕ → ℕ) (b : Book) (h : History) (k : Kind) (r : Request) → AsksStep r k → r.byte1 ≡ 0 → r.job ∈ open_now h → g r.cell < cells → CoarseStep g b h k r
coarse_step_reply g b h k r asks zero_byte is_open real =
    let d = has_circle_test (kept_steps (grouped g (with_step h k r))) in
    let code = real_code g b h k r asks zero_byte is_open real in
    record {
      granted = (λ free. code ∙ ap (λ (z : Bool). cond z 7 0) (test_false d free), λ e z. let q : ◌≡◌ {A = ℕ} 7 0 = sym (code ∙ ap (λ (z : Bool). cond z 7 0) (test_true d z)) ∙ e in omega arith);
      refused = (
        λ z. code ∙ ap (λ (z : Bool). cond z 7 0) (test_true d z),
        λ e. ⊎_elim (λ z. z) (λ free. absurd (let q : ◌≡◌ {A = ℕ} 0 7 = sym (code ∙ ap (λ (z : Bool). cond z 7 0) (test_false d free)) ∙ e in omega arith)) (answer d),
      );
    }

-- a step, or publish, that would close a circle by true cells is not granted, whatever its byte 1 and its job: after any log, so also after every one that the mode granted
pub true_circle_refused : (g : ℕ → ℕ) (b : Book) (h : History) (k : Kind) (r : Request) → AsksStep r k → Circular (kept_steps (with_step h k r)) → (coarse_reply g b h r).code ≡ 0 → ⊥
true_circle_refused g b h k r asks z e = granted_free g b h k r asks e (group_circle g (with_step h k r) z)

-- and where it is well-formed, of an open job and on a real cell, it gets 7
pub true_circle_seven : (g : ℕ → ℕ) (b : Book) (h : History) (k : Kind) (r : Request) → AsksStep r k → r.byte1 ≡ 0 → r.job ∈ open_now h → g r.cell < cells
    → Circular (kept_steps (with_step h k r)) → (coarse_reply g b h r).code ≡ 7
true_circle_seven g b h k r asks zero_byte is_open real z = (coarse_step_reply g b h k r asks zero_byte is_open real).refused.0 (group_circle g (with_step h k r) z)

-- ---- the log and its orders

-- a well-formed step, or publish, gets 2 exactly for a group above 255
pub group_two : (g : ℕ → ℕ) (b : Book) (h : History) (k : Kind) (r : Request) → AsksStep r k → r.byte1 ≡ 0 → ((coarse_reply g b h r).code ≡ 2) ↔ (cells ≤ g r.cell)
group_two g b h k r asks zero_byte =
    let code = step_code g b h k r asks zero_byte in
    let o = has (open_now h) r.job in
    let z = has_circle (kept_steps (grouped g (with_step h k r))) in (
      λ e. ⊎_elim (λ q. q) (λ q. absurd (other o z (sym (code ∙ ap (λ (x : Bool). code_by x o z) (test_false (le_test cells (g r.cell)) q)) ∙ e))) (answer (le_test cells (g r.cell))),
      λ q. code ∙ ap (λ (x : Bool). code_by x o z) (test_true (le_test cells (g r.cell)) q),
    )
  where
    other : (y z : Bool) → code_by false y z ≡ 2 → ⊥
    other true true e = let q : ◌≡◌ {A = ℕ} 7 2 = e in omega arith
    other true false e = let q : ◌≡◌ {A = ℕ} 0 2 = e in omega arith
    other false z e = let q : ◌≡◌ {A = ℕ} 3 2 = e in omega arith

pub coarse_sound : (g : ℕ → ℕ) (first : ℕ) (rs : List Request) → CoarseSound g first (coarse_book_of g first rs) (coarse_history g first rs)
coarse_sound g first rs =
    let h = coarse_history g first rs in
    let s = grouped_sound g first rs in
    let same = opened_grouped g h in
    record {
      turns = λ n within. turns_true g n within [] h s.turns;
      issued = subst (λ (l : List ℕ). (j : ℕ) → j ∈ l → j < first + length l) same s.issued;
      once = subst (λ (l : List ℕ). (i j : ℕ) → Before i j l → i < j) same (orderly (grouped g h) s.turns).rising;
      in_range = subst (λ (l : List ℕ). (j : ℕ) → j ∈ l → j < numbers) same s.in_range;
      few = subst (λ (l : List ℕ). length l ≤ most_open) (open_grouped g h) s.few;
      few_of_port = λ p. subst₂ (λ (b : Book) (l : List ℕ). length (of_port b.port p l) ≤ most_of_port) (sym (book_grouped g first rs))
          (ap open_now (sym (history_grouped g first rs)) ∙ open_grouped g h) (never_over_port first (map (in_group g) rs) p);
    }

-- it has an accepted order by its true cells: the lowest-first one exists and is accepted. The lister itself takes logs with cells to 255 alone
pub coarse_order : (g : ℕ → ℕ) (first : ℕ) (rs : List Request) → (o : List ℕ) × (order_of (coarse_history g first rs) ≡ some o) × Accepted (coarse_history g first rs) o
coarse_order g first rs =
    let h = coarse_history g first rs in
    let t = (grouped_sound g first rs).turns in
    let r = exists_true g h t (coarse_no_circle g first rs) in
    (r.0, r.1, order_true g h t r.1)

-- so is every order that is accepted by groups
pub coarse_accepted : (g : ℕ → ℕ) (first : ℕ) (rs : List Request) (o : List ℕ) → Accepted (grouped g (coarse_history g first rs)) o → Accepted (coarse_history g first rs) o
coarse_accepted g first rs o = accepted_true g (coarse_history g first rs) (grouped_sound g first rs).turns

-- in an accepted order a job stands before every kept job that was opened after its end; and, run one at a time in it, the jobs leave every cell, a true one, as running the
-- log did, and every read of a kept job shows the same value
pub coarse_real_time : (g : ℕ → ℕ) (first : ℕ) (rs : List Request) (o : List ℕ) → Accepted (coarse_history g first rs) o
    → (i j : ℕ) → j ∈ kept (coarse_history g first rs) → Before (ends i) (opens j) (coarse_history g first rs) → Before i j o
coarse_real_time g first rs o a i j = time_true g (coarse_history g first rs) (grouped_sound g first rs).turns a

-- ---- the grouping by 16

pub coarse_one_at_a_time {ℓ} : (g : ℕ → ℕ) (first : ℕ) (rs : List Request) (o : List ℕ) → Accepted (coarse_history g first rs) o
    → (X : Type ℓ) (raise : Raise X) → AnyOrder raise → (f : Program X) (w : ℕ → X) → AsTheLog X raise f w (coarse_history g first rs) o
coarse_one_at_a_time g first rs o a X raise law f w =
    let h = coarse_history g first rs in
    let t = (grouped_sound g first rs).turns in
    record { cells = cells_true g h t a raise law f w; sights = sights_true g h t a raise law f w }

-- the bound of the groups is the bound 4,096 of the cells
pub group_bounds : (c : ℕ) → leb cells (group c) ≡ leb coarse_cells c
group_bounds = group_bound

-- so a well-formed step, or publish, gets 2 exactly for a cell above 4,095
pub coarse_two : (b : Book) (h : History) (k : Kind) (r : Request) → AsksStep r k → r.byte1 ≡ 0 → ((coarse_reply group b h r).code ≡ 2) ↔ (coarse_cells ≤ r.cell)
coarse_two b h k r asks zero_byte =
    let q = group_two group b h k r asks zero_byte in
    let same = group_bound r.cell in (
      λ e. (le_test coarse_cells r.cell).holds (subst T same ((le_test cells (group r.cell)).shows (q.0 e))),
      λ e. q.1 ((le_test cells (group r.cell)).holds (subst T (sym same) ((le_test coarse_cells r.cell).shows e))),
    )

-- and nothing else does: 2 means a step or a publish on a cell above 4,095
pub two_means : (b : Book) (h : History) (r : Request) → (coarse_reply group b h r).code ≡ 2 → (k : Kind) × AsksStep r k × (coarse_cells ≤ r.cell)
two_means b h r e = let q = two_asks group b h r e in (q.0, q.1, (coarse_two b h q.0 r q.1 q.2).0 e)

-- one on a cell up to 4,095, of an open job, gets 0 or 7
pub coarse_real : (b : Book) (h : History) (k : Kind) (r : Request) → AsksStep r k → r.byte1 ≡ 0 → r.job ∈ open_now h → r.cell < coarse_cells → CoarseStep group b h k r
coarse_real b h k r asks zero_byte is_open real = coarse_step_reply group b h k r asks zero_byte is_open ((group_below r.cell).0 real)

-- ---- one cell to a group

-- every log that is granted is in turn with 4,096 for the bound of the cells
pub coarse_turns : (first : ℕ) (rs : List Request) → TurnsBelow coarse_cells (coarse_history group first rs)
coarse_turns first rs = (coarse_sound group first rs).turns coarse_cells (λ c. (group_below c).1)

-- ---- the slots

-- is the exact mode
pub alone_exact : (b : Book) (h : History) (r : Request) → coarse_reply (λ c. c) b h r ≡ reply b h r
unfolding coarse_reply
alone_exact b h r = ap (λ (x : History). reply b x r) (alone h)
  where
    own : (e : Event) → grouped_event (λ c. c) e ≡ e
    own (opens j) = refl
    own (steps k j c) = refl
    own (ends j) = refl
    own (abandons j) = refl

    alone : (h : History) → grouped (λ c. c) h ≡ h
    alone [] = refl
    alone (e ∷ h) = ap₂ (λ (x : Event) (l : History). x ∷ l) (own e) (alone h)

-- the slots answer and move as in the exact mode, with groups for cells
pub coarse_slots : (h : Held) (rs : List Request) → (coarse_answers h rs ≡ answers h (map (in_group group) rs)) × (coarse_state h rs ≡ after_all h (map (in_group group) rs))
unfolding coarse_answer coarse_next
coarse_slots h [] = (refl, refl)
coarse_slots h (r ∷ rs) =
    let q = coarse_slots (Rattle.held.specs.Held.after h (in_group group r)) rs in
    (ap (λ (l : List Reply). answer_to h (in_group group r) ∷ l) q.0, q.1)

-- from the fresh state through any list of requests: the coarse replies of the full history, which has the true cells, one by one
pub coarse_held_exact : (first : ℕ) (rs : List Request) → coarse_answers (fresh_held first) rs ≡ coarse_replies group first rs
coarse_held_exact first rs = (coarse_slots (fresh_held first) rs).0 ∙ held_exact first (map (in_group group) rs) ∙ sym (replies_grouped group first rs)
