-- The promises of the morning sheet (document 02, order 13). Each is proved in the file that its proof cites.
--
-- To be believed for them: Sheet (at rest, the sheet, its answer), and what the promises of history and verdicts need. In order: which jobs are on the sheet, and in which order; that it
-- will not move; the answer on bytes.
-- Assumes nothing.
use Rattle.std.specs.Prelude.{◌≡◌, refl, ◌↔◌, List, [], ◌++◌, ℕ, ◌≤◌, length}
use Rattle.std.proofs.Common.{sym, ap, ◌∙◌, append-nil, arith, length-append}
use Rattle.std.proofs.Math.Path.{subst}
use Rattle.std.proofs.Math.Option.{some}
use Rattle.graph.specs.Lists.{◌∈◌, only, Once}
use Rattle.graph.specs.Listing.{lowest_first, LowestFirst}
use Rattle.graph.proofs.ListingLaws.{lowest_forward, lowest_only}
use Rattle.history.specs.Events.{Event, History, opened, open_now, kept_steps, Precedes, precedes, Circular}
use Rattle.history.specs.Replies.{Request, history_of}
use Rattle.history.specs.Turns.{Turns}
use Rattle.history.specs.Orders.{Accepted, order_of}
use Rattle.history_laws.specs.OrderLaws.{order_accepted, order_exists}
use Rattle.history_laws.specs.Granted.{granted_sound}
use Rattle.verdicts.specs.Logs.{Reading, events, most_jobs, read_log, log_of}
use Rattle.verdicts_laws.specs.LogLaws.{read_turns, opened_length, granted_read}
use Rattle.verdicts.specs.Verdicts.{Listed}
use Rattle.verdicts_laws.specs.VerdictLaws.{check_exactly}
use Rattle.sheet.specs.Sheet.{AtRest, at_rest, resting, sheet_of, sheet_in, list_sheet}
use Rattle.sheet.proofs.RestLaws.{resting_exactly, resting_once, all_rest, rest_stays, sheet_first}
use Rattle.sheet.specs.SheetLaws.{SheetAs, no_room, no_order, a_sheet, Morning, log_faulty, log_read}
use Rattle.sheet.proofs.SheetLaws.{sheet_lowest, sheet_exists, lowest_sheet, sheet_length, sheet_left, sheeted_right, sheet_right, morning_only, sheet_small, goes_on}
use Rattle.sheet.specs.Promises.{Names, WillNotMove}

-- ---- the sheet

-- of a history in turn: the jobs that are put in order are exactly those at rest, each once
pub rest_exactly : (h : History) → Turns h → (j : ℕ) → (j ∈ resting h) ↔ AtRest h j
rest_exactly = resting_exactly

pub rest_once : (h : History) → Turns h → Once (resting h)
rest_once = resting_once

pub sheet_names : (h : History) → Turns h → (s : List ℕ) → sheet_of h ≡ some s → Names h s
sheet_names h t s e =
    let f = lowest_forward (sheet_lowest h e) in
    record { once = f.once; names = λ j. (λ m. (resting_exactly h t j).0 (f.named j m), λ r. f.names j ((resting_exactly h t j).1 r)) }

-- it is the lowest-first order of them, the only one; without a circle it is there
pub sheet_is : (h : History) → (Circular (kept_steps h) → ⊥) → (s : List ℕ) → (sheet_of h ≡ some s) ↔ LowestFirst (Precedes (kept_steps h)) (resting h) s
sheet_is h free s = (sheet_lowest h, lowest_sheet h free)

pub sheet_only : (h : History) (s s' : List ℕ) → LowestFirst (Precedes (kept_steps h)) (resting h) s → LowestFirst (Precedes (kept_steps h)) (resting h) s' → s ≡ s'
sheet_only h s s' = lowest_only

pub sheet_there : (h : History) → (Circular (kept_steps h) → ⊥) → (s : List ℕ) × (sheet_of h ≡ some s)
sheet_there = sheet_exists

-- it is what is left of the whole order when the jobs that are not at rest are struck out
pub sheet_in_order : (h : History) → Turns h → (o : List ℕ) → order_of h ≡ some o → sheet_of h ≡ some (only (at_rest h) o)
sheet_in_order h t o = sheet_left h t

-- ---- it will not move

-- with no job open it is the whole order
pub sheet_is_order : (h : History) → open_now h ≡ [] → sheet_of h ≡ order_of h
unfolding sheet_of order_of
sheet_is_order h none_open = ap (lowest_first (precedes (kept_steps h))) (all_rest h none_open)

-- of a history in turn and any events that follow it in turn and leave no circle: the longer history has an accepted order that starts with the sheet of the shorter one
pub sheet_stays : (h : History) (es : List Event) → Turns (h ++ es) → (Circular (kept_steps (h ++ es)) → ⊥) → (s : List ℕ) → sheet_of h ≡ some s
    → (rest : List ℕ) × Accepted (h ++ es) (s ++ rest)
sheet_stays h es t free s e = sheet_first h es t free e

-- so has the history itself
pub sheet_begins : (h : History) → Turns h → (Circular (kept_steps h) → ⊥) → (s : List ℕ) → sheet_of h ≡ some s → (rest : List ℕ) × Accepted h (s ++ rest)
sheet_begins h t free s e =
    subst (λ (x : History). (rest : List ℕ) × Accepted x (s ++ rest)) (append-nil h)
    (sheet_first h [] (subst Turns (sym (append-nil h)) t) (subst (λ (x : History). Circular (kept_steps x) → ⊥) (sym (append-nil h)) free) e)

-- a job at rest stays at rest
pub rest_for_good : (h : History) (es : List Event) → Turns (h ++ es) → (j : ℕ) → AtRest h j → AtRest (h ++ es) j
rest_for_good h es t j = rest_stays h es t

-- ---- the answer on bytes

-- what the first profile granted, and all that it grants after it
pub granted_stays : (first : ℕ) (rs rs' : List Request) → (s : List ℕ) → sheet_of (history_of first rs) ≡ some s → (rest : List ℕ) × Accepted (history_of first (rs ++ rs')) (s ++ rest)
granted_stays first rs rs' s e =
    let g = goes_on first rs rs' in
    let w = granted_sound first (rs ++ rs') in
    subst (λ (x : History). (rest : List ℕ) × Accepted x (s ++ rest)) (sym g.1)
    (sheet_first (history_of first rs) g.0 (subst Turns g.1 w.turns) (subst (λ (x : History). Circular (kept_steps x) → ⊥) g.1 w.no_circle) e)

-- for any bytes and any lent list, code by code, with what then stands in the list
pub sheet_means : (bytes lent : List ℕ) → Morning bytes lent (list_sheet bytes lent)
sheet_means = sheet_right

-- and no other answer means that
pub sheet_answer_only : (bytes lent : List ℕ) (a : Listed) → Morning bytes lent a → a ≡ list_sheet bytes lent
sheet_answer_only bytes lent a = morning_only bytes lent

module _ (bytes lent : List ℕ) (h : History) (reads : read_log bytes ≡ events h) where
  as_log : SheetAs h lent (list_sheet bytes lent)
  unfolding list_sheet
  as_log = subst (SheetAs h lent) (sym (ap (λ (g : Reading). sheet_in g lent) reads)) (sheeted_right h (read_turns bytes h reads) lent)

module _ (bytes lent : List ℕ) (h : History) (reads : read_log bytes ≡ events h) (room : length (resting h) ≤ length lent) where
  -- where there is room: a sheet is given exactly when the whole log has an order, and 17 exactly when it has none
  pub sheet_exactly : ((list_sheet bytes lent).code ≡ 0) ↔ ((order : List ℕ) × Accepted h order)
  sheet_exactly = (λ z. yields (as_log bytes lent h reads) z, λ r. given r.1 (as_log bytes lent h reads))
    where
      yields : {a : Listed} → SheetAs h lent a → a.code ≡ 0 → (order : List ℕ) × Accepted h order
      yields (no_room l) z = absurd (omega arith)
      yields (no_order l f) z = absurd (let y : ◌≡◌ {A = ℕ} 17 0 = z in omega arith)
      yields (a_sheet {o = o} l x w n) z = (o, x)

      given : {order : List ℕ} → Accepted h order → {a : Listed} → SheetAs h lent a → a.code ≡ 0
      given x (no_room l) = absurd (omega arith)
      given {order} x (no_order l f) = absurd (f order x)
      given x (a_sheet l y w n) = refl

  pub sheet_seventeen : ((list_sheet bytes lent).code ≡ 17) ↔ ((order : List ℕ) → Accepted h order → ⊥)
  sheet_seventeen = (λ z order x. denied x (as_log bytes lent h reads) z, λ f. none_left f (as_log bytes lent h reads))
    where
      denied : {order : List ℕ} → Accepted h order → {a : Listed} → SheetAs h lent a → a.code ≡ 17 → ⊥
      denied x (no_room l) z = omega arith
      denied {order} x (no_order l f) z = f order x
      denied x (a_sheet l y w n) z = let q : ◌≡◌ {A = ℕ} 0 17 = z in omega arith

      none_left : ((order : List ℕ) → Accepted h order → ⊥) → {a : Listed} → SheetAs h lent a → a.code ≡ 17
      none_left f (no_room l) = absurd (omega arith)
      none_left f (no_order l g) = refl
      none_left f (a_sheet {o = o} l y w n) = absurd (f o y)

-- a refusal leaves the lent list as it was
pub refusal_leaves : (bytes lent : List ℕ) → ((list_sheet bytes lent).code ≡ 0 → ⊥) → (list_sheet bytes lent).list ≡ lent
refusal_leaves bytes lent f = kept_list (sheet_right bytes lent) f
  where
    same : {h : History} {a : Listed} → SheetAs h lent a → (a.code ≡ 0 → ⊥) → a.list ≡ lent
    same (no_room l) g = refl
    same (no_order l x) g = refl
    same (a_sheet l x w n) g = absurd (g refl)

    kept_list : {a : Listed} → Morning bytes lent a → (a.code ≡ 0 → ⊥) → a.list ≡ lent
    kept_list (log_faulty e) g = refl
    kept_list (log_read e t l) g = same l g

-- ---- the answer for a log that the first profile granted

-- the place of any answer is at most 4,095
pub sheet_place_small : (bytes lent : List ℕ) → (list_sheet bytes lent).place ≤ 4095
sheet_place_small bytes lent = (sheet_small bytes lent).place_small

-- within the sizes: with room the sheet is given, at its front, the entries past it as they were
pub granted_sheet : (first : ℕ) (rs : List Request) (lent : List ℕ) → length (history_of first rs) ≤ 4096 → length (opened (history_of first rs)) ≤ most_jobs
    → length (resting (history_of first rs)) ≤ length lent → (list_sheet (log_of (history_of first rs)) lent).code ≡ 0
granted_sheet first rs lent few few_jobs room =
    let h = history_of first rs in
    let s = granted_sound first rs in
    let r = order_exists h s.turns s.no_circle in
    (sheet_exactly (log_of h) lent h (granted_read first rs few few_jobs) room).1 (r.0, order_accepted h s.turns r.1)

-- with room or without, never 17
pub granted_never_17 : (first : ℕ) (rs : List Request) (lent : List ℕ) → length (history_of first rs) ≤ 4096 → length (opened (history_of first rs)) ≤ most_jobs
    → (list_sheet (log_of (history_of first rs)) lent).code ≡ 17 → ⊥
granted_never_17 first rs lent few few_jobs z = let h = history_of first rs in denied (as_log (log_of h) lent h (granted_read first rs few few_jobs)) z
  where
    denied : {a : Listed} → SheetAs (history_of first rs) lent a → a.code ≡ 17 → ⊥
    denied (no_room l) q = let y : ◌≡◌ {A = ℕ} 18 17 = q in omega arith
    denied (no_order l f) q =
        let s = granted_sound first rs in
        let r = order_exists (history_of first rs) s.turns s.no_circle in
        f r.0 (order_accepted (history_of first rs) s.turns r.1)
    denied (a_sheet l y w n) q = let y : ◌≡◌ {A = ℕ} 0 17 = q in omega arith

pub will_not_move : (first : ℕ) (rs rs' : List Request) (lent : List ℕ) → length (history_of first (rs ++ rs')) ≤ 4096 → length (opened (history_of first (rs ++ rs'))) ≤ most_jobs
    → length (resting (history_of first rs)) ≤ length lent → WillNotMove first rs rs' lent
will_not_move first rs rs' lent few few_jobs room =
    let h = history_of first rs in
    let k = history_of first (rs ++ rs') in
    let g = goes_on first rs rs' in
    let a = ap length g.1 ∙ length-append h g.0 in
    let b = ap (λ (x : History). length (opened x)) g.1 ∙ opened_length h g.0 in
    let w = granted_sound first rs in
    let o = order_exists h w.turns w.no_circle in
    let s = sheet_exists h w.no_circle in
    let low = sheet_lowest h s.1 in
    let r = granted_stays first rs rs' s.0 s.1 in
    record {
      sheet = s.0;
      names = sheet_names h w.turns s.0 s.1;
      given = sym (morning_only (log_of h) lent (log_read (granted_read first rs (omega arith) (omega arith)) w.turns (a_sheet room (order_accepted h w.turns o.1) low (sheet_length h w.turns low))));
      rest = r.0;
      accepted = (check_exactly (log_of k) (s.0 ++ r.0)).1 (k, granted_read first (rs ++ rs') few few_jobs, r.1);
    }
