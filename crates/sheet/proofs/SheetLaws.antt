-- The sheet and its answer mean what they say. In order: the sheet is the lowest-first order of the jobs at rest (`sheet_lowest`, `lowest_sheet`), is there where there is no circle (`sheet_exists`) and
-- is as long as they are many (`sheet_length`); it is the whole order with the other jobs struck out (`sheet_left`); the answer code by code (`sheeted_right`, `sheet_right`), and no other means that (`morning_only`); its code and place are small
-- (`sheet_small`); a history of granted requests goes on as one of more requests (`goes_on`).
-- Assumes nothing.
use Rattle.std.specs.Prelude.{◌≡◌, Bool, true, false, cond, List, [], ◌∷◌, ◌++◌, ℕ, ◌≤◌, ◌<◌, eqb, drop}
use Rattle.std.proofs.Math.Path.{refl, sym}
use Rattle.std.proofs.Common.{ap, ◌∙◌, subst, append-nil, append_assoc, le_trans, arith}
use Rattle.std.proofs.Math.Bool.{not, and_comm}
use Rattle.std.proofs.Math.Option.{Option, none, some}
use Rattle.std.proofs.Math.Dec.{T}
use Rattle.std.proofs.Math.ListN.{length}
use Rattle.graph.specs.Decide.{and_test, not_test, own_test, eq_test, lt_test, same_test, by_test, true_is, false_is}
use Rattle.graph.specs.Lists.{only, only_keeps, only_from, only_same, only_only, only_length, strike, once_length}
use Rattle.graph.specs.Listing.{LowestFirst, done, next}
use Rattle.graph.proofs.ListingLaws.{lowest_forward, lowest_only, lowest_first_some, lowest_first_exists}
use Rattle.history.specs.Events.{Event, History, has, opened, abandoned, kept, kept_steps, Precedes, Circular}
use Rattle.history.specs.Replies.{Request, Book, blank_book, full, granted_of, after, book_after, history_from, history_of}
use Rattle.history.specs.Turns.{Turns}
use Rattle.history.specs.Orders.{Accepted, order_of}
use Rattle.history_laws.specs.EventLaws.{precedes_test}
use Rattle.history_laws.specs.OrderLaws.{accepted_no_circle, order_lowest, order_accepted, no_order_circle}
use Rattle.verdicts.specs.Logs.{Reading, faulty, events, most_jobs, read_log}
use Rattle.verdicts_laws.specs.LogLaws.{read_turns}
use Rattle.verdicts.specs.Verdicts.{Listed, refused, written}
use Rattle.verdicts_laws.specs.SizeLaws.{LogSize, log_size, fault_known, Small}
use Rattle.sheet.specs.Sheet.{at_rest, resting, sheet_of, of_whole, sheeted, sheet_in, list_sheet}
use Rattle.sheet.proofs.RestLaws.{rest_test, resting_once, rest_before}
use Rattle.sheet.specs.SheetLaws.{Morning, SheetAs, a_sheet, log_faulty, log_read, no_order, no_room}

-- ---- the sheet

-- ---- the sheet within the whole order

module _ (h : History) where
  pub sheet_lowest : {s : List ℕ} → sheet_of h ≡ some s → LowestFirst (Precedes (kept_steps h)) (resting h) s
  unfolding sheet_of
  sheet_lowest e = lowest_first_some (precedes_test (kept_steps h)) e

  pub sheet_exists : (Circular (kept_steps h) → ⊥) → (s : List ℕ) × (sheet_of h ≡ some s)
  unfolding sheet_of
  sheet_exists free = lowest_first_exists (precedes_test (kept_steps h)) free (resting h)

  pub lowest_sheet : (Circular (kept_steps h) → ⊥) → {s : List ℕ} → LowestFirst (Precedes (kept_steps h)) (resting h) s → sheet_of h ≡ some s
  lowest_sheet free w = let r = sheet_exists free in r.1 ∙ ap some (lowest_only (sheet_lowest r.1) w)

  pub sheet_length : Turns h → {s : List ℕ} → LowestFirst (Precedes (kept_steps h)) (resting h) s → length s ≡ length (resting h)
  sheet_length turns w = let f = lowest_forward w in once_length f.once (resting_once h turns) f.named f.names

-- jobs that whoever precedes one of them is among: in the lowest-first order of all, left to themselves, they stand in their own
module _ {E : ℕ → ℕ → Type 0} (p : ℕ → Bool) (closed : (i j : ℕ) → T (p j) → E i j → T (p i)) where
  struck : (j : ℕ) (l : List ℕ) → only p (strike j l) ≡ strike j (only p l)
  unfolding strike
  struck j l = only_only p (λ i. not (eqb i j)) l ∙ only_same _ _ l (λ i m. and_comm (not (eqb i j)) (p i)) ∙ sym (only_only (λ i. not (eqb i j)) p l)

  passed_over : (j : ℕ) (l : List ℕ) → (T (p j) → ⊥) → only p (strike j l) ≡ only p l
  unfolding strike
  passed_over j l f =
      only_only p (λ i. not (eqb i j)) l
      ∙ only_same _ _ l (λ i m. same_test (and_test (not_test (eq_test i j)) (own_test (p i))) (own_test (p i)) (λ r. r.1) (λ t. (λ q. f (subst (λ (x : ℕ). T (p x)) q t), t)))

  lowest_closed : {l o : List ℕ} → LowestFirst E l o → LowestFirst E (only p l) (only p o)
  lowest_closed done = done
  lowest_closed (next {j = j} {l = l} {o = o} m r low w) = go (p j) refl (lowest_closed w)
    where
      go : (b : Bool) → p j ≡ b → LowestFirst E (only p (strike j l)) (only p o) → LowestFirst E (only p l) (cond b (j ∷ only p o) (only p o))
      go true e v =
          next (only_keeps p m (true_is e)) (λ i n. r i (only_from p l n).0)
          (λ i n free. let a = only_from p l n in low i a.0 (λ k q x. free k (only_keeps p q (closed k i a.1 x)) x))
          (subst (λ (x : List ℕ). LowestFirst E x (only p o)) (struck j l) v)
      go false e v = subst (λ (x : List ℕ). LowestFirst E x (only p o)) (passed_over j l (false_is e)) v

-- ---- the answer

-- so the sheet is what is left of the whole order when the jobs that are not at rest are struck out
pub sheet_left : (h : History) → Turns h → {o : List ℕ} → order_of h ≡ some o → sheet_of h ≡ some (only (at_rest h) o)
sheet_left h turns {o} e =
    lowest_sheet h (accepted_no_circle h turns (order_accepted h turns e)) (unfold resting in
    lowest_closed (at_rest h) (λ i j t p. (rest_test h i).shows (rest_before h turns ((rest_test h j).holds t) p)) (order_lowest h turns e))

module _ (h : History) (turns : Turns h) (lent : List ℕ) where
  with_sheet : {o : List ℕ} (s : Option (List ℕ)) → sheet_of h ≡ s → Accepted h o → length (resting h) ≤ length lent → SheetAs h lent (written s lent)
  with_sheet none e a l = absurd (let r = sheet_exists h (accepted_no_circle h turns a) in let z : ◌≡◌ {A = ℕ} 0 1 = cc in omega arith)
  with_sheet (some s) e a l = let w = sheet_lowest h e in a_sheet l a w (sheet_length h turns w)

  with_whole : (o : Option (List ℕ)) → order_of h ≡ o → length (resting h) ≤ length lent → SheetAs h lent (written (of_whole o (sheet_of h)) lent)
  with_whole none e l = no_order l (λ o a. accepted_no_circle h turns a (no_order_circle h turns e))
  with_whole (some o) e l = with_sheet (sheet_of h) refl (order_accepted h turns e) l

  pub sheeted_right : SheetAs h lent (sheeted h lent)
  unfolding sheeted
  sheeted_right =
      by_test (λ b. SheetAs h lent (cond b (refused 18 (length (resting h)) lent) (written (of_whole (order_of h) (sheet_of h)) lent))) (lt_test (length lent) (length (resting h)))
      no_room (λ f. with_whole (order_of h) refl (let g : (length lent < length (resting h)) → ⊥ = f in omega arith))

-- ---- no other answer

pub sheet_right : (bytes lent : List ℕ) → Morning bytes lent (list_sheet bytes lent)
unfolding list_sheet
sheet_right bytes lent = go (read_log bytes) refl
  where
    go : (g : Reading) → read_log bytes ≡ g → Morning bytes lent (sheet_in g lent)
    go (faulty c p) e = log_faulty e
    go (events h) e = let t = read_turns bytes h e in log_read e t (sheeted_right h t lent)

-- two answers that mean what they say are one
as_only : (h : History) (lent : List ℕ) {a b : Listed} → SheetAs h lent a → SheetAs h lent b → a ≡ b
as_only h lent (no_room l) (no_room k) = refl
as_only h lent (no_room l) (no_order k f) = absurd (omega arith)
as_only h lent (no_room l) (a_sheet k x w n) = absurd (omega arith)
as_only h lent (no_order l f) (no_room k) = absurd (omega arith)
as_only h lent (no_order l f) (no_order k g) = refl
as_only h lent (no_order l f) (a_sheet {o = o} k x w n) = absurd (f o x)
as_only h lent (a_sheet k x w n) (no_room l) = absurd (omega arith)
as_only h lent (a_sheet {o = o} k x w n) (no_order l f) = absurd (f o x)
as_only h lent (a_sheet k x w n) (a_sheet l y v m) = ap (λ (s : List ℕ). record { code = 0; place = length s; list = s ++ drop (length s) lent }) (lowest_only w v)

-- ---- code and place are small

-- whatever answer means that of a log and a lent list is this one
pub morning_only : (bytes lent : List ℕ) {a : Listed} → Morning bytes lent a → a ≡ list_sheet bytes lent
unfolding list_sheet
morning_only bytes lent (log_faulty e) = sym (ap (λ (g : Reading). sheet_in g lent) e)
morning_only bytes lent (log_read {h = h} e t l) = as_only h lent l (sheeted_right h t lent) ∙ sym (ap (λ (g : Reading). sheet_in g lent) e)

-- the jobs at rest are opened jobs
resting_few : (bytes : List ℕ) (h : History) → LogSize bytes h → length (resting h) ≤ most_jobs
unfolding resting kept
resting_few bytes h w = le_trans (only_length (at_rest h) (kept h)) (le_trans (only_length (λ j. not (has (abandoned h) j)) (opened h)) w.few_jobs)

-- ---- granted requests, and more of them

pub sheet_small : (bytes lent : List ℕ) → Small 18 (list_sheet bytes lent).code (list_sheet bytes lent).place
sheet_small bytes lent = go (sheet_right bytes lent)
  where
    by_answer : {h : History} {a : Listed} → LogSize bytes h → SheetAs h lent a → Small 18 a.code a.place
    by_answer {h} w (no_room q) = let k = resting_few bytes h w in record { code_small = omega arith; place_small = omega arith }
    by_answer w (no_order q f) = record { code_small = omega arith; place_small = omega arith }
    by_answer {h} w (a_sheet q a v l) = let k = resting_few bytes h w in record { code_small = omega arith; place_small = omega arith }

    go : {a : Listed} → Morning bytes lent a → Small 18 a.code a.place
    go (log_faulty e) = let k = fault_known bytes e in let a = k.upto in record { code_small = omega arith; place_small = k.place }
    go (log_read {h = h} e t j) = by_answer (log_size bytes h e) j

-- what is granted is put at the end of the history
more_granted : (b : Book) (h : History) (rs : List Request) → (es : List Event) × (history_from b h rs ≡ h ++ es)
unfolding after
more_granted b h [] = ([], sym (append-nil h))
more_granted b h (r ∷ rs) =
    let new = granted_of (full b h) r in
    let n = more_granted (book_after b h r) (h ++ new) rs in
    (new ++ n.0, n.1 ∙ append_assoc h new n.0)

on_from : (b : Book) (h : History) (rs rs' : List Request) → (es : List Event) × (history_from b h (rs ++ rs') ≡ history_from b h rs ++ es)
on_from b h [] rs' = more_granted b h rs'
on_from b h (r ∷ rs) rs' = on_from (book_after b h r) (after b h r) rs rs'

pub goes_on : (first : ℕ) (rs rs' : List Request) → (es : List Event) × (history_of first (rs ++ rs') ≡ history_of first rs ++ es)
goes_on first rs rs' = on_from (blank_book first) [] rs rs'
