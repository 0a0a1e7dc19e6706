-- The sheet's answer by its ways out.
-- Assumes nothing.
use mathlib.Core.Path.{◌≡◌, refl, sym, ap, ap₂, ◌∙◌}
use mathlib.Core.Bool.{Bool, cond, not, ◌&&◌}
use mathlib.Core.Option.{Option, none, some}
use mathlib.Core.List.Memᴰ
use mathlib.Core.List.{List, ◌++◌}
use Prim.Native.Nat.{ℕ, ◌≤◌, ◌<◌}
use native.Mathlib.Omega.{arith}
use borrow.Author.Tests.{lt-ltb, le-ltb}
use lib.Dec.{ltb}
use lib.ListN.{length, get_or, take, drop}
use lib.Seq.{get_or-take}
use Rattle.graph.specs.Decide.{test_true, not_test, eq_test}
use Rattle.graph.specs.Lists.{◌∈◌, only}
use Rattle.graph.proofs.ListingLaws.{lowest_forward}
use Rattle.history.specs.Events.{History, opened, kept}
use Rattle.history.specs.Orders.{order_of}
use Rattle.history_laws.specs.OrderLaws.{order_lowest, order_accepted}
use Rattle.history.specs.Turns.{Turns}
use Rattle.verdicts.specs.Logs.{Reading, faulty, events, read_log}
use Rattle.verdicts.specs.Verdicts.{Listed, refused, written}
use Rattle.verdicts_laws.specs.VerdictLaws.{accepted_length}
use Rattle.sheet.specs.Sheet.{at_rest, resting, sheet_of, of_whole, sheeted, sheet_in, list_sheet}
use Rattle.sheet.proofs.SheetLaws.{sheet_lowest, sheet_length, sheet_left}
use Rattle.tallies.specs.Jobs.{status, Jobs}
use Rattle.tallies.specs.Marks.{mark}
use Rattle.tallies.specs.Places.{Lists}
use Rattle.tallies.specs.TableLaws.{at_member, member_at, kept_status}
use Rattle.checks.specs.Checks.{Keeps}
use Rattle.std.specs.Prelude.{None, Some, Ok, Err}
use Rattle.lists.specs.declared.Refusal.TheVariants.{NoOrder}
use Rattle.lists.specs.Sheets.{Outside, Numbered, Picked, Whole}

pub sheet_faulty : (bytes lent : List ℕ) {c p : ℕ} → read_log bytes ≡ faulty c p → refused c p lent ≡ list_sheet bytes lent
unfolding list_sheet
sheet_faulty bytes lent e = sym (ap (λ (g : Reading). sheet_in g lent) e)

-- r is the count of jobs at rest
module _ (bytes lent : List ℕ) (h : History) (read : read_log bytes ≡ events h) {r : ℕ} (many : r ≡ length (resting h)) where
  abbrev on_room : Bool → Listed
  on_room b = cond b (refused 18 (length (resting h)) lent) (written (of_whole (order_of h) (sheet_of h)) lent)

  by_reading : list_sheet bytes lent ≡ on_room (ltb (length lent) (length (resting h)))
  unfolding list_sheet sheeted
  by_reading = ap (λ (g : Reading). sheet_in g lent) read

  pub sheet_short : length lent < r → refused 18 r lent ≡ list_sheet bytes lent
  sheet_short q = ap (λ (n : ℕ). refused 18 n lent) many ∙ sym (by_reading ∙ ap on_room (lt-ltb (length lent) (length (resting h)) (omega (arith, many, q))))

  module _ (room : r ≤ length lent) where
    with_room : list_sheet bytes lent ≡ written (of_whole (order_of h) (sheet_of h)) lent
    with_room = by_reading ∙ ap on_room (le-ltb (length lent) (length (resting h)) (omega (arith, many, room)))

    pub sheet_none : order_of h ≡ none → refused 17 0 lent ≡ list_sheet bytes lent
    sheet_none e = sym (with_room ∙ ap (λ (o : Option (List ℕ)). written (of_whole o (sheet_of h)) lent) e)

    -- the order stands in `order`, and the jobs at rest of it in `sheet`; `now` is what stands in the list
    pub sheet_done : Turns h → (order sheet : List ℕ) {now : List ℕ} → order_of h ≡ some (take (length (kept h)) order)
        → Picked (at_rest h) order (length (kept h)) sheet → now ≡ take r sheet ++ drop r lent → record { code = 0; place = r; list = now } ≡ list_sheet bytes lent
    sheet_done t order sheet {now} e picked stands =
        let o = take (length (kept h)) order in
        let s = sheet_left h t e in
        let z : r ≡ length (only (at_rest h) o) = many ∙ sym (sheet_length h t (sheet_lowest h s)) in
        ap₂ (λ (n : ℕ) (l : List ℕ). record { code = 0; place = n; list = l }) z
        (stands ∙ ap (λ (m : ℕ). take m sheet ++ drop m lent) z ∙ ap (λ (l : List ℕ). l ++ drop (length (only (at_rest h) o)) lent) picked)
        ∙ sym (with_room ∙ ap₂ (λ (o s : Option (List ℕ)). written (of_whole o s) lent) e s)

-- ---- the whole order

-- every kept job is placed, or one is missing
module _ {h : History} {count : ℕ} {order places : List ℕ} (l : Lists h count order places) where
  pub whole_order : {n : ℕ} → Keeps h (take l.many order) (Some n) → Whole h order (Ok tt)
  whole_order x = l.found x.0

  pub whole_none : Keeps h (take l.many order) None → Whole h order (Err NoOrder)
  whole_none x = (refl, l.stuck x)

-- ---- its entries are kept jobs

module _ {h : History} {numbers states : List ℕ} {count : ℕ} (jobs : Jobs h numbers states count) (order : List ℕ) (e : order_of h ≡ some (take (length (kept h)) order)) where
  entry_kept : (k : ℕ) → k < length (kept h) → get_or order k 0 ∈ kept h
  entry_kept k q =
      let o = take (length (kept h)) order in
      let n = accepted_length h jobs.turns (order_accepted h jobs.turns e) in
      (lowest_forward (order_lowest h jobs.turns e)).named (get_or order k 0) (Memᴰ.cast (sym (get_or-take (length (kept h)) order k 0 q)) (at_member o k (omega arith)))

  pub entry_numbered : (k : ℕ) → k < length (kept h) → Numbered numbers count (get_or order k 0)
  entry_numbered k q =
      let r = member_at (opened h) (get_or order k 0) (kept_status h (get_or order k 0) (entry_kept k q)).0 in
      let p : r.0 < count = (let m = jobs.many in let x = r.1 in omega arith) in
      (r.0, p, jobs.named r.0 p ∙ r.2)

  -- so such a job is at rest where it is not in the set
  pub entry_outside : (words : List ℕ) → Outside (at_rest h) (opened h) count states words → (k i : ℕ) → k < length (kept h) → i < count → get_or numbers i 0 ≡ get_or order k 0
      → at_rest h (get_or order k 0) ≡ not (mark words i)
  entry_outside words out k i q p x =
      let y : get_or (opened h) i 0 ≡ get_or order k 0 = sym (jobs.named i p) ∙ x in
      let f = (kept_status h (get_or order k 0) (entry_kept k q)).1 in
      ap (at_rest h) (sym y) ∙ out i p
      ∙ ap (λ (b : Bool). b && not (mark words i)) (test_true (not_test (eq_test (get_or states i 0) 4)) (λ z. f (sym (jobs.stated i p ∙ ap (status h) y) ∙ z)))
