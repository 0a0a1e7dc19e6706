-- The lister's answer by its ways out.
-- Assumes nothing.
use mathlib.Core.Path.{◌≡◌, refl, sym, ap, ap₂, subst, ◌∙◌}
use mathlib.Core.Bool.{Bool, cond}
use mathlib.Core.Option.{Option, none, some}
use mathlib.Core.List.{List, ◌++◌}
use Prim.Native.Nat.{ℕ, ◌/◌, ◌≤◌, ◌<◌}
use native.Mathlib.Omega.{arith}
use borrow.Author.Tests.{lt-ltb, le-ltb}
use lib.Dec.{ltb}
use lib.ListN.{length, take, drop}
use Rattle.history.specs.Events.{History, kept}
use Rattle.history.specs.Orders.{order_of}
use Rattle.history_laws.specs.OrderLaws.{order_accepted}
use Rattle.history.specs.Turns.{Turns}
use Rattle.verdicts.specs.Logs.{Reading, faulty, events, read_log}
use Rattle.verdicts.specs.Verdicts.{Listed, refused, written, listed, list_of, list_order}
use Rattle.verdicts_laws.specs.VerdictLaws.{accepted_length}
use Rattle.verdicts_laws.specs.SizeLaws.{log_size}
use Rattle.std.specs.Prelude.{Result, Ok, Err}
use Rattle.codes.specs.Codes.{code_in, place_in}
use Rattle.logs.specs.Logs.{Holds, Reads}
use Rattle.logs.specs.declared.table.Table.{Table}
use Rattle.lists.specs.Answers.{code_of, place_of, answered}
use Rattle.lists.specs.declared.Refusal.{Refusal}

-- ---- the log

pub list_faulty : (bytes lent : List ℕ) {c p : ℕ} → read_log bytes ≡ faulty c p → refused c p lent ≡ list_order bytes lent
unfolding list_order
list_faulty bytes lent e = sym (ap (λ (g : Reading). list_of g lent) e)

-- it is read: its records are told, and they are no more than a table has room for
module _ (bytes : List ℕ) (t : Table) (r : Reads bytes (Ok tt) t) where
  pub few_records : length bytes / 8 ≤ 4096
  few_records = let s = (log_size bytes r.0 r.1).short in omega arith

  pub held : Holds r.0 (length bytes / 8) t
  held = subst (λ (n : ℕ). Holds r.0 n t) (log_size bytes r.0 r.1).whole r.2

-- ---- the order; r is the count of kept jobs

module _ (bytes lent : List ℕ) (h : History) (read : read_log bytes ≡ events h) {r : ℕ} (many : r ≡ length (kept h)) where
  abbrev on_room : Bool → Listed
  on_room b = cond b (refused 18 (length (kept h)) lent) (written (order_of h) lent)

  by_reading : list_order bytes lent ≡ on_room (ltb (length lent) (length (kept h)))
  unfolding list_order listed
  by_reading = ap (λ (g : Reading). list_of g lent) read

  pub list_short : length lent < r → refused 18 r lent ≡ list_order bytes lent
  list_short q = ap (λ (n : ℕ). refused 18 n lent) many ∙ sym (by_reading ∙ ap on_room (lt-ltb (length lent) (length (kept h)) (omega (arith, many, q))))

  module _ (room : r ≤ length lent) where
    with_room : list_order bytes lent ≡ written (order_of h) lent
    with_room = by_reading ∙ ap on_room (le-ltb (length lent) (length (kept h)) (omega (arith, many, room)))

    pub list_none : order_of h ≡ none → refused 17 0 lent ≡ list_order bytes lent
    list_none e = sym (with_room ∙ ap (λ (o : Option (List ℕ)). written o lent) e)

    -- the order stands in `order`, and as many of its entries as there are kept jobs in the list; `now` is what stands there
    pub list_done : Turns h → (order : List ℕ) {now : List ℕ} → order_of h ≡ some (take (length (kept h)) order) → now ≡ take r order ++ drop r lent
        → record { code = 0; place = r; list = now } ≡ list_order bytes lent
    list_done t order {now} e stands =
        let o = take (length (kept h)) order in
        let z : r ≡ length o = many ∙ sym (accepted_length h t (order_accepted h t e)) in
        ap₂ (λ (n : ℕ) (l : List ℕ). record { code = 0; place = n; list = l }) z (stands ∙ ap₂ (λ (m n : ℕ). take m order ++ drop n lent) many z)
        ∙ sym (with_room ∙ ap (λ (o : Option (List ℕ)). written o lent) e)

-- ---- what an answer is numbered, whatever stands in the list

pub same_code : (a : Result ℕ Refusal) (lent : List ℕ) → code_in code_of a ≡ (answered a lent).code
same_code (Ok n) lent = refl
same_code (Err e) lent = refl

pub same_place : (a : Result ℕ Refusal) (lent : List ℕ) → place_in place_of a ≡ (answered a lent).place
same_place (Ok n) lent = refl
same_place (Err e) lent = refl

pub same_list : (a : Result ℕ Refusal) (lent : List ℕ) → lent ≡ (answered a lent).list
same_list (Ok n) lent = refl
same_list (Err e) lent = refl
