-- The promises to those who reorder neighbouring steps (document 02, order 14), one page. To be believed for them: Swaps, the records that stand here, `logged` of SwapOrders (the events of
-- requests by the replies that they got); of held Held; of history Events, Replies and Orders.
--
-- In order: when two requests are apart; two that are change places, and a granted step is given again, first for any state whatever it holds and then for a state handed on from a fresh one; a list
-- of requests with two neighbours swapped, by the slots and by the full history; the two logs, their precedences and their orders.
-- All is said of requests, so that whoever maps the cells of requests first, as by groups, has it of the mapped ones: CoarseSwapPromises says it of the coarse mode.
-- Assumes nothing.
use Rattle.std.specs.Prelude.{◌≡◌, refl, ◌↔◌, ℕ, T, get_or, drop}
use Rattle.std.proofs.Common.{sym, ap, ap₂, ◌∙◌, subst, subst₂, inl, inr, ⊎_elim}
use Rattle.std.proofs.Math.Option.{some}
use mathlib.Core.List.{List, ◌∷◌, ◌++◌, append_inj}
use Rattle.graph.specs.Decide.{answer, eq_test}
use Rattle.history.specs.Events.{Kind, does, Event, steps, History, step_at, Conflict, kept_steps, Precedes}
use Rattle.history.specs.Replies.{Request, Reply, a_step, want, replies, history_of}
use Rattle.history.specs.Turns.{Turns}
use Rattle.history.specs.Orders.{Accepted, order_of}
use Rattle.history_laws.specs.OrderLaws.{order_exists}
use Rattle.history_laws.specs.Granted.{granted_sound}
use Rattle.held.specs.Held.{Held, fresh_held, answer_to, after, answers, after_all}
use Rattle.held_laws.specs.HeldExact.{held_exact}
use Rattle.swaps.specs.Swaps.{clear, Apart, ChangePlaces, GivenAgain}
use Rattle.swaps.specs.SwapLaws.{Clear}
use Rattle.swaps.proofs.SwapLaws.{clear_sym, clear_test, places_changed, given_twice, answers_append, after_append}
use Rattle.swaps.specs.SwapOrders.{logged}
use Rattle.swaps.proofs.SwapOrders.{log_of, swapped_precedes, swapped_accepted, swapped_listed}
use Rattle.swaps.specs.SwapPromises.{Granted, Neighbours, NeighboursSwapped}

-- ---- apart

-- two requests for steps are apart exactly when the steps are not in conflict (`Conflict` of Events), wherever the two would stand
pub apart_exactly : (k l : Kind) (a b : Request) (m n : ℕ)
    → T (clear k l a b) ↔ (Conflict (step_at m (does k) a.job a.cell) (step_at n (does l) b.job b.cell) → ⊥)
apart_exactly k l a b m n = (
  λ t c. ⊎_elim c.others (⊎_elim (λ f. f c.same_cell) (λ f. f c.clashes)) ((clear_test k l a b).holds t),
  λ f.
      (clear_test k l a b).shows
      (⊎_elim inl (λ others. inr (⊎_elim (λ same. inr (λ t. f (record { others = others; same_cell = same; clashes = t }))) inl (answer (eq_test a.cell b.cell))))
      (answer (eq_test a.job b.job))),
)

-- ---- two steps change places

-- and then the other way round too
pub apart_back : {a b : Request} → Apart a b → Apart b a
apart_back {a} {b} p =
    record {
      one = p.other;
      other = p.one;
      asks_one = p.asks_other;
      asks_other = p.asks_one;
      no_conflict = (clear_test p.other p.one b a).shows (clear_sym p.one p.other ((clear_test p.one p.other a b).holds p.no_conflict));
    }

-- for any state, whatever it holds: a and then b are granted; then b and then a are, each with the reply that it got, and leave the same state
pub change_places_any : (h : Held) (a b : Request) → Apart a b → (answer_to h a).code ≡ 0 → (answer_to (after h a) b).code ≡ 0 → ChangePlaces h a b
change_places_any h a b p = places_changed h p.one p.other a b p.asks_one p.asks_other p.no_conflict

-- a granted step given again at once is granted, with the same reply, and the state stays as it was
pub given_again_any : (h : Held) (k : Kind) (a : Request) → want a.kind ≡ a_step k → (answer_to h a).code ≡ 0 → GivenAgain h a
given_again_any = given_twice

-- so for a state handed on from a fresh one
pub change_places : (first : ℕ) (rs : List Request) (a b : Request) → Apart a b
    → (answer_to (after_all (fresh_held first) rs) a).code ≡ 0 → (answer_to (after (after_all (fresh_held first) rs) a) b).code ≡ 0
    → ChangePlaces (after_all (fresh_held first) rs) a b
change_places first rs = change_places_any (after_all (fresh_held first) rs)

-- ---- a list with two neighbours swapped

pub given_again : (first : ℕ) (rs : List Request) (k : Kind) (a : Request) → want a.kind ≡ a_step k
    → (answer_to (after_all (fresh_held first) rs) a).code ≡ 0 → GivenAgain (after_all (fresh_held first) rs) a
given_again first rs = given_again_any (after_all (fresh_held first) rs)

-- ---- the full history

pub neighbours_swapped : {h : Held} {rs : List Request} {a b : Request} {rest : List Request} {x y : Reply} {l : List Reply}
    → Neighbours h rs a b rest x y l → NeighboursSwapped h rs a b rest x y l
neighbours_swapped {h} {rs} {a} {b} {rest} {x} {y} {l} n =
    let g = after_all h rs in
    let given : answer_to g a ∷ answer_to (after g a) b ∷ answers (after (after g a) b) rest ≡ x ∷ y ∷ l =
    (append_inj {s₁ = answers h rs} {s₂ = answers h rs} (sym (answers_append h rs (a ∷ b ∷ rest)) ∙ n.answered) refl).1 in
    let is_x : answer_to g a ≡ x = ap (λ (q : List Reply). get_or q 0 x) given in
    let is_y : answer_to (after g a) b ≡ y = ap (λ (q : List Reply). get_or q 1 y) given in
    let is_l : answers (after (after g a) b) rest ≡ l = ap (λ (q : List Reply). drop 2 q) given in
    let c = change_places_any g a b n.apart (ap (λ (r : Reply). r.code) is_x ∙ n.one_granted) (ap (λ (r : Reply). r.code) is_y ∙ n.other_granted) in
    record {
      answered =
          answers_append h rs (b ∷ a ∷ rest)
          ∙ ap (λ (q : List Reply). answers h rs ++ q)
          (ap₂ (λ (r : Reply) (q : List Reply). r ∷ q) (c.other_reply ∙ is_y)
          (ap₂ (λ (r : Reply) (q : List Reply). r ∷ q) (c.one_reply ∙ is_x) (ap (λ (s : Held). answers s rest) c.same_state ∙ is_l)));
      same_state = after_append h rs (b ∷ a ∷ rest) ∙ ap (λ (s : Held). after_all s rest) c.same_state ∙ sym (after_append h rs (a ∷ b ∷ rest));
    }

module _ {first : ℕ} {rs : List Request} {a b : Request} {rest : List Request} {x y : Reply} {l : List Reply} (g : Granted first rs a b rest x y l) where
  pub replies_swapped : replies first (rs ++ b ∷ a ∷ rest) ≡ replies first rs ++ y ∷ x ∷ l
  replies_swapped =
      let as_held : answers (fresh_held first) (rs ++ a ∷ b ∷ rest) ≡ answers (fresh_held first) rs ++ x ∷ y ∷ l =
      held_exact first (rs ++ a ∷ b ∷ rest) ∙ g.answered ∙ ap (λ (q : List Reply). q ++ x ∷ y ∷ l) (sym (held_exact first rs)) in
      let n : Neighbours (fresh_held first) rs a b rest x y l = record { apart = g.apart; answered = as_held; one_granted = g.one_granted; other_granted = g.other_granted } in
      sym (held_exact first (rs ++ b ∷ a ∷ rest)) ∙ (neighbours_swapped n).answered ∙ ap (λ (q : List Reply). q ++ y ∷ x ∷ l) (held_exact first rs)

  -- the log, and the one with the two swapped, which differs from it in these two events alone
  abbrev before : History
  before = history_of first rs

  abbrev one : Event
  one = steps g.apart.one a.job a.cell

  abbrev other : Event
  other = steps g.apart.other b.job b.cell

  pub log_given : history_of first (rs ++ a ∷ b ∷ rest) ≡ before ++ one ∷ other ∷ logged l rest
  log_given = log_of first rs g.apart.one a g.apart.other b rest x y l g.apart.asks_one g.apart.asks_other g.one_granted g.other_granted g.answered

  pub log_swapped : history_of first (rs ++ b ∷ a ∷ rest) ≡ before ++ other ∷ one ∷ logged l rest
  log_swapped = log_of first rs g.apart.other b g.apart.one a rest y x l g.apart.asks_other g.apart.asks_one g.other_granted g.one_granted replies_swapped

  not_in_conflict : Clear g.apart.one a.job a.cell g.apart.other b.job b.cell
  not_in_conflict = (clear_test g.apart.one g.apart.other a b).holds g.apart.no_conflict

  -- the same jobs precede the same jobs
  pub same_precedences : (i j : ℕ) → Precedes (kept_steps (history_of first (rs ++ a ∷ b ∷ rest))) i j ↔ Precedes (kept_steps (history_of first (rs ++ b ∷ a ∷ rest))) i j
  same_precedences i j =
      subst₂ (λ (u v : History). Precedes (kept_steps u) i j ↔ Precedes (kept_steps v) i j) (sym log_given) (sym log_swapped) (
        swapped_precedes before (logged l rest) g.apart.one a.job a.cell g.apart.other b.job b.cell not_in_conflict i j,
        swapped_precedes before (logged l rest) g.apart.other b.job b.cell g.apart.one a.job a.cell (clear_sym g.apart.one g.apart.other not_in_conflict) i j,
      )

  turns_given : Turns (before ++ one ∷ other ∷ logged l rest)
  turns_given = subst Turns log_given (granted_sound first (rs ++ a ∷ b ∷ rest)).turns

  turns_swapped : Turns (before ++ other ∷ one ∷ logged l rest)
  turns_swapped = subst Turns log_swapped (granted_sound first (rs ++ b ∷ a ∷ rest)).turns

  -- so the same orders are accepted for both
  pub same_orders : (o : List ℕ) → Accepted (history_of first (rs ++ a ∷ b ∷ rest)) o ↔ Accepted (history_of first (rs ++ b ∷ a ∷ rest)) o
  same_orders o =
      subst₂ (λ (p q : History). Accepted p o ↔ Accepted q o) (sym log_given) (sym log_swapped) (
        swapped_accepted before (logged l rest) g.apart.one a.job a.cell g.apart.other b.job b.cell not_in_conflict turns_given turns_swapped,
        swapped_accepted before (logged l rest) g.apart.other b.job b.cell g.apart.one a.job a.cell (clear_sym g.apart.one g.apart.other not_in_conflict) turns_swapped turns_given,
      )

  -- and the lister's order is the same
  pub same_listed : order_of (history_of first (rs ++ a ∷ b ∷ rest)) ≡ order_of (history_of first (rs ++ b ∷ a ∷ rest))
  same_listed =
      let s = granted_sound first (rs ++ a ∷ b ∷ rest) in
      let e = order_exists (history_of first (rs ++ a ∷ b ∷ rest)) s.turns s.no_circle in
      let listed = subst (λ (h : History). order_of h ≡ some e.0) log_given e.1 in
      let swapped = swapped_listed before (logged l rest) g.apart.one a.job a.cell g.apart.other b.job b.cell not_in_conflict turns_given turns_swapped listed in
      e.1 ∙ sym (subst (λ (h : History). order_of h ≡ some e.0) (sym log_swapped) swapped)
