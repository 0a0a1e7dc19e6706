-- The promises to those who reorder neighbouring steps, in the coarse mode. To be believed for them: Swaps and CoarseSwaps; of coarse `group`, `in_group` and CoarseHeld; of held Held; of
-- history Events and Replies.
--
-- In order: when two requests are apart by groups; two that are change places, and a granted step is given again, first for any state whatever it holds and then for a state
-- handed on from a fresh one.
-- Assumes nothing.
use Rattle.std.specs.Prelude.{◌≡◌, ◌↔◌, List, ℕ, T}
use Rattle.std.proofs.Common.{ap, inl, inr, ⊎_elim}
use Rattle.history.specs.Events.{Kind, does, step_at, Conflict}
use Rattle.history.specs.Replies.{Request, a_step, want}
use Rattle.held.specs.Held.{Held, fresh_held}
use Rattle.coarse.specs.Coarse.{group, in_group}
use Rattle.coarse.specs.CoarseHeld.{coarse_answer, coarse_next, coarse_state}
use Rattle.swaps.specs.Swaps.{Apart}
use Rattle.swaps.specs.CoarseSwaps.{group_clear, GroupApart, CoarseChangePlaces, CoarseGivenAgain}
use Rattle.swaps.proofs.SwapLaws.{clear_test}
use Rattle.swaps.proofs.SwapPromises.{apart_exactly, change_places_any, given_again_any}

-- ---- apart by groups

-- two requests for steps are apart exactly when the steps on their groups are not in conflict (`Conflict` of Events), wherever the two would stand
pub group_apart_exactly : (k l : Kind) (a b : Request) (m n : ℕ)
    → T (group_clear k l a b) ↔ (Conflict (step_at m (does k) a.job (group a.cell)) (step_at n (does l) b.job (group b.cell)) → ⊥)
group_apart_exactly k l a b = apart_exactly k l (in_group group a) (in_group group b)

-- and then they are apart by their cells too, so that by groups no pair changes places that would not by cells
pub apart_by_cells : {a b : Request} → GroupApart a b → Apart a b
apart_by_cells {a} {b} p =
    record {
      one = p.one;
      other = p.other;
      asks_one = p.asks_one;
      asks_other = p.asks_other;
      no_conflict =
          (clear_test p.one p.other a b).shows
          (⊎_elim inl (λ q. inr (⊎_elim (λ f. inl (λ e. f (ap group e))) inr q)) ((clear_test p.one p.other (in_group group a) (in_group group b)).holds p.no_conflict));
    }

-- ---- two steps change places

-- for any state, whatever it holds: a and then b are granted; then b and then a are, each with the reply that it got, and leave the same state
pub coarse_change_places_any : (h : Held) (a b : Request) → GroupApart a b → (coarse_answer h a).code ≡ 0 → (coarse_answer (coarse_next h a) b).code ≡ 0 → CoarseChangePlaces h a b
unfolding coarse_answer coarse_next
coarse_change_places_any h a b p x y =
    let apart : Apart (in_group group a) (in_group group b) =
    record { one = p.one; other = p.other; asks_one = p.asks_one; asks_other = p.asks_other; no_conflict = p.no_conflict } in
    let c = change_places_any h (in_group group a) (in_group group b) apart x y in
    record { other_reply = c.other_reply; one_reply = c.one_reply; same_state = c.same_state }

-- a granted step given again at once is granted, with the same reply, and the state stays as it was
pub coarse_given_again_any : (h : Held) (k : Kind) (a : Request) → want a.kind ≡ a_step k → (coarse_answer h a).code ≡ 0 → CoarseGivenAgain h a
unfolding coarse_answer coarse_next
coarse_given_again_any h k a asks x =
    let c = given_again_any h k (in_group group a) asks x in
    record { same_reply = c.same_reply; same_state = c.same_state }

-- so for a state handed on from a fresh one
pub coarse_change_places : (first : ℕ) (rs : List Request) (a b : Request) → GroupApart a b
    → (coarse_answer (coarse_state (fresh_held first) rs) a).code ≡ 0 → (coarse_answer (coarse_next (coarse_state (fresh_held first) rs) a) b).code ≡ 0
    → CoarseChangePlaces (coarse_state (fresh_held first) rs) a b
coarse_change_places first rs = coarse_change_places_any (coarse_state (fresh_held first) rs)

pub coarse_given_again : (first : ℕ) (rs : List Request) (k : Kind) (a : Request) → want a.kind ≡ a_step k
    → (coarse_answer (coarse_state (fresh_held first) rs) a).code ≡ 0 → CoarseGivenAgain (coarse_state (fresh_held first) rs) a
coarse_given_again first rs = coarse_given_again_any (coarse_state (fresh_held first) rs)
