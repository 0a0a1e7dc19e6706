-- When two requests for a read, a write or an add are apart in the coarse mode, and what it means there that they change places (document 02, order 14 with order 11): as in Swaps, with
-- each cell replaced by its group, and by the coarse answers.
-- Assumes nothing.
use Rattle.std.specs.Prelude.{◌≡◌, Bool, T}
use Rattle.history.specs.Events.{Kind}
use Rattle.history.specs.Replies.{Request, a_step, want}
use Rattle.held.specs.Held.{Held}
use Rattle.coarse.specs.Coarse.{group, in_group}
use Rattle.coarse.specs.CoarseHeld.{coarse_answer, coarse_next}
use Rattle.swaps.specs.Swaps.{clear}

-- the two steps are of one job, or on cells of two groups, or of kinds that do not clash
abbrev pub group_clear : Kind → Kind → Request → Request → Bool
group_clear k l a b = clear k l (in_group group a) (in_group group b)

pub record GroupApart (a b : Request) : Type 0 where
  pub one : Kind
  pub other : Kind
  pub asks_one : want a.kind ≡ a_step one
  pub asks_other : want b.kind ≡ a_step other
  pub no_conflict : T (group_clear one other a b)

-- a and then b, or b and then a: each gets the same reply, and what is left is the same state, to the last bit
pub record CoarseChangePlaces (h : Held) (a b : Request) : Type 0 where
  pub other_reply : coarse_answer h b ≡ coarse_answer (coarse_next h a) b
  pub one_reply : coarse_answer (coarse_next h b) a ≡ coarse_answer h a
  pub same_state : coarse_next (coarse_next h b) a ≡ coarse_next (coarse_next h a) b

-- a given once more: the same reply, and the state stays as it was
pub record CoarseGivenAgain (h : Held) (a : Request) : Type 0 where
  pub same_reply : coarse_answer (coarse_next h a) a ≡ coarse_answer h a
  pub same_state : coarse_next (coarse_next h a) a ≡ coarse_next h a
