-- When two requests for a read, a write or an add are apart, and what it means that they change places (document 02, order 14).
-- Assumes nothing.
use Rattle.std.specs.Prelude.{◌≡◌, Bool, not, ◌||◌, T, eqb}
use Rattle.history.specs.Events.{Kind, kinds_clash}
use Rattle.history.specs.Replies.{Request, a_step, want}
use Rattle.held.specs.Held.{Held, answer_to, after}

-- a step of kind k that the one request asks for and a step of kind l that the other does are not in conflict: they are of one job, or on two cells, or of kinds
-- that do not clash
abbrev pub clear : Kind → Kind → Request → Request → Bool
clear k l a b = eqb a.job b.job || (not (eqb a.cell b.cell) || not (kinds_clash k l))

-- two requests for a read, a write or an add that are not in conflict
pub record Apart (a b : Request) : Type 0 where
  pub one : Kind
  pub other : Kind
  pub asks_one : want a.kind ≡ a_step one
  pub asks_other : want b.kind ≡ a_step other
  pub no_conflict : T (clear one other a b)

-- a and then b, or b and then a: each gets the same reply, and what is left is the same state, to the last bit
pub record ChangePlaces (h : Held) (a b : Request) : Type 0 where
  pub other_reply : answer_to h b ≡ answer_to (after h a) b
  pub one_reply : answer_to (after h b) a ≡ answer_to h a
  pub same_state : after (after h b) a ≡ after (after h a) b

-- a given once more: the same reply, and the state stays as it was
pub record GivenAgain (h : Held) (a : Request) : Type 0 where
  pub same_reply : answer_to (after h a) a ≡ answer_to h a
  pub same_state : after (after h a) a ≡ after h a
