-- What the proofs of the crate cite: a request as its fields, from the step on the request by groups what the contracts say, and the state with no job.
-- Assumes nothing.
use mathlib.Core.Path.{◌≡◌, ap, ◌∙◌}
use mathlib.Core.List.{List, [], ◌∷◌}
use Prim.Native.Nat.{ℕ, ◌+◌, ◌*◌, ◌/◌, ◌%◌, ◌<◌}
use native.Mathlib.Omega.{arith}
use lib.ListN.{get_or}
use Rattle.history.specs.Formats.{request_of}
use Rattle.history.specs.Replies.{Request, Reply}
use Rattle.held.specs.Held.{Held, answer_to, after}
use Rattle.coarse.specs.Coarse.{group, in_group}
use Rattle.coarse.specs.CoarseHeld.{coarse_answer, coarse_next}
use Rattle.std.specs.Prelude.{Result}
use Rattle.slots.specs.Lent.{numbered, packed, Steps}
use Rattle.slots.specs.declared.JobNumber.{JobNumber}
use Rattle.slots.specs.declared.Refusal.{Refusal}

-- two bytes, low byte first, are the number that they were taken from
two_bytes : (n : ℕ) → n < 65536 → n % 256 + n / 256 % 256 * 256 ≡ n
two_bytes n h = omega arith

group_small : (n : ℕ) → n < 65536 → n / 16 < 65536
group_small n h = omega arith

-- the bytes of the request by groups, g being the two of the group
pub regrouped : (b g : List ℕ) {n : ℕ} → n < 65536 → n ≡ get_or b 2 0 + get_or b 3 0 * 256 → g ≡ n / 16 % 256 ∷ n / 16 / 256 % 256 ∷ []
    → request_of (get_or b 0 0 ∷ get_or b 1 0 ∷ get_or g 0 0 ∷ get_or g 1 0 ∷ get_or b 4 0 ∷ get_or b 5 0 ∷ get_or b 6 0 ∷ get_or b 7 0 ∷ [])
    ≡ in_group group (request_of b)
unfolding request_of group
regrouped b g {n} h en eg =
    let q = request_of b in
    ap (λ (g : List ℕ). record { kind = q.kind; byte1 = q.byte1; cell = get_or g 0 0 + get_or g 1 0 * 256; job = q.job }) eg
    ∙ ap (λ (n : ℕ). record { kind = q.kind; byte1 = q.byte1; cell = n; job = q.job })
    (two_bytes (n / 16) (group_small n h) ∙ ap (λ (x : ℕ). x / 16) en)

-- the exact mode on the request by groups is the coarse one
module _ (q : Request) (h : Held) {grouped : Request} (e : grouped ≡ in_group group q) where
  pub answered_coarsely : answer_to h grouped ≡ coarse_answer h q
  unfolding coarse_answer
  answered_coarsely = ap (answer_to h) e

  pub left_coarsely : after h grouped ≡ coarse_next h q
  unfolding coarse_next
  left_coarsely = ap (after h) e

  pub coarsely : {g : Held} {r : Result JobNumber Refusal} → Steps h grouped r g → (numbered r ≡ coarse_answer h q) × (g ≡ coarse_next h q)
  coarsely s = (s.answered ∙ answered_coarsely, s.left ∙ left_coarsely)

-- an answer in one number
pub in_one : {a b : Reply} {n : ℕ} → n ≡ packed a → a ≡ b → n ≡ b.code * 4294967296 + b.job
unfolding packed
in_one e f = e ∙ ap packed f
