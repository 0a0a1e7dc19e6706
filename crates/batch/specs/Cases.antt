-- Batches worked out by hand, in one table under one statement (`batch_cases`), computed from the definitions: by the state that is held, and by the full history.
--
-- A row has the requests before the batch, from a fresh state with first number 1; the bytes of the batch; its code and place; and requests after it, with the replies that
-- show which state it left.
-- Assumes nothing.
use Rattle.std.specs.Prelude.{◌≡◌, refl, List, [], ◌∷◌, ◌++◌, map, ℕ, replicate}
use Rattle.graph.specs.Lists.{◌∈◌}
use Rattle.history.specs.Formats.{bytes_of}
use Rattle.history.specs.Replies.{Request, Reply, history_of, book_of, replies_from}
use Rattle.history.specs.Cases.{open_one, reads, writes, adds, end, abandon, publishes, granted, refused, Exchange, ◌gets◌, computed, rows}
use Rattle.held.specs.Held.{fresh_held, answers, after_all}
use Rattle.held.specs.Cases.{held_answers, request}
use Rattle.batch.specs.Batch.{Verdict, verdict, taken, item_code, ill_sized, judged, batch, batch_leaves, full_batch, full_leaves, book_leaves}

-- eight bytes for each item
abbrev pub bytes : List Request → List ℕ
bytes [] = []
bytes (r ∷ rs) = r.kind ∷ r.byte1 ∷ (bytes_of 2 r.cell ++ (bytes_of 4 r.job ++ bytes rs))

pub record Tried : Type 0 where
  pub before : List Request
  pub asked : List ℕ
  pub verdict : Verdict
  pub later : List Exchange

-- what each of the two says of the batch, and replies after it
pub record Outcome : Type 0 where
  pub held : Verdict
  pub held_later : List Reply
  pub full : Verdict
  pub full_later : List Reply

abbrev pub expected : Tried → Outcome
expected t =
    let l = map (λ e. e.answered) t.later in
    record { held = t.verdict; held_later = l; full = t.verdict; full_later = l }

unfoldable pub outcome : Tried → Outcome
unfolding held_answers computed taken item_code ill_sized judged batch batch_leaves full_batch full_leaves book_leaves
outcome t =
    let h = after_all (fresh_held 1) t.before in
    let g = history_of 1 t.before in
    let b = book_of 1 t.before in
    let asks = map (λ e. e.asked) t.later in
    record {
      held = batch h t.asked;
      held_later = answers (batch_leaves h t.asked) asks;
      full = full_batch b g t.asked;
      full_later = replies_from (book_leaves b g t.asked) (full_leaves b g t.asked) asks;
    }

-- ---- the rows

-- two jobs, of which 2 has read what 1 wrote, so that 1 comes before 2
abbrev pub two : List Request
two = open_one ∷ open_one ∷ writes 1 5 ∷ reads 2 5 ∷ []

-- `row before asked 7 1 later`: the batch gets 7 at place 1
abbrev pub row : List Request → List ℕ → ℕ → ℕ → List Exchange → Tried
row before asked c p later = record { before = before; asked = asked; verdict = verdict c p; later = later }

abbrev pub table : List Tried
table =
    -- no items, and one
    row [] [] 0 0 []
    ∷ row (open_one ∷ []) (bytes (reads 1 7 ∷ [])) 0 1 []
    -- granted: two items; the write of 2 stays, so that 2 cannot be abandoned
    ∷ row two (bytes (reads 1 7 ∷ writes 2 6 ∷ [])) 0 2 (abandon 2 gets refused 4 ∷ [])
    -- refused at place 1: 2 would come before 1 too. The write of 2 does not stay, and 2 can be abandoned
    ∷ row two (bytes (writes 2 6 ∷ reads 1 6 ∷ [])) 7 1 (abandon 2 gets granted 2 ∷ [])
    -- adds of one cell do not clash, and so 1 may add after 2; they stay, so that 2 cannot be abandoned. A read of it clashes with the add of 2, and nothing stays
    ∷ row two (bytes (adds 2 6 ∷ adds 1 6 ∷ [])) 0 2 (abandon 2 gets refused 4 ∷ [])
    ∷ row two (bytes (adds 2 6 ∷ reads 1 6 ∷ [])) 7 1 (abandon 2 gets granted 2 ∷ [])
    -- an item is judged on what the items before it left: each of the four would be granted on the state before the batch. Nothing of the first three stays
    ∷ row (open_one ∷ open_one ∷ []) (bytes (reads 1 5 ∷ writes 2 5 ∷ writes 2 6 ∷ reads 1 6 ∷ [])) 7 3 (reads 1 6 gets granted 1 ∷ abandon 2 gets granted 2 ∷ [])
    -- another kind gets 1 at its turn, though by itself it would be granted: an open, and no number is issued; an end, and the job stays open; an abandon; a publish
    ∷ row two (bytes (reads 1 7 ∷ open_one ∷ [])) 1 1 (open_one gets granted 3 ∷ [])
    ∷ row two (bytes (end 1 ∷ reads 9 7 ∷ [])) 1 0 (reads 1 7 gets granted 1 ∷ [])
    ∷ row two (bytes (reads 2 7 ∷ abandon 2 ∷ [])) 1 1 (abandon 2 gets granted 2 ∷ [])
    ∷ row two (bytes (reads 2 7 ∷ publishes 2 6 ∷ [])) 1 1 (publishes 2 6 gets granted 2 ∷ [])
    -- and so does a kind that there is not
    ∷ row two (bytes (adds 2 7 ∷ request 8 0 6 2 ∷ [])) 1 1 (abandon 2 gets granted 2 ∷ [])
    -- but a refusal before it comes first, and so of any two; at one item byte 1 comes before 2, and 2 before 3
    ∷ row two (bytes (reads 9 7 ∷ open_one ∷ [])) 3 0 (open_one gets granted 3 ∷ [])
    ∷ row two (bytes (writes 2 256 ∷ reads 9 7 ∷ [])) 2 0 (abandon 2 gets granted 2 ∷ [])
    ∷ row two (bytes (reads 9 256 ∷ [])) 2 0 []
    ∷ row two (bytes (reads 1 7 ∷ request 2 1 256 9 ∷ [])) 1 1 []
    -- bytes that are not whole requests, whatever they say; 64 items are looked at, and 65 are not
    ∷ row two (2 ∷ 0 ∷ 5 ∷ 0 ∷ 1 ∷ 0 ∷ 0 ∷ []) 25 0 []
    ∷ row two (bytes (reads 9 7 ∷ []) ++ 2 ∷ []) 25 0 []
    ∷ row two (bytes (reads 1 7 ∷ replicate 63 (reads 9 7))) 3 1 []
    ∷ row two (bytes (reads 9 7 ∷ replicate 64 (reads 1 7))) 25 0 []
    ∷ []

-- every batch of the table gets what is written, and leaves the state that is written, by the state and by the full history
pub batch_cases : (t : Tried) → t ∈ table → outcome t ≡ expected t
unfolding outcome
batch_cases t = rows outcome expected (refl, (refl, (refl, (refl, (refl, (refl, (refl, (refl, (refl, (refl, (refl, (refl, (refl, (refl, (refl, (refl, (refl, (refl, (refl, (refl, tt))))))))))))))))))))
