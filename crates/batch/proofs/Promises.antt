-- The promises on batches, one page. Each is proved in the file that its proof cites.
--
-- To be believed for them: Batch (the verdict, and the state, the history and its book that a batch leaves), Host (a host's calls, one request or a batch), and what the promises of
-- held and history need. In order: what a batch gets; what it leaves; the full history; one number for code and place.
-- Assumes nothing.
use Rattle.std.specs.Prelude.{◌≡◌, ◌↔◌, ◌⊎◌, List, [], ◌++◌, ℕ, ◌≤◌, ◌<◌, length}
use Rattle.graph.specs.Lists.{◌∈◌}
use Rattle.history.specs.Formats.{records}
use Rattle.history.specs.Replies.{numbers, Request, blank_book, history_of, book_of}
use Rattle.held.specs.Held.{Held, fresh_held, after_all}
use Rattle.batch.specs.Batch.{verdict, batch, batch_leaves, full_batch, full_leaves, book_leaves, packed}
use Rattle.batch.specs.Cases.{bytes, Tried, expected, outcome, table, batch_cases}
use Rattle.batch.specs.Leaves.{Refused}
use Rattle.batch.specs.Host.{Call, all_said, all_fully_said}
use Rattle.batch.proofs.Host.{calls_alike}
use Rattle.batch.proofs.RunLaws.{codes_known}
use Rattle.batch.specs.Laws.{IllSized, AllGranted, FirstRefused, Means}
use Rattle.batch.proofs.Laws.{items_read, batch_right, grants_exactly, grant_counts, grant_leaves, ill_judged, refused_first, refusal_leaves, empty_judged, exactly, hands_on, judged_small, judged_apart}

-- ---- what a batch gets

-- the items are the requests that were put down as bytes, one after the other
pub items_as_put : (rs : List Request) → ((r : Request) → r ∈ rs → (r.cell < 65536) × (r.job < numbers)) → records (bytes rs) ≡ rs
items_as_put = items_read

-- the verdict on any state and any bytes, code by code and place by place
pub batch_means : (h : Held) (bytes : List ℕ) → Means h bytes (batch h bytes)
batch_means = batch_right

-- granted exactly when the length is right and one by one all would be granted, each a read or a write
pub granted_exactly : (h : Held) (bytes : List ℕ) → ((batch h bytes).code ≡ 0) ↔ ((IllSized bytes → ⊥) × AllGranted h (records bytes))
granted_exactly = grants_exactly

-- 25 before all
pub length_first : (h : Held) (bytes : List ℕ) → IllSized bytes → batch h bytes ≡ verdict 25 0
length_first = ill_judged

-- any other refusal is that of the first item that would be refused, with its place
pub first_refusal : (h : Held) (bytes : List ℕ) → (IllSized bytes → ⊥) → ((batch h bytes).code ≡ 0 → ⊥)
    → FirstRefused h (records bytes) (batch h bytes).code (batch h bytes).place
first_refusal = refused_first

-- no code but 25, 0 and the four of an item: 1, 2, 3 and 7
pub known_codes : (h : Held) (bytes : List ℕ) → ((batch h bytes).code ≡ 25) ⊎ (((batch h bytes).code ≡ 0) ⊎ Refused (batch h bytes).code)
known_codes = codes_known

-- no items: granted, with count 0
pub empty_granted : (h : Held) → batch h [] ≡ verdict 0 0
empty_granted = empty_judged

-- batches worked out by hand
pub tried : (t : Tried) → t ∈ table → outcome t ≡ expected t
tried = batch_cases

-- ---- what it leaves

-- a grant: the count of the items, and the state that they leave one by one
pub granted_leaves : (h : Held) (bytes : List ℕ) → (batch h bytes).code ≡ 0
    → ((batch h bytes).place ≡ length (records bytes)) × (batch_leaves h bytes ≡ after_all h (records bytes))
granted_leaves h bytes z = (grant_counts h bytes z, grant_leaves h bytes z)

-- a refusal leaves the state as it was
pub refusal_stays : (h : Held) (bytes : List ℕ) → ((batch h bytes).code ≡ 0 → ⊥) → batch_leaves h bytes ≡ h
refusal_stays = refusal_leaves

-- ---- the full history

-- from a fresh state through any requests, a batch gets what the full history gives it
pub batch_exact : (first : ℕ) (rs : List Request) (bytes : List ℕ) → batch (after_all (fresh_held first) rs) bytes ≡ full_batch (book_of first rs) (history_of first rs) bytes
batch_exact = exactly

-- what it leaves is again a state that requests give from a fresh one, and the history and its book are theirs
pub batch_handed_on : (first : ℕ) (rs : List Request) (bytes : List ℕ) → (qs : List Request)
    × (batch_leaves (after_all (fresh_held first) rs) bytes ≡ after_all (fresh_held first) (rs ++ qs))
    × (full_leaves (book_of first rs) (history_of first rs) bytes ≡ history_of first (rs ++ qs))
    × (book_leaves (book_of first rs) (history_of first rs) bytes ≡ book_of first (rs ++ qs))
batch_handed_on = hands_on

-- so from a fresh state through any calls, requests and batches mixed, every answer is the full history's
pub calls_exact : (first : ℕ) (cs : List Call) → all_said (fresh_held first) cs ≡ all_fully_said (blank_book first) [] cs
calls_exact = calls_alike

-- ---- one number

-- a place is at most 64
pub batch_small : (h : Held) (bytes : List ℕ) → (batch h bytes).place ≤ 64
batch_small = judged_small

-- so the code times 2 ^ 32 plus the place tells both
pub packed_apart : (h h' : Held) (bytes bytes' : List ℕ) → packed (batch h bytes) ≡ packed (batch h' bytes') → batch h bytes ≡ batch h' bytes'
packed_apart = judged_apart
