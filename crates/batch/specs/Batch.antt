-- A batch of requests: what it gets, from what its items would get one by one, and the state that it leaves.
--
-- The items are the requests that the bytes are. Each would get a reply by itself, one after the other, the granted ones moving the state. A batch takes reads,
-- writes and adds alone, so an item of another kind counts as one that gets 1. The first item that is refused gives the batch its code and its place, from 0, and the
-- state stays; where none is, the batch gets 0 and the count of its items, and leaves the state that they leave. Before all, 25 and place 0 where the bytes are not
-- whole requests or are more than 64 of them.
--
-- The verdict stands once, over the replies. Whoever replies, the state that is held or the full history, gives them.
-- Assumes nothing.
use Rattle.std.specs.Prelude.{Bool, not, ◌||◌, cond, List, [], ◌∷◌, ℕ, suc, ◌+◌, ◌*◌, ◌%◌, ltb, eqb, length}
use Rattle.history.specs.Events.{History}
use Rattle.history.specs.Formats.{records}
use Rattle.history.specs.Replies.{Request, Reply, Book, replies_from, history_from, book_from}
use Rattle.held.specs.Held.{Held, answers, after_all}

pub record Verdict : Type 0 where
  pub code : ℕ
  pub place : ℕ

abbrev pub verdict : ℕ → ℕ → Verdict
verdict c p = record { code = c; place = p }

-- ---- items

-- a request has eight bytes, and a batch 64 requests at the most
abbrev pub request_bytes : ℕ
request_bytes = 8

abbrev pub most_bytes : ℕ
most_bytes = 512

-- the kinds that a batch takes: read, write and add
unfoldable pub taken : ℕ → Bool
taken kind = eqb kind 2 || (eqb kind 3 || eqb kind 7)

-- the code of an item, from the reply that it would get by itself
unfoldable pub item_code : Request → Reply → ℕ
item_code r a = cond (taken r.kind) a.code 1

abbrev pub codes : List Request → List Reply → List ℕ
codes [] l = []
codes (r ∷ rs) [] = []
codes (r ∷ rs) (a ∷ l) = item_code r a ∷ codes rs l

-- ---- the verdict

-- the first code that is not 0, with its place; or 0, with the place past the last. Places are counted from n
abbrev pub first_refused : ℕ → List ℕ → Verdict
first_refused n [] = verdict 0 n
first_refused n (c ∷ cs) = cond (eqb c 0) (first_refused (suc n) cs) (verdict c n)

-- 25: the bytes are not whole requests, or are more than 512
unfoldable pub ill_sized : List ℕ → Bool
ill_sized bytes = not (eqb (length bytes % request_bytes) 0) || ltb most_bytes (length bytes)

unfoldable pub judged : List ℕ → List Reply → Verdict
judged bytes l = cond (ill_sized bytes) (verdict 25 0) (first_refused 0 (codes (records bytes) l))

-- ---- on a state

unfoldable pub batch : Held → List ℕ → Verdict
batch h bytes = judged bytes (answers h (records bytes))

unfoldable pub batch_leaves : Held → List ℕ → Held
batch_leaves h bytes = cond (eqb (batch h bytes).code 0) (after_all h (records bytes)) h

-- ---- by the full history and its book, which has the first number and the ports

unfoldable pub full_batch : Book → History → List ℕ → Verdict
full_batch b h bytes = judged bytes (replies_from b h (records bytes))

unfoldable pub full_leaves : Book → History → List ℕ → History
full_leaves b h bytes = cond (eqb (full_batch b h bytes).code 0) (history_from b h (records bytes)) h

unfoldable pub book_leaves : Book → History → List ℕ → Book
book_leaves b h bytes = cond (eqb (full_batch b h bytes).code 0) (book_from b h (records bytes)) b

-- ---- in one number

-- the code times 2^32 plus the place, which is below that
unfoldable pub packed : Verdict → ℕ
packed v = v.code * 4294967296 + v.place
