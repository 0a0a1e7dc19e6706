-- The coarse mode of the first profile: 4,096 cells in 256 groups of 16, for the archive of document 02, order 11.
--
-- It answers as the exact rule does for the history with each cell replaced by its group. What it grants is written down with the true cells: the history here is
-- the log, and the groups come in only where a request is answered. All is said of any grouping, a function g from cells to groups; `group` is that of the order.
-- Codes, events and the order of the tests are those of Replies. There 2 means a group above 255, and so here a cell above 4,095 (`coarse_two` of CoarsePromises).
-- Assumes nothing.
use Rattle.std.specs.Prelude.{◌≡◌, ◌⊎◌, cond, List, [], ◌∷◌, ◌++◌, map, ℕ, ◌<◌, ◌/◌, T, eqb}
use Rattle.graph.specs.Lists.{◌∈◌}
use Rattle.history.specs.Events.{Kind, write, Event, opens, steps, ends, abandons, History, opened, open_now, wrote}
use Rattle.history.specs.Replies.{Request, Reply, a_step, a_publish, want, event_of, Book, blank_book, full, reply, book_after}

-- ---- groups

-- cells 0 to 4,095; sixteen to a group
abbrev pub coarse_cells : ℕ
coarse_cells = 4096

abbrev pub group_cells : ℕ
group_cells = 16

-- a cell's group: its number divided by 16, rounded down
unfoldable pub group : ℕ → ℕ
group c = c / group_cells

-- ---- a history and a request with each cell replaced by its group

abbrev pub grouped_event : (ℕ → ℕ) → Event → Event
grouped_event g (opens j) = opens j
grouped_event g (steps k j c) = steps k j (g c)
grouped_event g (ends j) = ends j
grouped_event g (abandons j) = abandons j

abbrev pub grouped : (ℕ → ℕ) → History → History
grouped g h = map (grouped_event g) h

abbrev pub in_group : (ℕ → ℕ) → Request → Request
in_group g r = record { kind = r.kind; byte1 = r.byte1; cell = g r.cell; job = r.job }

-- the request asks for a step of this kind: it is the step, or the publish of which it is the write
abbrev pub AsksStep : Request → Kind → Type 0
AsksStep r k = (want r.kind ≡ a_step k) ⊎ ((want r.kind ≡ a_publish) × (k ≡ write))

-- the log with that step at its end
abbrev pub with_step : History → Kind → Request → History
with_step h k r = h ++ steps k r.job r.cell ∷ []

-- ---- the full history's replies

-- h has the true cells
unfoldable pub coarse_reply : (ℕ → ℕ) → Book → History → Request → Reply
coarse_reply g b h r = reply b (grouped g h) (in_group g r)

-- so has what is granted; a refusal leaves the history as it was
unfoldable pub coarse_granted : (ℕ → ℕ) → Book → History → Request → List Event
coarse_granted g b h r = cond (eqb (coarse_reply g b h r).code 0) (event_of (full b h).next (want r.kind) r.job r.cell) []

unfoldable pub coarse_after : (ℕ → ℕ) → Book → History → Request → History
coarse_after g b h r = h ++ coarse_granted g b h r

abbrev pub coarse_book : (ℕ → ℕ) → Book → History → Request → Book
coarse_book g b h r = book_after b (grouped g h) (in_group g r)

-- from a first number and a list of requests: the replies, one by one, the history that they leave, and the book
abbrev pub coarse_replies_from : (ℕ → ℕ) → Book → History → List Request → List Reply
coarse_replies_from g b h [] = []
coarse_replies_from g b h (r ∷ rs) = coarse_reply g b h r ∷ coarse_replies_from g (coarse_book g b h r) (coarse_after g b h r) rs

abbrev pub coarse_history_from : (ℕ → ℕ) → Book → History → List Request → History
coarse_history_from g b h [] = h
coarse_history_from g b h (r ∷ rs) = coarse_history_from g (coarse_book g b h r) (coarse_after g b h r) rs

abbrev pub coarse_book_from : (ℕ → ℕ) → Book → History → List Request → Book
coarse_book_from g b h [] = b
coarse_book_from g b h (r ∷ rs) = coarse_book_from g (coarse_book g b h r) (coarse_after g b h r) rs

abbrev pub coarse_replies : (ℕ → ℕ) → ℕ → List Request → List Reply
coarse_replies g first rs = coarse_replies_from g (blank_book first) [] rs

abbrev pub coarse_history : (ℕ → ℕ) → ℕ → List Request → History
coarse_history g first rs = coarse_history_from g (blank_book first) [] rs

abbrev pub coarse_book_of : (ℕ → ℕ) → ℕ → List Request → Book
coarse_book_of g first rs = coarse_book_from g (blank_book first) [] rs

-- ---- what is asked of a log with another bound of the cells

-- as `InTurn` of Turns, with n for the bound of the cells
abbrev pub InTurnBelow : ℕ → History → Event → Type 0
InTurnBelow n h (opens j) = (i : ℕ) → i ∈ opened h → i < j
InTurnBelow n h (steps k j c) = (j ∈ open_now h) × (c < n)
InTurnBelow n h (ends j) = j ∈ open_now h
InTurnBelow n h (abandons j) = (j ∈ open_now h) × (T (wrote h j) → ⊥)

abbrev pub InTurnBelowAfter : ℕ → History → List Event → Type 0
InTurnBelowAfter n h [] = Unit {0}
InTurnBelowAfter n h (e ∷ es) = InTurnBelow n h e × InTurnBelowAfter n (h ++ e ∷ []) es

abbrev pub TurnsBelow : ℕ → History → Type 0
TurnsBelow n h = InTurnBelowAfter n [] h
