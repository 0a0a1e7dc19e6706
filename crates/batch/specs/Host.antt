-- The words in which the theorems of proofs/Host.antt are said.
-- Assumes nothing.
use Rattle.std.specs.Prelude.{ℕ}
use mathlib.Core.List.{List, [], ◌∷◌}
use Rattle.history.specs.Events.{History}
use Rattle.history.specs.Replies.{Request, Reply, Book, blank_book, reply, book_after, history_of, book_of}
use Rattle.history.specs.Replies as full
use Rattle.held.specs.Held.{Held, answer_to, after}
use Rattle.batch.specs.Batch.{Verdict, batch, batch_leaves, full_batch, full_leaves, book_leaves}

pub data Call : Type 0 where
  one : Request → Call
  many : List ℕ → Call

pub data Said : Type 0 where
  replied : Reply → Said
  judged : Verdict → Said

abbrev pub says : Held → Call → Said
says h (one r) = replied (answer_to h r)
says h (many bytes) = judged (batch h bytes)

abbrev pub leaves : Held → Call → Held
leaves h (one r) = after h r
leaves h (many bytes) = batch_leaves h bytes

abbrev pub all_said : Held → List Call → List Said
all_said h [] = []
all_said h (c ∷ cs) = says h c ∷ all_said (leaves h c) cs

abbrev pub fully_says : Book → History → Call → Said
fully_says b h (one r) = replied (reply b h r)
fully_says b h (many bytes) = judged (full_batch b h bytes)

abbrev pub fully_leaves : Book → History → Call → History
fully_leaves b h (one r) = full.after b h r
fully_leaves b h (many bytes) = full_leaves b h bytes

abbrev pub fully_books : Book → History → Call → Book
fully_books b h (one r) = book_after b h r
fully_books b h (many bytes) = book_leaves b h bytes

abbrev pub all_fully_said : Book → History → List Call → List Said
all_fully_said b h [] = []
all_fully_said b h (c ∷ cs) = fully_says b h c ∷ all_fully_said (fully_books b h c) (fully_leaves b h c) cs
