-- What a host asks of a state, call by call: one request, or a batch. Each call is answered, and moves the state, or the full history and its book.
--
-- That the two answer alike through any calls from a fresh state is `calls_alike`.
-- Assumes nothing.
use Rattle.std.specs.Prelude.{◌≡◌, ℕ}
use Rattle.std.proofs.Math.Path.{refl, ap₂}
use Rattle.std.proofs.Common.{sym, ap, ◌∙◌}
use mathlib.Core.List.{List, [], ◌∷◌, ◌++◌}
use Rattle.history.specs.Events.{History}
use Rattle.history.specs.Replies.{Request, Reply, Book, blank_book, history_of, book_of}
use Rattle.held.specs.Held.{Held, fresh_held, after_all}
use Rattle.batch.proofs.Laws.{after_append, history_append, book_append, answers_on, exactly, hands_on}
use Rattle.batch.specs.Host.{Call, Said, all_fully_said, all_said, judged, many, one, replied}

-- ---- a state's

-- ---- the full history's

-- ---- they answer alike

-- the first of some replies
first_reply : List Reply → Reply
first_reply [] = record { code = 0; job = 0 }
first_reply (a ∷ l) = a

module _ (first : ℕ) where
  -- from a state and a history that the same requests gave
  alike : (cs : List Call) (rs : List Request) → all_said (after_all (fresh_held first) rs) cs ≡ all_fully_said (book_of first rs) (history_of first rs) cs
  unfolding first_reply
  alike [] rs = refl
  alike (one r ∷ cs) rs =
      ap₂ (λ (s : Said) (l : List Said). s ∷ l) (ap (λ (l : List Reply). replied (first_reply l)) (answers_on first rs (r ∷ [])))
      (ap (λ (h : Held). all_said h cs) (sym (after_append (fresh_held first) rs (r ∷ [])))
      ∙ alike cs (rs ++ r ∷ [])
      ∙ ap₂ (λ (b : Book) (h : History). all_fully_said b h cs) (book_append (blank_book first) [] rs (r ∷ [])) (history_append (blank_book first) [] rs (r ∷ [])))
  alike (many bytes ∷ cs) rs =
      let o = hands_on first rs bytes in
      ap₂ (λ (s : Said) (l : List Said). s ∷ l) (ap judged (exactly first rs bytes))
      (ap (λ (h : Held). all_said h cs) o.1 ∙ alike cs (rs ++ o.0) ∙ ap₂ (λ (b : Book) (h : History). all_fully_said b h cs) (sym o.3) (sym o.2))

  pub calls_alike : (cs : List Call) → all_said (fresh_held first) cs ≡ all_fully_said (blank_book first) [] cs
  calls_alike cs = alike cs []
