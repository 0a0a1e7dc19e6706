-- The rows answer as the full history does: from the fresh state through any list of requests the answers are equal to the replies, one by
-- one (`held_exact`), and the rows stay the bounded memory seen through the slots (`held_seen`); so at most 16 open slots are of a port (`never_over_port_held`).
-- Assumes nothing.
use Rattle.std.specs.Prelude.{◌≡◌, refl, List, [], ◌∷◌, ℕ, ◌≤◌, ◌<◌}
use Rattle.std.proofs.Common.{sym, ap₂, ◌∙◌, subst}
use Rattle.history.specs.Events.{History}
use Rattle.history.specs.Replies.{port_count, most_of_port, Request, Reply, reply_of, Book, full, replies, history_from, book_from, book_after}
use Rattle.history.specs.Memory.{Memory, fresh, Rule, right, held, held_after, held_replies}
use Rattle.history_laws.specs.Exact.{agree_reply, Beside, agree, beside_start, beside_after, exact}
use Rattle.history_laws.specs.PortLaws.{granted_ported}
use Rattle.held.specs.Held.{Held, fresh_held, facts, answer_to, answers, after_all}
use Rattle.held_laws.specs.Seen.{Seen, seen_agree, seen_start, seen_after}

-- the memory that a list of requests leaves
abbrev pub memory_after : Rule → Memory → List Request → Memory
memory_after u m [] = m
memory_after u m (r ∷ rs) = memory_after u (held_after u m r) rs

-- while the two stand alike the rows answer as the memory does
answers_from : {b : Book} {h : History} {st : Held} {m : Memory} → Beside b h m → Seen st m
    → (rs : List Request) → answers st rs ≡ held_replies right m rs
answers_from t s [] = refl
answers_from {b} {h} {st = st} {m = m} t s (r ∷ rs) = ap₂ (λ (x : Reply) (l : List Reply). x ∷ l) (same r) (answers_from {b = book_after b h r} (beside_after r t) (seen_after t s r) rs)
  where
    same : (q : Request) → answer_to st q ≡ reply_of (held right m) q
    same q = unfold answer_to in agree_reply (seen_agree s) q

-- and go on standing alike
seen_from : {b : Book} {h : History} {st : Held} {m : Memory} → Beside b h m → Seen st m
    → (rs : List Request) → Seen (after_all st rs) (memory_after right m rs)
seen_from t s [] = s
seen_from {b} {h} t s (r ∷ rs) = seen_from {b = book_after b h r} (beside_after r t) (seen_after t s r) rs

-- and the memory beside the history
beside_from : {b : Book} {h : History} {m : Memory} → Beside b h m → (rs : List Request) → Beside (book_from b h rs) (history_from b h rs) (memory_after right m rs)
beside_from t [] = t
beside_from {b} {h} t (r ∷ rs) = beside_from {b = book_after b h r} (beside_after r t) rs

-- the answers of the rows are the replies of the full history
pub held_exact : (first : ℕ) (rs : List Request) → answers (fresh_held first) rs ≡ replies first rs
held_exact first rs = answers_from (beside_start first) (seen_start first) rs ∙ exact first rs

-- after any requests the rows are the memory that the same requests leave, seen through the slots
pub held_seen : (first : ℕ) (rs : List Request) → Seen (after_all (fresh_held first) rs) (memory_after right (fresh first) rs)
held_seen first rs = seen_from (beside_start first) (seen_start first) rs

-- and at most 16 open slots are under a port
pub never_over_port_held : (first : ℕ) (rs : List Request) (p : ℕ) → p < port_count → (facts (after_all (fresh_held first) rs)).crowd p ≤ most_of_port
unfolding full
never_over_port_held first rs p q =
    subst (λ (n : ℕ). n ≤ most_of_port) (sym ((seen_agree (held_seen first rs)).crowd p q ∙ (agree (beside_from (beside_start first) rs)).crowd p q))
    ((granted_ported first rs).few p)
