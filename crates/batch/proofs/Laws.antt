-- What holds of batches: what each verdict means (`batch_right`), when it is a grant (`grants_exactly`) and what is left then, that a place is small, and that a batch from a
-- state that requests gave gets what the full history gives it (`exactly`).
-- Assumes nothing.
use Rattle.std.specs.Prelude.{◌≡◌, refl, ◌↔◌, Bool, ℕ, suc, ◌+◌, ◌*◌, ◌/◌, ◌%◌, ◌≤◌, ◌<◌, length, drop}
use Rattle.std.proofs.Math.Path.{sym, ap}
use Rattle.std.proofs.Common.{ap₂, ◌∙◌, subst, inr, add-zero, arith, drop_at}
use Rattle.std.proofs.Math.Bool.{true, false, cond}
use mathlib.Core.List.{List, [], ◌∷◌, ◌++◌, append-nil}
use Rattle.std.proofs.Math.Dec.{eqb}
use Rattle.graph.specs.Decide.{Decides, by_test, test_true, test_false, eq_test, lt_test, not_test, or_test}
use Rattle.graph.specs.Lists.{◌∈◌, here, later, each}
use Rattle.history.specs.Events.{History}
use Rattle.history.specs.Formats.{records}
use Rattle.history.specs.Replies.{numbers, Request, Reply, Book, blank_book, reply, book_after, replies_from, history_from, book_from, replies, history_of, book_of}
use Rattle.history.specs.Replies as full
use Rattle.held.specs.Held.{Held, fresh_held, answer_to, after, answers, after_all}
use Rattle.held_laws.specs.HeldExact.{held_exact}
use Rattle.history_laws.specs.RecordLaws.{records_length}
use Rattle.batch.specs.Batch.{Verdict, verdict, taken, item_code, codes, first_refused, ill_sized, judged, batch, batch_leaves, full_batch, full_leaves, book_leaves, packed}
use Rattle.batch.specs.Cases.{bytes}
use Rattle.batch.specs.Laws.{AllGranted, FirstRefused, IllSized, Means, Taken, all_granted, gets, one_refused, wrong_size}

-- ---- items in bytes

two_bytes : (c : ℕ) → c < 65536 → c % 256 + c / 256 % 256 * 256 ≡ c
two_bytes c q = omega arith

four_bytes : (j : ℕ) → j < numbers → j % 256 + j / 256 % 256 * 256 + j / 256 / 256 % 256 * 65536 + j / 256 / 256 / 256 % 256 * 16777216 ≡ j
four_bytes j q = omega arith

-- ---- the two tests of a batch

-- requests whose cells and jobs fit their bytes, put down one after the other, are the items that are read
pub items_read : (rs : List Request) → ((r : Request) → r ∈ rs → (r.cell < 65536) × (r.job < numbers)) → records (bytes rs) ≡ rs
items_read [] f = refl
items_read (r ∷ rs) f =
    ap₂ (λ (c j : ℕ). record { kind = r.kind; byte1 = r.byte1; cell = c; job = j } ∷ records (bytes rs)) (two_bytes r.cell (f r here).0) (four_bytes r.job (f r here).1)
    ∙ ap (λ (l : List Request). r ∷ l) (items_read rs (λ q m. f q (later m)))

pub ill_test : (bytes : List ℕ) → Decides (ill_sized bytes) (IllSized bytes)
unfolding ill_sized
ill_test bytes = or_test (not_test (eq_test (length bytes % 8) 0)) (lt_test 512 (length bytes))

pub taken_test : (r : Request) → Decides (taken r.kind) (Taken r)
unfolding taken
taken_test r = or_test (eq_test r.kind 2) (or_test (eq_test r.kind 3) (eq_test r.kind 7))

-- an item gets 0 exactly when it is taken and gets 0 by itself
item_zero : (r : Request) (a : Reply) → item_code r a ≡ 0 → Taken r × (a.code ≡ 0)
unfolding item_code
item_zero r a =
    by_test (λ b. cond b a.code 1 ≡ 0 → Taken r × (a.code ≡ 0)) (taken_test r) (λ t z. (t, z)) (λ f z. absurd (let y : ◌≡◌ {A = ℕ} 1 0 = z in omega arith))

-- ---- what each verdict means

zero_item : (r : Request) (a : Reply) → Taken r → a.code ≡ 0 → item_code r a ≡ 0
unfolding item_code
zero_item r a t z = ap (λ (b : Bool). cond b a.code 1) (test_true (taken_test r) t) ∙ z

data Found (h : Held) (items : List Request) (n : ℕ) : Verdict → Type 0 where
  none : {p : ℕ} → p ≡ n + length items → AllGranted h items → Found h items n (verdict 0 p)
  one : {c p q : ℕ} → q ≡ n + p → FirstRefused h items c p → Found h items n (verdict c q)

all_none : {h : Held} → AllGranted h []
all_none = record { kinds = λ r m. elim m [ ]; codes = λ a m. elim m [ ] }

module _ {h : Held} {r : Request} (z : item_code r (answer_to h r) ≡ 0) where
  all_more : {rs : List Request} → AllGranted (after h r) rs → AllGranted h (r ∷ rs)
  all_more g = let p = item_zero r (answer_to h r) z in record { kinds = each p.0 g.kinds; codes = each p.1 g.codes }

  found_more : {rs : List Request} {n : ℕ} {v : Verdict} → Found (after h r) rs (suc n) v → Found h (r ∷ rs) n v
  found_more {rs} {n} (none {p = p} e g) = none {p = p} (omega arith) (all_more g)
  found_more {n = n} (one {p = p} {q = q} e f) =
      one {p = suc p} {q = q} (omega arith)
      (record {
        before = r ∷ f.before;
        item = f.item;
        rest = f.rest;
        split = ap (λ (l : List Request). r ∷ l) f.split;
        granted = all_more f.granted;
        place = ap suc f.place;
        code = f.code;
        refused = f.refused;
      })

found : (h : Held) (items : List Request) (n : ℕ) → Found h items n (gets n h items)
found h [] n = none (sym (add-zero n)) all_none
found h (r ∷ rs) n =
    by_test (λ b. Found h (r ∷ rs) n (cond b (gets (suc n) (after h r) rs) (verdict (item_code r (answer_to h r)) n))) (eq_test (item_code r (answer_to h r)) 0)
    (λ z. found_more z (found (after h r) rs (suc n)))
    (λ f. one (sym (add-zero n)) (record { before = []; item = r; rest = rs; split = refl; granted = all_none; place = refl; code = refl; refused = f }))

-- ---- a grant, and a refusal

pub batch_right : (h : Held) (bytes : List ℕ) → Means h bytes (batch h bytes)
unfolding batch judged
batch_right h bytes =
    by_test (λ b. Means h bytes (cond b (verdict 25 0) (gets 0 h (records bytes)))) (ill_test bytes) wrong_size (λ f. sized f (found h (records bytes) 0))
  where
    sized : (IllSized bytes → ⊥) → {v : Verdict} → Found h (records bytes) 0 v → Means h bytes v
    sized f (none {p = p} e g) = subst (λ (n : ℕ). Means h bytes (verdict 0 n)) (let s : length (records bytes) ≡ p = omega arith in s) (all_granted f g)
    sized f (one {c = c} {p = p} {q = q} e g) = subst (λ (n : ℕ). Means h bytes (verdict c n)) (let s : p ≡ q = omega arith in s) (one_refused f g)

-- where all would be granted, all are
all_get : (h : Held) (items : List Request) (n : ℕ) → AllGranted h items → (gets n h items).code ≡ 0
all_get h [] n g = refl
all_get h (r ∷ rs) n g =
    ap (λ (c : ℕ). (cond (eqb c 0) (gets (suc n) (after h r) rs) (verdict c n)).code) (zero_item r (answer_to h r) (g.kinds r here) (g.codes (answer_to h r) here))
    ∙ all_get (after h r) rs (suc n) (record { kinds = λ q m. g.kinds q (later m); codes = λ a m. g.codes a (later m) })

pub grants_exactly : (h : Held) (bytes : List ℕ) → ((batch h bytes).code ≡ 0) ↔ ((IllSized bytes → ⊥) × AllGranted h (records bytes))
grants_exactly h bytes = (granted (batch_right h bytes), λ g. given g.0 g.1)
  where
    granted : {v : Verdict} → Means h bytes v → v.code ≡ 0 → (IllSized bytes → ⊥) × AllGranted h (records bytes)
    granted (wrong_size s) z = absurd (let y : ◌≡◌ {A = ℕ} 25 0 = z in omega arith)
    granted (one_refused f r) z = absurd (r.refused z)
    granted (all_granted f g) z = (f, g)

    given : (IllSized bytes → ⊥) → AllGranted h (records bytes) → (batch h bytes).code ≡ 0
    given =
        unfold batch judged in λ f g.
        ap (λ (b : Bool). (cond b (verdict 25 0) (gets 0 h (records bytes))).code) (test_false (ill_test bytes) f) ∙ all_get h (records bytes) 0 g

pub grant_counts : (h : Held) (bytes : List ℕ) → (batch h bytes).code ≡ 0 → (batch h bytes).place ≡ length (records bytes)
grant_counts h bytes = counted (batch_right h bytes)
  where
    counted : {v : Verdict} → Means h bytes v → v.code ≡ 0 → v.place ≡ length (records bytes)
    counted (wrong_size s) z = absurd (let y : ◌≡◌ {A = ℕ} 25 0 = z in omega arith)
    counted (one_refused f r) z = absurd (r.refused z)
    counted (all_granted f g) z = refl

-- a length that is wrong, and any other refusal
pub ill_judged : (h : Held) (bytes : List ℕ) → IllSized bytes → batch h bytes ≡ verdict 25 0
unfolding batch judged
ill_judged h bytes s = ap (λ (b : Bool). cond b (verdict 25 0) (gets 0 h (records bytes))) (test_true (ill_test bytes) s)

pub refused_first : (h : Held) (bytes : List ℕ) → (IllSized bytes → ⊥) → ((batch h bytes).code ≡ 0 → ⊥)
    → FirstRefused h (records bytes) (batch h bytes).code (batch h bytes).place
refused_first h bytes f = first (batch_right h bytes)
  where
    first : {v : Verdict} → Means h bytes v → (v.code ≡ 0 → ⊥) → FirstRefused h (records bytes) v.code v.place
    first (wrong_size s) g = absurd (f s)
    first (one_refused n r) g = r
    first (all_granted n a) g = absurd (g refl)

pub empty_judged : (h : Held) → batch h [] ≡ verdict 0 0
unfolding batch judged ill_sized
empty_judged h = refl

pub grant_leaves : (h : Held) (bytes : List ℕ) → (batch h bytes).code ≡ 0 → batch_leaves h bytes ≡ after_all h (records bytes)
unfolding batch_leaves
grant_leaves h bytes z = ap (λ (c : ℕ). cond (eqb c 0) (after_all h (records bytes)) h) z

-- ---- places are small

pub refusal_leaves : (h : Held) (bytes : List ℕ) → ((batch h bytes).code ≡ 0 → ⊥) → batch_leaves h bytes ≡ h
unfolding batch_leaves
refusal_leaves h bytes f = ap (λ (b : Bool). cond b (after_all h (records bytes)) h) (test_false (eq_test (batch h bytes).code 0) f)

codes_length : (rs : List Request) (l : List Reply) → length (codes rs l) ≤ length rs
codes_length [] l = omega arith
codes_length (r ∷ rs) [] = omega arith
codes_length (r ∷ rs) (a ∷ l) = let e = codes_length rs l in omega arith

first_place : (n : ℕ) (cs : List ℕ) → (first_refused n cs).place ≤ n + length cs
first_place n [] = omega arith
first_place n (c ∷ cs) = go (eqb c 0) (first_place (suc n) cs)
  where
    go : (b : Bool) → (first_refused (suc n) cs).place ≤ suc n + length cs → (cond b (first_refused (suc n) cs) (verdict c n)).place ≤ n + suc (length cs)
    go true p = omega arith
    go false p = omega arith

-- whoever replies
place_small : (bytes : List ℕ) (l : List Reply) → (judged bytes l).place ≤ 64
unfolding judged
place_small bytes l =
    by_test (λ b. (cond b (verdict 25 0) (first_refused 0 (codes (records bytes) l))).place ≤ 64) (ill_test bytes) (λ s. omega arith)
    (λ f. let few : (512 < length bytes) → ⊥ = λ p. f (inr p) in
    omega (arith, first_place 0 (codes (records bytes) l), codes_length (records bytes) l, records_length bytes))

pub judged_small : (h : Held) (bytes : List ℕ) → (batch h bytes).place ≤ 64
unfolding batch
judged_small h bytes = place_small bytes (answers h (records bytes))

-- ---- the full history

pub judged_apart : (h h' : Held) (bytes bytes' : List ℕ) → packed (batch h bytes) ≡ packed (batch h' bytes') → batch h bytes ≡ batch h' bytes'
unfolding packed
judged_apart h h' bytes bytes' e =
    let p = judged_small h bytes in
    let q = judged_small h' bytes' in
    ap₂ verdict (let s : (batch h bytes).code ≡ (batch h' bytes').code = omega arith in s) (let s : (batch h bytes).place ≡ (batch h' bytes').place = omega arith in s)

-- one request after another, from a state or a history, in two parts
answers_append : (h : Held) (x y : List Request) → answers h (x ++ y) ≡ answers h x ++ answers (after_all h x) y
answers_append h [] y = refl
answers_append h (r ∷ x) y = ap (λ (l : List Reply). answer_to h r ∷ l) (answers_append (after h r) x y)

answers_length : (h : Held) (x : List Request) → length (answers h x) ≡ length x
answers_length h [] = refl
answers_length h (r ∷ x) = ap suc (answers_length (after h r) x)

pub after_append : (h : Held) (x y : List Request) → after_all h (x ++ y) ≡ after_all (after_all h x) y
after_append h [] y = refl
after_append h (r ∷ x) y = after_append (after h r) x y

replies_append : (b : Book) (h : History) (x y : List Request) → replies_from b h (x ++ y) ≡ replies_from b h x ++ replies_from (book_from b h x) (history_from b h x) y
replies_append b h [] y = refl
replies_append b h (r ∷ x) y = ap (λ (l : List Reply). reply b h r ∷ l) (replies_append (book_after b h r) (full.after b h r) x y)

replies_length : (b : Book) (h : History) (x : List Request) → length (replies_from b h x) ≡ length x
replies_length b h [] = refl
replies_length b h (r ∷ x) = ap suc (replies_length (book_after b h r) (full.after b h r) x)

pub history_append : (b : Book) (h : History) (x y : List Request) → history_from b h (x ++ y) ≡ history_from (book_from b h x) (history_from b h x) y
history_append b h [] y = refl
history_append b h (r ∷ x) y = history_append (book_after b h r) (full.after b h r) x y

pub book_append : (b : Book) (h : History) (x y : List Request) → book_from b h (x ++ y) ≡ book_from (book_from b h x) (history_from b h x) y
book_append b h [] y = refl
book_append b h (r ∷ x) y = book_append (book_after b h r) (full.after b h r) x y

module _ (first : ℕ) where
  -- a state that requests gave goes on to answer as the history that they gave
  pub answers_on : (rs items : List Request) → answers (after_all (fresh_held first) rs) items ≡ replies_from (book_of first rs) (history_of first rs) items
  answers_on rs items =
      let h = fresh_held first in
      sym (drop_at (answers h rs) (answers (after_all h rs) items) (length rs) (answers_length h rs))
      ∙ ap (drop (length rs)) (sym (answers_append h rs items) ∙ held_exact first (rs ++ items) ∙ replies_append (blank_book first) [] rs items)
      ∙ drop_at (replies first rs) (replies_from (book_of first rs) (history_of first rs) items) (length rs) (replies_length (blank_book first) [] rs)

  pub exactly : (rs : List Request) (bytes : List ℕ) → batch (after_all (fresh_held first) rs) bytes ≡ full_batch (book_of first rs) (history_of first rs) bytes
  unfolding batch full_batch
  exactly rs bytes = ap (judged bytes) (answers_on rs (records bytes))

  -- what a batch leaves, the state, the history and its book, are what those requests and its own leave where it is granted, and else what they left
  pub hands_on : (rs : List Request) (bytes : List ℕ) → (qs : List Request)
      × (batch_leaves (after_all (fresh_held first) rs) bytes ≡ after_all (fresh_held first) (rs ++ qs))
      × (full_leaves (book_of first rs) (history_of first rs) bytes ≡ history_of first (rs ++ qs))
      × (book_leaves (book_of first rs) (history_of first rs) bytes ≡ book_of first (rs ++ qs))
  unfolding batch_leaves full_leaves book_leaves
  hands_on rs bytes =
      let items = records bytes in
      let h = after_all (fresh_held first) rs in
      let granted = eqb (batch h bytes).code 0 in (
        cond granted items [],
        go granted,
        ap (λ (v : Verdict). cond (eqb v.code 0) (history_from (book_of first rs) (history_of first rs) items) (history_of first rs)) (sym (exactly rs bytes)) ∙ go_fully granted,
        ap (λ (v : Verdict). cond (eqb v.code 0) (book_from (book_of first rs) (history_of first rs) items) (book_of first rs)) (sym (exactly rs bytes)) ∙ go_book granted,
      )
    where
      go : (b : Bool) → cond b (after_all (after_all (fresh_held first) rs) (records bytes)) (after_all (fresh_held first) rs)
          ≡ after_all (fresh_held first) (rs ++ cond b (records bytes) [])
      go true = sym (after_append (fresh_held first) rs (records bytes))
      go false = ap (after_all (fresh_held first)) (sym (append-nil rs))

      go_fully : (b : Bool) → cond b (history_from (book_of first rs) (history_of first rs) (records bytes)) (history_of first rs) ≡ history_of first (rs ++ cond b (records bytes) [])
      go_fully true = sym (history_append (blank_book first) [] rs (records bytes))
      go_fully false = ap (history_of first) (sym (append-nil rs))

      go_book : (b : Bool) → cond b (book_from (book_of first rs) (history_of first rs) (records bytes)) (book_of first rs) ≡ book_of first (rs ++ cond b (records bytes) [])
      go_book true = sym (book_append (blank_book first) [] rs (records bytes))
      go_book false = ap (book_of first) (sym (append-nil rs))
