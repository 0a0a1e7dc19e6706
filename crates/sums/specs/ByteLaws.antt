-- Bytes: four that are put down or read, a run put down after another (`put_next`), and the words before a place.
-- Assumes nothing.
use Rattle.std.specs.Prelude.{◌≡◌, Bool, cond, leb, ℕ, suc, ◌+◌, ◌*◌, ◌/◌, ◌%◌, ◌<◌, ◌≤◌, zero, false, List, [], ◌∷◌, ◌++◌, length, take, drop, set, replicate, ◌≢◌, nat_eq, slice_index, slice_set, slice_index_or, refl}
use Rattle.std.specs.Int.{w8, w32, from_le_bytes}
use Rattle.std.specs.Simd.{first_chunks}
use Rattle.std.proofs.Common.{Fits, sym, ap, ap₂, ◌∙◌, append_assoc, append-nil, zero-add, add-zero, add-one, arith, length-append, length-drop, take-append-drop, length-take-le, take_at, drop_at, get_or-drop, drop-drop, take-add}
use Rattle.std.proofs.lemmas.List.{length-replicate, get_or-replicate}
use borrow.Author.Tests.{le-leb}
use Rattle.std.proofs.Math.Seq.{take-length, take-append_seam, drop-append_seam, paste, paste-suc}
use Rattle.std.proofs.lemmas.List.Edits.{sets-eq}
use Rattle.text.specs.Lays.{Lays}
use Rattle.text.specs.LaysLaws.{lays_room}
use Rattle.graph.specs.Decide.{and_test, own_test, eq_test, test_false, every_of}
use Rattle.history.specs.Formats.{bytes_of}
use Rattle.blocks.specs.Blocks.{words, total, running, sums, done}
use Rattle.blocks.specs.WordLaws.{words_append, first_turn, second_turn, bytes_of_word, word_of_bytes}
use Rattle.sums.specs.Sums.{AddsUp, with_run}

-- ---- four bytes

pub four_in : (l : List ℕ) (at a b c d : ℕ) → at + 4 ≤ length l
    → slice_set (slice_set (slice_set (slice_set l at a) (at + 1) b) (at + 2) c) (at + 3) d ≡ with_run l at (a ∷ b ∷ c ∷ d ∷ [])
four_in l at a b c d h = (λ i. set (slice_set (slice_set (slice_set l at a) (one i) b) (two i) c) (three i) d) ∙ sets-eq (a ∷ b ∷ c ∷ d ∷ []) l at h
  where
    one : at + 1 ≡ suc at
    one = omega arith

    two : at + 2 ≡ suc (suc at)
    two = omega arith

    three : at + 3 ≡ suc (suc (suc at))
    three = omega arith

first_four : (l : List ℕ) → 4 ≤ length l → slice_index l 0 ∷ slice_index l 1 ∷ slice_index l 2 ∷ slice_index l 3 ∷ [] ≡ take 4 l
first_four (a ∷ b ∷ c ∷ d ∷ l) h = refl
first_four [] h = absurd (omega arith)
first_four (a ∷ []) h = absurd (omega arith)
first_four (a ∷ b ∷ []) h = absurd (omega arith)
first_four (a ∷ b ∷ c ∷ []) h = absurd (omega arith)

pub four_out : (l : List ℕ) (at : ℕ) → at + 4 ≤ length l → slice_index l at ∷ slice_index l (at + 1) ∷ slice_index l (at + 2) ∷ slice_index l (at + 3) ∷ [] ≡ take 4 (drop at l)
four_out l at h = let r : 4 ≤ length (drop at l) = simp length-drop (omega arith) in simp (get_or-drop, add-zero) at (first_four (drop at l) r)

-- a number that is read from four bytes has those bytes
pub word_read : (l w : List ℕ) (at r : ℕ) → at + 4 ≤ length l → ((i : ℕ) → Fits w8 (slice_index l i)) → w ≡ take 4 (drop at l) → r ≡ from_le_bytes w32 w
    → bytes_of 4 r ≡ take 4 (drop at l)
word_read l w at r h small is read =
    let four = four_out l at h in
    ap (bytes_of 4) (read ∙ ap (from_le_bytes w32) (is ∙ sym four))
    ∙ bytes_of_word (small at).fits (small (at + 1)).fits (small (at + 2)).fits (small (at + 3)).fits
    ∙ four

-- of the chunks of four bytes, one by its place
pub chunk_at : (k i : ℕ) (l : List ℕ) → i < k → slice_index_or (first_chunks 4 k l) i [] ≡ take 4 (drop (i * 4) l)
chunk_at zero i l h = absurd (omega arith)
chunk_at (suc k) zero l h = refl
chunk_at (suc k) (suc i) l h =
    let on : 4 + i * 4 ≡ suc i * 4 = omega arith in
    chunk_at k i (drop 4 l) (omega arith) ∙ ap (take 4) (drop-drop (i * 4) 4 l ∙ ap (λ (j : ℕ). drop j l) on)

-- the number of four bytes, which two numbers do not share
pub same_number : (x y : ℕ) → x < 4294967296 → y < 4294967296 → bytes_of 4 x ≡ bytes_of 4 y → x ≡ y
same_number x y u v e =
    sym (word_of_bytes x u)
    ∙ ap (λ (l : List ℕ). slice_index l 0 + slice_index l 1 * 256 + slice_index l 2 * 65536 + slice_index l 3 * 16777216) e
    ∙ word_of_bytes y v

-- a part of a part
pub drop_take : (m n : ℕ) (l : List ℕ) → m ≤ length l → drop m (take (m + n) l) ≡ take n (drop m l)
drop_take m n l h = ap (drop m) (take-add m n l) ∙ drop_at (take m l) (take n (drop m l)) m (length-take-le m l h)

-- ---- words

module _ (front : List ℕ) (at x : ℕ) (fits : x < 4294967296) (is : bytes_of 4 x ≡ take 4 (drop at front)) where
  -- the words before a place, and before the next
  pub words_more : at % 4 ≡ 0 → at ≤ length front → words (take (at + 4) front) ≡ words (take at front) ++ x ∷ []
  words_more aligned inside =
      ap words (take-add at 4 front)
      ∙ words_append (take at front) (take 4 (drop at front)) (let e = length-take-le at front (omega arith) in omega arith)
      ∙ ap (λ (l : List ℕ). words (take at front) ++ words l) (sym is)
      ∙ ap (λ (y : ℕ). words (take at front) ++ y ∷ []) (word_of_bytes x fits)

  four_more : drop at front ≡ bytes_of 4 x ++ drop (at + 4) front
  four_more = sym (take-append-drop 4 (drop at front)) ∙ ap₂ (λ (l m : List ℕ). l ++ m) (sym is) (drop-drop 4 at front)

  -- a word of zero is four zeros, any other is not
  pub zeros_more : x ≡ 0 → every_of (nat_eq 0) (drop at front) ≡ every_of (nat_eq 0) (drop (at + 4) front)
  zeros_more e = ap (every_of (nat_eq 0)) (four_more ∙ ap (λ (y : ℕ). bytes_of 4 y ++ drop (at + 4) front) e)

  pub zeros_end : (x ≢ 0) → every_of (nat_eq 0) (drop at front) ≡ false
  zeros_end f =
      ap (every_of (nat_eq 0)) four_more
      ∙ test_false
      (and_test (eq_test 0 (x % 256)) (and_test (eq_test 0 (x / 256 % 256)) (and_test (eq_test 0 (x / 256 / 256 % 256)) (and_test (eq_test 0 (x / 256 / 256 / 256 % 256)) (own_test (every_of (nat_eq 0) (drop (at + 4) front)))))))
      (λ h. f (let a = h.0 in let b = h.1.0 in let c = h.1.1.0 in let d = h.1.1.1.0 in let w = word_of_bytes x fits in omega arith))

  -- the sums of the words before a place, and before the next
  pub sums_more : (a b a' b' : ℕ) → at % 4 ≡ 0 → at ≤ length front
      → a ≡ total (words (take at front)) % 4294967296 → b ≡ total (running 0 (words (take at front))) % 4294967296
      → a' ≡ (a + x) % 4294967296 → b' ≡ (b + a') % 4294967296
      → (a' ≡ total (words (take (at + 4) front)) % 4294967296) × (b' ≡ total (running 0 (words (take (at + 4) front))) % 4294967296)
  sums_more a b a' b' aligned inside p q e f =
      let l = words (take at front) in
      let on = sym (words_more aligned inside) in (
        e ∙ first_turn l x a b p q ∙ ap (λ (m : List ℕ). total m % 4294967296) on,
        f ∙ ap (λ (y : ℕ). (b + y) % 4294967296) e ∙ second_turn l x a b p q ∙ ap (λ (m : List ℕ). total (running 0 m) % 4294967296) on,
      )

-- fewer than four bytes are no word, so that what is left over at the end says nothing
no_word : (l : List ℕ) → length l < 4 → words l ≡ []
no_word [] h = refl
no_word (a ∷ []) h = refl
no_word (a ∷ b ∷ []) h = refl
no_word (a ∷ b ∷ c ∷ []) h = refl
no_word (a ∷ b ∷ c ∷ d ∷ l) h = absurd (omega arith)

pub words_all : (l : List ℕ) (at : ℕ) → at % 4 ≡ 0 → at ≤ length l → length l < at + 4 → words (take at l) ≡ words l
words_all l at aligned inside short =
    let few : length (drop at l) < 4 = simp length-drop (omega arith) in
    sym (append-nil (words (take at l)))
    ∙ ap (λ (m : List ℕ). words (take at l) ++ m) (sym (no_word (drop at l) few))
    ∙ sym (words_append (take at l) (drop at l) (let e = length-take-le at l inside in omega arith))
    ∙ ap words (take-append-drop at l)

-- the sums of a block's front, as they stand after it
pub sums_of : {bytes : List ℕ} {x y : ℕ} → AddsUp bytes x y → bytes_of 4 x ++ bytes_of 4 y ≡ sums bytes
unfolding sums
sums_of a = ap₂ (λ (x y : ℕ). bytes_of 4 x ++ bytes_of 4 y) a.of_words a.of_sums

-- ---- runs put down

-- a run put down as a text is, where there is room for it
pub run_put : {at r : ℕ} {run d after : List ℕ} → at + length run ≤ length d → Lays at run d after r → after ≡ with_run d at run
run_put {at} {r} {run} {d} {after} h l = rw (lays_room at run d h) at l.content

-- the same of a run that `put_run` puts
pub run_at : (d : List ℕ) (at : ℕ) (run : List ℕ) {after : List ℕ} → at + length run ≤ length d → after ≡ cond (leb (at + length run) (length d)) (with_run d at run) d → after ≡ with_run d at run
run_at d at run h e = e ∙ ap (λ (b : Bool). cond b (with_run d at run) d) (le-leb (at + length run) (length d) h)

-- a run put down from a place on is a copy of all of it
pub put_all : (d run : List ℕ) (at : ℕ) → paste d at run (length run) ≡ with_run d at run
put_all d run at = ap (λ (l : List ℕ). take at d ++ l ++ drop (at + length run) d) (take-length run)

-- one byte more of a copy, and of zeros
pub copy_turn : {now : List ℕ} (d : List ℕ) (at : ℕ) (run : List ℕ) (i : ℕ) → at + i < length d → i < length run → now ≡ paste d at run i
    → slice_set now (at + i) (slice_index run i) ≡ paste d at run (i + 1)
copy_turn d at run i p q e =
    ap (λ (l : List ℕ). set l (at + i) (slice_index run i)) e ∙ paste-suc d at run i 0 p q ∙ ap (paste d at run) (sym (add-one i))

pub clear_turn : {now : List ℕ} (d : List ℕ) (at n i : ℕ) → at + i < length d → i < n → now ≡ paste d at (replicate n 0) i → slice_set now (at + i) 0 ≡ paste d at (replicate n 0) (i + 1)
clear_turn {now} d at n i p q e =
    ap (set now (at + i)) (sym (get_or-replicate n i 0 0 q)) ∙ copy_turn d at (replicate n 0) i p (let l = length-replicate {A = ℕ} n 0 in omega arith) e

-- what stands before it stays, and so does the length
pub record Put (d : List ℕ) (at : ℕ) (run after : List ℕ) : Type 0 where
  pub head : take (at + length run) after ≡ take at d ++ run
  pub long : length after ≡ length d

pub puts : (d : List ℕ) (at : ℕ) (run : List ℕ) {after : List ℕ} → at + length run ≤ length d → after ≡ with_run d at run → Put d at run after
puts d at run h e =
    record {
      head = ap (take (at + length run)) e ∙ take_at (take at d ++ run) (drop (at + length run) d) (at + length run) front;
      long = ap length e ∙ length-append (take at d ++ run) (drop (at + length run) d) ∙ (let x = front in let y = length-drop (at + length run) d in omega arith);
    }
  where
    front : length (take at d ++ run) ≡ at + length run
    front = let t = length-take-le at d (omega arith) in let l = length-append (take at d) run in omega arith

-- a run put down right after one that was put down at the start
pub put_next : (d p run : List ℕ) (at : ℕ) → at ≡ length p → length p + length run ≤ length d → with_run (with_run d 0 p) at run ≡ with_run d 0 (p ++ run)
put_next d p run at e h =
    ap (λ (j : ℕ). with_run (with_run d 0 p) j run) e
    ∙ ap₂ (λ (l m : List ℕ). l ++ run ++ m) (take-append_seam p (drop (0 + length p) d))
    (sym (drop-drop (length run) (length p) (with_run d 0 p)) ∙ ap (drop (length run)) (drop-append_seam p (drop (0 + length p) d)) ∙ drop-drop (length run) (0 + length p) d ∙ ap (λ (j : ℕ). drop j d) (let l = length-append p run in let z : 0 + length p + length run ≡ 0 + length (p ++ run) = omega arith in z))

-- a part of a list that is put back is a run put down
pub part_put : (d run : List ℕ) (at n : ℕ) → n ≡ length run → take at d ++ (run ++ drop n (drop at d)) ≡ with_run d at run
part_put d run at n e =
    sym (append_assoc (take at d) run (drop n (drop at d))) ∙ ap (λ (l : List ℕ). take at d ++ run ++ l) (drop-drop n at d ∙ ap (λ (j : ℕ). drop (at + j) d) e)

-- what is put down at the start is what is answered
pub done_put : (run d now : List ℕ) (n : ℕ) → n ≡ length run → now ≡ with_run d 0 run → record { code = 0; place = n; bytes = now } ≡ done run d
done_put run d now n e f = let g : now ≡ run ++ drop (length run) d = f ∙ ap (λ (j : ℕ). run ++ drop j d) (zero-add (length run)) in λ i. record { code = 0; place = e i; bytes = g i }
