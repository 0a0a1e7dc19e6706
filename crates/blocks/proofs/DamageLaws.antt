-- Damage: an accepted run of blocks in which one four-byte word is changed gets 22, at the block of that word (`word_changed`). The first sum shows it, or the sum that was
-- changed itself.
-- Assumes nothing.
use Rattle.std.specs.Prelude.{◌≡◌, refl, List, ◌++◌, ℕ, ◌+◌, ◌-◌, ◌*◌, ◌/◌, ◌%◌, ◌≤◌, ◌<◌, length, get_or, take, drop}
use Rattle.std.proofs.Common.{sym, ap, ◌∙◌, ⊎_elim, arith, length-append, length-drop}
use Rattle.std.proofs.Math.Option.{none, some, Option}
use Rattle.std.proofs.lemmas.List.{take-append-le, drop-append-le}
use Rattle.std.proofs.Math.Seq.{take-append-add, drop-append-add, take-append_seam, drop-append_seam}
use Rattle.graph.specs.Decide.{lt_test, answer}
use Rattle.history.specs.Formats.{bytes_of}
use Rattle.blocks.specs.Blocks.{words, total, sums, Fault, fault, fault_in, block_at, lowest_fault, refused, judged, read}
use Rattle.blocks.specs.WordLaws.{words_append, total_append, bytes_of_word, word_of_bytes}
use Rattle.blocks.proofs.SoundLaws.{part_left, sound_of, wrong_sums}
use Rattle.blocks.proofs.RunLaws.{each_none, lowest_none, lowest_found, read_on, accepted_sound}
use Rattle.blocks.specs.DamageLaws.{Word, word}

-- ---- sums of words

pub word_length : {w : List ℕ} → Word w → length w ≡ 4
word_length (word p q r s) = refl

-- the word's value stands apart in the first sum
total_parts : (p w q : List ℕ) → length p % 4 ≡ 0 → length w ≡ 4 → total (words (p ++ (w ++ q))) ≡ total (words p) + (total (words w) + total (words q))
total_parts p w q e f =
    ap total (words_append p (w ++ q) e ∙ ap (λ (r : List ℕ). words p ++ r) (words_append w q (omega arith)))
    ∙ total_append (words p) (words w ++ words q)
    ∙ ap (λ (s : ℕ). total (words p) + s) (total_append (words w) (words q))

word_below : {w : List ℕ} → Word w → total (words w) < 4294967296
word_below (word p q r s) = omega arith

word_back : {w w' : List ℕ} → Word w → Word w' → total (words w) ≡ total (words w') → w ≡ w'
word_back (word {a = a} {b = b} {c = c} {d = d} p q r s) (word {a = a'} {b = b'} {c = c'} {d = d'} p' q' r' s') e =
    let f : a + b * 256 + c * 65536 + d * 16777216 ≡ a' + b' * 256 + c' * 65536 + d' * 16777216 = omega arith in
    sym (bytes_of_word p q r s) ∙ ap (bytes_of 4) f ∙ bytes_of_word p' q' r' s'

-- ---- one block

-- the sums tell the first sum
first_told : (f g : List ℕ) → sums f ≡ sums g → total (words f) % 4294967296 ≡ total (words g) % 4294967296
unfolding sums
first_told f g e =
    let p = ap (λ (l : List ℕ). get_or l 0 0) e in
    let q = ap (λ (l : List ℕ). get_or l 1 0) e in
    let r = ap (λ (l : List ℕ). get_or l 2 0) e in
    let s = ap (λ (l : List ℕ). get_or l 3 0) e in
    told (total (words f) % 4294967296) (total (words g) % 4294967296) (omega arith) (omega arith) p q r s
  where
    told : (x y : ℕ) → x < 4294967296 → y < 4294967296 → x % 256 ≡ y % 256 → x / 256 % 256 ≡ y / 256 % 256 → x / 256 / 256 % 256 ≡ y / 256 / 256 % 256
        → x / 256 / 256 / 256 % 256 ≡ y / 256 / 256 / 256 % 256 → x ≡ y
    told x y u v p q r s = sym (word_of_bytes x u) ∙ (λ i. p i + q i * 256 + r i * 65536 + s i * 16777216) ∙ word_of_bytes y v

-- the first n, where the three parts meet before
cut : (n : ℕ) (p w q : List ℕ) → length p + length w ≤ n → take n (p ++ (w ++ q)) ≡ p ++ (w ++ take (n - length p - length w) q)
cut n p w q l =
    let m = n - length p - length w in
    let e : n ≡ length p + (length w + m) = omega arith in
    ap (λ (j : ℕ). take j (p ++ (w ++ q))) e ∙ take-append-add p (w ++ q) (length w + m) ∙ ap (λ (r : List ℕ). p ++ r) (take-append-add w q m)

cut_off : (n : ℕ) (p w q : List ℕ) → length p + length w ≤ n → drop n (p ++ (w ++ q)) ≡ drop (n - length p - length w) q
cut_off n p w q l =
    let m = n - length p - length w in
    let e : n ≡ length p + (length w + m) = omega arith in
    ap (λ (j : ℕ). drop j (p ++ (w ++ q))) e ∙ drop-append-add p (w ++ q) (length w + m) ∙ drop-append-add w q m

-- ---- a run

module _ (p q : List ℕ) {w w' : List ℕ} (W : Word w) (W' : Word w') (apart : w ≡ w' → ⊥) (aligned : length p % 4 ≡ 0) where
  abbrev Right : List ℕ → Type 0
  Right b = drop 504 b ≡ sums (take 504 b)

  in_front : length p + 4 ≤ 504 → Right (p ++ (w ++ q)) → Right (p ++ (w' ++ q)) → ⊥
  in_front l r r' =
      let n = word_length W in
      let n' = word_length W' in
      let m = 504 - length p - 4 in
      let f : take 504 (p ++ (w ++ q)) ≡ p ++ (w ++ take m q) = cut 504 p w q (omega arith) ∙ ap (λ (j : ℕ). p ++ (w ++ take (504 - length p - j) q)) n in
      let f' : take 504 (p ++ (w' ++ q)) ≡ p ++ (w' ++ take m q) = cut 504 p w' q (omega arith) ∙ ap (λ (j : ℕ). p ++ (w' ++ take (504 - length p - j) q)) n' in
      let d : drop 504 (p ++ (w ++ q)) ≡ drop m q = cut_off 504 p w q (omega arith) ∙ ap (λ (j : ℕ). drop (504 - length p - j) q) n in
      let d' : drop 504 (p ++ (w' ++ q)) ≡ drop m q = cut_off 504 p w' q (omega arith) ∙ ap (λ (j : ℕ). drop (504 - length p - j) q) n' in
      let same : sums (p ++ (w ++ take m q)) ≡ sums (p ++ (w' ++ take m q)) = ap sums (sym f) ∙ sym r ∙ d ∙ sym d' ∙ r' ∙ ap sums f' in
      let e = first_told (p ++ (w ++ take m q)) (p ++ (w' ++ take m q)) same in
      let t = total_parts p w (take m q) aligned n in
      let t' = total_parts p w' (take m q) aligned n' in
      let u = word_below W in
      let u' = word_below W' in
      apart (word_back W W' (equal (total (words (p ++ (w ++ take m q)))) (total (words (p ++ (w' ++ take m q)))) (total (words p)) (total (words (take m q))) (total (words w)) (total (words w')) e t t' u u'))
    where
      equal : (x y a b v v' : ℕ) → x % 4294967296 ≡ y % 4294967296 → x ≡ a + (v + b) → y ≡ a + (v' + b) → v < 4294967296 → v' < 4294967296 → v ≡ v'
      equal x y a b v v' e t t' u u' = omega arith

  in_sums : 504 ≤ length p → Right (p ++ (w ++ q)) → Right (p ++ (w' ++ q)) → ⊥
  in_sums l r r' =
      let here = drop 504 p in
      let same : here ++ (w ++ q) ≡ here ++ (w' ++ q)
      = sym (drop-append-le 504 p (w ++ q) l) ∙ r ∙ ap sums (take-append-le 504 p (w ++ q) l ∙ sym (take-append-le 504 p (w' ++ q) l)) ∙ sym r' ∙ drop-append-le 504 p (w' ++ q) l in
      apart (sym (picked here w W) ∙ ap (λ (b : List ℕ). take 4 (drop (length here) b)) same ∙ picked here w' W')
    where
      picked : (here v : List ℕ) → Word v → take 4 (drop (length here) (here ++ (v ++ q))) ≡ v
      picked here v x = ap (take 4) (drop-append_seam here (v ++ q)) ∙ ap (λ (j : ℕ). take j (v ++ q)) (sym (word_length x)) ∙ take-append_seam v q

  changed : length p + 4 ≤ 512 → Right (p ++ (w ++ q)) → Right (p ++ (w' ++ q)) → ⊥
  changed l r r' = ⊎_elim (λ s. in_front (omega arith) r r') (λ f. let g : length p < 504 → ⊥ = f in in_sums (omega arith) r r') (answer (lt_test (length p) 504))

pub word_changed : (a c lent lent' : List ℕ) {w w' : List ℕ} → length a % 4 ≡ 0 → Word w → Word w' → (w ≡ w' → ⊥)
    → (read (a ++ (w ++ c)) lent).code ≡ 0 → read (a ++ (w' ++ c)) lent' ≡ refused 22 (length a / 512) lent'
word_changed a c lent lent' {w} {w'} aligned W W' apart z =
    read_on run' lent' (⊎_elim (λ f. absurd (f (omega (arith, s.0, same_size)))) (λ q. omega (arith, s.0, s.1, same_size)))
    ∙ ap (λ (j : ℕ). judged (lowest_fault j run' j) run' lent') same_count
    ∙ ap (λ (o : Option Fault). judged o run' lent') (lowest_found n run' n k (fault 22 k) below this inside)
  where
    run : List ℕ
    run = a ++ (w ++ c)

    run' : List ℕ
    run' = a ++ (w' ++ c)

    n : ℕ
    n = length run / 512

    k : ℕ
    k = length a / 512

    p : List ℕ
    p = drop (512 * k) a

    s : (length run ≡ 512 * n) × (n ≤ 67) × (lowest_fault n run n ≡ none)
    s = accepted_sound run lent z

    size : length run ≡ length a + (4 + length c)
    size = length-append a (w ++ c) ∙ ap (λ (m : ℕ). length a + m) (length-append w c ∙ ap (λ (m : ℕ). m + length c) (word_length W))

    size' : length run' ≡ length a + (4 + length c)
    size' = length-append a (w' ++ c) ∙ ap (λ (m : ℕ). length a + m) (length-append w' c ∙ ap (λ (m : ℕ). m + length c) (word_length W'))

    same_size : length run' ≡ length run
    same_size = size' ∙ sym size

    same_count : length run' / 512 ≡ n
    same_count = ap (λ (m : ℕ). m / 512) same_size

    inside : k < n
    inside = omega (arith, s.0, size)

    before : length p ≡ length a - 512 * k
    before = length-drop (512 * k) a

    -- block k of either run
    here : (v : List ℕ) → Word v → block_at k (a ++ (v ++ c)) ≡ p ++ (v ++ take (508 - length p) c)
    here v x =
        let e = before in
        ap (take 512) (drop-append-le (512 * k) a (v ++ c) (omega arith))
        ∙ cut 512 p v c (let m = word_length x in omega arith)
        ∙ ap (λ (j : ℕ). p ++ (v ++ take j c)) (let m = word_length x in let f : 512 - length p - length v ≡ 508 - length p = omega arith in f)

    below : lowest_fault n run' k ≡ none
    below =
        lowest_none n run' k
        (λ j l.
        ap (fault_in n j) (part_left 512 (512 * j) a (w' ++ c) (omega arith) ∙ sym (part_left 512 (512 * j) a (w ++ c) (omega arith)))
        ∙ each_none n run n s.2 j (let i = inside in omega arith))

    this : fault_in n k (block_at k run') ≡ some (fault 22 k)
    this =
        let q = take (508 - length p) c in
        let e = before in
        let right = (sound_of n k (block_at k run) (each_none n run n s.2 k inside)).sums_right in
        ap (fault_in n k) (here w' W')
        ∙ wrong_sums n k (p ++ (w' ++ q))
        (changed p q W W' apart (omega arith) (omega arith) (rw (here w W) at right))
