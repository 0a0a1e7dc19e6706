-- Words and sums: the words of two runs of bytes, one after the other, and their sums; the sums after one word more (`sums-turn`); a word from its bytes and back
-- (`bytes_of_word`, `word_of_bytes`).
-- Assumes nothing.
use Rattle.std.specs.Prelude.{◌≡◌, refl, List, [], ◌∷◌, ◌++◌, ℕ, ◌+◌, ◌*◌, ◌/◌, ◌%◌, ◌<◌, length}
use Rattle.std.proofs.Common.{sym, ap, ap₂, ◌∙◌, arith}
use Rattle.std.proofs.Math.Nat.{add-mod-mod, mod-add-mod}
use Rattle.history.specs.Formats.{bytes_of}
use Rattle.blocks.specs.Blocks.{words, total, running}

-- ---- one run after another

pub words_append : (l m : List ℕ) → length l % 4 ≡ 0 → words (l ++ m) ≡ words l ++ words m
words_append (a ∷ b ∷ c ∷ d ∷ l) m e = ap (λ (r : List ℕ). (a + b * 256 + c * 65536 + d * 16777216) ∷ r) (words_append l m (omega arith))
words_append [] m e = refl
words_append (a ∷ []) m e = absurd (omega arith)
words_append (a ∷ b ∷ []) m e = absurd (omega arith)
words_append (a ∷ b ∷ c ∷ []) m e = absurd (omega arith)

pub total_append : (l m : List ℕ) → total (l ++ m) ≡ total l + total m
total_append [] m = omega arith
total_append (w ∷ l) m = let e = total_append l m in omega arith

running_append : (s : ℕ) (l m : List ℕ) → running s (l ++ m) ≡ running s l ++ running (s + total l) m
running_append s [] m = ap (λ (t : ℕ). running t m) (omega arith)
running_append s (w ∷ l) m =
    ap (λ (r : List ℕ). (s + w) ∷ r) (running_append (s + w) l m ∙ ap (λ (t : ℕ). running (s + w) l ++ running t m) (let e : (s + w) + total l ≡ s + (w + total l) = omega arith in e))

-- ---- the sums after one word more

module _ (l : List ℕ) (w a b : ℕ) (first : a ≡ total l % 4294967296) (second : b ≡ total (running 0 l) % 4294967296) where
  pub first_turn : (a + w) % 4294967296 ≡ total (l ++ w ∷ []) % 4294967296
  first_turn =
      ap (λ (x : ℕ). (x + w) % 4294967296) first
      ∙ mod-add-mod (total l) 4294967296 w
      ∙ ap (λ (x : ℕ). x % 4294967296) (let e = total_append l (w ∷ []) in let t : total l + w ≡ total (l ++ w ∷ []) = omega arith in t)

  pub second_turn : (b + (a + w) % 4294967296) % 4294967296 ≡ total (running 0 (l ++ w ∷ [])) % 4294967296
  second_turn =
      ap₂ (λ (x y : ℕ). (x + y) % 4294967296) second first_turn
      ∙ mod-add-mod (total (running 0 l)) 4294967296 (total (l ++ w ∷ []) % 4294967296)
      ∙ add-mod-mod (total (running 0 l)) (total (l ++ w ∷ [])) 4294967296
      ∙ ap (λ (x : ℕ). x % 4294967296) (sym both)
    where
      both : total (running 0 (l ++ w ∷ [])) ≡ total (running 0 l) + total (l ++ w ∷ [])
      both =
          ap total (running_append 0 l (w ∷ []))
          ∙ total_append (running 0 l) (running (0 + total l) (w ∷ []))
          ∙ (let e = total_append l (w ∷ []) in omega arith)

-- ---- a word and its bytes

low_byte : (a n : ℕ) → a < 256 → (a + 256 * n) % 256 ≡ a
low_byte a n l = omega arith

higher : (a n : ℕ) → a < 256 → (a + 256 * n) / 256 ≡ n
higher a n l = omega arith

module _ {a b c d : ℕ} (p : a < 256) (q : b < 256) (r : c < 256) (s : d < 256) where
  pub bytes_of_word : bytes_of 4 (a + b * 256 + c * 65536 + d * 16777216) ≡ a ∷ b ∷ c ∷ d ∷ []
  bytes_of_word =
      let z = a + b * 256 + c * 65536 + d * 16777216 in
      let e : z ≡ a + 256 * (b + 256 * (c + 256 * d)) = omega arith in
      let z1 : z / 256 ≡ b + 256 * (c + 256 * d) = ap (λ (x : ℕ). x / 256) e ∙ higher a (b + 256 * (c + 256 * d)) p in
      let z2 : z / 256 / 256 ≡ c + 256 * d = ap (λ (x : ℕ). x / 256) z1 ∙ higher b (c + 256 * d) q in
      let z3 : z / 256 / 256 / 256 ≡ d = ap (λ (x : ℕ). x / 256) z2 ∙ higher c d r in
      let f0 : z % 256 ≡ a = ap (λ (x : ℕ). x % 256) e ∙ low_byte a (b + 256 * (c + 256 * d)) p in
      let f1 : z / 256 % 256 ≡ b = ap (λ (x : ℕ). x % 256) z1 ∙ low_byte b (c + 256 * d) q in
      let f2 : z / 256 / 256 % 256 ≡ c = ap (λ (x : ℕ). x % 256) z2 ∙ low_byte c d r in
      let f3 : z / 256 / 256 / 256 % 256 ≡ d = ap (λ (x : ℕ). x % 256) z3 ∙ (omega arith) in
      λ i. f0 i ∷ f1 i ∷ f2 i ∷ f3 i ∷ []

pub word_of_bytes : (x : ℕ) → x < 4294967296 → x % 256 + x / 256 % 256 * 256 + x / 256 / 256 % 256 * 65536 + x / 256 / 256 / 256 % 256 * 16777216 ≡ x
word_of_bytes x l = omega arith
