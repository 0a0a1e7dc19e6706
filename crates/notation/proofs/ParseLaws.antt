-- A text is read as the events h exactly when it says them (`says_exactly`), and as wrong at the place p exactly when it goes wrong there (`wrong_exactly`).
--
-- In order: a number in decimal, digit by digit; the stands that a reading comes to (`Spot`), each with the bytes of the symbol so far; the moves from one to the next (`Goes`, and
-- `Whole` where a blank comes), that `next` makes them and no other (`move`); a beginning that has been read (`Reached`), which every text of the form goes through and which can always be gone on
-- with to a text of the form; and from these the two theorems.
-- Assumes nothing.
use Rattle.std.specs.Prelude.{◌≡◌, ◌⊎◌, ◌↔◌, Bool, true, false, cond, List, [], ◌∷◌, ◌++◌, ℕ, zero, suc, ◌+◌, ◌-◌, ◌*◌, ◌/◌, ◌%◌, ◌≤◌, ◌<◌, eqb, length, take, drop}
use Rattle.std.proofs.Math.Path.{refl, ap}
use Rattle.std.proofs.Common.{sym, ap₂, subst, ◌∙◌, inl, inr, ⊎_elim, append-nil, append_assoc, le_refl, arith, length-append, take_at}
use mathlib.Core.List.Memᴰ
use Rattle.graph.specs.Decide.{Decides, and_test, not_test, eq_test, le_test, lt_test, answer, test_true, test_false}
use Rattle.graph.specs.Lists.{◌∈◌, here, later}
use Rattle.text.specs.Decimal.{glyph, leading, decimal}
use Rattle.text.specs.DecimalLaws.{decimal_leading, decimal_digit}
use Rattle.history.specs.Events.{Kind, read, write, add, Event, opens, steps, ends, abandons, History}
use Rattle.verdicts.specs.Logs.{kind_number}
use Rattle.notation.specs.Notation.{on_cell, symbol, text_of, Sayable, Says, Form, Begins, Wrong, no_such_byte, stops_short}
use Rattle.notation.specs.Parse.{Stand, stand, off, kind_of, with_cell, is_digit, goes_on, letter_next, job_next, cell_next, next, event_at, whole_at, grown, Parsed, wrong, says, parse_end, parse_from, parse}
use Rattle.notation.specs.ParseLaws.{Read, gone_wrong, said}

-- ---- a number in decimal, digit by digit

decimal_next : (n d : ℕ) → 0 < n → d < 10 → decimal (n * 10 + d) ≡ decimal n ++ (48 + d) ∷ []
unfolding decimal
decimal_next n d p q =
    let a : (n * 10 + d) / 10 ≡ n = omega arith in
    let m : (n * 10 + d) % 10 ≡ d = omega arith in
    ap₂ (λ (x y : ℕ). leading x ++ glyph y ∷ []) a m ∙ ap (λ (l : List ℕ). l ++ glyph d ∷ []) (sym (decimal_leading n p))

-- ---- the stands that a reading comes to

-- what holds of each digit, and of one more digit after a number that is not 0, holds of a number below the limit
module _ (P : List ℕ → ℕ → Type 0) (limit : ℕ) (one : (d : ℕ) → d < 10 → P ((48 + d) ∷ []) d)
    (more : (l : List ℕ) (n d : ℕ) → 0 < n → d < 10 → n * 10 + d < limit → P l n → P (l ++ (48 + d) ∷ []) (n * 10 + d)) where
  by_one : (n : ℕ) → n < 10 → P (decimal n) n
  by_one n q = subst (λ (l : List ℕ). P l n) (sym (decimal_digit n q)) (one n q)

  by_more : (n : ℕ) → 0 < n / 10 → n < limit → P (decimal (n / 10)) (n / 10) → P (decimal n) n
  by_more n p q r =
      let e : n / 10 * 10 + n % 10 ≡ n = omega arith in
      subst (λ (m : ℕ). P (decimal m) m) e
      (subst (λ (l : List ℕ). P l (n / 10 * 10 + n % 10)) (sym (decimal_next (n / 10) (n % 10) p (omega arith))) (more (decimal (n / 10)) (n / 10) (n % 10) p (omega arith) (omega arith) r))

  by_digits_in : (k n : ℕ) → n ≤ k → n < limit → P (decimal n) n
  by_digits_in zero n h q = by_one n (omega arith)
  by_digits_in (suc k) n h q =
      ⊎_elim (λ l. by_one n l) (λ f. let g : n < 10 → ⊥ = f in by_more n (omega arith) q (by_digits_in k (n / 10) (omega arith) (omega arith))) (answer (lt_test n 10))

  by_digits : (n : ℕ) → n < limit → P (decimal n) n
  by_digits n q = by_digits_in n n (le_refl n) q

-- the steps that have a symbol
data Way : Type 0 where
  reading writing : Way

abbrev kind : Way → Kind
kind reading = read
kind writing = write

abbrev letter : Way → ℕ
letter reading = 82
letter writing = 87

symbol_way : (k : Way) (j c : ℕ) → symbol (steps (kind k) j c) ≡ on_cell (letter k) j c
symbol_way reading j c = refl
symbol_way writing j c = refl

sayable_way : (k : Way) {j c : ℕ} → (j < 4_294_967_296) × (c < 65_536) → Sayable (steps (kind k) j c)
sayable_way reading f = f
sayable_way writing f = f

data Letter : Type 0 where
  for_open for_end : Letter
  for_step : Way → Letter

abbrev byte_of : Letter → ℕ
byte_of for_open = 66
byte_of for_end = 69
byte_of (for_step k) = letter k

abbrev number_of : Letter → ℕ
number_of for_open = 1
number_of for_end = 4
number_of (for_step k) = kind_number (kind k)

-- after a letter; in the digits of a job that say n; after `[`; in the digits of a cell; after `]`
data Spot : Type 0 where
  start blank : Spot
  lettered : Letter → Spot
  in_job : Letter → ℕ → Spot
  bracketed : Way → ℕ → Spot
  in_Cell closed : Way → ℕ → ℕ → Spot

abbrev at : Spot → Stand
at start = stand 0 0 0 0
at blank = stand 1 0 0 0
at (lettered l) = stand 2 (number_of l) 0 0
at (in_job l n) = stand 3 (number_of l) n 0
at (bracketed k j) = stand 4 (kind_number (kind k)) j 0
at (in_Cell k j n) = stand 5 (kind_number (kind k)) j n
at (closed k j n) = stand 6 (kind_number (kind k)) j n

-- the bytes of the symbol so far
abbrev part : Spot → List ℕ
part start = []
part blank = []
part (lettered l) = byte_of l ∷ []
part (in_job l n) = byte_of l ∷ decimal n
part (bracketed k j) = letter k ∷ (decimal j ++ (91 ∷ []))
part (in_Cell k j n) = letter k ∷ (decimal j ++ (91 ∷ decimal n))
part (closed k j n) = letter k ∷ (decimal j ++ (91 ∷ (decimal n ++ (93 ∷ []))))

-- ---- moves

-- the numbers are below their limits, and nothing is read at the start
abbrev Fit : History → Spot → Type 0
Fit g start = g ≡ []
Fit g blank = Unit {0}
Fit g (lettered l) = Unit {0}
Fit g (in_job l n) = n < 4_294_967_296
Fit g (bracketed k j) = j < 4_294_967_296
Fit g (in_Cell k j n) = (j < 4_294_967_296) × (n < 65_536)
Fit g (closed k j n) = (j < 4_294_967_296) × (n < 65_536)

-- from spot to spot within a symbol
data Goes : Spot → ℕ → Spot → Type 0 where
  first_letter : (l : Letter) → Goes start (byte_of l) (lettered l)
  next_letter : (l : Letter) → Goes blank (byte_of l) (lettered l)
  first_digit : (l : Letter) {d : ℕ} → d < 10 → Goes (lettered l) (48 + d) (in_job l d)
  more_digits : (l : Letter) {n d : ℕ} → 0 < n → d < 10 → n * 10 + d < 4_294_967_296 → Goes (in_job l n) (48 + d) (in_job l (n * 10 + d))
  bracket : (k : Way) {j : ℕ} → Goes (in_job (for_step k) j) 91 (bracketed k j)
  first_of_cell : (k : Way) {j d : ℕ} → d < 10 → Goes (bracketed k j) (48 + d) (in_Cell k j d)
  more_of_cell : (k : Way) {j n d : ℕ} → 0 < n → d < 10 → n * 10 + d < 65_536 → Goes (in_Cell k j n) (48 + d) (in_Cell k j (n * 10 + d))
  close : (k : Way) {j n : ℕ} → Goes (in_Cell k j n) 93 (closed k j n)

-- the symbol of e is whole
data Whole : Spot → Event → Type 0 where
  whole_open : {n : ℕ} → Whole (in_job for_open n) (opens n)
  whole_end : {n : ℕ} → Whole (in_job for_end n) (ends n)
  whole_step : (k : Way) {j n : ℕ} → Whole (closed k j n) (steps (kind k) j n)

-- one byte more of the symbol
part_goes : {x y : Spot} {b : ℕ} → Goes x b y → part y ≡ part x ++ b ∷ []
part_goes (first_letter l) = refl
part_goes (next_letter l) = refl
part_goes (first_digit l {d} q) = ap (λ (r : List ℕ). byte_of l ∷ r) (decimal_digit d q)
part_goes (more_digits l {n} {d} p q r) = ap (λ (m : List ℕ). byte_of l ∷ m) (decimal_next n d p q)
part_goes (bracket k) = refl
part_goes (first_of_cell k {j} {d} q) = ap (λ (r : List ℕ). letter k ∷ (decimal j ++ (91 ∷ r))) (decimal_digit d q) ∙ ap (λ (r : List ℕ). letter k ∷ r) (sym (append_assoc (decimal j) (91 ∷ []) ((48 + d) ∷ [])))
part_goes (more_of_cell k {j} {n} {d} p q r) =
    ap (λ (m : List ℕ). letter k ∷ (decimal j ++ (91 ∷ m))) (decimal_next n d p q) ∙ ap (λ (m : List ℕ). letter k ∷ m) (sym (append_assoc (decimal j) (91 ∷ decimal n) ((48 + d) ∷ [])))
part_goes (close k {j} {n}) = ap (λ (m : List ℕ). letter k ∷ m) (sym (append_assoc (decimal j) (91 ∷ decimal n) (93 ∷ [])))

fit_goes : (g : History) {x y : Spot} {b : ℕ} → Goes x b y → Fit g x → Fit g y
fit_goes g (first_letter l) f = tt
fit_goes g (next_letter l) f = tt
fit_goes g (first_digit l q) f = omega arith
fit_goes g (more_digits l p q r) f = r
fit_goes g (bracket k) f = f
fit_goes g (first_of_cell k q) f = (f, omega arith)
fit_goes g (more_of_cell k p q r) f = (f.0, r)
fit_goes g (close k) f = f

part_whole : {x : Spot} {e : Event} → Whole x e → part x ≡ symbol e
part_whole whole_open = refl
part_whole whole_end = refl
part_whole (whole_step k {j} {n}) = sym (symbol_way k j n)

-- ---- the next stand is the move

fit_whole : (g : History) {x : Spot} {e : Event} → Whole x e → Fit g x → Sayable e
fit_whole g whole_open f = f
fit_whole g whole_end f = f
fit_whole g (whole_step k) f = sayable_way k f

digit_test : (b : ℕ) → Decides (is_digit b) ((48 ≤ b) × (b ≤ 57))
unfolding is_digit
digit_test b = and_test (le_test 48 b) (le_test b 57)

goes_test : (n b limit : ℕ) → Decides (goes_on n b limit) ((n ≡ 0 → ⊥) × (n * 10 + (b - 48) < limit))
unfolding goes_on
goes_test n b limit = and_test (not_test (eq_test n 0)) (lt_test (n * 10 + (b - 48)) limit)

digit_yes : (d : ℕ) → d < 10 → is_digit (48 + d) ≡ true
digit_yes d q = test_true (digit_test (48 + d)) (omega arith, omega arith)

goes_yes : (n d limit : ℕ) → 0 < n → d < 10 → n * 10 + d < limit → goes_on n (48 + d) limit ≡ true
goes_yes n d limit p q r = test_true (goes_test n (48 + d) limit) (λ z. omega arith, omega arith)

digit_back : (d : ℕ) → 48 + d - 48 ≡ d
digit_back d = omega arith

both_yes : {X : Type 0} {a b : Bool} (x y z : X) → a ≡ true → b ≡ true → cond a (cond b x y) z ≡ x
both_yes x y z p q = ap₂ (λ (a b : Bool). cond a (cond b x y) z) p q

yes_no : {X : Type 0} {a b : Bool} (x y z : X) → a ≡ true → b ≡ false → cond a (cond b x y) z ≡ y
yes_no x y z p q = ap₂ (λ (a b : Bool). cond a (cond b x y) z) p q

both_no : {X : Type 0} {a b : Bool} (x y z : X) → a ≡ false → b ≡ false → cond a x (cond b y z) ≡ z
both_no x y z p q = ap₂ (λ (a b : Bool). cond a x (cond b y z)) p q

next_goes : {x y : Spot} {b : ℕ} → Goes x b y → next (at x) b ≡ at y
unfolding next kind_of with_cell
next_goes (first_letter for_open) = refl
next_goes (first_letter for_end) = refl
next_goes (first_letter (for_step reading)) = refl
next_goes (first_letter (for_step writing)) = refl
next_goes (next_letter for_open) = refl
next_goes (next_letter for_end) = refl
next_goes (next_letter (for_step reading)) = refl
next_goes (next_letter (for_step writing)) = refl
next_goes (first_digit l {d} q) = ap₂ (λ (t : Bool) (m : ℕ). cond t (stand 3 (number_of l) m 0) off) (digit_yes d q) (digit_back d)
next_goes (more_digits l {n} {d} p q r) = job_digit (number_of l) n d p q r
  where
    job_digit : (k n d : ℕ) → 0 < n → d < 10 → n * 10 + d < 4_294_967_296 → job_next k n (48 + d) ≡ stand 3 k (n * 10 + d) 0
    job_digit k n d p q r =
        both_yes (stand 3 k (n * 10 + (48 + d - 48)) 0) off _ (digit_yes d q) (goes_yes n d 4_294_967_296 p q r) ∙ ap (λ (m : ℕ). stand 3 k (n * 10 + m) 0) (digit_back d)
next_goes (bracket reading) = unfold is_digit in refl
next_goes (bracket writing) = unfold is_digit in refl
next_goes (first_of_cell k {j} {d} q) = ap₂ (λ (t : Bool) (m : ℕ). cond t (stand 5 (kind_number (kind k)) j m) off) (digit_yes d q) (digit_back d)
next_goes (more_of_cell k {j} {n} {d} p q r) = cell_digit (kind_number (kind k)) j n d p q r
  where
    cell_digit : (k j n d : ℕ) → 0 < n → d < 10 → n * 10 + d < 65_536 → cell_next k j n (48 + d) ≡ stand 5 k j (n * 10 + d)
    cell_digit k j n d p q r =
        both_yes (stand 5 k j (n * 10 + (48 + d - 48))) off _ (digit_yes d q) (goes_yes n d 65_536 p q r) ∙ ap (λ (m : ℕ). stand 5 k j (n * 10 + m)) (digit_back d)
next_goes (close k) = unfold is_digit in refl

next_whole : {x : Spot} {e : Event} → Whole x e → next (at x) 32 ≡ stand 1 0 0 0
unfolding next with_cell is_digit
next_whole whole_open = refl
next_whole whole_end = refl
next_whole (whole_step k) = refl

-- ---- and no other

event_whole : {x : Spot} {e : Event} → Whole x e → event_at (at x) ≡ e
unfolding event_at
event_whole whole_open = refl
event_whole whole_end = refl
event_whole (whole_step reading) = refl
event_whole (whole_step writing) = refl

data Move (x : Spot) (b : ℕ) : Type 0 where
  refuses : next (at x) b ≡ off → Move x b
  goes : (y : Spot) → Goes x b y → Move x b
  over : (e : Event) → Whole x e → b ≡ 32 → Move x b

none_of_four : {p q r s : Bool} → p ≡ false → q ≡ false → r ≡ false → s ≡ false → ◌≡◌ {A = ℕ} (cond p 1 (cond q 2 (cond r 3 (cond s 4 0)))) 0
none_of_four {r = r} {s = s} f g h i = both_no {X = ℕ} 1 2 (cond r 3 (cond s 4 0)) f g ∙ both_no {X = ℕ} 3 4 0 h i

letters : (b : ℕ) → ((l : Letter) × (b ≡ byte_of l)) ⊎ (kind_of b ≡ 0)
unfolding kind_of
letters b =
    ⊎_elim (λ e. inl (for_open, e))
    (λ f. ⊎_elim (λ e. inl (for_step reading, e))
    (λ g. ⊎_elim (λ e. inl (for_step writing, e))
    (λ h. ⊎_elim (λ e. inl (for_end, e))
    (λ i. inr (none_of_four (test_false (eq_test b 66) f) (test_false (eq_test b 82) g) (test_false (eq_test b 87) h) (test_false (eq_test b 69) i)))
    (answer (eq_test b 69))) (answer (eq_test b 87))) (answer (eq_test b 82))) (answer (eq_test b 66))

digits : (b : ℕ) → ((d : ℕ) × (d < 10) × (b ≡ 48 + d)) ⊎ (is_digit b ≡ false)
digits b = ⊎_elim (λ p. let l = p.0 in let u = p.1 in inl (b - 48, omega arith, omega arith)) (λ f. inr (test_false (digit_test b) f)) (answer (digit_test b))

-- a digit after the number n: the number goes on, or it is refused
further : (n d limit : ℕ) → d < 10 → ((0 < n) × (n * 10 + d < limit)) ⊎ (goes_on n (48 + d) limit ≡ false)
further n d limit q =
    ⊎_elim (λ p. let f : n ≡ 0 → ⊥ = p.0 in let l : n * 10 + (48 + d - 48) < limit = p.1 in inl (omega arith, omega arith)) (λ f. inr (test_false (goes_test n (48 + d) limit) f))
    (answer (goes_test n (48 + d) limit))

-- the byte is the one that the move wants
along : {x y : Spot} {b c : ℕ} → b ≡ c → Goes x c y → Move x b
along {x} {y} {b} e m = goes y (subst (λ (a : ℕ). Goes x a y) (sym e) m)

refused_along : {x : Spot} {b c : ℕ} → b ≡ c → next (at x) c ≡ off → Move x b
refused_along {x} {b} e n = refuses (ap (next (at x)) e ∙ n)

by_letter : (x : Spot) (b : ℕ) → ((l : Letter) → Goes x (byte_of l) (lettered l)) → next (at x) b ≡ letter_next b → Move x b
by_letter x b m n =
    ⊎_elim (λ r. along r.1 (m r.0)) (λ z. refuses (n ∙ ap (λ (k : ℕ). cond (eqb k 0) off (stand 2 k 0 0)) z)) (letters b)

-- after a job's digits: what is no digit
after_job : (l : Letter) (n b : ℕ) → is_digit b ≡ false → Move (in_job l n) b
unfolding next with_cell
after_job for_open n b f = ⊎_elim (λ e. over (opens n) whole_open e) (λ g. refuses (both_no _ _ off f (test_false (eq_test b 32) g))) (answer (eq_test b 32))
after_job for_end n b f = ⊎_elim (λ e. over (ends n) whole_end e) (λ g. refuses (both_no _ _ off f (test_false (eq_test b 32) g))) (answer (eq_test b 32))
after_job (for_step reading) n b f = ⊎_elim (λ e. along e (bracket reading)) (λ g. refuses (both_no _ _ off f (test_false (eq_test b 91) g))) (answer (eq_test b 91))
after_job (for_step writing) n b f = ⊎_elim (λ e. along e (bracket writing)) (λ g. refuses (both_no _ _ off f (test_false (eq_test b 91) g))) (answer (eq_test b 91))

-- ---- the text of events, with a blank after each

move : (x : Spot) (b : ℕ) → Move x b
unfolding next
move start b = by_letter start b first_letter refl
move blank b = by_letter blank b next_letter refl
move (lettered l) b = ⊎_elim (λ r. along r.2 (first_digit l r.1)) (λ f. refuses (ap (λ (t : Bool). cond t (stand 3 (number_of l) (b - 48) 0) off) f)) (digits b)
move (in_job l n) b =
    ⊎_elim
    (λ r. ⊎_elim (λ p. along r.2 (more_digits l p.0 r.1 p.1)) (λ f. refused_along r.2 (yes_no (stand 3 (number_of l) (n * 10 + (48 + r.0 - 48)) 0) off _ (digit_yes r.0 r.1) f)) (further n r.0 4_294_967_296 r.1))
    (after_job l n b) (digits b)
move (bracketed k j) b = ⊎_elim (λ r. along r.2 (first_of_cell k r.1)) (λ f. refuses (ap (λ (t : Bool). cond t (stand 5 (kind_number (kind k)) j (b - 48)) off) f)) (digits b)
move (in_Cell k j n) b =
    ⊎_elim
    (λ r. ⊎_elim (λ p. along r.2 (more_of_cell k p.0 r.1 p.1)) (λ f. refused_along r.2 (yes_no (stand 5 (kind_number (kind k)) j (n * 10 + (48 + r.0 - 48))) off _ (digit_yes r.0 r.1) f)) (further n r.0 65_536 r.1))
    (λ f. ⊎_elim (λ e. along e (close k)) (λ g. refuses (both_no _ _ off f (test_false (eq_test b 93) g))) (answer (eq_test b 93))) (digits b)
move (closed k j n) b = ⊎_elim (λ e. over (steps (kind k) j n) (whole_step k) e) (λ g. refuses (ap (λ (t : Bool). cond t (stand 1 0 0 0) off) (test_false (eq_test b 32) g))) (answer (eq_test b 32))

abbrev led : History → List ℕ
led [] = []
led (e ∷ h) = symbol e ++ (32 ∷ led h)

led_more : (h : History) (e : Event) → led (h ++ e ∷ []) ≡ led h ++ (symbol e ++ (32 ∷ []))
led_more [] e = refl
led_more (x ∷ h) e = ap (λ (l : List ℕ). symbol x ++ (32 ∷ l)) (led_more h e) ∙ sym (append_assoc (symbol x) (32 ∷ led h) (symbol e ++ (32 ∷ [])))

-- ---- a beginning that has been read

text_more : (h : History) (e : Event) → text_of (h ++ e ∷ []) ≡ led h ++ symbol e
text_more [] e = refl
text_more (x ∷ []) e = sym (append_assoc (symbol x) (32 ∷ []) (symbol e))
text_more (x ∷ y ∷ h) e = ap (λ (l : List ℕ). symbol x ++ (32 ∷ l)) (text_more (y ∷ h) e) ∙ sym (append_assoc (symbol x) (32 ∷ led (y ∷ h)) (symbol e))

-- the bytes u say the events g and a symbol as far as the spot x, and a text that begins so is read on from there
record Reached (u : List ℕ) (g : History) (x : Spot) : Type 0 where
  so_far : u ≡ led g ++ part x
  sayable : (e : Event) → e ∈ g → Sayable e
  fit : Fit g x
  taken : (v : List ℕ) → parse (u ++ v) ≡ parse_from g (at x) (length u) v

reached_start : Reached [] [] start
unfolding parse
reached_start = record { so_far = refl; sayable = λ e m. absurd (Memᴰ.not-nil m); fit = refl; taken = λ v. refl }

one_longer : (u : List ℕ) (b : ℕ) → length (u ++ b ∷ []) ≡ suc (length u)
one_longer u b = let e = length-append u (b ∷ []) in omega arith

sayable_more : (g : History) (e : Event) → ((f : Event) → f ∈ g → Sayable f) → Sayable e → (f : Event) → f ∈ g ++ e ∷ [] → Sayable f
sayable_more g e s t f m = ⊎_elim (s f) (λ n. subst Sayable (sym (Memᴰ.eq_of_singleton n)) t) (Memᴰ.append_cases g m)

-- what a byte makes of the reading, from the next stand
abbrev on_with : History → Stand → ℕ → List ℕ → Stand → Parsed
on_with g s p v n = cond (eqb n.phase 7) (wrong p) (parse_from (grown g s n) n (suc p) v)

on_goes : (g : History) (p : ℕ) (v : List ℕ) {x y : Spot} {b : ℕ} → Goes x b y → on_with g (at x) p v (at y) ≡ parse_from g (at y) (suc p) v
unfolding grown
on_goes g p v (first_letter l) = refl
on_goes g p v (next_letter l) = refl
on_goes g p v (first_digit l q) = refl
on_goes g p v (more_digits l i q r) = refl
on_goes g p v (bracket k) = refl
on_goes g p v (first_of_cell k q) = refl
on_goes g p v (more_of_cell k i q r) = refl
on_goes g p v (close k) = refl

-- ---- it can be gone on with

module _ {u : List ℕ} {g : History} {x : Spot} (r : Reached u g x) where
  -- the reading of one byte more
  taken_on : (b : ℕ) (v : List ℕ) → parse ((u ++ b ∷ []) ++ v) ≡ on_with g (at x) (length u) v (next (at x) b)
  taken_on b v = ap parse (append_assoc u (b ∷ []) v) ∙ r.taken (b ∷ v)

  reached_goes : {y : Spot} {b : ℕ} → Goes x b y → Reached (u ++ b ∷ []) g y
  reached_goes {y} {b} m =
      record {
        so_far = ap (λ (l : List ℕ). l ++ b ∷ []) r.so_far ∙ append_assoc (led g) (part x) (b ∷ []) ∙ ap (λ (l : List ℕ). led g ++ l) (sym (part_goes m));
        sayable = r.sayable;
        fit = fit_goes g m r.fit;
        taken = λ v. taken_on b v ∙ ap (on_with g (at x) (length u) v) (next_goes m) ∙ on_goes g (length u) v m ∙ ap (λ (p : ℕ). parse_from g (at y) p v) (sym (one_longer u b));
      }

  on_whole : {e : Event} → Whole x e → (p : ℕ) (v : List ℕ) → on_with g (at x) p v (stand 1 0 0 0) ≡ parse_from (g ++ e ∷ []) (stand 1 0 0 0) (suc p) v
  unfolding grown
  on_whole w p v = ap (λ (f : Event). parse_from (g ++ f ∷ []) (stand 1 0 0 0) (suc p) v) (event_whole w)

  reached_whole : {e : Event} → Whole x e → Reached (u ++ 32 ∷ []) (g ++ e ∷ []) blank
  reached_whole {e} w =
      record {
        so_far = ap (λ (l : List ℕ). l ++ 32 ∷ []) r.so_far
            ∙ append_assoc (led g) (part x) (32 ∷ [])
            ∙ ap (λ (l : List ℕ). led g ++ (l ++ (32 ∷ []))) (part_whole w)
            ∙ sym (led_more g e)
            ∙ sym (append-nil (led (g ++ e ∷ [])));
        sayable = sayable_more g e r.sayable (fit_whole g w r.fit);
        fit = tt;
        taken = λ v. taken_on 32 v ∙ ap (on_with g (at x) (length u) v) (next_whole w) ∙ on_whole w (length u) v
            ∙ ap (λ (p : ℕ). parse_from (g ++ e ∷ []) (stand 1 0 0 0) p v) (sym (one_longer u 32));
      }

  -- a byte that is refused: so is every text that goes on so
  refused_on : (b : ℕ) → next (at x) b ≡ off → (v : List ℕ) → parse ((u ++ b ∷ []) ++ v) ≡ wrong (length u)
  refused_on b n v = taken_on b v ∙ ap (on_with g (at x) (length u) v) n

abbrev event_with : Letter → ℕ → Event
event_with for_open j = opens j
event_with for_end j = ends j
event_with (for_step k) j = steps (kind k) j 0

-- the symbol that it may become, and what is missing
abbrev whole_of : Spot → Event
whole_of start = opens 0
whole_of blank = opens 0
whole_of (lettered l) = event_with l 0
whole_of (in_job l n) = event_with l n
whole_of (bracketed k j) = steps (kind k) j 0
whole_of (in_Cell k j n) = steps (kind k) j n
whole_of (closed k j n) = steps (kind k) j n

abbrev after_number : Letter → List ℕ
after_number for_open = []
after_number for_end = []
after_number (for_step k) = 91 ∷ (decimal 0 ++ (93 ∷ []))

abbrev missing : Spot → List ℕ
missing start = symbol (opens 0)
missing blank = symbol (opens 0)
missing (lettered l) = decimal 0 ++ after_number l
missing (in_job l n) = after_number l
missing (bracketed k j) = decimal 0 ++ (93 ∷ [])
missing (in_Cell k j n) = 93 ∷ []
missing (closed k j n) = []

completed : (x : Spot) → part x ++ missing x ≡ symbol (whole_of x)
completed start = refl
completed blank = refl
completed (lettered for_open) = ap (λ (l : List ℕ). 66 ∷ l) (append-nil (decimal 0))
completed (lettered for_end) = ap (λ (l : List ℕ). 69 ∷ l) (append-nil (decimal 0))
completed (lettered (for_step k)) = sym (symbol_way k 0 0)
completed (in_job for_open n) = ap (λ (l : List ℕ). 66 ∷ l) (append-nil (decimal n))
completed (in_job for_end n) = ap (λ (l : List ℕ). 69 ∷ l) (append-nil (decimal n))
completed (in_job (for_step k) n) = sym (symbol_way k n 0)
completed (bracketed k j) = ap (λ (l : List ℕ). letter k ∷ l) (append_assoc (decimal j) (91 ∷ []) (decimal 0 ++ (93 ∷ []))) ∙ sym (symbol_way k j 0)
completed (in_Cell k j n) = ap (λ (l : List ℕ). letter k ∷ l) (append_assoc (decimal j) (91 ∷ decimal n) (93 ∷ [])) ∙ sym (symbol_way k j n)
completed (closed k j n) = append-nil (on_cell (letter k) j n) ∙ sym (symbol_way k j n)

fit_completed : (g : History) (x : Spot) → Fit g x → Sayable (whole_of x)
fit_completed g start f = omega arith
fit_completed g blank f = omega arith
fit_completed g (lettered for_open) f = omega arith
fit_completed g (lettered for_end) f = omega arith
fit_completed g (lettered (for_step k)) f = sayable_way k (omega arith, omega arith)
fit_completed g (in_job for_open n) f = f
fit_completed g (in_job for_end n) f = f
fit_completed g (in_job (for_step k) n) f = sayable_way k (f, omega arith)
fit_completed g (bracketed k j) f = sayable_way k (f, omega arith)
fit_completed g (in_Cell k j n) f = sayable_way k f
fit_completed g (closed k j n) f = sayable_way k f

-- ---- every text of the form is read

begins : {u : List ℕ} {g : History} {x : Spot} → Reached u g x → Begins u
begins {u} {g} {x} r =
    let e = whole_of x in (
      missing x,
      (
        g ++ e ∷ [],
        record {
          sayable = sayable_more g e r.sayable (fit_completed g x r.fit);
          text = ap (λ (l : List ℕ). l ++ missing x) r.so_far
              ∙ append_assoc (led g) (part x) (missing x)
              ∙ ap (λ (l : List ℕ). led g ++ l) (completed x)
              ∙ sym (text_more g e);
        },
      ),
    )

data Starts : Spot → Type 0 where
  at_start : Starts start
  at_blank : Starts blank

letter_read : {u : List ℕ} {g : History} {x : Spot} → Starts x → Reached u g x → (l : Letter) → Reached (u ++ byte_of l ∷ []) g (lettered l)
letter_read at_start r l = reached_goes r (first_letter l)
letter_read at_blank r l = reached_goes r (next_letter l)

module _ {u : List ℕ} {g : History} where
  job_read : (l : Letter) → Reached u g (lettered l) → (n : ℕ) → n < 4_294_967_296 → Reached (u ++ decimal n) g (in_job l n)
  job_read l r =
      by_digits (λ (d : List ℕ) (n : ℕ). Reached (u ++ d) g (in_job l n)) 4_294_967_296 (λ d q. reached_goes r (first_digit l q))
      (λ k n d p q s t. subst (λ (i : List ℕ). Reached i g (in_job l (n * 10 + d))) (append_assoc u k ((48 + d) ∷ [])) (reached_goes t (more_digits l p q s)))

  cell_read : (k : Way) (j : ℕ) → Reached u g (bracketed k j) → (n : ℕ) → n < 65_536 → Reached (u ++ decimal n) g (in_Cell k j n)
  cell_read k j r =
      by_digits (λ (d : List ℕ) (n : ℕ). Reached (u ++ d) g (in_Cell k j n)) 65_536 (λ d q. reached_goes r (first_of_cell k q))
      (λ i n d p q s t. subst (λ (m : List ℕ). Reached m g (in_Cell k j (n * 10 + d))) (append_assoc u i ((48 + d) ∷ [])) (reached_goes t (more_of_cell k p q s)))

-- a whole symbol
record Symbol (u : List ℕ) (g : History) (e : Event) : Type 0 where
  spot : Spot
  whole : Whole spot e
  reached : Reached (u ++ symbol e) g spot

step_read : {u : List ℕ} {g : History} {x : Spot} → Starts x → Reached u g x → (k : Way) (j c : ℕ) → (j < 4_294_967_296) × (c < 65_536) → Symbol u g (steps (kind k) j c)
step_read {u} {g} s r k j c f =
    let a = job_read (for_step k) (letter_read s r (for_step k)) j f.0 in
    let b = cell_read k j (reached_goes a (bracket k)) c f.1 in
    record { spot = closed k j c; whole = whole_step k; reached = subst (λ (l : List ℕ). Reached l g (closed k j c)) (joined (letter k) (decimal j) (decimal c) ∙ ap (λ (l : List ℕ). u ++ l) (sym (symbol_way k j c))) (reached_goes b (close k)) }
  where
    joined : (a : ℕ) (m n : List ℕ) → ((((u ++ a ∷ []) ++ m) ++ 91 ∷ []) ++ n) ++ 93 ∷ [] ≡ u ++ (a ∷ (m ++ (91 ∷ (n ++ (93 ∷ [])))))
    joined a m n = simp append_assoc

symbol_read : {u : List ℕ} {g : History} {x : Spot} → Starts x → Reached u g x → (e : Event) → Sayable e → Symbol u g e
symbol_read {u} {g} s r (opens j) f =
    record { spot = in_job for_open j; whole = whole_open; reached = subst (λ (l : List ℕ). Reached l g (in_job for_open j)) (append_assoc u (66 ∷ []) (decimal j)) (job_read for_open (letter_read s r for_open) j f) }
symbol_read {u} {g} s r (ends j) f =
    record { spot = in_job for_end j; whole = whole_end; reached = subst (λ (l : List ℕ). Reached l g (in_job for_end j)) (append_assoc u (69 ∷ []) (decimal j)) (job_read for_end (letter_read s r for_end) j f) }
symbol_read s r (steps read j c) f = step_read s r reading j c f
symbol_read s r (steps write j c) f = step_read s r writing j c f
symbol_read s r (steps add j c) f = absurd f
symbol_read s r (abandons j) f = absurd f

end_whole : (g : History) {x : Spot} {e : Event} (p : ℕ) → Whole x e → parse_end g (at x) p ≡ says (g ++ e ∷ [])
unfolding parse_end whole_at with_cell event_at
end_whole g p whole_open = refl
end_whole g p whole_end = refl
end_whole g p (whole_step reading) = refl
end_whole g p (whole_step writing) = refl

text_read : {u : List ℕ} {g : History} {x : Spot} → Starts x → Reached u g x → (e : Event) (h : History) → ((f : Event) → f ∈ e ∷ h → Sayable f)
    → parse (u ++ text_of (e ∷ h)) ≡ says (g ++ e ∷ h)
text_read {u} {g} s r e [] f =
    let y = symbol_read s r e (f e here) in
    ap parse (sym (append-nil (u ++ symbol e))) ∙ y.reached.taken [] ∙ end_whole g (length (u ++ symbol e)) y.whole
text_read {u} {g} s r e (d ∷ h) f =
    let y = symbol_read s r e (f e here) in
    ap parse (sym (append_assoc (u ++ symbol e) (32 ∷ []) (text_of (d ∷ h)) ∙ append_assoc u (symbol e) (32 ∷ text_of (d ∷ h))))
    ∙ text_read {u = u ++ symbol e ++ 32 ∷ []} at_blank (reached_whole y.reached y.whole) d h (λ i m. f i (later m))
    ∙ ap says (append_assoc g (e ∷ []) (d ∷ h))

parse_text : (h : History) → ((f : Event) → f ∈ h → Sayable f) → parse (text_of h) ≡ says h
unfolding parse_end
parse_text [] f = reached_start.taken []
parse_text (e ∷ h) f = text_read at_start reached_start e h f

-- ---- every text: it is refused at a byte, or read to its end

pub parse_says : {t : List ℕ} {h : History} → Says t h → parse t ≡ says h
parse_says {t} {h} s = ap parse s.text ∙ parse_text h s.sayable

data Outcome (t : List ℕ) : Type 0 where
  refused_at : (u v : List ℕ) (b : ℕ) {g : History} {x : Spot} → t ≡ (u ++ b ∷ []) ++ v → Reached u g x → next (at x) b ≡ off → Outcome t
  read_through : {g : History} {x : Spot} → Reached t g x → Outcome t

outcome : (u v : List ℕ) {g : History} {x : Spot} → Reached u g x → Outcome (u ++ v)
outcome u [] {g} {x} r = read_through (subst (λ (l : List ℕ). Reached l g x) (sym (append-nil u)) r)
outcome u (b ∷ v) {g} {x} r = go (move x b) (λ k y s. subst Outcome (append_assoc u (b ∷ []) v) (outcome (u ++ b ∷ []) v s))
  where
    go : Move x b → ((k : History) (y : Spot) → Reached (u ++ b ∷ []) k y → Outcome (u ++ b ∷ v)) → Outcome (u ++ b ∷ v)
    go (refuses n) f = refused_at u v b (sym (append_assoc u (b ∷ []) v)) r n
    go (goes y m) f = f g y (reached_goes r m)
    go (over e w q) f = f (g ++ e ∷ []) blank (subst (λ (c : ℕ). Reached (u ++ c ∷ []) (g ++ e ∷ []) blank) (sym q) (reached_whole r w))

end_nothing : (g : History) (p : ℕ) → parse_end g (stand 0 0 0 0) p ≡ says []
unfolding parse_end
end_nothing g p = refl

-- the end of a text: nothing was read, a symbol is whole, or it stops short
data End (x : Spot) : Type 0 where
  nothing : x ≡ start → End x
  whole : (e : Event) → Whole x e → End x
  short : ((g : History) (p : ℕ) → parse_end g (at x) p ≡ wrong p) → End x

-- ---- what it is read as

end_of : (x : Spot) → End x
unfolding parse_end whole_at with_cell
end_of start = nothing refl
end_of blank = short (λ g p. refl)
end_of (lettered l) = short (λ g p. refl)
end_of (in_job for_open n) = whole (opens n) whole_open
end_of (in_job for_end n) = whole (ends n) whole_end
end_of (in_job (for_step reading) n) = short (λ g p. refl)
end_of (in_job (for_step writing) n) = short (λ g p. refl)
end_of (bracketed k j) = short (λ g p. refl)
end_of (in_Cell k j n) = short (λ g p. refl)
end_of (closed k j n) = whole (steps (kind k) j n) (whole_step k)

not_both : {t : List ℕ} {h : History} {p : ℕ} → Says t h → parse t ≡ wrong p → ⊥
not_both {t} {h} {p} s w = let q = parse_says s in let z : ◌≡◌ {A = ℕ} 0 1 = cc in omega arith

-- ---- exactly

pub parse_right : (t : List ℕ) → Read t (parse t)
parse_right t = go (outcome [] t reached_start)
  where
    refused_there : (u v : List ℕ) (b : ℕ) {g : History} {x : Spot} → t ≡ (u ++ b ∷ []) ++ v → Reached u g x → next (at x) b ≡ off → Wrong t (length u)
    refused_there u v b s r n =
        let one = one_longer u b in
        let all = ap length s ∙ length-append (u ++ b ∷ []) v in
        let front : take (length u) t ≡ u = ap (take (length u)) (s ∙ append_assoc u (b ∷ []) v) ∙ take_at u (b ∷ v) (length u) refl in
        let there : take (suc (length u)) t ≡ u ++ b ∷ [] = ap (take (suc (length u))) s ∙ take_at (u ++ b ∷ []) v (suc (length u)) one in
        no_such_byte {p = length u} (omega arith) (subst Begins (sym front) (begins r)) (λ i. let w = subst Begins there i in not_both w.1.1 (refused_on r b n w.0))

    at_end : {g : History} {x : Spot} → Reached t g x → parse t ≡ parse_end g (at x) (length t)
    at_end r = ap parse (sym (append-nil t)) ∙ r.taken []

    through : {g : History} {x : Spot} → Reached t g x → End x → Read t (parse t)
    through {g} {x} r (nothing q) = subst (Read t) (sym (at_end r ∙ ap (λ (y : Spot). parse_end g (at y) (length t)) q ∙ end_nothing g (length t))) (said empty)
      where
        none : g ≡ []
        none = subst (Fit g) q r.fit

        empty : Says t []
        empty = record { sayable = λ e m. absurd (Memᴰ.not-nil m); text = r.so_far ∙ ap₂ (λ (k : History) (y : Spot). led k ++ part y) none q }
    through {g} {x} r (whole e w) =
        subst (Read t) (sym (at_end r ∙ end_whole g (length t) w))
        (said (record { sayable = sayable_more g e r.sayable (fit_whole g w r.fit); text = r.so_far ∙ ap (λ (l : List ℕ). led g ++ l) (part_whole w) ∙ sym (text_more g e) }))
    through {g} {x} r (short f) =
        let e = at_end r ∙ f g (length t) in
        subst (Read t) (sym e) (gone_wrong (stops_short (begins r) (λ i. not_both i.1 e)))

    go : Outcome t → Read t (parse t)
    go (refused_at u v b s r n) = subst (Read t) (sym (ap parse s ∙ refused_on r b n v)) (gone_wrong (refused_there u v b s r n))
    go (read_through {x = x} r) = through r (end_of x)

-- a beginning of a beginning is one
begins_less : (t : List ℕ) (n : ℕ) → Begins t → Begins (take n t)
begins_less t n b =
    let w = b.0 in
    (drop n t ++ w, subst Form (sym (sym (append_assoc (take n t) (drop n t) w) ∙ ap (λ (l : List ℕ). l ++ w) (take_drop n t))) b.1)
  where
    take_drop : (n : ℕ) (l : List ℕ) → take n l ++ drop n l ≡ l
    take_drop zero l = refl
    take_drop (suc n) [] = refl
    take_drop (suc n) (x ∷ l) = ap (λ (r : List ℕ). x ∷ r) (take_drop n l)

form_begins : {t : List ℕ} → Form t → Begins t
form_begins {t} f = ([], subst Form (sym (append-nil t)) f)

-- a place at which a text goes wrong is past every beginning that can be gone on with
wrong_past : {t : List ℕ} {p : ℕ} → Wrong t p → (n : ℕ) → n ≤ length t → Begins (take n t) → n ≤ p
wrong_past {t} (no_such_byte {p = p} l a f) n q b =
    ⊎_elim (λ i. absurd (f (subst Begins (take_less (suc p) n t i) (begins_less (take n t) (suc p) b)))) (λ g. let k : p < n → ⊥ = g in omega arith) (answer (lt_test p n))
  where
    take_less : (m n : ℕ) (l : List ℕ) → m ≤ n → take m (take n l) ≡ take m l
    take_less zero n l q = refl
    take_less (suc m) zero l q = absurd (omega arith)
    take_less (suc m) (suc n) [] q = refl
    take_less (suc m) (suc n) (x ∷ l) q = ap (λ (r : List ℕ). x ∷ r) (take_less m n l (omega arith))
wrong_past (stops_short b f) n q c = q

-- and is itself the end of one
wrong_after : {t : List ℕ} {p : ℕ} → Wrong t p → (p ≤ length t) × Begins (take p t)
wrong_after (no_such_byte l b f) = (omega arith, b)
wrong_after {t} (stops_short b f) = (omega arith, begins_less t (length t) b)

pub wrong_once : {t : List ℕ} {p q : ℕ} → Wrong t p → Wrong t q → p ≡ q
wrong_once {p = p} {q = q} w v =
    let a = wrong_after w in
    let b = wrong_after v in
    let l = wrong_past v p a.0 a.1 in
    let m = wrong_past w q b.0 b.1 in omega arith

pub wrong_not_form : {t : List ℕ} {p : ℕ} → Wrong t p → Form t → ⊥
wrong_not_form {t} (no_such_byte {p = p} l b f) i = f (begins_less t (suc p) (form_begins i))
wrong_not_form (stops_short b f) i = f i

read_says : {t : List ℕ} {h : History} {r : Parsed} → Read t r → r ≡ says h → Says t h
read_says {t} {h} (said {h = k} s) e = subst (Says t) (let q : k ≡ h = cc in q) s
read_says (gone_wrong w) e = absurd (let z : ◌≡◌ {A = ℕ} 0 1 = cc in omega arith)

read_wrong : {t : List ℕ} {p : ℕ} {r : Parsed} → Read t r → r ≡ wrong p → Wrong t p
read_wrong (said s) e = absurd (let z : ◌≡◌ {A = ℕ} 0 1 = cc in omega arith)
read_wrong {t} {p} (gone_wrong {p = q} w) e = subst (Wrong t) (let i : q ≡ p = cc in i) w

pub says_exactly : (t : List ℕ) (h : History) → (parse t ≡ says h) ↔ Says t h
says_exactly t h = (read_says (parse_right t), parse_says)

pub wrong_exactly : (t : List ℕ) (p : ℕ) → (parse t ≡ wrong p) ↔ Wrong t p
wrong_exactly t p = (read_wrong (parse_right t), λ w. go (parse t) (parse_right t) w)
  where
    go : (r : Parsed) → Read t r → Wrong t p → r ≡ wrong p
    go (says h) (said s) w = absurd (wrong_not_form w (h, s))
    go (wrong q) (gone_wrong v) w = ap wrong (wrong_once v w)

-- the text of a history tells it
pub says_once : {t : List ℕ} {h k : History} → Says t h → Says t k → h ≡ k
says_once {h = h} {k = k} s r = let p = parse_says s in let q = parse_says r in let e : h ≡ k = cc in e

-- a text is of the form or goes wrong
pub form_or_wrong : (t : List ℕ) → Form t ⊎ ((p : ℕ) × Wrong t p)
form_or_wrong t = go (parse t) (parse_right t)
  where
    go : (r : Parsed) → Read t r → Form t ⊎ ((p : ℕ) × Wrong t p)
    go (says h) (said s) = inl (h, s)
    go (wrong p) (gone_wrong w) = inr (p, w)
