-- A run of requests by any profile and the lines that it writes, turn by turn; and the first profile's.
-- Assumes nothing.
use mathlib.Core.Path.{◌≡◌, refl, sym, ap, ap₂, ◌∙◌}
use mathlib.Core.Bool.{Bool, true, false, cond, ◌&&◌, and-false}
use mathlib.Core.List.{List, [], ◌∷◌, ◌++◌, append_assoc, append-nil}
use Prim.Native.Nat.{ℕ, zero, suc, ◌+◌, ◌*◌, ◌/◌, ◌≤◌, ◌<◌}
use native.Mathlib.Nat.{add-zero, zero-add, add_assoc}
use native.Mathlib.Omega.{arith}
use mir.Val.{bool_byte}
use lib.Dec.{ltb}
use lib.ListN.{length, get_or, take, drop, length-drop, take-append-drop}
use lib.Seq.{length-take-le}
use borrow.Author.Tests.{lt-ltb, le-ltb, le-leb, lt-leb}
use Rattle.std.specs.Prelude.{map, Option, Some, None, option_map}
use Rattle.std.specs.Simd.{first_chunks}
use Rattle.text.specs.Puts.{Puts, agree}
use Rattle.graph.specs.Lists.{only}
use Rattle.history.specs.Formats.{request_of, records}
use Rattle.history_laws.specs.RecordLaws.{no_record, first_record}
use Rattle.history.specs.Replies.{Request, Reply}
use Rattle.held.specs.Held.{Held, answer_to, after, answers, after_all}
use Rattle.lines.specs.Lines.{line, lines, lines_of}
use Rattle.lines.specs.Writes.{most_place, roomy, Leaves, Writes}
use Rattle.lines.specs.Runs.{replies_by, state_by, WritesBy}
use Rattle.lines.specs.declared.Written.{Written}

-- ---- records as chunks of eight bytes

in_chunks : (q : ℕ) (b : List ℕ) → length b / 8 ≡ q → records b ≡ map request_of (first_chunks 8 q b)
in_chunks zero b e = no_record b (omega arith)
in_chunks (suc q) b e =
    first_record b (omega arith) ∙ ap (λ (l : List Request). request_of (take 8 b) ∷ l) (in_chunks q (drop 8 b) (simp length-drop (omega arith)))

pub record_chunks : (b : List ℕ) → records b ≡ map request_of (first_chunks 8 (length b / 8) b)
record_chunks b = in_chunks (length b / 8) b refl

-- the chunk at a place is what is left from there on, with what is left past it
chunk_there : (xs : List (List ℕ)) (i : ℕ) (d : List ℕ) → i < length xs → drop i (map request_of xs) ≡ request_of (get_or xs i d) ∷ drop (i + 1) (map request_of xs)
chunk_there [] i d h = absurd (omega arith)
chunk_there (x ∷ xs) zero d h = refl
chunk_there (x ∷ xs) (suc i) d h =
    let k : suc (i + 1) ≡ suc i + 1 = omega arith in
    chunk_there xs i d (omega arith) ∙ ap (λ (n : ℕ). request_of (get_or xs i d) ∷ drop n (request_of x ∷ map request_of xs)) k

chunk_none : (xs : List (List ℕ)) (i : ℕ) → length xs ≤ i → drop i (map request_of xs) ≡ []
chunk_none [] zero h = refl
chunk_none [] (suc i) h = refl
chunk_none (x ∷ xs) zero h = absurd (omega arith)
chunk_none (x ∷ xs) (suc i) h = chunk_none xs i (omega arith)

-- ---- where there is no room

pub is_roomy : (p : ℕ) (input out : List ℕ) → p < most_place → length input / 8 ≤ length out / 44 → roomy p input out ≡ true
unfolding roomy
is_roomy p input out h k = rw (lt-ltb p most_place h, le-leb (length input / 8) (length out / 44) k)

pub no_place : (p : ℕ) (input out : List ℕ) → most_place ≤ p → roomy p input out ≡ false
unfolding roomy
no_place p input out h = rw (le-ltb p most_place h)

pub no_room : (p : ℕ) (input out : List ℕ) → length out / 44 < length input / 8 → roomy p input out ≡ false
unfolding roomy
no_room p input out h =
    ap (λ (b : Bool). ltb p most_place && b) (lt-leb (length input / 8) (length out / 44) h) ∙ and-false (ltb p most_place)

pub leaves_none : {W : Type 0} {room : Bool} {w : W} {bytes out : List ℕ} {h g : Held} → room ≡ false → Leaves room w bytes out h g None h out
leaves_none f = record { answered = rw f; content = rw f; left = rw f }

-- ---- turns

pub one_at_most : (b : Bool) → bool_byte b ≤ 1
one_at_most true = omega arith
one_at_most false = omega arith

count_cons : (counted : Reply → Bool) (a : Reply) (l : List Reply) → length (only counted (a ∷ l)) ≡ bool_byte (counted a) + length (only counted l)
count_cons counted a l = go (counted a)
  where
    go : (b : Bool) → length (cond b (a ∷ only counted l) (only counted l)) ≡ bool_byte b + length (only counted l)
    go true = omega arith
    go false = sym (zero-add (length (only counted l)))

-- so many requests are answered of those in the chunks: the lines written, with those of the requests that are left from the state as it is, are those of all; and so for the answers counted
pub record Run (answer : Held → Request → Reply) (next : Held → Request → Held) (counted : Reply → Bool) (p : ℕ) (h₀ : Held) (xs : List (List ℕ)) (out₀ : List ℕ) (h : Held) (out : List ℕ)
    (i at n : ℕ) : Type 0 where
  pub put : take at out ++ lines (p + i) (replies_by answer next h (drop i (map request_of xs))) ≡ lines p (replies_by answer next h₀ (map request_of xs))
  pub back : drop at out ≡ drop at out₀
  pub same : length out ≡ length out₀
  pub left : state_by next h (drop i (map request_of xs)) ≡ state_by next h₀ (map request_of xs)
  pub counts : n + length (only counted (replies_by answer next h (drop i (map request_of xs)))) ≡ length (only counted (replies_by answer next h₀ (map request_of xs)))
  pub room : at ≤ i * 44
  pub few : n ≤ i

module _ {answer : Held → Request → Reply} {next : Held → Request → Held} {counted : Reply → Bool} {p : ℕ} {h₀ : Held} {xs : List (List ℕ)} {out₀ : List ℕ} where
  pub run_first : Run answer next counted p h₀ xs out₀ h₀ out₀ 0 0 0
  run_first =
      record {
        put = ap (λ (k : ℕ). lines k (replies_by answer next h₀ (map request_of xs))) (add-zero p);
        back = refl;
        same = refl;
        left = refl;
        counts = zero-add (length (only counted (replies_by answer next h₀ (map request_of xs))));
        room = omega arith;
        few = omega arith;
      }

  pub run_next : {h h' : Held} {out out' : List ℕ} {i at at' n m : ℕ} {a : Reply} (d : List ℕ) → Run answer next counted p h₀ xs out₀ h out i at n → i < length xs
      → a ≡ answer h (request_of (get_or xs i d)) → h' ≡ next h (request_of (get_or xs i d)) → m ≡ bool_byte (counted a)
      → Puts at (line (p + i) a) out out' at' → at' ≤ at + 44
      → Run answer next counted p h₀ xs out₀ h' out' (i + 1) at' (n + m)
  run_next {h} {h'} {out} {out'} {i} {at} {at'} {n} {m} {a} d r more ea eh em w l =
      let q = request_of (get_or xs i d) in
      let rest = drop (i + 1) (map request_of xs) in
      let e : drop i (map request_of xs) ≡ q ∷ rest = chunk_there xs i d more in
      let k : p + (i + 1) ≡ p + i + 1 = omega arith in
      let small = one_at_most (counted a) in
      record {
        put =
            ap (λ (x : List ℕ). x ++ lines (p + (i + 1)) (replies_by answer next h' rest)) w.front
            ∙ append_assoc (take at out) (line (p + i) a) (lines (p + (i + 1)) (replies_by answer next h' rest))
            ∙ ap (λ (b : Reply). take at out ++ (line (p + i) b ++ lines (p + (i + 1)) (replies_by answer next h' rest))) ea
            ∙ ap (λ (g : Held). take at out ++ (line (p + i) (answer h q) ++ lines (p + (i + 1)) (replies_by answer next g rest))) eh
            ∙ ap (λ (j : ℕ). take at out ++ (line (p + i) (answer h q) ++ lines j (replies_by answer next (next h q) rest))) k
            ∙ ap (λ (rs : List Request). take at out ++ lines (p + i) (replies_by answer next h rs)) (sym e)
            ∙ r.put;
        back = w.back ∙ agree at at' out out₀ (omega (arith, w.past)) r.back;
        same = w.same ∙ r.same;
        left = ap (λ (g : Held). state_by next g rest) eh ∙ ap (λ (rs : List Request). state_by next h rs) (sym e) ∙ r.left;
        counts =
            ap (λ (g : Held). n + m + length (only counted (replies_by answer next g rest))) eh
            ∙ ap (λ (x : ℕ). n + x + length (only counted (replies_by answer next (next h q) rest))) (em ∙ ap (λ (b : Reply). bool_byte (counted b)) ea)
            ∙ add_assoc n (bool_byte (counted (answer h q))) (length (only counted (replies_by answer next (next h q) rest)))
            ∙ ap (λ (x : ℕ). n + x) (sym (count_cons counted (answer h q) (replies_by answer next (next h q) rest)))
            ∙ ap (λ (rs : List Request). n + length (only counted (replies_by answer next h rs))) (sym e)
            ∙ r.counts;
        room = omega (arith, r.room);
        few = omega (arith, r.few, em, small);
      }

  -- ---- the end

  module _ (input : List ℕ) (front : xs ≡ first_chunks 8 (length input / 8) input) (many : length xs ≡ length input / 8) where
    pub writes_all : {h : Held} {out : List ℕ} {i at n : ℕ} → Run answer next counted p h₀ xs out₀ h out i at n → length xs ≤ i → i ≤ length xs → p < most_place
        → length xs ≤ length out₀ / 44 → WritesBy answer next counted p h₀ input out₀ (Some (record { bytes = at; counted = n })) h out
    writes_all {h} {out} {i} {at} {n} r done most place fit =
        let t = is_roomy p input out₀ place (omega arith) in
        let all : map request_of xs ≡ records input = ap (map request_of) front ∙ sym (record_chunks input) in
        let none : drop i (map request_of xs) ≡ [] = chunk_none xs i done in
        let bytes : take at out ≡ lines p (replies_by answer next h₀ (records input)) =
        sym (append-nil (take at out))
        ∙ ap (λ (rs : List Request). take at out ++ lines (p + i) (replies_by answer next h rs)) (sym none)
        ∙ r.put
        ∙ ap (λ (rs : List Request). lines p (replies_by answer next h₀ rs)) all in
        let size : at ≡ length (lines p (replies_by answer next h₀ (records input))) = sym (length-take-le at out (omega (arith, r.room, r.same))) ∙ ap length bytes in
        let off : n ≡ length (only counted (replies_by answer next h₀ (records input))) =
        sym (add-zero n)
        ∙ ap (λ (rs : List Request). n + length (only counted (replies_by answer next h rs))) (sym none)
        ∙ r.counts
        ∙ ap (λ (rs : List Request). length (only counted (replies_by answer next h₀ rs))) all in
        record {
          answered = rw t (λ j. Some (record { bytes = size j; counted = off j }));
          content =
              rw t
              (sym (take-append-drop at out)
              ∙ ap₂ (λ (x y : List ℕ). x ++ y) bytes r.back
              ∙ ap (λ (k : ℕ). lines p (replies_by answer next h₀ (records input)) ++ drop k out₀) size);
          left = rw t (ap (λ (rs : List Request). state_by next h rs) (sym none) ∙ r.left ∙ ap (λ (rs : List Request). state_by next h₀ rs) all);
        }

-- ---- the first profile

first_replies : (h : Held) (rs : List Request) → replies_by answer_to after h rs ≡ answers h rs
first_replies h [] = refl
first_replies h (r ∷ rs) = ap (λ (l : List Reply). answer_to h r ∷ l) (first_replies (after h r) rs)

first_state : (h : Held) (rs : List Request) → state_by after h rs ≡ after_all h rs
first_state h [] = refl
first_state h (r ∷ rs) = first_state (after h r) rs

-- what a run leaves that comes to v, with the same told in another way
pub leaves_alike : {V : Type 0} {room : Bool} {v w : V} {bytes bytes' out out' : List ℕ} {h g g' h' : Held} {r : Option V} → Leaves room v bytes out h g r h' out'
    → v ≡ w → bytes ≡ bytes' → g ≡ g' → Leaves room w bytes' out h g' r h' out'
leaves_alike {V} {room} {out = out} {h = h} a ev eb eg =
    record {
      answered = a.answered ∙ ap (λ (x : V). cond room (Some x) None) ev;
      content = a.content ∙ ap (λ (x : List ℕ). cond room (x ++ drop (length x) out) out) eb;
      left = a.left ∙ ap (λ (x : Held). cond room x h) eg;
    }

-- and told by a part of v
leaves_part : {V W : Type 0} {room : Bool} {v : V} {bytes out out' : List ℕ} {h g h' : Held} {r : Option V} (f : V → W) → Leaves room v bytes out h g r h' out'
    → Leaves room (f v) bytes out h g (option_map f r) h' out'
leaves_part {V} {W} {room} {v} f a = record { answered = ap (option_map f) a.answered ∙ go room; content = a.content; left = a.left }
  where
    go : (b : Bool) → option_map f (cond b (Some v) None) ≡ cond b (Some (f v)) None
    go true = refl
    go false = refl

pub first_leaves : (p : ℕ) (input : List ℕ) {h h' : Held} {out out' : List ℕ} {r : Option Written} → WritesBy answer_to after (λ _. false) p h input out r h' out'
    → Writes p h input out (option_map (λ (w : Written). w.bytes) r) h' out'
unfolding lines_of
first_leaves p input {h} a =
    let e = ap (lines p) (first_replies h (records input)) in
    leaves_alike (leaves_part (λ (w : Written). w.bytes) a) (ap length e) e (first_state h (records input))
