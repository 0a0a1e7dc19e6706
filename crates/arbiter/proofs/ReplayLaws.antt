-- What the proofs of the arbiter need beyond the contracts of the functions that it calls.
--
-- First the state with no job (`fresh_law`), a list after one run of stores (`Stored`), and what is told of a replay. Then the loop (`Replaying`): the bytes of
-- all replies are those written so far and those of the answers that the state will give to the records that are left, so that with none left all are
-- written. Last one request in one number, for `reedtangle_step` and the calls of the second profile.
-- Assumes nothing.
use mathlib.Core.Path.{◌≡◌, refl, sym, ap, ap₂, ◌∙◌}
use mathlib.Core.List.{List, [], ◌∷◌, ◌++◌, append-nil, append_assoc}
use Prim.Native.Nat.{ℕ, zero, suc, ◌+◌, ◌*◌, ◌/◌, ◌≤◌, ◌<◌}
use native.Mathlib.Omega.{arith}
use lib.ListN.{length, replicate, set, take, drop, length-append, length-drop, take-append-drop}
use lib.Seq.{length-take-le, take_at, drop_at, drop-drop, sets-eq}
use borrow.Author.Tests.{lt-ltb, le-ltb}
use Rattle.marks.specs.Marks.{tab}
use Rattle.marks.specs.MarkLaws.{tab_suc}
use Rattle.history.specs.Formats.{bytes_of, request_of, records, answer_bytes}
use Rattle.history_laws.specs.RecordLaws.{first_record, no_record}
use Rattle.history.specs.Replies.{Reply, Request, replies}
use Rattle.held.specs.Held.{Held, fresh_held, answer_to, after, answers}
use Rattle.held_laws.specs.HeldExact.{held_exact}
use Rattle.late.specs.Late.{Ask}
use Rattle.late.specs.LateHeld.{late_answer, late_next}
use Rattle.slots.specs.Lent.{lent, numbered, packed, Steps, Lates}
use Rattle.slots.specs.declared.JobNumber.{JobNumber}
use Rattle.slots.specs.declared.Refusal.{Refusal}
use Rattle.slots.proofs.RequestLaws.{lent_same}
use Rattle.std.specs.Prelude.{Result, Ok, Err}
use Rattle.arbiter.specs.Replay.{replayed, told}
use Rattle.arbiter.specs.declared.NoRoom.{NoRoom}

-- ---- no job

tab_const : (n x : ℕ) → replicate n x ≡ tab n (λ i. x)
tab_const zero x = refl
tab_const (suc n) x = ap (λ (l : List ℕ). x ∷ l) (tab_const n x) ∙ sym (tab_suc n (λ i. x))

pub fresh_law : (first : ℕ) → lent first 4294967295 (replicate 32 0) (replicate 32 0) (replicate 512 0) (replicate 3 0) ≡ fresh_held first
unfolding fresh_held
fresh_law first = lent_same refl refl (tab_const 32 0) (tab_const 32 0) (tab_const 512 0) (tab_const 3 0)

-- ---- a run of stores

pub four_in : (l : List ℕ) (at a b c d : ℕ) → at + 4 ≤ length l
    → set (set (set (set l at a) (at + 1) b) (at + 2) c) (at + 3) d ≡ take at l ++ (a ∷ b ∷ c ∷ d ∷ []) ++ drop (at + 4) l
four_in l at a b c d h = (λ i. set (set (set (set l at a) (one i) b) (two i) c) (three i) d) ∙ sets-eq (a ∷ b ∷ c ∷ d ∷ []) l at h
  where
    one : at + 1 ≡ suc at
    one = omega arith

    two : at + 2 ≡ suc (suc at)
    two = omega arith

    three : at + 3 ≡ suc (suc (suc at))
    three = omega arith

-- l' is l with the n numbers of v from a place on
record Stored (l : List ℕ) (at : ℕ) (v : List ℕ) (n : ℕ) (l' : List ℕ) : Type 0 where
  head : take (at + n) l' ≡ take at l ++ v
  rest : drop (at + n) l' ≡ drop (at + n) l
  long : length l' ≡ length l

stored : (l : List ℕ) (at : ℕ) (v : List ℕ) (n : ℕ) {l' : List ℕ} → length v ≡ n → at + n ≤ length l
    → l' ≡ take at l ++ v ++ drop (at + n) l → Stored l at v n l'
stored l at v n ev h e =
    record {
      head = ap (take (at + n)) e ∙ take_at (take at l ++ v) (drop (at + n) l) (at + n) front;
      rest = ap (drop (at + n)) e ∙ drop_at (take at l ++ v) (drop (at + n) l) (at + n) front;
      long = ap length e ∙ length-append (take at l ++ v) (drop (at + n) l) ∙ whole;
    }
  where
    front : length (take at l ++ v) ≡ at + n
    front = let t : length (take at l) ≡ at = length-take-le at l (omega arith) in omega (arith, length-append (take at l) v, t, ev)

    whole : length (take at l ++ v) + length (drop (at + n) l) ≡ length l
    whole = omega (arith, front, length-drop (at + n) l, h)

-- ---- where the room is short, and where it is not

module _ (first : ℕ) (requests entry : List ℕ) where
  pub replay_short : {e : NoRoom} {n : ℕ} → n ≡ length requests / 8 → length entry / 8 < n → told (Err e) entry ≡ replayed first requests entry
  unfolding replayed
  replay_short en short = rw (lt-ltb (length entry) (8 * (length requests / 8)) (omega arith))

  replay_room : length requests / 8 ≤ length entry / 8
      → told (Ok (8 * (length requests / 8))) (answer_bytes (replies first (records requests)) ++ drop (8 * (length requests / 8)) entry) ≡ replayed first requests entry
  unfolding replayed
  replay_room room = rw (le-ltb (length entry) (8 * (length requests / 8)) (omega arith))

-- code and place with the bytes make the whole
pub told_whole : (r : Result ℕ NoRoom) {code place : ℕ} (bytes : List ℕ) → record { code = code; place = place; bytes = [] } ≡ told r []
    → record { code = code; place = place; bytes = bytes } ≡ told r bytes
told_whole (Ok n) bytes e = λ i. record { code = (e i).code; place = (e i).place; bytes = bytes }
told_whole (Err x) bytes e = λ i. record { code = (e i).code; place = (e i).place; bytes = bytes }

-- ---- the loop

-- i records are answered, and the state is h
pub record Replaying (first : ℕ) (requests entry : List ℕ) (i : ℕ) (h : Held) (bytes : List ℕ) : Type 0 where
  pub inside : i ≤ length requests / 8
  pub long : length bytes ≡ length entry
  pub past : drop (i * 8) bytes ≡ drop (i * 8) entry
  pub written : answer_bytes (replies first (records requests)) ≡ take (i * 8) bytes ++ answer_bytes (answers h (records (drop (i * 8) requests)))

module _ {first : ℕ} {requests entry : List ℕ} where
  pub replay_start : {h : Held} → h ≡ fresh_held first → Replaying first requests entry 0 h entry
  replay_start e =
      record {
        inside = omega arith;
        long = refl;
        past = refl;
        written = ap answer_bytes (sym (ap (λ (h : Held). answers h (records requests)) e ∙ held_exact first (records requests)));
      }

  module _ {i : ℕ} {h : Held} {bytes : List ℕ} (f : Replaying first requests entry i h bytes) where
    -- there is room for one answer more
    pub replay_fits : length requests / 8 ≤ length entry / 8 → i < length requests / 8 → i * 8 + 8 ≤ length bytes
    replay_fits room more = omega (arith, f.long)

    pub replay_turn : (r : Result JobNumber Refusal) {b bytes₁ bytes₂ : List ℕ} {g : Held} {code job : ℕ} → length requests / 8 ≤ length entry / 8 → i < length requests / 8
        → b ≡ take 8 (drop (i * 8) requests) → numbered r ≡ answer_to h (request_of b) → g ≡ after h (request_of b)
        → code ≡ (numbered r).code → job ≡ (numbered r).job
        → bytes₁ ≡ take (i * 8) bytes ++ bytes_of 4 code ++ drop (i * 8 + 4) bytes
        → bytes₂ ≡ take (i * 8 + 4) bytes₁ ++ bytes_of 4 job ++ drop (i * 8 + 4 + 4) bytes₁
        → Replaying first requests entry (i + 1) g bytes₂
    replay_turn r {b} {bytes₁} {bytes₂} {g} {code} {job} room more eb answered moved_to ec ej e₁ e₂ =
        record {
          inside = omega arith;
          long = t₂.long ∙ t₁.long ∙ f.long;
          past = ap (λ (k : ℕ). drop k bytes₂) on ∙ t₂.rest ∙ after_four bytes₁ bytes t₁.rest ∙ after_four bytes entry first_four ∙ ap (λ (k : ℕ). drop k entry) (sym on);
          written = f.written ∙ ap (λ (l : List ℕ). take (i * 8) bytes ++ l) these ∙ regroup ∙ ap (λ (l : List ℕ). l ++ later) (sym heads);
        }
      where
        on : (i + 1) * 8 ≡ i * 8 + 4 + 4
        on = omega arith

        on_eight : i * 8 + 8 ≡ (i + 1) * 8
        on_eight = omega arith

        t₁ : Stored bytes (i * 8) (bytes_of 4 code) 4 bytes₁
        t₁ = stored bytes (i * 8) (bytes_of 4 code) 4 refl (omega (arith, f.long)) e₁

        t₂ : Stored bytes₁ (i * 8 + 4) (bytes_of 4 job) 4 bytes₂
        t₂ = stored bytes₁ (i * 8 + 4) (bytes_of 4 job) 4 refl (omega (arith, f.long, t₁.long)) e₂

        after_four : (x y : List ℕ) → drop (i * 8 + 4) x ≡ drop (i * 8 + 4) y → drop (i * 8 + 4 + 4) x ≡ drop (i * 8 + 4 + 4) y
        after_four x y e = sym (drop-drop 4 (i * 8 + 4) x) ∙ ap (drop 4) e ∙ drop-drop 4 (i * 8 + 4) y

        first_four : drop (i * 8 + 4) bytes ≡ drop (i * 8 + 4) entry
        first_four = sym (drop-drop 4 (i * 8) bytes) ∙ ap (drop 4) f.past ∙ drop-drop 4 (i * 8) entry

        -- what is left to be answered after this turn
        later : List ℕ
        later = answer_bytes (answers g (records (drop ((i + 1) * 8) requests)))

        left : records (drop (i * 8) requests) ≡ request_of b ∷ records (drop ((i + 1) * 8) requests)
        left =
            first_record (drop (i * 8) requests) (simp length-drop (omega arith))
            ∙ ap₂ (λ (x y : List ℕ). request_of x ∷ records y) (sym eb) (drop-drop 8 (i * 8) requests ∙ ap (λ (k : ℕ). drop k requests) on_eight)

        these : answer_bytes (answers h (records (drop (i * 8) requests))) ≡ bytes_of 4 code ++ bytes_of 4 job ++ later
        these =
            ap (λ (l : List Request). answer_bytes (answers h l)) left
            ∙ ap₂ (λ (a : Reply) (st : Held). bytes_of 4 a.code ++ bytes_of 4 a.job ++ answer_bytes (answers st (records (drop ((i + 1) * 8) requests))))
            (sym answered) (sym moved_to)
            ∙ ap₂ (λ (x y : ℕ). bytes_of 4 x ++ bytes_of 4 y ++ later) (sym ec) (sym ej)

        regroup : take (i * 8) bytes ++ (bytes_of 4 code ++ bytes_of 4 job ++ later) ≡ take (i * 8) bytes ++ bytes_of 4 code ++ bytes_of 4 job ++ later
        regroup = simp append_assoc

        heads : take ((i + 1) * 8) bytes₂ ≡ take (i * 8) bytes ++ bytes_of 4 code ++ bytes_of 4 job
        heads = ap (λ (k : ℕ). take k bytes₂) on ∙ t₂.head ∙ ap (λ (l : List ℕ). l ++ bytes_of 4 job) t₁.head

    pub replay_end : {n : ℕ} → n ≡ length requests / 8 → n ≤ i → n ≤ length entry / 8 → told (Ok (n * 8)) bytes ≡ replayed first requests entry
    replay_end {n} en all room = ap₂ (λ (k : ℕ) (l : List ℕ). told (Ok k) l) place (sym (take-append-drop (i * 8) bytes) ∙ both) ∙ replay_room first requests entry (omega arith)
      where
        place : n * 8 ≡ 8 * (length requests / 8)
        place = omega arith

        place_too : i * 8 ≡ 8 * (length requests / 8)
        place_too = omega (arith, f.inside)

        none : records (drop (i * 8) requests) ≡ []
        none = no_record (drop (i * 8) requests) (simp length-drop (omega arith))

        front : answer_bytes (replies first (records requests)) ≡ take (i * 8) bytes
        front = f.written ∙ ap (λ (l : List Request). take (i * 8) bytes ++ answer_bytes (answers h l)) none ∙ append-nil (take (i * 8) bytes)

        both : take (i * 8) bytes ++ drop (i * 8) bytes ≡ answer_bytes (replies first (records requests)) ++ drop (8 * (length requests / 8)) entry
        both = ap₂ (λ (x y : List ℕ). x ++ y) (sym front) (f.past ∙ ap (λ (k : ℕ). drop k entry) place_too)

-- ---- one request

-- what `reedtangle_step` says, from what `step_in_place` ensures
pub packs : {h g : Held} {q : Request} {r : Result JobNumber Refusal} {n : ℕ} → Steps h q r g → n ≡ packed (numbered r) → (n ≡ packed (answer_to h q)) × (g ≡ after h q)
packs s e = (e ∙ ap packed s.answered, s.left)

-- and what the calls of the second profile say
pub packs_late : {h g : Held} {a : Ask} {r : Result JobNumber Refusal} {n : ℕ} → Lates h a r g → n ≡ packed (numbered r) → (n ≡ packed (late_answer h a)) × (g ≡ late_next h a)
packs_late s e = (e ∙ ap packed s.answered, s.left)
