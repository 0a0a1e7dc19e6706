-- The reading of a log, record by record: so many records are read as the events h, and the rest is still to be read after them.
-- Assumes nothing.
use mathlib.Core.Path.{◌≡◌, refl, sym, ap, ap₂, ◌∙◌, subst, subst₂}
use mathlib.Core.Logic.{◌⊎◌, ⊎_elim}
use mathlib.Core.Bool.{Bool, cond}
use mathlib.Core.Option.{none, some}
use mathlib.Core.List.{List, [], ◌++◌}
use Prim.Native.Nat.{ℕ, zero, suc, ◌+◌, ◌/◌, ◌%◌, ◌≤◌, ◌<◌}
use native.Mathlib.Numerals.{add-one}
use native.Mathlib.Omega.{arith}
use borrow.Author.Tests.{eq-eqb, ne_eqb, lt-ltb}
use lib.Dec.{eqb, ltb}
use lib.ListN.{length, drop, get_elem?}
use Rattle.std.specs.Prelude.{Option, Result, Ok, Err}
use Rattle.std.specs.Iterator.Adapters.{enumerate_source, enumerate_count}
use Rattle.std.specs.declared.iter.Enumerate.{Enumerate}
use Rattle.graph.specs.Decide.{or_test, not_test, eq_test, lt_test, test_true, test_false}
use Rattle.history.specs.Events.{History, opened}
use Rattle.history.specs.Formats.{records}
use Rattle.history_laws.specs.RecordLaws.{drop_record, drop_none}
use Rattle.history.specs.Replies.{Request, want, event_of}
use Rattle.verdicts.specs.Logs.{record_bytes, most_bytes, fault_of, Reading, faulty, events, read_from, read_log}
use Rattle.tallies.specs.Jobs.{Padded, Taken}
use Rattle.tallies.specs.PadLaws.{padded_zeros}
use Rattle.reader.specs.Next.{told, moved_on}
use Rattle.reader.specs.declared.Record.{Record}
use Rattle.reader.specs.declared.Reader.{Reader}
use Rattle.reader.proofs.Laws.{read_inside}
use Rattle.logs.specs.Faults.{code_of, place_of}
use Rattle.logs.specs.Logs.{request, TookIn, BlankIn}
use Rattle.logs.specs.declared.Fault.{Fault}
use Rattle.logs.specs.declared.Fault.TheVariants.{Length, Form, Turn, TooMany}

-- ---- the length

pub bad_length : (bytes : List ℕ) → (length bytes % 8 ≡ 0 → ⊥) ⊎ (32768 < length bytes) → read_log bytes ≡ faulty 11 0
unfolding read_log
bad_length bytes f =
    ap (λ (b : Bool). cond b (faulty 11 0) (read_from [] zero (records bytes)))
    (test_true (or_test (not_test (eq_test (length bytes % record_bytes) 0)) (lt_test most_bytes (length bytes))) f)

-- ---- a record, by its kind

pub took_as : (h : History) (n c j : ℕ) (result : Result (Unit {0}) Fault) (numbers states told : List ℕ) (count : ℕ) {k b k₀ : ℕ} → k ≡ k₀ → b ≡ 0
    → TookIn h n (request k₀ 0 c j) result numbers states told count → TookIn h n (request k b c j) result numbers states told count
took_as h n c j result numbers states told count e z = subst₂ (λ (x y : ℕ). TookIn h n (request x y c j) result numbers states told count) (sym e) (sym z)

-- ---- the loop

-- the events so far, and what is left
pub record Along (bytes : List ℕ) (i : ℕ) (numbers states told : List ℕ) (count : ℕ) : Type 0 where
  pub so_far : History
  pub taken : Taken so_far i numbers states told count
  pub left : read_log bytes ≡ read_from so_far i (drop i (records bytes))

pub along_start : (bytes numbers states told : List ℕ) (count : ℕ) → length bytes % 8 ≡ 0 → length bytes ≤ most_bytes → BlankIn numbers states told count → Along bytes 0 numbers states told count
unfolding read_log opened
along_start bytes numbers states told count whole short blank =
    let pn : Padded numbers 512 0 = subst (λ (l : List ℕ). Padded l 512 0) (sym blank.0) (padded_zeros 512) in
    let ps : Padded states 512 0 = subst (λ (l : List ℕ). Padded l 512 0) (sym blank.1) (padded_zeros 512) in
    let pt : Padded told 4096 0 = subst (λ (l : List ℕ). Padded l 4096 0) (sym blank.2) (padded_zeros 4096) in
    let none_yet : count ≡ 0 = blank.3 in
    record {
      so_far = [];
      taken =
          record {
            jobs =
                record {
                  turns = tt;
                  many = none_yet;
                  few = omega arith;
                  named = λ i q. absurd (omega arith);
                  stated = λ i q. absurd (omega arith);
                  numbers_padded = subst (Padded numbers 512) (sym none_yet) pn;
                  states_padded = subst (Padded states 512) (sym none_yet) ps;
                };
            at = refl;
            steps_told = tt;
            rest = pt.past;
            wide = pt.wide;
          };
      left =
          ap (λ (b : Bool). cond b (faulty 11 0) (read_from [] zero (records bytes)))
          (test_false (or_test (not_test (eq_test (length bytes % record_bytes) 0)) (lt_test most_bytes (length bytes)))
          (⊎_elim (λ f. f whole) (λ q. let x : most_bytes < length bytes = q in omega arith)));
    }

-- a record: its fault, or one event more
module _ {bytes : List ℕ} {i : ℕ} {numbers states told : List ℕ} {count : ℕ} (a : Along bytes i numbers states told count) {r : Request} (there : some r ≡ get_elem? (records bytes) i) where
  rest : Reading
  rest = read_from (a.so_far ++ event_of r.job (want r.kind) r.job r.cell) (suc i) (drop (suc i) (records bytes))

  by_test : read_log bytes ≡ cond (eqb (fault_of a.so_far r) 0) rest (faulty (fault_of a.so_far r) i)
  unfolding rest
  by_test = a.left ∙ ap (read_from a.so_far i) (drop_record (records bytes) i (sym there))

  faulty_here : {code : ℕ} → code ≡ fault_of a.so_far r → (code ≡ 0 → ⊥) → read_log bytes ≡ faulty code i
  faulty_here {code} e f =
      by_test
      ∙ ap (λ (k : ℕ). cond (eqb k 0) rest (faulty k i)) (sym e)
      ∙ ap (λ (b : Bool). cond b rest (faulty code i)) (ne_eqb code 0 f)

  pub along_fault : (numbers' states' told' : List ℕ) (count' : ℕ) (e : Fault) → TookIn a.so_far i r (Err e) numbers' states' told' count' → read_log bytes ≡ faulty (code_of e) (place_of e)
  along_fault numbers' states' told' count' e t = faulty_here t.0.fault (no_grant e) ∙ ap (faulty (code_of e)) (sym t.1)
    where
      no_grant : (e : Fault) → code_of e ≡ 0 → ⊥
      no_grant Length q = omega arith
      no_grant (Form p) q = omega arith
      no_grant (Turn p) q = omega arith
      no_grant (TooMany p) q = omega arith

  pub along_next : (numbers' states' told' : List ℕ) (count' : ℕ) → TookIn a.so_far i r (Ok tt) numbers' states' told' count' → Along bytes (i + 1) numbers' states' told' count'
  unfolding rest
  along_next numbers' states' told' count' t =
      subst (λ (k : ℕ). Along bytes k numbers' states' told' count') (sym (add-one i))
      (record {
        so_far = a.so_far ++ event_of r.job (want r.kind) r.job r.cell;
        taken = t.next refl;
        left = by_test ∙ ap (λ (b : Bool). cond b rest (faulty (fault_of a.so_far r) i)) (eq-eqb (fault_of a.so_far r) 0 (sym t.fault));
      })

-- no record is left
module _ {bytes : List ℕ} {i : ℕ} {numbers states told : List ℕ} {count : ℕ} (a : Along bytes i numbers states told count) where
  pub along_end : none ≡ get_elem? (records bytes) i → (h : History) × (read_log bytes ≡ events h) × Taken h (length h) numbers states told count
  along_end e = (
    a.so_far,
    a.left ∙ ap (read_from a.so_far i) (drop_none (records bytes) i (sym e)),
    subst (λ (k : ℕ). Taken a.so_far k numbers states told count) a.taken.at a.taken,
  )

-- ---- the reader

-- it reads the log, and its place is the count of what it has read
pub record Standing (bytes : List ℕ) (it : Enumerate Reader) : Type 0 where
  pub of_log : (enumerate_source it).log.now ≡ bytes
  pub at : (enumerate_source it).place ≡ enumerate_count it

-- what it reads stands there, and then it stands at the next
module _ {bytes : List ℕ} {it : Enumerate Reader} (s : Standing bytes it) where
  pub read_there : (x : Option Record) → told x ≡ get_elem? (records (enumerate_source it).log.now) (enumerate_source it).place → told x ≡ get_elem? (records bytes) (enumerate_count it)
  read_there x e = e ∙ ap₂ (λ (b : List ℕ) (n : ℕ). get_elem? (records b) n) s.of_log s.at

  pub stands_next : {next : Enumerate Reader} (r : Request) → some r ≡ get_elem? (records bytes) (enumerate_count it) → enumerate_source next ≡ moved_on (enumerate_source it)
      → enumerate_count next ≡ enumerate_count it + 1 → Standing bytes next
  stands_next r e m n =
      let l : enumerate_count it < length bytes / 8 = read_inside bytes (enumerate_count it) e in
      record {
        of_log = ap (λ (r : Reader). r.log.now) m ∙ s.of_log;
        at =
            ap (λ (r : Reader). r.place) m
            ∙ ap₂ (λ (b : List ℕ) (n : ℕ). cond (ltb n (length b / 8)) (n + 1) n) s.of_log s.at
            ∙ ap (λ (b : Bool). cond b (enumerate_count it + 1) (enumerate_count it)) (lt-ltb _ _ l)
            ∙ sym n;
      }
