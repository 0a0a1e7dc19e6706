-- A record as `record_at` reads it, byte by byte, is the one that stands at the place; and a reader that has read one is nearer to the end.
-- Assumes nothing.
use mathlib.Core.Path.{◌≡◌, sym, ap₂, ◌∙◌}
use mathlib.Core.Logic.{⊎_elim}
use mathlib.Core.Option.{Option, some, none-ne-some}
use mathlib.Core.List.{List}
use Prim.Native.Nat.{ℕ, ◌+◌, ◌-◌, ◌*◌, ◌/◌, ◌<◌}
use native.Mathlib.Nat.{add-zero}
use native.Mathlib.Omega.{arith}
use lib.ListN.{length, get_or, get_elem?}
use lib.Seq.{get_or-drop}
use Rattle.std.specs.Prelude.{⊤}
use Rattle.std.specs.declared.option.Option as rust
use Rattle.std.specs.declared.option.Option.TheVariants.{Some, None}
use Rattle.std.specs.Iterator.{at_most, MakesProgress}
use Rattle.graph.specs.Decide.{lt_test, answer}
use Rattle.history.specs.Formats.{records, request_of}
use Rattle.history.specs.Replies.{Request}
use Rattle.history_laws.specs.RecordLaws.{record_there, record_none}
use Rattle.reader.specs.Next.{told}
use Rattle.reader.specs.declared.Record.{Record}
use Rattle.reader.specs.declared.Reader.{Reader}

pub record_read : (bytes : List ℕ) (n : ℕ) {cell job : ℕ} → n < length bytes / 8
    → cell ≡ get_or bytes (n * 8 + 2) 0 + get_or bytes (n * 8 + 3) 0 * 256
    → job ≡ get_or bytes (n * 8 + 4) 0 + get_or bytes (n * 8 + 5) 0 * 256 + get_or bytes (n * 8 + 6) 0 * 65536 + get_or bytes (n * 8 + 7) 0 * 16777216
    → some (record { kind = get_or bytes (n * 8) 0; byte1 = get_or bytes (n * 8 + 1) 0; cell = cell; job = job }) ≡ get_elem? (records bytes) n
unfolding request_of
record_read bytes n {cell} {job} h ec ej =
    ap₂ {C = Option Request} (λ (x y : ℕ). some (record { kind = get_or bytes (n * 8) 0; byte1 = get_or bytes (n * 8 + 1) 0; cell = x; job = y })) ec ej
    ∙ sym (simp (get_or-drop, add-zero) at (record_there bytes n h))

-- what is read stands inside
pub read_inside : (bytes : List ℕ) (n : ℕ) {q : Request} → some q ≡ get_elem? (records bytes) n → n < length bytes / 8
read_inside bytes n {q} e =
    ⊎_elim (λ l. l) (λ f. absurd (none-ne-some q (sym (record_none bytes n (let g : (n < length bytes / 8) → ⊥ = f in omega arith)) ∙ sym e))) (answer (lt_test n (length bytes / 8)))

pub nearer_end : (r : Reader) (x : rust.Option Record) {next : ℕ} → told x ≡ get_elem? (records r.log.now) r.place → (r.place < length r.log.now / 8 → r.place < next)
    → MakesProgress (λ (s : Reader). ⊤) (λ (s : Reader). at_most (length s.log.now / 8 - s.place)) r x (record { log = r.log; place = next })
nearer_end r (Some y) e up =
    let l = read_inside r.log.now r.place e in
    let further = up l in
    record { on = λ f. (tt, tt, omega arith); keeps = tt; rests = λ f. tt }
nearer_end r None e up = record { on = λ f. tt; keeps = tt; rests = λ f. tt }
