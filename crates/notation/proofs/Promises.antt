-- The promises of import and export in the report's notation. Each is proved in the file that its proof cites.
--
-- To be believed for them: Notation (the symbol of an event, the text of a history, the form, where a text goes wrong, what is left without the abandoned jobs, which add is the
-- first), Answers (`written`,
-- `Bytes`, and what an answer means, code by code), `Filled` of Blocks in the crate blocks, and Logs in the crate verdicts. Not how a text is read: `import` reads it by Parse,
-- and import-means speaks of the form alone.
-- Assumes nothing.
use Rattle.std.specs.Prelude.{◌≡◌, refl, ◌↔◌, List, [], ℕ, ◌+◌, ◌*◌, ◌≤◌, ◌<◌, length}
use Rattle.std.proofs.Common.{ap, ⊎_elim, arith}
use Rattle.graph.specs.Decide.{eq_test, answer}
use Rattle.history.specs.Events.{History}
use Rattle.verdicts.specs.Logs.{events, read_log, log_of}
use Rattle.blocks.specs.Blocks.{Filled, refused, done}
use Rattle.notation.specs.Notation.{text_of, Says, Form, Wrong, without_abandoned, NoAdd, FirstAdd}
use Rattle.notation.specs.Answers.{import, export, written, Bytes, Imported, Exported}
use Rattle.notation.proofs.ParseLaws.{says_once}
use Rattle.notation.specs.ReadLaws.{read_is}
use Rattle.notation.proofs.TextLaws.{import_right, export_right, import_wrong, fault_other, not_formed, twenty_six, wrong_there, too_long, eleven, refuses_add, twenty_seven, makes_text, text_made, says_none, imported_back, exported_back, import_nothing, export_nothing, export_short, wrong_inside, add_inside, log_short}
use Rattle.notation.specs.Promises.{SmallExport, SmallImport}

-- ---- what an answer means, code by code

pub import_means : (text lent : List ℕ) → Imported text lent (import text lent)
import_means = import_right

pub export_means : (log lent : List ℕ) → Exported log lent (export log lent)
export_means = export_right

-- 26 exactly when the text is not of the form, whatever else is wrong with it, and with the place where it goes wrong
pub form_exactly : (text lent : List ℕ) → ((import text lent).code ≡ 26) ↔ (Form text → ⊥)
form_exactly text lent = (not_formed text lent, twenty_six text lent)

pub place_exactly : (text lent : List ℕ) (p : ℕ) → (import text lent ≡ refused 26 p lent) ↔ Wrong text p
place_exactly text lent p = (wrong_there text lent p, import_wrong lent)

-- 11 exactly when the text is of the form and has more than 4,096 symbols
pub eleven_exactly : (text lent : List ℕ) → ((import text lent).code ≡ 11) ↔ ((h : History) × Says text h × (4096 < length h))
eleven_exactly text lent = (eleven text lent, λ s. ap (λ (a : Filled). a.code) (too_long lent s.1 s.2))

-- 27 exactly when the log is without fault and holds an add, whatever room there is, and with the place of the first
pub adds_exactly : (log lent : List ℕ) (p : ℕ) → (export log lent ≡ refused 27 p lent) ↔ ((h : History) × (read_log log ≡ events h) × FirstAdd h p)
adds_exactly log lent p = (twenty_seven log lent p, λ s. refuses_add log lent s.1 s.2)

-- a text is put down exactly when the log is without fault, holds no add, and there is room
pub exports_exactly : (log lent : List ℕ)
    → ((export log lent).code ≡ 0) ↔ ((h : History) × (read_log log ≡ events h) × NoAdd h × (length (text_of (without_abandoned h)) ≤ length lent))
exports_exactly log lent = (text_made log lent, λ s. ap (λ (a : Filled). a.code) (makes_text log lent s.1 s.2 s.3))

-- ---- there and back

-- no text says an add
pub texts_no_add : {text : List ℕ} {h : History} → Says text h → NoAdd h
texts_no_add = says_none

-- a log that is read is the log of its history
pub log_is : (log : List ℕ) (h : History) → Bytes log → read_log log ≡ events h → log ≡ log_of h
log_is = read_is

-- importing what was exported gives the log without the abandoned jobs; a log that is exported holds no add
pub import_of_export : (log : List ℕ) (h : History) → Bytes log → read_log log ≡ events h
    → (lent lent' : List ℕ) → (export log lent).code ≡ 0 → length (log_of (without_abandoned h)) ≤ length lent'
    → import (written (export log lent)) lent' ≡ done (log_of (without_abandoned h)) lent'
import_of_export = imported_back

-- exporting what was imported gives the same text
pub export_of_import : (text lent lent' : List ℕ) → (import text lent).code ≡ 0 → length text ≤ length lent' → export (written (import text lent)) lent' ≡ done text lent'
export_of_import = exported_back

-- the empty text is the empty log
pub empty_imported : (lent : List ℕ) → import [] lent ≡ done [] lent
empty_imported = import_nothing

pub empty_exported : (lent : List ℕ) → export [] lent ≡ done [] lent
empty_exported = export_nothing

-- ---- a refusal leaves the lent bytes as they were

-- a text says one history
pub texts_apart : {text : List ℕ} {h k : History} → Says text h → Says text k → h ≡ k
texts_apart = says_once

pub import_refusal_leaves : (text lent : List ℕ) → ((import text lent).code ≡ 0 → ⊥) → (import text lent).bytes ≡ lent
import_refusal_leaves text lent f = go (import_right text lent) f
  where
    go : {a : Filled} → Imported text lent a → (a.code ≡ 0 → ⊥) → a.bytes ≡ lent
    go (Imported.not_of_form w) g = refl
    go (Imported.bad_log s r) g = refl
    go (Imported.no_room s r l) g = refl
    go (Imported.imports s r l) g = absurd (g refl)

-- ---- codes and places

pub export_refusal_leaves : (log lent : List ℕ) → ((export log lent).code ≡ 0 → ⊥) → (export log lent).bytes ≡ lent
export_refusal_leaves log lent f = go (export_right log lent) f
  where
    go : {a : Filled} → Exported log lent a → (a.code ≡ 0 → ⊥) → a.bytes ≡ lent
    go (Exported.bad_log r) g = refl
    go (Exported.holds_add r a) g = refl
    go (Exported.no_room r f l) g = refl
    go (Exported.exports r f l) g = absurd (g refl)

pub import_small : (text lent : List ℕ) → SmallImport text (import text lent)
import_small text lent = go (import_right text lent)
  where
    go : {a : Filled} → Imported text lent a → SmallImport text a
    go (Imported.not_of_form w) = record { code = omega arith; place = λ f. absurd (f refl); of_form = λ e. wrong_inside w }
    go (Imported.bad_log {h = h} s r) = let k = fault_other (log_of h) r in record { code = omega arith; place = λ f. omega arith; of_form = λ e. absurd (omega arith) }
    go (Imported.no_room s r l) = record { code = omega arith; place = λ f. omega arith; of_form = λ e. absurd (omega arith) }
    go (Imported.imports {h = h} s r l) = let k = log_short h r in record { code = omega arith; place = λ f. k; of_form = λ e. absurd (let y : ◌≡◌ {A = ℕ} 0 26 = e in omega arith) }

pub export_small : (log lent : List ℕ) → Bytes log → SmallExport (export log lent)
export_small log lent b = go (export_right log lent)
  where
    go : {a : Filled} → Exported log lent a → SmallExport a
    go (Exported.bad_log r) = let k = fault_other log r in record { code = omega arith; place = let p = k.2 in omega arith }
    go (Exported.holds_add {h = h} r a) = let k = add_inside log h r a in record { code = omega arith; place = omega arith }
    go (Exported.no_room r f l) = record { code = omega arith; place = omega arith }
    go (Exported.exports {h = h} r f l) = record { code = omega arith; place = export_short log h b r }

-- so the place has 32 bits, always for export, and for import where the text has fewer than 2 ^ 32 bytes; of a longer text the place of 26 may have more
pub import_place : (text lent : List ℕ) → length text < 4_294_967_296 → (import text lent).place < 4_294_967_296
import_place text lent l =
    let s = import_small text lent in
    ⊎_elim (λ e. let p = s.of_form e in omega arith) (λ f. let p = s.place f in omega arith) (answer (eq_test (import text lent).code 26))

pub export_place : (log lent : List ℕ) → Bytes log → (export log lent).place < 4_294_967_296
export_place log lent b = let p = (export_small log lent b).place in omega arith

-- and then the code times 2 ^ 32 plus the place, in one number, tells both
pub packed_apart : (a c : Filled) → a.place < 4_294_967_296 → c.place < 4_294_967_296 → a.code * 4_294_967_296 + a.place ≡ c.code * 4_294_967_296 + c.place
    → (a.code ≡ c.code) × (a.place ≡ c.place)
packed_apart a c s t e = (omega arith, omega arith)
