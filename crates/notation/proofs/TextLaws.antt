-- What the answers of import and of export come to (`import_right`, `export_right`), when 26, 11 and 27 are given, that each undoes the other (`imported_back`, `exported_back`), and how long a text is.
-- Assumes nothing.
use Rattle.std.specs.Prelude.{◌≡◌, refl, Bool, cond, List, [], ◌∷◌, ◌++◌, ℕ, suc, ◌*◌, ◌/◌, ◌≤◌, ◌<◌, length, drop}
use Rattle.std.proofs.Common.{sym, subst, ◌∙◌, ⊎_elim, zero-le, arith, length-append}
use Rattle.std.proofs.Math.Path.{ap}
use Rattle.std.proofs.Math.Seq.{take-append_seam}
use Rattle.graph.specs.Decide.{lt_test, answer, test_true, test_false}
use Rattle.graph.specs.Lists.{◌∈◌, here, later}
use Rattle.text.specs.Decimal.{decimal}
use Rattle.text.specs.DecimalLaws.{leading_length}
use Rattle.history.specs.Events.{read, write, add, Event, opens, steps, ends, abandons, History}
use Rattle.verdicts.specs.Logs.{Reading, faulty, events, read_log, log_of}
use Rattle.verdicts_laws.specs.LogLaws.{Fault, of_length, of_record, faults, read_turns, read_back, log_length}
use Rattle.verdicts.specs.Cases.{bytes_above}
use Rattle.verdicts_laws.specs.SizeLaws.{log_size, fault_code, fault_known}
use Rattle.blocks.specs.Blocks.{Filled, refused, done, filled}
use Rattle.blocks.proofs.RunLaws.{fills, fills_not}
use Rattle.notation.specs.Notation.{on_cell, symbol, text_of, Says, Form, Wrong, no_such_byte, stops_short, without_abandoned, NoAdd, FirstAdd}
use Rattle.notation.specs.Parse.{Parsed, wrong, says, parse, parse_end}
use Rattle.notation.specs.Answers.{imported, import_of, import, before_adds, exported, export_of, export, written, Bytes, Imported, Exported}
use Rattle.notation.specs.ParseLaws.{Read, said, gone_wrong}
use Rattle.notation.proofs.ParseLaws.{parse_right, parse_says, wrong_exactly, wrong_not_form, form_or_wrong}
use Rattle.notation.specs.FirstAddLaws.{Found, none, first, found, first_is, none_is}
use Rattle.notation.specs.LeftOutLaws.{left_turns, left_sized, Plain, plain_sayable, left_from, left_plain, whole_left}
use Rattle.notation.specs.ReadLaws.{read_sized, read_same}

-- ---- the answers, code by code

-- with room or without
roomy : (P : Filled → Type 0) (bytes lent : List ℕ) → (length lent < length bytes → P (refused 24 0 lent)) → (length bytes ≤ length lent → P (done bytes lent)) → P (filled bytes lent)
roomy P bytes lent f g =
    ⊎_elim (λ l. subst P (sym (fills_not bytes lent l)) (f l)) (λ n. let m : length lent < length bytes → ⊥ = n in let l : length bytes ≤ length lent = omega arith in subst P (sym (fills bytes lent l)) (g l))
    (answer (lt_test (length lent) (length bytes)))

pub import_right : (text lent : List ℕ) → Imported text lent (import text lent)
unfolding import
import_right text lent = go (parse text) (parse_right text)
  where
    logged : {h : History} → Says text h → (r : Reading) → read_log (log_of h) ≡ r → Imported text lent (imported r (log_of h) lent)
    logged s (faulty c p) e = Imported.bad_log s e
    logged {h} s (events k) e =
        let q = read_same h k s.sayable e in
        roomy (Imported text lent) (log_of h) lent (λ l. Imported.no_room s q l) (λ l. Imported.imports s q l)

    go : (r : Parsed) → Read text r → Imported text lent (import_of r lent)
    go (says h) (said s) = logged s (read_log (log_of h)) refl
    go (wrong p) (gone_wrong w) = Imported.not_of_form w

-- without an add, and with one
pub exported_none : (h : History) (lent : List ℕ) → NoAdd h → exported h (before_adds h) lent ≡ filled (text_of (without_abandoned h)) lent
exported_none h lent f =
    let n = none_is h f in
    ap (λ (b : Bool). cond b (refused 27 (before_adds h) lent) (filled (text_of (without_abandoned h)) lent)) (test_false (lt_test (before_adds h) (length h)) (λ l. omega arith))

pub exported_first : {h : History} {p : ℕ} (lent : List ℕ) → FirstAdd h p → exported h (before_adds h) lent ≡ refused 27 p lent
exported_first {h} {p} lent a =
    let q = first_is a in
    let e = q.0 in
    let l = q.1 in
    ap (λ (b : Bool). cond b (refused 27 (before_adds h) lent) (filled (text_of (without_abandoned h)) lent)) (test_true (lt_test (before_adds h) (length h)) (omega arith))
    ∙ ap (λ (x : ℕ). refused 27 x lent) e

pub export_right : (log lent : List ℕ) → Exported log lent (export log lent)
unfolding export
export_right log lent = go (read_log log) refl
  where
    by_adds : (h : History) → read_log log ≡ events h → Found h → Exported log lent (exported h (before_adds h) lent)
    by_adds h e (none f n) =
        subst (Exported log lent) (sym (exported_none h lent f)) (roomy (Exported log lent) (text_of (without_abandoned h)) lent (λ l. Exported.no_room e f l) (λ l. Exported.exports e f l))
    by_adds h e (first a l) = subst (Exported log lent) (sym (exported_first lent a)) (Exported.holds_add e a)

    go : (r : Reading) → read_log log ≡ r → Exported log lent (export_of r lent)
    go (faulty c p) e = Exported.bad_log e
    go (events h) e = by_adds h e (found h)

-- ---- the form

import_says : {text : List ℕ} {h : History} (lent : List ℕ) → Says text h → import text lent ≡ imported (read_log (log_of h)) (log_of h) lent
unfolding import
import_says lent s = ap (λ (r : Parsed). import_of r lent) (parse_says s)

pub import_wrong : {text : List ℕ} {p : ℕ} (lent : List ℕ) → Wrong text p → import text lent ≡ refused 26 p lent
unfolding import
import_wrong {text} {p} lent w = ap (λ (r : Parsed). import_of r lent) ((wrong_exactly text p).1 w)

-- a fault of a log is neither 0 nor 24 nor 26, and its place is small
pub fault_other : (log : List ℕ) {c p : ℕ} → read_log log ≡ faulty c p → (11 ≤ c) × (c ≤ 14) × (p ≤ 4095)
fault_other log e = let k = fault_known log e in (k.from, k.upto, k.place)

pub not_formed : (text lent : List ℕ) → (import text lent).code ≡ 26 → Form text → ⊥
not_formed text lent z = go (import_right text lent) z
  where
    go : {a : Filled} → Imported text lent a → a.code ≡ 26 → Form text → ⊥
    go (Imported.not_of_form w) e f = wrong_not_form w f
    go (Imported.bad_log {h = h} s r) e f = let k = fault_other (log_of h) r in let u = k.1 in omega arith
    go (Imported.no_room s r l) e f = let y : ◌≡◌ {A = ℕ} 24 26 = e in omega arith
    go (Imported.imports s r l) e f = let y : ◌≡◌ {A = ℕ} 0 26 = e in omega arith

pub twenty_six : (text lent : List ℕ) → (Form text → ⊥) → (import text lent).code ≡ 26
twenty_six text lent f = ⊎_elim (λ i. absurd (f i)) (λ w. ap (λ (a : Filled). a.code) (import_wrong lent w.1)) (form_or_wrong text)

pub wrong_there : (text lent : List ℕ) (p : ℕ) → import text lent ≡ refused 26 p lent → Wrong text p
wrong_there text lent p e =
    ⊎_elim (λ f. absurd (not_formed text lent (ap (λ (a : Filled). a.code) e) f))
    (λ w. subst (Wrong text) (ap (λ (a : Filled). a.place) (sym (import_wrong lent w.1) ∙ e)) w.1) (form_or_wrong text)

-- ---- 11

pub too_long : {text : List ℕ} {h : History} (lent : List ℕ) → Says text h → 4096 < length h → import text lent ≡ refused 11 0 lent
too_long {text} {h} lent s l =
    let e = log_length h in
    import_says lent s ∙ ap (λ (r : Reading). imported r (log_of h) lent) (bytes_above (log_of h) (omega arith))

pub eleven : (text lent : List ℕ) → (import text lent).code ≡ 11 → (h : History) × Says text h × (4096 < length h)
eleven text lent z = go (import_right text lent) z
  where
    of_fault : (h : History) {c p : ℕ} → Fault (log_of h) c p → c ≡ 11 → 4096 < length h
    of_fault h (of_length f) e = let n = log_length h in ⊎_elim (λ g. absurd (g (omega arith))) (λ l. omega arith) f
    of_fault h (of_record w l f) e =
        let k = fault_code f.before f.at in
        let q = f.fault in
        let u = k.from (λ y. f.is_fault (sym q ∙ y)) in absurd (omega arith)

    go : {a : Filled} → Imported text lent a → a.code ≡ 11 → (h : History) × Says text h × (4096 < length h)
    go (Imported.not_of_form w) e = absurd (let y : ◌≡◌ {A = ℕ} 26 11 = e in omega arith)
    go (Imported.bad_log {h = h} {c = c} {p = p} s r) e = (h, s, of_fault h (faults (log_of h) c p r) e)
    go (Imported.no_room s r l) e = absurd (let y : ◌≡◌ {A = ℕ} 24 11 = e in omega arith)
    go (Imported.imports s r l) e = absurd (let y : ◌≡◌ {A = ℕ} 0 11 = e in omega arith)

-- ---- 27, and 0 for an export

module _ (log lent : List ℕ) where
  export_read : {h : History} → read_log log ≡ events h → export log lent ≡ exported h (before_adds h) lent
  unfolding export
  export_read r = ap (λ (g : Reading). export_of g lent) r

  pub refuses_add : {h : History} {p : ℕ} → read_log log ≡ events h → FirstAdd h p → export log lent ≡ refused 27 p lent
  refuses_add r a = export_read r ∙ exported_first lent a

  pub twenty_seven : (p : ℕ) → export log lent ≡ refused 27 p lent → (h : History) × (read_log log ≡ events h) × FirstAdd h p
  twenty_seven p z = go (export_right log lent) (ap (λ (a : Filled). a.code) z) (ap (λ (a : Filled). a.place) z)
    where
      go : {a : Filled} → Exported log lent a → a.code ≡ 27 → a.place ≡ p → (h : History) × (read_log log ≡ events h) × FirstAdd h p
      go (Exported.bad_log e) y q = absurd (let k = fault_other log e in let u = k.1 in omega arith)
      go (Exported.holds_add {h = h} e a) y q = (h, e, subst (FirstAdd h) q a)
      go (Exported.no_room e f l) y q = absurd (let x : ◌≡◌ {A = ℕ} 24 27 = y in omega arith)
      go (Exported.exports e f l) y q = absurd (let x : ◌≡◌ {A = ℕ} 0 27 = y in omega arith)

  pub makes_text : {h : History} → read_log log ≡ events h → NoAdd h → length (text_of (without_abandoned h)) ≤ length lent → export log lent ≡ done (text_of (without_abandoned h)) lent
  makes_text {h} r f l = export_read r ∙ exported_none h lent f ∙ fills (text_of (without_abandoned h)) lent l

  pub text_made : (export log lent).code ≡ 0 → (h : History) × (read_log log ≡ events h) × NoAdd h × (length (text_of (without_abandoned h)) ≤ length lent)
  text_made z = go (export_right log lent) z
    where
      go : {a : Filled} → Exported log lent a → a.code ≡ 0 → (h : History) × (read_log log ≡ events h) × NoAdd h × (length (text_of (without_abandoned h)) ≤ length lent)
      go (Exported.bad_log e) y = absurd (let k = fault_other log e in let u = k.0 in omega arith)
      go (Exported.holds_add e a) y = absurd (let x : ◌≡◌ {A = ℕ} 27 0 = y in omega arith)
      go (Exported.no_room e f l) y = absurd (let x : ◌≡◌ {A = ℕ} 24 0 = y in omega arith)
      go (Exported.exports {h = h} e f l) y = (h, e, f, l)

-- what a text says has no add
pub says_none : {text : List ℕ} {h : History} → Says text h → NoAdd h
says_none s j c m = s.sayable (steps add j c) m

-- ---- there and back

module _ (log : List ℕ) (h : History) (b : Bytes log) (r : read_log log ≡ events h) where
  left_said : NoAdd h → Says (text_of (without_abandoned h)) (without_abandoned h)
  left_said f =
      record {
        sayable = λ e m. plain_sayable e (λ j c q. f j c (subst (λ (x : Event). x ∈ h) q (left_from h e m))) (left_plain h (read_turns log h r) (read_sized log h b r) e m);
        text = refl;
      }

  left_read : read_log (log_of (without_abandoned h)) ≡ events (without_abandoned h)
  left_read = read_back (without_abandoned h) (left_turns h (read_turns log h r)) (left_sized h (read_sized log h b r))

  -- the text that is exported is imported as the log without the abandoned jobs
  pub text_imported : NoAdd h → (lent : List ℕ) → import (text_of (without_abandoned h)) lent ≡ filled (log_of (without_abandoned h)) lent
  text_imported f lent = import_says lent (left_said f) ∙ ap (λ (g : Reading). imported g (log_of (without_abandoned h)) lent) left_read

  pub imported_back : (lent lent' : List ℕ) → (export log lent).code ≡ 0 → length (log_of (without_abandoned h)) ≤ length lent'
      → import (written (export log lent)) lent' ≡ done (log_of (without_abandoned h)) lent'
  imported_back lent lent' z room = go (export_right log lent) z
    where
      go : {a : Filled} → Exported log lent a → a.code ≡ 0 → import (written a) lent' ≡ done (log_of (without_abandoned h)) lent'
      go (Exported.bad_log e) y = absurd (let k = fault_other log e in let u = k.0 in omega arith)
      go (Exported.holds_add e a) y = absurd (let x : ◌≡◌ {A = ℕ} 27 0 = y in omega arith)
      go (Exported.no_room e f l) y = absurd (let x : ◌≡◌ {A = ℕ} 24 0 = y in omega arith)
      go (Exported.exports {h = k} e f l) y =
          let same : k ≡ h = cc in
          ap (λ (t : List ℕ). import t lent') (take-append_seam (text_of (without_abandoned k)) (drop (length (text_of (without_abandoned k))) lent) ∙ ap (λ (g : History). text_of (without_abandoned g)) same)
          ∙ text_imported (subst NoAdd same f) lent'
          ∙ fills (log_of (without_abandoned h)) lent' room

-- the log that a text is imported as is exported as that text
pub exported_back : (text lent lent' : List ℕ) → (import text lent).code ≡ 0 → length text ≤ length lent' → export (written (import text lent)) lent' ≡ done text lent'
exported_back text lent lent' z room = go (import_right text lent) z
  where
    log_exported : (h : History) → Says text h → read_log (log_of h) ≡ events h → export (log_of h) lent' ≡ filled text lent'
    log_exported h s r = export_read (log_of h) lent' r ∙ exported_none h lent' (says_none s) ∙ ap (λ (k : History). filled (text_of k) lent') (whole_left h s.sayable) ∙ ap (λ (t : List ℕ). filled t lent') (sym s.text)

    go : {a : Filled} → Imported text lent a → a.code ≡ 0 → export (written a) lent' ≡ done text lent'
    go (Imported.not_of_form w) e = absurd (let y : ◌≡◌ {A = ℕ} 26 0 = e in omega arith)
    go (Imported.bad_log {h = h} s r) e = absurd (let k = fault_other (log_of h) r in let u = k.0 in omega arith)
    go (Imported.no_room s r l) e = absurd (let y : ◌≡◌ {A = ℕ} 24 0 = e in omega arith)
    go (Imported.imports {h = h} s r l) e =
        ap (λ (g : List ℕ). export g lent') (take-append_seam (log_of h) (drop (length (log_of h)) lent)) ∙ log_exported h s r ∙ fills text lent' room

-- ---- nothing

pub import_nothing : (lent : List ℕ) → import [] lent ≡ done [] lent
unfolding import parse parse_end read_log
import_nothing lent = fills [] lent zero-le

pub export_nothing : (lent : List ℕ) → export [] lent ≡ done [] lent
unfolding export read_log without_abandoned before_adds
export_nothing lent = fills [] lent zero-le

-- ---- how long a text is

job_length : (n : ℕ) → n < 4_294_967_296 → length (decimal n) ≤ 10
unfolding decimal
job_length n h = let i = leading_length 9 (n / 10) (omega arith) in simp length-append (omega arith)

cell_length : (n : ℕ) → n < 256 → length (decimal n) ≤ 3
unfolding decimal
cell_length n h = let i = leading_length 2 (n / 10) (omega arith) in simp length-append (omega arith)

on_cell_length : (letter j c : ℕ) → (j < 4_294_967_296) × (c < 256) → length (on_cell letter j c) ≤ 16
on_cell_length letter j c p =
    let l = job_length j p.0 in
    let m = cell_length c p.1 in
    let a = length-append (decimal j) (91 ∷ (decimal c ++ (93 ∷ []))) in
    let b = length-append (decimal c) (93 ∷ []) in omega arith

symbol_length : (e : Event) → Plain e → length (symbol e) ≤ 16
symbol_length (opens j) p = let l = job_length j p in omega arith
symbol_length (steps read j c) p = on_cell_length 82 j c p
symbol_length (steps write j c) p = on_cell_length 87 j c p
symbol_length (steps add j c) p = omega arith
symbol_length (ends j) p = let l = job_length j p in omega arith
symbol_length (abandons j) p = absurd p

-- a symbol and a blank have 17 bytes at most, and the last has no blank
text_length : (e : Event) (h : History) → ((f : Event) → f ∈ e ∷ h → Plain f) → suc (length (text_of (e ∷ h))) ≤ 17 * suc (length h)
text_length e [] f = let l = symbol_length e (f e here) in omega arith
text_length e (d ∷ h) f =
    let l = symbol_length e (f e here) in
    let m = text_length d h (λ x n. f x (later n)) in
    let a = length-append (symbol e) (32 ∷ text_of (d ∷ h)) in omega arith

text_short : (h : History) → ((f : Event) → f ∈ h → Plain f) → length h ≤ 4096 → length (text_of h) ≤ 69_631
text_short [] f l = omega arith
text_short (e ∷ h) f l = let m = text_length e h f in omega arith

pub export_short : (log : List ℕ) (h : History) → Bytes log → read_log log ≡ events h → length (text_of (without_abandoned h)) ≤ 69_631
export_short log h b r =
    let t = read_turns log h r in
    let s = read_sized log h b r in
    text_short (without_abandoned h) (left_plain h t s) (left_sized h s).few

-- ---- places

pub wrong_inside : {t : List ℕ} {p : ℕ} → Wrong t p → p ≤ length t
wrong_inside (no_such_byte l b f) = omega arith
wrong_inside (stops_short b f) = omega arith

-- the first add of a log that is read is among 4,096 records
pub add_inside : (log : List ℕ) (h : History) {p : ℕ} → read_log log ≡ events h → FirstAdd h p → p ≤ 4095
add_inside log h r a =
    let s = log_size log h r in
    let w = s.whole in
    let l = s.short in
    let q = (first_is a).1 in omega arith

-- the log of events that are read has 32,768 bytes at most
pub log_short : (h : History) → read_log (log_of h) ≡ events h → length (log_of h) ≤ 32_768
log_short h r = (log_size (log_of h) h r).short
