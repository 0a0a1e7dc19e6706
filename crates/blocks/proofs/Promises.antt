-- The promises of ledger blocks. Each is proved in the file that its proof cites.
--
-- To be believed for them: Blocks (the two sums, the block, the blocks of a log, the faults of a block, the answers of the writer and of the reader) and Answers (what an answer
-- means, code by code); for the last, `Word` of DamageLaws (four bytes).
-- Assumes nothing.
use Rattle.std.specs.Prelude.{◌≡◌, refl, ◌↔◌, List, ◌++◌, ℕ, ◌+◌, ◌*◌, ◌/◌, ◌%◌, ◌≤◌, length, take, drop}
use Rattle.std.proofs.Common.{sym, ap, subst, ◌∙◌, ⊎_elim, arith, length-append}
use Rattle.std.proofs.Math.Seq.{take-append_seam}
use Rattle.blocks.specs.Blocks.{blocks_of, Filled, refused, done, write, read}
use Rattle.blocks.specs.Answers.{Log, Wrote, Answered}
use Rattle.blocks.proofs.RunLaws.{accepted_run, blocks_of_length, fills, write_right, read_right, read_blocks}
use Rattle.blocks.specs.DamageLaws.{Word}
use Rattle.blocks.proofs.DamageLaws.{word_changed}
use Rattle.blocks.specs.Promises.{Small}

-- ---- what an answer means, code by code

pub write_means : (log lent : List ℕ) → Wrote log lent (write log lent)
write_means = write_right

-- ---- there and back

pub read_means : (run lent : List ℕ) → Answered run lent (read run lent)
read_means = read_right

-- the blocks of a log, up to 4,096 whole records of any content, are read as that log
pub reads_back : (log lent : List ℕ) → Log log → length log ≤ length lent → read (blocks_of log) lent ≡ done log lent
reads_back log lent l room = read_blocks log lent l ∙ fills log lent room

-- what was written into any lent bytes, and no more of them, reads back as the same log
pub there_and_back : (log lent lent' : List ℕ) → (write log lent).code ≡ 0 → length log ≤ length lent' → read (take (write log lent).place (write log lent).bytes) lent' ≡ done log lent'
there_and_back log lent lent' z room = go (write_right log lent) z
  where
    go : {a : Filled} → Wrote log lent a → a.code ≡ 0 → read (take a.place a.bytes) lent' ≡ done log lent'
    go (Wrote.bad_length o) e = absurd (let y : ◌≡◌ {A = ℕ} 11 0 = e in omega arith)
    go (Wrote.no_room l q) e = absurd (let y : ◌≡◌ {A = ℕ} 24 0 = e in omega arith)
    go (Wrote.written l q) e = ap (λ (r : List ℕ). read r lent') (take-append_seam (blocks_of log) _) ∙ reads_back log lent' l room

-- a run is accepted exactly when it is the blocks of a log for which there is room
pub accepts_exactly : (run lent : List ℕ) → ((read run lent).code ≡ 0) ↔ ((log : List ℕ) × Log log × (run ≡ blocks_of log) × (length log ≤ length lent))
accepts_exactly run lent = (accepted_run run lent, λ r. ap (λ (a : Filled). a.code) (ap (λ (b : List ℕ). read b lent) r.2 ∙ reads_back r.0 lent r.1 r.3))

-- an accepted run is the one that the writer makes of the log that it is read as
pub accepted_as_written : (run lent : List ℕ) → (read run lent).code ≡ 0
    → let log = take (read run lent).place (read run lent).bytes in Log log × (run ≡ blocks_of log)
accepted_as_written run lent z = go (read_right run lent) z
  where
    go : {a : Filled} → Answered run lent a → a.code ≡ 0 → let log = take a.place a.bytes in Log log × (run ≡ blocks_of log)
    go (Answered.bad_length o) e = absurd (let y : ◌≡◌ {A = ℕ} 21 0 = e in omega arith)
    go (Answered.bad_block w q l) e = absurd (⊎_elim (λ c. omega arith) (λ c. omega arith) l.coded)
    go (Answered.no_room log l s q) e = absurd (let y : ◌≡◌ {A = ℕ} 24 0 = e in omega arith)
    go (Answered.reads log l s q) e = let same = take-append_seam log (drop (length log) lent) in (subst Log (sym same) l, s ∙ ap blocks_of (sym same))

-- ---- a refusal leaves the lent bytes as they were

-- logs with the same blocks are the same log
pub blocks_apart : (log log' : List ℕ) → Log log → Log log' → blocks_of log ≡ blocks_of log' → log ≡ log'
blocks_apart log log' l l' e =
    let lent = log ++ log' in
    let size = length-append log log' in
    let same = sym (reads_back log lent l (omega arith)) ∙ ap (λ (r : List ℕ). read r lent) e ∙ reads_back log' lent l' (omega arith) in
    sym (take-append_seam log (drop (length log) lent)) ∙ ap (λ (a : Filled). take a.place a.bytes) same ∙ take-append_seam log' (drop (length log') lent)

pub write_refusal_leaves : (log lent : List ℕ) → ((write log lent).code ≡ 0 → ⊥) → (write log lent).bytes ≡ lent
write_refusal_leaves log lent f = go (write_right log lent) f
  where
    go : {a : Filled} → Wrote log lent a → (a.code ≡ 0 → ⊥) → a.bytes ≡ lent
    go (Wrote.bad_length o) g = refl
    go (Wrote.no_room l q) g = refl
    go (Wrote.written l q) g = absurd (g refl)

-- ---- codes and places are small

pub read_refusal_leaves : (run lent : List ℕ) → ((read run lent).code ≡ 0 → ⊥) → (read run lent).bytes ≡ lent
read_refusal_leaves run lent f = go (read_right run lent) f
  where
    go : {a : Filled} → Answered run lent a → (a.code ≡ 0 → ⊥) → a.bytes ≡ lent
    go (Answered.bad_length o) g = refl
    go (Answered.bad_block w q l) g = refl
    go (Answered.no_room log l s q) g = refl
    go (Answered.reads log l s q) g = absurd (g refl)

pub write_small : (log lent : List ℕ) → Small (write log lent)
write_small log lent = go (write_right log lent)
  where
    go : {a : Filled} → Wrote log lent a → Small a
    go (Wrote.bad_length o) = record { code = omega arith; place = omega arith }
    go (Wrote.no_room l q) = record { code = omega arith; place = omega arith }
    go (Wrote.written l q) = let e = blocks_of_length log l in let f = l.few in record { code = omega arith; place = omega arith }

pub read_small : (run lent : List ℕ) → Small (read run lent)
read_small run lent = go (read_right run lent)
  where
    go : {a : Filled} → Answered run lent a → Small a
    go (Answered.bad_length o) = record { code = omega arith; place = omega arith }
    go (Answered.bad_block w q l) = let i = l.inside in record { code = ⊎_elim (λ c. omega arith) (λ c. omega arith) l.coded; place = omega arith }
    go (Answered.no_room log l s q) = record { code = omega arith; place = omega arith }
    go (Answered.reads log l s q) = let f = l.few in record { code = omega arith; place = omega arith }

-- ---- damage

-- so the code times 2 ^ 32 plus the place, in one number, tells both
pub packed_apart : (a c : Filled) → Small a → Small c → a.code * 4294967296 + a.place ≡ c.code * 4294967296 + c.place → (a.code ≡ c.code) × (a.place ≡ c.place)
packed_apart a c s t e = let p = s.place in let q = t.place in (omega arith, omega arith)

-- an accepted run in which one of the four-byte words is changed, in a record, in a field or in a sum, gets 22, with the block of that word as the place
pub damage_found : (a c lent lent' : List ℕ) {w w' : List ℕ} → length a % 4 ≡ 0 → Word w → Word w' → (w ≡ w' → ⊥)
    → (read (a ++ (w ++ c)) lent).code ≡ 0
    → read (a ++ (w' ++ c)) lent' ≡ refused 22 (length a / 512) lent'
damage_found = word_changed
