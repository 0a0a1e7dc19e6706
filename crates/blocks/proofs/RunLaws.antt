-- Runs of blocks: the lowest fault, that the blocks of a log have none and hold the log (`unfaulted`, `log_back`), and that a run without fault is the one that the writer
-- makes of the log in it (`remade`). From these, what each answer of the writer and of the reader means (`write_right`, `read_right`).
-- Assumes nothing.
use Rattle.std.proofs.Math.Path.{◌≡◌, ap}
use Rattle.std.specs.Prelude.{refl, ◌⊎◌, Bool, not, ◌||◌, ℕ, zero, suc, ◌+◌, ◌-◌, ◌*◌, ◌/◌, ◌%◌, ◌≤◌, ◌<◌, min, ltb, eqb, take, drop}
use Rattle.std.proofs.Common.{sym, ap₂, subst, ◌∙◌, ⊎_elim, lt-ltb, le-ltb, length-append, length-take, length-drop, drop_at, take-add}
use Rattle.std.proofs.Math.Logic.{inl, inr}
use Rattle.std.proofs.Math.Bool.{true, false, cond}
use Rattle.std.proofs.Math.Option.{Option, none, some}
use mathlib.Core.List.{List, ◌++◌}
use native.Mathlib.Omega.{arith}
use Rattle.std.proofs.Math.ListN.{length}
use Rattle.std.proofs.Math.Seq.{take_all}
use Rattle.graph.specs.Decide.{Decides, or_test, not_test, eq_test, lt_test, answer, by_test, test_true, test_false}
use Rattle.blocks.specs.Blocks.{block, run_of, first_blocks, block_count, blocks_of, count_in, sums_wrong, form_wrong, Fault, fault, fault_in, block_at, or_else, lowest_fault, records_in, first_records, log_in, Filled, refused, done, filled, write, judged, read}
use Rattle.blocks.specs.Answers.{Log, Lowest, Wrote, written, Answered, bad_block, reads}
use Rattle.blocks.specs.SoundLaws.{room, Count, Sound}
use Rattle.blocks.proofs.SoundLaws.{part_left, room_least, room_other, count_most, count_some, sound_of, fault_none, block_length, block_records, block_sound, sound_block, sound_size}
use Rattle.blocks.specs.RunLaws.{Off}

-- ---- the lowest fault

below_or_last : (k m : ℕ) → k < suc m → (k < m) ⊎ (k ≡ m)
below_or_last k m l = ⊎_elim (λ p. inl p) (λ f. let g : k < m → ⊥ = f in inr (omega arith)) (answer (lt_test k m))

-- ---- the blocks of a log

module _ (n : ℕ) (bytes : List ℕ) where
  pub lowest_none : (m : ℕ) → ((k : ℕ) → k < m → fault_in n k (block_at k bytes) ≡ none) → lowest_fault n bytes m ≡ none
  lowest_none zero f = refl
  lowest_none (suc m) f = ap₂ or_else (lowest_none m (λ k l. f k (omega arith))) (f m (omega arith))

  or_none : (f g : Option Fault) → or_else f g ≡ none → (f ≡ none) × (g ≡ none)
  or_none none g e = (refl, e)
  or_none (some f) g e = absurd (let z : ◌≡◌ {A = ℕ} 0 1 = cc in omega arith)

  pub each_none : (m : ℕ) → lowest_fault n bytes m ≡ none → (k : ℕ) → k < m → fault_in n k (block_at k bytes) ≡ none
  each_none zero e k l = absurd (omega arith)
  each_none (suc m) e k l =
      let p = or_none (lowest_fault n bytes m) (fault_in n m (block_at m bytes)) e in
      ⊎_elim (λ q. each_none m p.0 k q) (λ q. subst (λ (j : ℕ). fault_in n j (block_at j bytes) ≡ none) (sym q) p.1) (below_or_last k m l)

  -- a fault at k, and none below it
  pub lowest_found : (m k : ℕ) (f : Fault) → lowest_fault n bytes k ≡ none → fault_in n k (block_at k bytes) ≡ some f → k < m → lowest_fault n bytes m ≡ some f
  lowest_found zero k f e g l = absurd (omega arith)
  lowest_found (suc m) k f e g l =
      ⊎_elim (λ q. ap (λ (o : Option Fault). or_else o (fault_in n m (block_at m bytes))) (lowest_found m k f e g q))
      (λ q. subst (λ (j : ℕ). or_else (lowest_fault n bytes j) (fault_in n j (block_at j bytes)) ≡ some f) q (ap₂ or_else e g)) (below_or_last k m l)

  fault_known : (k : ℕ) (b : List ℕ) (f : Fault) → fault_in n k b ≡ some f → (f ≡ fault f.code k) × ((f.code ≡ 22) ⊎ (f.code ≡ 23))
  unfolding fault_in
  fault_known k b f = go (sums_wrong b) (form_wrong n k b)
    where
      go : (x y : Bool) → cond x (some (fault 22 k)) (cond y (some (fault 23 k)) none) ≡ some f → (f ≡ fault f.code k) × ((f.code ≡ 22) ⊎ (f.code ≡ 23))
      go true y e = let q : f ≡ fault 22 k = cc in let c = ap (λ (g : Fault). g.code) q in (q ∙ ap (λ (m : ℕ). fault m k) (sym c), inl c)
      go false true e = let q : f ≡ fault 23 k = cc in let c = ap (λ (g : Fault). g.code) q in (q ∙ ap (λ (m : ℕ). fault m k) (sym c), inr c)
      go false false e = absurd (let z : ◌≡◌ {A = ℕ} 0 1 = cc in omega arith)

  lowest_known : (m : ℕ) (f : Fault) → lowest_fault n bytes m ≡ some f → Lowest n bytes m f.code f.place
  lowest_known zero f e = absurd (let z : ◌≡◌ {A = ℕ} 0 1 = cc in omega arith)
  lowest_known (suc m) f e = go (lowest_fault n bytes m) refl (lowest_known m) e
    where
      go : (o : Option Fault) → lowest_fault n bytes m ≡ o → ((g : Fault) → lowest_fault n bytes m ≡ some g → Lowest n bytes m g.code g.place)
          → or_else o (fault_in n m (block_at m bytes)) ≡ some f → Lowest n bytes (suc m) f.code f.place
      go none low rec e =
          let q = fault_known m (block_at m bytes) f e in
          subst (λ (k : ℕ). Lowest n bytes (suc m) f.code k) (sym (ap (λ (g : Fault). g.place) q.0))
          (record { inside = omega arith; none_below = each_none m low; this = e ∙ ap some q.0; coded = q.1 })
      go (some g) low rec e =
          let r = rec f (low ∙ e) in
          let l = r.inside in
          record { inside = omega arith; none_below = r.none_below; this = r.this; coded = r.coded }

module _ (log : List ℕ) where
  pub run_fits : (k : ℕ) → length (run_of k log) ≤ 496
  run_fits k = let e = length-take 496 (drop (496 * k) log) in omega arith

  pub blocks_length : (n : ℕ) → length (first_blocks n log) ≡ 512 * n
  blocks_length zero = refl
  blocks_length (suc n) =
      length-append (first_blocks n log) (block n (run_of n log)) ∙ (let e = blocks_length n in let b = block_length n (run_of n log) (run_fits n) in omega arith)

  blocks_part : (n k : ℕ) → k < n → block_at k (first_blocks n log) ≡ block k (run_of k log)
  blocks_part zero k l = absurd (omega arith)
  blocks_part (suc n) k l =
      let e = blocks_length n in
      let last = block n (run_of n log) in
      let whole = block_length n (run_of n log) (run_fits n) in
      ⊎_elim (λ q. part_left 512 (512 * k) (first_blocks n log) last (omega arith) ∙ blocks_part n k q)
      (λ q. subst (λ (j : ℕ). block_at j (first_blocks n log ++ last) ≡ block j (run_of j log)) (sym q) (ap (take 512) (drop_at (first_blocks n log) last (512 * n) e) ∙ take_all 512 last (omega arith)))
      (below_or_last k n l)

-- ---- a run without fault

module _ (log : List ℕ) (l : Log log) where
  run_length : (k : ℕ) → length (run_of k log) ≡ min 496 (length log - 496 * k)
  run_length k = length-take 496 (drop (496 * k) log) ∙ ap (min 496) (length-drop (496 * k) log)

  run_whole : (k : ℕ) → length (run_of k log) % 8 ≡ 0
  run_whole k = let e = run_length k in let w = l.whole in omega arith

  run_count : (k : ℕ) → k < block_count log → Count (block_count log) k (length (run_of k log) / 8)
  run_count k q =
      let e = run_length k in
      let w = l.whole in
      let f = l.few in
      record {
        before = λ m. omega arith;
        some_last = λ m. omega arith;
        most_last = λ m. by_test (λ b. length (run_of k log) / 8 ≤ room k) (eq_test k 66) (λ p. let r = room_least k p in omega arith) (λ p. let r = room_other k p in omega arith);
      }

  unfaulted : lowest_fault (block_count log) (blocks_of log) (block_count log) ≡ none
  unfolding blocks_of
  unfaulted =
      let n = block_count log in
      lowest_none n (first_blocks n log) n
      (λ k q. fault_none n k (block_at k (first_blocks n log)) (subst (λ (b : List ℕ). Sound n k b) (sym (blocks_part log n k q)) (block_sound k (run_of k log) (run_fits log k) (run_whole k) n (run_count k q))))

  records_back : (m : ℕ) → m ≤ block_count log → first_records m (first_blocks (block_count log) log) ≡ take (496 * m) log
  records_back zero q = refl
  records_back (suc m) q =
      let n = block_count log in
      let on : 496 * m + 496 ≡ 496 * suc m = omega arith in
      ap₂ (λ (x y : List ℕ). x ++ y) (records_back m (omega arith)) (ap records_in (blocks_part log n m q) ∙ block_records m (run_of m log) (run_fits log m) (run_whole m))
      ∙ sym (take-add (496 * m) 496 log)
      ∙ ap (λ (j : ℕ). take j log) on

  pub blocks_of_length : length (blocks_of log) ≡ 512 * block_count log
  unfolding blocks_of
  blocks_of_length = blocks_length log (block_count log)

  log_back : log_in (blocks_of log) ≡ log
  unfolding log_in blocks_of
  log_back =
      let n = block_count log in
      let e : length (first_blocks n log) / 512 ≡ n = let z = blocks_length log n in omega arith in
      ap (λ (j : ℕ). first_records j (first_blocks n log)) e ∙ records_back n (omega arith) ∙ take_all (496 * n) log (omega arith)

-- ---- the answers

module _ (bytes : List ℕ) (n : ℕ) (long : length bytes ≡ 512 * n) (few : n ≤ 67) (good : lowest_fault n bytes n ≡ none) where
  pub at_length : (k : ℕ) → k < n → length (block_at k bytes) ≡ 512
  at_length k l = length-take 512 (drop (512 * k) bytes) ∙ (let e = length-drop (512 * k) bytes in omega arith)

  pub sound : (k : ℕ) → k < n → Sound n k (block_at k bytes)
  sound k l = sound_of n k (block_at k bytes) (each_none n bytes n good k l)

  pub record_size : (k : ℕ) → k < n → length (records_in (block_at k bytes)) ≡ 8 * count_in (block_at k bytes)
  record_size k l = sound_size n k (block_at k bytes) (at_length k l) (sound k l)

  pub sizes : (m : ℕ) → m < n → length (first_records m bytes) ≡ 496 * m
  sizes zero l = refl
  sizes (suc m) l =
      length-append (first_records m bytes) (records_in (block_at m bytes))
      ∙ (let e = sizes m (omega arith) in let r = record_size m (omega arith) in let c = (sound m (omega arith)).count_right.before l in omega arith)

  runs : (m k : ℕ) → m ≤ n → k < m → run_of k (first_records m bytes) ≡ records_in (block_at k bytes)
  runs zero k h l = absurd (omega arith)
  runs (suc m) k h l =
      let e = sizes m h in
      let last = records_in (block_at m bytes) in
      let r = record_size m h in
      let c = count_most (sound m h).count_right in
      ⊎_elim (λ q. part_left 496 (496 * k) (first_records m bytes) last (omega arith) ∙ runs m k (omega arith) q)
      (λ q. subst (λ (j : ℕ). run_of j (first_records m bytes ++ last) ≡ records_in (block_at j bytes)) (sym q)
      (ap (take 496) (drop_at (first_records m bytes) last (496 * m) e) ∙ take_all 496 last (omega arith)))
      (below_or_last k m l)

  first_remade : (m : ℕ) → m ≤ n → first_blocks m (first_records n bytes) ≡ take (512 * m) bytes
  first_remade zero h = refl
  first_remade (suc m) h =
      let on : 512 * m + 512 ≡ 512 * suc m = omega arith in
      ap₂ (λ (x y : List ℕ). x ++ y) (first_remade m (omega arith)) (ap (block m) (runs n m (omega arith) h) ∙ sym (sound_block n m (block_at m bytes) (at_length m h) (sound m h)))
      ∙ sym (take-add (512 * m) 512 bytes)
      ∙ ap (λ (j : ℕ). take j bytes) on

  -- the log in it, and how many blocks that takes
  record Held (log : List ℕ) : Type 0 where
    log_right : Log log
    count_right : block_count log ≡ n

  held_by : (m : ℕ) → m ≡ n → Held (first_records m bytes)
  held_by zero e = record { log_right = record { whole = refl; few = omega arith }; count_right = omega arith }
  held_by (suc m) e =
      let l : m < n = omega arith in
      let p = sizes m l in
      let r = record_size m l in
      let q = (sound m l).count_right in
      let s = count_some q in
      let t = count_most q in
      let c = count_in (block_at m bytes) in
      let size : length (first_records m bytes ++ records_in (block_at m bytes)) ≡ 496 * m + 8 * c = length-append (first_records m bytes) (records_in (block_at m bytes)) ∙ (omega arith) in
      let last : c ≤ room m = q.most_last (omega arith) in
      record {
        log_right = record {
          whole = omega arith;
          few = by_test (λ b. length (first_records m bytes ++ records_in (block_at m bytes)) ≤ 32768) (eq_test m 66) (λ p. let r = room_least m p in omega arith) (λ p. let g : m ≡ 66 → ⊥ = p in omega arith);
        };
        count_right = omega arith;
      }

  remade : blocks_of (first_records n bytes) ≡ bytes
  unfolding blocks_of
  remade =
      ap (λ (j : ℕ). first_blocks j (first_records n bytes)) (held_by n refl).count_right ∙ first_remade n (omega arith) ∙ take_all (512 * n) bytes (omega arith)

pub fills : (bytes lent : List ℕ) → length bytes ≤ length lent → filled bytes lent ≡ done bytes lent
unfolding filled
fills bytes lent l = ap (λ (b : Bool). cond b (refused 24 0 lent) (done bytes lent)) (le-ltb (length lent) (length bytes) l)

pub fills_not : (bytes lent : List ℕ) → length lent < length bytes → filled bytes lent ≡ refused 24 0 lent
unfolding filled
fills_not bytes lent l = ap (λ (b : Bool). cond b (refused 24 0 lent) (done bytes lent)) (lt-ltb (length lent) (length bytes) l)

off_test : (size most l : ℕ) → Decides (not (eqb (l % size) 0) || ltb most l) (Off size most l)
off_test size most l = or_test (not_test (eq_test (l % size) 0)) (lt_test most l)

on_whole : (size most l : ℕ) → (Off size most l → ⊥) → l % size ≡ 0
on_whole size most l f = by_test (λ b. l % size ≡ 0) (eq_test (l % size) 0) (λ e. e) (λ g. absurd (f (inl g)))

on_few : (size most l : ℕ) → (Off size most l → ⊥) → l ≤ most
on_few size most l f = by_test (λ b. l ≤ most) (lt_test most l) (λ e. absurd (f (inr e))) (λ g. let h : most < l → ⊥ = g in omega arith)

pub write_off : (log lent : List ℕ) → Off 8 32768 (length log) → write log lent ≡ refused 11 0 lent
unfolding write
write_off log lent o = ap (λ (b : Bool). cond b (refused 11 0 lent) (filled (blocks_of log) lent)) (test_true (off_test 8 32768 (length log)) o)

pub write_on : (log lent : List ℕ) → Log log → write log lent ≡ filled (blocks_of log) lent
unfolding write
write_on log lent l =
    ap (λ (b : Bool). cond b (refused 11 0 lent) (filled (blocks_of log) lent))
    (test_false (off_test 8 32768 (length log)) (⊎_elim (λ f. f l.whole) (λ q. let f = l.few in omega arith)))

pub write_right : (log lent : List ℕ) → Wrote log lent (write log lent)
write_right log lent =
    ⊎_elim (λ o. subst (λ (a : Filled). Wrote log lent a) (sym (write_off log lent o)) (Wrote.bad_length o))
    (λ f. let l : Log log = record { whole = on_whole 8 32768 (length log) f; few = on_few 8 32768 (length log) f } in
    ⊎_elim (λ q. subst (λ (a : Filled). Wrote log lent a) (sym (write_on log lent l ∙ fills_not (blocks_of log) lent q)) (Wrote.no_room l q))
    (λ g. let h : length lent < length (blocks_of log) → ⊥ = g in let q : length (blocks_of log) ≤ length lent = omega arith in
    subst (λ (a : Filled). Wrote log lent a) (sym (write_on log lent l ∙ fills (blocks_of log) lent q)) (written l q))
    (answer (lt_test (length lent) (length (blocks_of log)))))
    (answer (off_test 8 32768 (length log)))

pub read_off : (run lent : List ℕ) → Off 512 34304 (length run) → read run lent ≡ refused 21 0 lent
unfolding read
read_off run lent o =
    let n = length run / 512 in
    ap (λ (b : Bool). cond b (refused 21 0 lent) (judged (lowest_fault n run n) run lent)) (test_true (off_test 512 34304 (length run)) o)

pub read_on : (run lent : List ℕ) → (Off 512 34304 (length run) → ⊥) → let n = length run / 512 in read run lent ≡ judged (lowest_fault n run n) run lent
unfolding read
read_on run lent f =
    let n = length run / 512 in
    ap (λ (b : Bool). cond b (refused 21 0 lent) (judged (lowest_fault n run n) run lent)) (test_false (off_test 512 34304 (length run)) f)

pub read_right : (run lent : List ℕ) → Answered run lent (read run lent)
unfolding log_in
read_right run lent =
    ⊎_elim (λ o. subst (λ (a : Filled). Answered run lent a) (sym (read_off run lent o)) (Answered.bad_length o))
    (λ f. subst (λ (a : Filled). Answered run lent a) (sym (read_on run lent f)) (by_fault f (lowest_fault n run n) refl))
    (answer (off_test 512 34304 (length run)))
  where
    n : ℕ
    n = length run / 512

    by_fault : (Off 512 34304 (length run) → ⊥) → (o : Option Fault) → lowest_fault n run n ≡ o → Answered run lent (judged o run lent)
    by_fault f (some g) e = bad_block (on_whole 512 34304 (length run) f) (on_few 512 34304 (length run) f) (lowest_known n run n g e)
    by_fault f none e =
        let w : length run % 512 ≡ 0 = on_whole 512 34304 (length run) f in
        let q : length run ≤ 34304 = on_few 512 34304 (length run) f in
        let long : length run ≡ 512 * n = omega arith in
        let few : n ≤ 67 = omega arith in
        let l = (held_by run n long few e n refl).log_right in
        let same = sym (remade run n long few e) in
        ⊎_elim (λ p. subst (λ (a : Filled). Answered run lent a) (sym (fills_not (first_records n run) lent p)) (Answered.no_room (first_records n run) l same p))
        (λ g. let h : length lent < length (first_records n run) → ⊥ = g in let p : length (first_records n run) ≤ length lent = omega arith in
        subst (λ (a : Filled). Answered run lent a) (sym (fills (first_records n run) lent p)) (reads (first_records n run) l same p))
        (answer (lt_test (length lent) (length (first_records n run))))

-- the blocks of a log are read as the log
pub read_blocks : (log lent : List ℕ) → Log log → read (blocks_of log) lent ≡ filled log lent
read_blocks log lent l =
    let e = blocks_of_length log l in
    let f = l.few in
    let n : length (blocks_of log) / 512 ≡ block_count log = omega arith in
    read_on (blocks_of log) lent (⊎_elim (λ g. absurd (g (omega arith))) (λ q. omega arith))
    ∙ ap (λ (j : ℕ). judged (lowest_fault j (blocks_of log) j) (blocks_of log) lent) n
    ∙ ap (λ (o : Option Fault). judged o (blocks_of log) lent) (unfaulted log l)
    ∙ ap (λ (k : List ℕ). filled k lent) (log_back log l)

-- an accepted run has no fault
pub accepted_run : (run lent : List ℕ) → (read run lent).code ≡ 0 → (log : List ℕ) × Log log × (run ≡ blocks_of log) × (length log ≤ length lent)
accepted_run run lent z = go (read_right run lent) z
  where
    go : {a : Filled} → Answered run lent a → a.code ≡ 0 → (log : List ℕ) × Log log × (run ≡ blocks_of log) × (length log ≤ length lent)
    go (Answered.bad_length o) e = absurd (let y : ◌≡◌ {A = ℕ} 21 0 = e in omega arith)
    go (bad_block w q l) e = absurd (⊎_elim (λ c. omega arith) (λ c. omega arith) l.coded)
    go (Answered.no_room log l s q) e = absurd (let y : ◌≡◌ {A = ℕ} 24 0 = e in omega arith)
    go (reads log l s q) e = (log, l, s, q)

pub accepted_sound : (run lent : List ℕ) → (read run lent).code ≡ 0 → let n = length run / 512 in (length run ≡ 512 * n) × (n ≤ 67) × (lowest_fault n run n ≡ none)
accepted_sound run lent z =
    let a = accepted_run run lent z in
    let l = a.1 in
    let f = l.few in
    let size : length run ≡ 512 * block_count a.0 = ap length a.2 ∙ blocks_of_length a.0 l in
    let n : length run / 512 ≡ block_count a.0 = omega arith in
    (omega arith, omega arith, ap₂ (λ (m : ℕ) (r : List ℕ). lowest_fault m r m) n a.2 ∙ unfaulted a.0 l)
