-- The log in a run of blocks without fault: where its records stand, how many bytes it has, and what the reader answers.
-- Assumes nothing.
use mathlib.Core.Path.{◌≡◌, sym, ap, subst, ◌∙◌}
use mathlib.Core.Logic.{⊎_elim}
use mathlib.Core.Option.{Option, none, some}
use mathlib.Core.List.{List, ◌++◌}
use Prim.Native.Nat.{ℕ, zero, suc, ◌+◌, ◌*◌, ◌/◌, ◌%◌, ◌≤◌, ◌<◌}
use native.Mathlib.Omega.{arith}
use lib.ListN.{length, get_or, take, drop, length-append, length-drop}
use lib.Seq.{get_or-take, get_or-drop, take_at, drop_at, drop-drop}
use Rattle.graph.specs.Decide.{lt_test, answer}
use Rattle.blocks.specs.Blocks.{Fault, block_at, count_in, lowest_fault, records_in, first_records, log_in, refused, filled, judged, read}
use Rattle.blocks.proofs.SoundLaws.{count_most}
use Rattle.blocks.proofs.RunLaws.{sound, record_size, sizes, fills, fills_not, read_on}
use Rattle.sums.specs.Sums.{with_run}
use Rattle.blockreader.specs.Answers.{fault_of, Unfaulted}
use Rattle.std.specs.declared.result.Result.{Result}
use Rattle.blockreader.specs.declared.Unread.{Unread}
use Rattle.sums.specs.ByteLaws.{put_next, done_put}

-- the block at a place, taken off what is left of the run, and what is then left
pub record Off (n k : ℕ) (run b left : List ℕ) : Type 0 where
  pub inside : k < n
  pub this : b ≡ block_at k run
  pub past : left ≡ drop (512 * (k + 1)) run

pub block_off : {rest : List ℕ} {size j : ℕ} (n k : ℕ) (run b left : List ℕ) → length run ≡ 512 * n → size ≡ 512 → rest ≡ drop (512 * j) run → k ≡ j → rest ≡ b ++ left → length b ≡ size
    → Off n k run b left
block_off n k run b left whole is there same e long =
    let here : drop (512 * k) run ≡ b ++ left = ap (λ (i : ℕ). drop (512 * i) run) same ∙ sym there ∙ e in
    let l : length b ≡ 512 = long ∙ is in
    let much = sym (length-drop (512 * k) run) ∙ ap length here ∙ length-append b left in
    let on : 512 * k + 512 ≡ 512 * (k + 1) = omega arith in
    record {
      inside = omega arith;
      this = sym (ap (take 512) here ∙ take_at b left 512 l);
      past = sym (drop_at b left 512 l) ∙ sym (ap (drop 512) here) ∙ drop-drop 512 (512 * k) run ∙ ap (λ (j : ℕ). drop j run) on;
    }

-- the records of the first blocks are no more than those of more of them
records_grow : (blocks : List ℕ) (n m : ℕ) → m ≤ n → length (first_records m blocks) ≤ length (first_records n blocks)
records_grow blocks zero m h = let e : m ≡ 0 = omega arith in subst (λ (j : ℕ). length (first_records j blocks) ≤ 0) (sym e) (omega arith)
records_grow blocks (suc n) m h =
    ⊎_elim
    (λ q. let g = records_grow blocks n m (omega arith) in let e = length-append (first_records n blocks) (records_in (block_at n blocks)) in omega arith)
    (λ f. let g : m < suc n → ⊥ = f in let e : m ≡ suc n = omega arith in subst (λ (j : ℕ). length (first_records j blocks) ≤ length (first_records (suc n) blocks)) (sym e) (omega arith))
    (answer (lt_test m (suc n)))

module _ (n : ℕ) (blocks : List ℕ) (u : Unfaulted n blocks) where
  module _ (k : ℕ) (inside : k < n) where
    pub few_records : count_in (block_at k blocks) ≤ 62
    few_records = count_most (sound blocks n u.whole u.few u.none_found k inside).count_right

    -- the count is below 256, so that its low byte is all of it
    pub count_byte : get_or blocks (k * 512 + 4) 0 ≡ count_in (block_at k blocks)
    count_byte =
        let few = few_records in
        let e : get_or (block_at k blocks) 4 0 ≡ get_or blocks (512 * k + 4) 0 = get_or-take 512 (drop (512 * k) blocks) 4 0 (omega arith) ∙ get_or-drop (512 * k) blocks 4 0 in
        let on : k * 512 + 4 ≡ 512 * k + 4 = omega arith in
        ap (λ (i : ℕ). get_or blocks i 0) on ∙ sym e ∙ (omega arith)

    -- of a block's own bytes
    pub low_count : get_or (block_at k blocks) 4 0 ≡ count_in (block_at k blocks)
    low_count = let few = few_records in omega arith

    -- its records
    pub records_there : (m : ℕ) → m ≡ get_or (block_at k blocks) 4 0 * 8 → take m (drop 8 (block_at k blocks)) ≡ records_in (block_at k blocks)
    records_there m e =
        let low = low_count in
        let on : m ≡ 8 * count_in (block_at k blocks) = omega arith in
        ap (λ (j : ℕ). take j (drop 8 (block_at k blocks))) on

    pub records_length : length (records_in (block_at k blocks)) ≡ 8 * count_in (block_at k blocks)
    records_length = record_size blocks n u.whole u.few u.none_found k inside

    pub before_length : length (first_records k blocks) ≡ 496 * k
    before_length = sizes blocks n u.whole u.few u.none_found k inside

    pub next_fits : length (first_records k blocks) + length (records_in (block_at k blocks)) ≤ length (first_records n blocks)
    next_fits = let g = records_grow blocks n (suc k) inside in let e = length-append (first_records k blocks) (records_in (block_at k blocks)) in omega arith

  -- the log's bytes: all but the last block are full
  pub log_bytes : (m : ℕ) → suc m ≡ n → length (first_records n blocks) ≡ m * 496 + get_or blocks (m * 512 + 4) 0 * 8
  log_bytes m e =
      let inside : m < n = omega arith in
      let a = length-append (first_records m blocks) (records_in (block_at m blocks)) in
      let b = before_length m inside in
      let r = records_length m inside in
      let c = count_byte m inside in
      ap (λ (j : ℕ). length (first_records j blocks)) (sym e) ∙ (omega arith)

  -- one block's records more
  pub records_turn : (d now : List ℕ) (k : ℕ) → k < n → length (first_records n blocks) ≤ length d → now ≡ with_run d 0 (first_records k blocks)
      → with_run now (k * 496) (records_in (block_at k blocks)) ≡ with_run d 0 (first_records (k + 1) blocks)
  records_turn d now k inside room e =
      let b = before_length k inside in
      let f = next_fits k inside in
      let on : suc k ≡ k + 1 = omega arith in
      ap (λ (l : List ℕ). with_run l (k * 496) (records_in (block_at k blocks))) e
      ∙ put_next d (first_records k blocks) (records_in (block_at k blocks)) (k * 496) (omega arith) (omega arith)
      ∙ ap (λ (j : ℕ). with_run d 0 (first_records j blocks)) on

-- ---- what the reader answers

module _ (run d : List ℕ) (whole : length run % 512 ≡ 0) (few : length run ≤ 34304) where
  abbrev many : ℕ
  many = length run / 512

  by_fault : read run d ≡ judged (lowest_fault many run many) run d
  by_fault = read_on run d (⊎_elim (λ f. f whole) (λ q. omega arith))

  pub read_fault : (f : Result (Unit {0}) Unread) (g : Fault) → fault_of f ≡ lowest_fault many run many → fault_of f ≡ some g → refused g.code g.place d ≡ read run d
  read_fault f g e x = sym (by_fault ∙ ap (λ (o : Option Fault). judged o run d) (sym e ∙ x))

  module _ (good : none ≡ lowest_fault many run many) where
    pub unfaulted : Unfaulted many run
    unfaulted = record { whole = omega arith; few = omega arith; none_found = sym good }

    with_log : read run d ≡ filled (first_records many run) d
    unfolding log_in
    with_log = by_fault ∙ ap (λ (o : Option Fault). judged o run d) (sym good)

    pub read_short : (n : ℕ) → n ≡ length (first_records many run) → length d < n → refused 24 0 d ≡ read run d
    read_short n e q = sym (with_log ∙ fills_not (first_records many run) d (omega arith))

    pub read_done : (now : List ℕ) (n : ℕ) → n ≡ length (first_records many run) → n ≤ length d → now ≡ with_run d 0 (first_records many run)
        → record { code = 0; place = n; bytes = now } ≡ read run d
    read_done now n e room stands = done_put (first_records many run) d now n e stands ∙ sym (with_log ∙ fills (first_records many run) d (omega arith))
