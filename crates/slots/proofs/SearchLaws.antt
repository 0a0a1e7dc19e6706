-- A search over masks of slots: which slots a walk meets, found by taking the lowest slot of those to do, turn by turn.
--
-- In order: the marks of a mask that is made of others, as tests; `Met`, what a search is to find, and `Search`, what holds of the seen slots and those
-- to do, which together find it once nothing is to do (`found_test`); a turn of the loop keeps it (`turn`) and makes a number smaller (`falls`); what is
-- met is what a walk over open slots reaches, so the seen slots are the mask of `reach` (`reached_mask`).
-- Assumes nothing.
use mathlib.Core.Path.{◌≡◌, ap, ◌∙◌, subst}
use mathlib.Core.Logic.{◌⊎◌, inl, inr, ⊎_elim}
use mathlib.Core.Bool.{Bool, not, ◌&&◌}
use mathlib.Core.List.{List}
use Prim.Native.Nat.{ℕ, ◌+◌, ◌-◌, ◌^◌, ◌<◌, ◌≤◌}
use native.Mathlib.Nat.{lt_of_not-le, lt_of_le_of_lt}
use native.Mathlib.Omega.{arith}
use lib.Bits.{bit_or, bit_and, or_disjoint, or_lt, and_le_l, and_le_r}
use lib.Count.{count_trailing_zeros}
use lib.Dec.{T}
use lib.Pow.{pow_pos, ones_sub-lt}
use Rattle.graph.specs.Decide.{Decides, false_is, and_test, not_test, own_test, eq_test, read_as, answer, same_test, test_false}
use Rattle.graph.specs.Lists.{◌∈◌, only, only_keeps, only_from}
use Rattle.graph.specs.Reach.{reach, reach_test}
use Rattle.graph.specs.Walk.{Via, one, step, join}
use Rattle.marks.specs.MarkLaws.{bit_above, equal_test, or_bit, and_bit, either_test, both_test, bit_others, bit_same, bit_nonzero, bit_mask, bit_without, mask_lt, no_bits, and_pred, without_lt, lowest_mark, upto_has, upto_from}
use Rattle.marks.specs.Marks.{bit, mask_of, upto}

-- ---- marks, as tests

-- a mark stands below the width
inside : (w n x : ℕ) → n < 2 ^ w → T (bit n x) → x < w
inside w n x h t = lt_of_not-le (λ (q : w ≤ x). false_is (bit_above w n x h q) t)

-- a mark of the complement is one below the width that n has not
others_test : (w n x : ℕ) → n < 2 ^ w → Decides (bit (2 ^ w - 1 - n) x) ((x < w) × (T (bit n x) → ⊥))
others_test w n x h =
    record {
      holds = λ t. let q = inside w (2 ^ w - 1 - n) x (ones_sub-lt w n) t in (q, (test q).holds t);
      shows = λ r. (test r.0).shows r.1;
    }
  where
    test : x < w → Decides (bit (2 ^ w - 1 - n) x) (T (bit n x) → ⊥)
    test q = equal_test (bit_others w n x h q) (not_test (own_test (bit n x)))

-- a mark of n & (n - 1) is one of n other than the lowest
rest_test : (w n x : ℕ) → n < 2 ^ w → (n ≡ 0 → ⊥) → Decides (bit (bit_and n (n - 1)) x) (T (bit n x) × (x ≡ count_trailing_zeros w n → ⊥))
rest_test w n x h ne =
    equal_test (ap (λ (m : ℕ). bit m x) (and_pred w n h ne) ∙ bit_without n (count_trailing_zeros w n) x)
    (and_test (own_test (bit n x)) (not_test (eq_test x (count_trailing_zeros w n))))

-- ---- the search

-- `to i` are the slots that slot i leads to. Met are the first slots, and where a met slot leads to.
pub data Met (to : ℕ → ℕ) (first : ℕ) : ℕ → Type 0 where
  start : {x : ℕ} → T (bit first x) → Met to first x
  next : {i x : ℕ} → Met to first i → T (bit (to i) x) → Met to first x

-- what holds before each turn: of a seen slot that is not to do, every slot that it leads to is seen
pub record Search (to : ℕ → ℕ) (w first seen todo : ℕ) : Type 0 where
  pub to_fits : (i : ℕ) → to i < 2 ^ w
  pub seen_fits : seen < 2 ^ w
  pub todo_fits : todo < 2 ^ w
  pub sound : (x : ℕ) → T (bit seen x) → Met to first x
  pub starts : (x : ℕ) → T (bit first x) → T (bit seen x)
  pub waits : (x : ℕ) → T (bit todo x) → T (bit seen x)
  pub closed : (i : ℕ) → T (bit seen i) → (T (bit todo i) → ⊥) → (x : ℕ) → T (bit (to i) x) → T (bit seen x)

-- at first just the slots that p leads to are seen, and all of them are to do
pub begins : (to : ℕ → ℕ) (w p : ℕ) → ((i : ℕ) → to i < 2 ^ w) → Search to w (to p) (to p) (to p)
begins to w p h =
    record {
      to_fits = h;
      seen_fits = h p;
      todo_fits = h p;
      sound = λ x t. start t;
      starts = λ x t. t;
      waits = λ x t. t;
      closed = λ i t f. absurd (f t);
    }

-- when nothing is to do, the seen slots are the met ones
found_test : {to : ℕ → ℕ} {w first seen todo : ℕ} → Search to w first seen todo → todo ≡ 0 → (x : ℕ) → Decides (bit seen x) (Met to first x)
found_test {to} {w} {first} {seen} {todo} s e x = record { holds = s.sound x; shows = seen_of }
  where
    seen_of : {x : ℕ} → Met to first x → T (bit seen x)
    seen_of (start {x = x} t) = s.starts x t
    seen_of (next {i = i} {x = x} m t) = s.closed i (seen_of m) (λ d. bit_nonzero todo i d e) x t

-- ---- a turn: the lowest slot to do is done, and of those that it leads to the new ones are seen and to do

-- those that it leads to, and the new ones of them
abbrev pub led : (ℕ → ℕ) → ℕ → ℕ → ℕ
led to w todo = to (count_trailing_zeros w todo)

abbrev pub fresh : (ℕ → ℕ) → ℕ → ℕ → ℕ → ℕ
fresh to w seen todo = bit_and (led to w todo) (2 ^ w - 1 - seen)

module _ {to : ℕ → ℕ} {w first seen todo : ℕ} (s : Search to w first seen todo) (more : todo ≡ 0 → ⊥) where
  fresh_test : (x : ℕ) → Decides (bit (fresh to w seen todo) x) (T (bit (led to w todo) x) × (T (bit seen x) → ⊥))
  fresh_test x =
      read_as (both_test (led to w todo) (2 ^ w - 1 - seen) x) (λ r. (r.0, ((others_test w seen x s.seen_fits).holds r.1).1))
      (λ r. (r.0, (others_test w seen x s.seen_fits).shows (inside w (led to w todo) x (s.to_fits (count_trailing_zeros w todo)) r.0, r.1)))

  -- seen is what was seen and all that the slot leads to, new or not
  seen_test : (x : ℕ) → Decides (bit (bit_or seen (fresh to w seen todo)) x) (T (bit seen x) ⊎ T (bit (led to w todo) x))
  seen_test x =
      read_as (either_test seen (fresh to w seen todo) x) (⊎_elim inl (λ t. inr ((fresh_test x).holds t).0))
      (⊎_elim inl (λ t. ⊎_elim inl (λ f. inr ((fresh_test x).shows (t, f))) (answer (own_test (bit seen x)))))

  -- to do are the others that were to do, and the new ones
  todo_test : (x : ℕ) → Decides (bit (bit_or (bit_and todo (todo - 1)) (fresh to w seen todo)) x)
      ((T (bit todo x) × (x ≡ count_trailing_zeros w todo → ⊥)) ⊎ T (bit (fresh to w seen todo) x))
  todo_test x =
      or_bit (bit_and todo (todo - 1)) (fresh to w seen todo) x (rest_test w todo x s.todo_fits more) (own_test (bit (fresh to w seen todo) x))

  there : T (bit todo (count_trailing_zeros w todo))
  there = (lowest_mark w todo s.todo_fits more).there

  rest_fits : bit_and todo (todo - 1) < 2 ^ w
  rest_fits = lt_of_le_of_lt (and_le_l todo (todo - 1)) s.todo_fits

  fresh_fits : fresh to w seen todo < 2 ^ w
  fresh_fits = lt_of_le_of_lt (and_le_l (led to w todo) (2 ^ w - 1 - seen)) (s.to_fits (count_trailing_zeros w todo))

  pub turn : Search to w first (bit_or seen (fresh to w seen todo)) (bit_or (bit_and todo (todo - 1)) (fresh to w seen todo))
  turn =
      record {
        to_fits = s.to_fits;
        seen_fits = or_lt w seen (fresh to w seen todo) s.seen_fits fresh_fits;
        todo_fits = or_lt w (bit_and todo (todo - 1)) (fresh to w seen todo) rest_fits fresh_fits;
        sound = λ x t. ⊎_elim (s.sound x) (next (s.sound (count_trailing_zeros w todo) (s.waits (count_trailing_zeros w todo) there))) ((seen_test x).holds t);
        starts = λ x t. (seen_test x).shows (inl (s.starts x t));
        waits = λ x t. (seen_test x).shows (⊎_elim (λ r. inl (s.waits x r.0)) (λ u. inr ((fresh_test x).holds u).0) ((todo_test x).holds t));
        closed =
            λ i t f x u. ⊎_elim (λ v. old i v f x u) (λ v. absurd (f ((todo_test i).shows (inr v)))) ((either_test seen (fresh to w seen todo) i).holds t);
      }
    where
      -- a slot seen before that is not to do is the one that is done now, or was done before
      old : (i : ℕ) → T (bit seen i) → (T (bit (bit_or (bit_and todo (todo - 1)) (fresh to w seen todo)) i) → ⊥) → (x : ℕ) → T (bit (to i) x)
          → T (bit (bit_or seen (fresh to w seen todo)) x)
      old i v f x u =
          (seen_test x).shows
          (⊎_elim (λ e. inr (subst (λ (k : ℕ). T (bit (to k) x)) e u)) (λ ne. inl (s.closed i v (λ d. f ((todo_test i).shows (inl (d, ne)))) x u))
          (answer (eq_test i (count_trailing_zeros w todo))))

  -- the new ones are added as a number to a mask of seen slots
  added : (n : ℕ) → n < 2 ^ w → ((x : ℕ) → T (bit n x) → T (bit seen x)) → bit_or n (fresh to w seen todo) ≡ n + fresh to w seen todo
  added n h f =
      or_disjoint n (fresh to w seen todo)
      (no_bits w (bit_and n (fresh to w seen todo)) (lt_of_le_of_lt (and_le_l n (fresh to w seen todo)) h)
      (λ x q. test_false (both_test n (fresh to w seen todo) x) (λ r. ((fresh_test x).holds r.1).1 (f x r.0))))

  -- so those to do gain what the unseen lose, and the slot that is done makes the sum less
  pub falls : bit_or (bit_and todo (todo - 1)) (fresh to w seen todo) + (2 ^ w - 1 - bit_or seen (fresh to w seen todo)) < todo + (2 ^ w - 1 - seen)
  falls =
      let more_seen = added seen s.seen_fits (λ x t. t) in
      let more_todo = added (bit_and todo (todo - 1)) rest_fits (λ x t. s.waits x ((rest_test w todo x s.todo_fits more).holds t).0) in
      let left = and_pred w todo s.todo_fits more in
      let less = without_lt todo (count_trailing_zeros w todo) there in
      let some = pow_pos (count_trailing_zeros w todo) in
      let fits = turn.seen_fits in
      omega arith

-- ---- what is met is what a walk reaches

-- the allowed slots of a slot's row
abbrev pub leads_to : (ℕ → ℕ) → ℕ → ℕ → ℕ
leads_to row allowed i = bit_and (row i) allowed

abbrev Walk : (ℕ → ℕ) → List ℕ → ℕ → ℕ → Type 0
Walk row ks = Via (λ i y. T (bit (row i) y)) (λ m. m ∈ ks)

module _ (row : ℕ → ℕ) (allowed : ℕ) (ks : List ℕ) (among : (x : ℕ) → Decides (bit allowed x) (x ∈ ks)) where
  lead_test : (i x : ℕ) → Decides (bit (leads_to row allowed i) x) (T (bit (row i) x) × (x ∈ ks))
  lead_test i x = and_bit (row i) allowed x (own_test (bit (row i) x)) (among x)

  -- what is met from where p leads to is allowed, and a walk from p reaches it
  met_reached : {p x : ℕ} → Met (leads_to row allowed) (leads_to row allowed p) x → (x ∈ ks) × Walk row ks p x
  met_reached {p} (start {x = x} t) = let r = (lead_test p x).holds t in (r.1, one r.0)
  met_reached (next {i = i} {x = x} m t) =
      let r = (lead_test i x).holds t in
      let v = met_reached m in
      (r.1, join v.1 v.0 (one r.0))

  -- the slots of a walk are met one by one, from its front, if those are that its start leads to
  reached_met : {first p x : ℕ} → Walk row ks p x → x ∈ ks → ((y : ℕ) → T (bit (leads_to row allowed p) y) → Met (leads_to row allowed) first y)
      → Met (leads_to row allowed) first x
  reached_met (one {p = p} {q = x} e) k f = f x ((lead_test p x).shows (e, k))
  reached_met (step {p = p} {m = m} e h v) k f = reached_met v k (λ y. next (f m ((lead_test p m).shows (e, h))))

-- a row's allowed slots fit the width
pub leads_fit : (row : ℕ → ℕ) (w free i : ℕ) → leads_to row (2 ^ w - 1 - free) i < 2 ^ w
leads_fit row w free i = lt_of_le_of_lt (and_le_r (row i) (2 ^ w - 1 - free)) (ones_sub-lt w free)

-- where the slots of a mask are not allowed, the search from where p leads to leaves the mask of what is reached from p
pub reached_mask : (row : ℕ → ℕ) (w free p : ℕ) {seen todo : ℕ} → free < 2 ^ w
    → Search (leads_to row (2 ^ w - 1 - free)) w (leads_to row (2 ^ w - 1 - free) p) seen todo → todo ≡ 0
    → seen ≡ mask_of w (λ x. not (bit free x) && reach (λ i y. bit (row i) y) (only (λ i. not (bit free i)) (upto w)) p x)
reached_mask row w free p {seen} {todo} h s e =
    bit_same w seen (mask_of w found) s.seen_fits (mask_lt w found) marks
  where
    is_open : ℕ → Bool
    is_open i = not (bit free i)

    allowed : ℕ
    allowed = 2 ^ w - 1 - free

    ks : List ℕ
    ks = only is_open (upto w)

    found : ℕ → Bool
    found x = is_open x && reach (λ i y. bit (row i) y) ks p x

    among : (x : ℕ) → Decides (bit allowed x) (x ∈ ks)
    among x =
        let closed = own_test (bit free x) in
        read_as (others_test w free x h) (λ r. only_keeps is_open (upto_has r.0) ((not_test closed).shows r.1))
        (λ m. let r = only_from is_open (upto w) m in (upto_from w r.0, (not_test closed).holds r.1))

    marks : (x : ℕ) → x < w → bit seen x ≡ bit (mask_of w found) x
    marks x q =
        same_test (found_test s e x)
        (equal_test (bit_mask w found x q) (and_test (own_test (is_open x)) (reach_test (λ i y. own_test (bit (row i) y)) ks p x)))
        (λ m. let r = met_reached row allowed ks among m in ((only_from is_open (upto w) r.0).1, r.1))
        (λ r. reached_met row allowed ks among r.1 (only_keeps is_open (upto_has q) r.0) (λ y. start))
