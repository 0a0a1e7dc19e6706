-- The joined state is the one scheduler's. In order: how the joined state is read, word by word and slot by slot; the views after a move (`view_opened`,
-- `view_stepped`, `view_left`), each station's own; that every station has marks of its own cells alone (`Home`) is kept by every move; while it does, the network's facts agree
-- with the joined state's (`facts_joined`), and a request moves the joined state as it moves the one scheduler (`joined_after`). An open, an end and an abandon
-- do so whatever a station holds.
-- Assumes nothing.
use Rattle.std.specs.Prelude.{◌≡◌, ◌⊎◌, true, false, ◌&&◌, ◌||◌, leb, eqb, length}
use Rattle.std.proofs.Math.Path.{refl, sym, ap, ap₂}
use Rattle.std.proofs.Common.{◌∙◌, subst, inl, inr, ⊎_elim, arith}
use Rattle.std.proofs.Math.Bool.{Bool, not, cond, or-false}
use Rattle.std.proofs.Math.Option.{Option, none, some}
use mathlib.Core.List.{List, [], ◌∷◌}
use Prim.Native.Nat.{ℕ, ◌+◌, ◌-◌, ◌*◌, ◌/◌, ◌%◌, ◌^◌, ◌≤◌, ◌<◌}
use Rattle.std.specs.Int.Bits.{bit_or, bit_and}
use Rattle.std.proofs.Math.Dec.{T}
use Rattle.std.proofs.Math.ListN.{get_or}
use Rattle.graph.specs.Decide.{and_test, or_test, not_test, eq_test, own_test, by_test, T_and_left, false_is}
use Rattle.graph.specs.Lists.{◌∈◌, here, later, only, only_from}
use Rattle.graph.specs.Reach.{reach}
use Rattle.marks.specs.Marks.{bit, mask_of, without, upto}
use Rattle.marks.specs.MarkLaws.{tab_same, upto_from, bit_zero}
use Rattle.marks.specs.MaskLaws.{tab_of}
use Rattle.marks.specs.Words.{empty}
use Rattle.history.specs.Events.{Kind, write}
use Rattle.history.specs.Replies.{cells, most_open, numbers, Request, Want, an_open, a_step, an_end, an_abandon, a_publish, nothing, want, first_of, tests, code_of}
use Rattle.history_laws.specs.Granted.{below_bound, passed}
use Rattle.history_laws.specs.Exact.{Agree, agree_code}
use Rattle.held.specs.Held.{Held, word_marks, set_words, row_words, past_place, all_words, fresh_held, number_at, leads_at, port_at, word_at, open_at, open_slots, Aspect, as_used, as_altered, shows, set_place, set_at, cell_at, own_at, past_at, meets, touched, chain_back, first_in, at_slot, slot_of, altered, facts, has_past, marks_word, opened_at, stepped_at, left_at, takes_over, ended_at, abandoned_at, free_slot, moved, after}
use Rattle.held_laws.specs.HeldMoves.{nth_word, read_tab, leads_opened, word_opened, leads_stepped, word_stepped, leads_left, word_left}
use Rattle.held_laws.specs.HeldLaws.{set_end, own_inside, opened_own_at, opened_past_at, stepped_own_at, stepped_past_at, left_own_at, left_past_at, slot_from}
use Rattle.stations.specs.Stations.{Station, station_0, station_1, station_2, station_of, Network, part, state, master, view, join, any, joined_leads, joined, asked, network_facts, one_moved, network_opened, network_stepped, network_left, network_ended, network_abandoned, with_slot, network_moved, fresh_network, network_after, Home}
use Rattle.stations.specs.JoinLaws.{any_or, any_one, join_same, join_bit, join_const, join_cond, join_blank, join_or, join_and, join_without, join_more, some_join}
use Rattle.stations.specs.StationLaws.{Moves}

-- ---- the joined state read

past_inside : (a : Aspect) (c : ℕ) → c < cells → past_place + set_place a + c / word_marks < row_words
past_inside a c h = omega (arith, set_end a)

module _ (n : Network) where
  leads_known : (i : ℕ) → join (λ u. leads_at (view n u) i) ≡ joined_leads n i
  unfolding joined_leads
  leads_known i = refl

  pub leads_joined : (i : ℕ) → i < most_open → leads_at (joined n) i ≡ joined_leads n i
  unfolding leads_at joined
  leads_joined i p = read_tab most_open (joined_leads n) i p

  pub nth_joined : (w : ℕ) → w < all_words → nth_word (joined n) w ≡ join (λ u. nth_word (view n u) w)
  unfolding joined
  nth_joined w p = read_tab all_words (λ w. join (λ u. get_or (part n u).sets w 0)) w p

  pub word_joined : (i o : ℕ) → i < most_open → o < row_words → word_at (joined n) i o ≡ join (λ u. word_at (view n u) i o)
  unfolding word_at
  word_joined i o p q = nth_joined (i * row_words + o) (omega arith)

  pub cell_joined : (i o c : ℕ) → i < most_open → o + c / word_marks < row_words → cell_at (joined n) i o c ≡ any (λ u. cell_at (view n u) i o c)
  unfolding cell_at
  cell_joined i o c p q =
      ap (λ (x : ℕ). bit x (c % word_marks)) (word_joined i (o + c / word_marks) p q)
      ∙ join_bit (λ u. word_at (view n u) i (o + c / word_marks)) (c % word_marks)

  set_joined : (i o : ℕ) → i < most_open → o + set_words ≤ row_words → not (empty (set_at (joined n) i o)) ≡ any (λ u. not (empty (set_at (view n u) i o)))
  set_joined i o p q =
      ap (λ (l : List ℕ). not (empty l)) (tab_same set_words (λ w. word_at (joined n) i (o + w)) (λ w. join (λ u. word_at (view n u) i (o + w))) (λ w r. word_joined i (o + w) p (omega arith)))
      ∙ some_join set_words (λ u w. word_at (view n u) i (o + w))

  -- some station knows that the slot has altered a cell, or has a past
  pub altered_joined : (s : ℕ) → s < most_open → altered (joined n) s ≡ any (λ u. altered (view n u) s)
  unfolding altered
  altered_joined s p = set_joined s (set_place as_altered) p (omega arith)

  pub past_joined : (i : ℕ) → i < most_open → has_past (joined n) i ≡ any (λ u. has_past (view n u) i)
  unfolding has_past
  past_joined i p =
      let used : Station → Bool = λ u. not (empty (set_at (view n u) i (past_place + set_place as_used))) in
      let altered : Station → Bool = λ u. not (empty (set_at (view n u) i (past_place + set_place as_altered))) in
      ap₂ (λ (a b : Bool). a || (b || false)) (set_joined i (past_place + set_place as_used) p (omega arith)) (set_joined i (past_place + set_place as_altered) p (omega arith))
      ∙ ap (λ (b : Bool). any used || b) (sym (any_or altered (λ u. false)))
      ∙ sym (any_or used (λ u. altered u || false))

-- ---- the views after a move

-- a network whose leads and words, joined, are those of a state, and whose master has the rest of it
joined_is : (m : Network) (h : Held) → length h.leads ≡ most_open → length h.sets ≡ all_words
    → ((i : ℕ) → i < most_open → joined_leads m i ≡ leads_at h i) → ((w : ℕ) → w < all_words → join (λ u. nth_word (view m u) w) ≡ nth_word h w)
    → state m h.leads h.sets ≡ h → joined m ≡ h
unfolding joined leads_at
joined_is m h a b l w e =
    ap₂ (state m) (sym (tab_of {n = most_open} {f = joined_leads m} {l = h.leads} a (λ i p. sym (l i p))))
    (sym (tab_of {n = all_words} {f = λ w. join (λ u. nth_word (view m u) w)} {l = h.sets} b (λ i p. sym (w i p)))) ∙ e

pub view_opened : (n : Network) (p s : ℕ) (u : Station) → view (network_opened n p s) u ≡ opened_at (view n u) p s
unfolding network_opened opened_at number_at port_at
view_opened n p s station_0 = refl
view_opened n p s station_1 = refl
view_opened n p s station_2 = refl

pub view_left : (n : Network) (t : ℕ → Bool) (s : ℕ) (u : Station) → view (network_left n t s) u ≡ left_at (view n u) t s
unfolding network_left left_at number_at
view_left n t s station_0 = refl
view_left n t s station_1 = refl
view_left n t s station_2 = refl

-- of a step: that of the cell's station is stepped, any other as it was
one_view : (k : Kind) (s c : ℕ) (n : Network) (v u : Station)
    → ((v ≡ u) × (view (one_moved (λ h. stepped_at h k s c) v n) u ≡ stepped_at (view n u) k s c)) ⊎ (view (one_moved (λ h. stepped_at h k s c) v n) u ≡ view n u)
unfolding stepped_at
one_view k s c n station_0 station_0 = inl (refl, refl)
one_view k s c n station_0 station_1 = inr refl
one_view k s c n station_0 station_2 = inr refl
one_view k s c n station_1 station_0 = inr refl
one_view k s c n station_1 station_1 = inl (refl, refl)
one_view k s c n station_1 station_2 = inr refl
one_view k s c n station_2 station_0 = inr refl
one_view k s c n station_2 station_1 = inr refl
one_view k s c n station_2 station_2 = inl (refl, refl)

pub view_stepped : (n : Network) (k : Kind) (s c : ℕ) (u : Station)
    → ((station_of c ≡ u) × (view (network_stepped n k s c) u ≡ stepped_at (view n u) k s c)) ⊎ (view (network_stepped n k s c) u ≡ view n u)
unfolding network_stepped
view_stepped n k s c u = one_view k s c n (station_of c) u

one_there : (k : Kind) (s c : ℕ) (n : Network) (v : Station) → view (one_moved (λ h. stepped_at h k s c) v n) v ≡ stepped_at (view n v) k s c
unfolding stepped_at
one_there k s c n station_0 = refl
one_there k s c n station_1 = refl
one_there k s c n station_2 = refl

-- ---- an open and a slot that is left, joined

pub view_stepped_there : (n : Network) (k : Kind) (s c : ℕ) → view (network_stepped n k s c) (station_of c) ≡ stepped_at (view n (station_of c)) k s c
unfolding network_stepped
view_stepped_there n k s c = one_there k s c n (station_of c)

and_any : (b : Bool) (f : Station → Bool) → any (λ u. b && f u) ≡ b && any f
and_any true f = refl
and_any false f = refl

module _ (n : Network) (p s : ℕ) where
  leads_opened_joined : (i : ℕ) → i < most_open → joined_leads (network_opened n p s) i ≡ leads_at (opened_at (joined n) p s) i
  leads_opened_joined i q =
      seen
      ∙ join_same (λ u. leads_at (opened_at (view n u) p s) i) (λ u. cond (eqb i s) 0 (cond (o && has_past (view n u) i) (bit_or (without (leads u) s) (2 ^ s)) (without (leads u) s)))
      (λ u. unfold open_at in leads_opened (view n u) p s i q)
      ∙ join_blank (eqb i s) (λ u. cond (o && has_past (view n u) i) (bit_or (without (leads u) s) (2 ^ s)) (without (leads u) s))
      ∙ ap (cond (eqb i s) 0) (join_more (λ u. o && has_past (view n u) i) (λ u. without (leads u) s) (2 ^ s))
      ∙ ap₂ (λ (b : Bool) (x : ℕ). cond (eqb i s) 0 (cond b (bit_or x (2 ^ s)) x))
      (and_any o (λ u. has_past (view n u) i) ∙ ap (λ (b : Bool). o && b) (sym (past_joined n i q)))
      (join_without leads s ∙ ap (λ (x : ℕ). without x s) (leads_known n i ∙ sym (leads_joined n i q)))
      ∙ (unfold open_at joined in sym (leads_opened (joined n) p s i q))
    where
      o : Bool
      o = open_at (master n) i

      leads : Station → ℕ
      leads u = leads_at (view n u) i

      seen : joined_leads (network_opened n p s) i ≡ join (λ u. leads_at (opened_at (view n u) p s) i)
      seen = unfold joined_leads in join_same _ _ (λ u. ap (λ (h : Held). leads_at h i) (view_opened n p s u))

  words_opened_joined : (w : ℕ) → w < all_words → join (λ u. nth_word (view (network_opened n p s) u) w) ≡ nth_word (opened_at (joined n) p s) w
  words_opened_joined w q =
      join_same (λ u. nth_word (view (network_opened n p s) u) w) (λ u. cond (eqb (w / row_words) s) 0 (nth_word (view n u) w))
      (λ u. ap (λ (h : Held). nth_word h w) (view_opened n p s u) ∙ word_opened (view n u) p s w q)
      ∙ join_blank (eqb (w / row_words) s) (λ u. nth_word (view n u) w)
      ∙ ap (cond (eqb (w / row_words) s) 0) (sym (nth_joined n w q))
      ∙ sym (word_opened (joined n) p s w q)

  pub joined_opened : joined (network_opened n p s) ≡ opened_at (joined n) p s
  joined_opened = joined_is (network_opened n p s) (opened_at (joined n) p s) long_leads long_sets leads_opened_joined words_opened_joined rest
    where
      long_leads : length (opened_at (joined n) p s).leads ≡ most_open
      long_leads = unfold opened_at in refl

      long_sets : length (opened_at (joined n) p s).sets ≡ all_words
      long_sets = unfold opened_at in refl

      rest : state (network_opened n p s) (opened_at (joined n) p s).leads (opened_at (joined n) p s).sets ≡ opened_at (joined n) p s
      rest = unfold network_opened opened_at joined number_at port_at in refl

module _ (n : Network) (t : ℕ → Bool) (s : ℕ) (r : s < most_open) where
  leads_left_joined : (i : ℕ) → i < most_open → joined_leads (network_left n t s) i ≡ leads_at (left_at (joined n) t s) i
  leads_left_joined i q =
      seen
      ∙ join_same (λ u. leads_at (left_at (view n u) t s) i) (λ u. cond (eqb i s) 0 (without (cond (t i) (bit_or (leads i u) (bit_and (leads s u) m)) (leads i u)) s))
      (λ u. unfold open_at in leads_left (view n u) s t i q)
      ∙ join_blank (eqb i s) (λ u. without (cond (t i) (bit_or (leads i u) (bit_and (leads s u) m)) (leads i u)) s)
      ∙ ap (cond (eqb i s) 0)
      (join_without (λ u. cond (t i) (bit_or (leads i u) (bit_and (leads s u) m)) (leads i u)) s
      ∙ ap (λ (x : ℕ). without x s)
      (join_cond (t i) (λ u. bit_or (leads i u) (bit_and (leads s u) m)) (leads i)
      ∙ ap (λ (x : ℕ). cond (t i) x (join (leads i)))
      (join_or (leads i) (λ u. bit_and (leads s u) m) ∙ ap (bit_or (join (leads i))) (join_and (leads s) m))))
      ∙ ap₂ (λ (x y : ℕ). cond (eqb i s) 0 (without (cond (t i) (bit_or x (bit_and y m)) x) s)) (known i q) (known s r)
      ∙ (unfold open_at joined in sym (leads_left (joined n) s t i q))
    where
      m : ℕ
      m = mask_of most_open (open_at (master n))

      leads : ℕ → Station → ℕ
      leads i u = leads_at (view n u) i

      known : (i : ℕ) → i < most_open → join (leads i) ≡ leads_at (joined n) i
      known i q = leads_known n i ∙ sym (leads_joined n i q)

      seen : joined_leads (network_left n t s) i ≡ join (λ u. leads_at (left_at (view n u) t s) i)
      seen = unfold joined_leads in join_same _ _ (λ u. ap (λ (h : Held). leads_at h i) (view_left n t s u))

  words_left_joined : (w : ℕ) → w < all_words → join (λ u. nth_word (view (network_left n t s) u) w) ≡ nth_word (left_at (joined n) t s) w
  words_left_joined w q =
      let o = w % row_words in
      let i = w / row_words in
      let b = t i && leb past_place o in
      let mine : Station → ℕ = λ u. nth_word (view n u) w in
      let own : Station → ℕ = λ u. word_at (view n u) s (o - past_place) in
      let past : Station → ℕ = λ u. word_at (view n u) s o in
      join_same (λ u. nth_word (view (network_left n t s) u) w) (λ u. cond (eqb i s) 0 (cond b (bit_or (mine u) (bit_or (own u) (past u))) (mine u)))
      (λ u. ap (λ (h : Held). nth_word h w) (view_left n t s u) ∙ word_left (view n u) s t w q)
      ∙ join_blank (eqb i s) (λ u. cond b (bit_or (mine u) (bit_or (own u) (past u))) (mine u))
      ∙ ap (cond (eqb i s) 0)
      (join_cond b (λ u. bit_or (mine u) (bit_or (own u) (past u))) mine
      ∙ ap (λ (x : ℕ). cond b x (join mine)) (join_or mine (λ u. bit_or (own u) (past u)) ∙ ap (bit_or (join mine)) (join_or own past))
      ∙ ap₂ (λ (x y : ℕ). cond b (bit_or x y) x) (sym (nth_joined n w q))
      (ap₂ bit_or (sym (word_joined n s (o - past_place) r (omega arith))) (sym (word_joined n s o r (omega arith)))))
      ∙ sym (word_left (joined n) s t w q)

  pub joined_left : joined (network_left n t s) ≡ left_at (joined n) t s
  joined_left = joined_is (network_left n t s) (left_at (joined n) t s) long_leads long_sets leads_left_joined words_left_joined rest
    where
      long_leads : length (left_at (joined n) t s).leads ≡ most_open
      long_leads = unfold left_at in refl

      long_sets : length (left_at (joined n) t s).sets ≡ all_words
      long_sets = unfold left_at in refl

      rest : state (network_left n t s) (left_at (joined n) t s).leads (left_at (joined n) t s).sets ≡ left_at (joined n) t s
      rest = unfold network_left left_at joined number_at in refl

-- an end, an abandon
pub joined_ended : (n : Network) (s : ℕ) → s < most_open → joined (network_ended n s) ≡ ended_at (joined n) s
unfolding network_ended ended_at
joined_ended n s r = joined_left n (takes_over (joined n) s) s r

-- ---- every station has marks of its own cells alone

pub joined_abandoned : (n : Network) (s : ℕ) → s < most_open → joined (network_abandoned n s) ≡ abandoned_at (joined n) s
unfolding network_abandoned abandoned_at
joined_abandoned n s r = joined_left n (λ i. false) s r

-- what a test that is equal to another says
as_test : {a b : Bool} → a ≡ b → T a → T b
as_test e t = subst T e t

pub view_fresh : (first : ℕ) (u : Station) → view (fresh_network first) u ≡ fresh_held first
unfolding fresh_network fresh_held
view_fresh first station_0 = refl
view_fresh first station_1 = refl
view_fresh first station_2 = refl

fresh_cell : (first i o c : ℕ) → i < most_open → o + c / word_marks < row_words → cell_at (fresh_held first) i o c ≡ false
unfolding cell_at word_at fresh_held
fresh_cell first i o c p q = ap (λ (x : ℕ). bit x (c % word_marks)) (read_tab all_words (λ w. 0) (i * row_words + (o + c / word_marks)) (omega arith)) ∙ bit_zero (c % word_marks)

pub home_fresh : (first : ℕ) → Home (fresh_network first)
home_fresh first =
    record {
      own = λ u i a c p real t. absurd (false_is (ap (λ (x : Held). own_at x i a c) (view_fresh first u) ∙ fresh_cell first i (set_place a) c p (own_inside a c real)) t);
      past = λ u i a c p real t. absurd (false_is (ap (λ (x : Held). past_at x i a c) (view_fresh first u) ∙ fresh_cell first i (past_place + set_place a) c p (past_inside a c real)) t);
    }

-- ---- a step, joined

module _ {n : Network} (h : Home n) where
  pub home_opened : (p s : ℕ) → Home (network_opened n p s)
  home_opened p s =
      record {
        own = λ u i a c q real t. h.own u i a c q real ((and_test (not_test (eq_test i s)) (own_test (own_at (view n u) i a c))).holds
            (as_test (ap (λ (x : Held). own_at x i a c) (view_opened n p s u) ∙ opened_own_at (view n u) p s i q a c real) t)).1;
        past = λ u i a c q real t. h.past u i a c q real ((and_test (not_test (eq_test i s)) (own_test (past_at (view n u) i a c))).holds
            (as_test (ap (λ (x : Held). past_at x i a c) (view_opened n p s u) ∙ opened_past_at (view n u) p s i q a c real) t)).1;
      }

  pub home_stepped : (k : Kind) (s c : ℕ) → c < cells → Home (network_stepped n k s c)
  home_stepped k s c r =
      record {
        own = λ u i a d q real t.
            ⊎_elim
            (λ e.
            ⊎_elim (h.own u i a d q real) (λ m. ap station_of m.1.1 ∙ e.0)
            ((or_test (own_test (own_at (view n u) i a d)) (and_test (eq_test i s) (and_test (own_test (shows k a)) (eq_test d c)))).holds
            (as_test (ap (λ (x : Held). own_at x i a d) e.1 ∙ stepped_own_at (view n u) k s c i q r a d real) t)))
            (λ e. h.own u i a d q real (as_test (ap (λ (x : Held). own_at x i a d) e) t))
            (view_stepped n k s c u);
        past = λ u i a d q real t.
            ⊎_elim
            (λ e. h.past u i a d q real (as_test (ap (λ (x : Held). past_at x i a d) e.1 ∙ stepped_past_at (view n u) k s c i q r a d real) t))
            (λ e. h.past u i a d q real (as_test (ap (λ (x : Held). past_at x i a d) e) t))
            (view_stepped n k s c u);
      }

  pub home_left : (t : ℕ → Bool) (s : ℕ) → s < most_open → Home (network_left n t s)
  home_left t s r =
      record {
        own = λ u i a c q real x. h.own u i a c q real ((and_test (not_test (eq_test i s)) (own_test (own_at (view n u) i a c))).holds
            (as_test (ap (λ (y : Held). own_at y i a c) (view_left n t s u) ∙ left_own_at (view n u) t s i q a c real) x)).1;
        past = λ u i a c q real x.
            ⊎_elim (h.past u i a c q real) (λ m. ⊎_elim (h.own u s a c r real) (h.past u s a c r real) m.1)
            ((and_test (not_test (eq_test i s)) (or_test (own_test (past_at (view n u) i a c)) (and_test (own_test (t i)) (or_test (own_test (own_at (view n u) s a c)) (own_test (past_at (view n u) s a c)))))).holds
            (as_test (ap (λ (y : Held). past_at y i a c) (view_left n t s u) ∙ left_past_at (view n u) t s i q a c real) x)).1;
      }

-- what the station of the cell alone knows of it
module _ {n : Network} (h : Home n) (k : Kind) (s c i : ℕ) (p : i < most_open) (real : c < cells) where
  own_known : (a : Aspect) → own_at (joined n) i a c ≡ own_at (view n (station_of c)) i a c
  own_known a = cell_joined n i (set_place a) c p (own_inside a c real) ∙ any_one (λ u. own_at (view n u) i a c) (station_of c) (λ u t. h.own u i a c p real t)

  past_known : (a : Aspect) → past_at (joined n) i a c ≡ past_at (view n (station_of c)) i a c
  past_known a =
      cell_joined n i (past_place + set_place a) c p (past_inside a c real) ∙ any_one (λ u. past_at (view n u) i a c) (station_of c) (λ u t. h.past u i a c p real t)

  meets_known : (f g : Aspect → ℕ → Bool) → ((a : Aspect) → f a c ≡ g a c) → meets f k c ≡ meets g k c
  unfolding meets
  meets_known f g e = ap₂ (λ (x y : Bool). (shows k as_altered && x) || (shows k as_used && y)) (e as_used) (e as_altered)

  pub touched_joined : touched (joined n) k s c i ≡ touched (view n (station_of c)) k s c i
  unfolding touched
  touched_joined =
      let v = station_of c in
      ap₂ (λ (x y : Bool). (not (eqb i s) && x) || y)
      (meets_known (own_at (joined n) i) (own_at (view n v) i) own_known) (meets_known (past_at (joined n) i) (past_at (view n v) i) past_known)

-- one of three numbers has a mark added
abbrev at_one : Station → Bool → Station → Bool
at_one station_0 b station_0 = b
at_one station_0 b station_1 = false
at_one station_0 b station_2 = false
at_one station_1 b station_0 = false
at_one station_1 b station_1 = b
at_one station_1 b station_2 = false
at_one station_2 b station_0 = false
at_one station_2 b station_1 = false
at_one station_2 b station_2 = b

any_at : (v : Station) (b : Bool) → any (at_one v b) ≡ b
any_at station_0 b = or-false b
any_at station_1 b = or-false b
any_at station_2 b = refl

one_more : (v : Station) (b : Bool) (f : Station → ℕ) (m : ℕ) → join (λ u. cond (at_one v b u) (bit_or (f u) m) (f u)) ≡ cond b (bit_or (join f) m) (join f)
one_more v b f m = join_more (at_one v b) f m ∙ ap (λ (x : Bool). cond x (bit_or (join f) m) (join f)) (any_at v b)

-- ---- the facts

module _ (n : Network) (k : Kind) (s c : ℕ) where
  abbrev moved_one : Station → Network
  moved_one v = one_moved (λ h. stepped_at h k s c) v n

  leads_one : (i : ℕ) → i < most_open → (v : Station)
      → joined_leads (moved_one v) i ≡ cond (open_at (master n) i && touched (view n v) k s c i) (bit_or (joined_leads n i) (2 ^ s)) (joined_leads n i)
  leads_one i p v =
      (unfold joined_leads in
      join_same (λ u. leads_at (view (moved_one v) u) i) (λ u. cond (at_one v (open_at (master n) i && touched (view n v) k s c i) u) (bit_or (leads_at (view n u) i) (2 ^ s)) (leads_at (view n u) i)) (each v)
      ∙ one_more v (open_at (master n) i && touched (view n v) k s c i) (λ u. leads_at (view n u) i) (2 ^ s))
    where
      stepped : (u : Station) → leads_at (stepped_at (view n u) k s c) i ≡ cond (open_at (master n) i && touched (view n u) k s c i) (bit_or (leads_at (view n u) i) (2 ^ s)) (leads_at (view n u) i)
      stepped u = unfold open_at in leads_stepped (view n u) s k c i p

      at : (h g : Held) → h.leads ≡ g.leads → leads_at h i ≡ leads_at g i
      at h g e = unfold leads_at in ap (λ (l : List ℕ). get_or l i 0) e

      each : (v u : Station) → leads_at (view (moved_one v) u) i ≡ cond (at_one v (open_at (master n) i && touched (view n v) k s c i) u) (bit_or (leads_at (view n u) i) (2 ^ s)) (leads_at (view n u) i)
      each station_0 station_0 = at (view (moved_one station_0) station_0) (stepped_at (view n station_0) k s c) refl ∙ stepped station_0
      each station_0 station_1 = at (view (moved_one station_0) station_1) (view n station_1) refl
      each station_0 station_2 = at (view (moved_one station_0) station_2) (view n station_2) refl
      each station_1 station_0 = at (view (moved_one station_1) station_0) (view n station_0) refl
      each station_1 station_1 = at (view (moved_one station_1) station_1) (stepped_at (view n station_1) k s c) refl ∙ stepped station_1
      each station_1 station_2 = at (view (moved_one station_1) station_2) (view n station_2) refl
      each station_2 station_0 = at (view (moved_one station_2) station_0) (view n station_0) refl
      each station_2 station_1 = at (view (moved_one station_2) station_1) (view n station_1) refl
      each station_2 station_2 = at (view (moved_one station_2) station_2) (stepped_at (view n station_2) k s c) refl ∙ stepped station_2

  words_one : (w : ℕ) → w < all_words → (v : Station) → join (λ u. nth_word (view (moved_one v) u) w)
      ≡ cond (marks_word k s c w) (bit_or (join (λ u. nth_word (view n u) w)) (2 ^ (c % word_marks))) (join (λ u. nth_word (view n u) w))
  words_one w p v =
      join_same (λ u. nth_word (view (moved_one v) u) w) (λ u. cond (at_one v (marks_word k s c w) u) (bit_or (nth_word (view n u) w) (2 ^ (c % word_marks))) (nth_word (view n u) w)) (each v)
      ∙ one_more v (marks_word k s c w) (λ u. nth_word (view n u) w) (2 ^ (c % word_marks))
    where
      each : (v u : Station) → nth_word (view (moved_one v) u) w ≡ cond (at_one v (marks_word k s c w) u) (bit_or (nth_word (view n u) w) (2 ^ (c % word_marks))) (nth_word (view n u) w)
      each station_0 station_0 = word_stepped (view n station_0) s k c w p
      each station_0 station_1 = refl
      each station_0 station_2 = refl
      each station_1 station_0 = refl
      each station_1 station_1 = word_stepped (view n station_1) s k c w p
      each station_1 station_2 = refl
      each station_2 station_0 = refl
      each station_2 station_1 = refl
      each station_2 station_2 = word_stepped (view n station_2) s k c w p

  -- the master's are as they were
  one_state : (v : Station) (l w : List ℕ) → state (moved_one v) l w ≡ state n l w
  one_state station_0 l w = refl
  one_state station_1 l w = refl
  one_state station_2 l w = refl

  pub joined_stepped : Home n → c < cells → joined (network_stepped n k s c) ≡ stepped_at (joined n) k s c
  unfolding network_stepped
  joined_stepped h real =
      joined_is (moved_one v) (stepped_at (joined n) k s c) long_leads long_sets
      (λ i p.
      leads_one i p v
      ∙ ap₂ (λ (b : Bool) (x : ℕ). cond (open_at (master n) i && b) (bit_or x (2 ^ s)) x) (sym (touched_joined h k s c i p real)) (sym (leads_joined n i p))
      ∙ (unfold open_at joined in sym (leads_stepped (joined n) s k c i p)))
      (λ w p.
      words_one w p v
      ∙ ap (λ (x : ℕ). cond (marks_word k s c w) (bit_or x (2 ^ (c % word_marks))) x) (sym (nth_joined n w p))
      ∙ sym (word_stepped (joined n) s k c w p))
      (one_state v (stepped_at (joined n) k s c).leads (stepped_at (joined n) k s c).sets ∙ rest)
    where
      v : Station
      v = station_of c

      long_leads : length (stepped_at (joined n) k s c).leads ≡ most_open
      long_leads = unfold stepped_at in refl

      long_sets : length (stepped_at (joined n) k s c).sets ≡ all_words
      long_sets = unfold stepped_at in refl

      rest : state n (stepped_at (joined n) k s c).leads (stepped_at (joined n) k s c).sets ≡ stepped_at (joined n) k s c
      rest = unfold stepped_at joined in refl

-- a test of chains that agrees with another at the slots there are finds the same chains
reach_same : (e f : ℕ → ℕ → Bool) → ((i x : ℕ) → i < most_open → e i x ≡ f i x) → (ks : List ℕ) → ((k : ℕ) → k ∈ ks → k < most_open) → (p q : ℕ) → p < most_open
    → reach e ks p q ≡ reach f ks p q
reach_same e f h [] g p q r = h p q r
reach_same e f h (k ∷ ks) g p q r =
    let rest : (m : ℕ) → m ∈ ks → m < most_open = λ m i. g m (later i) in
    ap₂ ◌||◌ (reach_same e f h ks rest p q r) (ap₂ ◌&&◌ (reach_same e f h ks rest p k r) (reach_same e f h ks rest k q (g k here)))

-- the slot that a number means, where there is one, is an open slot
first_cases : (P : Option ℕ → Type 0) (l : List ℕ) → P none → ((s : ℕ) → s ∈ l → P (some s)) → P (first_in l)
first_cases P [] n f = n
first_cases P (s ∷ l) n f = f s here

slot_cases : (h : Held) (j : ℕ) (P : Option ℕ → Type 0) → P none → ((s : ℕ) → s < most_open → T (open_at h s) → P (some s)) → P (slot_of h j)
unfolding slot_of
slot_cases h j P z f =
    first_cases P (only (λ i. eqb (number_at h i) j) (open_slots h)) z
    (λ s m. let r = slot_from h (only_from (λ i. eqb (number_at h i) j) (open_slots h) m).0 in f s r.0 r.1)

-- ---- the moves a request can make

module _ {n : Network} (h : Home n) where
  back_joined : (k : Kind) (s c : ℕ) → s < most_open → c < cells → chain_back (asked n c) k s c ≡ chain_back (joined n) k s c
  unfolding chain_back
  back_joined k s c p real =
      reach_same (λ i x. bit (leads_at (asked n c) i) x || (eqb x s && touched (asked n c) k s c i)) (λ i x. bit (leads_at (joined n) i) x || (eqb x s && touched (joined n) k s c i))
      (λ i x q. ap₂ (λ (y : ℕ) (b : Bool). bit y x || (eqb x s && b)) (same_leads i) (same_touched i ∙ sym (touched_joined h k s c i q real)))
      (open_slots (asked n c)) (λ i m. (slot_from (asked n c) m).0) s s p
      ∙ ap (λ (l : List ℕ). reach (λ i x. bit (leads_at (joined n) i) x || (eqb x s && touched (joined n) k s c i)) l s s) same
    where
      same : open_slots (asked n c) ≡ open_slots (joined n)
      same = unfold open_slots open_at asked joined in refl

      same_leads : (i : ℕ) → leads_at (asked n c) i ≡ leads_at (joined n) i
      same_leads i = unfold leads_at asked joined in refl

      same_touched : (i : ℕ) → touched (asked n c) k s c i ≡ touched (view n (station_of c)) k s c i
      same_touched i = unfold touched cell_at word_at asked in refl

  pub facts_joined : Agree (network_facts n) (facts (joined n))
  unfolding network_facts facts
  facts_joined =
      record {
        is_open = λ j. unfold slot_of open_slots open_at number_at joined in refl;
        has_written = λ j o.
            slot_cases (master n) j (λ x. at_slot x (λ s. any (λ u. altered (view n u) s)) ≡ at_slot x (altered (joined n))) refl (λ s p r. sym (altered_joined n s p))
            ∙ ap (λ (x : Option ℕ). at_slot x (altered (joined n))) (same j);
        count = unfold open_slots open_at joined in refl;
        crowd = λ p q. unfold open_slots open_at port_at joined in refl;
        next = unfold joined in refl;
        closes = λ k j c o real.
            slot_cases (master n) j (λ x. at_slot x (λ s. chain_back (asked n c) k s c) ≡ at_slot x (λ s. chain_back (joined n) k s c)) refl (λ s p r. back_joined k s c p real)
            ∙ ap (λ (x : Option ℕ). at_slot x (λ s. chain_back (joined n) k s c)) (same j);
      }
    where
      same : (j : ℕ) → slot_of (master n) j ≡ slot_of (joined n) j
      same j = unfold slot_of open_slots open_at number_at joined in refl

-- a step leaves the master as it was
pub stepped_master : (n : Network) (k : Kind) (s c : ℕ) → master (network_stepped n k s c) ≡ master n
unfolding network_stepped
stepped_master n k s c = one_state n k s c (station_of c) [] []

module _ (P : Network → Type 0) (m : (n : Network) → P n → Moves P n) (n : Network) (p : P n) where
  kept_at : (j : ℕ) (f : ℕ → Network) → ((s : ℕ) → s < most_open → T (open_at (master n) s) → P (f s)) → P (with_slot (slot_of (master n) j) f n)
  kept_at j f g = slot_cases (master n) j (λ o. P (with_slot o f n)) p g

  ended_kept : (x : Network) → P x → (s : ℕ) → s < most_open → T (open_at (master x) s) → P (network_ended x s)
  unfolding network_ended joined
  ended_kept x y s q o = (m x y).leaves (takes_over (joined x) s) s q o (λ i t. unfold open_at joined in T_and_left (open_at (master x) i) (not (eqb i s) && bit (leads_at (joined x) i) s) t)

  moved_kept : (w : Want) (j c : ℕ) → first_of (tests (network_facts n) w j c) ≡ 0 → P (network_moved n w j c)
  unfolding network_moved tests network_facts free_slot network_abandoned
  moved_kept an_open j c z =
      first_cases (λ o. P (with_slot o (λ s. network_opened n j s) n)) (only (bit n.free) (upto most_open)) p
      (λ s i.
      let r = only_from (bit n.free) (upto most_open) i in
      (m n p).opens j s (upto_from most_open r.0) r.1 (below_bound numbers n.next (passed (leb numbers n.next) 5 _ z).0))
  moved_kept (a_step k) j c z = kept_at j (λ s. network_stepped n k s c) (λ s q o. (m n p).steps k s c q o (below_bound cells c (passed (leb cells c) 1 _ z).0))
  moved_kept an_end j c z = kept_at j (λ s. network_ended n s) (λ s q o. ended_kept n p s q o)
  moved_kept an_abandon j c z = kept_at j (λ s. network_left n (λ i. false) s) (λ s q o. (m n p).leaves (λ i. false) s q o (λ i t. absurd t))
  moved_kept a_publish j c z =
      kept_at j (λ s. network_ended (network_stepped n write s c) s)
      (λ s q o.
      ended_kept (network_stepped n write s c) ((m n p).steps write s c q o (below_bound cells c (passed (leb cells c) 1 _ z).0)) s q (subst (λ (x : Held). T (open_at x s)) (sym (stepped_master n write s c)) o))
  moved_kept nothing j c z = p

  -- what the three keep, every request keeps
  pub network_kept : (r : Request) → P (network_after n r)
  unfolding network_after code_of
  network_kept r =
      by_test (λ b. P (cond b (network_moved n (want r.kind) r.job r.cell) n)) (eq_test (code_of (network_facts n) r) 0)
      (λ z. moved_kept (want r.kind) r.job r.cell (passed (not (eqb r.byte1 0)) 0 _ z).1) (λ z. p)

-- ---- a request, joined

pub home_moves : {n : Network} → Home n → Moves Home n
home_moves h = record { opens = λ p s q f small. home_opened h p s; steps = λ k s c q o real. home_stepped h k s c real; leaves = λ t s q o only_open. home_left h t s q }

module _ {n : Network} (h : Home n) where
  joined_at : (j : ℕ) (f : ℕ → Network) (g : ℕ → Held) → ((s : ℕ) → s < most_open → joined (f s) ≡ g s)
      → joined (with_slot (slot_of (master n) j) f n) ≡ Rattle.held.specs.Held.with_slot (slot_of (joined n) j) g (joined n)
  joined_at j f g e =
      slot_cases (master n) j (λ o. joined (with_slot o f n) ≡ Rattle.held.specs.Held.with_slot o g (joined n)) refl (λ s p o. e s p)
      ∙ ap (λ (o : Option ℕ). Rattle.held.specs.Held.with_slot o g (joined n)) same
    where
      same : slot_of (master n) j ≡ slot_of (joined n) j
      same = unfold slot_of open_slots open_at number_at joined in refl

  joined_moved : (w : Want) (j c : ℕ) → first_of (tests (network_facts n) w j c) ≡ 0 → joined (network_moved n w j c) ≡ moved (joined n) w j c
  unfolding network_moved moved tests
  joined_moved an_open j c z = into (free_slot (master n)) ∙ ap (λ (o : Option ℕ). Rattle.held.specs.Held.with_slot o (λ s. opened_at (joined n) j s) (joined n)) same
    where
      into : (o : Option ℕ) → joined (with_slot o (λ s. network_opened n j s) n) ≡ Rattle.held.specs.Held.with_slot o (λ s. opened_at (joined n) j s) (joined n)
      into none = refl
      into (some s) = joined_opened n j s

      same : free_slot (master n) ≡ free_slot (joined n)
      same = unfold free_slot joined in refl
  joined_moved (a_step k) j c z =
      joined_at j (λ s. network_stepped n k s c) (λ s. stepped_at (joined n) k s c) (λ s p. joined_stepped n k s c h (below_bound cells c (passed (leb cells c) 1 _ z).0))
  joined_moved an_end j c z = joined_at j (λ s. network_ended n s) (λ s. ended_at (joined n) s) (λ s p. joined_ended n s p)
  joined_moved an_abandon j c z = joined_at j (λ s. network_abandoned n s) (λ s. abandoned_at (joined n) s) (λ s p. joined_abandoned n s p)
  joined_moved a_publish j c z =
      joined_at j (λ s. network_ended (network_stepped n write s c) s) (λ s. ended_at (stepped_at (joined n) write s c) s)
      (λ s p.
      joined_ended (network_stepped n write s c) s p
      ∙ ap (λ (x : Held). ended_at x s) (joined_stepped n write s c h (below_bound cells c (passed (leb cells c) 1 _ z).0)))
  joined_moved nothing j c z = refl

  -- a request leaves, joined, what it leaves of the joined state
  pub joined_after : (r : Request) → joined (network_after n r) ≡ after (joined n) r
  unfolding network_after after
  joined_after r =
      by_test (λ b. joined (cond b (network_moved n (want r.kind) r.job r.cell) n) ≡ cond b (moved (joined n) (want r.kind) r.job r.cell) (joined n)) (eq_test (code_of (network_facts n) r) 0)
      (λ z. joined_moved (want r.kind) r.job r.cell (granted z)) (λ z. refl)
      ∙ ap (λ (x : ℕ). cond (eqb x 0) (moved (joined n) (want r.kind) r.job r.cell) (joined n)) (agree_code (facts_joined h) r)
    where
      granted : code_of (network_facts n) r ≡ 0 → first_of (tests (network_facts n) (want r.kind) r.job r.cell) ≡ 0
      granted z = unfold code_of in (passed (not (eqb r.byte1 0)) 0 _ z).1

-- the fresh network, joined, is the fresh state
pub joined_fresh : (first : ℕ) → joined (fresh_network first) ≡ fresh_held first
joined_fresh first = joined_is (fresh_network first) (fresh_held first) long_leads long_sets leads words rest
  where
    long_leads : length (fresh_held first).leads ≡ most_open
    long_leads = unfold fresh_held in refl

    long_sets : length (fresh_held first).sets ≡ all_words
    long_sets = unfold fresh_held in refl

    leads : (i : ℕ) → i < most_open → joined_leads (fresh_network first) i ≡ leads_at (fresh_held first) i
    leads i p =
        sym (leads_known (fresh_network first) i)
        ∙ join_same (λ u. leads_at (view (fresh_network first) u) i) (λ u. leads_at (fresh_held first) i) (λ u. ap (λ (h : Held). leads_at h i) (view_fresh first u))
        ∙ join_const (leads_at (fresh_held first) i)

    words : (w : ℕ) → w < all_words → join (λ u. nth_word (view (fresh_network first) u) w) ≡ nth_word (fresh_held first) w
    words w p =
        join_same (λ u. nth_word (view (fresh_network first) u) w) (λ u. nth_word (fresh_held first) w) (λ u. ap (λ (h : Held). nth_word h w) (view_fresh first u))
        ∙ join_const (nth_word (fresh_held first) w)

    rest : state (fresh_network first) (fresh_held first).leads (fresh_held first).sets ≡ fresh_held first
    rest = unfold fresh_network fresh_held in refl
