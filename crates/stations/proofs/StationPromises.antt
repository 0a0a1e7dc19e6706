-- The promises of the three stations, one page. To be believed for them: Stations, of held Held, of history Events and Replies, and `Ranges` and `Blank` of HeldBlank.
--
-- In order: the answers are the one scheduler's, and so is what the three hold together; each station has marks of its own cells alone, numbers in range, and rows of open
-- jobs only; whom an open, a step, an end and an abandon reach; refusals; a publish. That what is folded in has to follow from the joined precedences is in Cases (`joined_needed`).
-- Assumes nothing.
use Rattle.std.specs.Prelude.{◌≡◌, Bool, false, not, List, [], ◌∷◌, ℕ, ◌^◌, ◌<◌, T}
use Rattle.std.proofs.Math.Path.{refl, sym, ap, subst}
use Rattle.std.proofs.Common.{ap₂, ◌∙◌}
use Rattle.std.proofs.Math.Logic.{⊎_elim}
use Rattle.std.proofs.Math.Bool.{cond}
use Rattle.std.proofs.Math.Option.{Option, none, some}
use Rattle.std.proofs.Math.Dec.{eqb}
use Rattle.graph.specs.Decide.{is_true, test_false, eq_test}
use Rattle.history.specs.Events.{Kind, write}
use Rattle.history.specs.Replies.{Request, Reply, Want, an_open, a_step, an_end, an_abandon, a_publish, want, first_of, tests, code_of, reply_of, replies}
use Rattle.history_laws.specs.ReplyLaws.{as_kind, publish_reply}
use Rattle.history_laws.specs.Granted.{passed, undenied, proper_step}
use Rattle.history_laws.specs.Exact.{agree_reply}
use Rattle.held.specs.Held.{Held, fresh_held, open_at, is_some, slot_of, opened_at, stepped_at, left_at, takes_over, free_slot, answer_to, answers, after_all}
use Rattle.held_laws.specs.HeldExact.{held_exact}
use Rattle.held_laws.specs.HeldBlank.{Ranges, ranges_moves, ranges_fresh, Blank, blank_moves, blank_fresh}
use Rattle.stations.specs.Stations.{Station, station_of, Network, master, view, joined, network_facts, network_opened, network_stepped, network_ended, network_abandoned, with_slot, network_moved, fresh_network, network_answer, network_after, network_answers, network_after_all, Home}
use Rattle.stations.specs.StationLaws.{Moves}
use Rattle.stations.proofs.StationLaws.{view_opened, view_stepped, view_stepped_there, view_left, view_fresh, home_fresh, home_moves, facts_joined, stepped_master, network_kept, joined_after, joined_fresh}
use Rattle.stations.specs.StationPromises.{Everywhere, PublishedNetwork, ReachesAll, ReachesOne}

-- ---- the answers

-- while every station has marks of its own cells alone, the network answers as the one scheduler does over the joined state
pub answers_joined : (n : Network) → Home n → (r : Request) → network_answer n r ≡ answer_to (joined n) r
unfolding network_answer answer_to
answers_joined n h r = agree_reply (facts_joined h) r

home_next : (n : Network) → Home n → (r : Request) → Home (network_after n r)
home_next n h r = network_kept Home (λ x. home_moves) n h r

all_answers : (n : Network) → Home n → (rs : List Request) → network_answers n rs ≡ answers (joined n) rs
all_answers n h [] = refl
all_answers n h (r ∷ rs) =
    ap₂ (λ (x : Reply) (l : List Reply). x ∷ l) (answers_joined n h r)
    (all_answers (network_after n r) (home_next n h r) rs ∙ ap (λ (x : Held). answers x rs) (joined_after h r))

all_joined : (n : Network) → Home n → (rs : List Request) → joined (network_after_all n rs) ≡ after_all (joined n) rs
all_joined n h [] = refl
all_joined n h (r ∷ rs) = all_joined (network_after n r) (home_next n h r) rs ∙ ap (λ (x : Held). after_all x rs) (joined_after h r)

-- from the fresh network of any first number, through any requests: the replies of the full history, one by one
pub stations_exact : (first : ℕ) (rs : List Request) → network_answers (fresh_network first) rs ≡ replies first rs
stations_exact first rs = all_answers (fresh_network first) (home_fresh first) rs ∙ ap (λ (x : Held). answers x rs) (joined_fresh first) ∙ held_exact first rs

-- ---- what each station holds

-- and the three hold together what the one scheduler holds, to the last bit
pub stations_joined : (first : ℕ) (rs : List Request) → joined (network_after_all (fresh_network first) rs) ≡ after_all (fresh_held first) rs
stations_joined first rs = all_joined (fresh_network first) (home_fresh first) rs ∙ ap (λ (x : Held). after_all x rs) (joined_fresh first)

kept_through : (P : Network → Type 0) → ((n : Network) → P n → Moves P n) → (n : Network) → P n → (rs : List Request) → P (network_after_all n rs)
kept_through P m n p [] = p
kept_through P m n p (r ∷ rs) = kept_through P m (network_after n r) (network_kept P m n p r) rs

-- marks of its own cells alone: every request keeps it so, and so it is from the fresh network on
pub home_after : (n : Network) → Home n → (r : Request) → Home (network_after n r)
home_after = home_next

pub home_always : (first : ℕ) (rs : List Request) → Home (network_after_all (fresh_network first) rs)
home_always first rs = kept_through Home (λ n. home_moves) (fresh_network first) (home_fresh first) rs

everywhere_moves : (P : Held → Type 0) → ((h : Held) → P h → Rattle.held_laws.specs.HeldMoves.Moves P h) → (n : Network) → Everywhere P n → Moves (Everywhere P) n
unfolding open_at
everywhere_moves P m n e =
    record {
      opens = λ p s q f small u. subst P (sym (view_opened n p s u)) ((m (view n u) (e u)).opens p s q f small);
      steps = λ k s c q o real u.
          ⊎_elim (λ v. subst P (sym v.1) ((m (view n u) (e u)).steps k s c q o real)) (λ v. subst P (sym v) (e u)) (view_stepped n k s c u);
      leaves = λ t s q o only_open u. subst P (sym (view_left n t s u)) ((m (view n u) (e u)).leaves t s q o only_open);
    }

-- the numbers stay in range; and what a station holds, it holds of open jobs: from the fresh network on, a row that is not open is blank at every station
pub ranges_everywhere : (n : Network) → Everywhere Ranges n → (r : Request) → Everywhere Ranges (network_after n r)
ranges_everywhere n g r = network_kept (Everywhere Ranges) (everywhere_moves Ranges (λ h. ranges_moves)) n g r

pub ranges_always : (first : ℕ) → first < 2 ^ 64 → (rs : List Request) → Everywhere Ranges (network_after_all (fresh_network first) rs)
ranges_always first q rs =
    kept_through (Everywhere Ranges) (everywhere_moves Ranges (λ h. ranges_moves)) (fresh_network first) (λ u. subst Ranges (sym (view_fresh first u)) (ranges_fresh first q)) rs

-- ---- whom a grant reaches

pub blank_always : (first : ℕ) (rs : List Request) → Everywhere Blank (network_after_all (fresh_network first) rs)
blank_always first rs =
    kept_through (Everywhere Blank) (everywhere_moves Blank (λ h. blank_moves)) (fresh_network first) (λ u. subst Blank (sym (view_fresh first u)) (blank_fresh first)) rs

-- a slot that there is
the_slot : (o : Option ℕ) → T (is_some o) → (s : ℕ) × (o ≡ some s)
the_slot none t = absurd t
the_slot (some s) t = (s, refl)

-- ---- refusals

module _ (n : Network) (r : Request) (z : code_of (network_facts n) r ≡ 0) where
  granted_left : (w : Want) → want r.kind ≡ w → network_after n r ≡ network_moved n w r.job r.cell
  unfolding network_after
  granted_left w e =
      ap (λ (x : ℕ). cond (eqb x 0) (network_moved n (want r.kind) r.job r.cell) n) z ∙ ap (λ (v : Want). network_moved n v r.job r.cell) e

  tested : (w : Want) → want r.kind ≡ w → first_of (tests (network_facts n) w r.job r.cell) ≡ 0
  unfolding code_of
  tested w e = subst (λ (v : Want). first_of (tests (network_facts n) v r.job r.cell) ≡ 0) e (passed (not (eqb r.byte1 0)) 0 _ z).1

  -- a granted open reaches every station
  pub open_reaches_all : want r.kind ≡ an_open → (s : ℕ) → free_slot (master n) ≡ some s → (u : Station) → view (network_after n r) u ≡ opened_at (view n u) r.job s
  unfolding network_moved
  open_reaches_all e s o u =
      ap (λ (x : Network). view x u) (granted_left an_open e ∙ ap (λ (x : Option ℕ). with_slot x (λ s. network_opened n r.job s) n) o) ∙ view_opened n r.job s u

  -- a granted end reaches every station, and at each the rows take over that lead to the slot by the joined leads
  pub end_reaches_all : want r.kind ≡ an_end → ReachesAll n r (λ s h. left_at h (takes_over (joined n) s) s)
  unfolding network_moved network_ended tests network_facts
  end_reaches_all e =
      let o = the_slot (slot_of (master n) r.job) (undenied (is_some (slot_of (master n) r.job)) (passed (not (is_some (slot_of (master n) r.job))) 2 0 (tested an_end e)).0) in
      record {
        slot = o.0;
        its_slot = o.1;
        at_each = λ u.
            ap (λ (x : Network). view x u) (granted_left an_end e ∙ ap (λ (x : Option ℕ). with_slot x (λ s. network_ended n s) n) o.1)
            ∙ view_left n (takes_over (joined n) o.0) o.0 u;
      }

  -- and so does an abandon; none takes over
  pub abandon_reaches_all : want r.kind ≡ an_abandon → ReachesAll n r (λ s h. left_at h (λ i. false) s)
  unfolding network_moved network_abandoned tests network_facts
  abandon_reaches_all e =
      let o = the_slot (slot_of (master n) r.job) (undenied (is_some (slot_of (master n) r.job)) (passed (not (is_some (slot_of (master n) r.job))) 2 _ (tested an_abandon e)).0) in
      record {
        slot = o.0;
        its_slot = o.1;
        at_each = λ u.
            ap (λ (x : Network). view x u) (granted_left an_abandon e ∙ ap (λ (x : Option ℕ). with_slot x (λ s. network_abandoned n s) n) o.1)
            ∙ view_left n (λ i. false) o.0 u;
      }

  -- a step reaches the station of its cell alone
  pub step_reaches_one : (k : Kind) → want r.kind ≡ a_step k → ReachesOne n r (λ s h. stepped_at h k s r.cell)
  unfolding network_moved tests network_facts
  step_reaches_one k e =
      let o = the_slot (slot_of (master n) r.job) (proper_step (network_facts n) k r.job r.cell (tested (a_step k) e)).0 in
      let left = granted_left (a_step k) e ∙ ap (λ (x : Option ℕ). with_slot x (λ s. network_stepped n k s r.cell) n) o.1 in
      record {
        slot = o.0;
        its_slot = o.1;
        there = ap (λ (x : Network). view x (station_of r.cell)) left ∙ view_stepped_there n k o.0 r.cell;
        others = λ u apart. ap (λ (x : Network). view x u) left ∙ ⊎_elim (λ v. absurd (apart v.0)) (λ v. v) (view_stepped n k o.0 r.cell u);
      }

-- ---- a publish

-- a refusal leaves the master and every station as they were, to the last bit
pub refusal_network : (n : Network) (r : Request) → ((network_answer n r).code ≡ 0 → ⊥) → network_after n r ≡ n
unfolding network_answer network_after reply_of
refusal_network n r f = ap (λ (b : Bool). cond b (network_moved n (want r.kind) r.job r.cell) n) (test_false (eq_test (code_of (network_facts n) r) 0) f)

module _ (n : Network) (r : Request) where
  write_code : code_of (network_facts n) (as_kind 6 r) ≡ code_of (network_facts n) (as_kind 3 r)
  unfolding code_of tests want
  write_code = refl

  module _ (z : code_of (network_facts n) (as_kind 6 r) ≡ 0) where
    unmarked_byte : T (eqb r.byte1 0)
    unfolding code_of
    unmarked_byte = undenied (eqb r.byte1 0) (passed (not (eqb r.byte1 0)) 0 _ z).0

    found : (s : ℕ) × (slot_of (master n) r.job ≡ some s)
    unfolding code_of tests want network_facts
    found = the_slot (slot_of (master n) r.job) (proper_step (network_facts n) write r.job r.cell (passed (not (eqb r.byte1 0)) 0 _ z).1).0

    abbrev written : Network
    written = network_stepped n write found.0 r.cell

    slot_stays : slot_of (master written) r.job ≡ some found.0
    slot_stays = ap (λ (x : Held). slot_of x r.job) (stepped_master n write found.0 r.cell) ∙ found.1

    write_left : network_after n (as_kind 3 r) ≡ written
    unfolding network_moved
    write_left =
        granted_left n (as_kind 3 r) (sym write_code ∙ z) (a_step write) (unfold want in refl)
        ∙ ap (λ (o : Option ℕ). with_slot o (λ s. network_stepped n write s r.cell) n) found.1

    ends_next : code_of (network_facts written) (as_kind 4 r) ≡ 0
    unfolding code_of tests want network_facts
    ends_next =
        ap (λ (b : Bool). cond (not b) 1 (cond (not (is_some (slot_of (master written) r.job))) 3 0)) (is_true {b = eqb r.byte1 0} unmarked_byte)
        ∙ ap (λ (o : Option ℕ). cond (not (is_some o)) 3 0) slot_stays

    publish_left : network_after n (as_kind 6 r) ≡ network_after written (as_kind 4 r)
    unfolding network_moved
    publish_left =
        granted_left n (as_kind 6 r) z a_publish (unfold want in refl)
        ∙ ap (λ (o : Option ℕ). with_slot o (λ s. network_ended (network_stepped n write s r.cell) s) n) found.1
        ∙ sym (ap (λ (o : Option ℕ). with_slot o (λ s. network_ended written s) written) slot_stays)
        ∙ sym (granted_left written (as_kind 4 r) ends_next an_end (unfold want in refl))

-- for any network, whatever it holds, and any request
pub publish_network : (n : Network) (r : Request) → PublishedNetwork n r
unfolding network_answer reply_of
publish_network n r =
    record {
      as_the_write = publish_reply (network_facts n) r;
      both = λ z. publish_left n r z ∙ ap (λ (x : Network). network_after x (as_kind 4 r)) (sym (write_left n r z));
      neither = λ f. (refusal_network n (as_kind 6 r) f, refusal_network n (as_kind 3 r) (λ z. f (write_code n r ∙ z)));
    }
