-- Two neighbouring steps of a history that are not in conflict, the other way round: the same jobs are opened, kept and abandoned, the same jobs precede the same (`swapped_precedes`), so the
-- same orders are accepted (`swapped_accepted`), and the lister gives the same one (`swapped_listed`). And the history that requests leave, from their replies alone (`history_logged`).
-- Assumes nothing.
use Rattle.std.specs.Prelude.{◌≡◌, ◌⊎◌, Bool, true, false, ℕ, T, eqb}
use Rattle.std.proofs.Math.Path.{refl, ap₂}
use Rattle.std.proofs.Common.{sym, ap, ◌∙◌, subst, inl, inr, ⊎_elim}
use Rattle.std.proofs.Math.Bool.{not, cond}
use Rattle.std.proofs.Math.Option.{some}
use mathlib.Core.List.Memᴰ
use mathlib.Core.List.{List, [], ◌∷◌, ◌++◌, append-nil, append_assoc}
use Rattle.graph.specs.Lists.{◌∈◌, later, only, Before, first, after, before_cons, before_in_left, before_in_right, before_across, before_append}
use Rattle.graph.specs.Listing.{LowestFirst, done, next}
use Rattle.history.specs.Events.{Kind, read, kinds_clash, Event, opens, steps, ends, abandons, History, gather, opened_by, abandoned_by, has, opened, abandoned, kept, kept_steps, Precedes}
use Rattle.history.specs.Replies.{Request, Reply, Want, an_open, a_step, an_end, an_abandon, a_publish, nothing, want, Facts, code_of, event_of, job_of, reply_of, granted_of, Book, blank_book, full, reply, book_after, replies_from, history_from, replies, history_of}
use Rattle.history.specs.Turns.{Turns}
use Rattle.history.specs.Orders.{Accepted, order_of}
use Rattle.history_laws.specs.TimeLaws.{Goes, by_steps, by_time, precedes_goes, goes_precedes}
use Rattle.history_laws.specs.OrderLaws.{accepted_forward, forward_accepted, order_lowest, lowest_order}
use Rattle.swaps.specs.SwapLaws.{Clear}
use Rattle.swaps.proofs.SwapLaws.{clear_sym}
use Rattle.swaps.specs.SwapOrders.{granted_by, logged}

-- ---- an event is one thing

-- the kind, the job and the cell of a step
abbrev job_in : Event → ℕ
job_in (opens j) = j
job_in (steps k j c) = j
job_in (ends j) = j
job_in (abandons j) = j

abbrev cell_in : Event → ℕ
cell_in (opens j) = 0
cell_in (steps k j c) = c
cell_in (ends j) = 0
cell_in (abandons j) = 0

abbrev kind_in : Event → Kind
kind_in (opens j) = read
kind_in (steps k j c) = k
kind_in (ends j) = read
kind_in (abandons j) = read

-- ---- two neighbours of a history

abbrev is_step : Event → Bool
is_step (opens j) = false
is_step (steps k j c) = true
is_step (ends j) = false
is_step (abandons j) = false

-- what gathers nothing from either of the two gathers the same
gather_swap : {X : Type 0} (f : Event → List X) (h : History) (e g : Event) (rest : History) → f e ≡ [] → f g ≡ [] → gather f (h ++ e ∷ g ∷ rest) ≡ gather f (h ++ g ∷ e ∷ rest)
gather_swap {X} f [] e g rest p q =
    ap₂ (λ (x y : List X). x ++ (y ++ gather f rest)) p q ∙ sym (ap₂ (λ (x y : List X). x ++ (y ++ gather f rest)) q p)
gather_swap {X} f (x ∷ h) e g rest p q = ap (λ (l : List X). f x ++ l) (gather_swap f h e g rest p q)

-- two members stand as they stood, but for the two neighbours themselves
before_swap : (h : History) (e g : Event) (rest : History) {x y : Event} → Before x y (h ++ e ∷ g ∷ rest) → Before x y (h ++ g ∷ e ∷ rest) ⊎ ((x ≡ e) × (y ≡ g))
before_swap h e g rest {x} {y} b =
    ⊎_elim (λ r. inl (before_in_left (g ∷ e ∷ rest) r))
    (⊎_elim (λ r. inl (before_across r.0 (both r.1)))
    (λ r. ⊎_elim
    (λ u. ⊎_elim (λ v. inr (u.0, v)) (λ v. inl (before_in_right h (after (first u.0 v)))) (Memᴰ.cases_cons u.1))
    (λ u. ⊎_elim (λ v. inl (before_in_right h (first v.0 (later v.1)))) (λ v. inl (before_in_right h (after (after v)))) (before_cons u))
    (before_cons r)))
    (before_append h b)
  where
    both : y ∈ e ∷ g ∷ rest → y ∈ g ∷ e ∷ rest
    both m = ⊎_elim (λ u. later (Memᴰ.head u)) (λ n. ⊎_elim (λ u. Memᴰ.head u) (λ v. later (later v)) (Memᴰ.cases_cons n)) (Memᴰ.cases_cons m)

-- the steps of two jobs, not in conflict: one first, or the other
module _ (h rest : History) (k : Kind) (i c : ℕ) (l : Kind) (j d : ℕ) where
  abbrev one_way : History
  one_way = h ++ steps k i c ∷ steps l j d ∷ rest

  abbrev other_way : History
  other_way = h ++ steps l j d ∷ steps k i c ∷ rest

  swapped_abandoned : abandoned one_way ≡ abandoned other_way
  unfolding abandoned
  swapped_abandoned = gather_swap abandoned_by h (steps k i c) (steps l j d) rest refl refl

  pub swapped_kept : kept one_way ≡ kept other_way
  unfolding kept opened
  swapped_kept = ap₂ (λ (x y : List ℕ). only (λ n. not (has x n)) y) swapped_abandoned (gather_swap opened_by h (steps k i c) (steps l j d) rest refl refl)

  module _ (apart : Clear k i c l j d) where
    goes_swap : {m n : ℕ} → (m ≡ n → ⊥) → Goes one_way m n → Goes other_way m n
    goes_swap {m} {n} others (by_steps {k = k'} {l = l'} {c = c'} t b) =
        ⊎_elim (λ r. by_steps t r)
        (λ r.
        let m_i : m ≡ i = ap job_in r.0 in
        let n_j : n ≡ j = ap job_in r.1 in
        let c_d : c ≡ d = sym (ap cell_in r.0) ∙ ap cell_in r.1 in
        absurd (⊎_elim (λ e. others (m_i ∙ e ∙ sym n_j)) (⊎_elim (λ f. f c_d) (λ f. f (subst T (ap₂ kinds_clash (ap kind_in r.0) (ap kind_in r.1)) t))) apart))
        (before_swap h (steps k i c) (steps l j d) rest b)
    goes_swap {m} {n} others (by_time b) =
        ⊎_elim (λ r. by_time r) (λ r. absurd (subst T (sym (ap is_step r.0)) tt)) (before_swap h (steps k i c) (steps l j d) rest b)

    pub swapped_precedes : (m n : ℕ) → Precedes (kept_steps one_way) m n → Precedes (kept_steps other_way) m n
    swapped_precedes m n p =
        let g = precedes_goes one_way p in
        goes_precedes other_way
        (record {
          others = g.others;
          first_kept = λ a. g.first_kept (subst (λ (x : List ℕ). m ∈ x) (sym swapped_abandoned) a);
          second_kept = λ a. g.second_kept (subst (λ (x : List ℕ). n ∈ x) (sym swapped_abandoned) a);
          goes = goes_swap g.others g.goes;
        })

-- a relation that holds of the same jobs has the same lowest-first order
lowest_same : {E F : ℕ → ℕ → Type 0} → ((m n : ℕ) → E m n → F m n) → ((m n : ℕ) → F m n → E m n) → {l o : List ℕ} → LowestFirst E l o → LowestFirst F l o
lowest_same to from done = done
lowest_same to from (next {j = j} m free least w) = next m (λ i k r. free i k (from i j r)) (λ i k r. least i k (λ n q x. r n q (to n i x))) (lowest_same to from w)

-- ---- the history that requests leave, from their replies

-- so the same orders are accepted
module _ (h rest : History) (k : Kind) (i c : ℕ) (l : Kind) (j d : ℕ) (apart : Clear k i c l j d) where
  pub swapped_accepted : Turns (one_way h rest k i c l j d) → Turns (other_way h rest k i c l j d) → {o : List ℕ} → Accepted (one_way h rest k i c l j d) o → Accepted (other_way h rest k i c l j d) o
  swapped_accepted t u {o} a =
      let f = accepted_forward (one_way h rest k i c l j d) t a in
      let e = swapped_kept h rest k i c l j d in
      forward_accepted (other_way h rest k i c l j d) u
      (record {
        once = f.once;
        names = λ n m. f.names n (subst (λ (x : List ℕ). n ∈ x) (sym e) m);
        named = λ n m. subst (λ (x : List ℕ). n ∈ x) e (f.named n m);
        forward = λ m n p q r.
            f.forward m n (subst (λ (x : List ℕ). m ∈ x) (sym e) p) (subst (λ (x : List ℕ). n ∈ x) (sym e) q)
            (swapped_precedes h rest l j d k i c (clear_sym k l apart) m n r);
      })

  -- and where there is one, the lister's is the same
  pub swapped_listed : Turns (one_way h rest k i c l j d) → Turns (other_way h rest k i c l j d) → {o : List ℕ} → order_of (one_way h rest k i c l j d) ≡ some o → order_of (other_way h rest k i c l j d) ≡ some o
  swapped_listed t u {o} e =
      lowest_order (other_way h rest k i c l j d) u
      (subst (λ (x : List ℕ). LowestFirst (Precedes (kept_steps (other_way h rest k i c l j d))) x o) (swapped_kept h rest k i c l j d)
      (lowest_same (swapped_precedes h rest k i c l j d apart) (swapped_precedes h rest l j d k i c (clear_sym k l apart)) (order_lowest (one_way h rest k i c l j d) t e)))

-- the job that a grant names is all that its event needs
event_named : (n : ℕ) (w : Want) (j c : ℕ) → event_of (job_of n w j) w j c ≡ event_of n w j c
unfolding event_of job_of
event_named n an_open j c = refl
event_named n (a_step k) j c = refl
event_named n an_end j c = refl
event_named n an_abandon j c = refl
event_named n a_publish j c = refl
event_named n nothing j c = refl

granted_as : (f : Facts) (r : Request) → granted_of f r ≡ granted_by (reply_of f r) r
unfolding granted_of reply_of
granted_as f r = go (eqb (code_of f r) 0)
  where
    w : Want
    w = want r.kind

    go : (b : Bool) → cond b (event_of f.next w r.job r.cell) [] ≡ cond b (event_of (cond b (job_of f.next w r.job) 0) w r.job r.cell) []
    go true = sym (event_named f.next w r.job r.cell)
    go false = refl

logged_from : (b : Book) (h : History) (rs : List Request) → history_from b h rs ≡ h ++ logged (replies_from b h rs) rs
unfolding Rattle.history.specs.Replies.after reply
logged_from b h [] = sym (append-nil h)
logged_from b h (r ∷ rs) =
    let es = granted_of (full b h) r in
    let more = logged (replies_from (book_after b h r) (h ++ es) rs) rs in
    logged_from (book_after b h r) (h ++ es) rs ∙ append_assoc h es more ∙ ap (λ (l : List Event). h ++ (l ++ more)) (granted_as (full b h) r)

pub history_logged : (start : ℕ) (rs : List Request) → history_of start rs ≡ logged (replies start rs) rs
history_logged start rs = logged_from (blank_book start) [] rs

-- of two lists one after the other
logged_across : (b : Book) (h : History) (rs : List Request) (ps : List Reply) (qs : List Request)
    → logged (replies_from b h rs ++ ps) (rs ++ qs) ≡ logged (replies_from b h rs) rs ++ logged ps qs
logged_across b h [] ps qs = refl
logged_across b h (r ∷ rs) ps qs =
    let x = granted_by (reply b h r) r in
    let left = Rattle.history.specs.Replies.after b h r in
    ap (λ (l : List Event). x ++ l) (logged_across (book_after b h r) left rs ps qs) ∙ sym (append_assoc x (logged (replies_from (book_after b h r) left rs) rs) (logged ps qs))

-- so of two neighbouring requests for steps that are granted
pub log_of : (start : ℕ) (rs : List Request) (k : Kind) (a : Request) (l : Kind) (b : Request) (rest : List Request) (x y : Reply) (more : List Reply)
    → want a.kind ≡ a_step k → want b.kind ≡ a_step l → x.code ≡ 0 → y.code ≡ 0
    → replies start (rs ++ a ∷ b ∷ rest) ≡ replies start rs ++ x ∷ y ∷ more
    → history_of start (rs ++ a ∷ b ∷ rest) ≡ history_of start rs ++ steps k a.job a.cell ∷ steps l b.job b.cell ∷ logged more rest
log_of start rs k a l b rest x y more asks_a asks_b zx zy e =
    history_logged start (rs ++ a ∷ b ∷ rest)
    ∙ ap (λ (ps : List Reply). logged ps (rs ++ a ∷ b ∷ rest)) e
    ∙ logged_across (blank_book start) [] rs (x ∷ y ∷ more) (a ∷ b ∷ rest)
    ∙ ap₂ (λ (p q : List Event). p ++ q) (sym (history_logged start rs))
    (ap₂ (λ (p q : List Event). p ++ (q ++ logged more rest)) (one_event k a x asks_a zx) (one_event l b y asks_b zy))
  where
    one_event : (k : Kind) (r : Request) (x : Reply) → want r.kind ≡ a_step k → x.code ≡ 0 → granted_by x r ≡ steps k r.job r.cell ∷ []
    one_event k r x asks z =
        unfold event_of in
        ap₂ (λ (n : ℕ) (w : Want). cond (eqb n 0) (event_of x.job w r.job r.cell) []) z asks
