-- One event moves the memory as it moves the history: a law for each of open, step, end and abandon, over any list of kept steps, ended
-- jobs and open jobs. A step is the lemma `into`, an end is the lemma `cut`; none assumes that there is no circle.
-- Assumes nothing.
use Rattle.std.specs.Prelude.{◌≡◌, refl, ◌⊎◌, not, ◌&&◌, ◌||◌, ℕ, T}
use Rattle.std.proofs.Math.Path.{sym, ap}
use Rattle.std.proofs.Common.{◌∙◌, subst}
use Rattle.std.proofs.Math.Logic.{inl, inr, ⊎_elim}
use mathlib.Core.List.Memᴰ
use mathlib.Core.List.{List, [], ◌∷◌, ◌++◌}
use Rattle.std.proofs.Math.Dec.{eqb}
use Rattle.graph.specs.Decide.{Decides, and_test, or_test, not_test, eq_test, own_test, read_as, some_test}
use Rattle.graph.specs.Lists.{◌∈◌, here, later, only, only_keeps, only_from, Before, before_nil, before_cons, before_left, before_right, before_in_left, before_across, before_append, before_only, before_from_only, strike, strike_keeps, strike_from}
use Rattle.graph.specs.Walk.{Via, one, step, Any, carry, relax, join, cut, uncut, into, circle_passes}
use Rattle.history.specs.Events.{Kind, read, write, add, kinds, Deed, does, opening, ending, deeds, clash, Step, Conflict, Precedes, Circular}
use Rattle.history_laws.specs.EventLaws.{precedes_in}
use Rattle.history.specs.Memory.{Footprint, Memory, meets, touches, same_kind, same_deed, step_in, blank, fold, open_in}
use Rattle.history.specs.Tables.{Touched, Led, Own, Past, Leads, TellsOf}

-- ---- kinds and deeds

pub every_kind : (k : Kind) → k ∈ kinds
every_kind read = here
every_kind write = later here
every_kind add = later (later here)

pub kind_test : (k l : Kind) → Decides (same_kind k l) (k ≡ l)
unfolding same_kind
kind_test read read = record { holds = λ t. refl; shows = λ e. tt }
kind_test read write = record { holds = λ t. absurd t; shows = λ e. subst (λ (k : Kind). T (same_kind read k)) e tt }
kind_test read add = record { holds = λ t. absurd t; shows = λ e. subst (λ (k : Kind). T (same_kind read k)) e tt }
kind_test write read = record { holds = λ t. absurd t; shows = λ e. subst (λ (k : Kind). T (same_kind write k)) e tt }
kind_test write write = record { holds = λ t. refl; shows = λ e. tt }
kind_test write add = record { holds = λ t. absurd t; shows = λ e. subst (λ (k : Kind). T (same_kind write k)) e tt }
kind_test add read = record { holds = λ t. absurd t; shows = λ e. subst (λ (k : Kind). T (same_kind add k)) e tt }
kind_test add write = record { holds = λ t. absurd t; shows = λ e. subst (λ (k : Kind). T (same_kind add k)) e tt }
kind_test add add = record { holds = λ t. refl; shows = λ e. tt }

pub every_deed : (d : Deed) → d ∈ deeds
every_deed (does read) = here
every_deed (does write) = later here
every_deed (does add) = later (later here)
every_deed opening = later (later (later here))
every_deed ending = later (later (later (later here)))

-- a deed is the same as itself
deed_same : (d : Deed) → T (same_deed d d)
unfolding same_deed same_kind
deed_same (does read) = tt
deed_same (does write) = tt
deed_same (does add) = tt
deed_same opening = tt
deed_same ending = tt

same_deed_is : (d e : Deed) → T (same_deed d e) → d ≡ e
unfolding same_deed
same_deed_is (does k) (does l) t = ap does ((kind_test k l).holds t)
same_deed_is (does k) opening t = absurd t
same_deed_is (does k) ending t = absurd t
same_deed_is opening (does l) t = absurd t
same_deed_is opening opening t = refl
same_deed_is opening ending t = absurd t
same_deed_is ending (does l) t = absurd t
same_deed_is ending opening t = absurd t
same_deed_is ending ending t = refl

pub deed_test : (d e : Deed) → Decides (same_deed d e) (d ≡ e)
deed_test d e = record { holds = same_deed_is d e; shows = λ q. subst (λ (x : Deed). T (same_deed d x)) q (deed_same d) }

-- a footprint meets a step when something in it on the step's cell clashes with it
pub record Meets (F : Deed → ℕ → Type 0) (d : Deed) (c : ℕ) : Type 0 where
  pub deed : Deed
  pub marked : F deed c
  pub clashes : T (clash deed d)

pub meets_test : {f : Footprint} {F : Deed → ℕ → Type 0} → ((d : Deed) (c : ℕ) → Decides (f d c) (F d c)) → (d : Deed) (c : ℕ) → Decides (meets f d c) (Meets F d c)
unfolding meets
meets_test {f} {F} t d c =
    read_as (some_test (λ e. and_test (t e c) (own_test (clash e d))) deeds)
    (λ r. record { deed = r.0; marked = r.2.0; clashes = r.2.1 })
    (λ r. (r.deed, every_deed r.deed, (r.marked, r.clashes)))

-- ---- one more step

-- a job with a step that conflicts with the step a
pub record Met (s : List Step) (a : Step) (i : ℕ) : Type 0 where
  pub step : Step
  pub granted : step ∈ s
  pub its_job : step.job ≡ i
  pub conflicting : Conflict step a

module _ (s : List Step) (a : Step) where
  pub precedes_old : {p q : ℕ} → Precedes s p q → Precedes (s ++ a ∷ []) p q
  precedes_old r = precedes_in r (before_in_left (a ∷ []) r.in_order)

  pub precedes_new : {i : ℕ} → Met s a i → Precedes (s ++ a ∷ []) i a.job
  precedes_new n = record { earlier = n.step; later = a; in_order = before_across n.granted here; conflicting = n.conflicting; earlier_job = n.its_job; later_job = refl }

  -- all new precedences point into the step's job
  pub precedes_last : (p q : ℕ) → Precedes (s ++ a ∷ []) p q → Precedes s p q ⊎ ((q ≡ a.job) × Met s a p)
  precedes_last p q r = ⊎_elim old (⊎_elim across (λ b. absurd (⊎_elim (λ e. Memᴰ.not-nil e.1) before_nil (before_cons b)))) (before_append s r.in_order)
    where
      old : Before r.earlier r.later s → Precedes s p q ⊎ ((q ≡ a.job) × Met s a p)
      old b = inl (precedes_in r b)

      across : (r.earlier ∈ s) × (r.later ∈ a ∷ []) → Precedes s p q ⊎ ((q ≡ a.job) × Met s a p)
      across m =
          let e : r.later ≡ a = Memᴰ.eq_of_singleton m.1 in
          inr (sym r.later_job ∙ ap (λ (x : Step). x.job) e, record { step = r.earlier; granted = m.0; its_job = r.earlier_job; conflicting = subst (λ (x : Step). Conflict r.earlier x) e r.conflicting })

  -- a step that none before it conflicts with closes no circle
  pub calm_last : ((x : Step) → x ∈ s → Conflict x a → ⊥) → Circular (s ++ a ∷ []) → Circular s
  calm_last calm z = (z.0, carry (λ p q r. ⊎_elim (λ o. o) (λ n. absurd (calm n.1.step n.1.granted n.1.conflicting)) (precedes_last p q r)) (λ x h. h) z.1)

  -- nor does the first step of a job, as its job precedes none
  pub first_last : ((x : Step) → x ∈ s → x.job ≡ a.job → ⊥) → Circular (s ++ a ∷ []) → Circular s
  first_last idle z = ⊎_elim (λ c. c) (λ w. absurd (leaves w)) (circle_passes precedes_last z)
    where
      out : {q : ℕ} → Precedes (s ++ a ∷ []) a.job q → ⊥
      out {q} r =
          ⊎_elim (λ o. idle o.earlier (before_left o.in_order) o.earlier_job) (λ n. idle n.1.step n.1.granted n.1.its_job)
          (precedes_last a.job q r)

      leaves : {q : ℕ} → Via (Precedes (s ++ a ∷ [])) Any a.job q → ⊥
      leaves (one r) = out r
      leaves (step r h w) = out r

  pub touched_old : {j : ℕ} {d : Deed} {c : ℕ} → Touched s j d c → Touched (s ++ a ∷ []) j d c
  touched_old r = record { step = r.step; granted = Memᴰ.append_left (a ∷ []) r.granted; its_job = r.its_job; its_deed = r.its_deed; its_cell = r.its_cell }

  pub touched_last : {j : ℕ} {d : Deed} {c : ℕ} → Touched (s ++ a ∷ []) j d c → Touched s j d c ⊎ ((j ≡ a.job) × ((d ≡ a.deed) × (c ≡ a.cell)))
  touched_last {j} {d} {c} r = ⊎_elim (λ m. inl (record { step = r.step; granted = m; its_job = r.its_job; its_deed = r.its_deed; its_cell = r.its_cell })) fresh (Memᴰ.append_cases s r.granted)
    where
      fresh : r.step ∈ a ∷ [] → Touched s j d c ⊎ ((j ≡ a.job) × ((d ≡ a.deed) × (c ≡ a.cell)))
      fresh m =
          let e : r.step ≡ a = Memᴰ.eq_of_singleton m in
          inr (sym r.its_job ∙ ap (λ (x : Step). x.job) e, (sym r.its_deed ∙ ap (λ (x : Step). x.deed) e, sym r.its_cell ∙ ap (λ (x : Step). x.cell) e))

module _ {s : List Step} {gone now : List ℕ} {m : Memory} (tells : TellsOf s gone now m) (apart : (i : ℕ) → i ∈ now → i ∈ gone → ⊥) where
  module _ (a : Step) (open_job : a.job ∈ now) where
    -- who comes to lead to the step's job: the job or an ended one that it leads to has a step in conflict
    abbrev Reaches : ℕ → Type 0
    Reaches i = Met s a i ⊎ ((x : ℕ) × Led s gone i x × (x ∈ gone) × Met s a x)

    own_met : {i : ℕ} → (i ≡ a.job → ⊥) → Meets (Own s now i) a.deed a.cell → Met s a i
    own_met {i} other r =
        let t = r.marked.touched in
        record {
          step = t.step;
          granted = t.granted;
          its_job = t.its_job;
          conflicting = record { others = λ e. other (sym t.its_job ∙ e); same_cell = t.its_cell; clashes = subst (λ (d : Deed). T (clash d a.deed)) (sym t.its_deed) r.clashes };
        }

    past_met : {i : ℕ} → Meets (Past s gone now i) a.deed a.cell → Reaches i
    past_met {i} r =
        let p = r.marked in
        let t = p.touched in
        inr (
          p.job,
          p.walk,
          p.is_ended,
          record {
            step = t.step;
            granted = t.granted;
            its_job = t.its_job;
            conflicting = record {
              others = λ e. apart a.job open_job (Memᴰ.cast (sym e ∙ t.its_job) p.is_ended);
              same_cell = t.its_cell;
              clashes = subst (λ (d : Deed). T (clash d a.deed)) (sym t.its_deed) r.clashes;
            };
          },
        )

    met_own : {i : ℕ} → i ∈ now → Met s a i → Meets (Own s now i) a.deed a.cell
    met_own o n =
        record {
          deed = n.step.deed;
          clashes = n.conflicting.clashes;
          marked = record { is_open = o; touched = record { step = n.step; granted = n.granted; its_job = n.its_job; its_deed = refl; its_cell = n.conflicting.same_cell } };
        }

    met_past : {i : ℕ} → i ∈ now → (x : ℕ) × Led s gone i x × (x ∈ gone) × Met s a x → Meets (Past s gone now i) a.deed a.cell
    met_past o r =
        let n = r.3 in
        record {
          deed = n.step.deed;
          clashes = n.conflicting.clashes;
          marked = record { is_open = o; job = r.0; is_ended = r.2; walk = r.1; touched = record { step = n.step; granted = n.granted; its_job = n.its_job; its_deed = refl; its_cell = n.conflicting.same_cell } };
        }

    touches_test : (i : ℕ) → Decides (touches m a.deed a.job a.cell i) (((i ≡ a.job → ⊥) × Meets (Own s now i) a.deed a.cell) ⊎ Meets (Past s gone now i) a.deed a.cell)
    unfolding touches
    touches_test i = or_test (and_test (not_test (eq_test i a.job)) (meets_test (tells.own i) a.deed a.cell)) (meets_test (tells.past i) a.deed a.cell)

    -- the walks with ended inner jobs after the step: an old one, or one into the step's job
    led_last : {i x : ℕ} → Led (s ++ a ∷ []) gone i x → Led s gone i x ⊎ ((x ≡ a.job) × Reaches i)
    led_last w = ⊎_elim inl (λ r. inr (r.0, ⊎_elim inl (λ n. inr (n.0, n.1, n.2, n.3)) r.1)) (into (precedes_last s a) (apart a.job open_job) w)

    led_old : {i x : ℕ} → Led s gone i x → Led (s ++ a ∷ []) gone i x
    led_old w = carry (λ p q. precedes_old s a) (λ p h. h) w

    led_new : {i : ℕ} → Reaches i → Led (s ++ a ∷ []) gone i a.job
    led_new (inl n) = one (precedes_new s a n)
    led_new (inr r) = join (led_old r.1) r.2 (one (precedes_new s a r.3))

    pub tells_step : TellsOf (s ++ a ∷ []) gone now (step_in m a.deed a.job a.cell)
    unfolding step_in
    tells_step = record { jobs = tells.jobs; own = own_tells; past = past_tells; leads = leads_tells }
      where
        own_tells : (i : ℕ) (d : Deed) (c : ℕ) → Decides (m.own i d c || (eqb i a.job && (same_deed d a.deed && eqb c a.cell))) (Own (s ++ a ∷ []) now i d c)
        own_tells i d c =
            read_as (or_test (tells.own i d c) (and_test (eq_test i a.job) (and_test (deed_test d a.deed) (eq_test c a.cell))))
            (⊎_elim (λ r. record { is_open = r.is_open; touched = touched_old s a r.touched })
            (λ r. record { is_open = Memᴰ.cast r.0 open_job; touched = record { step = a; granted = Memᴰ.append_right s here; its_job = sym r.0; its_deed = sym r.1.0; its_cell = sym r.1.1 } }))
            (λ r. ⊎_elim (λ t. inl (record { is_open = r.is_open; touched = t })) inr (touched_last s a r.touched))

        past_tells : (i : ℕ) (d : Deed) (c : ℕ) → Decides (m.past i d c) (Past (s ++ a ∷ []) gone now i d c)
        past_tells i d c =
            read_as (tells.past i d c)
            (λ r. record { is_open = r.is_open; job = r.job; is_ended = r.is_ended; walk = led_old r.walk; touched = touched_old s a r.touched })
            (λ r.
            let no : (r.job ≡ a.job) → ⊥ = λ e. apart a.job open_job (Memᴰ.cast (sym e) r.is_ended) in
            record {
              is_open = r.is_open;
              job = r.job;
              is_ended = r.is_ended;
              walk = ⊎_elim (λ w. w) (λ w. absurd (no w.0)) (led_last r.walk);
              touched = ⊎_elim (λ t. t) (λ t. absurd (no t.0)) (touched_last s a r.touched);
            })

        leads_tells : (i x : ℕ) → Decides (m.leads i x || (eqb x a.job && touches m a.deed a.job a.cell i)) (Leads (s ++ a ∷ []) gone now i x)
        leads_tells i x =
            read_as (or_test (tells.leads i x) (and_test (eq_test x a.job) (touches_test i)))
            (⊎_elim (λ r. record { from_open = r.from_open; to_open = r.to_open; walk = led_old r.walk })
            (λ r. record {
              from_open = ⊎_elim (λ q. q.1.marked.is_open) (λ q. q.marked.is_open) r.1;
              to_open = Memᴰ.cast r.0 open_job;
              walk = subst (λ (y : ℕ). Led (s ++ a ∷ []) gone i y) (sym r.0) (led_new (⊎_elim (λ q. inl (own_met q.0 q.1)) past_met r.1));
            }))
            (λ r. ⊎_elim (λ w. inl (record { from_open = r.from_open; to_open = r.to_open; walk = w })) (λ w. inr (w.0, ⊎_elim (λ n. inl (λ e. n.conflicting.others (n.its_job ∙ e), met_own r.from_open n)) (λ n. inr (met_past r.from_open n)) w.1)) (led_last r.walk))

  -- ---- an end

  module _ (j : ℕ) (open_job : j ∈ now) where
    led_ended : {i x : ℕ} → Led s (gone ++ j ∷ []) i x → Led s gone i x ⊎ (Led s gone i j × Led s gone j x)
    led_ended w = cut (relax (λ n h. ⊎_elim inl (λ e. inr (Memᴰ.eq_of_singleton e)) (Memᴰ.append_cases gone h)) w)

    led_ending : {i x : ℕ} → Led s gone i x ⊎ (Led s gone i j × Led s gone j x) → Led s (gone ++ j ∷ []) i x
    led_ending w = relax (λ n. ⊎_elim (Memᴰ.append_left (j ∷ [])) (λ e. Memᴰ.append_right gone (Memᴰ.head e))) (uncut w)

    pub tells_end : TellsOf s (gone ++ j ∷ []) (strike j now) (blank (fold m j) j)
    unfolding blank fold
    tells_end = record { jobs = ap (strike j) tells.jobs; own = own_tells; past = past_tells; leads = leads_tells }
      where
        own_tells : (i : ℕ) (d : Deed) (c : ℕ) → Decides (not (eqb i j) && m.own i d c) (Own s (strike j now) i d c)
        own_tells i d c =
            read_as (and_test (not_test (eq_test i j)) (tells.own i d c))
            (λ r. record { is_open = strike_keeps r.1.is_open r.0; touched = r.1.touched })
            (λ r. let f = strike_from j now r.is_open in (f.1, record { is_open = f.0; touched = r.touched }))

        past_tells : (i : ℕ) (d : Deed) (c : ℕ)
            → Decides (not (eqb i j) && (m.past i d c || (m.leads i j && (m.own j d c || m.past j d c)))) (Past s (gone ++ j ∷ []) (strike j now) i d c)
        past_tells i d c =
            read_as (and_test (not_test (eq_test i j)) (or_test (tells.past i d c) (and_test (tells.leads i j) (or_test (tells.own j d c) (tells.past j d c)))))
            (λ r. ⊎_elim
            (λ p. record { is_open = strike_keeps p.is_open r.0; job = p.job; is_ended = Memᴰ.append_left (j ∷ []) p.is_ended; walk = led_ending (inl p.walk); touched = p.touched })
            (λ q. ⊎_elim
            (λ o. record { is_open = strike_keeps q.0.from_open r.0; job = j; is_ended = Memᴰ.append_right gone here; walk = led_ending (inl q.0.walk); touched = o.touched })
            (λ p. record { is_open = strike_keeps q.0.from_open r.0; job = p.job; is_ended = Memᴰ.append_left (j ∷ []) p.is_ended; walk = led_ending (inr (q.0.walk, p.walk)); touched = p.touched })
            q.1)
            r.1)
            (λ r.
            let f = strike_from j now r.is_open in
            let to_j : Led s gone i j → Leads s gone now i j = λ w. record { from_open = f.0; to_open = open_job; walk = w } in (
              f.1,
              ⊎_elim
                  (λ g. ⊎_elim
                  (λ w. inl (record { is_open = f.0; job = r.job; is_ended = g; walk = w; touched = r.touched }))
                  (λ w. inr (to_j w.0, inr (record { is_open = open_job; job = r.job; is_ended = g; walk = w.1; touched = r.touched })))
                  (led_ended r.walk))
                  (λ g.
                  let e : r.job ≡ j = Memᴰ.eq_of_singleton g in
                  inr (
                    to_j (subst (λ (y : ℕ). Led s gone i y) e (⊎_elim (λ w. w) (λ w. subst (λ (y : ℕ). Led s gone i y) (sym e) w.0) (led_ended r.walk))),
                    inl (record { is_open = open_job; touched = subst (λ (y : ℕ). Touched s y d c) e r.touched }),
                  ))
                  (Memᴰ.append_cases gone r.is_ended),
            ))

        leads_tells : (i x : ℕ) → Decides (not (eqb i j) && (not (eqb x j) && (m.leads i x || (m.leads i j && m.leads j x)))) (Leads s (gone ++ j ∷ []) (strike j now) i x)
        leads_tells i x =
            read_as (and_test (not_test (eq_test i j)) (and_test (not_test (eq_test x j)) (or_test (tells.leads i x) (and_test (tells.leads i j) (tells.leads j x)))))
            (λ r. ⊎_elim
            (λ l. record { from_open = strike_keeps l.from_open r.0; to_open = strike_keeps l.to_open r.1.0; walk = led_ending (inl l.walk) })
            (λ l. record { from_open = strike_keeps l.0.from_open r.0; to_open = strike_keeps l.1.to_open r.1.0; walk = led_ending (inr (l.0.walk, l.1.walk)) })
            r.1.1)
            (λ r.
            let f = strike_from j now r.from_open in
            let t = strike_from j now r.to_open in (
              f.1,
              (
                t.1,
                ⊎_elim
                    (λ w. inl (record { from_open = f.0; to_open = t.0; walk = w }))
                    (λ w. inr (record { from_open = f.0; to_open = open_job; walk = w.0 }, record { from_open = open_job; to_open = t.0; walk = w.1 }))
                    (led_ended r.walk),
              ),
            ))

    -- ---- an abandon

    abbrev without : List Step
    without = only (λ a. not (eqb a.job j)) s

    stays : (a : Step) {i : ℕ} → a.job ≡ i → (i ≡ j → ⊥) → T (not (eqb a.job j))
    stays a e h = (not_test (eq_test a.job j)).shows (λ q. h (sym e ∙ q))

    precedes_kept : (p q : ℕ) → (p ≡ j → ⊥) → (q ≡ j → ⊥) → Precedes s p q → Precedes without p q
    precedes_kept p q hp hq r = precedes_in r (before_only (λ a. not (eqb a.job j)) (stays r.earlier r.earlier_job hp) (stays r.later r.later_job hq) r.in_order)

    precedes_had : (p q : ℕ) → Precedes without p q → Precedes s p q
    precedes_had p q r = precedes_in r (before_from_only (λ a. not (eqb a.job j)) s r.in_order)

    -- an open job is never inside a chain by ended jobs, so none of those between other jobs is lost
    led_kept : {i x : ℕ} → (i ≡ j → ⊥) → (x ≡ j → ⊥) → Led s gone i x → Led without gone i x
    led_kept hi hx (one {p = p} {q = q} e) = one (precedes_kept p q hi hx e)
    led_kept hi hx (step {p = p} {m = n} e h w) =
        let hn : (n ≡ j) → ⊥ = λ q. apart j open_job (Memᴰ.cast (sym q) h) in
        step (precedes_kept p n hi hn e) h (led_kept hn hx w)

    led_had : {i x : ℕ} → Led without gone i x → Led s gone i x
    led_had w = carry precedes_had (λ p h. h) w

    touched_kept : {i : ℕ} {d : Deed} {c : ℕ} → (i ≡ j → ⊥) → Touched s i d c → Touched without i d c
    touched_kept h t = record { step = t.step; granted = only_keeps (λ a. not (eqb a.job j)) t.granted (stays t.step t.its_job h); its_job = t.its_job; its_deed = t.its_deed; its_cell = t.its_cell }

    touched_had : {i : ℕ} {d : Deed} {c : ℕ} → Touched without i d c → Touched s i d c
    touched_had t = record { step = t.step; granted = (only_from (λ a. not (eqb a.job j)) s t.granted).0; its_job = t.its_job; its_deed = t.its_deed; its_cell = t.its_cell }

    pub tells_abandon : TellsOf without gone (strike j now) (blank m j)
    unfolding blank
    tells_abandon = record { jobs = ap (strike j) tells.jobs; own = own_tells; past = past_tells; leads = leads_tells }
      where
        own_tells : (i : ℕ) (d : Deed) (c : ℕ) → Decides (not (eqb i j) && m.own i d c) (Own without (strike j now) i d c)
        own_tells i d c =
            read_as (and_test (not_test (eq_test i j)) (tells.own i d c))
            (λ r. record { is_open = strike_keeps r.1.is_open r.0; touched = touched_kept r.0 r.1.touched })
            (λ r. let f = strike_from j now r.is_open in (f.1, record { is_open = f.0; touched = touched_had r.touched }))

        past_tells : (i : ℕ) (d : Deed) (c : ℕ) → Decides (not (eqb i j) && m.past i d c) (Past without gone (strike j now) i d c)
        past_tells i d c =
            read_as (and_test (not_test (eq_test i j)) (tells.past i d c))
            (λ r.
            let p = r.1 in
            let hx : (p.job ≡ j) → ⊥ = λ q. apart j open_job (Memᴰ.cast (sym q) p.is_ended) in
            record { is_open = strike_keeps p.is_open r.0; job = p.job; is_ended = p.is_ended; walk = led_kept r.0 hx p.walk; touched = touched_kept hx p.touched })
            (λ r. let f = strike_from j now r.is_open in (f.1, record { is_open = f.0; job = r.job; is_ended = r.is_ended; walk = led_had r.walk; touched = touched_had r.touched }))

        leads_tells : (i x : ℕ) → Decides (not (eqb i j) && (not (eqb x j) && m.leads i x)) (Leads without gone (strike j now) i x)
        leads_tells i x =
            read_as (and_test (not_test (eq_test i j)) (and_test (not_test (eq_test x j)) (tells.leads i x)))
            (λ r. record { from_open = strike_keeps r.1.1.from_open r.0; to_open = strike_keeps r.1.1.to_open r.1.0; walk = led_kept r.0 r.1.0 r.1.1.walk })
            (λ r.
            let f = strike_from j now r.from_open in
            let t = strike_from j now r.to_open in
            (f.1, (t.1, record { from_open = f.0; to_open = t.0; walk = led_had r.walk })))

  -- ---- an open

  -- a job that has no step touches nothing and stands in no chain
  module _ (j : ℕ) (idle : (a : Step) → a ∈ s → a.job ≡ j → ⊥) where
    idle_start : {i x : ℕ} → Led s gone i x → i ≡ j → ⊥
    idle_start (one r) e = idle r.earlier (before_left r.in_order) (r.earlier_job ∙ e)
    idle_start (step r h w) e = idle r.earlier (before_left r.in_order) (r.earlier_job ∙ e)

    idle_end : {i x : ℕ} → Led s gone i x → x ≡ j → ⊥
    idle_end (one r) e = idle r.later (before_right r.in_order) (r.later_job ∙ e)
    idle_end (step r h w) e = idle_end w e

    was_open : {i : ℕ} → (i ≡ j → ⊥) → i ∈ now ++ j ∷ [] → i ∈ now
    was_open h n = ⊎_elim (λ o. o) (λ e. absurd (h (Memᴰ.eq_of_singleton e))) (Memᴰ.append_cases now n)

    still_open : {i : ℕ} → i ∈ now → i ∈ now ++ j ∷ []
    still_open = Memᴰ.append_left (j ∷ [])

    pub tells_open : TellsOf s gone (now ++ j ∷ []) (open_in m j)
    unfolding open_in
    tells_open =
        record {
          jobs = ap (λ (l : List ℕ). l ++ j ∷ []) tells.jobs;
          own = λ i d c. read_as (tells.own i d c)
              (λ r. record { is_open = still_open r.is_open; touched = r.touched })
              (λ r. record { is_open = was_open (λ e. idle r.touched.step r.touched.granted (r.touched.its_job ∙ e)) r.is_open; touched = r.touched });
          past = λ i d c. read_as (tells.past i d c)
              (λ r. record { is_open = still_open r.is_open; job = r.job; is_ended = r.is_ended; walk = r.walk; touched = r.touched })
              (λ r. record { is_open = was_open (idle_start r.walk) r.is_open; job = r.job; is_ended = r.is_ended; walk = r.walk; touched = r.touched });
          leads = λ i x. read_as (tells.leads i x)
              (λ r. record { from_open = still_open r.from_open; to_open = still_open r.to_open; walk = r.walk })
              (λ r. record { from_open = was_open (idle_start r.walk) r.from_open; to_open = was_open (idle_end r.walk) r.to_open; walk = r.walk });
        }
