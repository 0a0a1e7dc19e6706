-- The bounded memory answers as the full history does: from the fresh memory through any list of requests the replies are equal, one by one.
-- In order: facts that agree give equal replies (`agree_reply`); the memory's facts agree with the history's while the two stand side by side
-- (`agree`); a request keeps them so; `exact`.
-- Assumes nothing.
use Rattle.std.specs.Prelude.{◌≡◌, Bool, true, false, not, ℕ, zero, suc, ◌+◌, ◌<◌, leb}
use Rattle.std.proofs.Math.Path.{refl, sym, ap, ap₂, subst}
use Rattle.std.proofs.Common.{◌∙◌, ⊎_elim, arith, add-zero, not-suc-le-zero, length-append}
use Rattle.std.proofs.Math.Bool.{cond}
use mathlib.Core.List.Memᴰ
use mathlib.Core.List.{List, [], ◌∷◌, ◌++◌, append-nil, append_assoc}
use Rattle.std.proofs.Math.Dec.{T, eqb}
use Rattle.std.proofs.Math.ListN.{length}
use Rattle.graph.specs.Decide.{and_test, eq_test, own_test, same_test, some_test, answer}
use Rattle.graph.specs.Lists.{◌∈◌, later, only_same}
use Rattle.history.specs.Events.{Kind, write, kinds, alters, Deed, does, alters_by, Event, opens, steps, ends, abandons, History, has, opened, open_now, Step, all_steps, kept_steps, wrote}
use Rattle.history.specs.Replies.{cells, numbers, most_open, port_count, most_of_port, Request, Reply, Want, an_open, a_step, an_end, an_abandon, a_publish, nothing, want, Facts, first_of, step_tests, tests, code_of, event_of, job_of, reply_of, granted_of, entered, ports_after, of_port, Book, blank_book, full, reply, after, book_after, replies_from, replies}
use Rattle.history.specs.Memory.{Memory, fresh, right, open_in, step_in, blank, fold, move, move_all, below, held, held_after, held_replies}
use Rattle.history.specs.Tables.{Tells}
use Rattle.history_laws.specs.EventLaws.{altering}
use Rattle.history_laws.specs.CircleLaws.{has_circle_test}
use Rattle.history_laws.specs.TurnLaws.{opened_grows, stays, has_test, open_not_abandoned, kept_steps_from, kept_steps_if, orderly}
use Rattle.history_laws.specs.MemoryLaws.{every_kind}
use Rattle.history_laws.specs.MemoryTells.{tells_next, fresh_tells, closes_test}
use Rattle.history_laws.specs.Granted.{Proper, ProperAfter, below_bound, granted_proper, proper_in_turn, Sound, sound_start, sound_next}
use Rattle.history_laws.specs.PortLaws.{ports_same}

-- ---- facts that agree

-- facts that agree where a code asks: whether a job has written or added only of open jobs, how many jobs are open of a port only of the three, whether a step closes only
-- of open jobs and real cells
pub record Agree (f g : Facts) : Type 0 where
  pub is_open : (j : ℕ) → f.is_open j ≡ g.is_open j
  pub has_written : (j : ℕ) → T (g.is_open j) → f.has_written j ≡ g.has_written j
  pub count : f.count ≡ g.count
  pub crowd : (p : ℕ) → p < port_count → f.crowd p ≡ g.crowd p
  pub next : f.next ≡ g.next
  pub closes : (k : Kind) (j c : ℕ) → T (g.is_open j) → c < cells → f.closes k j c ≡ g.closes k j c

-- a later test matters only where the earlier ones fail
same_after : (b : Bool) (n x y : ℕ) → ((T b → ⊥) → x ≡ y) → cond b n x ≡ cond b n y
same_after true n x y h = refl
same_after false n x y h = h (λ t. t)

pub same_refused : (o p : Bool) (n x y : ℕ) → o ≡ p → (T p → x ≡ y) → cond (not o) n x ≡ cond (not p) n y
same_refused o p n x y e h = ap (λ (b : Bool). cond (not b) n x) e ∙ go p h
  where
    go : (b : Bool) → (T b → x ≡ y) → cond (not b) n x ≡ cond (not b) n y
    go true k = k tt
    go false k = refl

module _ {f g : Facts} (a : Agree f g) where
  agree_step : (k : Kind) (j c : ℕ) → first_of (step_tests f k j c) ≡ first_of (step_tests g k j c)
  agree_step k j c =
      same_after (leb cells c) 2 _ _ (λ no. same_refused (f.is_open j) (g.is_open j) 3 _ _ (a.is_open j)
      (λ o. ap (λ (b : Bool). cond b 7 0) (a.closes k j c o (below_bound cells c no))))

  pub agree_tests : (w : Want) (j c : ℕ) → first_of (tests f w j c) ≡ first_of (tests g w j c)
  unfolding tests
  agree_tests an_open j c =
      ap (λ (n : ℕ). cond (leb numbers n) 6 (cond (leb port_count j) 8 (cond (leb most_open f.count) 5 (cond (leb most_of_port (f.crowd j)) 9 0)))) a.next
      ∙ ap (λ (x : ℕ). cond (leb numbers g.next) 6 x) (same_after (leb port_count j) 8 _ _ (λ q. ap₂ (λ (n x : ℕ). cond (leb most_open n) 5 (cond (leb most_of_port x) 9 0)) a.count (a.crowd j (below_bound port_count j q))))
  agree_tests (a_step k) j c = agree_step k j c
  agree_tests an_end j c = same_refused (f.is_open j) (g.is_open j) 3 0 0 (a.is_open j) (λ o. refl)
  agree_tests an_abandon j c = same_refused (f.is_open j) (g.is_open j) 3 _ _ (a.is_open j) (λ o. ap (λ (b : Bool). cond b 4 0) (a.has_written j o))
  agree_tests a_publish j c = agree_step write j c
  agree_tests nothing j c = refl

  pub agree_code : (r : Request) → code_of f r ≡ code_of g r
  unfolding code_of
  agree_code r = ap (λ (n : ℕ). cond (not (eqb r.byte1 0)) 1 n) (agree_tests (want r.kind) r.job r.cell)

  pub agree_reply : (r : Request) → reply_of f r ≡ reply_of g r
  unfolding reply_of
  agree_reply r = ap₂ (λ (n x : ℕ). record { code = n; job = cond (eqb n 0) (job_of x (want r.kind) r.job) 0 }) (agree_code r) a.next

  pub agree_granted : (r : Request) → granted_of f r ≡ granted_of g r
  unfolding granted_of
  agree_granted r = ap₂ (λ (n x : ℕ). cond (eqb n 0) (event_of x (want r.kind) r.job r.cell) []) (agree_code r) a.next

  pub agree_ports : (r : Request) (port : ℕ → ℕ) → ports_after f r port ≡ ports_after g r port
  unfolding ports_after
  agree_ports r port = ap₂ (λ (n x : ℕ). cond (eqb n 0) (entered (want r.kind) x r.job port) port) (agree_code r) a.next

-- ---- the memory and the history side by side

-- but for the ports, which no event moves
pub record Told (b : Book) (h : History) (m : Memory) : Type 0 where
  pub sound : Sound b.first h
  pub tells : Tells h m
  pub next : m.next ≡ b.first + length (opened h)

-- and the ports: of every open job the memory has the book's
pub record Beside (b : Book) (h : History) (m : Memory) : Type 0 where
  pub sound : Sound b.first h
  pub tells : Tells h m
  pub next : m.next ≡ b.first + length (opened h)
  pub port : (j : ℕ) → j ∈ open_now h → m.port j ≡ b.port j

pub below_has : (c n : ℕ) → c < n → c ∈ below n
below_has c zero h = absurd (not-suc-le-zero h)
below_has c (suc n) h = ⊎_elim (λ e. Memᴰ.head e) (λ no. later (below_has c n (omega arith))) (answer (eq_test c n))

module _ {b : Book} {h : History} {m : Memory} (t : Beside b h m) where
  written_same : (j : ℕ) → j ∈ open_now h → (held right m).has_written j ≡ wrote h j
  unfolding held wrote
  written_same j open_job =
      same_test
      (some_test (λ k. and_test (own_test (alters k)) (some_test (λ c. t.tells.own j (does k) c) (below cells))) kinds)
      (some_test (λ (x : Step). and_test (eq_test x.job j) (own_test (alters_by x.deed))) (all_steps h))
      (λ r.
      let u = r.2.1.2.touched in
      (u.step, (kept_steps_from h u.granted).0, (u.its_job, subst (λ (d : Deed). T (alters_by d)) (sym u.its_deed) r.2.0)))
      (λ r.
      let a = r.0 in
      let w = altering a.deed r.2.1 in (
        w.0,
        every_kind w.0,
        (
          w.2,
          (
            a.cell,
            below_has a.cell cells ((orderly h t.sound.turns).real a r.1),
            record { is_open = open_job; touched = record { step = a; granted = kept_steps_if h r.1 (λ n. open_not_abandoned h open_job (Memᴰ.cast (sym r.2.0) n)); its_job = r.2.0; its_deed = w.1; its_cell = refl } },
          ),
        ),
      ))

  pub agree : Agree (held right m) (full b h)
  unfolding full
  agree =
      record {
        is_open = opens_same;
        next = next_same;
        count = count_same;
        crowd = λ p q. crowd_same p;
        has_written = λ j o. written_same j ((has_test (open_now h) j).holds o);
        closes = λ k j c o real. same_test (closes_test (orderly h t.sound.turns) t.tells t.sound.no_circle k j c ((has_test (open_now h) j).holds o) real) (has_circle_test (kept_steps (h ++ steps k j c ∷ []))) (λ z. z) (λ z. z);
      }
    where
      opens_same : (j : ℕ) → (held right m).is_open j ≡ has (open_now h) j
      opens_same j = unfold held in ap (λ (l : List ℕ). has l j) t.tells.jobs

      count_same : (held right m).count ≡ length (open_now h)
      count_same = unfold held in ap length t.tells.jobs

      crowd_same : (p : ℕ) → (held right m).crowd p ≡ length (of_port b.port p (open_now h))
      crowd_same p =
          unfold held in
          ap (λ (l : List ℕ). length (of_port m.port p l)) t.tells.jobs
          ∙ ap length (only_same (λ j. eqb (m.port j) p) (λ j. eqb (b.port j) p) (open_now h) (λ j o. ap (λ (n : ℕ). eqb n p) (t.port j o)))

      next_same : (held right m).next ≡ b.first + length (opened h)
      next_same = unfold held in t.next

pub next_next : (b : Book) (h : History) (m : Memory) (e : Event) → Proper (full b h) e → m.next ≡ b.first + length (opened h) → (move right m e).next ≡ b.first + length (opened (h ++ e ∷ []))
unfolding full move right open_in step_in blank fold
next_next b h m (opens n) p q =
    let more : length (opened (h ++ opens n ∷ [])) ≡ length (opened h) + 1 = ap length (opened_grows h (opens n)).joined ∙ length-append (opened h) (n ∷ []) in
    let r = p.0 in
    omega arith
next_next b h m (steps k j c) p q = q ∙ ap (λ (l : List ℕ). b.first + length l) (sym (stays (opened_grows h (steps k j c))))
next_next b h m (ends j) p q = q ∙ ap (λ (l : List ℕ). b.first + length l) (sym (stays (opened_grows h (ends j))))
next_next b h m (abandons j) p q = q ∙ ap (λ (l : List ℕ). b.first + length l) (sym (stays (opened_grows h (abandons j))))

pub beside_start : (first : ℕ) → Beside (blank_book first) [] (fresh first)
beside_start first = record { sound = sound_start first; tells = fresh_tells first; next = unfold opened in sym (add-zero first); port = λ j m. refl }

pub told_next : {b : Book} {h : History} {m : Memory} (e : Event) → Told b h m → Proper (full b h) e → Told b (h ++ e ∷ []) (move right m e)
told_next {b} {h} {m} e t p =
    record {
      sound = sound_next b e t.sound p;
      next = next_next b h m e p t.next;
      tells = tells_next (orderly h t.sound.turns) t.tells e (proper_in_turn b h t.sound.issued e p);
    }

pub told_all : {b : Book} {h : History} {m : Memory} (es : List Event) → Told b h m → ProperAfter b h es → Told b (h ++ es) (move_all right m es)
told_all {b} {h} {m} [] t p = subst (λ (x : History). Told b x m) (sym (append-nil h)) t
told_all {b} {h} {m} (e ∷ es) t p =
    subst (λ (x : History). Told b x (move_all right (move right m e) es)) (append_assoc h (e ∷ []) es) (told_all {h = h ++ e ∷ []} es (told_next e t p.0) p.1)

-- a request keeps the two side by side
pub beside_after : {b : Book} {h : History} {m : Memory} (r : Request) → Beside b h m → Beside (book_after b h r) (after b h r) (held_after right m r)
unfolding after held_after
beside_after {b} {h} {m} r t =
    let a = agree t in
    let u : Told b (h ++ granted_of (full b h) r) (move_all right m (granted_of (held right m) r)) =
    subst (λ (l : List Event). Told b (h ++ granted_of (full b h) r) (move_all right m l)) (sym (agree_granted a r))
    (told_all (granted_of (full b h) r) (record { sound = t.sound; tells = t.tells; next = t.next }) (granted_proper b h r)) in
    record {
      sound = u.sound;
      tells = record { jobs = u.tells.jobs; own = u.tells.own; past = u.tells.past; leads = u.tells.leads };
      next = u.next;
      port = λ j o. ap (λ (f : ℕ → ℕ). f j) (agree_ports a r m.port) ∙ ports_same (full b h) h r m.port b.port t.port j o;
    }

exact_from : {b : Book} {h : History} {m : Memory} → Beside b h m → (rs : List Request) → held_replies right m rs ≡ replies_from b h rs
exact_from t [] = refl
exact_from {b} {h} {m} t (r ∷ rs) = ap₂ (λ (x : Reply) (l : List Reply). x ∷ l) (same r) (exact_from {b = book_after b h r} (beside_after r t) rs)
  where
    same : (q : Request) → reply_of (held right m) q ≡ reply b h q
    same q = unfold reply in agree_reply (agree t) q

-- from the fresh memory through any list of requests: the replies of the full history, one by one
pub exact : (first : ℕ) (rs : List Request) → held_replies right (fresh first) rs ≡ replies first rs
exact first rs = exact_from (beside_start first) rs
