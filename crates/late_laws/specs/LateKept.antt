-- What the second profile keeps of a state, whatever the state holds: what an open, a step and the leaving of a slot keep, every ask keeps (`late_keeps`), so the ranges of the
-- numbers and the blank rows; and an open and an abandon are those of the first profile, whoever answers (`rest_reply`, `rest_granted`, `rest_ports`, `rest_next`).
-- Assumes nothing.
use Rattle.std.specs.Prelude.{◌≡◌, ◌⊎◌, not, ◌&&◌, ℕ, ◌<◌, T, leb, eqb}
use Rattle.std.proofs.Math.Path.{sym, ap, ap₂}
use Rattle.std.proofs.Common.{◌∙◌, inl, inr}
use Rattle.std.proofs.Math.Bool.{cond}
use mathlib.Core.List.{List, [], ◌∷◌}
use Rattle.graph.specs.Decide.{by_test, eq_test, T_and_left}
use Rattle.graph.specs.Lists.{here, later}
use Rattle.marks.specs.Marks.{bit}
use Rattle.history.specs.Events.{read, write}
use Rattle.history.specs.Replies.{cells, most_open, Request, Want, an_open, an_abandon, want, Facts, first_of, tests, code_of, event_of, job_of, reply_of, granted_of, entered, ports_after}
use Rattle.history_laws.specs.Granted.{below_bound, passed}
use Rattle.held.specs.Held.{Held, open_at, leads_at, slot_of, facts, stepped_at, takes_over, ended_at, with_slot, moved, after}
use Rattle.held_laws.specs.HeldMoves.{Moves, kept_at, kept_moved}
use Rattle.late.specs.Late.{Ask, asks, publishes, named, in_profile, late_kind, untested}
use Rattle.late.specs.LateHeld.{put_down, held_code, late_next, late_state}
use Rattle.late_laws.specs.LateLaws.{Real, named_real, put_open}
use Rattle.late_laws.specs.LateExact.{LateWant, to_open, to_read, to_abandon, to_nothing, late_want}

-- ---- what every ask keeps

module _ (P : Held → Type 0) (m : (h : Held) → P h → Moves P h) where
  kept_put : (s : ℕ) → s < most_open → (h : Held) → P h → T (open_at h s) → (cs : List ℕ) → Real cs → P (put_down h s cs)
  unfolding open_at stepped_at
  kept_put s q h p o [] real = p
  kept_put s q h p o (c ∷ cs) real = kept_put s q (stepped_at h write s c) ((m h p).steps write s c q o (real c here)) o cs (λ x n. real x (later n))

  module _ (h : Held) (p : P h) where
    kept_want : {w : Want} → LateWant w → (j c : ℕ) → first_of (tests (untested (facts h)) w j c) ≡ 0 → P (moved h w j c)
    unfolding tests moved
    kept_want to_open j c z = kept_moved P m h p an_open j c z
    kept_want to_read j c z = kept_at P m h p j (λ s. stepped_at h read s c) (λ s q o. (m h p).steps read s c q o (below_bound cells c (passed (leb cells c) 1 _ z).0))
    kept_want to_abandon j c z = kept_moved P m h p an_abandon j c z
    kept_want to_nothing j c z = p

    kept_end : (cs : List ℕ) → Real cs → (s : ℕ) → s < most_open → T (open_at h s) → P (ended_at (put_down h s cs) s)
    unfolding ended_at
    kept_end cs real s q o =
        let w = put_down h s cs in
        (m w (kept_put s q h p o cs real)).leaves (takes_over w s) s q (rw (put_open s h cs s) o) (λ i t. T_and_left (open_at w i) (not (eqb i s) && bit (leads_at w i) s) t)

    pub late_keeps : (a : Ask) → P (late_next h a)
    unfolding late_next code_of
    late_keeps (asks r) =
        let q = in_profile r in
        by_test (λ b. P (cond b (moved h (want q.kind) r.job r.cell) h)) (eq_test (code_of (untested (facts h)) q) 0)
        (λ z. kept_want (late_want r.kind) r.job r.cell (passed (not (eqb r.byte1 0)) 0 _ z).1) (λ z. p)
    late_keeps (publishes j ws) =
        by_test (λ b. P (cond b (with_slot (slot_of h j) (λ s. ended_at (put_down h s (named ws)) s) h) h)) (eq_test (held_code h j (named ws)) 0)
        (λ z. kept_at P m h p j (λ s. ended_at (put_down h s (named ws)) s) (kept_end (named ws) (named_real ws))) (λ z. p)

  pub late_keeps_all : (h : Held) → P h → (l : List Ask) → P (late_state h l)
  late_keeps_all h p [] = p
  late_keeps_all h p (a ∷ l) = late_keeps_all (late_next h a) (late_keeps h p a) l

-- ---- an open and an abandon are those of the first profile

abbrev pub Rest : Request → Type 0
Rest r = (r.kind ≡ 1) ⊎ (r.kind ≡ 5)

module _ (f : Facts) (r : Request) where
  abbrev code_by : Facts → ℕ → ℕ
  code_by g n = cond (not (eqb r.byte1 0)) 1 (first_of (tests g (want n) r.job r.cell))

  rest_code : Rest r → code_of (untested f) (in_profile r) ≡ code_of f r
  unfolding code_of tests want
  rest_code (inl e) = ap (λ (n : ℕ). code_by (untested f) (late_kind n)) e ∙ sym (ap (code_by f) e)
  rest_code (inr e) = ap (λ (n : ℕ). code_by (untested f) (late_kind n)) e ∙ sym (ap (code_by f) e)

  rest_want : Rest r → want (in_profile r).kind ≡ want r.kind
  unfolding want
  rest_want (inl e) = ap (λ (n : ℕ). want (late_kind n)) e ∙ sym (ap want e)
  rest_want (inr e) = ap (λ (n : ℕ). want (late_kind n)) e ∙ sym (ap want e)

  pub rest_reply : Rest r → reply_of (untested f) (in_profile r) ≡ reply_of f r
  unfolding reply_of
  rest_reply e = ap₂ (λ (n : ℕ) (w : Want). record { code = n; job = cond (eqb n 0) (job_of f.next w r.job) 0 }) (rest_code e) (rest_want e)

  pub rest_granted : Rest r → granted_of (untested f) (in_profile r) ≡ granted_of f r
  unfolding granted_of
  rest_granted e = ap₂ (λ (n : ℕ) (w : Want). cond (eqb n 0) (event_of f.next w r.job r.cell) []) (rest_code e) (rest_want e)

  pub rest_ports : Rest r → (port : ℕ → ℕ) → ports_after (untested f) (in_profile r) port ≡ ports_after f r port
  unfolding ports_after
  rest_ports e port = ap₂ (λ (n : ℕ) (w : Want). cond (eqb n 0) (entered w f.next r.job port) port) (rest_code e) (rest_want e)

pub rest_next : (h : Held) (r : Request) → Rest r → late_next h (asks r) ≡ after h r
unfolding late_next after
rest_next h r e = ap₂ (λ (n : ℕ) (w : Want). cond (eqb n 0) (moved h w r.job r.cell) h) (rest_code (facts h) r e) (rest_want (facts h) r e)
