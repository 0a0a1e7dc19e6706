-- The ports of the open jobs. What a request leaves of them, whoever answers: a port is put down once (`port_new`, `port_stays`), at most 16 open jobs have a port and
-- each has one of the three (`Ported`, `ported_granted`), and ports that are the same for the open jobs stay so (`ports_same`). Of the full history from any first number:
-- `granted_ported`, `port_given`.
-- Assumes nothing.
use Rattle.std.specs.Prelude.{◌≡◌, ◌⊎◌, Bool, true, false, cond, ℕ, ◌+◌, ◌≤◌, ◌<◌, leb}
use Rattle.std.proofs.Math.Path.{refl, subst}
use Rattle.std.proofs.Common.{sym, ap, ap₂, ◌∙◌, zero-le, length-append}
use Rattle.std.proofs.Math.Logic.{inl, inr, ⊎_elim}
use Rattle.std.proofs.Math.Bool.{not}
use mathlib.Core.List.Memᴰ
use mathlib.Core.List.{List, [], ◌∷◌, ◌++◌, append-nil, append_assoc}
use Rattle.std.proofs.Math.Nat.{le_trans}
use native.Mathlib.Omega.{arith}
use Rattle.std.proofs.Math.Dec.{eqb}
use Rattle.std.proofs.Math.ListN.{length}
use Rattle.graph.specs.Decide.{test_true, test_false, eq_test, answer, true_is}
use Rattle.graph.specs.Lists.{◌∈◌, here, only_no, only_append, only_same, only_length, strike, strike_from}
use Rattle.history.specs.Events.{Kind, write, Event, opens, steps, ends, abandons, History, opened, kept, open_now}
use Rattle.history.specs.Replies.{numbers, most_open, port_count, most_of_port, Request, Want, an_open, a_step, an_end, an_abandon, a_publish, nothing, want, Facts, first_of, tests, code_of, event_of, job_of, reply_of, granted_of, entered, ports_after, of_port, Book, blank_book, full, reply, after, book_after, history_from, book_from, history_of, book_of}
use Rattle.history_laws.specs.ReplyLaws.{after_granted}
use Rattle.history_laws.specs.TurnLaws.{opened_grows, old_in, new_in, only_swap, open_opened, open_opens, open_steps, open_ends, open_abandons, open_next, Orderly, orderly}
use Rattle.history_laws.specs.Granted.{below_bound, passed, Sound, sound_start, sound_after, granted_sound}

-- ---- one request

module _ (n p : ℕ) (port : ℕ → ℕ) where
  entered_new : entered an_open n p port n ≡ p
  entered_new = ap (λ (q : Bool). cond q p (port n)) (test_true (eq_test n n) refl)

  entered_old : (w : Want) (i : ℕ) → (i ≡ n → ⊥) → entered w n p port i ≡ port i
  entered_old an_open i ne = ap (λ (q : Bool). cond q p (port i)) (test_false (eq_test i n) ne)
  entered_old (a_step k) i ne = refl
  entered_old an_end i ne = refl
  entered_old an_abandon i ne = refl
  entered_old a_publish i ne = refl
  entered_old nothing i ne = refl

-- a granted open puts its port down under the number that it is given
pub port_new : (f : Facts) (r : Request) (port : ℕ → ℕ) → want r.kind ≡ an_open → code_of f r ≡ 0 → ports_after f r port f.next ≡ r.job
unfolding ports_after
port_new f r port asks z =
    ap (λ (q : Bool). cond q (entered (want r.kind) f.next r.job port) port f.next) (test_true (eq_test (code_of f r) 0) z)
    ∙ ap (λ (w : Want). entered w f.next r.job port f.next) asks
    ∙ entered_new f.next r.job port

-- and no request changes the port of another number
pub port_stays : (f : Facts) (r : Request) (port : ℕ → ℕ) (i : ℕ) → (i ≡ f.next → ⊥) → ports_after f r port i ≡ port i
unfolding ports_after
port_stays f r port i ne = go (eqb (code_of f r) 0)
  where
    go : (q : Bool) → cond q (entered (want r.kind) f.next r.job port) port i ≡ port i
    go true = entered_old f.next r.job port (want r.kind) i ne
    go false = refl

-- ---- ports that are the same for the open jobs

-- a job that is open after a request was open before it, or has the number just issued
module _ (h : History) (n i : ℕ) where
  open_after : (w : Want) (j c : ℕ) → i ∈ open_now (h ++ event_of n w j c) → (i ∈ open_now h) ⊎ ((w ≡ an_open) × (i ≡ n))
  unfolding event_of
  open_after an_open j c m = ⊎_elim inl (λ q. inr (refl, Memᴰ.eq_of_singleton q)) (open_next h (opens n) m)
  open_after (a_step k) j c m = ⊎_elim inl (λ q. absurd (Memᴰ.not-nil q)) (open_next h (steps k j c) m)
  open_after an_end j c m = ⊎_elim inl (λ q. absurd (Memᴰ.not-nil q)) (open_next h (ends j) m)
  open_after an_abandon j c m = ⊎_elim inl (λ q. absurd (Memᴰ.not-nil q)) (open_next h (abandons j) m)
  open_after a_publish j c m =
      let s = h ++ steps write j c ∷ [] in
      let was : i ∈ open_now s = ⊎_elim (λ q. q) (λ q. absurd (Memᴰ.not-nil q)) (open_next s (ends j) (subst (λ (x : History). i ∈ open_now x) (sym (append_assoc h (steps write j c ∷ []) (ends j ∷ []))) m)) in
      ⊎_elim inl (λ q. absurd (Memᴰ.not-nil q)) (open_next h (steps write j c) was)
  open_after nothing j c m = inl (subst (λ (x : History). i ∈ open_now x) (append-nil h) m)

pub ports_same : (f : Facts) (h : History) (r : Request) (port port' : ℕ → ℕ) → ((i : ℕ) → i ∈ open_now h → port i ≡ port' i)
    → (i : ℕ) → i ∈ open_now (h ++ granted_of f r) → ports_after f r port i ≡ ports_after f r port' i
unfolding ports_after granted_of
ports_same f h r port port' same i = go (eqb (code_of f r) 0)
  where
    w : Want
    w = want r.kind

    new : (v : Want) → (v ≡ an_open) × (i ≡ f.next) → entered v f.next r.job port i ≡ entered v f.next r.job port' i
    new v e =
        let at : (g : ℕ → ℕ) → entered v f.next r.job g i ≡ r.job = λ g. ap₂ (λ (x : Want) (k : ℕ). entered x f.next r.job g k) e.0 e.1 ∙ entered_new f.next r.job g in
        at port ∙ sym (at port')

    old : (v : Want) → port i ≡ port' i → entered v f.next r.job port i ≡ entered v f.next r.job port' i
    old an_open e = ap (λ (x : ℕ). cond (eqb i f.next) r.job x) e
    old (a_step k) e = e
    old an_end e = e
    old an_abandon e = e
    old a_publish e = e
    old nothing e = e

    go : (q : Bool) → i ∈ open_now (h ++ cond q (event_of f.next w r.job r.cell) []) → cond q (entered w f.next r.job port) port i ≡ cond q (entered w f.next r.job port') port' i
    go true m = ⊎_elim (λ o. old w (same i o)) (new w) (open_after h f.next i w r.job r.cell m)
    go false m = same i (subst (λ (x : History). i ∈ open_now x) (append-nil h) m)

-- ---- at most 16 of a port

-- of a list of jobs: each has one of the three ports, and at most 16 have the same
pub record Ported (port : ℕ → ℕ) (l : List ℕ) : Type 0 where
  pub real : (j : ℕ) → j ∈ l → port j < port_count
  pub few : (p : ℕ) → length (of_port port p l) ≤ most_of_port

module _ {port : ℕ → ℕ} {l : List ℕ} (t : Ported port l) where
  ported_strike : (j : ℕ) → Ported port (strike j l)
  unfolding strike
  ported_strike j =
      record {
        real = λ i m. t.real i (strike_from j l m).0;
        few = λ p. le_trans (subst (λ (k : List ℕ). length k ≤ length (of_port port p l)) (sym (only_swap (λ i. eqb (port i) p) (λ i. not (eqb i j)) l)) (only_length (λ i. not (eqb i j)) (of_port port p l))) (t.few p);
      }

  -- one more job, of a port that has fewer
  ported_new : (n p : ℕ) → (n ∈ l → ⊥) → p < port_count → length (of_port port p l) < most_of_port → Ported (entered an_open n p port) (l ++ n ∷ [])
  ported_new n p fresh below room = record { real = real_one; few = few_of }
    where
      now : ℕ → ℕ
      now = entered an_open n p port

      old : (i : ℕ) → i ∈ l → now i ≡ port i
      old i m = entered_old n p port an_open i (λ e. fresh (Memᴰ.cast (sym e) m))

      real_one : (i : ℕ) → i ∈ l ++ n ∷ [] → now i < port_count
      real_one i m =
          ⊎_elim (λ o. subst (λ (k : ℕ). k < port_count) (sym (old i o)) (t.real i o))
          (λ o. subst (λ (k : ℕ). k < port_count) (sym (ap now (Memᴰ.eq_of_singleton o) ∙ entered_new n p port)) below)
          (Memᴰ.append_cases l m)

      few_of : (q : ℕ) → length (of_port now q (l ++ n ∷ [])) ≤ most_of_port
      few_of q =
          let last = length (of_port now q (n ∷ [])) in
          let sum : length (of_port now q (l ++ n ∷ [])) ≡ length (of_port port q l) + last =
          ap length (only_append (λ j. eqb (now j) q) l (n ∷ []) ∙ ap (λ (k : List ℕ). k ++ of_port now q (n ∷ [])) (only_same (λ j. eqb (now j) q) (λ j. eqb (port j) q) l (λ j m. ap (λ (k : ℕ). eqb k q) (old j m))))
          ∙ length-append (of_port port q l) (of_port now q (n ∷ [])) in
          let before = t.few q in
          ⊎_elim
          (λ e.
          let one : last ≤ 1 = only_length (λ j. eqb (now j) q) (n ∷ []) in
          let less : length (of_port port q l) < most_of_port = subst (λ (k : ℕ). length (of_port port k l) < most_of_port) e room in
          omega arith)
          (λ ne.
          let none : last ≡ 0 = ap length (only_no (λ j. eqb (now j) q) n [] (test_false (eq_test (now n) q) (λ e. ne (sym (entered_new n p port) ∙ e)))) in
          omega arith)
          (answer (eq_test p q))

-- an event that opens no job
module _ {port : ℕ → ℕ} (h : History) (t : Ported port (open_now h)) where
  pub ported_steps : (k : Kind) (j c : ℕ) → Ported port (open_now (h ++ steps k j c ∷ []))
  ported_steps k j c = subst (Ported port) (sym (open_steps h j k c)) t

  pub ported_ends : (j : ℕ) → Ported port (open_now (h ++ ends j ∷ []))
  ported_ends j = subst (Ported port) (sym (open_ends h j)) (ported_strike t j)

  pub ported_abandons : (j : ℕ) → Ported port (open_now (h ++ abandons j ∷ []))
  ported_abandons j = subst (Ported port) (sym (open_abandons h j)) (ported_strike t j)

-- whoever answers, if the number next is new and the crowds are counted right
module _ (f : Facts) (port : ℕ → ℕ) (h : History) (o : Orderly h) (fresh : f.next ∈ opened h → ⊥) (counted : (p : ℕ) → p < port_count → f.crowd p ≡ length (of_port port p (open_now h))) where
  ported_of : (w : Want) (j c : ℕ) → first_of (tests f w j c) ≡ 0 → Ported port (open_now h) → Ported (entered w f.next j port) (open_now (h ++ event_of f.next w j c))
  unfolding tests event_of
  ported_of an_open j c z t =
      let p = passed (leb numbers f.next) 5 _ z in
      let q = passed (leb port_count j) 7 _ p.1 in
      let s = passed (leb most_open f.count) 4 _ q.1 in
      let real : j < port_count = below_bound port_count j q.0 in
      let room : length (of_port port j (open_now h)) < most_of_port = subst (λ (n : ℕ). n < most_of_port) (counted j real) (below_bound most_of_port (f.crowd j) (passed (leb most_of_port (f.crowd j)) 8 0 s.1).0) in
      subst (Ported (entered an_open f.next j port)) (sym (open_opens h f.next (λ m. fresh (o.abandoned_opened f.next m)) (λ m. fresh (o.ended_opened f.next m))))
      (ported_new t f.next j (λ m. fresh (open_opened h m)) real room)
  ported_of (a_step k) j c z t = ported_steps h t k j c
  ported_of an_end j c z t = ported_ends h t j
  ported_of an_abandon j c z t = ported_abandons h t j
  ported_of a_publish j c z t =
      subst (λ (x : History). Ported port (open_now x)) (append_assoc h (steps write j c ∷ []) (ends j ∷ [])) (ported_ends (h ++ steps write j c ∷ []) (ported_steps h t write j c) j)
  ported_of nothing j c z t = subst (λ (x : History). Ported port (open_now x)) (sym (append-nil h)) t

  pub ported_granted : (r : Request) → Ported port (open_now h) → Ported (ports_after f r port) (open_now (h ++ granted_of f r))
  unfolding ports_after granted_of code_of
  ported_granted r t = go (eqb (code_of f r) 0) refl
    where
      w : Want
      w = want r.kind

      go : (q : Bool) → eqb (code_of f r) 0 ≡ q → Ported (cond q (entered w f.next r.job port) port) (open_now (h ++ cond q (event_of f.next w r.job r.cell) []))
      go true e =
          let z : code_of f r ≡ 0 = (eq_test (code_of f r) 0).holds (true_is e) in
          ported_of w r.job r.cell (passed (not (eqb r.byte1 0)) 0 _ z).1 t
      go false e = subst (λ (x : History). Ported port (open_now x)) (sym (append-nil h)) t

-- ---- the full history

module _ (b : Book) {h : History} (s : Sound b.first h) where
  -- the next number is not issued yet
  next_new : (full b h).next ∈ opened h → ⊥
  unfolding full
  next_new m = let q = s.issued (b.first + length (opened h)) m in omega arith

  pub ported_after : (r : Request) → Ported b.port (open_now h) → Ported (book_after b h r).port (open_now (after b h r))
  unfolding after
  ported_after r t = ported_granted (full b h) b.port h (orderly h s.turns) next_new (λ p q. unfold full in refl) r t

  pub port_after : (r : Request) (i : ℕ) → i ∈ opened h → (book_after b h r).port i ≡ b.port i
  port_after r i m = port_stays (full b h) r b.port i (λ e. next_new (Memᴰ.cast (sym e) m))

  -- what was opened stays opened
  pub opened_after : (r : Request) (i : ℕ) → i ∈ opened h → i ∈ opened (after b h r)
  unfolding after
  opened_after r i m = go h (granted_of (full b h) r) m
    where
      go : (k : History) (es : List Event) → i ∈ opened k → i ∈ opened (k ++ es)
      go k [] n = subst (λ (x : History). i ∈ opened x) (sym (append-nil k)) n
      go k (e ∷ es) n = subst (λ (x : History). i ∈ opened x) (append_assoc k (e ∷ []) es) (go (k ++ e ∷ []) es (old_in (opened_grows k e) n))

-- no later request changes the port of a number that was issued
pub port_from : (b : Book) {h : History} (rs : List Request) → Sound b.first h → (i : ℕ) → i ∈ opened h → (book_from b h rs).port i ≡ b.port i
port_from b [] s i m = refl
port_from b {h} (r ∷ rs) s i m = port_from (book_after b h r) rs (sound_after b r s) i (opened_after b s r i m) ∙ port_after b s r i m

ported_from : (b : Book) {h : History} (rs : List Request) → Sound b.first h → Ported b.port (open_now h) → Ported (book_from b h rs).port (open_now (history_from b h rs))
ported_from b [] s t = t
ported_from b {h} (r ∷ rs) s t = ported_from (book_after b h r) rs (sound_after b r s) (ported_after b s r t)

pub ported_start : (port : ℕ → ℕ) → Ported port (open_now [])
unfolding open_now kept opened
ported_start port = record { real = λ j m. absurd (Memᴰ.not-nil m); few = λ p. zero-le }

-- after any requests at most 16 open jobs have a port, and each has one of the three
pub granted_ported : (first : ℕ) (rs : List Request) → Ported (book_of first rs).port (open_now (history_of first rs))
granted_ported first rs = ported_from (blank_book first) rs (sound_start first) (ported_start (λ j. 0))

-- the book of requests in two parts
book_parts : (b : Book) (h : History) (rs more : List Request) → book_from b h (rs ++ more) ≡ book_from (book_from b h rs) (history_from b h rs) more
book_parts b h [] more = refl
book_parts b h (r ∷ rs) more = book_parts (book_after b h r) (after b h r) rs more

-- its first number stays
book_first : (b : Book) (h : History) (rs : List Request) → (book_from b h rs).first ≡ b.first
book_first b h [] = refl
book_first b h (r ∷ rs) = book_first (book_after b h r) (after b h r) rs

sound_of : (first : ℕ) (rs : List Request) → Sound (book_of first rs).first (history_of first rs)
sound_of first rs = subst (λ (n : ℕ). Sound n (history_of first rs)) (sym (book_first (blank_book first) [] rs)) (granted_sound first rs)

-- after any requests a granted open's job has the port that its request named, whatever is requested then
pub port_given : (first : ℕ) (rs : List Request) (r : Request) (more : List Request) → want r.kind ≡ an_open → (reply (book_of first rs) (history_of first rs) r).code ≡ 0
    → (book_of first (rs ++ r ∷ more)).port (reply (book_of first rs) (history_of first rs) r).job ≡ r.job
unfolding reply reply_of job_of event_of
port_given first rs r more asks z =
    let b = book_of first rs in
    let h = history_of first rs in
    let n = (full b h).next in
    let named : (reply b h r).job ≡ n = ap₂ (λ (q : Bool) (w : Want). cond q (job_of n w r.job) 0) (test_true (eq_test (code_of (full b h) r) 0) z) asks in
    let there : n ∈ opened (after b h r) = subst (λ (x : History). n ∈ opened x) (sym (after_granted b h r an_open asks z)) (new_in (opened_grows h (opens n)) here) in
    ap₂ (λ (x : Book) (j : ℕ). x.port j) (book_parts (blank_book first) [] rs (r ∷ more)) named
    ∙ port_from (book_after b h r) more (sound_after b r (sound_of first rs)) n there
    ∙ port_new (full b h) r b.port asks z
