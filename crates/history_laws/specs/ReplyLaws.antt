-- The replies to well-formed requests, by what they ask for (`reply_for`), and to an open in full (`open_reply`); a publish and its write (`publish_reply`); what a
-- granted request leaves (`after_granted`); requests that differ only in fields that are not looked at (`alike_reply`, `alike_granted`, `alike_ports`).
-- Assumes nothing.
use Rattle.std.specs.Prelude.{◌≡◌, refl, Bool, true, false, not, cond, List, [], ◌∷◌, ◌++◌, ℕ, ◌+◌, ◌≤◌, ◌<◌, leb, eqb, length}
use Rattle.std.proofs.Math.Path.{ap}
use Rattle.std.proofs.Common.{ap₂, ◌∙◌, arith}
use Rattle.graph.specs.Decide.{test_true, test_false, eq_test, le_test}
use Rattle.history.specs.Events.{Event, History, opened, open_now}
use Rattle.history.specs.Replies.{most_open, numbers, port_count, most_of_port, Request, Reply, Want, an_open, a_step, an_end, an_abandon, a_publish, nothing, want, Facts, ◌gives◌, tests, first_of, code_of, event_of, job_of, reply_of, granted_of, entered, ports_after, of_port, Book, full, reply, after}

-- the reply to a well-formed request, by what it asks for
pub reply_for : (b : Book) (h : History) (r : Request) (w : Want) → want r.kind ≡ w → r.byte1 ≡ 0
    → reply b h r ≡ record { code = first_of (tests (full b h) w r.job r.cell); job = cond (eqb (first_of (tests (full b h) w r.job r.cell)) 0) (job_of (full b h).next w r.job) 0 }
unfolding reply reply_of code_of
reply_for b h r w asks zero_byte =
    let said : ℕ → Want → Reply = λ n v. record { code = n; job = cond (eqb n 0) (job_of (full b h).next v r.job) 0 } in
    ap (λ (q : Bool). said (cond (not q) 1 (first_of (tests (full b h) (want r.kind) r.job r.cell))) (want r.kind)) (test_true (eq_test r.byte1 0) zero_byte)
    ∙ ap (λ (v : Want). said (first_of (tests (full b h) v r.job r.cell)) v) asks

-- an open: 6 once the last number is issued, else 8 for a port that is none of the three, else 5 while 32 jobs are open, else 9 while 16 of the port are, else
-- granted with the next number
pub record OpenReply (b : Book) (h : History) (r : Request) : Type 0 where
  pub spent : numbers ≤ b.first + length (opened h) → reply b h r ≡ record { code = 6; job = 0 }
  pub no_port : b.first + length (opened h) < numbers → port_count ≤ r.job → reply b h r ≡ record { code = 8; job = 0 }
  pub crowded : b.first + length (opened h) < numbers → r.job < port_count → most_open ≤ length (open_now h) → reply b h r ≡ record { code = 5; job = 0 }
  pub port_full : b.first + length (opened h) < numbers → r.job < port_count → length (open_now h) < most_open → most_of_port ≤ length (of_port b.port r.job (open_now h))
      → reply b h r ≡ record { code = 9; job = 0 }
  pub granted : b.first + length (opened h) < numbers → r.job < port_count → length (open_now h) < most_open → length (of_port b.port r.job (open_now h)) < most_of_port
      → reply b h r ≡ record { code = 0; job = b.first + length (opened h) }

pub open_reply : (b : Book) (h : History) (r : Request) → want r.kind ≡ an_open → r.byte1 ≡ 0 → OpenReply b h r
unfolding tests full job_of
open_reply b h r asks zero_byte =
    let n = b.first + length (opened h) in
    let o = length (open_now h) in
    let c = length (of_port b.port r.job (open_now h)) in
    let said : Bool → Bool → Bool → Bool → Reply = λ s p f q. let k : ℕ = cond s 6 (cond p 8 (cond f 5 (cond q 9 0))) in record { code = k; job = cond (eqb k 0) n 0 } in
    let by_tests : reply b h r ≡ said (leb numbers n) (leb port_count r.job) (leb most_open o) (leb most_of_port c) = reply_for b h r an_open asks zero_byte in
    let left : n < numbers → leb numbers n ≡ false = λ s. test_false (le_test numbers n) (λ q. omega arith) in
    let real : r.job < port_count → leb port_count r.job ≡ false = λ s. test_false (le_test port_count r.job) (λ q. omega arith) in
    let room : o < most_open → leb most_open o ≡ false = λ s. test_false (le_test most_open o) (λ q. omega arith) in
    record {
      spent = λ s. by_tests ∙ ap (λ (a : Bool). said a (leb port_count r.job) (leb most_open o) (leb most_of_port c)) (test_true (le_test numbers n) s);
      no_port = λ s p. by_tests ∙ ap₂ (λ (a x : Bool). said a x (leb most_open o) (leb most_of_port c)) (left s) (test_true (le_test port_count r.job) p);
      crowded = λ s p f. by_tests ∙ ap₂ (λ (a x : Bool). said a x (leb most_open o) (leb most_of_port c)) (left s) (real p)
          ∙ ap (λ (a : Bool). said false false a (leb most_of_port c)) (test_true (le_test most_open o) f);
      port_full = λ s p f q. by_tests ∙ ap₂ (λ (a x : Bool). said a x (leb most_open o) (leb most_of_port c)) (left s) (real p)
          ∙ ap₂ (λ (a x : Bool). said false false a x) (room f) (test_true (le_test most_of_port c) q);
      granted = λ s p f q. by_tests ∙ ap₂ (λ (a x : Bool). said a x (leb most_open o) (leb most_of_port c)) (left s) (real p)
          ∙ ap₂ (λ (a x : Bool). said false false a x) (room f) (test_false (le_test most_of_port c) (λ z. omega arith));
    }

-- ---- a request of another kind

-- the same byte 1, cell and job
abbrev pub as_kind : ℕ → Request → Request
as_kind n r = record { kind = n; byte1 = r.byte1; cell = r.cell; job = r.job }

-- whoever answers, a publish gets the reply that its write gets
pub publish_reply : (f : Facts) (r : Request) → reply_of f (as_kind 6 r) ≡ reply_of f (as_kind 3 r)
unfolding reply_of code_of tests want job_of
publish_reply f r = refl

-- ---- the history that a granted request leaves

pub after_granted : (b : Book) (h : History) (r : Request) (w : Want) → want r.kind ≡ w → (reply b h r).code ≡ 0 → after b h r ≡ h ++ event_of (full b h).next w r.job r.cell
unfolding reply reply_of after granted_of
after_granted b h r w asks z =
    ap (λ (q : Bool). h ++ cond q (event_of (full b h).next (want r.kind) r.job r.cell) []) (test_true (eq_test (code_of (full b h) r) 0) z)
    ∙ ap (λ (v : Want). h ++ event_of (full b h).next v r.job r.cell) asks

-- ---- fields that are not looked at

-- two requests have the same in the fields that are looked at: job and cell of a step or a publish, the job of an end or an abandon, the job of an open, which
-- names its port; neither of a kind that is none of these
abbrev pub SameFields : Want → Request → Request → Type 0
SameFields an_open a b = a.job ≡ b.job
SameFields (a_step k) a b = (a.job ≡ b.job) × (a.cell ≡ b.cell)
SameFields an_end a b = a.job ≡ b.job
SameFields an_abandon a b = a.job ≡ b.job
SameFields a_publish a b = (a.job ≡ b.job) × (a.cell ≡ b.cell)
SameFields nothing a b = Unit {0}

-- alike: the same kind, the same byte 1, the same in the fields that are looked at
pub record Alike (a b : Request) : Type 0 where
  pub kind : a.kind ≡ b.kind
  pub byte1 : a.byte1 ≡ b.byte1
  pub fields : SameFields (want a.kind) a b

-- the reply, what is granted and the ports then, from what is asked, byte 1, job and cell
abbrev code_at : Facts → Want → ℕ → ℕ → ℕ → ℕ
code_at f w x j c = first_of ((not (eqb x 0) gives 1) ∷ tests f w j c)

record Given : Type 0 where
  answered : Reply
  events : List Event
  ports : (ℕ → ℕ) → ℕ → ℕ

abbrev given_at : Facts → Want → ℕ → ℕ → ℕ → Given
given_at f w x j c =
    record {
      answered = record { code = code_at f w x j c; job = cond (eqb (code_at f w x j c) 0) (job_of f.next w j) 0 };
      events = cond (eqb (code_at f w x j c) 0) (event_of f.next w j c) [];
      ports = λ port. cond (eqb (code_at f w x j c) 0) (entered w f.next j port) port;
    }

same_given : (f : Facts) (w : Want) (x : ℕ) (a b : Request) → SameFields w a b → given_at f w x a.job a.cell ≡ given_at f w x b.job b.cell
unfolding tests job_of event_of
same_given f an_open x a b s = ap (λ (j : ℕ). given_at f an_open x j 0) s
same_given f (a_step k) x a b s = ap₂ (λ (j c : ℕ). given_at f (a_step k) x j c) s.0 s.1
same_given f an_end x a b s = ap (λ (j : ℕ). given_at f an_end x j 0) s
same_given f an_abandon x a b s = ap (λ (j : ℕ). given_at f an_abandon x j 0) s
same_given f a_publish x a b s = ap₂ (λ (j c : ℕ). given_at f a_publish x j c) s.0 s.1
same_given f nothing x a b s = go (not (eqb x 0))
  where
    one_code : Bool → ℕ → Given
    one_code q j = record { answered = record { code = cond q 1 1; job = cond (eqb (cond q 1 1) 0) j 0 }; events = cond (eqb (cond q 1 1) 0) [] []; ports = λ port. cond (eqb (cond q 1 1) 0) port port }

    go : (q : Bool) → one_code q a.job ≡ one_code q b.job
    go true = refl
    go false = refl

-- whoever answers, requests that are alike get the same reply, grant the same and leave the same ports
module _ (f : Facts) {a b : Request} (s : Alike a b) where
  alike_given : given_at f (want a.kind) a.byte1 a.job a.cell ≡ given_at f (want b.kind) b.byte1 b.job b.cell
  alike_given = same_given f (want a.kind) a.byte1 a b s.fields ∙ ap₂ (λ (k x : ℕ). given_at f (want k) x b.job b.cell) s.kind s.byte1

  pub alike_reply : reply_of f a ≡ reply_of f b
  unfolding reply_of code_of
  alike_reply = ap (λ (g : Given). g.answered) alike_given

  pub alike_granted : granted_of f a ≡ granted_of f b
  unfolding granted_of code_of
  alike_granted = ap (λ (g : Given). g.events) alike_given

  pub alike_ports : (port : ℕ → ℕ) → ports_after f a port ≡ ports_after f b port
  unfolding ports_after code_of
  alike_ports port = ap (λ (g : Given). g.ports port) alike_given
