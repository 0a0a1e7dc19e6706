-- Logs, read and written. A log of bytes that is read is within the sizes (`read_sized`), and is the log of the events that it is read as (`read_is`); the log of events that can be said is read, if it is, as
-- those events (`read_same`).
-- Assumes nothing.
use Rattle.std.specs.Prelude.{◌≡◌, refl, ◌⊎◌, Bool, true, false, not, ◌||◌, cond, List, [], ◌∷◌, ◌++◌, ℕ, zero, suc, ◌+◌, ◌*◌, ◌/◌, ◌%◌, ◌<◌, T, leb, ltb, eqb, length}
use Rattle.std.proofs.Common.{sym, ap, ap₂, subst, ◌∙◌, inl, inr, ⊎_elim, append-nil, append_assoc, arith}
use mathlib.Core.List.Memᴰ
use Rattle.graph.specs.Decide.{or_test, not_test, eq_test, le_test, answer, test_false, true_is}
use Rattle.graph.specs.Lists.{◌∈◌, here, later, each}
use Rattle.history.specs.Events.{read, write, add, Event, opens, steps, ends, abandons, History, gather, opened_by, opened}
use Rattle.history.specs.Formats.{records}
use Rattle.history_laws.specs.Granted.{passed}
use Rattle.history.specs.Replies.{cells, numbers, Request, Want, an_open, a_step, an_end, an_abandon, a_publish, nothing, want, event_of}
use Rattle.history_laws.specs.TurnLaws.{gather_append}
use Rattle.verdicts.specs.Logs.{record_bytes, most_bytes, ill_formed, fault_of, Reading, faulty, events, read_from, read_log, fields, record_of, log_of}
use Rattle.verdicts_laws.specs.LogLaws.{request_for, read_fields, event_for, log_append, Sized}
use Rattle.verdicts_laws.specs.SizeLaws.{log_size}
use Rattle.blocks.specs.WordLaws.{bytes_of_word}
use Rattle.notation.specs.Notation.{Sayable}
use Rattle.notation.specs.Answers.{Bytes}

-- ---- a log that is read is within the sizes

requests_small : (l : List ℕ) → Bytes l → (r : Request) → r ∈ records l → r.job < numbers
requests_small (k ∷ z ∷ c ∷ d ∷ i ∷ j ∷ m ∷ n ∷ l) b r p =
    let x = b i (later (later (later (later here)))) in
    let y = b j (later (later (later (later (later here))))) in
    let v = b m (later (later (later (later (later (later here)))))) in
    let w = b n (later (later (later (later (later (later (later here))))))) in
    each {P = λ (r : Request). r.job < numbers} (omega arith)
    (requests_small l (λ a q. b a (later (later (later (later (later (later (later (later q)))))))))) r p
requests_small [] b r p = absurd (Memᴰ.not-nil p)
requests_small (k ∷ []) b r p = absurd (Memᴰ.not-nil p)
requests_small (k ∷ z ∷ []) b r p = absurd (Memᴰ.not-nil p)
requests_small (k ∷ z ∷ c ∷ []) b r p = absurd (Memᴰ.not-nil p)
requests_small (k ∷ z ∷ c ∷ d ∷ []) b r p = absurd (Memᴰ.not-nil p)
requests_small (k ∷ z ∷ c ∷ d ∷ i ∷ []) b r p = absurd (Memᴰ.not-nil p)
requests_small (k ∷ z ∷ c ∷ d ∷ i ∷ j ∷ []) b r p = absurd (Memᴰ.not-nil p)
requests_small (k ∷ z ∷ c ∷ d ∷ i ∷ j ∷ m ∷ []) b r p = absurd (Memᴰ.not-nil p)

abbrev new_of : Request → History
new_of r = event_of r.job (want r.kind) r.job r.cell

new_small : (w : Want) (n c j : ℕ) → n < numbers → j ∈ opened (event_of n w n c) → j < numbers
unfolding opened event_of
new_small an_open n c j l m = subst (λ (x : ℕ). x < numbers) (sym (Memᴰ.eq_of_singleton m)) l
new_small (a_step k) n c j l m = absurd (Memᴰ.not-nil m)
new_small an_end n c j l m = absurd (Memᴰ.not-nil m)
new_small an_abandon n c j l m = absurd (Memᴰ.not-nil m)
new_small a_publish n c j l m = absurd (Memᴰ.not-nil m)
new_small nothing n c j l m = absurd (Memᴰ.not-nil m)

opened_which : (h k : History) {j : ℕ} → j ∈ opened (h ++ k) → (j ∈ opened h) ⊎ (j ∈ opened k)
unfolding opened
opened_which h k {j} m = Memᴰ.append_cases (gather opened_by h) (subst (λ (l : List ℕ). j ∈ l) (gather_append opened_by h k) m)

-- one record that is read, and then the others
record_read : (b : Bool) (rest : Reading) (c n : ℕ) {k : History} → cond b rest (faulty c n) ≡ events k → (b ≡ true) × (rest ≡ events k)
record_read true rest c n e = (refl, e)
record_read false rest c n e = absurd (let z : ◌≡◌ {A = ℕ} 0 1 = cc in omega arith)

-- a record that is read has no fault, and the others are read after its event
one_read : (h : History) (n : ℕ) (r : Request) (rs : List Request) {k : History} → read_from h n (r ∷ rs) ≡ events k → (fault_of h r ≡ 0) × (read_from (h ++ new_of r) (suc n) rs ≡ events k)
one_read h n r rs e =
    let q = record_read (eqb (fault_of h r) 0) (read_from (h ++ new_of r) (suc n) rs) (fault_of h r) n e in
    ((eq_test (fault_of h r) 0).holds (true_is q.0), q.1)

read_small : (h : History) (n : ℕ) (rs : List Request) (k : History) → ((j : ℕ) → j ∈ opened h → j < numbers) → ((r : Request) → r ∈ rs → r.job < numbers) → read_from h n rs ≡ events k
    → (j : ℕ) → j ∈ opened k → j < numbers
read_small h n [] k f g e j m = f j (subst (λ (x : History). j ∈ opened x) (sym (let q : h ≡ k = cc in q)) m)
read_small h n (r ∷ rs) k f g e j m =
    read_small (h ++ new_of r) (suc n) rs k
    (λ i p. ⊎_elim (f i) (new_small (want r.kind) r.job r.cell i (g r here)) (opened_which h (new_of r) p)) (λ x p. g x (later p))
    (one_read h n r rs e).1 j m

-- the reading of a log that is read: its records
log_read : (log : List ℕ) {h : History} → read_log log ≡ events h → (length log % 8 ≡ 0) × (read_from [] zero (records log) ≡ events h)
unfolding read_log
log_read log {h} e = go (eqb (length log % record_bytes) 0) (ltb most_bytes (length log)) refl e
  where
    go : (a b : Bool) → eqb (length log % record_bytes) 0 ≡ a → cond (not a || b) (faulty 11 0) (read_from [] zero (records log)) ≡ events h
        → (length log % 8 ≡ 0) × (read_from [] zero (records log) ≡ events h)
    go false b q x = absurd (let z : ◌≡◌ {A = ℕ} 0 1 = cc in omega arith)
    go true true q x = absurd (let z : ◌≡◌ {A = ℕ} 0 1 = cc in omega arith)
    go true false q x = ((eq_test (length log % record_bytes) 0).holds (true_is q), x)

pub read_sized : (log : List ℕ) (h : History) → Bytes log → read_log log ≡ events h → Sized h
read_sized log h b e =
    let s = log_size log h e in
    let w = s.whole in
    let l = s.short in
    record {
      few = omega arith;
      few_jobs = s.few_jobs;
      small = read_small [] zero (records log) h (unfold opened in λ j m. absurd (Memᴰ.not-nil m)) (requests_small log b) (log_read log e).1;
    }

-- ---- the log of events that can be said is read as those events

say_record : (e : Event) (rest : List ℕ) → Sayable e → records (record_of e ++ rest) ≡ request_for e ∷ records rest
say_record (opens j) rest s = read_fields 1 0 j rest (omega arith) s
say_record (steps read j c) rest s = read_fields 2 c j rest s.1 s.0
say_record (steps write j c) rest s = read_fields 3 c j rest s.1 s.0
say_record (steps add j c) rest s = absurd s
say_record (ends j) rest s = read_fields 4 0 j rest (omega arith) s
say_record (abandons j) rest s = absurd s

read_events : (g : History) (n : ℕ) (es : History) (k : History) → ((e : Event) → e ∈ es → Sayable e) → read_from g n (records (log_of es)) ≡ events k → k ≡ g ++ es
read_events g n [] k s e = sym (let q : g ≡ k = cc in q) ∙ sym (append-nil g)
read_events g n (x ∷ es) k s e =
    let a = sym (ap (read_from g n) (say_record x (log_of es) (s x here))) ∙ e in
    let b = (one_read g n (request_for x) (records (log_of es)) a).1 in
    read_events (g ++ x ∷ []) (suc n) es k (λ f m. s f (later m)) (sym (ap (λ (l : List Event). read_from (g ++ l) (suc n) (records (log_of es))) (event_for x)) ∙ b)
    ∙ append_assoc g (x ∷ []) es

pub read_same : (h k : History) → ((e : Event) → e ∈ h → Sayable e) → read_log (log_of h) ≡ events k → read_log (log_of h) ≡ events h
read_same h k s e = e ∙ ap events (read_events [] zero h k s (log_read (log_of h) e).1)

-- ---- a log that is read is the log of its events

-- the bytes of a record from its fields
fields_are : (k c d i j m n : ℕ) → c < 256 → d < 256 → i < 256 → j < 256 → m < 256 → n < 256
    → fields k (c + d * 256) (i + j * 256 + m * 65536 + n * 16777216) ≡ k ∷ 0 ∷ c ∷ d ∷ i ∷ j ∷ m ∷ n ∷ []
fields_are k c d i j m n hc hd hi hj hm hn =
    let high : (c + d * 256) / 256 ≡ d = omega arith in
    let a : (c + d * 256) % 256 ≡ c = omega arith in
    let b : (c + d * 256) / 256 % 256 ≡ d = ap (λ (x : ℕ). x % 256) high ∙ (omega arith) in
    ap₂ (λ (x y : List ℕ). k ∷ 0 ∷ (x ++ y)) (ap₂ (λ (x y : ℕ). x ∷ y ∷ []) a b) (bytes_of_word hi hj hm hn)

-- which kinds there are
data Sort : ℕ → Want → Type 0 where
  sort_open : Sort 1 an_open
  sort_read : Sort 2 (a_step read)
  sort_write : Sort 3 (a_step write)
  sort_end : Sort 4 an_end
  sort_abandon : Sort 5 an_abandon
  sort_publish : Sort 6 a_publish
  sort_add : Sort 7 (a_step add)
  sort_none : {k : ℕ} → Sort k nothing

no_kind : (k : ℕ) → (k ≡ 1 → ⊥) → (k ≡ 2 → ⊥) → (k ≡ 3 → ⊥) → (k ≡ 4 → ⊥) → (k ≡ 5 → ⊥) → (k ≡ 6 → ⊥) → (k ≡ 7 → ⊥) → want k ≡ nothing
unfolding want
no_kind k a b c d e f g =
    ap₂ (λ (x y : Bool). cond x an_open (cond y (a_step read) (cond (eqb k 3) (a_step write) (cond (eqb k 4) an_end (cond (eqb k 5) an_abandon (cond (eqb k 6) a_publish (cond (eqb k 7) (a_step add) nothing))))))) (test_false (eq_test k 1) a) (test_false (eq_test k 2) b)
    ∙ ap₂ (λ (x y : Bool). cond x (a_step write) (cond y an_end (cond (eqb k 5) an_abandon (cond (eqb k 6) a_publish (cond (eqb k 7) (a_step add) nothing))))) (test_false (eq_test k 3) c) (test_false (eq_test k 4) d)
    ∙ ap₂ (λ (x y : Bool). cond x an_abandon (cond y a_publish (cond (eqb k 7) (a_step add) nothing))) (test_false (eq_test k 5) e) (test_false (eq_test k 6) f)
    ∙ ap (λ (x : Bool). cond x (a_step add) nothing) (test_false (eq_test k 7) g)

sort_of : (k : ℕ) → Sort k (want k)
unfolding want
sort_of k =
    ⊎_elim (λ e. at_kind 1 e sort_open)
    (λ a. ⊎_elim (λ e. at_kind 2 e sort_read)
    (λ b. ⊎_elim (λ e. at_kind 3 e sort_write)
    (λ c. ⊎_elim (λ e. at_kind 4 e sort_end)
    (λ d. ⊎_elim (λ e. at_kind 5 e sort_abandon)
    (λ f. ⊎_elim (λ e. at_kind 6 e sort_publish)
    (λ g. ⊎_elim (λ e. at_kind 7 e sort_add)
    (λ i. subst (Sort k) (sym (no_kind k a b c d f g i)) sort_none) (answer (eq_test k 7))) (answer (eq_test k 6))) (answer (eq_test k 5))) (answer (eq_test k 4))) (answer (eq_test k 3))) (answer (eq_test k 2))) (answer (eq_test k 1))
  where
    at_kind : (n : ℕ) → k ≡ n → Sort n (want n) → Sort k (want k)
    at_kind n e s = subst (λ (x : ℕ). Sort x (want x)) (sym e) s

-- a field that is not found to be other than 0 is 0
both_zero : (z c : ℕ) → (T (not (eqb z 0) || not (eqb c 0)) → ⊥) → (z ≡ 0) × (c ≡ 0)
both_zero z c f =
    let d = or_test (not_test (eq_test z 0)) (not_test (eq_test c 0)) in
    (⊎_elim (λ e. e) (λ g. absurd (f (d.shows (inl g)))) (answer (eq_test z 0)), ⊎_elim (λ e. e) (λ g. absurd (f (d.shows (inr g)))) (answer (eq_test c 0)))

first_zero : (z c : ℕ) → (T (not (eqb z 0) || leb cells c) → ⊥) → z ≡ 0
first_zero z c f = ⊎_elim (λ e. e) (λ g. absurd (f ((or_test (not_test (eq_test z 0)) (le_test cells c)).shows (inl g)))) (answer (eq_test z 0))

-- a record of a good form is the record of its event
record_is : {k : ℕ} {w : Want} (z c j : ℕ) → Sort k w → (T (ill_formed w (record { kind = k; byte1 = z; cell = c; job = j })) → ⊥) → (z ≡ 0) × (log_of (event_of j w j c) ≡ fields k c j)
unfolding ill_formed event_of
record_is z c j sort_open f = let b = both_zero z c f in (b.0, ap (λ (x : ℕ). fields 1 x j) (sym b.1))
record_is z c j sort_read f = (first_zero z c f, refl)
record_is z c j sort_write f = (first_zero z c f, refl)
record_is z c j sort_end f = let b = both_zero z c f in (b.0, ap (λ (x : ℕ). fields 4 x j) (sym b.1))
record_is z c j sort_abandon f = let b = both_zero z c f in (b.0, ap (λ (x : ℕ). fields 5 x j) (sym b.1))
record_is z c j sort_publish f = absurd (f tt)
record_is z c j sort_add f = (first_zero z c f, refl)
record_is z c j sort_none f = absurd (f tt)

eight_are : (h : History) (k z c d i j m n : ℕ) → c < 256 → d < 256 → i < 256 → j < 256 → m < 256 → n < 256
    → let r : Request = record { kind = k; byte1 = z; cell = c + d * 256; job = i + j * 256 + m * 65536 + n * 16777216 } in
    fault_of h r ≡ 0 → log_of (new_of r) ≡ k ∷ z ∷ c ∷ d ∷ i ∷ j ∷ m ∷ n ∷ []
unfolding fault_of
eight_are h k z c d i j m n hc hd hi hj hm hn e =
    let r : Request = record { kind = k; byte1 = z; cell = c + d * 256; job = i + j * 256 + m * 65536 + n * 16777216 } in
    let q = record_is z r.cell r.job (sort_of k) (passed (ill_formed (want k) r) 11 _ e).0 in
    q.1 ∙ fields_are k c d i j m n hc hd hi hj hm hn ∙ ap (λ (x : ℕ). k ∷ x ∷ c ∷ d ∷ i ∷ j ∷ m ∷ n ∷ []) (sym q.0)

read_is_from : (g : History) (p : ℕ) (l : List ℕ) (h : History) → Bytes l → length l % 8 ≡ 0 → read_from g p (records l) ≡ events h → log_of g ++ l ≡ log_of h
read_is_from g p (k ∷ z ∷ c ∷ d ∷ i ∷ j ∷ m ∷ n ∷ l) h b w e =
    let r : Request = record { kind = k; byte1 = z; cell = c + d * 256; job = i + j * 256 + m * 65536 + n * 16777216 } in
    let q = one_read g p r (records l) e in
    let same = eight_are g k z c d i j m n (b c (later (later here))) (b d (later (later (later here)))) (b i (later (later (later (later here))))) (b j (later (later (later (later (later here))))))
    (b m (later (later (later (later (later (later here))))))) (b n (later (later (later (later (later (later (later here)))))))) q.0 in
    sym (append_assoc (log_of g) (k ∷ z ∷ c ∷ d ∷ i ∷ j ∷ m ∷ n ∷ []) l)
    ∙ ap (λ (x : List ℕ). (log_of g ++ x) ++ l) (sym same)
    ∙ ap (λ (x : List ℕ). x ++ l) (sym (log_append g (new_of r)))
    ∙ read_is_from (g ++ new_of r) (suc p) l h (λ a x. b a (later (later (later (later (later (later (later (later x))))))))) (omega arith) q.1
read_is_from g p [] h b w e = append-nil (log_of g) ∙ ap log_of (let q : g ≡ h = cc in q)
read_is_from g p (k ∷ []) h b w e = absurd (omega arith)
read_is_from g p (k ∷ z ∷ []) h b w e = absurd (omega arith)
read_is_from g p (k ∷ z ∷ c ∷ []) h b w e = absurd (omega arith)
read_is_from g p (k ∷ z ∷ c ∷ d ∷ []) h b w e = absurd (omega arith)
read_is_from g p (k ∷ z ∷ c ∷ d ∷ i ∷ []) h b w e = absurd (omega arith)
read_is_from g p (k ∷ z ∷ c ∷ d ∷ i ∷ j ∷ []) h b w e = absurd (omega arith)
read_is_from g p (k ∷ z ∷ c ∷ d ∷ i ∷ j ∷ m ∷ []) h b w e = absurd (omega arith)

pub read_is : (log : List ℕ) (h : History) → Bytes log → read_log log ≡ events h → log ≡ log_of h
read_is log h b e = let q = log_read log e in read_is_from [] zero log h b q.0 q.1
