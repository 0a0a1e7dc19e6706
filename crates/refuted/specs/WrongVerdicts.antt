-- Wrong checkers and listers, impossible: any checker that keeps the promise on verdicts (`Checks`), any lister that keeps the one on answers (`Lists`), is none of
-- those that document 01 names.
--
-- In order: a checker has no fixed verdict (`not_fixed`), its place of an accepted order is the count of kept jobs (`count_right`), and its place under a code is no
-- fixed one (`places_differ`); a lister does not refuse every log (`lists_some`), gives different lists (`lists_differ`), and its place under a code is no fixed one either
-- (`answers_differ`). Each but `count_right` by two worked cases. Code 14 is not among them, as its logs are too long to compute with; that its place is the record's is
-- `verdict_only`, as for every code.
-- Assumes nothing.
use Rattle.std.proofs.Math.Path.{◌≡◌, sym, ap}
use Rattle.std.specs.Prelude.{refl, Bool, false, ℕ, eqb, length}
use Rattle.std.proofs.Common.{◌∙◌}
use mathlib.Core.List.{List, [], ◌∷◌}
use native.Mathlib.Omega.{arith}
use Rattle.graph.specs.Decide.{eq_test, false_is}
use Rattle.graph.specs.Lists.{◌∈◌}
use Rattle.history.specs.Events.{History, kept}
use Rattle.history.specs.Cases.{reads, p1, p3, rows}
use Rattle.verdicts.specs.Logs.{events, read_log}
use Rattle.verdicts.specs.Verdicts.{Verdict, verdict, check, Listed, list_order}
use Rattle.verdicts.specs.Cases.{opens, raw, log, log_after, log_a, checked, answered}
use Rattle.verdicts_laws.specs.VerdictLaws.{Checked, log_faulty, log_read, Judged, bad_entry, job_missing, pair_turned, accepted, Answered, checked_only, answered_only}

abbrev pub Checker : Type 0
Checker = List ℕ → List ℕ → Verdict

abbrev pub Lister : Type 0
Lister = List ℕ → List ℕ → Listed

-- the promises, of any checker and of any lister
abbrev pub Checks : Checker → Type 0
Checks c = (bytes order : List ℕ) → Checked bytes order (c bytes order)

abbrev pub Lists : Lister → Type 0
Lists l = (bytes lent : List ℕ) → Answered bytes lent (l bytes lent)

-- ---- two cases with one code and two places

-- a code, and two inputs that get it, each with its place
pub record Two : Type 0 where
  pub code : ℕ
  pub bytes : List ℕ
  pub list : List ℕ
  pub place : ℕ
  pub bytes' : List ℕ
  pub list' : List ℕ
  pub place' : ℕ

-- what is found of the two: the codes and the places, and whether the places are the same
pub record Seen : Type 0 where
  pub code : ℕ
  pub place : ℕ
  pub code' : ℕ
  pub place' : ℕ
  pub same : Bool

abbrev pub to_see : Two → Seen
to_see t = record { code = t.code; place = t.place; code' = t.code; place' = t.place'; same = false }

abbrev pub seen_by : (List ℕ → List ℕ → ℕ) → (List ℕ → List ℕ → ℕ) → Two → Seen
seen_by code place t =
    record {
      code = code t.bytes t.list;
      place = place t.bytes t.list;
      code' = code t.bytes' t.list';
      place' = place t.bytes' t.list';
      same = eqb t.place t.place';
    }

unfoldable pub seen_by_checker : Two → Seen
unfolding checked
seen_by_checker = seen_by (λ b o. (check b o).code) (λ b o. (check b o).place)

unfoldable pub seen_by_lister : Two → Seen
unfolding answered
seen_by_lister = seen_by (λ b l. (list_order b l).code) (λ b l. (list_order b l).place)

-- an accepted order of two jobs, of three; 12, 13, 15 and 16
abbrev pub verdict_table : List Two
verdict_table =
    record { code = 0; bytes = log_after p1; list = 1 ∷ 2 ∷ []; place = 2; bytes' = log_after p3; list' = 2 ∷ 1 ∷ 3 ∷ []; place' = 3 }
    ∷ record { code = 12; bytes = log (raw 0 0 0 1 ∷ []); list = []; place = 0; bytes' = log (opens 1 ∷ raw 0 0 0 1 ∷ []); list' = 1 ∷ []; place' = 1 }
    ∷ record { code = 13; bytes = log (reads 1 5 ∷ []); list = []; place = 0; bytes' = log (opens 1 ∷ reads 2 5 ∷ []); list' = 1 ∷ []; place' = 1 }
    ∷ record { code = 15; bytes = log_after p1; list = 3 ∷ []; place = 0; bytes' = log_after p1; list' = 1 ∷ 1 ∷ []; place' = 1 }
    ∷ record { code = 16; bytes = log_after p1; list = 2 ∷ 1 ∷ []; place = 4; bytes' = log log_a; list' = 4 ∷ 5 ∷ []; place' = 3 }
    ∷ []

pub verdicts_seen : (t : Two) → t ∈ verdict_table → seen_by_checker t ≡ to_see t
unfolding seen_by_checker
verdicts_seen t = rows seen_by_checker to_see (refl, (refl, (refl, (refl, (refl, tt)))))

-- an order of two jobs, of three; 12, 13 and 18
abbrev pub answer_table : List Two
answer_table =
    record { code = 0; bytes = log_after p1; list = 7 ∷ 8 ∷ []; place = 2; bytes' = log_after p3; list' = 7 ∷ 8 ∷ 9 ∷ []; place' = 3 }
    ∷ record { code = 12; bytes = log (raw 0 0 0 1 ∷ []); list = []; place = 0; bytes' = log (opens 1 ∷ raw 0 0 0 1 ∷ []); list' = []; place' = 1 }
    ∷ record { code = 13; bytes = log (reads 1 5 ∷ []); list = []; place = 0; bytes' = log (opens 1 ∷ reads 2 5 ∷ []); list' = []; place' = 1 }
    ∷ record { code = 18; bytes = log (opens 1 ∷ []); list = []; place = 1; bytes' = log_after p1; list' = []; place' = 2 }
    ∷ []

pub answers_seen : (t : Two) → t ∈ answer_table → seen_by_lister t ≡ to_see t
unfolding seen_by_lister
answers_seen t = rows seen_by_lister to_see (refl, (refl, (refl, (refl, tt))))

-- codes and places that are those seen do not have one place only under the code
module _ (code place code₀ place₀ : List ℕ → List ℕ → ℕ) (same_code : (b l : List ℕ) → code b l ≡ code₀ b l) (same_place : (b l : List ℕ) → place b l ≡ place₀ b l) where
  not_one : (t : Two) → seen_by code₀ place₀ t ≡ to_see t
      → ((b l b' l' : List ℕ) → code b l ≡ t.code → code b' l' ≡ t.code → place b l ≡ place b' l') → ⊥
  not_one t e f =
      let p = f t.bytes t.list t.bytes' t.list' (same_code t.bytes t.list ∙ ap (λ (s : Seen). s.code) e) (same_code t.bytes' t.list' ∙ ap (λ (s : Seen). s.code') e) in
      let q = same_place t.bytes t.list ∙ ap (λ (s : Seen). s.place) e in
      let r = same_place t.bytes' t.list' ∙ ap (λ (s : Seen). s.place') e in
      false_is (ap (λ (s : Seen). s.same) e) ((eq_test t.place t.place').shows (sym q ∙ (p ∙ r)))

-- ---- checkers

-- the place of code 0 is the count of kept jobs
counted : (h : History) (order : List ℕ) {v : Verdict} → Judged h order v → v.code ≡ 0 → v.place ≡ length (kept h)
counted h order (bad_entry f) z = absurd (let y : ◌≡◌ {A = ℕ} 15 0 = z in omega arith)
counted h order (job_missing g m) z = absurd (let y : ◌≡◌ {A = ℕ} 15 0 = z in omega arith)
counted h order (pair_turned n l) z = absurd (let y : ◌≡◌ {A = ℕ} 16 0 = z in omega arith)
counted h order (accepted a) z = refl

module _ (c : Checker) (keeps : Checks c) where
  checks : (bytes order : List ℕ) → c bytes order ≡ check bytes order
  checks bytes order = checked_only bytes order (keeps bytes order)

  -- no fixed verdict: the empty log accepts the empty order, and not the order 1
  pub not_fixed : (v : Verdict) → ((bytes order : List ℕ) → c bytes order ≡ v) → ⊥
  unfolding checked
  not_fixed v f =
      let p : verdict 0 0 ≡ v = sym (checks [] []) ∙ f [] [] in
      let q : verdict 15 0 ≡ v = sym (checks [] (1 ∷ [])) ∙ f [] (1 ∷ []) in
      let z : ◌≡◌ {A = ℕ} 0 15 = ap (λ (x : Verdict). x.code) (p ∙ sym q) in
      omega arith

  -- the place of an accepted order is the count of kept jobs, and nothing else
  pub count_right : (bytes order : List ℕ) (h : History) → read_log bytes ≡ events h → (c bytes order).code ≡ 0 → (c bytes order).place ≡ length (kept h)
  count_right bytes order h e z = go (keeps bytes order) z
    where
      go : {v : Verdict} → Checked bytes order v → v.code ≡ 0 → v.place ≡ length (kept h)
      go (log_faulty f) z = absurd (let y : ◌≡◌ {A = ℕ} 0 1 = cc in omega arith)
      go (log_read {h = k} f t j) z = let q : k ≡ h = cc in counted k order j z ∙ ap (λ (x : History). length (kept x)) q

  -- no fixed place under a code
  pub places_differ : (t : Two) → t ∈ verdict_table
      → ((b o b' o' : List ℕ) → (c b o).code ≡ t.code → (c b' o').code ≡ t.code → (c b o).place ≡ (c b' o').place) → ⊥
  unfolding seen_by_checker
  places_differ t m =
      not_one (λ b o. (c b o).code) (λ b o. (c b o).place) (λ b o. (check b o).code) (λ b o. (check b o).place)
      (λ b o. ap (λ (v : Verdict). v.code) (checks b o)) (λ b o. ap (λ (v : Verdict). v.place) (checks b o)) t (verdicts_seen t m)

-- ---- listers

module _ (l : Lister) (keeps : Lists l) where
  lists : (bytes lent : List ℕ) → l bytes lent ≡ list_order bytes lent
  lists bytes lent = answered_only bytes lent (keeps bytes lent)

  -- it does not refuse every log, whether with 17 or with another code: the empty log has the empty order
  pub lists_some : ((bytes lent : List ℕ) → (l bytes lent).code ≡ 0 → ⊥) → ⊥
  unfolding answered
  lists_some f = f [] [] (ap (λ (a : Listed). a.code) (lists [] []))

  -- it does not put down the same list for every log: P1 has the order 1, 2 and log A the order 5, 4
  pub lists_differ : ((bytes bytes' lent : List ℕ) → (l bytes lent).code ≡ 0 → (l bytes' lent).code ≡ 0 → (l bytes lent).list ≡ (l bytes' lent).list) → ⊥
  unfolding answered
  lists_differ f =
      let p = lists (log_after p1) (7 ∷ 8 ∷ []) in
      let q = lists (log log_a) (7 ∷ 8 ∷ []) in
      let e = f (log_after p1) (log log_a) (7 ∷ 8 ∷ []) (ap (λ (a : Listed). a.code) p) (ap (λ (a : Listed). a.code) q) in
      let s : ◌≡◌ {A = List ℕ} (1 ∷ 2 ∷ []) (5 ∷ 4 ∷ []) = sym (ap (λ (a : Listed). a.list) p) ∙ (e ∙ ap (λ (a : Listed). a.list) q) in
      let z : ◌≡◌ {A = ℕ} 1 5 = cc in
      omega arith

  -- no fixed place under a code
  pub answers_differ : (t : Two) → t ∈ answer_table
      → ((b o b' o' : List ℕ) → (l b o).code ≡ t.code → (l b' o').code ≡ t.code → (l b o).place ≡ (l b' o').place) → ⊥
  unfolding seen_by_lister
  answers_differ t m =
      not_one (λ b o. (l b o).code) (λ b o. (l b o).place) (λ b o. (list_order b o).code) (λ b o. (list_order b o).place)
      (λ b o. ap (λ (a : Listed). a.code) (lists b o)) (λ b o. ap (λ (a : Listed). a.place) (lists b o)) t (answers_seen t m)
