-- Each contract of the crate's public functions leaves one result: two results that meet it are equal. A theorem for each function, named after it, of the
-- contract itself: `Post` is what Rattle reads of the function's `ensures`. A number below 2 ^ 32 is known by its four bytes (`same_number`).
-- Assumes nothing.
use Rattle.std.proofs.Common.{◌≡◌, ℕ, ◌+◌, List, length, sym, ◌∙◌, ⊎_elim, arith}
use contract.Lifetimes.{Lfts}
use borrow.Fn.Kind.{ParamKind, ResultKind}
use borrow.Fn.Kinds.{Out, Dens, res_t, ended_of}
use denote.Triple.Clauses.{AtExit}
use Rattle.graph.specs.Decide.{le_test, answer}
use Rattle.sums.specs.Sums.{WordAt, AddsUp}
use Rattle.sums.specs.ByteLaws.{same_number}
use Rattle.sums.specs.declared.Sums.{Sums}
use Rattle.sums.proofs.word_at.Kinds as word_kinds
use Rattle.sums.proofs.word_at.Reads as word_reads
use Rattle.sums.proofs.add_up.Kinds as add_kinds
use Rattle.sums.proofs.add_up.Reads as add_reads
use Rattle.sums.proofs.put_run.Kinds as run_kinds
use Rattle.sums.proofs.put_run.Reads as run_reads

-- two results at the same arguments are equal; n lifetimes
abbrev pub One : (n : ℕ) (ps : List (ParamKind n)) (r : ResultKind n) → Out n ps r → Type 0
One n ps r P = (κs : Lfts n) (a : Dens κs ps) (x y : (res_t r κs).Denot) (s t : AtExit (ended_of n ps r) κs) → P κs a x s → P κs a y t → x ≡ y

one_word : {bytes : List ℕ} {at x y : ℕ} → WordAt bytes at x → WordAt bytes at y → x ≡ y
one_word {bytes} {at} {x} {y} p q =
    ⊎_elim (λ h. same_number x y p.small q.small (p.there h ∙ sym (q.there h))) (λ f. p.past (omega (arith, f)) ∙ sym (q.past (omega (arith, f)))) (answer (le_test (at + 4) (length bytes)))

same_sums : {bytes : List ℕ} (x y : Sums) → AddsUp bytes x.first x.second → AddsUp bytes y.first y.second → x ≡ y
same_sums x y p q = λ i. record { first = (p.of_words ∙ sym q.of_words) i; second = (p.of_sums ∙ sym q.of_sums) i }

pub one_word_at : One 1 word_kinds.ps word_kinds.r word_reads.Post
one_word_at κs a x y s t p q = one_word p q

pub one_add_up : One 1 add_kinds.ps add_kinds.r add_reads.Post
one_add_up κs a x y s t p q = same_sums x y p q

-- what the bytes hold then
pub one_put_run : (κs : Lfts 2) (a : Dens κs run_kinds.ps) (x y : (res_t run_kinds.r κs).Denot) (s t : AtExit (ended_of 2 run_kinds.ps run_kinds.r) κs) → run_reads.Post κs a x s → run_reads.Post κs a y t → s.1.0.now ≡ t.1.0.now
one_put_run κs a x y s t p q = p ∙ sym q
