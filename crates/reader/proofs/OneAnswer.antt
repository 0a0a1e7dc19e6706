-- Each contract of the crate's public functions leaves one result: two results that meet it are equal. A theorem for each function, named after it, of the
-- contract itself. Where Rattle covers the parameters, `Post` is what it reads of the `ensures` (`One`). For the functions over a `Reader` the `ensures` are an
-- assertion, and two that hold together give the equation (`OneOf`); for `next` of a reader the readers at exit are equal too.
-- Assumes nothing.
use mathlib.Core.Path.{◌≡◌, refl, sym, ap, ◌∙◌}
use mathlib.Core.Option.{Option, none, some}
use mathlib.Core.List.{List}
use Prim.Native.Nat.{ℕ}
use seplogic.Ra.Ura.{Ura}
use base.Logic.{SProp, ent, sep, via, mono∗, fst∗, snd∗}
use prog.Memory.{Memory}
use prog.Routine.{Routine}
use types.Logic.{Logic}
use contract.Lifetimes.{Lfts}
use contract.Monad.{Fun, fact, fact_i, fact_use}
use borrow.Fn.Kind.{ParamKind, ResultKind}
use borrow.Fn.Kinds.{Out, Dens, res_t, ended_of}
use denote.Triple.Entry.{Args, Res}
use denote.Triple.Clauses.{Ended, AtExit, Clauses}
use Rattle.std.specs.declared.option.Option as rust
use Rattle.std.specs.declared.option.Option.TheVariants.{Some, None}
use Rattle.history.specs.Replies.{Request}
use Rattle.reader.specs.Next.{told}
use Rattle.reader.specs.declared.Record.{Record}
use Rattle.reader.proofs.after.Kinds as after_kinds
use Rattle.reader.proofs.after.Reads as after_reads
use Rattle.reader.proofs.record_at.Kinds as record_at_kinds
use Rattle.reader.proofs.record_at.Reads as record_at_reads
use Rattle.reader.proofs.next_record.Kinds as next_record_kinds
use Rattle.reader.proofs.next_record.Reads as next_record_reads
use Rattle.reader.specs.contracts.Reader.new as new
use Rattle.reader.specs.contracts.Reader.at as at
use Rattle.reader.specs.contracts.Reader.place as place
use Rattle.reader.specs.contracts.ReaderIterator.next as next

-- ---- the fields that are told make the record again

-- the record that has these fields
back : Option Request → rust.Option Record
back (some r) = Some (record { kind = r.kind; byte1 = r.byte1; cell = r.cell; job = r.job })
back none = None

told_back : (n : rust.Option Record) → back (told n) ≡ n
unfolding back
told_back (Some r) = refl
told_back None = refl

same_next : {v : Option Request} (x y : rust.Option Record) → told x ≡ v → told y ≡ v → x ≡ y
same_next x y p q = sym (told_back x) ∙ ap back (p ∙ sym q) ∙ told_back y

-- ---- slices and numbers

-- two results at the same arguments are equal; n lifetimes
abbrev pub One : (n : ℕ) (ps : List (ParamKind n)) (r : ResultKind n) → Out n ps r → Type 0
One n ps r P = (κs : Lfts n) (a : Dens κs ps) (x y : (res_t r κs).Denot) (s t : AtExit (ended_of n ps r) κs) → P κs a x s → P κs a y t → x ≡ y

pub one_record_at : One 1 record_at_kinds.ps record_at_kinds.r record_at_reads.Post
one_record_at κs a x y s t p q = same_next x y p q

pub one_after : One 1 after_kinds.ps after_kinds.r after_reads.Post
one_after κs a x y s t p q = p ∙ sym q

pub one_next_record : One 1 next_record_kinds.ps next_record_kinds.r next_record_reads.Post
one_next_record κs a x y s t p q = same_next x y p q

-- ---- readers

module _ {M : Type 1} (𝓤 : Ura M) where
  -- what holds of any two results, with what is there at exit, that meet the clauses at the same arguments
  abbrev pub Both : (T : Ended) (c : Clauses 𝓤 T) → ((κs : Lfts T.signature.lifetimes) → Res T.signature κs → AtExit T κs → Res T.signature κs → AtExit T κs → Type 0) → Type 1
  Both T c same = (κs : Lfts T.signature.lifetimes) (a : Args T.signature κs) (g : (c κs a).ghost) (x y : Res T.signature κs) (s t : AtExit T κs)
      → ent 𝓤 (sep 𝓤 ((c κs a).ensures g x s) ((c κs a).ensures g y t)) (fact 𝓤 (same κs x s y t))

  abbrev pub OneOf : (T : Ended) → Clauses 𝓤 T → Type 1
  OneOf T c = Both T c (λ κs x s y t. x ≡ y)

  from_both : (P Q C : Type 0) → (P → Q → C) → ent 𝓤 (sep 𝓤 (fact 𝓤 P) (fact 𝓤 Q)) (fact 𝓤 C)
  from_both P Q C f = fact_use 𝓤 P (fst∗ 𝓤 (fact 𝓤 P) (fact 𝓤 Q)) (λ p. fact_use 𝓤 Q (snd∗ 𝓤 (fact 𝓤 P) (fact 𝓤 Q)) (λ q. fact_i 𝓤 C (sep 𝓤 (fact 𝓤 P) (fact 𝓤 Q)) (f p q)))

  -- where each has more beside it
  from_firsts : (P Q R S C : Type 0) → (P → Q → C) → ent 𝓤 (sep 𝓤 (sep 𝓤 (fact 𝓤 P) (fact 𝓤 R)) (sep 𝓤 (fact 𝓤 Q) (fact 𝓤 S))) (fact 𝓤 C)
  from_firsts P Q R S C f =
      via 𝓤 (sep 𝓤 (fact 𝓤 P) (fact 𝓤 Q)) (mono∗ 𝓤 (fst∗ 𝓤 (fact 𝓤 P) (fact 𝓤 R)) (fst∗ 𝓤 (fact 𝓤 Q) (fact 𝓤 S))) (from_both P Q C f)

  module _ (𝓛 : Logic 𝓤) (mem : Memory → SProp 𝓤) (run : Routine → Fun 𝓤) where
    pub one_new : OneOf new.ended (new.clauses 𝓛 mem run)
    one_new κs a g x y s t = from_both _ _ _ (λ p q. λ i. record { log = (p.0 ∙ sym q.0) i; place = (p.1 ∙ sym q.1) i })

    pub one_at : OneOf at.ended (at.clauses 𝓛 mem run)
    one_at κs a g x y s t = from_both _ _ _ (λ p q. λ i. record { log = (p.0 ∙ sym q.0) i; place = (p.1 ∙ sym q.1) i })

    pub one_place : OneOf place.ended (place.clauses 𝓛 mem run)
    one_place κs a g x y s t = from_both _ _ _ (λ p q. p ∙ sym q)

    pub one_next : Both next.ended (next.clauses 𝓛 mem run) (λ κs x s y t. (x ≡ y) × (s.0.now ≡ t.0.now))
    one_next κs a g x y s t = from_firsts _ _ _ _ _ (λ p q. (same_next x y p.0 q.0, p.1 ∙ sym q.1))
