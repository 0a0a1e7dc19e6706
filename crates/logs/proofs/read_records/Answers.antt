use mathlib.Core.Path.{◌≡◌, sym, ap, ◌∙◌, subst}
use mathlib.Core.Logic.{inl, inr}
use Prim.Native.Nat.{ℕ, ◌+◌}
use lib.ListN.{get_elem?}
use Rattle.std.specs.Prelude.{Some, None}
use Rattle.std.specs.Iterator.Adapters.{enumerate_source, enumerate_count}
use Rattle.std.specs.declared.iter.Enumerate.{Enumerate}
use Rattle.std.proofs.lemmas.Result.{err_from_is_err_and}
use Rattle.history.specs.Formats.{records}
use Rattle.reader.specs.declared.Reader.{Reader}
use Rattle.logs.proofs.ReadLaws.{bad_length, Along, along_start, along_fault, along_next, along_end, read_there, stands_next}
use Rattle.logs.proofs.read_records.Goals as goal
use Rattle.logs.proofs.read_records.Goals.{then-log-ne0-via-then-log-ne0, then-log-ne0-via-else-log-ne0+then-log-gt32768}

pub returns-then-log-ne0 : goal.returns-then-log-ne0
returns-then-log-ne0 c = (
  c.requires,
  λ b. bad_length _ (elim c.then-log-ne0.branch [ then-log-ne0-via-then-log-ne0 w ↦ inl w.if-log-ne0.true | then-log-ne0-via-else-log-ne0+then-log-gt32768 w ↦ inr w.if-log-gt32768.true ]),
)

pub loop-place-init : goal.loop-place-init
loop-place-init c =
    let it = c.into_iter-place-iterator.result in
    let same = c.into_iter-place-iterator.ensures.into_iter_gives in
    let source : enumerate_source it ≡ c.new.result = ap (λ (e : Enumerate Reader). enumerate_source e) same ∙ c.enumerate-place-items.ensures.source in
    let zero : enumerate_count it ≡ 0 = ap (λ (e : Enumerate Reader). enumerate_count e) same ∙ c.enumerate-place-items.ensures.count in
    let l = c.args in (
      c.requires,
      record {
        of_log = ap (λ (r : Reader). r.log.now) source ∙ ap (λ l. l.now) c.new.ensures.0;
        at = ap (λ (r : Reader). r.place) source ∙ c.new.ensures.1 ∙ sym zero;
      },
      λ b. subst (λ (k : ℕ). Along l.log.now k l.numbers.now l.states.now l.told.now l.jobs.now) (sym zero) (along_start _ _ _ _ _ c.if-log-ne0.false c.if-log-gt32768.false b),
    )

pub loop-place-preserved : goal.loop-place-preserved
loop-place-preserved c =
    let s = c.in-Some.ensures.steps in
    let there = read_there c.loop-place.invariant.1 (Some c.in-Some.r) s.0.0 in
    let l = c.loop-place in
    let n = c.take_record.new in (
      c.in_ok-take_record.ensures.0,
      stands_next c.loop-place.invariant.1 _ there s.0.1 s.2,
      λ b.
          let a = subst (λ (k : ℕ). Along c.args.log.now k l.numbers l.states l.told l.jobs) (sym s.1) (c.loop-place.invariant.2 b) in
          subst (λ (k : ℕ). Along c.args.log.now k n.numbers n.states n.told n.jobs) (ap (λ (k : ℕ). k + 1) s.1 ∙ sym s.2)
          (along_next a (there ∙ ap (get_elem? (records c.args.log.now)) (sym s.1)) n.numbers n.states n.told n.jobs (c.in_ok-take_record.ensures.1 a.so_far a.taken)),
    )

pub returns-in_err-take_record : goal.returns-in_err-take_record
returns-in_err-take_record c =
    let s = c.in-Some.ensures.steps in
    let there = read_there c.loop-place.invariant.1 (Some c.in-Some.r) s.0.0 in
    let l = c.loop-place in
    let n = c.take_record.new in
    let p = err_from_is_err_and c.from_residual.result c.from_residual.ensures.1 in (
      c.in_err-take_record.ensures.0,
      λ b.
          let a = subst (λ (k : ℕ). Along c.args.log.now k l.numbers l.states l.told l.jobs) (sym s.1) (c.loop-place.invariant.2 b) in
          rw (p.1, p.2) (along_fault a (there ∙ ap (get_elem? (records c.args.log.now)) (sym s.1)) n.numbers n.states n.told n.jobs _ (c.in_err-take_record.ensures.1 a.so_far a.taken)),
    )

pub returns : goal.returns
returns c = (c.loop-place.invariant.0, λ b. along_end (c.loop-place.invariant.2 b) (read_there c.loop-place.invariant.1 None c.in-None.ensures.steps.0.0))
