use mathlib.Core.Path.{◌≡◌, refl, ap, ◌∙◌, subst}
use mathlib.Core.List.{[], ◌∷◌, ◌++◌}
use Prim.Native.Nat.{ℕ, ◌+◌}
use mathlib.Core.Bool.{true, false}
use lib.ListN.{length, drop, get_or}
use Rattle.history.specs.Events.{Event}
use native.Mathlib.Omega.{arith}
use Rattle.std.specs.Prelude.{Option, None, Some, Result, Err, ok_or, IfSome, MatchOption}
use Rattle.std.proofs.lemmas.Result.{err_from_is_err_and}
use Rattle.notation.specs.Parse.{parse, parse_from, parse_end, wrong, says, next, whole_at, event_at}
use Rattle.importer.specs.Importer.{as_read, as_next, Inside, event_of}
use Rattle.importer.specs.declared.Stand.{Stand as Standing}
use Rattle.importer.specs.declared.Symbol.{Symbol}
use Rattle.importer.specs.declared.Refusal.{Refusal}
use Rattle.importer.proofs.StandLaws.{ends_empty, ends_whole, ends_short}
use Rattle.importer.proofs.LogLaws.{holds_none, turns_on, turns_off, blank_off, blank_on, parse_over}
use Rattle.importer.proofs.parse.Goals as goal
use Rattle.importer.proofs.parse.Goals.{then-byte-eq32+in_ok-symbol, else-byte-eq32+in_ok-s}

-- what `ok_or` makes an error of
none_left : {A : Type 0} {r : Option A} {e d : Refusal} → ◌≡◌ {A = Result A Refusal} (Err e) (ok_or r d) → (r ≡ None) × (e ≡ d)
none_left {r = None} x = (refl, cc)
none_left {r = Some n} x = absurd (cc)

-- what is said of the symbol that is read whole
abbrev Whole : Standing → Option Symbol → Type 0
Whole s r = MatchOption r (whole_at (as_read s) ≡ false) (λ x. (whole_at (as_read s) ≡ true) × (event_at (as_read s) ≡ event_of x))

as_whole : (s : Standing) {r v : Option Symbol} → r ≡ v → Whole s r → Whole s v
as_whole s e w = subst (Whole s) e w

-- what is said of the next stand
as_stand : (s : Standing) (byte : ℕ) {r v : Option Standing} → r ≡ v → as_next r ≡ next (as_read s) byte → as_next v ≡ next (as_read s) byte
as_stand s byte e w = subst (λ (r : Option Standing). as_next r ≡ next (as_read s) byte) e w

as_inside : {r v : Option Standing} → r ≡ v → IfSome r Inside → IfSome v Inside
as_inside e w = subst (λ (r : Option Standing). IfSome r Inside) e w

pub loop-i-init : goal.loop-i-init
unfolding parse
loop-i-init c = (c.requires, omega arith, ([], refl, holds_none c.args.log.now))

pub returns-in_err-symbol : goal.returns-in_err-symbol
returns-in_err-symbol c =
    let so_far = c.loop-i.invariant.2 in
    let p = err_from_is_err_and c.from_residual.result c.from_residual.ensures.1 in
    let left = none_left c.in_err-symbol.ensures.value in
    rw (p.1) (c.loop-i.i, p.2 ∙ left.1, so_far.1 ∙ blank_off c.args.text.now so_far.0 c.loop-i.s c.loop-i.i c.loop-i-test.true c.if-byte-eq32.true (as_whole c.loop-i.s left.0 c.whole_at.ensures))

pub returns-in_err-s : goal.returns-in_err-s
returns-in_err-s c =
    let so_far = c.loop-i.invariant.2 in
    let p = err_from_is_err_and c.from_residual-in_err-s.result c.from_residual-in_err-s.ensures.1 in
    let left = none_left c.in_err-s.ensures.value in
    rw (p.1) (c.loop-i.i, p.2 ∙ left.1, so_far.1 ∙ turns_off c.args.text.now so_far.0 c.loop-i.s c.loop-i.i c.loop-i-test.true (as_stand c.loop-i.s _ left.0 c.next.ensures.stand))

pub loop-i-preserved : goal.loop-i-preserved
loop-i-preserved c =
    let so_far = c.loop-i.invariant.2 in
    elim c.if-byte-eq32.branch [
      | then-byte-eq32+in_ok-symbol w ↦ rw (w.log-is, w.s-is, w.count-is) (
        omega arith,
        omega arith,
        (
          so_far.0 ++ event_of w.in_ok-symbol.symbol ∷ [],
          so_far.1
              ∙ blank_on c.args.text.now so_far.0 c.loop-i.s c.loop-i.i c.loop-i-test.true w.if-byte-eq32.true (as_whole c.loop-i.s w.in_ok-symbol.ensures.ok_part w.whole_at.ensures).0
              ∙ ap (λ (e : Event). parse_from (so_far.0 ++ e ∷ []) (as_read Standing.Blank) (c.loop-i.i + 1) (drop (c.loop-i.i + 1) c.args.text.now)) (as_whole c.loop-i.s w.in_ok-symbol.ensures.ok_part w.whole_at.ensures).1,
          w.grow.ensures so_far.0 so_far.2,
        ),
      )
      | else-byte-eq32+in_ok-s w ↦ rw (w.log-is, w.s-is, w.count-is) (
        omega arith,
        omega arith,
        (
          so_far.0,
          so_far.1 ∙ turns_on c.args.text.now so_far.0 c.loop-i.s c.loop-i.i c.loop-i-test.true _ (as_stand c.loop-i.s _ w.in_ok-s.ensures.ok_part w.next.ensures.stand) (as_inside w.in_ok-s.ensures.ok_part w.next.ensures.inside),
          so_far.2,
        ),
      )
    ]

pub returns-in-Start : goal.returns-in-Start
returns-in-Start c =
    let so_far = c.loop-i.invariant.2 in
    let over = parse_over c.args.text.now so_far.0 c.loop-i.s c.loop-i.i c.loop-i-test.false in
    ([], so_far.1 ∙ over ∙ ap (λ (s : Standing). parse_end so_far.0 (as_read s) c.loop-i.i) c.in-Start.is ∙ ends_empty so_far.0 c.loop-i.i, holds_none c.loop-i.log)

pub returns-in_err-last : goal.returns-in_err-last
returns-in_err-last c =
    let so_far = c.loop-i.invariant.2 in
    let over = parse_over c.args.text.now so_far.0 c.loop-i.s c.loop-i.i c.loop-i-test.false in
    let at : c.loop-i.i ≡ length c.args.text.now = omega arith in
    let p = err_from_is_err_and c.from_residual-in_err-last.result c.from_residual-in_err-last.ensures.1 in
    let left = none_left c.in_err-last.ensures.value in
    rw (p.1) (length c.args.text.now, p.2 ∙ left.1, so_far.1 ∙ over ∙ ends_short so_far.0 c.loop-i.i c.loop-i.s c.in_default.not-Start (as_whole c.loop-i.s left.0 c.whole_at-2.ensures) ∙ ap wrong at)

pub returns : goal.returns
returns c =
    let so_far = c.loop-i.invariant.2 in
    let over = parse_over c.args.text.now so_far.0 c.loop-i.s c.loop-i.i c.loop-i-test.false in (
      so_far.0 ++ event_of c.in_ok-last.last ∷ [],
      so_far.1 ∙ over ∙ ends_whole so_far.0 c.loop-i.i c.loop-i.s c.in_default.not-Start (as_whole c.loop-i.s c.in_ok-last.ensures.ok_part c.whole_at-2.ensures).0 ∙ ap (λ (e : Event). says (so_far.0 ++ e ∷ [])) (as_whole c.loop-i.s c.in_ok-last.ensures.ok_part c.whole_at-2.ensures).1,
      c.grow-2.ensures so_far.0 so_far.2,
    )
