-- `batch::batch_in_place` meets its contract: a law of RunLaws for each way out. Assumes nothing.
use mathlib.Core.Logic.{inl, inr}
use mathlib.Core.List.{List}
use Prim.Native.Nat.{ℕ}
use native.Mathlib.Omega.{arith}
use Rattle.held.specs.Held.{Held}
use Rattle.slots.specs.Lent.{lent}
use Rattle.batch.proofs.RunLaws.{batch_length, batch_granted, batch_refused}
use Rattle.batch.proofs.batch_in_place.Goals as goal

pub returns-then-bytes-ne0 : goal.returns-then-bytes-ne0
returns-then-bytes-ne0 c =
    let held : List ℕ → Held = λ ports. lent c.args.next c.args.free c.args.numbers.now c.args.leads.now c.args.sets.now ports in
    λ ports. batch_length (held ports) c.args.requests.now (inl c.if-bytes-ne0.true)

pub returns-then-bytes-gt512 : goal.returns-then-bytes-gt512
returns-then-bytes-gt512 c =
    let held : List ℕ → Held = λ ports. lent c.args.next c.args.free c.args.numbers.now c.args.leads.now c.args.sets.now ports in
    λ ports. batch_length (held ports) c.args.requests.now (inr (omega arith))

pub returns-then-is_err : goal.returns-then-is_err
returns-then-is_err c =
    let held : List ℕ → Held = λ ports. lent c.args.next c.args.free c.args.numbers.now c.args.leads.now c.args.sets.now ports in
    λ ports. batch_refused (held ports) c.args.requests.now c.if-bytes-ne0.false (omega arith) (c.run-batched.ensures ports) c.if-is_err.ensures.value

pub returns-else-is_err : goal.returns-else-is_err
returns-else-is_err c =
    let held : List ℕ → Held = λ ports. lent c.args.next c.args.free c.args.numbers.now c.args.leads.now c.args.sets.now ports in
    λ ports. batch_granted (held ports) c.args.requests.now c.if-bytes-ne0.false (omega arith) (c.run-batched.ensures ports) c.if-is_err.ensures.value
