-- `slots::publish_job` meets its contract: a law of RequestLaws for each way out, from what the write and the end ensure. Assumes nothing.
use mathlib.Core.List.{List}
use Prim.Native.Nat.{ℕ}
use Rattle.held.specs.Held.{Held}
use Rattle.slots.specs.Lent.{lent}
use Rattle.slots.proofs.Exits.{handed}
use Rattle.slots.proofs.RequestLaws.{asks_does, does_publish_refused, does_publish_granted}
use Rattle.slots.proofs.publish_job.Goals as goal

pub returns-in_err-written : goal.returns-in_err-written
returns-in_err-written c =
    let state : ℕ → List ℕ → Held = λ next ports. lent next c.args.free.now c.args.numbers.now c.args.leads.now c.args.sets.now ports in
    λ next ports. rw (handed c.from_residual.result c.from_residual.ensures.1) (does_publish_refused {h = state next ports} (asks_does {h = state next ports} (c.step_job.ensures next ports)) c.in_err-written.was)

pub returns : goal.returns
returns c =
    let state : ℕ → List ℕ → Held = λ next ports. lent next c.args.free.now c.args.numbers.now c.args.leads.now c.args.sets.now ports in
    λ next ports. does_publish_granted {h = state next ports} (asks_does {h = state next ports} (c.step_job.ensures next ports)) c.in_ok-written.was (c.end_job.ensures next ports)
