-- `batch::step_item` meets its contract: by that of the arbiter's step where the kind is a read, a write or an add, and elsewhere nothing moves. Assumes nothing.
use Rattle.history.specs.Formats.{request_of}
use Rattle.slots.specs.Lent.{lent}
use Rattle.slots.proofs.Exits.{handed}
use Rattle.batch.specs.Laws.{Taken}
use Rattle.batch.proofs.RunLaws.{taken_kind, other_kind, no_kind, takes_step, takes_none}
use Rattle.batch.proofs.step_item.Goals as goal

pub returns-in_err-try_from : goal.returns-in_err-try_from
returns-in_err-try_from c =
    let e = handed c.from_residual.result c.from_residual.ensures.1 in
    let none : Taken (request_of c.args.item) → ⊥ = unfold request_of in no_kind (request_of c.args.item) c.in_err-try_from.ensures.1 in
    λ ports. rw (e, c.in_err-try_from.ensures.0) (takes_none {h = lent c.args.next c.args.free c.args.numbers.now c.args.leads.now c.args.sets.now ports} (request_of c.args.item) none)

pub returns-in-Read : goal.returns-in-Read
returns-in-Read c =
    let is_taken : Taken (request_of c.args.item) = unfold request_of in taken_kind (request_of c.args.item) c.in_ok-try_from.ensures c.in-Read.is in
    λ ports. takes_step ports (request_of c.args.item) is_taken c.step_in_place.ensures

pub returns-in-Open : goal.returns-in-Open
returns-in-Open c =
    let none : Taken (request_of c.args.item) → ⊥ = unfold request_of in other_kind (request_of c.args.item) c.in_ok-try_from.ensures c.in-Open.is in
    λ ports. takes_none {h = lent c.args.next c.args.free c.args.numbers.now c.args.leads.now c.args.sets.now ports} (request_of c.args.item) none
