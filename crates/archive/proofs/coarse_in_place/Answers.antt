-- `archive::coarse_in_place` meets its contract, by that of `step_in_place` on the request by groups. Assumes nothing.
use Rattle.history.specs.Formats.{request_of}
use Rattle.slots.specs.Lent.{lent}
use Rattle.archive.proofs.ArchiveLaws.{coarsely}
use Rattle.archive.proofs.coarse_in_place.Goals as goal

pub returns : goal.returns
returns c =
    let a = c.args in
    coarsely (request_of a.request) (lent a.next.now a.free.now a.numbers.now a.leads.now a.sets.now a.ports.now) c.in_group-grouped.ensures c.step_in_place.ensures
