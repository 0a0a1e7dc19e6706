-- `lines::lines_by` meets its contract, by the laws of RunLaws. Assumes nothing.
use mathlib.Core.Path.{ap, ◌∙◌}
use Prim.Native.Nat.{◌+◌, ◌^◌, ◌≤◌, ◌<◌}
use native.Mathlib.Omega.{arith}
use mir.Val.{bool_byte}
use lib.ListN.{length}
use Rattle.lines.proofs.PutLaws.{puts_reply}
use Rattle.lines.proofs.RunLaws.{one_at_most, run_next, writes_all, leaves_none, no_place, no_room}
use Rattle.lines.proofs.lines_by.Goals as goal
use Rattle.lines.proofs.lines_by.Goals.{then-place-ge-PLACES-via-then-place-ge-PLACES, then-place-ge-PLACES-via-else-place-ge-PLACES+then-out-requests}

pub returns-then-place-ge-PLACES : goal.returns-then-place-ge-PLACES
returns-then-place-ge-PLACES g c =
    elim c.then-place-ge-PLACES.branch [
      | then-place-ge-PLACES-via-then-place-ge-PLACES w ↦ leaves_none (no_place c.args.place c.args.input.now c.args.out.now w.if-place-ge-PLACES.true)
      | then-place-ge-PLACES-via-else-place-ge-PLACES+then-out-requests w ↦ leaves_none (no_room c.args.place c.args.input.now c.args.out.now (omega (arith, w.if-out-requests.true, c.as_chunks.ensures.front_len)))
    ]

pub overflow_add-counted : goal.overflow_add-counted
overflow_add-counted g c =
    let more : c.loop-i.i + 1 ≤ length c.as_chunks.result.0.now = omega arith in
    let many : length c.as_chunks.result.0.now < 2 ^ 63 = omega (arith, c.as_chunks.ensures.front_len) in
    let one = one_at_most c.counts.result in
    record { fits = omega (arith, more, many, one, c.loop-i.invariant.few, c.from-counted.ensures) }

pub loop-i-preserved : goal.loop-i-preserved
loop-i-preserved g c =
    run_next _ c.loop-i.invariant (omega arith) c.ask-answer.ensures.answered c.ask-answer.ensures.left (c.from-counted.ensures ∙ ap bool_byte c.counts.ensures)
    (puts_reply _ _ c.code.ensures c.job.ensures c.put_line-at.ensures.puts) c.put_line-at.ensures.upper_bound

pub returns : goal.returns
returns g c =
    writes_all c.args.input.now c.as_chunks.ensures.front c.as_chunks.ensures.front_len c.loop-i.invariant c.loop-i-test.false (omega arith) c.if-place-ge-PLACES.false c.if-out-requests.false
