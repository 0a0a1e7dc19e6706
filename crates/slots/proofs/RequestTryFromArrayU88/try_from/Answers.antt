-- A request is read from its eight bytes as `Reads` says: its fields are theirs, or no request has them. Assumes nothing.
use mathlib.Core.Path.{◌≡◌, refl, sym}
use Rattle.std.specs.Prelude.{Err}
use Rattle.history.specs.Formats.{request_of}
use Rattle.slots.proofs.Exits.{handed}
use Rattle.slots.proofs.RequestTryFromArrayU88.try_from.Goals as goal

pub returns-in_err-kind : goal.returns-in_err-kind
unfolding request_of
returns-in_err-kind c =
    let h = c.in_err-kind.ensures in
    let e : c.from_residual.result ≡ Err c.in_err-kind.field-0.0 = handed c.from_residual.result c.from_residual.ensures.1 in
    rw e (h.0, λ r f. h.1 r.kind (λ i. (f i).kind))

pub returns-then-bytes-ne0 : goal.returns-then-bytes-ne0
unfolding request_of
returns-then-bytes-ne0 c = (refl, λ r e. c.if-bytes-ne0.true (sym (λ i. (e i).byte1)))

pub returns : goal.returns
unfolding request_of
returns c =
    let cell = c.cell_in.ensures in
    let job = c.job_in.ensures in
    λ i. record { kind = c.in_ok-kind.ensures i; byte1 = sym c.if-bytes-ne0.false i; cell = cell i; job = job i }
