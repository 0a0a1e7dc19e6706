-- `importer::grow` meets its contract: the record is put down, or has no place. Assumes nothing.
use mathlib.Core.Path.{◌≡◌, ap, ◌∙◌}
use mathlib.Core.List.{List, ◌++◌}
use Prim.Native.Nat.{ℕ, ◌+◌, ◌*◌}
use native.Mathlib.Omega.{arith}
use lib.ListN.{length, take}
use Rattle.std.proofs.lemmas.Slice.{take-put_mid}
use Rattle.verdicts.specs.Logs.{record_of}
use Rattle.importer.specs.Importer.{event_of}
use Rattle.importer.proofs.StandLaws.{record_long}
use Rattle.importer.proofs.LogLaws.{holds_more}
use Rattle.importer.proofs.grow.Goals as goal

pub returns-then-count-lt4096 : goal.returns-then-count-lt4096
returns-then-count-lt4096 c =
    let e : c.copy_from_slice.new.self ≡ record_of (event_of c.args.symbol) = c.copy_from_slice.ensures.after ∙ c.record.ensures in
    let n : length c.copy_from_slice.new.self ≡ 8 = ap length e ∙ record_long c.args.symbol in
    λ h here.
    holds_more h (event_of c.args.symbol) c.args.count c.args.log.now here _
    (take-put_mid (c.args.count * 8) _ c.args.log.now c.copy_from_slice.new.self ((c.args.count + 1) * 8) (omega arith) (omega arith)
    ∙ ap (λ (l : List ℕ). take (c.args.count * 8) c.args.log.now ++ l) e)
