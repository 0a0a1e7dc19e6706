-- `exporter::put_cell` meets its contract: a number after the one bracket, and the other after it. Assumes nothing.
use mathlib.Core.List.{[], ◌∷◌, ◌++◌}
use Prim.Native.Nat.{◌+◌}
use native.Mathlib.Omega.{arith}
use lib.ListN.{set}
use Rattle.text.specs.Decimal.{decimal}
use Rattle.exporter.specs.Exporter.{PutsMost}
use Rattle.exporter.proofs.PutLaws.{cell_digits, number_after, byte_after, room_left}
use Rattle.exporter.proofs.put_cell.Goals as goal

pub bounds-out-end : goal.bounds-out-end
bounds-out-end c =
    let number : PutsMost c.args.at 4 (91 ∷ decimal c.args.cell) c.args.out.now c.put_number-end.new.out c.put_number-end.result = number_after 91 c.args.cell 4 (let d = cell_digits c.args.cell c.requires.1 in omega arith) (let p = c.requires.0 in omega arith) c.put_number-end.ensures in
    let r = room_left number 1 c.requires.0 in omega arith

pub returns : goal.returns
returns c =
    let number : PutsMost c.args.at 4 (91 ∷ decimal c.args.cell) c.args.out.now c.put_number-end.new.out c.put_number-end.result = number_after 91 c.args.cell 4 (let d = cell_digits c.args.cell c.requires.1 in omega arith) (let p = c.requires.0 in omega arith) c.put_number-end.ensures in
    let put : PutsMost c.args.at 5 (91 ∷ (decimal c.args.cell ++ (93 ∷ []))) c.args.out.now (set c.put_number-end.new.out c.put_number-end.result 93) (c.put_number-end.result + 1) =
    let p = c.requires.0 in
    let r = room_left number 1 p in
    byte_after 93 number (omega arith) in
    put
