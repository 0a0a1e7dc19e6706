-- `lines::put_line` meets its contract: one number after the other. Assumes nothing.
use native.Mathlib.Omega.{arith}
use Rattle.text.specs.DecimalLaws.{decimal_length}
use Rattle.lines.proofs.PutLaws.{short_length, puts_line}
use Rattle.lines.proofs.put_line.Goals as goal

pub put_field-a-requires : goal.put_field-a-requires
put_field-a-requires c = let p = decimal_length c.args.place (omega arith) in omega arith

pub put_field-b-requires : goal.put_field-b-requires
put_field-b-requires c =
    let p = decimal_length c.args.place (omega arith) in
    let k = short_length c.args.code (omega arith) in
    omega (arith, c.put_field-a.ensures.past, c.put_field-a.ensures.puts.same)

pub put_field-requires : goal.put_field-requires
put_field-requires c =
    let p = decimal_length c.args.place (omega arith) in
    let k = short_length c.args.code (omega arith) in
    let j = short_length c.args.job (omega arith) in
    omega (arith, c.put_field-a.ensures.past, c.put_field-a.ensures.puts.same, c.put_field-b.ensures.past, c.put_field-b.ensures.puts.same)

pub returns-clause-puts : goal.returns-clause-puts
returns-clause-puts c = puts_line _ _ _ c.put_field-a.ensures.puts c.put_field-b.ensures.puts c.put_field.ensures.puts

pub returns-clause-upper_bound : goal.returns-clause-upper_bound
returns-clause-upper_bound c =
    let p = decimal_length c.args.place (omega arith) in
    let k = short_length c.args.code (omega arith) in
    let j = short_length c.args.job (omega arith) in
    omega (arith, c.put_field-a.ensures.past, c.put_field-b.ensures.past, c.put_field.ensures.past)
