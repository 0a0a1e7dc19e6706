-- `blockwriter::put_block` meets its contract: the parts of the block are put down one after the other. Assumes nothing.
use Rattle.std.proofs.Common.{◌≡◌, ◌+◌, ◌-◌, length, take, drop, ◌++◌, refl, sym, ◌∙◌, arith}
use lib.Seq.{length-take-le}
use Rattle.sums.specs.ByteLaws.{puts, run_at, sums_of}
use Rattle.blockwriter.proofs.WriteLaws.{zeros_put, front_long, block_put}
use Rattle.blockwriter.proofs.put_block.Goals as goal

pub slice_bounds-add_up-end-2 : goal.slice_bounds-add_up-end-2
slice_bounds-add_up-end-2 c =
    let run = c.args.run.now in
    let d₁ = c.put_number.new.bytes in
    let d₂ = c.put_number-2.new.bytes in
    let n = 8 + length run in
    let d₃ = c.put_run.new.bytes in
    let d₄ = take n d₃ ++ (c.fill.new.self ++ drop (504 - n) (drop n d₃)) in
    let e₃ = run_at d₂ 8 run (omega arith) c.put_run.ensures in
    let long : length d₃ ≡ 512 = (puts d₂ 8 run (omega arith) e₃).long ∙ omega arith in
    let e₄ = zeros_put c.args.number run c.args.bytes.now c.requires.0 c.requires.1 d₃ c.fill.new.self (504 - n) long refl (c.fill.ensures.after (λ y h. h)) in
    let all = front_long c.args.number run c.args.bytes.now c.requires.0 c.requires.1 d₁ d₂ d₃ d₄ c.put_number.ensures c.put_number-2.ensures e₃ e₄ in
    sym (length-take-le 504 d₄ (omega arith))

pub returns : goal.returns
returns c =
    let run = c.args.run.now in
    let d₁ = c.put_number.new.bytes in
    let d₂ = c.put_number-2.new.bytes in
    let n = 8 + length run in
    let d₃ = c.put_run.new.bytes in
    let d₄ = take n d₃ ++ (c.fill.new.self ++ drop (504 - n) (drop n d₃)) in
    let e₃ = run_at d₂ 8 run (omega arith) c.put_run.ensures in
    let long : length d₃ ≡ 512 = (puts d₂ 8 run (omega arith) e₃).long ∙ omega arith in
    let e₄ = zeros_put c.args.number run c.args.bytes.now c.requires.0 c.requires.1 d₃ c.fill.new.self (504 - n) long refl (c.fill.ensures.after (λ y h. h)) in
    block_put c.args.number run c.args.bytes.now c.requires.0 c.requires.1
    d₁ d₂ d₃ d₄ c.put_number.ensures c.put_number-2.ensures e₃ e₄
    c.add_up-s.result.first c.add_up-s.result.second c.put_number-3.new.bytes c.put_number-4.new.bytes
    (sums_of c.add_up-s.ensures) c.put_number-3.ensures c.put_number-4.ensures
