use Rattle.std.proofs.Common.{◌≡◌, ◌/◌, ◌%◌, ◌^◌, bit_and, arith}
use Rattle.std.proofs.lemmas.Grind.{common_steps}
use Rattle.machine_loop.proofs.decoding.number_in.Goals as goal

pub returns : goal.returns
returns c =
    let field : bit_and c.args.i.0 127 ≡ c.args.i.0 / 2 ^ 0 % 2 ^ 7 = grind (arith, common_steps) in
    field
