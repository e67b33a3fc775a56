use Rattle.std.proofs.Common.{◌≡◌, ◌≤◌, arith, rules}
use Rattle.frame_calls.proofs.Takers.{nothing_put, one_put, two_put}
use Rattle.frame_calls.proofs.returning.put.Goals as goal

pub returns-then-taker-eq0 : goal.returns-then-taker-eq0
returns-then-taker-eq0 c = nothing_put c.args.taker.count c.args.taker.register c.args.given (search rules)

pub returns-then-taker-eq1 : goal.returns-then-taker-eq1
returns-then-taker-eq1 c = one_put c.args.taker.count c.args.taker.register c.args.given (search rules) c.set.ensures

pub write_registers-requires : goal.write_registers-requires
write_registers-requires c =
    let h = c.requires.room in
    let two : 2 ≤ c.args.taker.count = search (rules, arith) in
    let room = h.room in
    record { value = h.value; below = h.below; top = h.top; is = h.is; room = omega (arith, room, two) }

pub returns : goal.returns
returns c =
    let two : c.args.taker.count ≡ 2 = search (rules, arith) in
    two_put c.args.taker.count c.args.taker.register c.args.given two c.write_registers.ensures
