use Rattle.std.proofs.Common.{◌≡◌, ◌+◌, ◌<◌, ◌≤◌, Some, length, arith, rules}
use Rattle.std.specs.Prelude.{slice_get}
use Rattle.frame_calls.proofs.Takers.{given_none, given_one, given_two}
use Rattle.frame_calls.proofs.returning.returned_from.Goals as goal

pub returns-then-count-eq0 : goal.returns-then-count-eq0
returns-then-count-eq0 c = given_none c.args.registers.now c.args.register c.args.count (search rules)

pub returns-then-count-eq1 : goal.returns-then-count-eq1
returns-then-count-eq1 c =
    let room : c.args.register + c.args.count ≤ length c.args.registers.now = search (rules, arith) in
    let first : slice_get c.args.registers.now c.args.register ≡ Some c.in_ok-first.first = search rules in
    given_one c.args.registers.now c.args.register c.args.count c.in_ok-first.first (search rules) room first

pub returns : goal.returns
returns c =
    let more : 1 < c.args.count = search (rules, arith) in
    let room : c.args.register + c.args.count ≤ length c.args.registers.now = search (rules, arith) in
    let first : slice_get c.args.registers.now c.args.register ≡ Some c.in_ok-first.first = search rules in
    given_two c.args.registers.now c.args.register c.args.count c.in_ok-first.first c.in_ok-second.second more room first c.in_ok-second.ensures
