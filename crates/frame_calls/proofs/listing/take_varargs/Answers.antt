use Rattle.std.proofs.Common.{◌≡◌, ◌+◌, ◌<◌, ◌≤◌, length, Some, rules, arith, subst}
use Rattle.code_core.specs.Instruction.{c_of, opcode_of}
use Rattle.frame_calls.specs.Listing.{taken_of}
use Rattle.frame_calls.proofs.TakenVarargs.{kept_room, takes_behind}
use Rattle.frame_calls.proofs.listing.take_varargs.Goals as goal

pub hand-requires-clause-few : goal.hand-requires-clause-few
hand-requires-clause-few c =
    let few : c.in_ok-count.count ≤ 2 = search (rules, arith) in
    few

pub hand-requires-clause-room : goal.hand-requires-clause-room
hand-requires-clause-room c =
    let room : c.a-register.result + c.in_ok-count.count ≤ length c.registers.result.now = search (rules, arith) in
    kept_room (c.a-register.result + c.in_ok-count.count) c.registers.result.now c.requires c.registers.ensures room

pub returns-clause-takes : goal.returns-clause-takes
returns-clause-takes c =
    let few : c.in_ok-count.count ≤ 2 = search (rules, arith) in
    let is : taken_of (opcode_of c.args.i) (c_of c.args.i) ≡ Some c.in_ok-count.count = search rules in
    let room : c.a-register.result + c.in_ok-count.count ≤ length c.registers.result.now = search (rules, arith) in
    let to = c.in_ok-to.ensures in
    record {
      count = c.in_ok-count.count;
      is = is;
      registers = c.registers.result.now;
      are = c.registers.ensures;
      room = subst (λ a. a + c.in_ok-count.count ≤ length c.registers.result.now) c.a-register.ensures room;
      within = subst (λ n. n < length c.args.words.now) to.0 to.1;
      becomes =
          takes_behind c.args.stack.now c.hand.new.stack c.a-register.result c.in_ok-count.count c.in_ok-to.to _ c.args.pc c.first_two-given.result c.varargs.result.now
          c.a-register.ensures to.0 few c.varargs.ensures c.first_two-given.ensures c.hand.ensures;
    }
