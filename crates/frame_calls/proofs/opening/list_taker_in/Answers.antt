use Rattle.std.proofs.Common.{◌≡◌, ◌+◌, ◌<◌, ◌≤◌, length, refl, true, arith, rules}
use Rattle.code_core.specs.Instruction.{opcode_of}
use Rattle.frame_calls.proofs.Calls.{call_is}
use Rattle.frame_calls.proofs.opening.list_taker_in.Goals as goal

pub returns : goal.returns
returns c =
    let yes : c.is_opening_call.result ≡ true = search rules in
    let list = c.is_opening_call.ensures yes in
    let waits : c.waits_for_call.result ≡ true = search rules in
    let few : c.args.count ≤ 2 = search (rules, arith) in
    let there : c.a-register.result < c.args.caller.size = search (rules, arith) in
    let room : c.a-register.result + c.args.count ≤ c.args.caller.size = search (rules, arith) in
    let next : c.in_ok-to.to ≡ c.args.caller.pc + 1 = search (rules, arith) in
    let within : c.in_ok-to.to < length c.args.words.now = search (rules, arith) in
    record {
      word = c.fetch-i.result;
      at_pc = c.fetch-i.ensures;
      is_call = call_is (opcode_of c.fetch-i.result) list.0;
      takes_all = list.1;
      waits = c.waits_for_call.ensures waits;
      register = c.a-register.ensures;
      many = refl;
      few = few;
      there = there;
      room = room;
      next = next;
      within = within;
    }
