use Rattle.std.proofs.Common.{◌≡◌, rules, Some, subst}
use Rattle.code_core.specs.Instruction.{b_of}
use Rattle.frame_calls.specs.Arguments.{by_count}
use Rattle.frame_calls.specs.Calling.{IsCallee, one_less, program_of}
use Rattle.frame_calls.proofs.Calls.{less_is}
use Rattle.frame_calls.proofs.calling.enter.Goals as goal

pub call_in_place-requires-clause-params : goal.call_in_place-requires-clause-params
call_in_place-requires-clause-params c = c.in_ok-callee.ensures.is.has.params

pub returns-in-Ok-clause-enters : goal.returns-in-Ok-clause-enters
returns-in-Ok-clause-enters c =
    let count : one_less (b_of c.args.stop.word) ≡ Some c.in_ok-given.given = search rules in
    record {
      given = c.in_ok-given.given;
      arguments = by_count (less_is (b_of c.args.stop.word) c.in_ok-given.given count);
      callee = c.in_ok-callee.callee;
      is = subst (λ a. IsCallee c.args.stack.now (program_of c.args.stop.functions) a c.in_ok-given.given c.in_ok-callee.callee) c.a-register.ensures c.in_ok-callee.ensures.is;
      calls = search rules;
      room = c.in_ok-callee.ensures.room;
    }
