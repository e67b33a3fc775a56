use Rattle.std.proofs.Common.{rules, subst}
use Rattle.frame_calls.specs.Calling.{IsCallee, program_of}
use Rattle.frame_calls.proofs.spreading.enter_with_list.Goals as goal

pub call-requires-clause-params : goal.call-requires-clause-params
call-requires-clause-params c = c.in_ok-callee.ensures.is.has.params

pub returns-in-Ok-clause-enters : goal.returns-in-Ok-clause-enters
returns-in-Ok-clause-enters c =
    record {
      given = c.in_ok-given.given;
      arguments = c.in_ok-given.ensures;
      callee = c.in_ok-callee.callee;
      is = subst (λ a. IsCallee c.args.stack.now (program_of c.args.stop.functions) a c.in_ok-given.given c.in_ok-callee.callee) c.a-register.ensures c.in_ok-callee.ensures.is;
      calls = search rules;
      room = c.in_ok-callee.ensures.room;
    }
