use Rattle.std.proofs.Common.{◌+◌, rules, subst}
use Rattle.code_core.specs.Instruction.{a_of}
use Rattle.lua_stack.specs.declared.frame.Wait.TheVariants.{ForIterator}
use Rattle.lua_stack.specs.Frames.{CallsBehind}
use Rattle.frame_calls.specs.Calling.{IsCallee, program_of}
use Rattle.frame_calls.proofs.iterating.iterate.Goals as goal

pub call_behind-requires-clause-params : goal.call_behind-requires-clause-params
call_behind-requires-clause-params c = c.in_ok-callee.ensures.is.has.params

pub returns-in-Ok-clause-iterates : goal.returns-in-Ok-clause-iterates
returns-in-Ok-clause-iterates c =
    let callee = c.in_ok-callee.callee in
    let calls : CallsBehind c.args.stack.now c.call_behind.new.self c.a-register.result 2 (c.a.result + 4) ForIterator c.args.stop.size c.in_ok-callee.callee.id c.in_ok-callee.callee.shape = search rules in
    record {
      callee = callee;
      is = subst (λ a. IsCallee c.args.stack.now (program_of c.args.stop.functions) a 2 callee) c.a-register.ensures c.in_ok-callee.ensures.is;
      calls =
          subst (λ a. CallsBehind c.args.stack.now c.call_behind.new.self (a_of c.args.stop.word) 2 (a + 4) ForIterator c.args.stop.size callee.id callee.shape) c.a.ensures
          (subst (λ a. CallsBehind c.args.stack.now c.call_behind.new.self a 2 (c.a.result + 4) ForIterator c.args.stop.size callee.id callee.shape) c.a-register.ensures calls);
      room = c.in_ok-callee.ensures.room;
    }
