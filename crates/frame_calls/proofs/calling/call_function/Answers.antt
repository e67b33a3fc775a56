use Rattle.std.proofs.Common.{◌≡◌, suc, arith, rules, sym, subst, true, ◌∙◌}
use Rattle.code_core.specs.Instruction.{opcode_of}
use Rattle.lua_stack.specs.Frames.{HasLuaTop, KeptStack}
use Rattle.frame_calls.specs.Calling.{EntersIn, program_of}
use Rattle.frame_calls.proofs.Calls.{call_is}
use Rattle.frame_calls.proofs.calling.call_function.Goals as goal

pub closed_from-closed-requires : goal.closed_from-closed-requires
closed_from-closed-requires c = c.requires.top

pub enter-requires : goal.enter-requires
enter-requires c = record { top = subst HasLuaTop (sym c.closed_from-closed.ensures.kept) c.requires.top; codes = c.requires.codes; closed = c.closed_from-closed.ensures.closed }

pub returns-clause-calls : goal.returns-clause-calls
returns-clause-calls c =
    let yes : c.is_call.result ≡ true = search rules in
    let paid : c.args.budget.now ≡ suc c.in_ok-left.left = search (rules, arith) in
    record {
      is_call = call_is (opcode_of c.args.stop.word) (sym c.is_call.ensures ∙ yes);
      paid = paid;
      enters = subst (λ (s : KeptStack). EntersIn s c.enter.new.stack c.args.stop.size (program_of c.args.stop.functions) c.args.stop.words.now c.args.stop.pc c.args.stop.word) c.closed_from-closed.ensures.kept c.in_ok-enter.ensures.enters;
    }
