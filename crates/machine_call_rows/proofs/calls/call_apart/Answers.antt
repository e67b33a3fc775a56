use Rattle.std.proofs.Common.{rules, ◌≡◌, ◌+◌, sym, subst}
use Rattle.lua_heap.specs.Codes.{no_code}
use Rattle.machine_moves.proofs.OnTop.{if_ok}
use Rattle.machine_call_rows.specs.Rows.{ReadsValues}
use Rattle.machine_call_rows.proofs.Read.{call_text, can_prepare, may_call, may_read, reads_called, steps_call}
use Rattle.machine_call_rows.proofs.calls.call_apart.Goals as goal

pub read_register-called-requires : goal.read_register-called-requires
read_register-called-requires c = reads_called c.args.at.function c.args.at.count (call_text c.args.at.keeps c.args.at.iterates) (c.requires.safe no_code 0)

pub read_values-requires-clause-safe : goal.read_values-requires-clause-safe
read_values-requires-clause-safe c = may_read c.args.at.function c.args.at.count (call_text c.args.at.keeps c.args.at.iterates) c.read_register-called.result (c.requires.safe no_code 0) c.read_register-called.ensures

pub call_over-requires-clause-ready : goal.call_over-requires-clause-ready
call_over-requires-clause-ready c = can_prepare c.args.world.now c.args.at.keeps c.requires.sound c.requires.keeps

pub call_over-requires-clause-safe : goal.call_over-requires-clause-safe
call_over-requires-clause-safe c =
    let W = c.args.world.now in
    let given : c.in_ok-arguments.arguments.items ≡ c.read_values.result.now = search rules in
    may_call W c.args.at.function c.args.at.count c.args.at.keeps c.args.at.iterates c.read_register-called.result c.in_ok-arguments.arguments.items c.wait_of_call.result
    (c.requires.safe no_code 0) c.read_register-called.ensures (subst (ReadsValues W (c.args.at.function + 1) c.args.at.count) (sym given) c.read_values.ensures) c.wait_of_call.ensures

pub returns-clause-steps : goal.returns-clause-steps
returns-clause-steps c =
    let W = c.args.world.now in
    let given : c.in_ok-arguments.arguments.items ≡ c.read_values.result.now = search rules in
    if_ok c.call_over.result c.call_over.ensures.steps c.call_over.ensures.steps (λ ending calls _ p pc.
    steps_call W c.call_over.new.world c.args.budget.now c.call_over.new.budget c.args.at.function c.args.at.count c.args.at.keeps c.args.at.iterates c.read_register-called.result
    c.in_ok-arguments.arguments.items c.wait_of_call.result ending c.read_register-called.ensures (subst (ReadsValues W (c.args.at.function + 1) c.args.at.count) (sym given) c.read_values.ensures) c.wait_of_call.ensures calls)
