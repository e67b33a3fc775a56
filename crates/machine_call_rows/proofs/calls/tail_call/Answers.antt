use Rattle.std.proofs.Common.{rules, ◌≡◌, ◌+◌, sym, subst}
use Rattle.lua_heap.specs.Codes.{no_code}
use Rattle.machine_moves.proofs.OnTop.{if_ok}
use Rattle.machine_call_rows.specs.Rows.{ReadsValues}
use Rattle.machine_call_rows.proofs.Read.{may_read, may_tail_call, reads_called, steps_tail_call, tail_text}
use Rattle.machine_call_rows.proofs.calls.tail_call.Goals as goal

pub read_register-called-requires : goal.read_register-called-requires
read_register-called-requires c = reads_called c.args.function c.args.count tail_text (c.requires.safe no_code 0)

pub read_values-requires-clause-safe : goal.read_values-requires-clause-safe
read_values-requires-clause-safe c = may_read c.args.function c.args.count tail_text c.read_register-called.result (c.requires.safe no_code 0) c.read_register-called.ensures

pub call_in_place-requires-clause-frame : goal.call_in_place-requires-clause-frame
call_in_place-requires-clause-frame c =
    let d = reads_called c.args.function c.args.count tail_text (c.requires.safe no_code 0) in
    record { place = d.place; is = d.is }

pub call_in_place-requires-clause-safe : goal.call_in_place-requires-clause-safe
call_in_place-requires-clause-safe c =
    let W = c.args.world.now in
    let given : c.in_ok-arguments.arguments.items ≡ c.read_values.result.now = search rules in
    may_tail_call W c.args.function c.args.count c.read_register-called.result c.in_ok-arguments.arguments.items
    (c.requires.safe no_code 0) c.read_register-called.ensures (subst (ReadsValues W (c.args.function + 1) c.args.count) (sym given) c.read_values.ensures)

pub returns-clause-steps : goal.returns-clause-steps
returns-clause-steps c =
    let W = c.args.world.now in
    let given : c.in_ok-arguments.arguments.items ≡ c.read_values.result.now = search rules in
    if_ok c.call_in_place.result c.call_in_place.ensures.steps c.call_in_place.ensures.steps (λ ending calls _ p pc.
    steps_tail_call W c.call_in_place.new.world c.args.budget.now c.call_in_place.new.budget c.args.function c.args.count c.read_register-called.result
    c.in_ok-arguments.arguments.items ending c.read_register-called.ensures (subst (ReadsValues W (c.args.function + 1) c.args.count) (sym given) c.read_values.ensures) calls)
