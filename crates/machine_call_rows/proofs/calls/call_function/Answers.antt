use Rattle.std.proofs.Common.{◌≡◌, ◌+◌, ◌-◌, suc, subst, arith}
use Rattle.std.proofs.lemmas.Result.{IfOk-weaker}
use Rattle.lua_heap.specs.Codes.{no_code}
use Rattle.machine_calls.specs.declared.preparing.Prepared.TheVariants.{GivenUp}
use Rattle.machine_calls.specs.Preparing.{CanPrepare}
use Rattle.machine_calls.specs.Waiting.{MayCall}
use Rattle.machine_call_rows.proofs.InPlace.{function_called, has_given, may_registers, steps_given}
use Rattle.machine_call_rows.proofs.Read.{call_text, can_prepare, may_call, may_read, reads_called, registers_read}
use Rattle.machine_call_rows.proofs.calls.call_function.Goals as goal

pub read_register-called-requires : goal.read_register-called-requires
read_register-called-requires c = reads_called c.args.at.function c.args.at.count (call_text c.args.at.keeps c.args.at.iterates) (c.requires.safe no_code 0)

pub read_registers-arguments-requires : goal.read_registers-arguments-requires
read_registers-arguments-requires c =
    let one_more : c.args.at.count ≡ suc (c.args.at.count - 1) = (let z = c.if-at-eq0.false in omega (arith, z)) in
    may_registers c.args.world.now (c.args.at.function + 1) c.args.at.count (c.args.at.count - 1) one_more
    (may_read c.args.at.function c.args.at.count (call_text c.args.at.keeps c.args.at.iterates) c.read_register-called.result (c.requires.safe no_code 0) c.read_register-called.ensures)

pub call_registers-requires-clause-ready : goal.call_registers-requires-clause-ready
call_registers-requires-clause-ready c =
    let same : c.args.at.keeps ≡ c.args.at.function = (let z = c.if-at.false in omega (arith, z)) in
    subst (λ keeps. CanPrepare c.args.world.now (GivenUp keeps)) same (can_prepare c.args.world.now c.args.at.keeps c.requires.sound c.requires.keeps)

pub call_registers-requires-clause-room : goal.call_registers-requires-clause-room
call_registers-requires-clause-room c =
    let one_more : c.args.at.count ≡ suc (c.args.at.count - 1) = (let z = c.if-at-eq0.false in omega (arith, z)) in
    has_given c.args.world.now c.args.at.function (c.args.at.count - 1)
    (reads_called c.args.at.function c.args.at.count (call_text c.args.at.keeps c.args.at.iterates) (c.requires.safe no_code 0))
    (may_registers c.args.world.now (c.args.at.function + 1) c.args.at.count (c.args.at.count - 1) one_more
    (may_read c.args.at.function c.args.at.count (call_text c.args.at.keeps c.args.at.iterates) c.read_register-called.result (c.requires.safe no_code 0) c.read_register-called.ensures))

pub call_registers-requires-clause-function : goal.call_registers-requires-clause-function
call_registers-requires-clause-function c =
    let W = c.args.world.now in
    let vs = c.read_registers-arguments.result.now in
    let w = c.wait_of_call.result in
    let one_more : c.args.at.count ≡ suc (c.args.at.count - 1) = (let z = c.if-at-eq0.false in omega (arith, z)) in
    let read = registers_read W (c.args.at.function + 1) c.args.at.count (c.args.at.count - 1) vs one_more c.read_registers-arguments.ensures in
    function_called W c.requires.keeps.place c.in-Func.id vs w c.args.at.keeps c.requires.sound c.requires.keeps.is
    (subst (λ v. MayCall W v vs w (GivenUp c.args.at.keeps)) c.in-Func.is
    (may_call W c.args.at.function c.args.at.count c.args.at.keeps c.args.at.iterates c.read_register-called.result vs w (c.requires.safe no_code 0) c.read_register-called.ensures read c.wait_of_call.ensures))

pub returns-clause-steps : goal.returns-clause-steps
returns-clause-steps c =
    let one_more : c.args.at.count ≡ suc (c.args.at.count - 1) = (let z = c.if-at-eq0.false in omega (arith, z)) in
    let same : c.args.at.keeps ≡ c.args.at.function = (let z = c.if-at.false in omega (arith, z)) in
    IfOk-weaker c.call_registers.result _ _
    (λ entered calls e p pc.
    steps_given c.args.world.now c.call_registers.new.world c.args.budget.now c.call_registers.new.budget c.args.at.function c.args.at.count (c.args.at.count - 1) c.args.at.keeps c.args.at.iterates c.read_register-called.result c.in-Func.id
    c.read_registers-arguments.result.now c.wait_of_call.result one_more same c.in-Func.is c.read_register-called.ensures c.read_registers-arguments.ensures c.wait_of_call.ensures (calls e))
    c.call_registers.ensures.calls
