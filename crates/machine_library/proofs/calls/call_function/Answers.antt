use Rattle.std.proofs.Common.{Err, refl, subst, sym, ◌∙◌}
use Rattle.library_arguments.specs.declared.refusal.Fault.{Fault}
use Rattle.library_arguments.specs.declared.refusal.Fault.TheVariants.{Refused}
use Rattle.library_arguments.specs.Refusals.{refusal_text}
use Rattle.pure_functions.specs.Answers.{Answers}
use Rattle.lib_base.specs.Functions.{function_row}
use Rattle.move_laws.specs.Memory.{ReadsSame}
use Rattle.machine_moves.specs.Ending.{ending_of}
use Rattle.lua_heap.specs.declared.world.World.{World as Memory}
use Rattle.machine_library.proofs.Moving.{moves_again, moves_back, on_err, order_back, sound_again, stands, taken_is}
use Rattle.machine_library.proofs.Consulting.{refuses, tells_row, still_runs}
use Rattle.machine_library.proofs.calls.call_function.Goals as goal

pub returns-then-not-make_room-clause-err : goal.returns-then-not-make_room-clause-err
returns-then-not-make_room-clause-err c =
    let old = c.args.world.now in
    let taken = c.take_moving-arguments.new.world in
    let arguments = c.take_moving-arguments.result.items in
    let t = taken_is old taken arguments arguments refl c.take_moving-arguments.ensures.rest c.take_moving-arguments.ensures.values c.take_moving-arguments.ensures.makes in
    moves_back old taken arguments c.make_room.new.values c.make_room.ensures.items t

pub returns-then-not-make_room-clause-order : goal.returns-then-not-make_room-clause-order
returns-then-not-make_room-clause-order c =
    order_back c.args.world.now c.take_moving-arguments.new.world c.make_room.new.values c.requires.sound.order c.take_moving-arguments.ensures.rest

pub call-requires : goal.call-requires
call-requires c =
    let old = c.args.world.now in let taken = c.take_moving-arguments.new.world in let arguments = c.as_slice.result.now in
    let t = taken_is old taken c.take_moving-arguments.result.items arguments (c.as_slice.ensures.value ∙ c.make_room.ensures.items) c.take_moving-arguments.ensures.rest c.take_moving-arguments.ensures.values c.take_moving-arguments.ensures.makes in
    stands old taken arguments c.requires.sound t

pub tell-requires-clause-running : goal.tell-requires-clause-running
tell-requires-clause-running c =
    let old = c.args.world.now in let taken = c.take_moving-arguments.new.world in let arguments = c.as_slice.result.now in
    let t = taken_is old taken c.take_moving-arguments.result.items arguments (c.as_slice.ensures.value ∙ c.make_room.ensures.items) c.take_moving-arguments.ensures.rest c.take_moving-arguments.ensures.values c.take_moving-arguments.ensures.makes in
    still_runs old taken c.call.new.world arguments c.requires.running t c.call.ensures.changes

pub returns-in-Ok-clause-leads : goal.returns-in-Ok-clause-leads
returns-in-Ok-clause-leads c =
    let old = c.args.world.now in let taken = c.take_moving-arguments.new.world in let arguments = c.as_slice.result.now in
    let t = taken_is old taken c.take_moving-arguments.result.items arguments (c.as_slice.ensures.value ∙ c.make_room.ensures.items) c.take_moving-arguments.ensures.rest c.take_moving-arguments.ensures.values c.take_moving-arguments.ensures.makes in
    tells_row (function_row c.args.function) arguments old taken c.call.new.world c.tell.new.world c.in-Ok.answer (ending_of c.tell.result) t c.call.ensures.changes c.in-Ok.ensures.answers c.tell.ensures.tells

pub refuse-requires : goal.refuse-requires
refuse-requires c =
    let old = c.args.world.now in let taken = c.take_moving-arguments.new.world in let arguments = c.as_slice.result.now in
    let t = taken_is old taken c.take_moving-arguments.result.items arguments (c.as_slice.ensures.value ∙ c.make_room.ensures.items) c.take_moving-arguments.ensures.rest c.take_moving-arguments.ensures.values c.take_moving-arguments.ensures.makes in
    sound_again old taken c.call.new.world arguments c.make_room.new.values (sym c.as_slice.ensures.value) c.requires.sound t c.in-Err-Refused.ensures.err

pub returns-in_err-ending-in-Err-Refused-clause-err : goal.returns-in_err-ending-in-Err-Refused-clause-err
returns-in_err-ending-in-Err-Refused-clause-err c =
    let old = c.args.world.now in let taken = c.take_moving-arguments.new.world in let arguments = c.as_slice.result.now in
    let t = taken_is old taken c.take_moving-arguments.result.items arguments (c.as_slice.ensures.value ∙ c.make_room.ensures.items) c.take_moving-arguments.ensures.rest c.take_moving-arguments.ensures.values c.take_moving-arguments.ensures.makes in
    let s = moves_again old taken c.call.new.world arguments c.make_room.new.values (sym c.as_slice.ensures.value) t c.in-Err-Refused.ensures.err in
    on_err c.from_residual.result (subst (λ (W : Memory). ReadsSame old W) (sym c.in_err-ending-in-Err-Refused.ensures.err) s)

pub returns-in_ok-ending-in-Err-Refused-clause-leads : goal.returns-in_ok-ending-in-Err-Refused-clause-leads
returns-in_ok-ending-in-Err-Refused-clause-leads c =
    let old = c.args.world.now in let taken = c.take_moving-arguments.new.world in let arguments = c.as_slice.result.now in
    let t = taken_is old taken c.take_moving-arguments.result.items arguments (c.as_slice.ensures.value ∙ c.make_room.ensures.items) c.take_moving-arguments.ensures.rest c.take_moving-arguments.ensures.values c.take_moving-arguments.ensures.makes in
    let s = moves_again old taken c.call.new.world arguments c.make_room.new.values (sym c.as_slice.ensures.value) t c.in-Err-Refused.ensures.err in
    let l : Answers (function_row c.args.function) arguments taken c.call.new.world (Err (Refused c.in-Err-Refused.refusal)) = subst (λ (f : Fault). Answers (function_row c.args.function) arguments taken c.call.new.world (Err f)) c.in-Err-Refused.field-0-is c.in-Err-Refused.ensures.answers in
    refuses (function_row c.args.function) arguments old taken _ c.refuse.new.world (refusal_text c.in-Err-Refused.refusal) (ending_of c.in_ok-ending-in-Err-Refused.ending) t l s c.in_ok-ending-in-Err-Refused.ensures.leads

pub returns-in-Err-Memory-clause-err : goal.returns-in-Err-Memory-clause-err
returns-in-Err-Memory-clause-err c =
    let old = c.args.world.now in let taken = c.take_moving-arguments.new.world in let arguments = c.as_slice.result.now in
    let t = taken_is old taken c.take_moving-arguments.result.items arguments (c.as_slice.ensures.value ∙ c.make_room.ensures.items) c.take_moving-arguments.ensures.rest c.take_moving-arguments.ensures.values c.take_moving-arguments.ensures.makes in
    moves_again old taken c.call.new.world arguments c.make_room.new.values (sym c.as_slice.ensures.value) t c.in-Err-Memory.ensures.err
