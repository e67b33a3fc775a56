use Rattle.std.proofs.Common.{◌≡◌, sym, subst}
use Rattle.std.specs.Prelude.{map}
use Rattle.library_rows.specs.Look.{looked}
use Rattle.lua_heap.specs.Reading.{value}
use Rattle.pure_functions.specs.Answers.{Changes, OnlyStrings, Stands, told, heap_of}
use Rattle.lib_base.specs.Functions.{function_row}
use Rattle.loaded_code.specs.Laws.{library}
use Rattle.machine_core.specs.Moves.{calls_primitive}
use Rattle.machine_library_calls.proofs.Calling.{ends_so, moving_order, order_of_strings, refused_comes, stands_there, still_waits}
use Rattle.machine_library_calls.proofs.primitives.call_now.Goals as goal

pub call-requires : goal.call-requires
call-requires g c = subst (Stands c.args.world.now) (sym c.as_slice.ensures) (stands_there c.requires.0 c.loading_is_safe.ensures.safe)

pub take_answer-requires : goal.take_answer-requires
take_answer-requires g c =
    let R = c.args.world.now in
    let X = c.call.new.world in
    let takes = c.requires.1.0 in
    let changes = subst (Changes R X) c.as_slice.ensures c.call.ensures.changes in (
      record {
        called = R;
        number = c.args.called.now.number;
        arguments = c.args.called.now.arguments;
        row = function_row c.args.function;
        is_called = c.requires.0;
        is_row = c.requires.1.1;
        lua = takes.lua;
        changes = changes;
        answers = subst (λ vs. looked (function_row c.args.function) (map (value R.strings) vs) (heap_of R) ≡ told X c.in-Ok.answer) c.as_slice.ensures c.in-Ok.ensures.answers;
      },
      still_waits c.args.to takes.waits changes,
    )

pub returns-in-Ok-clause-comes : goal.returns-in-Ok-clause-comes
returns-in-Ok-clause-comes g c = c.take_answer.ensures.comes

pub returns-in-Err-clause-comes : goal.returns-in-Err-clause-comes
returns-in-Err-clause-comes g c =
    let R = c.args.world.now in
    let X = c.call.new.world in
    let V = c.call_later.new.world in
    let called = c.args.called.now in
    let o = subst (OnlyStrings R X) c.as_slice.ensures c.in-Err.ensures.err in
    ends_so g.begun V called.arguments (calls_primitive called.number) c.call_later.result c.call_later.ensures.later
    (λ items builds. refused_comes c.requires.0 c.loading_is_safe.ensures.safe X V o c.call_later.ensures.rest items (library builds))

pub returns-in-Err-clause-order : goal.returns-in-Err-clause-order
returns-in-Err-clause-order g c =
    let R = c.args.world.now in
    let X = c.call.new.world in
    let o = subst (OnlyStrings R X) c.as_slice.ensures c.in-Err.ensures.err in
    moving_order X c.call_later.new.world c.call_later.ensures.rest (order_of_strings R X c.args.called.now.arguments o c.requires.0.order)
