use Rattle.std.proofs.Common.{◌≡◌, length, map, subst, sym}
use Rattle.library_rows.specs.Library.{all_entries}
use Rattle.library_rows.specs.Look.{looked}
use Rattle.lua_heap.specs.declared.world.World.{World as Memory}
use Rattle.lua_heap.specs.Reading.{value}
use Rattle.pure_functions.specs.Answers.{told, heap_of}
use Rattle.pure_functions.proofs.Interning.{changes_nothing}
use Rattle.machine_core.specs.Moves.{go}
use Rattle.machine_step.proofs.ByForm.{keeps}
use Rattle.step_laws.proofs.Ready.{ready_is_sound}
use Rattle.machine_library_calls.proofs.Calling.{called_so, caller_takes, stands_there}
use Rattle.machine_library_calls.proofs.glancing.give_result.Goals as goal

pub wait_for_primitive-requires-clause-sound : goal.wait_for_primitive-requires-clause-sound
wait_for_primitive-requires-clause-sound g c = ready_is_sound (length all_entries) go c.args.world.now c.requires.1.0.ready

pub wait_for_primitive-requires-clause-keeps : goal.wait_for_primitive-requires-clause-keeps
wait_for_primitive-requires-clause-keeps g c = keeps c.requires.1.0.runs

pub take_answer-requires : goal.take_answer-requires
take_answer-requires g c =
    let a = c.requires.1.0 in
    let seen = c.requires.1.1 in
    let at = c.args.at in
    let W = c.args.world.now in
    let fuel = c.args.budget.now in
    let M = c.wait_for_primitive.new.world in
    let calls = c.wait_for_primitive.ensures.calls fuel seen.number seen.arguments seen.may in
    let called = called_so W fuel M c.args.here at seen.number seen.arguments a calls g.begun c.requires.0 c.wait_for_primitive.ensures.rest c.wait_for_primitive.ensures.order in
    let takes = caller_takes W fuel M c.args.here at seen.number seen.arguments a calls in (
      record {
        called = M;
        number = seen.number;
        arguments = seen.arguments;
        row = seen.row;
        is_called = called;
        is_row = seen.is_row;
        lua = takes.lua;
        changes = changes_nothing M seen.arguments (stands_there called c.loading_is_safe.ensures.safe);
        answers = subst (λ (X : Memory). looked seen.row (map (value X.strings) seen.arguments) (heap_of X) ≡ told X c.args.answer) (sym c.wait_for_primitive.ensures.rest) seen.answers;
      },
      takes.waits,
    )

pub returns-clause-comes : goal.returns-clause-comes
returns-clause-comes g c = c.take_answer.ensures.comes
