use Rattle.std.proofs.Common.{◌≡◌, length, true, arith, rules}
use Rattle.std.proofs.lemmas.Option.{IfSome_then}
use Rattle.library_rows.specs.Library.{all_entries}
use Rattle.machine_core.specs.FrameRows.{expand}
use Rattle.machine_core.specs.Moves.{go}
use Rattle.machine_core.specs.Text.{read_register}
use Rattle.lib_base.specs.Functions.{function_row}
use Rattle.move_laws.proofs.Rows.{can_do}
use Rattle.machine_call_rows.specs.Rows.{with_arguments}
use Rattle.machine_call_rows.proofs.Read.{call_text, may_read}
use Rattle.machine_step.proofs.ByForm.{safe, small}
use Rattle.step_laws.proofs.Ready.{ready_is_sound}
use Rattle.machine_library_calls.proofs.glancing.see_result.Goals as goal

pub read_register-called-requires : goal.read_register-called-requires
read_register-called-requires c =
    let s = ready_is_sound (length all_entries) go c.args.world.now c.requires.ready in
    let a = c.args.at in
    can_do (read_register a.function) (λ f s. expand (with_arguments a.function a.count (call_text a.keeps a.iterates) f s)) (safe c.requires.runs s)

pub arguments_of_call-arguments-requires-clause-sound : goal.arguments_of_call-arguments-requires-clause-sound
arguments_of_call-arguments-requires-clause-sound c = ready_is_sound (length all_entries) go c.args.world.now c.requires.ready

pub arguments_of_call-arguments-requires-clause-near : goal.arguments_of_call-arguments-requires-clause-near
arguments_of_call-arguments-requires-clause-near c = let l = (small c.requires.runs).0 in omega (arith, l)

pub arguments_of_call-arguments-requires-clause-safe : goal.arguments_of_call-arguments-requires-clause-safe
arguments_of_call-arguments-requires-clause-safe c =
    let s = ready_is_sound (length all_entries) go c.args.world.now c.requires.ready in
    let a = c.args.at in
    may_read a.function a.count (call_text a.keeps a.iterates) c.read_register-called.result (safe c.requires.runs s) c.read_register-called.ensures

pub glance-requires : goal.glance-requires
glance-requires c =
    let s = ready_is_sound (length all_entries) go c.args.world.now c.requires.ready in
    record { primitives = s.primitives; fuel = 0; sound = s.sound; valid = c.arguments_of_call-arguments.ensures.valid s.primitives s.sound }

pub returns : goal.returns
returns c =
    let yes : c.are_few-few.result ≡ true = search rules in
    IfSome_then c.glance.result c.glance.ensures
    (λ answer answers. record {
      number = c.in-Prim.number;
      arguments = c.arguments_of_call-arguments.result.now;
      row = function_row c.in_ok-function.function;
      may = record {
        called = c.read_register-called.result;
        is = c.in-Prim.is;
        register = c.read_register-called.ensures;
        values = c.arguments_of_call-arguments.ensures;
        few = c.are_few-few.ensures yes;
        left = c.if-budget-eq0.false;
      };
      is_row = c.in_ok-function.ensures;
      answers = answers;
    })
