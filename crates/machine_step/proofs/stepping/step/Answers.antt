use Rattle.std.proofs.Common.{length, ap}
use Rattle.std.proofs.lemmas.Result.{IfOk-weaker, on_err_weaker}
use Rattle.library_rows.specs.Library.{all_entries}
use Rattle.source_builds.proofs.Knowing.{read_all, read_map}
use Rattle.loaded_code.specs.Laws.{library}
use Rattle.machine_moves.specs.Ending.{ending_of}
use Rattle.machine_runs.specs.Runs.{is_end}
use Rattle.step_laws.proofs.Ready.{asks_has_stack, call_has_stack, ready_is_sound}
use Rattle.step_laws.proofs.Stepping.{asked_is_safe, asked_is_step, end_stays, error_is_safe, error_is_step, primitive_is_safe, primitive_is_step, raised_is_safe, raised_is_step, results_are_safe, results_are_step}
use Rattle.machine_step.proofs.Steps.{did_always, did_as, ready_as, same_printed}
use Rattle.machine_step.proofs.stepping.step.Goals as goal

pub go_from-requires : goal.go_from-requires
go_from-requires c = record { ready = ready_as c.requires.ready c.in-Go.is }

pub hand_results-requires : goal.hand_results-requires
hand_results-requires c = record { order = c.requires.ready.order; safe = results_are_safe (length all_entries) c.args.world.now (ready_as c.requires.ready c.in-Returned.is) }

pub call_asked-requires : goal.call_asked-requires
call_asked-requires c =
    record {
      sound = ready_is_sound (length all_entries) _ c.args.world.now c.requires.ready;
      running = asks_has_stack (length all_entries) c.args.world.now (ready_as c.requires.ready c.in-Asks.is);
      safe = asked_is_safe (length all_entries) c.args.world.now (ready_as c.requires.ready c.in-Asks.is);
    }

pub primitive-requires : goal.primitive-requires
primitive-requires c =
    record {
      sound = ready_is_sound (length all_entries) _ c.args.world.now c.requires.ready;
      running = call_has_stack (length all_entries) c.in-CallsPrimitive.number c.args.world.now (ready_as c.requires.ready c.in-CallsPrimitive.is);
      safe = λ builds are. primitive_is_safe (length all_entries) c.in-CallsPrimitive.number (library builds) c.args.world.now (c.loading_is_safe.ensures.safe builds are) (ready_as c.requires.ready c.in-CallsPrimitive.is);
    }

pub catch_error-requires : goal.catch_error-requires
catch_error-requires c = record { sound = ready_is_sound (length all_entries) _ c.args.world.now c.requires.ready; safe = raised_is_safe (length all_entries) c.args.world.now (ready_as c.requires.ready c.in-Raised.is) }

pub unwind_top-requires : goal.unwind_top-requires
unwind_top-requires c = record { sound = ready_is_sound (length all_entries) _ c.args.world.now c.requires.ready; safe = error_is_safe (length all_entries) c.args.world.now (ready_as c.requires.ready c.in-Unwinding.is) }

pub returns-in-Go-clause-does : goal.returns-in-Go-clause-does
returns-in-Go-clause-does c = IfOk-weaker c.go_from.result _ _ (λ next d. did_as c.in-Go.is d) c.go_from.ensures.does

pub returns-in-Returned-clause-does : goal.returns-in-Returned-clause-does
returns-in-Returned-clause-does c = IfOk-weaker c.hand_results.result _ _ (λ next l. did_always c.in-Returned.is (λ rows. results_are_step rows c.args.world.now c.hand_results.new.world c.args.budget.now (ending_of next) l)) c.hand_results.ensures.leads

pub returns-in-Asks-clause-does : goal.returns-in-Asks-clause-does
returns-in-Asks-clause-does c = IfOk-weaker c.call_asked.result _ _ (λ next s. did_always c.in-Asks.is (λ rows. asked_is_step rows c.args.world.now c.call_asked.new.world c.args.budget.now c.call_asked.new.budget (ending_of next) s)) c.call_asked.ensures.steps

pub returns-in-CallsPrimitive-clause-does : goal.returns-in-CallsPrimitive-clause-does
returns-in-CallsPrimitive-clause-does c = IfOk-weaker c.primitive.result _ _ (λ next r. did_as c.in-CallsPrimitive.is (read_map (λ builds are s. primitive_is_step (library builds) c.in-CallsPrimitive.number c.args.world.now c.primitive.new.world c.args.budget.now c.args.budget.now (ending_of next) (s c.args.budget.now)) r)) c.primitive.ensures.steps

pub returns-in-Raised-clause-does : goal.returns-in-Raised-clause-does
returns-in-Raised-clause-does c = IfOk-weaker c.catch_error.result _ _ (λ next l. did_always c.in-Raised.is (λ rows. raised_is_step rows c.args.world.now c.catch_error.new.world c.args.budget.now (ending_of next) l)) c.catch_error.ensures.leads

pub returns-in-Unwinding-clause-does : goal.returns-in-Unwinding-clause-does
returns-in-Unwinding-clause-does c = IfOk-weaker c.unwind_top.result _ _ (λ next l. did_always c.in-Unwinding.is (λ rows. error_is_step rows c.args.world.now c.unwind_top.new.world c.args.budget.now (ending_of next) l)) c.unwind_top.ensures.leads

pub returns-in-Spent-clause-does : goal.returns-in-Spent-clause-does
returns-in-Spent-clause-does c = read_all (λ builds are. end_stays (library builds) (ending_of c.args.ending) c.args.world.now c.args.budget.now (ap (λ e. is_end (ending_of e)) c.in-Spent.is))

pub returns-in-MainYielded-clause-does : goal.returns-in-MainYielded-clause-does
returns-in-MainYielded-clause-does c = read_all (λ builds are. end_stays (library builds) (ending_of c.args.ending) c.args.world.now c.args.budget.now (ap (λ e. is_end (ending_of e)) c.in-MainYielded.is))

pub returns-in-MainReturned-clause-does : goal.returns-in-MainReturned-clause-does
returns-in-MainReturned-clause-does c = read_all (λ builds are. end_stays (library builds) (ending_of c.args.ending) c.args.world.now c.args.budget.now (ap (λ e. is_end (ending_of e)) c.in-MainReturned.is))

pub returns-in-MainFailed-clause-does : goal.returns-in-MainFailed-clause-does
returns-in-MainFailed-clause-does c = read_all (λ builds are. end_stays (library builds) (ending_of c.args.ending) c.args.world.now c.args.budget.now (ap (λ e. is_end (ending_of e)) c.in-MainFailed.is))

pub returns-in-CallsPrimitive-clause-err : goal.returns-in-CallsPrimitive-clause-err
returns-in-CallsPrimitive-clause-err c = on_err_weaker c.primitive.result same_printed c.primitive.ensures.err

pub returns-in-Raised-clause-err : goal.returns-in-Raised-clause-err
returns-in-Raised-clause-err c = on_err_weaker c.catch_error.result same_printed c.catch_error.ensures.err

pub returns-in-Unwinding-clause-err : goal.returns-in-Unwinding-clause-err
returns-in-Unwinding-clause-err c = on_err_weaker c.unwind_top.result same_printed c.unwind_top.ensures.err
