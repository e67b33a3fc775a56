use Rattle.std.proofs.Common.{[], refl}
use Rattle.std.proofs.lemmas.Result.{IfOk-weaker}
use Rattle.lib_base.specs.Functions.{function_row}
use Rattle.machine_core.specs.MachineStep.{pcall_row, xpcall_row, error_row, resume_row, yield_row, close_row, create_row, status_row, running_row, yieldable_row, print_row, look_row}
use Rattle.machine_primitives.specs.declared.primitives.Called.TheVariants.{Library, Error, Pcall, Xpcall, Close, Create, IsYieldable, Resume, Running, Status, Yield, Build, Print}
use Rattle.machine_primitives.proofs.Reading.{always_leads, read_leads, safe_known}
use Rattle.machine_primitives.proofs.primitives.call.Goals as goal

pub yield_running-requires-clause-safe : goal.yield_running-requires-clause-safe
yield_running-requires-clause-safe c = safe_known c.args.called Yield yield_row c.in-Yield.is (λ builds. refl) c.requires.safe

pub returns-in-Library-clause-leads : goal.returns-in-Library-clause-leads
returns-in-Library-clause-leads c = IfOk-weaker c.call_function.result _ _ (λ ending l. always_leads c.args.called (Library c.in-Library.function) (look_row (function_row c.in-Library.function)) c.in-Library.is (λ builds. refl) l) c.call_function.ensures.leads

pub returns-in-Error-clause-leads : goal.returns-in-Error-clause-leads
returns-in-Error-clause-leads c = IfOk-weaker c.error.result _ _ (λ ending l. always_leads c.args.called Error error_row c.in-Error.is (λ builds. refl) (l [])) c.error.ensures.leads

pub returns-in-Pcall-clause-leads : goal.returns-in-Pcall-clause-leads
returns-in-Pcall-clause-leads c = IfOk-weaker c.pcall.result _ _ (λ ending l. always_leads c.args.called Pcall pcall_row c.in-Pcall.is (λ builds. refl) (l [])) c.pcall.ensures.leads

pub returns-in-Xpcall-clause-leads : goal.returns-in-Xpcall-clause-leads
returns-in-Xpcall-clause-leads c = IfOk-weaker c.xpcall.result _ _ (λ ending l. always_leads c.args.called Xpcall xpcall_row c.in-Xpcall.is (λ builds. refl) (l [])) c.xpcall.ensures.leads

pub returns-in-Close-clause-leads : goal.returns-in-Close-clause-leads
returns-in-Close-clause-leads c = IfOk-weaker c.close.result _ _ (λ ending l. always_leads c.args.called Close close_row c.in-Close.is (λ builds. refl) l) c.close.ensures.leads

pub returns-in-Create-clause-leads : goal.returns-in-Create-clause-leads
returns-in-Create-clause-leads c = IfOk-weaker c.create.result _ _ (λ ending l. always_leads c.args.called Create create_row c.in-Create.is (λ builds. refl) l) c.create.ensures.leads

pub returns-in-IsYieldable-clause-leads : goal.returns-in-IsYieldable-clause-leads
returns-in-IsYieldable-clause-leads c = IfOk-weaker c.is_yieldable.result _ _ (λ ending l. always_leads c.args.called IsYieldable yieldable_row c.in-IsYieldable.is (λ builds. refl) l) c.is_yieldable.ensures.leads

pub returns-in-Resume-clause-leads : goal.returns-in-Resume-clause-leads
returns-in-Resume-clause-leads c = IfOk-weaker c.resume.result _ _ (λ ending l. always_leads c.args.called Resume resume_row c.in-Resume.is (λ builds. refl) l) c.resume.ensures.leads

pub returns-in-Running-clause-leads : goal.returns-in-Running-clause-leads
returns-in-Running-clause-leads c = IfOk-weaker c.running.result _ _ (λ ending l. always_leads c.args.called Running running_row c.in-Running.is (λ builds. refl) l) c.running.ensures.leads

pub returns-in-Status-clause-leads : goal.returns-in-Status-clause-leads
returns-in-Status-clause-leads c = IfOk-weaker c.status.result _ _ (λ ending l. always_leads c.args.called Status status_row c.in-Status.is (λ builds. refl) l) c.status.ensures.leads

pub returns-in-Yield-clause-leads : goal.returns-in-Yield-clause-leads
returns-in-Yield-clause-leads c = IfOk-weaker c.yield_running.result _ _ (λ ending l. always_leads c.args.called Yield yield_row c.in-Yield.is (λ builds. refl) l) c.yield_running.ensures.leads

pub returns-in-Print-clause-leads : goal.returns-in-Print-clause-leads
returns-in-Print-clause-leads c = IfOk-weaker c.print.result _ _ (λ ending l. always_leads c.args.called Print print_row c.in-Print.is (λ builds. refl) (l [])) c.print.ensures.leads

pub returns-in-Build-clause-leads : goal.returns-in-Build-clause-leads
returns-in-Build-clause-leads c = IfOk-weaker c.load.result _ _ (λ ending l. read_leads c.args.called Build c.in-Build.is l) c.load.ensures.leads
