use Rattle.std.proofs.Common.{[], ap, subst}
use Rattle.std.proofs.lemmas.Result.{IfOk-weaker}
use Rattle.lua_heap.specs.Plain.{plain}
use Rattle.machine_core.specs.FrameRows.{unwound}
use Rattle.machine_core.specs.Moves.{runs_main}
use Rattle.machine_moves.specs.Tops.{shape_of, TopIs}
use Rattle.machine_frame_rows.proofs.Reached.{reached, safe_reached, reaches_stack, lua_there}
use Rattle.machine_frame_rows.proofs.unwinding.unwind_top.Goals as goal

pub see_top-requires : goal.see_top-requires
see_top-requires c = reaches_stack unwound c.requires.safe

pub end_with_error-requires-clause-running : goal.end_with_error-requires-clause-running
end_with_error-requires-clause-running c = reaches_stack unwound c.requires.safe

pub end_with_error-requires-clause-safe : goal.end_with_error-requires-clause-safe
end_with_error-requires-clause-safe c = safe_reached unwound c.requires.safe (c.see_top.ensures.makes []) (ap (shape_of (runs_main (plain c.args.world.now 0))) c.in-Missing.is)

pub unwind_function-requires-clause-frame : goal.unwind_function-requires-clause-frame
unwind_function-requires-clause-frame c = let W = c.args.world.now in lua_there W c.requires.sound (subst (TopIs W) c.in-Lua.is c.see_top.ensures.top)

pub returns-in-Lua-clause-leads : goal.returns-in-Lua-clause-leads
returns-in-Lua-clause-leads c = IfOk-weaker c.unwind_function.result _ _ (λ ending l. reached unwound (c.see_top.ensures.makes []) (ap (shape_of (runs_main (plain c.args.world.now 0))) c.in-Lua.is) (l)) c.unwind_function.ensures.leads

pub returns-in-Pcall-clause-leads : goal.returns-in-Pcall-clause-leads
returns-in-Pcall-clause-leads c = IfOk-weaker c.answer_error.result _ _ (λ ending l. reached unwound (c.see_top.ensures.makes []) (ap (shape_of (runs_main (plain c.args.world.now 0))) c.in-Pcall.is) (l [])) c.answer_error.ensures.leads

pub returns-in-Xpcall-clause-leads : goal.returns-in-Xpcall-clause-leads
returns-in-Xpcall-clause-leads c = IfOk-weaker c.answer_error-in-Xpcall.result _ _ (λ ending l. reached unwound (c.see_top.ensures.makes []) (ap (shape_of (runs_main (plain c.args.world.now 0))) c.in-Xpcall.is) (l [])) c.answer_error-in-Xpcall.ensures.leads

pub returns-in-Handler-clause-leads : goal.returns-in-Handler-clause-leads
returns-in-Handler-clause-leads c = IfOk-weaker c.fail_handler.result _ _ (λ ending l. reached unwound (c.see_top.ensures.makes []) (ap (shape_of (runs_main (plain c.args.world.now 0))) c.in-Handler.is) (l [])) c.fail_handler.ensures.leads

pub returns-in-Closing-clause-leads : goal.returns-in-Closing-clause-leads
returns-in-Closing-clause-leads c = IfOk-weaker c.close_on_error.result _ _ (λ ending l. reached unwound (c.see_top.ensures.makes []) (ap (shape_of (runs_main (plain c.args.world.now 0))) c.in-Closing.is) (l)) c.close_on_error.ensures.leads

pub returns-in-Missing-clause-leads : goal.returns-in-Missing-clause-leads
returns-in-Missing-clause-leads c = IfOk-weaker c.end_with_error.result _ _ (λ ending l. reached unwound (c.see_top.ensures.makes []) (ap (shape_of (runs_main (plain c.args.world.now 0))) c.in-Missing.is) (l)) c.end_with_error.ensures.leads
