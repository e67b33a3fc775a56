use Rattle.std.proofs.Common.{[], ap}
use Rattle.std.proofs.lemmas.Result.{IfOk-weaker}
use Rattle.lua_heap.specs.Plain.{plain}
use Rattle.machine_core.specs.FrameRows.{handed_to}
use Rattle.machine_core.specs.Moves.{runs_main}
use Rattle.machine_moves.specs.Tops.{shape_of}
use Rattle.move_laws.proofs.Rows.{ended}
use Rattle.machine_frame_rows.proofs.Reached.{reached, safe_reached, reaches_stack}
use Rattle.machine_frame_rows.proofs.handing.hand_results.Goals as goal

pub see_top-requires : goal.see_top-requires
see_top-requires c = reaches_stack handed_to c.requires.safe

pub end_with_results-requires : goal.end_with_results-requires
end_with_results-requires c =
    record { order = c.requires.order; running = reaches_stack handed_to c.requires.safe; safe = safe_reached handed_to c.requires.safe (c.see_top.ensures.makes []) (ap (shape_of (runs_main (plain c.args.world.now 0))) c.in-Missing.is) }

pub returns-in-Lua-clause-leads : goal.returns-in-Lua-clause-leads
returns-in-Lua-clause-leads c = reached handed_to (c.see_top.ensures.makes []) (ap (shape_of (runs_main (plain c.args.world.now 0))) c.in-Lua.is) ended

pub returns-in-Pcall-clause-leads : goal.returns-in-Pcall-clause-leads
returns-in-Pcall-clause-leads c = IfOk-weaker c.answer_results.result _ _ (λ ending l. reached handed_to (c.see_top.ensures.makes []) (ap (shape_of (runs_main (plain c.args.world.now 0))) c.in-Pcall.is) (l [])) c.answer_results.ensures.leads

pub returns-in-Xpcall-clause-leads : goal.returns-in-Xpcall-clause-leads
returns-in-Xpcall-clause-leads c = IfOk-weaker c.answer_results-in-Xpcall.result _ _ (λ ending l. reached handed_to (c.see_top.ensures.makes []) (ap (shape_of (runs_main (plain c.args.world.now 0))) c.in-Xpcall.is) (l [])) c.answer_results-in-Xpcall.ensures.leads

pub returns-in-Handler-clause-leads : goal.returns-in-Handler-clause-leads
returns-in-Handler-clause-leads c = IfOk-weaker c.answer_handler.result _ _ (λ ending l. reached handed_to (c.see_top.ensures.makes []) (ap (shape_of (runs_main (plain c.args.world.now 0))) c.in-Handler.is) (l [])) c.answer_handler.ensures.leads

pub returns-in-Closing-clause-leads : goal.returns-in-Closing-clause-leads
returns-in-Closing-clause-leads c = IfOk-weaker c.close_on.result _ _ (λ ending l. reached handed_to (c.see_top.ensures.makes []) (ap (shape_of (runs_main (plain c.args.world.now 0))) c.in-Closing.is) (l)) c.close_on.ensures.leads

pub returns-in-Missing-clause-leads : goal.returns-in-Missing-clause-leads
returns-in-Missing-clause-leads c = IfOk-weaker c.end_with_results.result _ _ (λ ending l. reached handed_to (c.see_top.ensures.makes []) (ap (shape_of (runs_main (plain c.args.world.now 0))) c.in-Missing.is) (l)) c.end_with_results.ensures.leads
