use Rattle.std.proofs.Common.{[], ap, sym, subst}
use Rattle.machine_moves.specs.Ending.{ending_of}
use Rattle.machine_core.specs.Moves.{runs_main}
use Rattle.lua_heap.specs.Plain.{plain}
use Rattle.machine_errors.specs.Catching.{Catches}
use Rattle.machine_errors.proofs.Caught.{frame_catches, handler_catches, has_stack, none_catches, row_at}
use Rattle.machine_errors.proofs.catching.call_catcher.Goals as goal

pub see_catcher-requires : goal.see_catcher-requires
see_catcher-requires c = has_stack c.args.world.now c.requires.safe

pub call_handler-requires-clause-running : goal.call_handler-requires-clause-running
call_handler-requires-clause-running c = has_stack c.args.world.now c.requires.safe

pub returns-in_ok-ending-in-Xpcall-clause-catches : goal.returns-in_ok-ending-in-Xpcall-clause-catches
returns-in_ok-ending-in-Xpcall-clause-catches c =
    handler_catches c.args.world.now c.see_catcher.result (c.see_catcher.ensures []) c.call_handler.new.world c.in-Xpcall.handler (ending_of c.in_ok-ending-in-Xpcall.ending) c.in-Xpcall.is c.in_ok-ending-in-Xpcall.ensures.leads

pub returns-in-Missing-clause-catches : goal.returns-in-Missing-clause-catches
returns-in-Missing-clause-catches c =
    let W = c.args.world.now in
    subst (Catches W W) (sym c.uncaught.ensures) (none_catches W c.see_catcher.result (c.see_catcher.ensures []) c.runs_main.result c.runs_main.ensures c.in-Missing.is c.requires.safe)

pub returns-in-Lua-clause-catches : goal.returns-in-Lua-clause-catches
returns-in-Lua-clause-catches c = frame_catches c.args.world.now c.see_catcher.result (c.see_catcher.ensures []) (ap (row_at (runs_main (plain c.args.world.now 0))) c.in-Lua.is)

pub returns-in-Pcall-clause-catches : goal.returns-in-Pcall-clause-catches
returns-in-Pcall-clause-catches c = frame_catches c.args.world.now c.see_catcher.result (c.see_catcher.ensures []) (ap (row_at (runs_main (plain c.args.world.now 0))) c.in-Pcall.is)

pub returns-in-Handler-clause-catches : goal.returns-in-Handler-clause-catches
returns-in-Handler-clause-catches c = frame_catches c.args.world.now c.see_catcher.result (c.see_catcher.ensures []) (ap (row_at (runs_main (plain c.args.world.now 0))) c.in-Handler.is)

pub returns-in-Closing-clause-catches : goal.returns-in-Closing-clause-catches
returns-in-Closing-clause-catches c = frame_catches c.args.world.now c.see_catcher.result (c.see_catcher.ensures []) (ap (row_at (runs_main (plain c.args.world.now 0))) c.in-Closing.is)
