use Rattle.std.proofs.Common.{[], subst}
use Rattle.loaded_code.specs.Laws.{library}
use Rattle.machine_core.specs.Moves.{calls_primitive, runs_main, see_top}
use Rattle.lua_heap.specs.Plain.{plain}
use Rattle.move_laws.specs.Memory.{Makes}
use Rattle.machine_moves.specs.Tops.{shape_of}
use Rattle.machine_library_calls.proofs.Calling.{ends_so, later_comes, later_order}
use Rattle.machine_library_calls.proofs.tails.call_below.Goals as goal

pub see_top-top-requires : goal.see_top-top-requires
see_top-top-requires g c = c.requires.1

pub call_for-requires : goal.call_for-requires
call_for-requires g c =
    let W = c.args.world.now in
    (c.requires.0, record { lua = record { sees = subst (λ top. Makes W W see_top [] [] (shape_of (runs_main (plain W 0)) top)) c.in-Lua.is (c.see_top-top.ensures.makes []) }; waits = tt })

pub returns-in-Lua-clause-comes : goal.returns-in-Lua-clause-comes
returns-in-Lua-clause-comes g c = c.call_for.ensures.comes

pub returns-clause-comes : goal.returns-clause-comes
returns-clause-comes g c =
    let V = c.call_later.new.world in
    let called = c.args.called.now in
    ends_so g.begun V called.arguments (calls_primitive called.number) c.call_later.result c.call_later.ensures.later
    (λ items builds. later_comes c.requires.0 V c.call_later.ensures.rest items (library builds))

pub returns-clause-order : goal.returns-clause-order
returns-clause-order g c = later_order c.requires.0 c.call_later.new.world c.call_later.ensures.rest
