use Rattle.std.proofs.Common.{sym, ◌∙◌}
use Rattle.machine_core.specs.Moves.{go}
use Rattle.machine_library_calls.proofs.Calling.{comes_moving, ends_so, order_moving, ready_with}
use Rattle.machine_library_calls.proofs.answering.take_below.Goals as goal

pub find_here-here-requires : goal.find_here-here-requires
find_here-here-requires g c = record { ready = ready_with c.requires c.loading_is_safe.ensures.safe }

pub returns-then-here-clause-comes : goal.returns-then-here-clause-comes
returns-then-here-clause-comes g c =
    let V = c.move_results.new.world in
    ends_so g.begun V c.args.values.now go c.move_results.result c.move_results.ensures.moves (comes_moving c.requires c.loading_is_safe.ensures.safe V c.move_results.ensures.rest)

pub returns-then-here-clause-order : goal.returns-then-here-clause-order
returns-then-here-clause-order g c = order_moving c.requires c.loading_is_safe.ensures.safe c.move_results.new.world c.move_results.ensures.rest

pub wait_on_top-wait-requires : goal.wait_on_top-wait-requires
wait_on_top-wait-requires g c = let w = c.find_here-here.ensures.word in record { place = w.place; is = w.is }

pub wake_with-requires : goal.wake_with-requires
wake_with-requires g c =
    let h = c.find_here-here.ensures in
    (c.requires, record { word = h.word; waits = record { is = λ place e. sym c.if-here.false ∙ h.wait.is place e }; waited = c.wait_on_top-wait.ensures })

pub returns-clause-comes : goal.returns-clause-comes
returns-clause-comes g c = c.wake_with.ensures.comes
