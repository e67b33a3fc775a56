use Rattle.std.proofs.Common.{ap}
use Rattle.std.specs.Prelude.{is_some}
use Rattle.machine_objects.proofs.Made.{function_made, function_stands, can_capture}
use Rattle.machine_objects.proofs.functions.make_function.Goals as goal

pub inner_code-code-requires-clause-there : goal.inner_code-code-requires-clause-there
inner_code-code-requires-clause-there c = let h = c.requires.there in record { place = h.place; is = h.is; checked = h.checked; there = ap is_some h.there }

pub captured_cells-requires-clause-there : goal.captured_cells-requires-clause-there
captured_cells-requires-clause-there c = can_capture c.args.world.now c.args.inner c.inner_code-code.result c.requires.there c.inner_code-code.ensures

pub returns-clause-makes : goal.returns-clause-makes
returns-clause-makes c = λ env.
    function_made c.args.world.now c.add_func.new.self c.args.inner (record { code = c.inner_code-code.result; cells = c.in_ok-cells.cells }) c.in_ok-id.id env c.requires.there c.inner_code-code.ensures c.in_ok-cells.ensures
    c.in_ok-id.ensures.id c.in_ok-id.ensures.added

pub returns-clause-at : goal.returns-clause-at
returns-clause-at c = λ pc s. function_stands c.args.world.now c.add_func.new.self (record { code = c.inner_code-code.result; cells = c.in_ok-cells.cells }) pc c.in_ok-id.ensures.added s
