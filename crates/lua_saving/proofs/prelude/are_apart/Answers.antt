use Rattle.std.proofs.Common.{◌≡◌, true, false, sym, ◌∙◌}
use Rattle.std.specs.List.{list_any}
use Rattle.lua_saving.specs.Made.{is_environment_cell}
use Rattle.lua_saving.proofs.Made.{found_there, passed_by}
use Rattle.lua_saving.proofs.prelude.are_apart.Goals as goal

pub returns-then-has_environment_cell : goal.returns-then-has_environment_cell
returns-then-has_environment_cell c =
    let named : list_any is_environment_cell c.as_slice.result.now ≡ true = sym c.has_environment_cell.ensures ∙ c.if-has_environment_cell.true in
    sym (c.functions.invariant ∙ found_there c.args.funcs.now.objects c.functions.number c.get.result.now c.as_slice.result.now c.get.ensures c.as_slice.ensures.value named)

pub functions-preserved : goal.functions-preserved
functions-preserved c =
    let unnamed : list_any is_environment_cell c.as_slice.result.now ≡ false = sym c.has_environment_cell.ensures ∙ c.if-has_environment_cell.false in
    c.functions.invariant ∙ passed_by c.args.funcs.now.objects c.functions.number c.get.result.now c.as_slice.result.now c.get.ensures c.as_slice.ensures.value unnamed
