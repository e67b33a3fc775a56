use Rattle.std.proofs.Common.{sym, subst, ap, ◌∙◌}
use Rattle.code_core.specs.Check.{IsChecked}
use Rattle.lua_heap.specs.Codes.{functions, code_or_none}
use Rattle.machine_moves.proofs.OfCode.{top_code_is}
use Rattle.machine_returns.proofs.names.proto_on_top.Goals as goal

pub function_on_top-requires : goal.function_on_top-requires
function_on_top-requires c = record { place = c.requires.frame.place; is = c.requires.frame.is }

pub proto-requires : goal.proto-requires
proto-requires c =
    let e = top_code_is c.args.world.now c.requires.frame.place c.function_on_top.result.now c.requires.frame.is c.function_on_top.ensures in
    c.checked_code_is_there.ensures (functions c.args.world.now.codes) c.function_on_top.result.now.code.0 (subst IsChecked (sym e) c.requires.frame.checked)

pub returns : goal.returns
returns c = record { is = λ p is. sym (ap code_or_none c.proto.ensures) ∙ top_code_is c.args.world.now p c.function_on_top.result.now is c.function_on_top.ensures }
