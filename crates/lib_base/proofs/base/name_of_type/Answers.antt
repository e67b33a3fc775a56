use Rattle.std.proofs.Common.{rules, ◌≡◌, map}
use Rattle.int_core.specs.Operations.{type_name}
use Rattle.int_core.specs.Value.{nth, shape}
use Rattle.lua_heap.specs.Reading.{value}
use Rattle.lib_base.proofs.Glanced.{type_row}
use Rattle.lib_base.proofs.base.name_of_type.Goals as goal

pub returns : goal.returns
returns c =
    let vs = map (value c.args.world.now.strings) c.args.arguments.now in
    let is : c.type_name-name.result.now ≡ type_name (shape (nth vs 0)) = search rules in
    type_row c.args.arguments.now c.args.world.now c.type_name-name.result.now c.there.result is c.there.ensures
