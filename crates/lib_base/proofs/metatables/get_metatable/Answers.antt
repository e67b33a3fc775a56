use Rattle.std.proofs.Common.{rules, ◌∙◌, map}
use Rattle.library_rows.specs.Base.{gets_metatable}
use Rattle.lua_heap.specs.Reading.{value}
use Rattle.lib_base.proofs.MetatableRows.{gets_metatable_is}
use Rattle.pure_functions.proofs.Interning.{as_before}
use Rattle.lib_base.proofs.metatables.get_metatable.Goals as goal

pub returns-clause-answers : goal.returns-clause-answers
returns-clause-answers c =
    let new = c.string.new.world in
    let vs = map (value new.strings) c.args.arguments.now in
    as_before gets_metatable c.args.world.now new c.args.arguments.now c.string.ensures.kept
    ∙ gets_metatable_is new vs c.argument.result c.value_of-metatable.result c.in_ok-name.name c.read_field.result (c.argument.ensures new.strings) (search rules) (search rules) (search rules)
    ∙ search rules
