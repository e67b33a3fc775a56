use Rattle.std.proofs.Common.{rules, ◌≡◌, ap, ◌∙◌, map}
use Rattle.int_core.specs.Value.{nth, object, a_table}
use Rattle.library_rows.specs.Base.{sets_metatable}
use Rattle.lua_heap.specs.Reading.{value}
use Rattle.lib_base.specs.Raw.{table_or_nil}
use Rattle.lib_base.proofs.MetatableRows.{metatable_value, sets_metatable_is, sets_protected}
use Rattle.pure_functions.proofs.Interning.{as_before, changes_both, changes_strings}
use Rattle.lib_base.proofs.metatables.set_metatable.Goals as goal

pub returns-in_err-name-clause-changes : goal.returns-in_err-name-clause-changes
returns-in_err-name-clause-changes c = changes_strings c.args.world.now c.string.new.world c.args.arguments.now c.string.ensures.kept

pub returns-in_default-clause-changes : goal.returns-in_default-clause-changes
returns-in_default-clause-changes c = changes_strings c.args.world.now c.string.new.world c.args.arguments.now c.string.ensures.kept

pub returns-clause-changes : goal.returns-clause-changes
returns-clause-changes c = changes_both c.args.world.now c.string.new.world c.set_metatable.new.world c.args.arguments.now c.string.ensures.kept c.set_metatable.ensures.rest

pub returns-in_default-clause-answers : goal.returns-in_default-clause-answers
returns-in_default-clause-answers c =
    let vs = map (value c.string.new.world.strings) c.args.arguments.now in
    let e : nth vs 0 ≡ object a_table c.in_ok-id.id.0 = ap (λ vs. nth vs 0) c.string.ensures.kept.read ∙ c.in_ok-id.ensures in
    let g : nth vs 1 ≡ value c.string.new.world.strings (table_or_nil c.in_ok-metatable.metatable)
    = ap (λ vs. nth vs 1) c.string.ensures.kept.read ∙ metatable_value c.string.new.world.strings _ c.in_ok-metatable.metatable c.in_ok-metatable.ensures in
    as_before sets_metatable c.args.world.now c.string.new.world c.args.arguments.now c.string.ensures.kept
    ∙ sets_protected c.string.new.world vs c.in_ok-id.id e c.in_ok-metatable.metatable c.value_of-present.result c.in_ok-name.name c.read_field.result g (search rules) (search rules) c.read_field.ensures (search rules)

pub returns-clause-answers : goal.returns-clause-answers
returns-clause-answers c =
    let new = c.string.new.world in
    let vs = map (value new.strings) c.args.arguments.now in
    let e : nth vs 0 ≡ object a_table c.in_ok-id.id.0 = ap (λ vs. nth vs 0) c.string.ensures.kept.read ∙ c.in_ok-id.ensures in
    let g : nth vs 1 ≡ value new.strings (table_or_nil c.in_ok-metatable.metatable)
    = ap (λ vs. nth vs 1) c.string.ensures.kept.read ∙ metatable_value new.strings _ c.in_ok-metatable.metatable c.in_ok-metatable.ensures in
    as_before sets_metatable c.args.world.now new c.args.arguments.now c.string.ensures.kept
    ∙ sets_metatable_is new vs c.in_ok-id.id e c.in_ok-metatable.metatable c.value_of-present.result c.in_ok-name.name c.read_field.result g (search rules) (search rules) c.read_field.ensures c.set_metatable.new.world (search rules) c.set_metatable.ensures
