use Rattle.std.proofs.Common.{Some}
use Rattle.library_rows.specs.Base.{next_of, raw_equal, raw_get, raw_length}
use Rattle.lib_base.specs.declared.calls.Function.TheVariants.{MetaField, Next, OverTexts, RawEqual, RawGet, RawLength, Select, Text, TypeOf}
use Rattle.lib_base.proofs.Glanced.{glance_as}
use Rattle.lib_base.proofs.glances.glance.Goals as goal

pub returns-in-MetaField : goal.returns-in-MetaField
returns-in-MetaField c = glance_as c.args.function MetaField c.in-MetaField.is c.args.arguments.now c.args.world.now (Some c.field_of_metatable.result) c.field_of_metatable.ensures

pub returns-in-Next : goal.returns-in-Next
returns-in-Next c = glance_as c.args.function Next c.in-Next.is c.args.arguments.now c.args.world.now c.unless_refused.result (c.unless_refused.ensures next_of c.args.arguments.now c.args.world.now c.next.ensures)

pub returns-in-RawEqual : goal.returns-in-RawEqual
returns-in-RawEqual c = glance_as c.args.function RawEqual c.in-RawEqual.is c.args.arguments.now c.args.world.now c.unless_refused-in-RawEqual.result (c.unless_refused-in-RawEqual.ensures raw_equal c.args.arguments.now c.args.world.now c.raw_equal.ensures)

pub returns-in-RawGet : goal.returns-in-RawGet
returns-in-RawGet c = glance_as c.args.function RawGet c.in-RawGet.is c.args.arguments.now c.args.world.now c.unless_refused-in-RawGet.result (c.unless_refused-in-RawGet.ensures raw_get c.args.arguments.now c.args.world.now c.raw_get.ensures)

pub returns-in-RawLength : goal.returns-in-RawLength
returns-in-RawLength c = glance_as c.args.function RawLength c.in-RawLength.is c.args.arguments.now c.args.world.now c.unless_refused-in-RawLength.result (c.unless_refused-in-RawLength.ensures raw_length c.args.arguments.now c.args.world.now c.raw_length.ensures)

pub returns-in-Select : goal.returns-in-Select
returns-in-Select c = glance_as c.args.function Select c.in-Select.is c.args.arguments.now c.args.world.now c.count_of_arguments.result c.count_of_arguments.ensures

pub returns-in-Text : goal.returns-in-Text
returns-in-Text c = glance_as c.args.function Text c.in-Text.is c.args.arguments.now c.args.world.now c.text_of_string.result c.text_of_string.ensures

pub returns-in-TypeOf : goal.returns-in-TypeOf
returns-in-TypeOf c = glance_as c.args.function TypeOf c.in-TypeOf.is c.args.arguments.now c.args.world.now c.name_of_type.result c.name_of_type.ensures

pub returns-in-OverTexts : goal.returns-in-OverTexts
returns-in-OverTexts c = glance_as c.args.function (OverTexts c.in-OverTexts.function) c.in-OverTexts.is c.args.arguments.now c.args.world.now c.quick_first.result c.quick_first.ensures
