use Rattle.std.proofs.Common.{◌∙◌, sym}
use Rattle.machine_arms_tables.specs.Leading.{code_at}
use Rattle.machine_arms_tables.proofs.FieldNames.{object_in_register, object_in_upvalue, object_there}
use Rattle.machine_arms_tables.proofs.Leading.{below, got}
use Rattle.machine_arms_tables.proofs.names.object_of.Goals as goal

pub returns-then-in_upvalue : goal.returns-then-in_upvalue
returns-then-in_upvalue c =
    object_in_upvalue (code_at c.args.site) c.args.op c.args.site.word c.args.cells.now.objects c.args.registers.now c.upvalue.result (sym c.in_upvalue.ensures ∙ c.if-in_upvalue.true) c.object_number-n.ensures c.upvalue.ensures

pub value_numbered-requires : goal.value_numbered-requires
value_numbered-requires c = below c.object_number-n.ensures (object_there c.args.op c.requires.at c.requires.form (sym c.in_upvalue.ensures ∙ c.if-in_upvalue.false))

pub returns : goal.returns
returns c =
    object_in_register (code_at c.args.site) c.args.op c.args.site.word c.args.cells.now.objects c.args.registers.now (sym c.in_upvalue.ensures ∙ c.if-in_upvalue.false) (got c.args.registers.now c.object_number-n.ensures c.value_numbered.ensures)
