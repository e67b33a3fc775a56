use Rattle.std.proofs.Common.{◌∙◌, sym}
use Rattle.machine_arms_tables.specs.Leading.{code_at}
use Rattle.machine_arms_tables.proofs.FieldNames.{key_constant, key_found, key_register, number_is}
use Rattle.machine_arms_tables.proofs.Leading.{below, got}
use Rattle.machine_arms_tables.proofs.names.key_of.Goals as goal

pub value_numbered-requires : goal.value_numbered-requires
value_numbered-requires c = below c.key_number-n.ensures (key_register c.args.op c.requires.at c.requires.form (sym c.key_in-place.ensures ∙ c.in-Register.is))

pub returns-in-Register : goal.returns-in-Register
returns-in-Register c = key_found (code_at c.args.site) c.args.op c.args.site.word c.args.registers.now (sym c.key_in-place.ensures ∙ c.in-Register.is) (got c.args.registers.now c.key_number-n.ensures c.value_numbered.ensures)

pub constant-requires : goal.constant-requires
constant-requires c = below c.key_number-n.ensures (key_constant c.args.op c.requires.at c.requires.form (sym c.key_in-place.ensures ∙ c.in-Constant.is))

pub returns-in-Constant : goal.returns-in-Constant
returns-in-Constant c = key_found (code_at c.args.site) c.args.op c.args.site.word c.args.registers.now (sym c.key_in-place.ensures ∙ c.in-Constant.is) (got c.args.site.closure.constants.now c.key_number-n.ensures c.constant.ensures)

pub returns-in-Number : goal.returns-in-Number
returns-in-Number c = key_found (code_at c.args.site) c.args.op c.args.site.word c.args.registers.now (sym c.key_in-place.ensures ∙ c.in-Number.is) (number_is c.spelled.ensures c.key_number-n.ensures)
