use Rattle.machine_arms_tables.specs.Leading.{code_at}
use Rattle.machine_arms_tables.proofs.FieldNames.{set_does, store_constant, store_names, field_next, store_register}
use Rattle.machine_arms_tables.proofs.writes.set_field.Goals as goal

pub returns : goal.returns
returns c =
    set_does (code_at c.args.site) c.args.op c.requires.at c.requires.form c.in_ok-object.ensures c.key_of-key.ensures c.operand-v.ensures c.in_ok-put_within.ensures.settles c.next.ensures

pub object_of-requires : goal.object_of-requires
object_of-requires c = record { at = c.requires.at; form = store_names c.args.op c.requires.form }

pub key_of-key-requires : goal.key_of-key-requires
key_of-key-requires c = record { at = c.requires.at; form = store_names c.args.op c.requires.form }

pub operand-v-requires : goal.operand-v-requires
operand-v-requires c = record { constant = store_constant c.args.op c.requires.at c.requires.form; register = store_register c.args.op c.requires.at c.requires.form }

pub next-requires : goal.next-requires
next-requires c = field_next c.args.op c.requires.at (store_names c.args.op c.requires.form)
