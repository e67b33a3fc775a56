use Rattle.machine_arms_tables.specs.Leading.{code_at}
use Rattle.machine_arms_tables.proofs.FieldNames.{get_does, read_names, field_next, read_target}
use Rattle.machine_arms_tables.proofs.reads.get_field.Goals as goal

pub object_of-requires : goal.object_of-requires
object_of-requires c = record { at = c.requires.at; form = read_names c.args.op c.requires.form }

pub key_of-key-requires : goal.key_of-key-requires
key_of-key-requires c = record { at = c.requires.at; form = read_names c.args.op c.requires.form }

pub store-requires : goal.store-requires
store-requires c = record { there = read_target c.args.op c.requires.at c.requires.form; next = field_next c.args.op c.requires.at (read_names c.args.op c.requires.form) }

pub returns : goal.returns
returns c =
    get_does (code_at c.args.site) c.args.op c.requires.at c.requires.form c.in_ok-object.ensures c.key_of-key.ensures c.in_ok-v.ensures c.store.ensures.registers c.store.ensures.next
