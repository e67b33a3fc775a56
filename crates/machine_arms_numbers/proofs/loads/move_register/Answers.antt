use Rattle.std.proofs.Common.{refl}
use Rattle.code_core.specs.Instruction.{a_of, b_of}
use Rattle.machine_view.proofs.Places.{register_there, next_there}
use Rattle.machine_arms_numbers.proofs.LoadRows.{move_does}
use Rattle.machine_arms_numbers.proofs.loads.move_register.Goals as goal

pub get_b-v-requires : goal.get_b-v-requires
get_b-v-requires c = register_there c.requires 1 (b_of c.args.site.word) refl

pub put_value-requires : goal.put_value-requires
put_value-requires c = record { there = register_there c.requires 0 (a_of c.args.site.word) refl; next = next_there c.requires refl }

pub returns : goal.returns
returns c = move_does c.requires c.get_b-v.ensures c.put_value.ensures.registers c.put_value.ensures.next
