use Rattle.std.proofs.Common.{◌∙◌, ap, sym, refl, arith}
use Rattle.std.specs.Prelude.{slice_get}
use Rattle.code_core.specs.Fields.{anything}
use Rattle.code_core.specs.Instruction.{a_of, bx_of}
use Rattle.machine_view.proofs.Places.{register_there, constant_there, next_there}
use Rattle.machine_arms_numbers.proofs.LoadRows.{constant_does}
use Rattle.machine_arms_numbers.proofs.loads.load_constant.Goals as goal

pub value_numbered-v-requires : goal.value_numbered-v-requires
value_numbered-v-requires c = let l = constant_there c.requires 0 (bx_of c.args.site.word) anything refl in let e = c.bx.ensures in omega (arith, e, l)

pub put_value-requires : goal.put_value-requires
put_value-requires c = record { there = register_there c.requires 0 (a_of c.args.site.word) refl; next = next_there c.requires refl }

pub returns : goal.returns
returns c = constant_does c.requires (ap (slice_get c.args.site.constants.now) (sym c.bx.ensures) ∙ c.value_numbered-v.ensures) c.put_value.ensures.registers c.put_value.ensures.next
