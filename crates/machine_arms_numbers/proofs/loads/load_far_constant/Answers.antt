use Rattle.std.proofs.Common.{◌∙◌, ap, sym, refl, arith}
use Rattle.std.specs.Prelude.{slice_get}
use Rattle.code_core.specs.Instruction.{a_of}
use Rattle.code_core.specs.declared.opcode.Opcode.TheVariants.{ExtraArg}
use Rattle.machine_view.proofs.Places.{register_there, next_there, behind_there}
use Rattle.machine_arms_numbers.proofs.LoadRows.{far_constant_there, far_constant_does}
use Rattle.machine_arms_numbers.proofs.loads.load_far_constant.Goals as goal

pub behind-requires : goal.behind-requires
behind-requires c = next_there c.requires refl

pub fetch-extra-requires : goal.fetch-extra-requires
fetch-extra-requires c = let l = next_there c.requires refl in let e = c.behind.ensures in omega (arith, l, e)

pub value_numbered-v-requires : goal.value_numbered-v-requires
value_numbered-v-requires c = let l = far_constant_there c.requires (ap (slice_get c.args.site.words.now) (sym c.behind.ensures) ∙ c.fetch-extra.ensures) in let e = c.ax.ensures in omega (arith, l, e)

pub put_value-requires : goal.put_value-requires
put_value-requires c = record { there = register_there c.requires 0 (a_of c.args.site.word) refl; next = behind_there c.requires ExtraArg refl refl }

pub returns : goal.returns
returns c = far_constant_does c.requires (ap (slice_get c.args.site.words.now) (sym c.behind.ensures) ∙ c.fetch-extra.ensures) (ap (slice_get c.args.site.constants.now) (sym c.ax.ensures) ∙ c.value_numbered-v.ensures) c.put_value.ensures.registers c.put_value.ensures.next
