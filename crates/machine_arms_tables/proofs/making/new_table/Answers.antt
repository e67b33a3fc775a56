use Rattle.std.proofs.Common.{refl, ap, ◌∙◌}
use Rattle.std.specs.Prelude.{slice_set}
use Rattle.code_core.specs.Instruction.{a_of}
use Rattle.code_core.specs.declared.opcode.Opcode.TheVariants.{ExtraArg}
use Rattle.machine_view.proofs.Places.{behind_there, register_there}
use Rattle.table_core.specs.declared.value.Value.TheVariants.{Table}
use Rattle.machine_arms_tables.specs.Frame.{code}
use Rattle.machine_arms_tables.proofs.Leading.{below}
use Rattle.machine_arms_tables.proofs.MakingRows.{new_table_does}
use Rattle.machine_arms_tables.proofs.making.new_table.Goals as goal

pub set_register-requires : goal.set_register-requires
set_register-requires c = below c.a.ensures (register_there c.requires 0 (a_of c.args.site.word) refl)

pub behind_pair-requires : goal.behind_pair-requires
behind_pair-requires c = behind_there c.requires ExtraArg refl refl

pub returns-clause-goes : goal.returns-clause-goes
returns-clause-goes c texts cells = record {
  leads =
      new_table_does (code c.args.site.closure texts) c.in_ok-id.id c.requires c.in_ok-id.ensures.id c.in_ok-id.ensures.added
      (c.set_register.ensures ∙ ap (λ a. slice_set c.args.registers.now a (Table c.in_ok-id.id)) c.a.ensures) c.behind_pair.ensures cells;
}
