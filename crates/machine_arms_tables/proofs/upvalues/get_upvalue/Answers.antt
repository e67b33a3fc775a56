use Rattle.std.proofs.Common.{refl}
use Rattle.code_core.specs.Instruction.{a_of}
use Rattle.machine_view.proofs.Places.{register_there, next_there}
use Rattle.machine_arms_tables.specs.Fields.{upvalue_in}
use Rattle.machine_arms_tables.specs.Frame.{code}
use Rattle.machine_arms_tables.proofs.FieldRows.{get_upvalue_does}
use Rattle.machine_arms_tables.proofs.Leading.{named_so}
use Rattle.machine_arms_tables.proofs.upvalues.get_upvalue.Goals as goal

pub store-requires : goal.store-requires
store-requires c = record { there = register_there c.requires 0 (a_of c.args.site.word) refl; next = next_there c.requires refl }

pub returns-clause-goes : goal.returns-clause-goes
returns-clause-goes c texts tables = record {
  leads =
      get_upvalue_does (code c.args.site.closure texts) c.requires (named_so (λ n. upvalue_in c.args.site.closure.upvalues.now c.args.cells.now.objects n) c.b.ensures c.in_ok-v.ensures) c.store.ensures.registers c.store.ensures.next tables;
}
