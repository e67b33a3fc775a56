use Rattle.std.proofs.Common.{◌∙◌, ap, sym, refl}
use Rattle.code_core.specs.Instruction.{a_of}
use Rattle.machine_view.proofs.Places.{register_there, next_there}
use Rattle.machine_arms_tables.specs.Fields.{with_upvalue}
use Rattle.machine_arms_tables.specs.Frame.{code}
use Rattle.machine_arms_tables.proofs.FieldRows.{set_upvalue_does}
use Rattle.machine_arms_tables.proofs.Leading.{below, got}
use Rattle.machine_arms_tables.proofs.upvalues.set_upvalue.Goals as goal

pub value_numbered-v-requires : goal.value_numbered-v-requires
value_numbered-v-requires c = below c.a.ensures (register_there c.requires 0 (a_of c.args.site.word) refl)

pub next-requires : goal.next-requires
next-requires c = next_there c.requires refl

pub returns-clause-goes : goal.returns-clause-goes
returns-clause-goes c texts tables = record {
  leads =
      set_upvalue_does (code c.args.site.closure texts) c.requires (got c.args.registers.now c.a.ensures c.value_numbered-v.ensures) (sym (c.in_ok-put_upvalue.ensures.put ∙ ap (λ n. with_upvalue c.args.site.closure.upvalues.now c.args.cells.now.objects n c.value_numbered-v.result) c.b.ensures)) c.next.ensures tables;
}
