use Rattle.std.proofs.Common.{◌+◌, ◌∙◌, ap, refl, length, arith, cond}
use Rattle.std.specs.Prelude.{[], ◌∷◌, slice_set}
use Rattle.code_core.specs.Fields.{name}
use Rattle.code_core.specs.Instruction.{a_of, b_of, c_of}
use Rattle.machine_sound.proofs.Lists.{length_set}
use Rattle.machine_view.proofs.Places.{register_there, next_there}
use Rattle.machine_arms_tables.specs.Leading.{code_at}
use Rattle.machine_arms_tables.proofs.SelfRow.{self_does}
use Rattle.machine_arms_tables.proofs.Leading.{below, got}
use Rattle.machine_arms_tables.proofs.Operands.{operand_constant, operand_register}
use Rattle.machine_arms_tables.proofs.reads.get_method.Goals as goal

pub value_numbered-object-requires : goal.value_numbered-object-requires
value_numbered-object-requires c = below c.b.ensures (register_there c.requires 1 (b_of c.args.site.word) refl)

pub operand-key-requires : goal.operand-key-requires
operand-key-requires c =
    record {
      constant = operand_constant c.requires name (λ k. cond k ((name, c_of c.args.site.word) ∷ []) []) 0 refl refl;
      register = operand_register c.requires (λ k. (a_of c.args.site.word + 1) ∷ b_of c.args.site.word ∷ cond k [] (c_of c.args.site.word ∷ [])) 2 refl refl;
    }

pub set_register-requires : goal.set_register-requires
set_register-requires c = let l = register_there c.requires 0 (a_of c.args.site.word + 1) refl in let e = c.a-a.ensures in omega (arith, l, e)

pub set_register-requires-2 : goal.set_register-requires-2
set_register-requires-2 c = let l = register_there c.requires 0 (a_of c.args.site.word + 1) refl in let e = c.a-a.ensures in let f = ap length c.set_register.ensures ∙ length_set c.args.registers.now _ _ in omega (arith, l, e, f)

pub next-requires : goal.next-requires
next-requires c = next_there c.requires refl

pub returns : goal.returns
returns c cells = record {
  leads =
      self_does (code_at c.args.site) c.requires (got c.args.registers.now c.b.ensures c.value_numbered-object.ensures) c.operand-key.ensures c.in_ok-v.ensures
      (c.set_register-2.ensures ∙ ap (λ r. slice_set r c.a-a.result c.in_ok-v.v) c.set_register.ensures ∙ ap (λ a. slice_set (slice_set c.args.registers.now (a + 1) c.value_numbered-object.result) a c.in_ok-v.v) c.a-a.ensures) c.next.ensures cells;
}
