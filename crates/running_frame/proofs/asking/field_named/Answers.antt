use Rattle.std.proofs.Common.{◌≡◌, Some, ap, sym, subst, ◌∙◌}
use Rattle.code_core.specs.Instruction.{opcode_of}
use Rattle.code_core.specs.declared.opcode.Opcode.TheVariants.{GetTable, GetField, MmBin}
use Rattle.running_frame.specs.Asking.{Names, by_name, by_operands, by_register}
use Rattle.running_frame.proofs.Handlers.{both_some}
use Rattle.running_frame.proofs.asking.field_named.Goals as goal

pub returns-in-Some-GetTable : goal.returns-in-Some-GetTable
returns-in-Some-GetTable c =
    let is : opcode_of c.args.i ≡ Some GetTable = sym c.opcode.ensures ∙ c.in-Some-GetTable.is ∙ ap (λ o. Some o) c.in-Some-GetTable.field-0-is in
    both_some c.field_by_register.result (λ field object key. subst (Names c.args.registers.now c.args.constants.now c.args.i field.object field.key) (sym is) (by_register object key)) c.field_by_register.ensures.object c.field_by_register.ensures.key

pub returns-in-Some-GetField : goal.returns-in-Some-GetField
returns-in-Some-GetField c =
    let is : opcode_of c.args.i ≡ Some GetField = sym c.opcode.ensures ∙ c.in-Some-GetField.is ∙ ap (λ o. Some o) c.in-Some-GetField.field-0-is in
    both_some c.field_by.result (λ field object key. subst (Names c.args.registers.now c.args.constants.now c.args.i field.object field.key) (sym is) (by_name object key)) c.field_by.ensures.object c.field_by.ensures.key

pub returns-in-Some-MmBin : goal.returns-in-Some-MmBin
returns-in-Some-MmBin c =
    let is : opcode_of c.args.i ≡ Some MmBin = sym c.opcode.ensures ∙ c.in-Some-MmBin.is ∙ ap (λ o. Some o) c.in-Some-MmBin.field-0-is in
    both_some c.operands_of.result (λ field object key. subst (Names c.args.registers.now c.args.constants.now c.args.i field.object field.key) (sym is) (by_operands object key)) c.operands_of.ensures.object c.operands_of.ensures.key
