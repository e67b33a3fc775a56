use Rattle.std.proofs.Common.{◌≡◌, Some, ap, sym, ◌∙◌}
use Rattle.std.proofs.lemmas.Option.{IfSome_then}
use Rattle.code_core.specs.Instruction.{c_of, opcode_of}
use Rattle.code_core.specs.declared.opcode.Opcode.TheVariants.{GetTable, GetField, MmBin}
use Rattle.running_frame.specs.Asking.{operation_at}
use Rattle.running_frame.proofs.asking.kind_of.Goals as goal

pub returns-in-Some-GetTable : goal.returns-in-Some-GetTable
returns-in-Some-GetTable c =
    let is : opcode_of c.args.i ≡ Some GetTable = sym c.opcode.ensures ∙ c.in-Some-GetTable.is ∙ ap (λ o. Some o) c.in-Some-GetTable.field-0-is in
    ap (λ o. operation_at o (c_of c.args.i)) is

pub returns-in-Some-GetField : goal.returns-in-Some-GetField
returns-in-Some-GetField c =
    let is : opcode_of c.args.i ≡ Some GetField = sym c.opcode.ensures ∙ c.in-Some-GetField.is ∙ ap (λ o. Some o) c.in-Some-GetField.field-0-is in
    ap (λ o. operation_at o (c_of c.args.i)) is

pub returns-in-Some-MmBin : goal.returns-in-Some-MmBin
returns-in-Some-MmBin c =
    let is : opcode_of c.args.i ≡ Some MmBin = sym c.opcode.ensures ∙ c.in-Some-MmBin.is ∙ ap (λ o. Some o) c.in-Some-MmBin.field-0-is in
    IfSome_then c.operator_of.result c.operator_of.ensures (λ kind e. ap (λ o. operation_at o (c_of c.args.i)) is ∙ e)
