-- The operations of comparisons of two registers.
use Rattle.std.specs.Prelude.{◌≡◌, ◌⊎◌}
use Rattle.code_core.specs.declared.opcode.Opcode.{Opcode}
use Rattle.code_core.specs.declared.opcode.Opcode.TheVariants.{Eq, Lt, Le}
use Rattle.int_core.specs.Operations.{Operation, equal, less, less_equal}

abbrev pub IsComparison : Opcode → Type 0
IsComparison op = (op ≡ Eq) ⊎ (op ≡ Lt) ⊎ (op ≡ Le)

abbrev pub order_of : Opcode → Operation
order_of Lt = less
order_of _ = less_equal

abbrev pub comparison : Opcode → Operation
comparison Eq = equal
comparison op = order_of op
