-- Where a value that is stored in a field stands: a constant whose number in the table has 8 bits stands in the store itself, and a local in its own register.
use Rattle.std.specs.Prelude.{List}
use Rattle.tree_core.specs.Tree.{Exp}
use Rattle.code_core.specs.declared.proto.Const.{Const}
use Rattle.code_of.specs.ConstantOperands.{any_constant}
use Rattle.code_of.specs.Operands.{local_of}
use Rattle.code_of.specs.Operations.{short_of}
use Rattle.code_of.specs.Stores.{StoredValue, value_by}

abbrev pub stored_value : List Const → Exp → StoredValue
stored_value constants e = value_by (short_of constants (any_constant e)) (local_of e)
