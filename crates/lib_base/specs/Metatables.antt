-- Metatables as arguments and results.
use Rattle.std.specs.Prelude.{◌≡◌, false, Option, Some, None, Result, Ok, Err, codes}
use Rattle.int_core.specs.Value.{Value, known, nil, object, a_table, shape}
use Rattle.library_rows.specs.Arguments.{wrong_type}
use Rattle.library_rows.specs.Base.{is_table_or_nil}
use Rattle.library_arguments.specs.Refusals.{refusal_text}
use Rattle.library_arguments.specs.declared.refusal.Refusal.{Refusal}
use Rattle.table_core.specs.declared.value.TableId.{TableId}
use Rattle.table_core.specs.declared.value.Value.{Value as Kept}
use Rattle.table_core.specs.declared.value.Value.TheVariants.{Nil}

-- a field where it is not nil, else the metatable
abbrev pub field_or : Kept → Kept → Kept
field_or Nil m = m
field_or v m = v

pub record IsNoMetatable (v : Value) : Type 0 where
  pub none : is_table_or_nil (shape v) ≡ false

-- the second argument is a table or nil, or refused
abbrev pub IsMetatableArgument : Value → Result (Option TableId) Refusal → Type 0
IsMetatableArgument v (Ok None) = v ≡ known nil
IsMetatableArgument v (Ok (Some id)) = v ≡ object a_table id.0
IsMetatableArgument v (Err why) = IsNoMetatable v × (refusal_text why ≡ wrong_type 2 (codes "setmetatable") (codes "nil or table") (shape v))
