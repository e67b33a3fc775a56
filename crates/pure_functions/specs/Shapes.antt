-- What functions see of kept values.
use Rattle.std.specs.Prelude.{◌≡◌, ℕ, ◌<◌, false, List, length, Result, Ok, Err, codes}
use Rattle.int_core.specs.Value.{Value, object, a_table, shape}
use Rattle.library_rows.specs.Arguments.{is_table, wrong_type}
use Rattle.library_arguments.specs.Refusals.{refusal_text}
use Rattle.library_arguments.specs.declared.refusal.Refusal.{Refusal}
use Rattle.table_core.specs.declared.value.TableId.{TableId}
use Rattle.table_core.specs.declared.value.Value.{Value as Kept}
use Rattle.table_core.specs.declared.value.Value.TheVariants.{Str}

-- a string that a value names is there
abbrev pub IsThere : List (List ℕ) → Kept → Type 0
IsThere texts (Str id) = id.0 < length texts
IsThere texts _ = Unit {0}

pub record IsRefused (function : List ℕ) (v : Value) (why : Refusal) : Type 0 where
  pub none : is_table (shape v) ≡ false
  pub text : refusal_text why ≡ wrong_type 1 function (codes "table") (shape v)

-- the first argument is a table, or refused
abbrev pub IsTableArgument : List ℕ → Value → Result TableId Refusal → Type 0
IsTableArgument function v (Ok id) = v ≡ object a_table id.0
IsTableArgument function v (Err why) = IsRefused function v why
