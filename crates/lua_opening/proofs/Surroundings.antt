-- The rows of the prelude's environment have names of their own.
use Rattle.std.proofs.Common.{◌≡◌, [], List, None, length, refl, ap, sym, ◌∙◌}
use Rattle.int_core.specs.Heap.{Table}
use Rattle.int_core.specs.Value.{Value}
use Rattle.code_core.specs.Prototype.{Prototype}
use Rattle.library_rows.specs.PreludeText.{prelude_functions}
use Rattle.lua_meaning.specs.Libraries.{environment, primitive_values}
use Rattle.lua_meaning.specs.Opening.{prelude_of}
use Rattle.lua_opening.specs.Opened.{set_all}
use Rattle.lua_opening.proofs.Names.{environment_named, environment_is}

abbrev pub with_rows : List (Value × Value) → Table
with_rows rows = record { rows = rows; metatable = None }

environment_set : set_all [] environment_named.rows ≡ environment_named.rows
unfolding primitive_values
environment_set = refl

pub environment_written : (codes : List Prototype) → length codes ≡ length prelude_functions → environment (prelude_of codes) ≡ with_rows (set_all [] environment_named.rows)
environment_written codes h = environment_is codes h ∙ ap with_rows (sym environment_set)
