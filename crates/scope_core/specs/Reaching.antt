-- What the naming of a variable adds to the upvalues of the functions around it (Lua 5.4 manual, 3.5): each function between the name and the declaration gets the variable as an upvalue, if it has it not yet.
use Rattle.std.specs.Prelude.{ℕ, true, false, if◌then◌else◌, List, [], ◌∷◌, ◌++◌, is_some, option_map, Option, Some}
use Rattle.std.specs.Option.{option_map_or}
use Rattle.tree_core.specs.declared.name.UpName.{UpName}
use Rattle.tree_core.specs.declared.name.Place.{Place}
use Rattle.tree_core.specs.declared.name.Place.TheVariants.{Local as InRegister, Upvalue, GlobalIn, GlobalOf}
use Rattle.scope_core.specs.declared.frame.Source.{Source}
use Rattle.scope_core.specs.Scopes.{Frame, register_of, upvalue_of}
use Rattle.scope_core.specs.Places.{as_byte, up_name}

abbrev pub captured_at : ℕ → Source
captured_at place = record { in_stack = false; index = as_byte place }

abbrev pub declared_at : ℕ → Source
declared_at register = record { in_stack = true; index = as_byte register }

abbrev pub up_name_at : List ℕ → Source → UpName
up_name_at text source = record { text = text; in_stack = source.in_stack; index = source.index }

-- where a function has a variable that it declares or has named before
abbrev pub source_in : List ℕ → Frame → Option Source
source_in text frame =
    option_map_or (λ register. Some (declared_at register)) (register_of text frame.variables) (option_map captured_at (upvalue_of text frame.upvalues))

-- the functions around a name, the innermost first, once the variable is named there
abbrev pub reached : List Frame → List ℕ → List Frame
reached [] text = []
reached (frame ∷ frames) text =
    if is_some (source_in text frame)
    then frame ∷ frames
    else (record frame { upvalues = frame.upvalues ++ up_name (reached frames text) text ∷ [] } ∷ reached frames text)

-- the place of a name whose variable a function has, and of a global name whose `_ENV` it has
abbrev pub local_place : Source → Place
local_place source = if source.in_stack then InRegister source.index else Upvalue source.index

abbrev pub global_place_at : Source → Place
global_place_at source = if source.in_stack then GlobalIn source.index else GlobalOf source.index
