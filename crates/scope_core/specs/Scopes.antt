-- What stands around a place in a source, and which variable a name means there (Lua 5.4 manual, 2.2 and 3.5).
use Rattle.std.specs.Prelude.{ℕ, Bool, true, false, ◌||◌, if◌then◌else◌, List, [], ◌∷◌, map, length, position, find, Option, Some, None}
use Rattle.std.specs.List.{list_any}
use Rattle.std.specs.Option.{option_map_or}
use Rattle.std.specs.Str.{bytes_eq}
use Rattle.tree_core.specs.declared.name.Name.{Name}
use Rattle.tree_core.specs.declared.name.Attrib.{Attrib}
use Rattle.tree_core.specs.declared.name.Attrib.TheVariants.{Const, Close}
use Rattle.tree_core.specs.declared.name.Declared.{Declared}
use Rattle.tree_core.specs.declared.name.UpName.{UpName}
use Rattle.scope_core.specs.declared.variable.Variable.{Variable}
use Rattle.scope_core.specs.declared.variable.Variable.TheVariants.{Named, Hidden}
use Rattle.tree_core.specs.Tree.{Block, Falls, Returns, Stats, EndStats, MoreStats, Stat, Local, LocalFunction}

-- one function: its local variables in scope, the last declared first, and its upvalues
pub record Frame : Type 0 where
  pub variables : List Variable
  pub upvalues : List UpName

-- a block around a place: its statements before the one with the place, the nearest first, and those behind it, and whether its end is the end of its variables' scope
pub record Around : Type 0 where
  pub before : List Stat
  pub behind : Stats
  pub ends_scope : Bool

-- what stands around a place: the functions and, in the innermost one, the blocks, each from the inside out; whether a loop of this function stands around it, and whether the function takes `...`
pub record Scope : Type 0 where
  pub frames : List Frame
  pub blocks : List Around
  pub in_loop : Bool
  pub is_vararg : Bool

-- the same functions, seen by their variables alone
abbrev pub bare : List Frame → List Frame
bare [] = []
bare (frame ∷ frames) = record frame { upvalues = [] } ∷ bare frames

-- Declarations.

abbrev pub declare : List Frame → Variable → List Frame
declare [] variable = []
declare (frame ∷ frames) variable = record frame { variables = variable ∷ frame.variables } ∷ frames

abbrev pub declare_all : List Frame → List Variable → List Frame
declare_all frames [] = frames
declare_all frames (variable ∷ variables) = declare_all (declare frames variable) variables

abbrev pub plain_variable : Name → Variable
plain_variable name = Named name.text false

-- a variable that is declared `const` or `close` is fixed (Lua 5.4 manual, 3.3.7)
abbrev pub is_fixed : Attrib → Bool
is_fixed Const = true
is_fixed Close = true
is_fixed _ = false

abbrev pub declared_variable : Declared → Variable
declared_variable declared = Named declared.name.text (is_fixed declared.attrib)

-- the variables that are in scope behind a statement, and not before it
abbrev pub declared_by : Stat → List Variable
declared_by (Local line names values) = map declared_variable names
declared_by (LocalFunction line name body) = plain_variable name ∷ []
declared_by _ = []

abbrev pub behind_stats : List Frame → Stats → List Frame
behind_stats frames EndStats = frames
behind_stats frames (MoreStats stat stats) = behind_stats (declare_all frames (declared_by stat)) stats

-- the end of a block, where the variables of all its statements are in scope
abbrev pub behind : List Frame → Block → List Frame
behind frames (Falls stats tokens line) = behind_stats frames stats
behind frames (Returns stats values tokens line) = behind_stats frames stats

-- a numeric `for` hides three variables, a generic one four
abbrev pub numeric_hidden : List Variable
numeric_hidden = Hidden ∷ Hidden ∷ Hidden ∷ []

abbrev pub generic_hidden : List Variable
generic_hidden = Hidden ∷ Hidden ∷ Hidden ∷ Hidden ∷ []

-- What a name means.

abbrev pub has_name : List ℕ → Variable → Bool
has_name text (Named other fixed) = bytes_eq other text
has_name text Hidden = false

-- the register of the variable that was declared last under a name: the number of those before it
abbrev pub register_of : List ℕ → List Variable → Option ℕ
register_of text [] = None
register_of text (variable ∷ variables) =
    if has_name text variable then Some (length variables) else register_of text variables

abbrev pub is_fixed_variable : Variable → Bool
is_fixed_variable (Named text fixed) = fixed
is_fixed_variable Hidden = false

-- a name means a fixed variable, of the innermost function that has one of that name
abbrev pub names_fixed : List ℕ → List Frame → Bool
names_fixed text [] = false
names_fixed text (frame ∷ frames) = option_map_or is_fixed_variable (find (has_name text) frame.variables) (names_fixed text frames)

-- the bytes of `_ENV`
abbrev pub environment : List ℕ
environment = 95 ∷ 69 ∷ 78 ∷ 86 ∷ []

abbrev pub is_local : List ℕ → Frame → Bool
is_local text frame = option_map_or (λ register. true) (register_of text frame.variables) false

-- a name is that of a local variable of a function around it, or `_ENV`; every other name is global
abbrev pub is_variable : List ℕ → List Frame → Bool
is_variable text frames = bytes_eq text environment || list_any (is_local text) frames

-- the name of the variable that a name needs: its own, or for a global name `_ENV`
abbrev pub needed : List ℕ → List Frame → List ℕ
needed text frames = if is_variable text frames then text else environment

abbrev pub upvalue_of : List ℕ → List UpName → Option ℕ
upvalue_of text upvalues = position (λ upvalue. bytes_eq upvalue.text text) upvalues
