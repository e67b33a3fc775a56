-- Where the value of each variable's name is found, and which variables of enclosing functions each function names (Lua 5.4 manual, 2.2 and 3.5).
use Rattle.std.specs.Prelude.{ℕ, ◌-◌, min, true, false, not, if◌then◌else◌, List, [], ◌∷◌, map, filter, flat_map, length, take, unwrap_or}
use Rattle.std.specs.List.{list_any}
use Rattle.std.specs.Option.{option_map_or}
use Rattle.std.specs.Str.{bytes_eq}
use Rattle.tree_core.specs.declared.name.Name.{Name}
use Rattle.tree_core.specs.declared.name.Declared.{Declared}
use Rattle.tree_core.specs.declared.name.UpName.{UpName}
use Rattle.tree_core.specs.declared.name.Place.{Place}
use Rattle.tree_core.specs.declared.name.Place.TheVariants.{Local as InRegister, Upvalue, GlobalIn, GlobalOf}
use Rattle.tree_core.specs.Tree.{Block, Falls, Returns, Body, BodyOf, Stats, EndStats, MoreStats, Stat, Empty, Local, LocalFunction, Assign, CallStat, Do, While, Repeat, If, IfElse, NumFor, NumForStep, GenFor, Label, Goto, Break, Arms, EndArms, MoreArms, Exps, EndExps, MoreExps, Exp, Nil, True, False, Int, Str, Vararg, Function, Var, Index, Call, Method, Unary, Binary, And, Or, Paren, Table, Fields, EndFields, MoreFields, Field, Item, Keyed}
use Rattle.scope_core.specs.Scopes.{Scope, Frame, bare, declare, declare_all, declared_by, declared_variable, plain_variable, behind, behind_stats, numeric_hidden, generic_hidden, register_of, environment, is_local, is_variable, needed, upvalue_of}
use Rattle.scope_core.specs.Parts.{Part, Naming, Located, body_parts}

-- Upvalues.

-- the variable that a part needs, where it is one of the outermost functions, so many of them
abbrev pub outside_name : (outer : ℕ) → Scope → Part → List (List ℕ)
outside_name outer scope (Naming name) =
    let text : List ℕ = needed name.text scope.frames in
    if list_any (is_local text) (take (length scope.frames - outer) scope.frames) then [] else text ∷ []
outside_name outer scope _ = []

abbrev pub outside_all : (outer : ℕ) → List Located → List (List ℕ)
outside_all outer parts = flat_map (λ located. outside_name outer located.around located.part) parts

-- each text once, where it stands first
abbrev pub firsts : List (List ℕ) → List (List ℕ)
firsts [] = []
firsts (text ∷ texts) = text ∷ filter (λ other. not (bytes_eq text other)) (firsts texts)

-- the variables of enclosing functions that a body or one within it names, in the order in which they are first named
abbrev pub outside_names : List Frame → Body → List (List ℕ)
outside_names frames body =
    firsts (outside_all (length frames) (body_parts (record { frames = bare frames; blocks = []; in_loop = false; is_vararg = false }) body))

-- a number as a tree has it, in a byte; a greater one stands only in a tree that breaks the limits on local variables or upvalues
abbrev pub as_byte : ℕ → ℕ
as_byte number = min number 255

abbrev pub upvalue_number : List ℕ → Frame → ℕ
upvalue_number text frame = as_byte (unwrap_or (upvalue_of text frame.upvalues) 0)

-- where a function finds a variable that it makes an upvalue of: in a register of the function just around, or among that one's upvalues
abbrev pub up_name : List Frame → List ℕ → UpName
up_name [] text = record { text = text; in_stack = true; index = 0 }
up_name (frame ∷ frames) text =
    option_map_or
    (λ register. record { text = text; in_stack = true; index = as_byte register })
    (register_of text frame.variables)
    (record { text = text; in_stack = false; index = upvalue_number text frame })

abbrev pub upvalues_of : List Frame → Body → List UpName
upvalues_of frames body = map (up_name frames) (outside_names frames body)

-- Places.

abbrev pub variable_place : List ℕ → Frame → Place
variable_place text frame =
    option_map_or (λ register. InRegister (as_byte register)) (register_of text frame.variables) (Upvalue (upvalue_number text frame))

abbrev pub global_place : Frame → Place
global_place frame =
    option_map_or
    (λ register. GlobalIn (as_byte register))
    (register_of environment frame.variables)
    (GlobalOf (upvalue_number environment frame))

abbrev pub place_of : List ℕ → List Frame → Place
place_of text [] = if is_variable text [] then InRegister 0 else GlobalIn 0
place_of text (frame ∷ frames) =
    if is_variable text (frame ∷ frames) then variable_place text frame else global_place frame

abbrev pub placed_name : List Frame → Name → Name
placed_name frames name = record name { place = place_of name.text frames }

abbrev pub next_register : List Frame → ℕ
next_register [] = 0
next_register (frame ∷ frames) = as_byte (length frame.variables)

-- The same tree with its places.

abbrev pub first_placed : List Frame → Name → Name
first_placed frames name = record name { place = InRegister (next_register frames) }

abbrev pub local_placed : List Frame → Declared → Declared
local_placed frames declared = record declared { name = first_placed frames declared.name }

abbrev pub placed_names : List Frame → List Name → List Name
placed_names frames [] = []
placed_names frames (name ∷ names) =
    first_placed frames name ∷ placed_names (declare frames (plain_variable name)) names

abbrev pub placed_declared : List Frame → List Declared → List Declared
placed_declared frames [] = []
placed_declared frames (declared ∷ names) =
    local_placed frames declared ∷ placed_declared (declare frames (declared_variable declared)) names

abbrev mutual
  pub placed_exp : List Frame → Exp → Exp
  placed_exp frames (Nil line) = Nil line
  placed_exp frames (True line) = True line
  placed_exp frames (False line) = False line
  placed_exp frames (Int line value) = Int line value
  placed_exp frames (Str line bytes) = Str line bytes
  placed_exp frames (Vararg line) = Vararg line
  placed_exp frames (Function line body) = Function line (placed_body frames body)
  placed_exp frames (Var line name) = Var line (placed_name frames name)
  placed_exp frames (Index line indexed key) = Index line (placed_exp frames indexed) (placed_exp frames key)
  placed_exp frames (Call line called arguments) = Call line (placed_exp frames called) (placed_exps frames arguments)
  placed_exp frames (Method line object name arguments) =
      Method line (placed_exp frames object) name (placed_exps frames arguments)
  placed_exp frames (Unary line operator operand) = Unary line operator (placed_exp frames operand)
  placed_exp frames (Binary line operator left right) = Binary line operator (placed_exp frames left) (placed_exp frames right)
  placed_exp frames (And line left right) = And line (placed_exp frames left) (placed_exp frames right)
  placed_exp frames (Or line left right) = Or line (placed_exp frames left) (placed_exp frames right)
  placed_exp frames (Paren line inner) = Paren line (placed_exp frames inner)
  placed_exp frames (Table line fields) = Table line (placed_fields frames fields)

  pub placed_exps : List Frame → Exps → Exps
  placed_exps frames EndExps = EndExps
  placed_exps frames (MoreExps exp exps) = MoreExps (placed_exp frames exp) (placed_exps frames exps)

  pub placed_fields : List Frame → Fields → Fields
  placed_fields frames EndFields = EndFields
  placed_fields frames (MoreFields field fields) = MoreFields (placed_field frames field) (placed_fields frames fields)

  pub placed_field : List Frame → Field → Field
  placed_field frames (Item value) = Item (placed_exp frames value)
  placed_field frames (Keyed line key value) = Keyed line (placed_exp frames key) (placed_exp frames value)

  pub placed_body : List Frame → Body → Body
  placed_body frames (BodyOf params vararg inner upvalues line) =
      let outer : List UpName = upvalues_of frames (BodyOf params vararg inner upvalues line) in
      let begin : List Frame = record { variables = []; upvalues = outer } ∷ frames in
      BodyOf (placed_names begin params) vararg (placed_block (declare_all begin (map plain_variable params)) inner) outer line

  pub placed_block : List Frame → Block → Block
  placed_block frames (Falls stats tokens line) = Falls (placed_stats frames stats) tokens line
  placed_block frames (Returns stats values tokens line) =
      Returns (placed_stats frames stats) (placed_exps (behind_stats frames stats) values) tokens line

  pub placed_stats : List Frame → Stats → Stats
  placed_stats frames EndStats = EndStats
  placed_stats frames (MoreStats stat stats) =
      MoreStats (placed_stat frames stat) (placed_stats (declare_all frames (declared_by stat)) stats)

  pub placed_stat : List Frame → Stat → Stat
  placed_stat frames (Empty line) = Empty line
  placed_stat frames (Local line names values) = Local line (placed_declared frames names) (placed_exps frames values)
  placed_stat frames (LocalFunction line name body) =
      LocalFunction line (first_placed frames name) (placed_body (declare frames (plain_variable name)) body)
  placed_stat frames (Assign line targets values) = Assign line (placed_exps frames targets) (placed_exps frames values)
  placed_stat frames (CallStat line call) = CallStat line (placed_exp frames call)
  placed_stat frames (Do line block) = Do line (placed_block frames block)
  placed_stat frames (While line test block) = While line (placed_exp frames test) (placed_block frames block)
  placed_stat frames (Repeat line block test) =
      Repeat line (placed_block frames block) (placed_exp (behind frames block) test)
  placed_stat frames (If line arms) = If line (placed_arms frames arms)
  placed_stat frames (IfElse line arms otherwise) = IfElse line (placed_arms frames arms) (placed_block frames otherwise)
  placed_stat frames (NumFor line name first limit block) =
      let hidden : List Frame = declare_all frames numeric_hidden in
      NumFor line (first_placed hidden name) (placed_exp frames first) (placed_exp frames limit)
      (placed_block (declare hidden (plain_variable name)) block)
  placed_stat frames (NumForStep line name first limit step block) =
      let hidden : List Frame = declare_all frames numeric_hidden in
      NumForStep line (first_placed hidden name) (placed_exp frames first) (placed_exp frames limit) (placed_exp frames step)
      (placed_block (declare hidden (plain_variable name)) block)
  placed_stat frames (GenFor line names values block) =
      let hidden : List Frame = declare_all frames generic_hidden in
      GenFor line (placed_names hidden names) (placed_exps frames values)
      (placed_block (declare_all hidden (map plain_variable names)) block)
  placed_stat frames (Label line name) = Label line name
  placed_stat frames (Goto line name) = Goto line name
  placed_stat frames (Break line) = Break line

  pub placed_arms : List Frame → Arms → Arms
  placed_arms frames EndArms = EndArms
  placed_arms frames (MoreArms test block arms) =
      MoreArms (placed_exp frames test) (placed_block frames block) (placed_arms frames arms)

-- The main function takes `...` and has `_ENV` as its one upvalue.

abbrev pub main_upvalues : List UpName
main_upvalues = record { text = environment; in_stack = true; index = 0 } ∷ []

abbrev pub placed : Block → Body
placed block = BodyOf [] true (placed_block (record { variables = []; upvalues = main_upvalues } ∷ []) block) main_upvalues 0
