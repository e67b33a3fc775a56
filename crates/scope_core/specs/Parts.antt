-- The parts of a source that the rules speak of, each with what stands around it. Which variables are in scope where is said here (Lua 5.4 manual, 3.3.4, 3.3.5, 3.4.11 and 3.5).
use Rattle.std.specs.Prelude.{ℕ, Bool, true, false, List, [], ◌∷◌, ◌++◌, map}
use Rattle.tree_core.specs.declared.name.Name.{Name}
use Rattle.tree_core.specs.declared.name.Declared.{Declared}
use Rattle.tree_core.specs.Tree.{Block, Falls, Returns, Body, BodyOf, Stats, EndStats, MoreStats, Stat, Empty, Local, LocalFunction, Assign, CallStat, Do, While, Repeat, If, IfElse, NumFor, NumForStep, GenFor, Label, Goto, Break, Arms, EndArms, MoreArms, Exps, EndExps, MoreExps, Exp, Nil, True, False, Int, Str, Vararg, Function, Var, Index, Call, Method, Unary, Binary, And, Or, Paren, Table, Fields, EndFields, MoreFields, Field, Item, Keyed}
use Rattle.scope_core.specs.declared.variable.Variable.{Variable}
use Rattle.scope_core.specs.Scopes.{Scope, Frame, Around, declare_all, declared_by, declared_variable, plain_variable, behind, numeric_hidden, generic_hidden}

pub data Part : Type 0 where
  -- `...`
  Rest : (line : ℕ) → Part
  -- the name of a variable that is read or assigned
  Naming : Name → Part
  -- a function
  Inner : Body → Part
  -- a statement
  Statement : Stat → Part
  -- the test of a `repeat` that begins on a line; it sees the variables of the block
  Until : (line : ℕ) → Exp → Part
  -- the expressions behind a `return` on a line
  Result : (line : ℕ) → Exps → Part
  -- a variable, or the hidden ones of a `for`, declared on a line; what stands around it has it already
  Declares : (line : ℕ) → Part

pub record Located : Type 0 where
  pub around : Scope
  pub part : Part

abbrev pub at : Scope → Part → Located
at scope part = record { around = scope; part = part }

-- Scopes of inner places.

abbrev pub with_variables : Scope → List Variable → Scope
with_variables scope variables = record scope { frames = declare_all scope.frames variables }

abbrev pub with_block : Scope → Around → Scope
with_block scope block = record scope { blocks = block ∷ scope.blocks }

abbrev pub in_loop_of : Scope → Scope
in_loop_of scope = record scope { in_loop = true }

-- the scope of a function's parameters; parts look at the variables of the functions around alone
abbrev pub inside : List Frame → Body → Scope
inside frames (BodyOf params vararg inner upvalues line) =
    record { frames = record { variables = []; upvalues = [] } ∷ frames; blocks = []; in_loop = false; is_vararg = vararg }

-- the end of a block
abbrev pub scope_behind : Scope → Block → Scope
scope_behind scope block = record scope { frames = behind scope.frames block }

-- a part for each declared variable
abbrev pub declarations : Scope → List Declared → List Located
declarations scope [] = []
declarations scope (declared ∷ names) =
    let scope' : Scope = with_variables scope (declared_variable declared ∷ []) in
    at scope' (Declares declared.name.line) ∷ declarations scope' names

abbrev pub name_declarations : Scope → List Name → List Located
name_declarations scope [] = []
name_declarations scope (name ∷ names) =
    let scope' : Scope = with_variables scope (plain_variable name ∷ []) in
    at scope' (Declares name.line) ∷ name_declarations scope' names

-- inside a `for`, behind its hidden variables
abbrev pub loop_scope : Scope → List Variable → Scope
loop_scope scope hidden = in_loop_of (with_variables scope hidden)

abbrev pub for_declarations : Scope → ℕ → List Name → List Located
for_declarations hidden line names = at hidden (Declares line) ∷ name_declarations hidden names

-- The parts, in the order of the text.

abbrev mutual
  pub exp_parts : Scope → Exp → List Located
  exp_parts scope (Nil line) = []
  exp_parts scope (True line) = []
  exp_parts scope (False line) = []
  exp_parts scope (Int line value) = []
  exp_parts scope (Str line bytes) = []
  exp_parts scope (Vararg line) = at scope (Rest line) ∷ []
  exp_parts scope (Function line body) = body_parts scope body
  exp_parts scope (Var line name) = at scope (Naming name) ∷ []
  exp_parts scope (Index line indexed key) = exp_parts scope indexed ++ exp_parts scope key
  exp_parts scope (Call line called arguments) = exp_parts scope called ++ exps_parts scope arguments
  exp_parts scope (Method line object name arguments) = exp_parts scope object ++ exps_parts scope arguments
  exp_parts scope (Unary line operator operand) = exp_parts scope operand
  exp_parts scope (Binary line operator left right) = exp_parts scope left ++ exp_parts scope right
  exp_parts scope (And line left right) = exp_parts scope left ++ exp_parts scope right
  exp_parts scope (Or line left right) = exp_parts scope left ++ exp_parts scope right
  exp_parts scope (Paren line inner) = exp_parts scope inner
  exp_parts scope (Table line fields) = fields_parts scope fields

  pub exps_parts : Scope → Exps → List Located
  exps_parts scope EndExps = []
  exps_parts scope (MoreExps exp exps) = exp_parts scope exp ++ exps_parts scope exps

  pub fields_parts : Scope → Fields → List Located
  fields_parts scope EndFields = []
  fields_parts scope (MoreFields field fields) = field_parts scope field ++ fields_parts scope fields

  pub field_parts : Scope → Field → List Located
  field_parts scope (Item value) = exp_parts scope value
  field_parts scope (Keyed line key value) = exp_parts scope key ++ exp_parts scope value

  -- a body's scope begins with its function alone: no block, no loop
  pub body_parts : Scope → Body → List Located
  body_parts scope (BodyOf params vararg inner upvalues line) =
      let begin : Scope = inside scope.frames (BodyOf params vararg inner upvalues line) in
      at scope (Inner (BodyOf params vararg inner upvalues line))
      ∷ name_declarations begin params
      ++ block_parts (with_variables begin (map plain_variable params)) true inner

  -- the statements behind some that stand before them, the nearest first
  pub stats_parts : Scope → List Stat → Bool → Stats → List Located
  stats_parts scope before ends_scope EndStats = []
  stats_parts scope before ends_scope (MoreStats stat stats) =
      let here : Scope = with_block scope (record { before = before; behind = stats; ends_scope = ends_scope }) in
      at here (Statement stat)
      ∷ stat_parts here stat
      ++ stats_parts (with_variables scope (declared_by stat)) (stat ∷ before) ends_scope stats

  -- a block whose end is the end of its variables' scope, or not, as before `until`
  pub block_parts : Scope → Bool → Block → List Located
  block_parts scope ends_scope (Falls stats tokens line) = stats_parts scope [] ends_scope stats
  block_parts scope ends_scope (Returns stats values tokens line) =
      let last : Scope = scope_behind scope (Falls stats tokens line) in
      stats_parts scope [] false stats ++ at last (Result line values) ∷ exps_parts last values

  pub stat_parts : Scope → Stat → List Located
  stat_parts scope (Empty line) = []
  stat_parts scope (Local line names values) = exps_parts scope values ++ declarations scope names
  stat_parts scope (LocalFunction line name body) =
      name_declarations scope (name ∷ []) ++ body_parts (with_variables scope (plain_variable name ∷ [])) body
  stat_parts scope (Assign line targets values) = exps_parts scope targets ++ exps_parts scope values
  stat_parts scope (CallStat line call) = exp_parts scope call
  stat_parts scope (Do line block) = block_parts scope true block
  stat_parts scope (While line test block) = exp_parts scope test ++ block_parts (in_loop_of scope) true block
  stat_parts scope (Repeat line block test) =
      let behind : Scope = scope_behind scope block in
      block_parts (in_loop_of scope) false block ++ at behind (Until line test) ∷ exp_parts behind test
  stat_parts scope (If line arms) = arms_parts scope arms
  stat_parts scope (IfElse line arms otherwise) = arms_parts scope arms ++ block_parts scope true otherwise
  stat_parts scope (NumFor line name first limit block) =
      let hidden : Scope = loop_scope scope numeric_hidden in
      exp_parts scope first
      ++ exp_parts scope limit
      ++ for_declarations hidden line (name ∷ [])
      ++ block_parts (with_variables hidden (plain_variable name ∷ [])) true block
  stat_parts scope (NumForStep line name first limit step block) =
      let hidden : Scope = loop_scope scope numeric_hidden in
      exp_parts scope first
      ++ exp_parts scope limit
      ++ exp_parts scope step
      ++ for_declarations hidden line (name ∷ [])
      ++ block_parts (with_variables hidden (plain_variable name ∷ [])) true block
  stat_parts scope (GenFor line names values block) =
      let hidden : Scope = loop_scope scope generic_hidden in
      exps_parts scope values
      ++ for_declarations hidden line names
      ++ block_parts (with_variables hidden (map plain_variable names)) true block
  stat_parts scope (Label line name) = []
  stat_parts scope (Goto line name) = []
  stat_parts scope (Break line) = []

  pub arms_parts : Scope → Arms → List Located
  arms_parts scope EndArms = []
  arms_parts scope (MoreArms test block arms) = exp_parts scope test ++ block_parts scope true block ++ arms_parts scope arms
