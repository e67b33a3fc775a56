-- What private functions do while they go through a placed tree from front to back: the least violation that was met by then.
use Rattle.std.specs.Prelude.{ℕ, Bool, true, false, not, nat_lt, List, [], ◌∷◌, map, length, Option}
use Rattle.tree_core.specs.declared.name.Name.{Name}
use Rattle.tree_core.specs.declared.name.Declared.{Declared}
use Rattle.tree_core.specs.Tree.{Block, Falls, Returns, Body, BodyOf, Stats, EndStats, MoreStats, Stat, Empty, Local, LocalFunction, Assign, CallStat, Do, While, Repeat, If, IfElse, NumFor, NumForStep, GenFor, Label, Goto, Break, Arms, EndArms, MoreArms, Exps, EndExps, MoreExps, Exp, Nil, True, False, Int, Str, Vararg, Function, Var, Index, Call, Method, Unary, Binary, And, Or, Paren, Table, Fields, EndFields, MoreFields, Field, Item, Keyed}
use Rattle.scope_core.specs.declared.violation.Violation.{Violation}
use Rattle.scope_core.specs.declared.variable.Variable.{Variable}
use Rattle.scope_core.specs.Scopes.{Scope, Frame, declare, declare_all, declared_by, declared_variable, plain_variable, numeric_hidden, generic_hidden}
use Rattle.scope_core.specs.Parts.{Statement, with_variables, with_block, in_loop_of, scope_behind, loop_scope}
use Rattle.scope_core.specs.Walked.{entered}
use Rattle.scope_core.specs.Rules.{breach, locals, held_violations, part_violations}
use Rattle.scope_core.specs.Held.{held, held_behind}
use Rattle.scope_core.specs.Least.{meet}

abbrev pub meet_all : Option Violation → List Violation → Option Violation
meet_all least [] = least
meet_all least (violation ∷ more) = meet_all (meet least violation) more

-- after a declaration on a line
abbrev pub met_declared : List Frame → Option Violation → ℕ → Option Violation
met_declared frames least line = meet_all least (breach (nat_lt 200 (locals frames)) line 9)

abbrev pub met_names : List Frame → Option Violation → List Name → Option Violation
met_names frames least [] = least
met_names frames least (name ∷ names) =
    let frames' : List Frame = declare frames (plain_variable name) in
    met_names frames' (met_declared frames' least name.line) names

abbrev pub met_declarations : List Frame → Option Violation → List Declared → Option Violation
met_declarations frames least [] = least
met_declarations frames least (declared ∷ names) =
    let frames' : List Frame = declare frames (declared_variable declared) in
    met_declarations frames' (met_declared frames' least declared.name.line) names

-- the scope of a function's parameters
abbrev pub function_scope : List Frame → Bool → Scope
function_scope frames vararg = record { frames = frames; blocks = []; in_loop = false; is_vararg = vararg }

abbrev mutual
  pub met_exp : List Frame → Bool → Option Violation → Exp → Option Violation
  met_exp frames vararg least (Nil line) = least
  met_exp frames vararg least (True line) = least
  met_exp frames vararg least (False line) = least
  met_exp frames vararg least (Int line value) = least
  met_exp frames vararg least (Str line bytes) = least
  met_exp frames vararg least (Vararg line) = meet_all least (breach (not vararg) line 8)
  met_exp frames vararg least (Function line body) = met_body frames least body
  met_exp frames vararg least (Var line name) = least
  met_exp frames vararg least (Index line indexed key) = met_exp frames vararg (met_exp frames vararg least indexed) key
  met_exp frames vararg least (Call line called arguments) = met_exps frames vararg (met_exp frames vararg least called) arguments
  met_exp frames vararg least (Method line object name arguments) = met_exps frames vararg (met_exp frames vararg least object) arguments
  met_exp frames vararg least (Unary line operator operand) = met_exp frames vararg least operand
  met_exp frames vararg least (Binary line operator left right) = met_exp frames vararg (met_exp frames vararg least left) right
  met_exp frames vararg least (And line left right) = met_exp frames vararg (met_exp frames vararg least left) right
  met_exp frames vararg least (Or line left right) = met_exp frames vararg (met_exp frames vararg least left) right
  met_exp frames vararg least (Paren line inner) = met_exp frames vararg least inner
  met_exp frames vararg least (Table line fields) = met_fields frames vararg least fields

  pub met_exps : List Frame → Bool → Option Violation → Exps → Option Violation
  met_exps frames vararg least EndExps = least
  met_exps frames vararg least (MoreExps exp exps) = met_exps frames vararg (met_exp frames vararg least exp) exps

  pub met_fields : List Frame → Bool → Option Violation → Fields → Option Violation
  met_fields frames vararg least EndFields = least
  met_fields frames vararg least (MoreFields field fields) = met_fields frames vararg (met_field frames vararg least field) fields

  pub met_field : List Frame → Bool → Option Violation → Field → Option Violation
  met_field frames vararg least (Item value) = met_exp frames vararg least value
  met_field frames vararg least (Keyed line key value) = met_exp frames vararg (met_exp frames vararg least key) value

  pub met_body : List Frame → Option Violation → Body → Option Violation
  met_body frames least (BodyOf params vararg inner upvalues line) =
      met_block (function_scope (declare_all (entered frames) (map plain_variable params)) vararg) true
      (met_names (entered frames) (meet_all least (breach (nat_lt 255 (length upvalues)) line 10)) params) inner

  pub met_stats : Scope → List Stat → Bool → Option Violation → Stats → Option Violation
  met_stats scope before ends_scope least EndStats = least
  met_stats scope before ends_scope least (MoreStats stat stats) =
      let here : Scope = with_block scope (record { before = before; behind = stats; ends_scope = ends_scope }) in
      met_stats (with_variables scope (declared_by stat)) (stat ∷ before) ends_scope
      (met_stat here (meet_all least (part_violations here (Statement stat))) stat) stats

  pub met_block : Scope → Bool → Option Violation → Block → Option Violation
  met_block scope ends_scope least (Falls stats tokens line) = met_stats scope [] ends_scope least stats
  met_block scope ends_scope least (Returns stats values tokens line) =
      let last : Scope = scope_behind scope (Falls stats tokens line) in
      met_exps last.frames last.is_vararg
      (meet_all (met_stats scope [] false least stats) (held_violations last line (held_behind 0 values))) values

  pub met_stat : Scope → Option Violation → Stat → Option Violation
  met_stat scope least (Empty line) = least
  met_stat scope least (Local line names values) =
      met_declarations scope.frames (met_exps scope.frames scope.is_vararg least values) names
  met_stat scope least (LocalFunction line name body) =
      let frames : List Frame = declare scope.frames (plain_variable name) in
      met_body frames (met_declared frames least name.line) body
  met_stat scope least (Assign line targets values) =
      met_exps scope.frames scope.is_vararg (met_exps scope.frames scope.is_vararg least targets) values
  met_stat scope least (CallStat line call) = met_exp scope.frames scope.is_vararg least call
  met_stat scope least (Do line block) = met_block scope true least block
  met_stat scope least (While line test block) =
      met_block (in_loop_of scope) true (met_exp scope.frames scope.is_vararg least test) block
  met_stat scope least (Repeat line block test) =
      let behind : Scope = scope_behind scope block in
      met_exp behind.frames behind.is_vararg
      (meet_all (met_block (in_loop_of scope) false least block) (held_violations behind line (held test))) test
  met_stat scope least (If line arms) = met_arms scope least arms
  met_stat scope least (IfElse line arms otherwise) = met_block scope true (met_arms scope least arms) otherwise
  met_stat scope least (NumFor line name first limit block) =
      let within : Scope = loop_scope scope numeric_hidden in
      met_block (with_variables within (map plain_variable (name ∷ []))) true
      (met_names within.frames (met_declared within.frames (met_exp scope.frames scope.is_vararg (met_exp scope.frames scope.is_vararg least first) limit) line) (name ∷ [])) block
  met_stat scope least (NumForStep line name first limit step block) =
      let within : Scope = loop_scope scope numeric_hidden in
      met_block (with_variables within (map plain_variable (name ∷ []))) true
      (met_names within.frames (met_declared within.frames (met_exp scope.frames scope.is_vararg (met_exp scope.frames scope.is_vararg (met_exp scope.frames scope.is_vararg least first) limit) step) line) (name ∷ [])) block
  met_stat scope least (GenFor line names values block) =
      let within : Scope = loop_scope scope generic_hidden in
      met_block (with_variables within (map plain_variable names)) true
      (met_names within.frames (met_declared within.frames (met_exps scope.frames scope.is_vararg least values) line) names) block
  met_stat scope least (Label line name) = least
  met_stat scope least (Goto line name) = least
  met_stat scope least (Break line) = least

  pub met_arms : Scope → Option Violation → Arms → Option Violation
  met_arms scope least EndArms = least
  met_arms scope least (MoreArms test block arms) =
      met_arms scope (met_block scope true (met_exp scope.frames scope.is_vararg least test) block) arms

-- a test and its block
abbrev pub met_arm : Scope → Option Violation → Exp × Block → Option Violation
met_arm scope least arm = met_block scope true (met_exp scope.frames scope.is_vararg least arm.0) arm.1

-- a `for` behind its values
abbrev pub met_for : Scope → List Variable → ℕ → List Name → Option Violation → Block → Option Violation
met_for scope hidden line names least block =
    let within : Scope = loop_scope scope hidden in
    met_block (with_variables within (map plain_variable names)) true
    (met_names within.frames (met_declared within.frames least line) names) block
