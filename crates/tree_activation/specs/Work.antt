-- What one activation of a function is at a moment: what is done next, the work that waits for it, and the activation's variables
-- (Lua 5.4 manual, 3.3 and 3.4). A local variable is its number among the locals in scope, the hidden ones of a `for` included.
use Rattle.std.specs.Prelude.{ℕ, Bool, List, Option}
use Rattle.int_core.specs.Value.{Value}
use Rattle.int_core.specs.Ask.{Left, Captured}
use Rattle.tree_core.specs.declared.name.Name.{Name}
use Rattle.tree_core.specs.declared.name.Declared.{Declared}
use Rattle.tree_core.specs.declared.operator.UnOp.{UnOp}
use Rattle.tree_core.specs.declared.operator.BinOp.{BinOp}
use Rattle.tree_core.specs.Tree.{Block, Body, Stats, Arms, Exp, Exps, Fields}

-- blocks

-- how a block ends: it falls off its end, it returns, or, in a `repeat`, its test decides.
-- The line is that of the `return`, else of the token that ends the block
pub data End : Type 0 where
  falls_off : (line : ℕ) → End
  returns_list : (line : ℕ) → Exps → End
  until : (line : ℕ) → (test : Exp) → End

-- a label that was passed: how many locals were in scope there, and the statements behind it
pub record Passed : Type 0 where
  pub name : List ℕ
  pub level : ℕ
  pub behind : Stats

-- a place in a block: the statements to come, the block's end, how many locals are in scope around the block, and the labels that were
-- passed, the last one first
pub record Point : Type 0 where
  pub rest : Stats
  pub ending : End
  pub level : ℕ
  pub labels : List Passed

-- assignments

-- where a value is to be stored, once the table and the key are known
pub data Target : Type 0 where
  to_local : ℕ → Target
  to_upvalue : (line number : ℕ) → Target
  to_field : (line : ℕ) → (table key : Value) → Target

-- what the values of a list of expressions are for; of a call, the callee is the first value
pub data Purpose : Type 0 where
  for_call : (line : ℕ) → (last : Bool) → Purpose
  for_return : (line : ℕ) → Purpose
  for_declaration : (line : ℕ) → List Declared → Purpose
  for_assignment : List Target → Purpose
  for_counting : (line : ℕ) → Block → Purpose
  for_iterating : (line : ℕ) → List Name → Block → Purpose

-- what is done next. A list of values that is given is what an expression came to: most give one, calls and `...` any number
pub data Control : Type 0 where
  evaluate : Exp → Control
  give : List Value → Control
  collect : Purpose → (have : List Value) → Exps → Control
  construct : (line : ℕ) → (table : Value) → (items : ℕ) → Fields → Control
  aim : (aimed : List Target) → (targets values : Exps) → Control
  store : List (Target × Value) → Control
  choose : Arms → (otherwise : Option Block) → Control
  run : Point → Control
  -- a statement or a block is done
  complete : Control
  -- the test of a `repeat` is known, and the block's locals are out of scope
  decide : Bool → Control
  -- a further round of a numeric `for`; the test and a round of a generic one, with the values that its iterator gave
  count_round : Control
  test_round : List Value → Control
  enter_round : List Value → Control
  -- locals that have no cell get one
  capture : (line : ℕ) → List ℕ → Control → Control
  make : Body → Control
  mark : (line : ℕ) → (name : List ℕ) → (number : ℕ) → Control → Control
  pay : (line : ℕ) → Control → Control
  -- the locals from a level on go out of scope, and those to be closed are closed, with an error or nil
  leave_scope : (level line : ℕ) → (error : Value) → Control → Control
  raise : (line : ℕ) → (text : List ℕ) → Control
  finish : (line : ℕ) → Left → Control
  over : Control

-- what waits for an expression's values, or for a statement or a block to be done
pub data Work : Type 0 where
  key_of : (line : ℕ) → (key : Exp) → Work
  object_of : (line : ℕ) → (object : Value) → Work
  field_of : (line : ℕ) → (key : Value) → Work
  operand_of : (line : ℕ) → UnOp → Work
  right_of : (line : ℕ) → BinOp → (right : Exp) → Work
  left_of : (line : ℕ) → BinOp → (left : Value) → Work
  and_right : (right : Exp) → Work
  or_right : (right : Exp) → Work
  first_only : Work
  callee_of : (line : ℕ) → (last : Bool) → Exps → Work
  method_of : (line : ℕ) → (last : Bool) → (name : List ℕ) → Exps → Work
  listed : Purpose → (have : List Value) → Exps → Work
  item_of : (line : ℕ) → (table : Value) → (items : ℕ) → Fields → Work
  keyed_value : (line : ℕ) → (table : Value) → (items : ℕ) → (field_line : ℕ) → (value : Exp) → Fields → Work
  keyed_store : (line : ℕ) → (table : Value) → (items : ℕ) → (field_line : ℕ) → (key : Value) → Fields → Work
  aimed_key : (line : ℕ) → (key : Exp) → (aimed : List Target) → (targets values : Exps) → Work
  aimed_field : (line : ℕ) → (table : Value) → (aimed : List Target) → (targets values : Exps) → Work
  function_to : (number : ℕ) → Work
  dropped : Work
  if_test : Block → (more : Arms) → (otherwise : Option Block) → Work
  while_test : (line : ℕ) → (test : Exp) → Block → Work
  until_test : (line level : ℕ) → Work
  -- `here` is how many locals were in scope before the statement that is under way
  in_block : (here : ℕ) → Point → Work
  looping : (line : ℕ) → (test : Exp) → Block → (level : ℕ) → Work
  repeating : (line : ℕ) → (test : Exp) → Block → (level : ℕ) → Work
  counting : (line : ℕ) → Block → (level : ℕ) → Work
  iterating : (line : ℕ) → List Name → Block → (level : ℕ) → Work
  end_of_body : (line : ℕ) → Work

-- when a local variable gets its cell: as its declaration is reached, or before the first function that captures it is made
pub data Celling : Type 0 where
  when_declared : Celling
  when_captured : Celling

-- a local to be closed that is in scope. One that was nil or false as it was declared needs no closing; it never changes
pub record Pending : Type 0 where
  pub number : ℕ
  pub needed : Bool

-- `pending` are the locals to be closed that are in scope, the last one last
pub record Activation : Type 0 where
  pub celling : Celling
  pub locals : List Value
  pub varargs : List Value
  pub pending : List Pending
  pub captured : Captured

-- what is done next, the activation's variables, and the work that waits, the nearest first
pub data State : Type 0 where
  at : Control → Activation → List Work → State
