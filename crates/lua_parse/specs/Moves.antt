-- The form of the grammar: what parts of a source give, and what may follow at a place within a production.
use Rattle.std.specs.Prelude.{ℕ, Bool, Option, List}
use Rattle.tree_core.specs.declared.name.Name.{Name}
use Rattle.tree_core.specs.declared.name.Declared.{Declared}
use Rattle.tree_core.specs.Tree.{Exp, Field, Stat, Block, Body}
use Rattle.token_cursor.specs.declared.level.Level.{Level}
use Rattle.token_cursor.specs.declared.word.Word.{Word}
use Rattle.token_cursor.specs.Words.{Lexeme}

-- What a part of the source gives when it was read.
pub data Piece : Type 0 where
  a_line : (line : ℕ) → Piece
  a_name : Name → Piece
  some_names : List Name → Piece
  some_params : List Name → (vararg : Bool) → Piece
  a_declared : Declared → Piece
  some_declared : List Declared → Piece
  an_exp : Exp → Piece
  maybe_exp : Option Exp → Piece
  some_exps : List Exp → Piece
  a_field : Field → Piece
  some_fields : List Field → Piece
  a_target : Exp → (own : List Name) → Piece
  an_arm : Exp → Block → Piece
  some_arms : List (Exp × Block) → Piece
  some_items : List Stat → (values : Option (List Exp)) → (line : ℕ) → Piece
  a_stat : Stat → Piece
  a_block : Block → Piece
  maybe_block : Option Block → Piece
  a_body : Body → Piece

-- A part of the source that has productions of its own. Some stand behind what was read before: lists that may go on, an expression that may go on
-- by an operator or a suffix, with the height of what was read, and the line of a first token.
pub data Part : Type 0 where
  chunk : Part
  word : Word → Part
  opener : Word → (height : ℕ) → Part
  name : Part
  chain : Level → Part
  behind : Level → (left : Exp) → (height : ℕ) → Part
  unary : Part
  simple : Part
  table : Part
  more_fields : List Field → (height : ℕ) → Part
  separated_field : Part
  field : Part
  keyed : Part
  item : Part
  prefix : Part
  primary : Part
  paren : Part
  suffixes : (left : Exp) → (height : ℕ) → Part
  suffix : (left : Exp) → (height : ℕ) → Part
  dotted : Word → (left : Exp) → (height : ℕ) → Part
  indexed : (left : Exp) → (height : ℕ) → Part
  method : (left : Exp) → (height : ℕ) → Part
  call : (left : Exp) → (height : ℕ) → Part
  method_arguments : Part
  arguments : Part
  listed : Part
  string_argument : Part
  explist : Part
  more_exps : List Exp → (height : ℕ) → Part
  body : (line : ℕ) → (own : List Name) → Part
  params : (own : List Name) → Part
  more_params : List Name → Part
  block : Part
  items : List Stat → (height : ℕ) → Part
  returned : Part
  stat : Part
  label_stat : Part
  goto_stat : Part
  do_stat : Part
  while_stat : Part
  repeat_stat : Part
  if_stat : Part
  arms : Part
  more_arms : List (Exp × Block) → (height : ℕ) → Part
  arm : Part
  else_part : Part
  do_block : Part
  for_stat : Part
  numeric : (line : ℕ) → Name → Part
  step : Part
  generic : (line : ℕ) → Name → Part
  more_names : List Name → Part
  function_stat : Part
  function_name : Part
  path : (left : Exp) → (height : ℕ) → Part
  local_stat : Part
  local_function : (line : ℕ) → Part
  local_names : (line : ℕ) → Part
  more_declared : List Declared → Part
  declared : Part
  values : Part
  prefix_stat : Part
  assignment : (line : ℕ) → (first : Exp) → (height : ℕ) → Part
  more_targets : List Exp → (height : ℕ) → Part

-- What may follow at a place within a production.
pub data Move : Type 0 where
  -- the next token decides how it goes on
  pick : (Lexeme → Move) → Move
  -- the next token is passed
  pass : Move → Move
  -- the next token can't stand here
  refuse : Move
  -- a part, with so much room for levels; how it goes on may depend on what it gives, on its height and on the number of its tokens
  within : Part → (room : ℕ) → (Piece → ℕ → ℕ → Move) → Move
  -- nothing more is wanted
  gives : Piece → (height : ℕ) → Move
