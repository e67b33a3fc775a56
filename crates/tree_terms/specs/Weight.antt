-- What a tree weighs: one for each name, literal, operator and keyword that it is written with, and for most brackets; commas weigh nothing. So no
-- source of the tree has fewer tokens (Lua 5.4 manual, 9).
use Rattle.std.specs.Prelude.{ℕ, ◌+◌, length}
use Rattle.tree_core.specs.Tree.{Block, Falls, Returns, Body, BodyOf, Stats, EndStats, MoreStats, Stat, Empty, Local, LocalFunction, Assign, CallStat, Do, While, Repeat, If, IfElse, NumFor, NumForStep, GenFor, Label, Goto, Break, Arms, EndArms, MoreArms, Exp, Nil, True, False, Int, Str, Vararg, Var, Function, Index, Call, Method, Unary, Binary, And, Or, Paren, Table, Exps, EndExps, MoreExps, Fields, EndFields, MoreFields, Field, Item, Keyed}

abbrev mutual
  pub weight : Exp → ℕ
  weight (Nil line) = 1
  weight (True line) = 1
  weight (False line) = 1
  weight (Int line n) = 1
  weight (Str line bytes) = 1
  weight (Vararg line) = 1
  weight (Function line body) = weight_of_body body
  weight (Var line name) = 1
  weight (Index line object key) = weight object + weight key + 1
  weight (Call line f es) = weight f + weight_of_arguments es
  weight (Method line object name es) = weight object + weight_of_arguments es + 2
  weight (Unary line op e) = weight e + 1
  weight (Binary line op e d) = weight e + weight d + 1
  weight (And line e d) = weight e + weight d + 1
  weight (Or line e d) = weight e + weight d + 1
  weight (Paren line e) = weight e + 2
  weight (Table line fs) = weight_of_fields fs + 2

  -- a lone string or table needs no brackets
  pub weight_of_arguments : Exps → ℕ
  weight_of_arguments EndExps = 2
  weight_of_arguments (MoreExps e es) = weight e + weight_of_exps es

  pub weight_of_exps : Exps → ℕ
  weight_of_exps EndExps = 0
  weight_of_exps (MoreExps e es) = weight e + weight_of_exps es

  pub weight_of_fields : Fields → ℕ
  weight_of_fields EndFields = 0
  weight_of_fields (MoreFields f fs) = weight_of_field f + weight_of_fields fs

  pub weight_of_field : Field → ℕ
  weight_of_field (Item e) = weight e
  weight_of_field (Keyed line e d) = weight e + weight d + 1

  pub weight_of_stat : Stat → ℕ
  weight_of_stat (Empty line) = 1
  weight_of_stat (Local line names es) = length names + weight_of_exps es + 1
  weight_of_stat (LocalFunction line name body) = weight_of_body body + 3
  weight_of_stat (Assign line targets es) = weight_of_exps targets + weight_of_exps es + 1
  weight_of_stat (CallStat line e) = weight e
  weight_of_stat (Do line block) = weight_of_block block + 2
  weight_of_stat (While line e block) = weight e + weight_of_block block + 3
  weight_of_stat (Repeat line block e) = weight_of_block block + weight e + 2
  weight_of_stat (If line arms) = weight_of_arms arms + 2
  weight_of_stat (IfElse line arms block) = weight_of_arms arms + weight_of_block block + 3
  weight_of_stat (NumFor line name from limit block) = weight from + weight limit + weight_of_block block + 6
  weight_of_stat (NumForStep line name from limit step block) = weight from + weight limit + weight step + weight_of_block block + 7
  weight_of_stat (GenFor line names es block) = length names + weight_of_exps es + weight_of_block block + 4
  weight_of_stat (Label line name) = 3
  weight_of_stat (Goto line name) = 2
  weight_of_stat (Break line) = 1

  pub weight_of_arms : Arms → ℕ
  weight_of_arms EndArms = 0
  weight_of_arms (MoreArms e block arms) = weight e + weight_of_block block + weight_of_arms arms + 1

  pub weight_of_stats : Stats → ℕ
  weight_of_stats EndStats = 0
  weight_of_stats (MoreStats s ss) = weight_of_stat s + weight_of_stats ss

  pub weight_of_block : Block → ℕ
  weight_of_block (Falls ss tokens line) = weight_of_stats ss
  weight_of_block (Returns ss es tokens line) = weight_of_stats ss + weight_of_exps es + 1

  -- its brackets and its `end`. The keyword weighs nothing, since a statement that defines a function is an assignment here, and weighs its `=`; nor
  -- do parameters, since `self` may stand nowhere
  pub weight_of_body : Body → ℕ
  weight_of_body (BodyOf params vararg inner ups line) = weight_of_block inner + 3
