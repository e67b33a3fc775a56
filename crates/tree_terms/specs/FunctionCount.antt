-- How many functions are written in a piece of tree, those within others included.
use Rattle.std.specs.Prelude.{ℕ, ◌+◌}
use Rattle.tree_core.specs.Tree.{Block, Falls, Returns, Body, BodyOf, Stats, EndStats, MoreStats, Stat, Local, LocalFunction, Assign, CallStat, Do, While, Repeat, If, IfElse, NumFor, NumForStep, GenFor, Arms, EndArms, MoreArms, Exp, Function, Index, Call, Method, Unary, Binary, And, Or, Paren, Table, Exps, EndExps, MoreExps, Fields, EndFields, MoreFields, Field, Item, Keyed}

abbrev mutual
  pub functions : Exp → ℕ
  functions (Function line body) = functions_in_body body + 1
  functions (Index line object key) = functions object + functions key
  functions (Call line f es) = functions f + functions_in_exps es
  functions (Method line object name es) = functions object + functions_in_exps es
  functions (Unary line op e) = functions e
  functions (Binary line op e d) = functions e + functions d
  functions (And line e d) = functions e + functions d
  functions (Or line e d) = functions e + functions d
  functions (Paren line e) = functions e
  functions (Table line fs) = functions_in_fields fs
  functions _ = 0

  pub functions_in_exps : Exps → ℕ
  functions_in_exps EndExps = 0
  functions_in_exps (MoreExps e es) = functions e + functions_in_exps es

  pub functions_in_fields : Fields → ℕ
  functions_in_fields EndFields = 0
  functions_in_fields (MoreFields f fs) = functions_in_field f + functions_in_fields fs

  pub functions_in_field : Field → ℕ
  functions_in_field (Item e) = functions e
  functions_in_field (Keyed line e d) = functions e + functions d

  pub functions_in_stat : Stat → ℕ
  functions_in_stat (Local line names es) = functions_in_exps es
  functions_in_stat (LocalFunction line name body) = functions_in_body body + 1
  functions_in_stat (Assign line targets es) = functions_in_exps targets + functions_in_exps es
  functions_in_stat (CallStat line e) = functions e
  functions_in_stat (Do line block) = functions_in_block block
  functions_in_stat (While line e block) = functions e + functions_in_block block
  functions_in_stat (Repeat line block e) = functions_in_block block + functions e
  functions_in_stat (If line arms) = functions_in_arms arms
  functions_in_stat (IfElse line arms block) = functions_in_arms arms + functions_in_block block
  functions_in_stat (NumFor line name from limit block) = functions from + functions limit + functions_in_block block
  functions_in_stat (NumForStep line name from limit step block) = functions from + functions limit + functions step + functions_in_block block
  functions_in_stat (GenFor line names es block) = functions_in_exps es + functions_in_block block
  functions_in_stat _ = 0

  pub functions_in_arms : Arms → ℕ
  functions_in_arms EndArms = 0
  functions_in_arms (MoreArms e block arms) = functions e + functions_in_block block + functions_in_arms arms

  pub functions_in_stats : Stats → ℕ
  functions_in_stats EndStats = 0
  functions_in_stats (MoreStats s ss) = functions_in_stat s + functions_in_stats ss

  pub functions_in_block : Block → ℕ
  functions_in_block (Falls ss tokens line) = functions_in_stats ss
  functions_in_block (Returns ss es tokens line) = functions_in_stats ss + functions_in_exps es

  pub functions_in_body : Body → ℕ
  functions_in_body (BodyOf params vararg inner ups line) = functions_in_block inner
